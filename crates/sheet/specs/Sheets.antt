-- Sheets and pairs of sheets as values of a program.
use Rattle.arithmetic.specs.Semiring.{meanings}
use Rattle.arithmetic.specs.declared.Arithmetic.{Ghosts}
use Rattle.matrix.specs.Tables.{Table}
use Rattle.sheet.specs.Packed.{table}
use Rattle.sheet.specs.declared.sound.Sheet.{Sheet}

-- the table of a sheet
abbrev pub table_of : {S : Type 0} {g : Ghosts S} → Sheet S g → Table g.figures.F
table_of {g = g} sheet = table g.figures.ring sheet.words.now (meanings g.figures sheet.figures.now)
