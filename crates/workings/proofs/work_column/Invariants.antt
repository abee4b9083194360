use Rattle.std.proofs.Common.{◌≡◌, ◌+◌, length, get_or}
use Rattle.arithmetic.specs.Semiring.{meanings}
use Rattle.matrix.specs.Vectors.{column_worked, figure_at}
use Rattle.sheet.specs.Packed.{table}
use Rattle.sheet.proofs.Found.{rest}
use Rattle.workings.proofs.work_column.Given as goal

abbrev pub invariant-loop-column : goal.invariant-loop-column
invariant-loop-column g l =
    let a = g.F.Arithmetic.figures in
    let fs = meanings a l.sheet.figures.now in
    let v = figure_at a.ring (meanings a l.x) in
    a.ring.add (a.meaning l.total) (rest a.ring l.sheet.order l.sheet.words.now fs v l.i (get_or l.sheet.words.now l.i 0 + length l.yielded)) ≡ column_worked a.ring l.sheet.order (table a.ring l.sheet.words.now fs) v l.i
