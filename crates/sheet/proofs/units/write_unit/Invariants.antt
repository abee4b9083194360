use Rattle.std.proofs.Common.{◌+◌}
use Rattle.matrix.specs.Tables.{unit_table}
use Rattle.sheet.proofs.Laying.{Laying}
use Rattle.sheet.proofs.units.write_unit.Given as goal

abbrev pub invariant-loop-row : goal.invariant-loop-row
invariant-loop-row g l =
    let a = g.F.Arithmetic.figures in
    Laying a l.order (unit_table a.ring) l.fn.index l.fn.figures l.row 0 l.index l.figures (l.order + 1)
