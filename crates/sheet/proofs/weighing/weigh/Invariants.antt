use Rattle.std.proofs.Common.{◌≡◌, length}
use Rattle.arithmetic.specs.Semiring.{meanings}
use Rattle.matrix.specs.Vectors.{dot, figure_at}
use Rattle.sheet.proofs.weighing.weigh.Given as goal

abbrev pub invariant-loop-x : goal.invariant-loop-x
invariant-loop-x g l =
    let a = g.F.Arithmetic.figures in
    a.meaning l.total ≡ dot a.ring (length l.yielded) (figure_at a.ring (meanings a l.first)) (figure_at a.ring (meanings a l.second))
