use Rattle.std.proofs.Common.{◌≡◌, ℕ, ◌<◌}
use Rattle.arithmetic.specs.Semiring.{meanings}
use Rattle.matrix.specs.Vectors.{figure_at}
use Rattle.workings.proofs.work_diagonal.Given as goal

abbrev pub invariant-loop-j : goal.invariant-loop-j
invariant-loop-j g l =
    let a = g.F.Arithmetic.figures in
    (k : ℕ) → k < l.j → figure_at a.ring (meanings a l.out) k ≡ a.ring.mul (figure_at a.ring (meanings a l.y) k) (figure_at a.ring (meanings a l.sheet.figures.now) k)
