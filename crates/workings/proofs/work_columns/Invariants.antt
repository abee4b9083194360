use Rattle.std.proofs.Common.{◌≡◌, ℕ, ◌<◌}
use Rattle.arithmetic.specs.Semiring.{meanings}
use Rattle.matrix.specs.Vectors.{column_worked, figure_at}
use Rattle.sheet.specs.Packed.{table}
use Rattle.workings.proofs.work_columns.Given as goal

abbrev pub invariant-loop-i : goal.invariant-loop-i
invariant-loop-i g l =
    let a = g.F.Arithmetic.figures in
    (k : ℕ) → k < l.i → figure_at a.ring (meanings a l.out) k ≡ column_worked a.ring l.sheet.order (table a.ring l.sheet.words.now (meanings a l.sheet.figures.now)) (figure_at a.ring (meanings a l.x)) k
