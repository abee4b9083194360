use Rattle.std.proofs.Common.{ℕ, ◌<◌, slice_index}
use Rattle.arithmetic.specs.Semiring.{meanings}
use Rattle.sheet.specs.Packed.{Rule}
use Rattle.sheet.proofs.Rows.{Walk}
use Rattle.sheet.proofs.check.check_sheet.Given as goal

abbrev pub invariant-loop-p : goal.invariant-loop-p
invariant-loop-p g l =
    let a = g.F.Arithmetic.figures in
    (j : ℕ) → j < l.p → Rule a.ring l.order l.words (meanings a l.figures) j

abbrev pub invariant-loop-row : goal.invariant-loop-row
invariant-loop-row g l = let a = g.F.Arithmetic.figures in Walk a.ring l.order l.words (meanings a l.figures) (slice_index l.words l.row) l.row

abbrev pub invariant-loop-p-2 : goal.invariant-loop-p-2
invariant-loop-p-2 g l = let a = g.F.Arithmetic.figures in Walk a.ring l.order l.words (meanings a l.figures) l.p l.row
