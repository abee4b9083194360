use Rattle.std.proofs.Common.{◌≡◌, ℕ, ◌+◌, ◌<◌, length, get_or}
use Rattle.transpose.specs.Flipping.{hits}
use Rattle.transpose.proofs.count_columns.Given as goal

abbrev pub invariant-loop-column : goal.invariant-loop-column
invariant-loop-column g l = (length l.counts ≡ 1024) × ((c : ℕ) → c < 1024 → get_or l.counts c 0 ≡ hits l.sheet.words.now c (l.sheet.order + 1) l.column-index)
