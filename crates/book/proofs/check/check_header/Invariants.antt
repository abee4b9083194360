use Rattle.std.proofs.Common.{ℕ, ◌<◌, length}
use Rattle.book.specs.Book.{HeaderRule}
use Rattle.book.proofs.check.check_header.Given as goal

abbrev pub invariant-loop-w : goal.invariant-loop-w
invariant-loop-w g l = (w : ℕ) → w < l.w → HeaderRule l.header.words.now (length l.index) w
