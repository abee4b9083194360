use Rattle.std.proofs.Common.{ℕ, ◌<◌, ◌≤◌, length, get_or}
use Rattle.book.proofs.Starts.{Lies, SheetsKeep}
use Rattle.book.proofs.check.check_book.Given as goal

abbrev pub invariant-loop-k : goal.invariant-loop-k
invariant-loop-k g l =
    let a = g.F.Arithmetic.figures in
    (get_or l.header.words.now 1 0 ≤ 16) × ((j : ℕ) → j < get_or l.header.words.now 1 0 → Lies l.header.words.now (length l.index) j)
    × SheetsKeep a (record { header = l.header.words.now; index = l.index; figures = l.figures }) l.k
