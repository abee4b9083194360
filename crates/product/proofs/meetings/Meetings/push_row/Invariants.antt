use Rattle.std.proofs.Common.{◌≡◌, ◌+◌, ◌-◌, get_or}
use Rattle.product.specs.Meetings.{pushed}
use Rattle.product.proofs.meetings.Meetings.push_row.Given as goal

abbrev pub invariant-loop-q : goal.invariant-loop-q
invariant-loop-q g l =
    let words = l.pair.second.words.now in
    let end = get_or words (l.k + 1) 0 in
    (pushed words l.left l.q (end - l.q) l.self ≡ pushed words l.left (get_or words l.k 0) (end - get_or words l.k 0) l.initial.self)
    × (l.self.count + (end - l.q) ≡ l.initial.self.count + (end - get_or words l.k 0))
