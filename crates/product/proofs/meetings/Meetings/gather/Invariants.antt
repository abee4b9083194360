use Rattle.std.proofs.Common.{◌≡◌, ◌≤◌}
use Rattle.arithmetic.specs.Semiring.{meanings}
use Rattle.product.specs.Meetings.{list_sum}
use Rattle.product.proofs.meetings.Meetings.gather.Given as goal

abbrev pub invariant-loop-m : goal.invariant-loop-m
invariant-loop-m g l =
    let a = g.F.Arithmetic.figures in
    let fs = meanings a l.pair.first.figures.now in
    let gs = meanings a l.pair.second.figures.now in
    (l.m ≤ l.self.count) × (a.ring.add (a.meaning l.total) (list_sum a.ring fs gs l.self l.m) ≡ list_sum a.ring fs gs l.self l.start)

abbrev pub decreases-loop-m : goal.decreases-loop-m
decreases-loop-m g l = l.m
