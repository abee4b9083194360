use Rattle.std.proofs.Common.{◌≡◌, ◌-◌, ◌≤◌}
use Rattle.product.proofs.Resting.{Rest, stored_before}
use Rattle.product.proofs.multiplying.row_size.Given as goal

abbrev pub invariant-loop-cell : goal.invariant-loop-cell
invariant-loop-cell g l = Rest l.pair l.i l.meetings × (l.size ≡ stored_before l.pair l.i l.meetings.from) × (l.size ≤ l.meetings.from)

abbrev pub decreases-loop-cell : goal.decreases-loop-cell
decreases-loop-cell g l = l.pair.first.order - l.meetings.from
