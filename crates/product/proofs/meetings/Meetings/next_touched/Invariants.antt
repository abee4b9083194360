use Rattle.std.proofs.Common.{ℕ, ◌*◌, ◌<◌, ◌≤◌}
use Rattle.product.specs.Meetings.{Absent}
use Rattle.product.proofs.meetings.Meetings.next_touched.Given as goal

abbrev pub invariant-loop-group : goal.invariant-loop-group
invariant-loop-group l = (j : ℕ) → l.from ≤ j → j < l.group * 64 → Absent l.self.touched j
