use Rattle.std.proofs.Common.{◌≤◌}
use Rattle.script.specs.Left.{left}
use Rattle.script.proofs.lines.Lines.read_up_to_end.Given as goal

abbrev pub invariant-loop-given : goal.invariant-loop-given
invariant-loop-given g l = left l.self ≤ left l.initial.self

abbrev pub decreases-loop-given : goal.decreases-loop-given
decreases-loop-given g l = left l.self
