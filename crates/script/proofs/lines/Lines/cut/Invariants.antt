use Rattle.std.proofs.Common.{◌≡◌, ◌≤◌}
use Rattle.script.specs.Left.{left}
use Rattle.script.proofs.lines.Lines.cut.Given as goal

abbrev pub invariant-loop-words : goal.invariant-loop-words
invariant-loop-words l = (left l.self ≤ left l.initial.self) × (l.self.ahead ≡ l.initial.self.ahead)

abbrev pub decreases-loop-words : goal.decreases-loop-words
decreases-loop-words l = left l.self
