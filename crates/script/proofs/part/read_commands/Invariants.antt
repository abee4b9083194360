use Rattle.std.proofs.Common.{◌≤◌}
use Rattle.script.specs.Left.{left}
use Rattle.script.proofs.part.read_commands.Given as goal

abbrev pub invariant-loop-commands : goal.invariant-loop-commands
invariant-loop-commands g l = left l.lines ≤ left l.initial.lines

abbrev pub decreases-loop-commands : goal.decreases-loop-commands
decreases-loop-commands g l = left l.lines
