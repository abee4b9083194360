use Rattle.script.specs.Left.{left}
use Rattle.script.proofs.part.read.Given as goal

abbrev pub decreases-loop-parts : goal.decreases-loop-parts
decreases-loop-parts l = left l.lines
