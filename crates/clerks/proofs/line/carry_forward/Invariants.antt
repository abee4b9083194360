use Rattle.clerks.specs.Carrying.{CarriedForward}
use Rattle.clerks.proofs.line.carry_forward.Given as goal

abbrev pub invariant-loop-sheet : goal.invariant-loop-sheet
invariant-loop-sheet g l = CarriedForward g.F.Arithmetic.figures (record { header = l.header; index = l.index; figures = l.figures }) l.yielded l.y l.out
