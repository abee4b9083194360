use Rattle.std.proofs.Common.{reverse}
use Rattle.clerks.specs.Carrying.{CarriedBack}
use Rattle.clerks.proofs.line.carry_back.Given as goal

abbrev pub invariant-loop-sheet : goal.invariant-loop-sheet
invariant-loop-sheet g l = CarriedBack g.F.Arithmetic.figures (record { header = l.header; index = l.index; figures = l.figures }) (reverse l.yielded) l.x l.out
