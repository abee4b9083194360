use Rattle.std.proofs.Common.{take}
use Rattle.clerks.specs.Clerks.{Run}
use Rattle.clerks.specs.Asked.{answered}
use Rattle.clerks.proofs.run.carry_out_all.Given as goal

abbrev pub invariant-loop-i : goal.invariant-loop-i
invariant-loop-i g l = Run g.F.Arithmetic.figures (record { header = l.initial.header; index = l.initial.index; figures = l.initial.figures }) (answered (take l.i l.calls) (take l.i l.answers)) (record { header = l.header; index = l.index; figures = l.figures })
