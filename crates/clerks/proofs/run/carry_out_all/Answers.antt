use Rattle.std.proofs.Common.{arith}
use Rattle.clerks.specs.Clerks.{done}
use Rattle.clerks.proofs.Asks.{run_next}
use Rattle.clerks.proofs.run.carry_out_all.Goals as goal

pub loop-i-init : goal.loop-i-init
loop-i-init g c = done

pub loop-i-preserved : goal.loop-i-preserved
loop-i-preserved g c = run_next g.F.Arithmetic.figures _ _ _ _ _ _ _ _ c.loop-i-test.true (omega arith) c.index-calls-i.is c.loop-i.invariant c.carry_out.ensures
