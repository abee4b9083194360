use Rattle.std.proofs.Common.{ap, ◌∙◌}
use Rattle.arithmetic.specs.Waits.{written}
use Rattle.arithmetic.proofs.Shown.{written_days, written_never}
use Rattle.arithmetic.proofs.wait.WaitDisplay.fmt.Goals as goal

pub returns-in-Some-clause-writes : goal.returns-in-Some-clause-writes
returns-in-Some-clause-writes g c = λ plain ok.
    let e = ap written c.in-Some.ensures.1 ∙ written_days c.in-Some.n c.in-Some.ensures.0 in
    rw e (c.write.ensures.writes plain ok)

pub returns-in-None-clause-writes : goal.returns-in-None-clause-writes
returns-in-None-clause-writes g c = λ plain ok.
    let e = ap written c.in-None.ensures ∙ written_never in
    rw e (c.write-in-None.ensures.writes plain ok)
