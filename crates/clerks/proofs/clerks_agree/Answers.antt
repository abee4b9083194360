use Rattle.std.proofs.Math.Bool.{not-not}
use Rattle.clerks.specs.Pedigree.{TurnsBack}
use Rattle.clerks.proofs.Agreeing.{two_clerks}
use Rattle.clerks.proofs.clerks_agree.Goals as goal

turns_back : {F : Type 0} → TurnsBack F
turns_back l = let e = not-not l.turned in λ i. record { list = l.list; turned = e i }

pub returns : goal.returns
returns g c = record { agree = two_clerks g.F.Arithmetic.figures; turned = turns_back }
