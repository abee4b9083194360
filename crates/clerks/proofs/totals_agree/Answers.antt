use Rattle.clerks.proofs.Carrying.{one_totals}
use Rattle.clerks.proofs.totals_agree.Goals as goal

pub returns : goal.returns
returns g c = one_totals g.F.Arithmetic.figures
