use Rattle.book.proofs.Outcomes.{outcome_is_single_lem}
use Rattle.book.proofs.single.outcome_is_single.Goals as goal

pub returns : goal.returns
returns g c = outcome_is_single_lem g.F.Arithmetic.figures
