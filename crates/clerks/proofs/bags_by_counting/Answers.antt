use Rattle.clerks.proofs.Counting.{bags_by_counting_lem, chains_told}
use Rattle.clerks.proofs.bags_by_counting.Goals as goal

pub returns : goal.returns
returns g c = record { counts = bags_by_counting_lem g.F.Arithmetic.figures; told = chains_told g.F.Arithmetic.figures }
