use Rattle.matrix.proofs.Sums.{sum_split}
use Rattle.matrix.proofs.sums_split.Goals as goal

pub returns : goal.returns
returns g c = sum_split g.F.Arithmetic.figures.ring
