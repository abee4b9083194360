use Rattle.matrix.proofs.Tables.{sum_swap}
use Rattle.matrix.proofs.sums_swap.Goals as goal

pub returns : goal.returns
returns g c = sum_swap g.F.Arithmetic.figures.ring
