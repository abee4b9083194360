use Rattle.matrix.proofs.Tables.{mul-sum, sum-mul}
use Rattle.matrix.proofs.sums_distribute.Goals as goal

pub returns : goal.returns
returns g c = λ n k f. (mul-sum g.F.Arithmetic.figures.ring n k f, sum-mul g.F.Arithmetic.figures.ring n f k)
