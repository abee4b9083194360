use Rattle.matrix.proofs.Vectors.{one_total_lem}
use Rattle.matrix.proofs.one_total.Goals as goal

pub returns : goal.returns
returns g c = one_total_lem g.F.Arithmetic.figures.ring
