use Rattle.matrix.proofs.Bags.{bag_same}
use Rattle.matrix.proofs.bags_total.Goals as goal

pub returns : goal.returns
returns g c = λ n ts us same i j low low'. bag_same g.F.Arithmetic.figures.ring same i j
