use Rattle.matrix.proofs.Tables.{product_assoc}
use Rattle.matrix.proofs.products_associate.Goals as goal

pub returns : goal.returns
returns g c = λ n x y z i j low low'. product_assoc g.F.Arithmetic.figures.ring n x y z i j
