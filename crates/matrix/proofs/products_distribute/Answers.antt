use Rattle.matrix.proofs.Tables.{product_added, added_product}
use Rattle.matrix.proofs.products_distribute.Goals as goal

pub returns : goal.returns
returns g c = λ n x y z. (λ i j low low'. product_added g.F.Arithmetic.figures.ring n x y z i j, λ i j low low'. added_product g.F.Arithmetic.figures.ring n x y z i j)
