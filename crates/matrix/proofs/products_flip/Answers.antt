use Rattle.matrix.proofs.Tables.{product_flipped}
use Rattle.matrix.proofs.products_flip.Goals as goal

pub returns : goal.returns
returns g c = λ comm n x y i j low low'. product_flipped g.F.Arithmetic.figures.ring comm n x y i j
