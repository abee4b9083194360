use Rattle.matrix.proofs.Tables.{unit_product, product_unit}
use Rattle.matrix.proofs.unit_table_is_neutral.Goals as goal

pub returns : goal.returns
returns g c = λ n x. (λ i j low low'. unit_product g.F.Arithmetic.figures.ring n x i j low, λ i j low low'. product_unit g.F.Arithmetic.figures.ring n x i j low')
