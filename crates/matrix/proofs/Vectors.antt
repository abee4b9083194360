-- Vectors and tables, weighed from either side.
use Rattle.std.proofs.Common.{sym, ◌∙◌}
use Rattle.arithmetic.specs.Semiring.{Semiring}
use Rattle.matrix.specs.Laws.{OneTotal}
use Rattle.matrix.proofs.Sums.{sum_same}
use Rattle.matrix.proofs.Tables.{mul-sum, sum-mul, sum_swap}

module _ {F : Type 0} (s : Semiring F) where
  pub one_total_lem : OneTotal s
  one_total_lem n y t x = (
    sum_same s n _ _ (λ i h. mul-sum s n (y i) (λ j. s.mul (t i j) (x j)) ∙ sum_same s n _ _ (λ j h'. sym (s.mul_assoc (y i) (t i j) (x j)))),
    sum_same s n _ _ (λ j h. sum-mul s n (λ i. s.mul (y i) (t i j)) (x j)) ∙ sum_swap s n n (λ j i. s.mul (s.mul (y i) (t i j)) (x j)),
  )
