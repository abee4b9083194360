-- Bags: lists whose order has no meaning.
use Rattle.std.specs.Prelude.{List, [], ◌∷◌}
use Rattle.arithmetic.specs.Semiring.{Semiring}
use Rattle.matrix.specs.Tables.{Table, zero_table, added}

-- two bags that hold every element equally often: one list is the other in another order
pub data SameBag {A : Type 0} : List A → List A → Type 0 where
  none : SameBag [] []
  keep : {x : A} {xs ys : List A} → SameBag xs ys → SameBag (x ∷ xs) (x ∷ ys)
  swap : {x y : A} {xs : List A} → SameBag (x ∷ (y ∷ xs)) (y ∷ (x ∷ xs))
  then : {xs ys zs : List A} → SameBag xs ys → SameBag ys zs → SameBag xs zs

-- the sum of the tables in a bag
abbrev pub bag_total : {F : Type 0} → Semiring F → List (Table F) → Table F
bag_total s [] = zero_table s
bag_total s (t ∷ ts) = added s t (bag_total s ts)
