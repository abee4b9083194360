-- Bags in another order.
use Rattle.std.proofs.Common.{◌≡◌, ℕ, List, map, refl, ap, ◌∙◌}
use Rattle.arithmetic.specs.Semiring.{Semiring}
use Rattle.matrix.specs.Tables.{Table}
use Rattle.matrix.specs.Bags.{SameBag, none, keep, swap, then, bag_total}
use Rattle.matrix.proofs.Sums.{add_left_comm}

pub bag_same : {F : Type 0} (s : Semiring F) {ts us : List (Table F)} → SameBag ts us → (i j : ℕ) → bag_total s ts i j ≡ bag_total s us i j
bag_same s none i j = refl
bag_same s (keep {x = t} b) i j = ap (s.add (t i j)) (bag_same s b i j)
bag_same s (swap {x = t} {y = u} {xs = ts}) i j = add_left_comm s (t i j) (u i j) (bag_total s ts i j)
bag_same s (then b c) i j = bag_same s b i j ∙ bag_same s c i j

-- what is made of the same bags, element by element
pub map_same : {A B : Type 0} (f : A → B) {xs ys : List A} → SameBag xs ys → SameBag (map f xs) (map f ys)
map_same f none = none
map_same f (keep b) = keep (map_same f b)
map_same f swap = swap
map_same f (then b c) = then (map_same f b) (map_same f c)
