use Rattle.std.proofs.Common.{◌≡◌, ℕ, List, [], ◌∷◌, length, refl, ap, ap₂, arith}
use Rattle.arithmetic.specs.Amounts.{Quantity}
use Rattle.arithmetic.specs.Capped.{same_capped}
use Rattle.arithmetic.specs.Squares.{same_square}
use Rattle.worked.specs.Worked.{Worked}

-- the numbers of a list of amounts
abbrev numbers : List Quantity → List ℕ
numbers [] = []
numbers (x ∷ xs) = x.0 ∷ numbers xs

-- two lists of amounts are the same where their numbers are
same : (xs ys : List Quantity) → numbers xs ≡ numbers ys → xs ≡ ys
same [] [] e = refl
same [] (y ∷ ys) e = let z = ap length e in absurd (omega arith)
same (x ∷ xs) [] e = let z = ap length e in absurd (omega arith)
same (x ∷ xs) (y ∷ ys) e =
    let head : x.0 ≡ y.0 = cc in
    let tail : numbers xs ≡ numbers ys = cc in
    ap₂ ◌∷◌ (same_capped _ _ head) (same xs ys tail)

pub worked : Worked
worked = record {
  P_packed = record { index = refl; amounts_are = same _ _ refl };
  P_flipped = record { index = refl; amounts_are = same _ _ refl };
  Q_packed = record { index = refl; amounts_are = same _ _ refl };
  P_times_Q = record { index = refl; amounts_are = same _ _ refl };
  P_plus_Q = record { index = refl; amounts_are = same _ _ refl };
  by_columns = same _ _ refl;
  by_rows = same _ _ refl;
  weighed_back = same_capped _ _ refl;
  weighed_forward = same_capped _ _ refl;
  at_ceiling = same_capped _ _ refl;
  below_ceiling = same_capped _ _ refl;
  longest_wait = same_capped _ _ refl;
  past_longest = same_capped _ _ refl;
  blocks = same_square _ _ (same_capped _ _ refl) (same_capped _ _ refl) (same_capped _ _ refl) (same_capped _ _ refl);
  blocks_back = same_square _ _ (same_capped _ _ refl) (same_capped _ _ refl) (same_capped _ _ refl) (same_capped _ _ refl);
}
