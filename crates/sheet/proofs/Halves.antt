-- A sheet that is being written: the starts of some rows, what was there, the cells of those rows, and the rest.
use Rattle.std.proofs.Common.{◌≡◌, ℕ, ◌+◌, ◌-◌, ◌<◌, ◌≤◌, List, [], ◌∷◌, ◌++◌, length, take, drop, set, arith, rules}
use Rattle.std.proofs.lemmas.List.{places, same_lists, get_or-set_same}
use Rattle.std.proofs.lemmas.Bool.{cases_eq}
use Rattle.sheet.specs.Writing.{overlaid}

abbrev pub half : {A : Type 0} → List A → ℕ → List A → List A → List A
half d n S J = S ++ (take (n + 1 - length S) (drop (length S) d) ++ (J ++ drop ((n + 1) + length J) d))

module _ {A : Type 0} (d : List A) (n : ℕ) where
  pub half_none : n + 1 ≤ length d → half d n [] [] ≡ d
  half_none room = same_lists _ _ (search (rules, places)) (λ k e h. grind (arith, places))

  -- one more start
  pub half_mark : (S J : List A) (x : A) → length S ≤ n → (n + 1) + length J ≤ length d → set (half d n S J) (length S) x ≡ half d n (S ++ x ∷ []) J
  half_mark S J x short room = same_lists _ _ (search (rules, places)) (λ k e h. grind (arith, places, get_or-set_same, cases_eq k (length S)))

  -- the last start written again
  pub half_again : (S J : List A) (x y : A) → length S ≤ n → (n + 1) + length J ≤ length d → set (half d n (S ++ x ∷ []) J) (length S) y ≡ half d n (S ++ y ∷ []) J
  half_again S J x y short room = same_lists _ _ (search (rules, places)) (λ k e h. grind (arith, places, get_or-set_same, cases_eq k (length S)))

  -- one more cell
  pub half_push : (S J : List A) (x : A) → length S ≤ n + 1 → (n + 1) + length J < length d → set (half d n S J) ((n + 1) + length J) x ≡ half d n S (J ++ x ∷ [])
  half_push S J x short room = same_lists _ _ (search (rules, places)) (λ k e h. grind (arith, places, get_or-set_same, cases_eq k ((n + 1) + length J)))

  pub half_all : (S J : List A) → length S ≡ n + 1 → (n + 1) + length J ≤ length d → half d n S J ≡ overlaid d (S ++ J)
  half_all S J full room = same_lists _ _ (search (rules, places)) (λ k e h. grind (arith, places))
