-- The columns that a row stores, and where the rows start.
use Rattle.std.proofs.Common.{◌≡◌, ℕ, zero, suc, ◌+◌, ◌<◌, ◌≤◌, true, false, cond, not, eqb, [], ◌∷◌, ◌++◌, length, get_or, refl, ap, ◌∙◌, ◌⊎◌, inl, inr, ⊎_elim, add-one, arith}
use Rattle.std.proofs.lemmas.List.{append-nil, length-append, length_push, get_or_append_left, get_or_push}
use Rattle.std.proofs.Math.Bool.{and-false}
use Rattle.std.proofs.lemmas.Bool.{cases_lt, cases_Bool}
use Rattle.arithmetic.specs.Semiring.{Semiring}
use Rattle.matrix.specs.Tables.{Table}
use Rattle.sheet.specs.Packed.{stored, columns_below, row_start}

module _ {F : Type 0} (s : Semiring F) (r : ℕ) (v : ℕ → F) where
  -- a cell that is zero is not stored
  pub zero_not_stored : (c : ℕ) → v c ≡ s.zero → stored s r v c ≡ false
  zero_not_stored c e = rw ((s.tests_zero (v c)).1 e) (and-false (not (eqb c r)))

  columns_more : (c : ℕ) → columns_below s r v (c + 1) ≡ columns_below s r v c ++ cond (stored s r v c) (c ∷ []) []
  columns_more c = rw add-one refl

  pub columns_yes : (c : ℕ) → stored s r v c ≡ true → columns_below s r v (c + 1) ≡ columns_below s r v c ++ c ∷ []
  columns_yes c e = columns_more c ∙ ap (λ b. columns_below s r v c ++ cond b (c ∷ []) []) e

  pub columns_no : (c : ℕ) → stored s r v c ≡ false → columns_below s r v (c + 1) ≡ columns_below s r v c
  columns_no c e = columns_more c ∙ (ap (λ b. columns_below s r v c ++ cond b (c ∷ []) []) e ∙ append-nil _)

  pub columns_grow : (c n : ℕ) → c ≤ n → length (columns_below s r v c) ≤ length (columns_below s r v n)
  columns_grow c zero le = let e : c ≡ 0 = omega arith in rw e (omega arith)
  columns_grow c (suc n) le = ⊎_elim
      (λ (h : c < suc n). let step = columns_grow c n (omega arith) in simp length-append (omega arith))
      (λ (h : suc n ≤ c). let e : c ≡ suc n = omega arith in rw e (omega arith))
      (cases_lt c (suc n))

  -- a stored column leaves room for itself
  pub columns_room : (c n : ℕ) → c < n → stored s r v c ≡ true → length (columns_below s r v c) < length (columns_below s r v n)
  columns_room c n low e =
      let one = ap length (columns_yes c e) ∙ length_push (columns_below s r v c) c in
      let more = columns_grow (c + 1) n (omega arith) in
      omega arith

  -- where a stored column stands
  pub columns_at : (c n d : ℕ) → c < n → stored s r v c ≡ true → get_or (columns_below s r v n) (length (columns_below s r v c)) d ≡ c
  columns_at c zero d low e = absurd (omega arith)
  columns_at c (suc n) d low e = ⊎_elim
      (λ (h : c < n). get_or_append_left (columns_below s r v n) _ d (length (columns_below s r v c)) (columns_room c n h e) ∙ columns_at c n d h e)
      (λ (h : n ≤ c). let same : c ≡ n = omega arith in
      let at_n : stored s r v n ≡ true = rw same at e in
      rw (same, at_n) (get_or_push (columns_below s r v n) n d _ refl))
      (cases_lt c n)

  -- a place in one more column's list is a place in the list before, or its last, where that column stands
  pub last_place : (n k : ℕ) → k < length (columns_below s r v (suc n)) → (k < length (columns_below s r v n)) ⊎ ((length (columns_below s r v n) ≡ k) × (stored s r v n ≡ true))
  last_place n k h = ⊎_elim
      inl
      (λ (high : length (columns_below s r v n) ≤ k). ⊎_elim
      (λ (e : stored s r v n ≡ true).
      let long : k < length (columns_below s r v n ++ n ∷ []) = rw e at h in
      inr (omega (arith, length_push (columns_below s r v n) n), e))
      (λ (e : stored s r v n ≡ false).
      let long : k < length (columns_below s r v n ++ []) = rw e at h in
      absurd (omega (arith, ap length (append-nil (columns_below s r v n)))))
      (cases_Bool (stored s r v n)))
      (cases_lt k (length (columns_below s r v n)))

  -- each column lies below the bound
  pub columns_below_n : (n k : ℕ) → k < length (columns_below s r v n) → get_or (columns_below s r v n) k 0 < n
  columns_below_n zero k h = absurd (omega arith)
  columns_below_n (suc n) k h = ⊎_elim
      (λ (low : k < length (columns_below s r v n)). rw (get_or_append_left (columns_below s r v n) (cond (stored s r v n) (n ∷ []) []) 0 k low) (let b = columns_below_n n k low in omega arith))
      (λ (last : (length (columns_below s r v n) ≡ k) × (stored s r v n ≡ true)). rw (last.1, get_or_push (columns_below s r v n) n 0 k last.0) (omega arith))
      (last_place n k h)

-- the starts grow with the rows
pub starts_grow : {F : Type 0} (s : Semiring F) (n : ℕ) (t : Table F) (r m : ℕ) → r ≤ m → row_start s n t r ≤ row_start s n t m
starts_grow s n t r zero low = let e : r ≡ 0 = omega arith in rw e (omega arith)
starts_grow s n t r (suc m) low = ⊎_elim
    (λ (h : r < suc m). let before = starts_grow s n t r m (omega arith) in omega arith)
    (λ (h : suc m ≤ r). let e : r ≡ suc m = omega arith in rw e (omega arith))
    (cases_lt r (suc m))
