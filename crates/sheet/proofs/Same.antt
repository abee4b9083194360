-- Tables that agree cell by cell have one packed form.
use Rattle.std.proofs.Common.{◌≡◌, ℕ, zero, suc, ◌+◌, ◌<◌, ◌≤◌, cond, not, ◌&&◌, eqb, List, [], ◌∷◌, ◌++◌, map, length, get_or, sym, refl, ap, ◌∙◌, ap₂, arith}
use Rattle.std.specs.List.{range_with_len}
use Rattle.std.proofs.lemmas.List.{same_lists, length-append}
use Rattle.std.proofs.lemmas.List.FromFn.{length-map-range_with_len, get_or-map-range_with_len}
use Rattle.arithmetic.specs.Semiring.{Semiring}
use Rattle.matrix.specs.Tables.{Table, Same}
use Rattle.sheet.specs.Packed.{joined_over, columns_below, row_columns, row_start, packed_length, packed_index, packed_figures}
use Rattle.sheet.proofs.Columns.{columns_below_n}
use Rattle.sheet.proofs.Packs.{row_start_is, figures_long}

map_counting_same : {X : Type 0} (f g : ℕ → X) (n : ℕ) → ((i : ℕ) → i < n → f i ≡ g i) → map f (range_with_len 0 n) ≡ map g (range_with_len 0 n)
map_counting_same f g n same = same_lists _ _
    (length-map-range_with_len f 0 n ∙ sym (length-map-range_with_len g 0 n))
    (λ k d h. let low : k < n = rw (length-map-range_with_len f 0 n) at h in
    get_or-map-range_with_len f 0 n k k d low (omega arith) ∙ (same k low ∙ sym (get_or-map-range_with_len g 0 n k k d low (omega arith))))

joined_same : {A : Type 0} (f g : ℕ → List A) (n : ℕ) → ((i : ℕ) → i < n → f i ≡ g i) → joined_over f n ≡ joined_over g n
joined_same f g zero same = refl
joined_same f g (suc n) same = ap₂ ◌++◌ (joined_same f g n (λ i h. same i (omega arith))) (same n (omega arith))

pub map_same : {A : Type 0} (v w : ℕ → A) (n : ℕ) (xs : List ℕ) → ((k : ℕ) → k < length xs → get_or xs k 0 < n) → ((c : ℕ) → c < n → v c ≡ w c) → map v xs ≡ map w xs
map_same v w n [] below same = refl
map_same v w n (x ∷ xs) below same = ap₂ ◌∷◌ (same x (below 0 (omega arith))) (map_same v w n xs (λ k h. below (suc k) (omega arith)) same)

module _ {F : Type 0} (s : Semiring F) where
  pub columns_same : (r : ℕ) (v w : ℕ → F) (k : ℕ) → ((c : ℕ) → c < k → v c ≡ w c) → columns_below s r v k ≡ columns_below s r w k
  columns_same r v w zero same = refl
  columns_same r v w (suc k) same = ap₂ (λ l b. l ++ cond (not (eqb k r) && not (s.is_zero b)) (k ∷ []) []) (columns_same r v w k (λ c h. same c (omega arith))) (same k (omega arith))

  module _ (n : ℕ) (t u : Table F) (same : Same n t u) where
    rows_same : (r : ℕ) → r < n → row_columns s n t r ≡ row_columns s n u r
    rows_same r low = columns_same r (t r) (u r) n (λ c h. same r c low h)

    pub starts_same : (r : ℕ) → r ≤ n → row_start s n t r ≡ row_start s n u r
    starts_same zero low = refl
    starts_same (suc r) low = ap₂ ◌+◌ (starts_same r (omega arith)) (ap length (rows_same r (omega arith)))

    pub packed_index_same : packed_index s n t ≡ packed_index s n u
    packed_index_same = ap₂ ◌++◌
        (map_counting_same (row_start s n t) (row_start s n u) (n + 1) (λ r h. starts_same r (omega arith)))
        (joined_same (row_columns s n t) (row_columns s n u) n rows_same)

    pub packed_figures_same : packed_figures s n t ≡ packed_figures s n u
    packed_figures_same = ap₂ (λ d c. d ++ (s.zero ∷ c))
        (map_counting_same (λ r. t r r) (λ r. u r r) n (λ r h. same r r h h))
        (joined_same (λ r. map (t r) (row_columns s n t r)) (λ r. map (u r) (row_columns s n u r)) n (λ r h.
        ap (map (t r)) (rows_same r h) ∙ map_same (t r) (u r) n (row_columns s n u r) (columns_below_n s r (u r) n) (λ c k. same r c h k)))

  -- both lists have the length that the starts give
  pub index_long : (n : ℕ) (t : Table F) → length (packed_index s n t) ≡ packed_length s n t
  index_long n t = simp length-append (omega (arith, row_start_is s n t n, length-map-range_with_len (row_start s n t) 0 (n + 1)))

  pub figures_long_too : (n : ℕ) (t : Table F) → length (packed_figures s n t) ≡ packed_length s n t
  figures_long_too n t = simp length-append (omega (arith, row_start_is s n t n, figures_long s n t n, length-map-range_with_len (λ r. t r r) 0 n))
