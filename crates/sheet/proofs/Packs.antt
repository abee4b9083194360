-- The packed form of a table read back: the table again.
use Rattle.std.proofs.Common.{◌≡◌, ℕ, zero, suc, ◌+◌, ◌-◌, ◌<◌, ◌≤◌, true, false, ◌⊎◌, List, ◌∷◌, map, length, get_or, sym, refl, ap, ◌∙◌, subst, ap₂, inl, inr, ⊎_elim, add-one, arith}
use Rattle.std.specs.List.{range_with_len}
use Rattle.std.proofs.lemmas.List.{length-append, length-map, get_or-map, get_or_append_left, get_or-append_right, get_or-append-add}
use Rattle.std.proofs.lemmas.List.FromFn.{length-map-range_with_len, get_or-map-range_with_len}
use Rattle.std.proofs.lemmas.Bool.{cases_lt, cases_eq, cases_Bool, eq-eqb, ne_eqb, and_from, not_from_false}
use Rattle.arithmetic.specs.Semiring.{Semiring}
use Rattle.matrix.specs.Tables.{Table}
use Rattle.sheet.specs.Packed.{joined_over, stored, columns_below, row_columns, row_start, packed_index, packed_figures, found, table}
use Rattle.sheet.proofs.Columns.{columns_room, columns_at}
use Rattle.sheet.proofs.Found.{table_here, table_off}

-- row r of rows that are laid end to end
joined_long : {A : Type 0} (f : ℕ → List A) (n r : ℕ) → r < n → length (joined_over f r) + length (f r) ≤ length (joined_over f n)
joined_long f zero r low = absurd (omega arith)
joined_long f (suc n) r low = ⊎_elim
    (λ (h : r < n). let before = joined_long f n r h in simp length-append (omega arith))
    (λ (h : n ≤ r). let e : r ≡ n = omega arith in rw e (simp length-append (omega arith)))
    (cases_lt r n)

pub joined_at : {A : Type 0} (f : ℕ → List A) (n r q : ℕ) (d : A) → r < n → q < length (f r) → get_or (joined_over f n) (length (joined_over f r) + q) d ≡ get_or (f r) q d
joined_at f zero r q d low short = absurd (omega arith)
joined_at f (suc n) r q d low short = ⊎_elim
    (λ (h : r < n). let long = joined_long f n r h in get_or_append_left (joined_over f n) (f n) d (length (joined_over f r) + q) (omega arith) ∙ joined_at f n r q d h short)
    (λ (h : n ≤ r). let e : r ≡ n = omega arith in rw e (get_or-append-add (joined_over f n) (f n) q d))
    (cases_lt r n)

module _ {F : Type 0} (s : Semiring F) (ws : List ℕ) (fs : List F) (v : ℕ → F) (c : ℕ) where
  -- each figure is that of its column: what is found is the column's figure, or nothing
  pub found_either : (p k : ℕ) → ((q : ℕ) → p ≤ q → q < p + k → get_or fs q s.zero ≡ v (get_or ws q 0)) → (found s ws fs c p k ≡ v c) ⊎ (found s ws fs c p k ≡ s.zero)
  found_either p zero all = inr refl
  found_either p (suc k) all = ⊎_elim
      (λ (e : get_or ws p 0 ≡ c). inl (rw (eq-eqb (get_or ws p 0) c e) (all p (omega arith) (omega arith) ∙ ap v e)))
      (λ (ne : get_or ws p 0 ≡ c → ⊥). rw (ne_eqb (get_or ws p 0) c ne) (found_either (p + 1) k (λ q low high. all q (omega arith) (omega arith))))
      (cases_eq (get_or ws p 0) c)

  pub found_there : (p k q : ℕ) → p ≤ q → q < p + k → get_or ws q 0 ≡ c → ((j : ℕ) → p ≤ j → j < p + k → get_or fs j s.zero ≡ v (get_or ws j 0)) → found s ws fs c p k ≡ v c
  found_there p zero q low high is all = absurd (omega arith)
  found_there p (suc k) q low high is all = ⊎_elim
      (λ (e : get_or ws p 0 ≡ c). rw (eq-eqb (get_or ws p 0) c e) (all p (omega arith) (omega arith) ∙ ap v e))
      (λ (ne : get_or ws p 0 ≡ c → ⊥).
      let apart : p ≡ q → ⊥ = λ e. ne (ap (λ j. get_or ws j 0) e ∙ is) in
      let after : p + 1 ≤ q = omega (arith, apart) in
      rw (ne_eqb (get_or ws p 0) c ne) (found_there (p + 1) k q after (omega arith) is (λ j low' high'. all j (omega arith) (omega arith))))
      (cases_eq (get_or ws p 0) c)

module _ {F : Type 0} (s : Semiring F) (n : ℕ) (t : Table F) where
  pub row_start_is : (r : ℕ) → row_start s n t r ≡ n + 1 + length (joined_over (row_columns s n t) r)
  row_start_is zero = omega arith
  row_start_is (suc r) = simp length-append (omega (arith, row_start_is r))

  pub figures_long : (r : ℕ) → length (joined_over (λ r. map (t r) (row_columns s n t r)) r) ≡ length (joined_over (row_columns s n t) r)
  figures_long zero = refl
  figures_long (suc r) = simp (length-append, length-map) (omega (arith, figures_long r))

  pub start_at : (r : ℕ) → r ≤ n → get_or (packed_index s n t) r 0 ≡ row_start s n t r
  start_at r low =
      get_or_append_left (map (row_start s n t) (range_with_len 0 (n + 1))) _ 0 r (rw (length-map-range_with_len (row_start s n t) 0 (n + 1)) (omega arith))
      ∙ get_or-map-range_with_len (row_start s n t) 0 (n + 1) r r 0 (omega arith) (omega arith)

  pub diagonal_at : (r : ℕ) → r < n → get_or (packed_figures s n t) r s.zero ≡ t r r
  diagonal_at r low =
      get_or_append_left (map (λ r. t r r) (range_with_len 0 n)) _ s.zero r (rw (length-map-range_with_len (λ r. t r r) 0 n) (omega arith))
      ∙ get_or-map-range_with_len (λ r. t r r) 0 n r r s.zero (omega arith) (omega arith)

  pub column_of : (r q : ℕ) → r < n → q < length (row_columns s n t r) → get_or (packed_index s n t) (row_start s n t r + q) 0 ≡ get_or (row_columns s n t r) q 0
  column_of r q low short =
      let start = row_start_is r in
      let e : row_start s n t r + q - (n + 1) ≡ length (joined_over (row_columns s n t) r) + q = omega arith in
      get_or-append_right (map (row_start s n t) (range_with_len 0 (n + 1))) _ (n + 1) (row_start s n t r + q) 0 (length-map-range_with_len (row_start s n t) 0 (n + 1)) (omega arith)
      ∙ (ap (λ i. get_or (joined_over (row_columns s n t) n) i 0) e ∙ joined_at (row_columns s n t) n r q 0 low short)

  pub figure_of : (r q : ℕ) → r < n → q < length (row_columns s n t r) → get_or (packed_figures s n t) (row_start s n t r + q) s.zero ≡ t r (get_or (row_columns s n t r) q 0)
  figure_of r q low short =
      let rows = λ (r : ℕ). map (t r) (row_columns s n t r) in
      let start = row_start_is r in
      let long = figures_long r in
      let e : row_start s n t r + q - n ≡ suc (length (joined_over rows r) + q) = omega arith in
      let short' : q < length (rows r) = rw (length-map (row_columns s n t r) (t r)) short in
      get_or-append_right (map (λ r. t r r) (range_with_len 0 n)) _ n (row_start s n t r + q) s.zero (length-map-range_with_len (λ r. t r r) 0 n) (omega arith)
      ∙ (ap (λ i. get_or (s.zero ∷ joined_over rows n) i s.zero) e
      ∙ (joined_at rows n r q s.zero low short' ∙ get_or-map (t r) (row_columns s n t r) q 0 s.zero short))

  -- in row r each figure is that of its column
  row_figures : (r : ℕ) → r < n → (q : ℕ) → row_start s n t r ≤ q → q < row_start s n t r + length (row_columns s n t r) → get_or (packed_figures s n t) q s.zero ≡ t r (get_or (packed_index s n t) q 0)
  row_figures r low q from to =
      let e : row_start s n t r + (q - row_start s n t r) ≡ q = omega arith in
      subst (λ j. get_or (packed_figures s n t) j s.zero ≡ t r (get_or (packed_index s n t) j 0)) e
      (figure_of r (q - row_start s n t r) low (omega arith) ∙ ap (t r) (sym (column_of r (q - row_start s n t r) low (omega arith))))

  pub table_packed : (r c : ℕ) → r < n → c < n → table s (packed_index s n t) (packed_figures s n t) r c ≡ t r c
  table_packed r c low low' =
      let ws = packed_index s n t in
      let fs = packed_figures s n t in
      let from = start_at r (omega arith) in
      let to : get_or ws (r + 1) 0 ≡ row_start s n t r + length (row_columns s n t r) = start_at (r + 1) (omega arith) ∙ rw add-one refl in
      let size : get_or ws (r + 1) 0 - get_or ws r 0 ≡ length (row_columns s n t r) = omega arith in
      let looked : found s ws fs c (get_or ws r 0) (get_or ws (r + 1) 0 - get_or ws r 0) ≡ found s ws fs c (row_start s n t r) (length (row_columns s n t r)) = ap₂ (found s ws fs c) from size in
      ⊎_elim
      (λ (e : c ≡ r). rw e (table_here s ws fs r ∙ diagonal_at r low))
      (λ (ne : c ≡ r → ⊥). table_off s ws fs r c ne ∙ (looked ∙ ⊎_elim
      (λ (z : s.is_zero (t r c) ≡ true). ⊎_elim (λ e. e) (λ e. e ∙ sym ((s.tests_zero (t r c)).0 z)) (found_either s ws fs (t r) c (row_start s n t r) (length (row_columns s n t r)) (row_figures r low)))
      (λ (z : s.is_zero (t r c) ≡ false).
      let cell : stored s r (t r) c ≡ true = and_from _ _ (not_from_false _ (ne_eqb c r ne)) (not_from_false _ z) in
      let room = columns_room s r (t r) c n low' cell in
      found_there s ws fs (t r) c (row_start s n t r) (length (row_columns s n t r)) (row_start s n t r + length (columns_below s r (t r) c)) (omega arith) (omega arith)
      (column_of r (length (columns_below s r (t r) c)) low room ∙ columns_at s r (t r) c n 0 low' cell) (row_figures r low))
      (cases_Bool (s.is_zero (t r c)))))
      (cases_eq c r)
