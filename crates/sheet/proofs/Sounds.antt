-- The packed form of a table is a sound sheet.
use Rattle.std.proofs.Common.{◌≡◌, ℕ, zero, suc, ◌+◌, ◌-◌, ◌<◌, ◌≤◌, true, cond, [], ◌∷◌, map, length, get_or, sym, refl, ap, ◌∙◌, subst, ⊎_elim, add-one, arith}
use Rattle.std.specs.List.{range_with_len}
use Rattle.std.proofs.lemmas.List.{get_or_append_left, get_or-append_right, get_or_push}
use Rattle.std.proofs.lemmas.List.FromFn.{length-map-range_with_len}
use Rattle.std.proofs.lemmas.Bool.{and_parts, not-true, iff_false, false≢true, cases_lt, eq-eqb}
use Rattle.arithmetic.specs.Semiring.{Semiring}
use Rattle.matrix.specs.Tables.{Table}
use Rattle.sheet.specs.Packed.{joined_over, stored, columns_below, row_columns, row_start, packed_index, packed_figures, Head, Cell, Sound}
use Rattle.sheet.proofs.Columns.{last_place, columns_below_n, starts_grow}
use Rattle.sheet.proofs.Packs.{start_at, column_of, figure_of}
use Rattle.sheet.proofs.Same.{index_long}

module _ {F : Type 0} (s : Semiring F) (r : ℕ) (v : ℕ → F) where
  -- each column of the list is one that is stored
  each_stored : (n k : ℕ) → k < length (columns_below s r v n) → stored s r v (get_or (columns_below s r v n) k 0) ≡ true
  each_stored zero k h = absurd (omega arith)
  each_stored (suc n) k h = ⊎_elim
      (λ (low : k < length (columns_below s r v n)). rw (get_or_append_left (columns_below s r v n) (cond (stored s r v n) (n ∷ []) []) 0 k low) (each_stored n k low))
      (λ (last : (length (columns_below s r v n) ≡ k) × (stored s r v n ≡ true)). rw (last.1, get_or_push (columns_below s r v n) n 0 k last.0) last.1)
      (last_place s r v n k h)

  -- the columns of the list rise
  columns_up : (n j k : ℕ) → j + 1 ≡ k → k < length (columns_below s r v n) → get_or (columns_below s r v n) j 0 < get_or (columns_below s r v n) k 0
  columns_up zero j k next h = absurd (omega arith)
  columns_up (suc n) j k next h = ⊎_elim
      (λ (low : k < length (columns_below s r v n)).
      rw (get_or_append_left (columns_below s r v n) (cond (stored s r v n) (n ∷ []) []) 0 k low, get_or_append_left (columns_below s r v n) (cond (stored s r v n) (n ∷ []) []) 0 j (omega arith)) (columns_up n j k next low))
      (λ (last : (length (columns_below s r v n) ≡ k) × (stored s r v n ≡ true)).
      let at_end = last.0 in
      rw (last.1, get_or_push (columns_below s r v n) n 0 k at_end, get_or_append_left (columns_below s r v n) (n ∷ []) 0 j (omega arith)) (columns_below_n s r v n j (omega arith)))
      (last_place s r v n k h)

module _ {F : Type 0} (s : Semiring F) (n : ℕ) (t : Table F) where
  -- where a position past the head lies: in a row below m, so many places past its start
  pub record InRow (p m : ℕ) : Type 0 where
    pub row : ℕ
    pub row_below : row < m
    pub place : ℕ
    pub is : row_start s n t row + place ≡ p
    pub short : place < length (row_columns s n t row)

  pub row_of : (p m : ℕ) → n < p → p < row_start s n t m → InRow p m
  row_of p zero past low = absurd (omega arith)
  row_of p (suc m) past low = ⊎_elim
      (λ (h : p < row_start s n t m). let found = row_of p m past h in record { row = found.row; row_below = let below = found.row_below in omega arith; place = found.place; is = found.is; short = found.short })
      (λ (h : row_start s n t m ≤ p). record { row = m; row_below = omega arith; place = p - row_start s n t m; is = omega arith; short = omega arith })
      (cases_lt p (row_start s n t m))

  packed_head : (p : ℕ) → p ≤ n → Head s n (packed_index s n t) (packed_figures s n t) p
  packed_head p low =
      let here = start_at s n t p low in
      let long = index_long s n t in
      let up = starts_grow s n t p n low in
      record {
        first = λ e. rw e (start_at s n t 0 (omega arith));
        rises = λ h. let before = start_at s n t (p - 1) (omega arith) in let step = starts_grow s n t (p - 1) p (omega arith) in omega arith;
        within = omega arith;
        last = λ e. let there : row_start s n t p ≡ row_start s n t n = ap (row_start s n t) e in omega arith;
        spare = λ e.
            let none : p - n ≡ 0 = omega arith in
            get_or-append_right (map (λ r. t r r) (range_with_len 0 n)) (s.zero ∷ joined_over (λ r. map (t r) (row_columns s n t r)) n) n p s.zero (length-map-range_with_len (λ r. t r r) 0 n) (omega arith)
            ∙ rw none refl;
      }

  cell_in_row : (r q : ℕ) → r < n → q < length (row_columns s n t r) → Cell s n (packed_index s n t) (packed_figures s n t) (row_start s n t r + q)
  cell_in_row r q low short =
      let column = column_of s n t r q low short in
      let start = start_at s n t r (omega arith) in
      let end : get_or (packed_index s n t) (r + 1) 0 ≡ row_start s n t r + length (row_columns s n t r) = start_at s n t (r + 1) (omega arith) ∙ rw add-one refl in
      let is_stored = and_parts _ _ (each_stored s r (t r) n q short) in
      record {
        row = r;
        row_below = low;
        from = omega arith;
        to = omega arith;
        column_below = rw column (columns_below_n s r (t r) n q short);
        off = λ e. false≢true (sym (not-true _ is_stored.0) ∙ eq-eqb _ r (sym column ∙ e));
        rises = λ h.
            let at_before : row_start s n t r + (q - 1) ≡ row_start s n t r + q - 1 = omega arith in
            let before = rw at_before at (column_of s n t r (q - 1) low (omega arith)) in
            let up = columns_up s r (t r) n (q - 1) q (omega arith) short in
            omega arith;
        figure = λ e. iff_false (s.tests_zero _) (not-true _ is_stored.1) (sym (figure_of s n t r q low short) ∙ e);
      }

  packed_cell : (p : ℕ) → n < p → p < length (packed_index s n t) → Cell s n (packed_index s n t) (packed_figures s n t) p
  packed_cell p past within =
      let found = row_of p n past (omega (arith, index_long s n t)) in
      subst (Cell s n (packed_index s n t) (packed_figures s n t)) found.is (cell_in_row found.row found.place found.row_below found.short)

  pub packed_sound : Sound s n (packed_index s n t) (packed_figures s n t)
  packed_sound = record {
    room = let long = index_long s n t in let up = starts_grow s n t 0 n (omega arith) in omega arith;
    rules = λ p within. record { head = λ low. packed_head p low; cell = λ past. packed_cell p past within };
  }
