-- Two sheets merged row by row: their sum, cell by cell in the order of the columns.
use Rattle.std.proofs.Common.{◌≡◌, ℕ, ◌+◌, ◌<◌, ◌≤◌, cond, eqb, leb, ltb, Some, None, List, length, get_or, sym, refl, ap, ◌∙◌, subst, ap₂, ⊎_elim, arith}
use Rattle.std.proofs.lemmas.Bool.{cases_lt, lt-ltb, le-ltb, le-leb, lt-leb}
use Rattle.arithmetic.specs.Semiring.{Semiring}
use Rattle.matrix.specs.Tables.{Table, added}
use Rattle.sheet.specs.Packed.{Sound, table}
use Rattle.sheet.specs.Cursors.{spot_of, column_of, Cursor}
use Rattle.sum.specs.Merging.{next_column_of, Merging}
use Rattle.sheet.proofs.Found.{cell_at}
use Rattle.sheet.proofs.Cursors.{cursor_none, spot_figure, spot_within, cursor_step, cursor_skip, cursor_gap, cursor_end}

-- the sum of the tables of two sheets
abbrev pub merged : {F : Type 0} → Semiring F → List ℕ → List F → List ℕ → List F → Table F
merged s ws fs us gs = added s (table s ws fs) (table s us gs)

module _ {F : Type 0} (s : Semiring F) (n : ℕ) (ws : List ℕ) (fs : List F) (us : List ℕ) (gs : List F) (sound : Sound s n ws fs) (sound' : Sound s n us gs) where
  pub merging_none : Merging n ws us 0 0 (get_or ws 0 0) (get_or us 0 0)
  merging_none = record {
    row_within = omega arith;
    from_within = omega arith;
    done = λ e. refl;
    first = λ low. cursor_none s n ws fs sound 0 low;
    second = λ low. cursor_none s n us gs sound' 0 low;
  }

  module _ (row from p q : ℕ) (low : row < n) (m : Merging n ws us row from p q) where
    at_most : (ws : List ℕ) (fs : List F) → Sound s n ws fs → (p : ℕ) → Cursor ws row from p → column_of ws n row p ≤ n
    at_most ws fs sound p at = ⊎_elim
        (λ (short : p < get_or ws (row + 1) 0). rw (lt-ltb p (get_or ws (row + 1) 0) short) (let c = (cell_at s n ws fs sound row low p at.from short).0 in omega arith))
        (λ (past : get_or ws (row + 1) 0 ≤ p). rw (le-ltb p (get_or ws (row + 1) 0) past) (omega arith))
        (cases_lt p (get_or ws (row + 1) 0))

    pub next_within : next_column_of ws us n row from p q ≤ n
    next_within = let x = at_most ws fs sound p (m.first low) in omega arith

    at_least : (ws : List ℕ) (p : ℕ) → Cursor ws row from p → from ≤ column_of ws n row p
    at_least ws p at = ⊎_elim
        (λ (short : p < get_or ws (row + 1) 0). rw (lt-ltb p (get_or ws (row + 1) 0) short) (at.ahead p (omega arith) short))
        (λ (past : get_or ws (row + 1) 0 ≤ p). rw (le-ltb p (get_or ws (row + 1) 0) past) m.from_within)
        (cases_lt p (get_or ws (row + 1) 0))

    pub next_from : from ≤ next_column_of ws us n row from p q
    next_from =
        let x = at_least ws p (m.first low) in
        let y = at_least us q (m.second low) in
        let z : from ≤ cond (leb from row) row n = ⊎_elim
        (λ (h : row < from). rw (lt-leb from row h) m.from_within)
        (λ (h : from ≤ row). rw (le-leb from row h) h)
        (cases_lt row from) in
        omega arith

    -- the diagonal is not passed over
    off_diagonal : (j : ℕ) → from ≤ j → j < next_column_of ws us n row from p q → j ≡ row → ⊥
    off_diagonal j from_j to e = ⊎_elim
        (λ (h : row < from). omega arith)
        (λ (h : from ≤ row). let z : cond (leb from row) row n ≡ row = rw (le-leb from row h) refl in omega arith)
        (cases_lt row from)

    -- cells between are zero
    pub merging_gap : (j : ℕ) → from ≤ j → j < next_column_of ws us n row from p q → merged s ws fs us gs row j ≡ s.zero
    merging_gap j from_j to =
        let off = off_diagonal j from_j to in
        let high = next_within in
        ap₂ s.add (cursor_gap s n ws fs sound row low from p (m.first low) j from_j (omega arith) (omega arith) off) (cursor_gap s n us gs sound' row low from q (m.second low) j from_j (omega arith) (omega arith) off) ∙ s.zero-add s.zero

    module _ (short : next_column_of ws us n row from p q < n) where
      here : Cursor ws row (next_column_of ws us n row from p q) p
      here = cursor_skip s n ws fs sound row low from p (m.first low) (next_column_of ws us n row from p q) next_from (omega arith) (omega arith)

      here' : Cursor us row (next_column_of ws us n row from p q) q
      here' = cursor_skip s n us gs sound' row low from q (m.second low) (next_column_of ws us n row from p q) next_from (omega arith) (omega arith)

      pub merging_value : s.add (get_or fs (spot_of ws n row (next_column_of ws us n row from p q) p) s.zero) (get_or gs (spot_of us n row (next_column_of ws us n row from p q) q) s.zero) ≡ merged s ws fs us gs row (next_column_of ws us n row from p q)
      merging_value = ap₂ s.add (spot_figure s n ws fs sound row low (next_column_of ws us n row from p q) p here) (spot_figure s n us gs sound' row low (next_column_of ws us n row from p q) q here')

      pub merging_spots : (spot_of ws n row (next_column_of ws us n row from p q) p < length ws) × (spot_of us n row (next_column_of ws us n row from p q) q < length us)
      merging_spots = (spot_within s n ws fs sound row low (next_column_of ws us n row from p q) p here, spot_within s n us gs sound' row low (next_column_of ws us n row from p q) q here')

      pub merging_more : (p' q' : ℕ) → p' ≡ cond (eqb (spot_of ws n row (next_column_of ws us n row from p q) p) p) (p + 1) p → q' ≡ cond (eqb (spot_of us n row (next_column_of ws us n row from p q) q) q) (q + 1) q → Merging n ws us row (next_column_of ws us n row from p q + 1) p' q'
      merging_more p' q' pe qe = record {
        row_within = omega arith;
        from_within = omega arith;
        done = λ e. absurd (omega arith);
        first = λ low'. cursor_step s n ws fs sound row low (next_column_of ws us n row from p q) p here p' pe;
        second = λ low'. cursor_step s n us gs sound' row low (next_column_of ws us n row from p q) q here' q' qe;
      }

    pub merging_row : n ≤ next_column_of ws us n row from p q → Merging n ws us (row + 1) 0 p q
    merging_row over =
        let x = at_most ws fs sound p (m.first low) in
        let y = at_most us gs sound' q (m.second low) in
        let pe = cursor_end s n ws fs sound row low from p (m.first low) (omega arith) in
        let qe = cursor_end s n us gs sound' row low from q (m.second low) (omega arith) in
        record {
          row_within = omega arith;
          from_within = omega arith;
          done = λ e. refl;
          first = λ low'. subst (λ k. Cursor ws (row + 1) 0 k) (sym pe) (cursor_none s n ws fs sound (row + 1) low');
          second = λ low'. subst (λ k. Cursor us (row + 1) 0 k) (sym qe) (cursor_none s n us gs sound' (row + 1) low');
        }

module _ {F : Type 0} (s : Semiring F) (n : ℕ) (ws : List ℕ) (fs : List F) (us : List ℕ) (gs : List F) (sound : Sound s n ws fs) (sound' : Sound s n us gs) (row from p q : ℕ) (low : row < n) (m : Merging n ws us row from p q) (column : ℕ) (e : column ≡ next_column_of ws us n row from p q) (short : column < n) (x y : ℕ) (xe : x ≡ spot_of ws n row column p) (ye : y ≡ spot_of us n row column q) (p' q' : ℕ) (pe : p' ≡ cond (eqb x p) (p + 1) p) (qe : q' ≡ cond (eqb y q) (q + 1) q) where
  at_x : x ≡ spot_of ws n row (next_column_of ws us n row from p q) p
  at_x = xe ∙ ap (λ k. spot_of ws n row k p) e

  at_y : y ≡ spot_of us n row (next_column_of ws us n row from p q) q
  at_y = ye ∙ ap (λ k. spot_of us n row k q) e

  next_p : p' ≡ cond (eqb (spot_of ws n row (next_column_of ws us n row from p q) p) p) (p + 1) p
  next_p = pe ∙ ap (λ k. cond (eqb k p) (p + 1) p) at_x

  next_q : q' ≡ cond (eqb (spot_of us n row (next_column_of ws us n row from p q) q) q) (q + 1) q
  next_q = qe ∙ ap (λ k. cond (eqb k q) (q + 1) q) at_y

  value_at : (v : F) → v ≡ s.add (get_or fs x s.zero) (get_or gs y s.zero) → v ≡ s.add (get_or fs (spot_of ws n row (next_column_of ws us n row from p q) p) s.zero) (get_or gs (spot_of us n row (next_column_of ws us n row from p q) q) s.zero)
  value_at v is = is ∙ ap₂ (λ i j. s.add (get_or fs i s.zero) (get_or gs j s.zero)) at_x at_y

  -- the figure of the cell that the merge has come to
  pub merged_here : (v : F) → v ≡ s.add (get_or fs x s.zero) (get_or gs y s.zero) → v ≡ merged s ws fs us gs row column
  merged_here v is = value_at v is ∙ (merging_value s n ws fs us gs sound sound' row from p q low m (omega arith) ∙ ap (merged s ws fs us gs row) (sym e))

  pub spots_within : (x < length ws) × (y < length us)
  spots_within = let both = merging_spots s n ws fs us gs sound sound' row from p q low m (omega arith) in (rw at_x both.0, rw at_y both.1)

  pub merging_next : Merging n ws us row (column + 1) p' q'
  merging_next = subst (λ k. Merging n ws us row (k + 1) p' q') (sym e) (merging_more s n ws fs us gs sound sound' row from p q low m (omega arith) p' q' next_p next_q)

-- the next column as an option
pub some_next : (c n x : ℕ) → Some x ≡ cond (ltb c n) (Some c) None → (x ≡ c) × (c < n)
some_next c n x e = ⊎_elim
    (λ (h : c < n). let here : Some x ≡ Some c = rw (lt-ltb c n h) at e in (cc, h))
    (λ (h : n ≤ c). let none : Some x ≡ None = rw (le-ltb c n h) at e in absurd (cc))
    (cases_lt c n)

pub none_next : (c n : ℕ) → None ≡ cond (ltb c n) (Some c) None → n ≤ c
none_next c n e = ⊎_elim
    (λ (h : c < n). let some : None ≡ Some c = rw (lt-ltb c n h) at e in absurd (cc))
    (λ (h : n ≤ c). h)
    (cases_lt c n)
