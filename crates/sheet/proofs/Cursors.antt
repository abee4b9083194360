-- A cursor that goes along a row while the column counts up.
use Rattle.std.proofs.Common.{◌≡◌, ℕ, ◌+◌, ◌-◌, ◌<◌, ◌≤◌, cond, eqb, ◌⊎◌, List, length, get_or, sym, refl, ap, ◌∙◌, inl, inr, ⊎_elim, arith}
use Rattle.std.proofs.lemmas.Bool.{cases_lt, cases_eq, eq-eqb, ne_eqb, lt-ltb, le-ltb}
use Rattle.arithmetic.specs.Semiring.{Semiring}
use Rattle.sheet.specs.Packed.{Sound, table}
use Rattle.sheet.proofs.Unique.{found_first}
use Rattle.sheet.proofs.Found.{sound_rises, row_past, row_within, cell_at, columns_rise, not_found, table_here, table_off}
use Rattle.sheet.specs.Cursors.{spot_of, column_of, Cursor}

module _ {F : Type 0} (s : Semiring F) (n : ℕ) (ws : List ℕ) (fs : List F) (sound : Sound s n ws fs) (i : ℕ) (low : i < n) where
  pub cursor_none : Cursor ws i 0 (get_or ws i 0)
  cursor_none = record {
    from = omega arith;
    to = sound_rises s n ws fs sound i (i + 1) (omega arith) (omega arith);
    behind = λ q from to. absurd (omega arith);
    ahead = λ q from to. omega arith;
  }

  module _ (k p : ℕ) (at : Cursor ws i k p) where
    abbrev Hit : Type 0
    Hit = (spot_of ws n i k p ≡ p) × (p < get_or ws (i + 1) 0) × (get_or ws p 0 ≡ k) × (k ≡ i → ⊥)

    abbrev Miss : Type 0
    Miss = (spot_of ws n i k p ≡ cond (eqb k i) i n) × (p < get_or ws (i + 1) 0 → get_or ws p 0 ≡ k → ⊥)

    either : Hit ⊎ Miss
    either = ⊎_elim
        (λ (e : k ≡ i). inr (rw (eq-eqb k i e) refl, λ to is. (cell_at s n ws fs sound i low p at.from to).1 (is ∙ e)))
        (λ (ne : k ≡ i → ⊥). ⊎_elim
        (λ (short : p < get_or ws (i + 1) 0). ⊎_elim
        (λ (is : get_or ws p 0 ≡ k). inl (rw (ne_eqb k i ne, lt-ltb p (get_or ws (i + 1) 0) short, eq-eqb (get_or ws p 0) k is) refl, short, is, ne))
        (λ (no : get_or ws p 0 ≡ k → ⊥). inr (rw (ne_eqb k i ne, lt-ltb p (get_or ws (i + 1) 0) short, ne_eqb (get_or ws p 0) k no) refl, λ to is. no is))
        (cases_eq (get_or ws p 0) k))
        (λ (past : get_or ws (i + 1) 0 ≤ p). inr (rw (ne_eqb k i ne, le-ltb p (get_or ws (i + 1) 0) past) refl, λ to is. absurd (omega arith)))
        (cases_lt p (get_or ws (i + 1) 0)))
        (cases_eq k i)

    -- a position past the cursor has a larger column
    later : (q : ℕ) → p < q → q < get_or ws (i + 1) 0 → k < get_or ws q 0
    later q past to = let a = at.ahead p (omega arith) (omega arith) in let u = columns_rise s n ws fs sound i low p q at.from past to in omega arith

    miss_apart : Miss → (q : ℕ) → p ≤ q → q < get_or ws (i + 1) 0 → k < get_or ws q 0
    miss_apart m q from to = ⊎_elim
        (λ (e : p ≡ q). let a = at.ahead q from to in let ne : get_or ws q 0 ≡ k → ⊥ = λ z. m.1 (omega arith) (ap (λ j. get_or ws j 0) e ∙ z) in omega (arith, ne))
        (λ (ne : p ≡ q → ⊥). later q (omega (arith, ne)) to)
        (cases_eq p q)

    pub spot_figure : get_or fs (spot_of ws n i k p) s.zero ≡ table s ws fs i k
    spot_figure = ⊎_elim
        (λ (h : Hit). rw (h.0, table_off s ws fs i k h.3) (sym (let to = at.to in let short = h.1 in let from = at.from in found_first s ws fs k (get_or ws i 0) (get_or ws (i + 1) 0 - get_or ws i 0) p from (omega arith) h.2 (λ r low' high z. let b = at.behind r low' high in omega arith))))
        (λ (m : Miss). ⊎_elim
        (λ (e : k ≡ i). rw (m.0, eq-eqb k i e, e) (sym (table_here s ws fs i)))
        (λ (ne : k ≡ i → ⊥).
        let room = sound.room in
        let spare = ((sound.rules n room).head (omega arith)).spare refl in
        rw (m.0, ne_eqb k i ne, table_off s ws fs i k ne) (spare ∙ sym (not_found s ws fs k (get_or ws i 0) _ (λ q from to z. ⊎_elim
        (λ (b : q < p). let l = at.behind q from b in omega arith)
        (λ (a : p ≤ q). let l = miss_apart m q a (omega arith) in omega arith)
        (cases_lt q p)))))
        (cases_eq k i))
        either

    pub spot_within : spot_of ws n i k p < length ws
    spot_within = let room = sound.room in let end = row_within s n ws fs sound (i + 1) (omega arith) in ⊎_elim
        (λ (h : Hit). rw h.0 (let z = h.1 in omega arith))
        (λ (m : Miss). ⊎_elim
        (λ (e : k ≡ i). rw (m.0, eq-eqb k i e) (omega arith))
        (λ (ne : k ≡ i → ⊥). rw (m.0, ne_eqb k i ne) room)
        (cases_eq k i))
        either

    miss_other : Miss → spot_of ws n i k p ≡ p → ⊥
    miss_other m e = let past = row_past s n ws fs sound i (omega arith) in let from = at.from in ⊎_elim
        (λ (z : k ≡ i). let w : i ≡ p = sym (m.0 ∙ rw (eq-eqb k i z) refl) ∙ e in omega arith)
        (λ (z : k ≡ i → ⊥). let w : n ≡ p = sym (m.0 ∙ rw (ne_eqb k i z) refl) ∙ e in omega arith)
        (cases_eq k i)

    pub cursor_hit : spot_of ws n i k p ≡ p → Cursor ws i (k + 1) (p + 1)
    cursor_hit e = ⊎_elim
        (λ (h : Hit). record {
          from = let z = at.from in omega arith;
          to = let z = h.1 in omega arith;
          behind = λ q from to. ⊎_elim
              (λ (b : q < p). let l = at.behind q from b in omega arith)
              (λ (a : p ≤ q). let same : q ≡ p = omega arith in rw (same, h.2) (omega arith))
              (cases_lt q p);
          ahead = λ q from to. let l = later q (omega arith) to in omega arith;
        })
        (λ (m : Miss). absurd (miss_other m e))
        either

    pub cursor_miss : (spot_of ws n i k p ≡ p → ⊥) → Cursor ws i (k + 1) p
    cursor_miss ne = ⊎_elim
        (λ (h : Hit). absurd (ne h.0))
        (λ (m : Miss). record {
          from = at.from;
          to = at.to;
          behind = λ q from to. let l = at.behind q from to in omega arith;
          ahead = λ q from to. let l = miss_apart m q from to in omega arith;
        })
        either

    -- the cursor after the cell: past it if it was there
    pub cursor_step : (p' : ℕ) → p' ≡ cond (eqb (spot_of ws n i k p) p) (p + 1) p → Cursor ws i (k + 1) p'
    cursor_step p' e = ⊎_elim
        (λ (hit : spot_of ws n i k p ≡ p). rw (e, eq-eqb (spot_of ws n i k p) p hit) (cursor_hit hit))
        (λ (miss : spot_of ws n i k p ≡ p → ⊥). rw (e, ne_eqb (spot_of ws n i k p) p miss) (cursor_miss miss))
        (cases_eq (spot_of ws n i k p) p)

    -- up to the column at the cursor nothing is stored
    pub cursor_skip : (m : ℕ) → k ≤ m → m ≤ column_of ws n i p → m ≤ n → Cursor ws i m p
    cursor_skip m le before low' = record {
      from = at.from;
      to = at.to;
      behind = λ q from to. let l = at.behind q from to in omega arith;
      ahead = λ q from to. ⊎_elim
          (λ (e : p ≡ q). let here : column_of ws n i p ≡ get_or ws p 0 = rw (lt-ltb p (get_or ws (i + 1) 0) (omega arith)) refl in let same = ap (λ j. get_or ws j 0) e in omega arith)
          (λ (ne : p ≡ q → ⊥).
          let past : p < q = omega (arith, ne) in
          let here : column_of ws n i p ≡ get_or ws p 0 = rw (lt-ltb p (get_or ws (i + 1) 0) (omega arith)) refl in
          let u = columns_rise s n ws fs sound i low p q at.from past to in
          omega arith)
          (cases_eq p q);
    }

    pub cursor_gap : (j : ℕ) → k ≤ j → j < column_of ws n i p → j < n → (j ≡ i → ⊥) → table s ws fs i j ≡ s.zero
    cursor_gap j from before low' off = table_off s ws fs i j off ∙ not_found s ws fs j (get_or ws i 0) _ (λ q low'' high is. ⊎_elim
        (λ (b : q < p). let l = at.behind q low'' b in omega arith)
        (λ (a : p ≤ q). let c = cursor_skip (j + 1) (omega arith) (omega arith) (omega arith) in let l = c.ahead q a (omega arith) in omega arith)
        (cases_lt q p))

    -- at the end of the row
    pub cursor_end : column_of ws n i p ≡ n → p ≡ get_or ws (i + 1) 0
    cursor_end over = ⊎_elim
        (λ (short : p < get_or ws (i + 1) 0).
        let here : column_of ws n i p ≡ get_or ws p 0 = rw (lt-ltb p (get_or ws (i + 1) 0) short) refl in
        let c = (cell_at s n ws fs sound i low p at.from short).0 in
        absurd (omega arith))
        (λ (past : get_or ws (i + 1) 0 ≤ p). let t = at.to in omega arith)
        (cases_lt p (get_or ws (i + 1) 0))
