-- The walk over the cells of a sheet that is flipped, row by row.
use Rattle.std.proofs.Common.{◌≡◌, ℕ, ◌+◌, ◌-◌, ◌<◌, ◌≤◌, true, cond, eqb, List, length, get_or, set, sym, refl, ap, ◌∙◌, subst, ⊎_elim, arith}
use Rattle.std.proofs.lemmas.List.{get_or-set_same, get_or-set_other, length-set}
use Rattle.std.proofs.lemmas.Bool.{cases_eq, eq-eqb, ne_eqb}
use Rattle.arithmetic.specs.Semiring.{Figures, meanings}
use Rattle.sheet.specs.Packed.{stored, columns_below, row_start, table}
use Rattle.sheet.specs.Writing.{Written}
use Rattle.sheet.proofs.Found.{row_past, cell_at}
use Rattle.sheet.proofs.Unique.{cell_figure, cell_stored}
use Rattle.transpose.specs.Flipping.{hits, HeadLaid}
use Rattle.transpose.proofs.Hits.{hits_more, hits_here, hits_rows, hits_all, stored_swap}
use Rattle.transpose.proofs.Flips.{flipped_table, Flip, fits}
use Rattle.transpose.proofs.Turns.{Turned, turned_none, turned_more, turned_all, place_within}

module _ {S : Type 0} (a : Figures S) (n : ℕ) (ws : List ℕ) (fs : List S) (d : List ℕ) (e : List S) where
  -- the cells of the sheet before place q are moved to d' and e'
  pub record Walking (q : ℕ) (d' : List ℕ) (e' : List S) (next : List ℕ) : Type 0 where
    pub flip : Flip a n ws fs d e
    pub turned : Turned a n (flipped_table a ws fs) d e d' e' next
    pub next_long : length next ≡ 1024
    pub next_is : (c : ℕ) → c < n → get_or next c 0 ≡ row_start a.ring n (flipped_table a ws fs) c + hits ws c (n + 1) (q - (n + 1))

module _ {S : Type 0} {a : Figures S} {n : ℕ} {ws : List ℕ} {fs : List S} {d : List ℕ} {e : List S} where
  pub walking_none : Flip a n ws fs d e → (d' : List ℕ) (e' : List S) (next : List ℕ) → HeadLaid a n (flipped_table a ws fs) d e d' e' → length next ≡ 1024 → ((c : ℕ) → c < n → get_or next c 0 ≡ row_start a.ring n (flipped_table a ws fs) c) → Walking a n ws fs d e (get_or ws 0 0) d' e' next
  walking_none flip d' e' next laid next_long starts =
      let sound = flip.sound in
      let some = sound.room in
      let first = ((sound.rules 0 (omega arith)).head (omega arith)).first refl in
      let none : get_or ws 0 0 - (n + 1) ≡ 0 = omega arith in
      record {
        flip = flip;
        turned = turned_none a n flip.small (flipped_table a ws fs) d e (fits flip) flip.even d' e' next laid starts;
        next_long = next_long;
        next_is = λ c h. rw none (starts c h ∙ omega arith);
      }

  module _ {q : ℕ} {d' : List ℕ} {e' : List S} {next : List ℕ} (w : Walking a n ws fs d e q d' e' next) (row : ℕ) (low : row < n) (from : get_or ws row 0 ≤ q) (to : q < get_or ws (row + 1) 0) where
    -- the column of a cell, and its place, which is free
    module _ (c : ℕ) (c_is : c ≡ get_or ws q 0) where
      pub column_low : c < n
      column_low = rw c_is (cell_at a.ring n ws (meanings a fs) w.flip.sound row low q from to).0

      cell_there : stored a.ring c (flipped_table a ws fs c) row ≡ true
      cell_there = stored_swap a.ring n ws (meanings a fs) w.flip.sound row c ∙ rw c_is (cell_stored a.ring n ws (meanings a fs) w.flip.sound row low q from to)

      place : get_or next c 0 ≡ row_start a.ring n (flipped_table a ws fs) c + length (columns_below a.ring c (flipped_table a ws fs c) row)
      place = w.next_is c column_low ∙ ap (λ x. row_start a.ring n (flipped_table a ws fs) c + x) (hits_here a.ring n ws (meanings a fs) w.flip.sound c row low q from to (sym c_is) ∙ hits_rows a.ring n ws (meanings a fs) w.flip.sound c row (omega arith))

      pub place_free : get_or next c 0 < length d'
      place_free =
          let there = (place_within a n w.flip.small (flipped_table a ws fs) d e (fits w.flip) w.flip.even d' e' next w.turned row c low column_low cell_there place).1 in
          omega (arith, fits w.flip, w.turned.head.words_long)

      -- the cell is moved
      pub walking_cell : (y : S) → a.meaning y ≡ get_or (meanings a fs) q a.ring.zero → (d'' : List ℕ) (e'' : List S) (next' : List ℕ) → d'' ≡ set d' (get_or next c 0) row → e'' ≡ set e' (get_or next c 0) y → next' ≡ set next c (get_or next c 0 + 1) → Walking a n ws fs d e (q + 1) d'' e'' next'
      walking_cell y y_is d'' e'' next' de ee ne =
          let past = row_past a.ring n ws (meanings a fs) w.flip.sound row (omega arith) in
          let figure : a.meaning y ≡ flipped_table a ws fs c row = y_is ∙ (sym (cell_figure a.ring n ws (meanings a fs) w.flip.sound row low q from to) ∙ ap (table a.ring ws (meanings a fs) row) (sym c_is)) in
          rw (de, ee, ne) (record {
            flip = w.flip;
            turned = turned_more a n w.flip.small (flipped_table a ws fs) d e (fits w.flip) w.flip.even d' e' next w.turned row c low column_low cell_there place w.next_long y figure;
            next_long = length-set next c (get_or next c 0 + 1) ∙ w.next_long;
            next_is = λ k h. step k h ∙ ap (λ x. row_start a.ring n (flipped_table a ws fs) k + x) (sym (hits_more ws k (n + 1) q (omega arith)));
          })
        where
          step : (k : ℕ) → k < n → get_or (set next c (get_or next c 0 + 1)) k 0 ≡ row_start a.ring n (flipped_table a ws fs) k + (hits ws k (n + 1) (q - (n + 1)) + cond (eqb (get_or ws q 0) k) 1 0)
          step k h = ⊎_elim
              (λ (same : c ≡ k).
              let one = ap (λ b. cond {A = ℕ} b 1 0) (eq-eqb (get_or ws q 0) k (sym c_is ∙ same)) in
              let was = w.next_is k h in
              let now : get_or (set next c (get_or next c 0 + 1)) k 0 ≡ get_or next k 0 + 1 = subst (λ x. get_or (set next c (get_or next c 0 + 1)) x 0 ≡ get_or next x 0 + 1) same (get_or-set_same next c (get_or next c 0 + 1) 0 (omega (arith, w.next_long, w.flip.small, column_low))) in
              omega arith)
              (λ (ne : c ≡ k → ⊥).
              let none = ap (λ b. cond {A = ℕ} b 1 0) (ne_eqb (get_or ws q 0) k (λ z. ne (c_is ∙ z))) in
              let was = w.next_is k h in
              let now = get_or-set_other next c k (get_or next c 0 + 1) 0 (λ z. ne (sym z)) in
              omega arith)
              (cases_eq c k)

  -- every cell is moved
  pub walking_over : (d' : List ℕ) (e' : List S) (next : List ℕ) → Walking a n ws fs d e (length ws) d' e' next → Written a n (flipped_table a ws fs) d e d' e'
  walking_over d' e' next w =
      turned_all a n w.flip.small (flipped_table a ws fs) d e (fits w.flip) w.flip.even d' e' next w.turned
      (λ c h. w.next_is c h ∙ ap (λ x. row_start a.ring n (flipped_table a ws fs) c + x) (hits_all a.ring n ws (meanings a fs) w.flip.sound c))

  pub walking_done : (d' : List ℕ) (e' : List S) (next : List ℕ) → Walking a n ws fs d e (get_or ws n 0) d' e' next → Written a n (flipped_table a ws fs) d e d' e'
  walking_done d' e' next w =
      let last = ((w.flip.sound.rules n w.flip.sound.room).head (omega arith)).last refl in
      walking_over d' e' next (rw last at w)
