-- The stored cells of a row of a sound sheet, and the sum over a row.
use Rattle.std.proofs.Common.{◌≡◌, ℕ, zero, suc, ◌+◌, ◌-◌, ◌<◌, ◌≤◌, List, length, get_or, sym, refl, ap, ◌∙◌, ⊎_elim, arith}
use Rattle.std.proofs.lemmas.Bool.{cases_lt, eq-eqb, ne_eqb}
use Rattle.arithmetic.specs.Semiring.{Semiring}
use Rattle.matrix.specs.Tables.{sum}
use Rattle.matrix.specs.Vectors.{column_worked}
use Rattle.matrix.proofs.Sums.{add-zero, sum-zero, sum_change}
use Rattle.sheet.specs.Packed.{Rising, Sound, found, table}
use Rattle.sheet.proofs.Rows.{heads_rise, same_row}

module _ {F : Type 0} (s : Semiring F) (n : ℕ) (ws : List ℕ) (fs : List F) (sound : Sound s n ws fs) where
  pub sound_rises : Rising n ws
  sound_rises = heads_rise s n ws fs (λ p h. let room = sound.room in sound.rules p (omega arith))

  pub row_past : (i : ℕ) → i ≤ n → n < get_or ws i 0
  row_past i h =
      let room = sound.room in
      let first = ((sound.rules 0 (omega arith)).head (omega arith)).first refl in
      let up = sound_rises 0 i (omega arith) h in
      omega arith

  pub row_within : (i : ℕ) → i ≤ n → get_or ws i 0 ≤ length ws
  row_within i h =
      let up = sound_rises i n h (omega arith) in
      let last = ((sound.rules n sound.room).head (omega arith)).last refl in
      omega arith

  module _ (i : ℕ) (low : i < n) where
    -- a stored cell of row i
    pub cell_at : (p : ℕ) → get_or ws i 0 ≤ p → p < get_or ws (i + 1) 0 → (get_or ws p 0 < n) × (get_or ws p 0 ≡ i → ⊥) × (get_or ws i 0 < p → get_or ws (p - 1) 0 < get_or ws p 0)
    cell_at p from to =
        let past = row_past i (omega arith) in
        let within = row_within (i + 1) (omega arith) in
        let k = (sound.rules p (omega arith)).cell (omega arith) in
        let e : k.row ≡ i = same_row n ws sound_rises p k.row i k.row_below low k.from k.to from to in
        (k.column_below, (λ z. k.off (z ∙ sym e)), rw e at k.rises)

    -- the columns of a row rise
    pub columns_rise : (p q : ℕ) → get_or ws i 0 ≤ p → p < q → q < get_or ws (i + 1) 0 → get_or ws p 0 < get_or ws q 0
    columns_rise p zero from up to = absurd (omega arith)
    columns_rise p (suc q) from up to =
        let e : suc q - 1 ≡ q = omega arith in
        let step : get_or ws q 0 < get_or ws (suc q) 0 = rw e at ((cell_at (suc q) (omega arith) to).2 (omega arith)) in
        ⊎_elim
        (λ (h : p < q). let before = columns_rise p q from h (omega arith) in omega arith)
        (λ (h : q ≤ p). let e : p ≡ q = omega arith in rw e step)
        (cases_lt p q)

pub not_found : {F : Type 0} (s : Semiring F) (ws : List ℕ) (fs : List F) (c p k : ℕ) → ((q : ℕ) → p ≤ q → q < p + k → get_or ws q 0 ≡ c → ⊥) → found s ws fs c p k ≡ s.zero
not_found s ws fs c p zero none = refl
not_found s ws fs c p (suc k) none =
    rw (ne_eqb (get_or ws p 0) c (none p (omega arith) (omega arith))) (not_found s ws fs c (p + 1) k (λ q low high. none q (omega arith) (omega arith)))

-- the cells of row i from position p on, one position after another
module _ {F : Type 0} (s : Semiring F) (n : ℕ) (ws : List ℕ) (fs : List F) (i p : ℕ) (to : p < get_or ws (i + 1) 0) where
  left : get_or ws (i + 1) 0 - p ≡ suc (get_or ws (i + 1) 0 - (p + 1))
  left = omega arith

  pub found_here : found s ws fs (get_or ws p 0) p (get_or ws (i + 1) 0 - p) ≡ get_or fs p s.zero
  found_here = rw (left, eq-eqb (get_or ws p 0) (get_or ws p 0) refl) refl

  pub found_past : (c : ℕ) → (c ≡ get_or ws p 0 → ⊥) → found s ws fs c p (get_or ws (i + 1) 0 - p) ≡ found s ws fs c (p + 1) (get_or ws (i + 1) 0 - (p + 1))
  found_past c ne = rw (left, ne_eqb (get_or ws p 0) c (λ e. ne (sym e))) refl

  pub found_once : Sound s n ws fs → i < n → get_or ws i 0 ≤ p → found s ws fs (get_or ws p 0) (p + 1) (get_or ws (i + 1) 0 - (p + 1)) ≡ s.zero
  found_once sound low from = not_found s ws fs _ (p + 1) _ (λ q after before e. let up = columns_rise s n ws fs sound i low p q from (omega arith) (omega arith) in omega arith)

pub found_none : {F : Type 0} (s : Semiring F) (ws : List ℕ) (fs : List F) (i p c : ℕ) → get_or ws (i + 1) 0 ≤ p → found s ws fs c p (get_or ws (i + 1) 0 - p) ≡ s.zero
found_none s ws fs i p c end = let none : get_or ws (i + 1) 0 - p ≡ 0 = omega arith in rw none refl

-- the diagonal is not stored among the cells of its row
pub off_diagonal : {F : Type 0} (s : Semiring F) (n : ℕ) (ws : List ℕ) (fs : List F) → Sound s n ws fs → (i : ℕ) → i < n → found s ws fs i (get_or ws i 0) (get_or ws (i + 1) 0 - get_or ws i 0) ≡ s.zero
off_diagonal s n ws fs sound i low = not_found s ws fs i _ _ (λ q from to. (cell_at s n ws fs sound i low q from (omega arith)).1)

pub table_here : {F : Type 0} (s : Semiring F) (ws : List ℕ) (fs : List F) (i : ℕ) → table s ws fs i i ≡ get_or fs i s.zero
table_here s ws fs i = rw (eq-eqb i i refl) refl

pub table_off : {F : Type 0} (s : Semiring F) (ws : List ℕ) (fs : List F) (i j : ℕ) → (j ≡ i → ⊥) → table s ws fs i j ≡ found s ws fs j (get_or ws i 0) (get_or ws (i + 1) 0 - get_or ws i 0)
table_off s ws fs i j ne = rw (ne_eqb i j (λ e. ne (sym e))) refl

-- what the cells of row i from position p on add, against v
abbrev pub rest : {F : Type 0} → Semiring F → ℕ → List ℕ → List F → (ℕ → F) → ℕ → ℕ → F
rest s n ws fs v i p = sum s n (λ j. s.mul (found s ws fs j p (get_or ws (i + 1) 0 - p)) (v j))

module _ {F : Type 0} (s : Semiring F) (n : ℕ) (ws : List ℕ) (fs : List F) (sound : Sound s n ws fs) (v : ℕ → F) (i : ℕ) (low : i < n) where
  -- a product with what was not found adds nothing
  nothing : (u y z : F) → z ≡ s.zero → u ≡ s.add u (s.mul z y)
  nothing u y z e = sym (rw (e, s.zero-mul y) (add-zero s u))

  pub rest_none : (p : ℕ) → get_or ws (i + 1) 0 ≤ p → rest s n ws fs v i p ≡ s.zero
  rest_none p end = sum-zero s n _ (λ j h. rw (found_none s ws fs i p j end) (s.zero-mul _))

  -- one stored cell
  pub rest_more : (p : ℕ) → get_or ws i 0 ≤ p → p < get_or ws (i + 1) 0 → rest s n ws fs v i p ≡ s.add (s.mul (get_or fs p s.zero) (v (get_or ws p 0))) (rest s n ws fs v i (p + 1))
  rest_more p from to = sum_change s n _ _ (get_or ws p 0) _ (cell_at s n ws fs sound i low p from to).0
      (ap (λ y. s.mul y (v (get_or ws p 0))) (found_here s n ws fs i p to) ∙ nothing _ _ _ (found_once s n ws fs i p to sound low from))
      (λ j h ne. ap (λ y. s.mul y (v j)) (found_past s n ws fs i p to j ne))

  -- the diagonal first
  pub rest_all : column_worked s n (table s ws fs) v i ≡ s.add (s.mul (get_or fs i s.zero) (v i)) (rest s n ws fs v i (get_or ws i 0))
  rest_all = sum_change s n _ _ i _ low
      (ap (λ y. s.mul y (v i)) (table_here s ws fs i) ∙ nothing _ _ _ (off_diagonal s n ws fs sound i low))
      (λ j h ne. ap (λ y. s.mul y (v j)) (table_off s ws fs i j ne))

  -- the loop over a row: what is added so far, t, and what is left come to the whole
  pub worked_start : (t : F) → t ≡ s.mul (get_or fs i s.zero) (v i) → s.add t (rest s n ws fs v i (get_or ws i 0)) ≡ column_worked s n (table s ws fs) v i
  worked_start t e = rw e (sym rest_all)

  pub worked_more : (t u : F) (p : ℕ) → get_or ws i 0 ≤ p → p < get_or ws (i + 1) 0 → u ≡ s.add t (s.mul (get_or fs p s.zero) (v (get_or ws p 0))) → s.add t (rest s n ws fs v i p) ≡ column_worked s n (table s ws fs) v i → s.add u (rest s n ws fs v i (p + 1)) ≡ column_worked s n (table s ws fs) v i
  worked_more t u p from to e so_far = rw e (s.add_assoc _ _ _ ∙ (ap (s.add t) (sym (rest_more p from to)) ∙ so_far))

  pub worked_all : (t : F) (p : ℕ) → get_or ws (i + 1) 0 ≤ p → s.add t (rest s n ws fs v i p) ≡ column_worked s n (table s ws fs) v i → t ≡ column_worked s n (table s ws fs) v i
  worked_all t p end so_far = sym (add-zero s t) ∙ (ap (s.add t) (sym (rest_none p end)) ∙ so_far)
