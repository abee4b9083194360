-- A column that is sought among those of a row, which rise.
use Rattle.std.proofs.Common.{◌≡◌, ℕ, ◌+◌, ◌-◌, ◌<◌, ◌≤◌, List, length, get_or, ap, ◌∙◌, sym, ⊎_elim, arith}
use Rattle.std.proofs.lemmas.Bool.{cases_lt}
use Rattle.arithmetic.specs.Semiring.{Semiring}
use Rattle.sheet.specs.Packed.{Sound, table}
use Rattle.sheet.specs.Writing.{part}
use Rattle.sheet.proofs.Unique.{found_first}
use Rattle.sheet.proofs.Cells.{part_at, part_long}
use Rattle.sheet.proofs.Found.{row_within, columns_rise, not_found, table_off}

module _ {F : Type 0} (s : Semiring F) (n : ℕ) (ws : List ℕ) (fs : List F) (sound : Sound s n ws fs) (i c : ℕ) (low : i < n) (off : c ≡ i → ⊥) where
  row_end : get_or ws (i + 1) 0 ≤ length ws
  row_end = row_within s n ws fs sound (i + 1) (omega arith)

  long : length (part ws (get_or ws i 0) (get_or ws (i + 1) 0)) ≡ get_or ws (i + 1) 0 - get_or ws i 0
  long = part_long ws (get_or ws i 0) (get_or ws (i + 1) 0) row_end

  at : (k : ℕ) → k < get_or ws (i + 1) 0 - get_or ws i 0 → get_or (part ws (get_or ws i 0) (get_or ws (i + 1) 0)) k 0 ≡ get_or ws (get_or ws i 0 + k) 0
  at k h = part_at ws (get_or ws i 0) (get_or ws (i + 1) 0) k 0 h

  -- the columns of the row rise
  pub part_rises : (j k : ℕ) → j ≤ k → k < length (part ws (get_or ws i 0) (get_or ws (i + 1) 0)) → get_or (part ws (get_or ws i 0) (get_or ws (i + 1) 0)) j 0 ≤ get_or (part ws (get_or ws i 0) (get_or ws (i + 1) 0)) k 0
  part_rises j k le h =
      let l = long in
      rw (at j (omega arith), at k (omega arith)) (⊎_elim
      (λ (less : j < k). let up = columns_rise s n ws fs sound i low (get_or ws i 0 + j) (get_or ws i 0 + k) (omega arith) (omega arith) (omega arith) in omega arith)
      (λ (same : k ≤ j). let e : j ≡ k = omega arith in rw e (omega arith))
      (cases_lt j k))

  pub sought_within : (k : ℕ) → k < length (part ws (get_or ws i 0) (get_or ws (i + 1) 0)) → get_or ws i 0 + k < length ws
  sought_within k h = let l = long in let e = row_end in omega arith

  -- a column that is there
  pub sought_there : (k : ℕ) → k < length (part ws (get_or ws i 0) (get_or ws (i + 1) 0)) → get_or (part ws (get_or ws i 0) (get_or ws (i + 1) 0)) k 0 ≡ c → table s ws fs i c ≡ get_or fs (get_or ws i 0 + k) s.zero
  sought_there k h is =
      let l = long in
      let here : get_or ws (get_or ws i 0 + k) 0 ≡ c = sym (at k (omega arith)) ∙ is in
      table_off s ws fs i c off
      ∙ found_first s ws fs c (get_or ws i 0) (get_or ws (i + 1) 0 - get_or ws i 0) (get_or ws i 0 + k) (omega arith) (omega arith) here
      (λ j low' high z. let up = columns_rise s n ws fs sound i low j (get_or ws i 0 + k) low' high (omega arith) in omega arith)

  -- a column that is not
  pub sought_nowhere : ((k : ℕ) → k < length (part ws (get_or ws i 0) (get_or ws (i + 1) 0)) → get_or (part ws (get_or ws i 0) (get_or ws (i + 1) 0)) k 0 ≡ c → ⊥) → table s ws fs i c ≡ s.zero
  sought_nowhere none =
      table_off s ws fs i c off
      ∙ not_found s ws fs c (get_or ws i 0) (get_or ws (i + 1) 0 - get_or ws i 0) (λ q low' high z.
      let l = long in
      let e : get_or ws i 0 + (q - get_or ws i 0) ≡ q = omega arith in
      none (q - get_or ws i 0) (omega arith) (at (q - get_or ws i 0) (omega arith) ∙ (ap (λ x. get_or ws x 0) e ∙ z)))
