-- The unit table, packed and written.
use Rattle.std.proofs.Common.{◌≡◌, ℕ, zero, suc, ◌+◌, ◌<◌, ◌≤◌, false, ◌⊎◌, List, [], length, set, sym, refl, ap, ◌∙◌, ⊎_elim, add-one, arith}
use Rattle.std.proofs.lemmas.Bool.{cases_eq, eq-eqb, ne_eqb}
use Rattle.arithmetic.specs.Semiring.{Semiring, Figures}
use Rattle.matrix.specs.Tables.{unit_table}
use Rattle.sheet.specs.Packed.{stored, columns_below, row_start, packed_length}
use Rattle.sheet.specs.Writing.{Written, RowStarted}
use Rattle.sheet.proofs.Columns.{zero_not_stored, columns_no}
use Rattle.sheet.proofs.Laying.{Laying, laying_start, laying_corner, laying_row, laying_skip, laying_all}

module _ {F : Type 0} (s : Semiring F) where
  off_diagonal : (r c : ℕ) → (r ≡ c → ⊥) → unit_table s r c ≡ s.zero
  off_diagonal r c ne = rw (ne_eqb r c ne) refl

  on_diagonal : (r c : ℕ) → r ≡ c → unit_table s r c ≡ s.unit
  on_diagonal r c e = rw (eq-eqb r c e) refl

  unit_columns : (r c : ℕ) → columns_below s r (unit_table s r) c ≡ []
  unit_columns r zero = refl
  unit_columns r (suc c) = ap (columns_below s r (unit_table s r)) (sym (add-one c)) ∙ (columns_no s r (unit_table s r) c (none (cases_eq c r)) ∙ unit_columns r c)
    where
      none : (c ≡ r) ⊎ (c ≡ r → ⊥) → stored s r (unit_table s r) c ≡ false
      none = ⊎_elim
          (λ (e : c ≡ r). rw (eq-eqb c r e) refl)
          (λ (ne : c ≡ r → ⊥). zero_not_stored s r (unit_table s r) c (off_diagonal r c (λ e. ne (sym e))))

  unit_starts : (n r : ℕ) → row_start s n (unit_table s) r ≡ n + 1
  unit_starts n zero = refl
  unit_starts n (suc r) = let before = unit_starts n r in let none = ap length (unit_columns r n) in omega arith

  pub unit_length : (n : ℕ) → packed_length s n (unit_table s) ≡ n + 1
  unit_length n = unit_starts n n

module _ {S : Type 0} (a : Figures S) (n : ℕ) (ws : List ℕ) (fs : List S) (room : n + 1 ≤ length ws) (level : length fs ≡ length ws) where
  fits : packed_length a.ring n (unit_table a.ring) ≤ length ws
  fits = let e = unit_length a.ring n in omega arith

  pub unit_start : (ws' : List ℕ) (fs' : List S) → RowStarted a 0 (n + 1) ws fs ws' fs' → Laying a n (unit_table a.ring) ws fs 0 0 ws' fs' (n + 1)
  unit_start = laying_start a n (unit_table a.ring) ws fs fits level

  -- one row: its unit, and the start of the next
  pub unit_row : (r : ℕ) → r < n → (ws' : List ℕ) (fs' : List S) → Laying a n (unit_table a.ring) ws fs r 0 ws' fs' (n + 1) → (u : S) → a.meaning u ≡ a.ring.unit → (ws'' : List ℕ) (fs'' : List S) → RowStarted a (r + 1) (n + 1) ws' (set fs' r u) ws'' fs'' → Laying a n (unit_table a.ring) ws fs (r + 1) 0 ws'' fs'' (n + 1)
  unit_row r low ws' fs' l u u_is ws'' fs'' w =
      let t = unit_table a.ring in
      let before = laying_skip a n t ws fs fits level r 0 r low (omega arith) ws' fs' (n + 1) (λ j from to. off_diagonal a.ring r j (λ e. omega arith)) l in
      let corner = laying_corner a n t ws fs fits level r r low ws' fs' (n + 1) before refl u (u_is ∙ sym (on_diagonal a.ring r r refl)) (set fs' r u) refl in
      let all = laying_skip a n t ws fs fits level r (r + 1) n low (omega arith) ws' (set fs' r u) (n + 1) (λ j from to. off_diagonal a.ring r j (λ e. omega arith)) corner in
      laying_row a n t ws fs fits level r n low ws' (set fs' r u) (n + 1) all refl ws'' fs'' w

  pub unit_all : (r : ℕ) → r ≡ n → (ws' : List ℕ) (fs' : List S) → Laying a n (unit_table a.ring) ws fs r 0 ws' fs' (n + 1) → Written a n (unit_table a.ring) ws fs ws' fs'
  unit_all r done ws' fs' l = (laying_all a n (unit_table a.ring) ws fs fits level r done ws' fs' (n + 1) l).0
