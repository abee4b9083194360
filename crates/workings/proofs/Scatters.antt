-- A vector times a sheet, whose stored cells are added to a list of figures, row by row and position by position.
use Rattle.std.proofs.Common.{◌≡◌, ℕ, ◌+◌, ◌-◌, ◌<◌, ◌≤◌, List, length, get_or, set, sym, refl, ap, ◌∙◌, ⊎_elim, arith}
use Rattle.std.proofs.lemmas.List.{get_or-set_same, get_or-set_other}
use Rattle.std.proofs.lemmas.Bool.{cases_eq}
use Rattle.arithmetic.specs.Semiring.{Semiring}
use Rattle.matrix.specs.Tables.{sum}
use Rattle.matrix.specs.Vectors.{Vector, row_worked, figure_at}
use Rattle.matrix.proofs.Sums.{add-zero, sum_more, sum_change}
use Rattle.sheet.specs.Packed.{Sound, found, table}
use Rattle.workings.specs.Scattering.{off_cell, Grew}
use Rattle.sheet.proofs.Found.{cell_at, found_here, found_past, found_once, found_none, off_diagonal, table_here, table_off}

-- a walk along row i stands at position p; what is left of the row, times f, has still to be added to out
pub record Scattered {F : Type 0} (s : Semiring F) (n : ℕ) (ws : List ℕ) (fs : List F) (i : ℕ) (f : F) (before out : List F) (p : ℕ) : Type 0 where
  pub columns : (q : ℕ) → get_or ws i 0 ≤ q → q < get_or ws (i + 1) 0 → get_or ws q 0 < n
  pub sums : (c : ℕ) → c < n → s.add (figure_at s out c) (s.mul f (found s ws fs c p (get_or ws (i + 1) 0 - p))) ≡ s.add (figure_at s before c) (s.mul f (off_cell s ws fs i c))

module _ {F : Type 0} (s : Semiring F) (n : ℕ) (ws : List ℕ) (fs : List F) (sound : Sound s n ws fs) (i : ℕ) (low : i < n) (f : F) where
  nothing : (u y : F) → y ≡ s.zero → s.add u (s.mul f y) ≡ u
  nothing u y e = rw (e, s.mul-zero f) (add-zero s u)

  pub scatter_none : (out : List F) → Scattered s n ws fs i f out out (get_or ws i 0)
  scatter_none out = record {
    columns = λ q from to. (cell_at s n ws fs sound i low q from to).0;
    sums = λ c h. refl;
  }

  pub scatter_more : (before out : List F) (u : F) (p : ℕ) → n ≤ length out → get_or ws i 0 ≤ p → p < get_or ws (i + 1) 0 → u ≡ s.add (figure_at s out (get_or ws p 0)) (s.mul f (get_or fs p s.zero)) → Scattered s n ws fs i f before out p → Scattered s n ws fs i f before (set out (get_or ws p 0) u) (p + 1)
  scatter_more before out u p room from to e so_far = record {
    columns = so_far.columns;
    sums = λ c h. ⊎_elim
        (λ (same : c ≡ get_or ws p 0).
        let column = so_far.columns p from to in
        let in_range : get_or ws p 0 < length out = omega arith in
        rw (same, get_or-set_same out (get_or ws p 0) u s.zero in_range)
        (nothing _ _ (found_once s n ws fs i p to sound low from) ∙ (e ∙ (ap (λ y. s.add (figure_at s out (get_or ws p 0)) (s.mul f y)) (sym (found_here s n ws fs i p to)) ∙ so_far.sums (get_or ws p 0) column))))
        (λ (ne : c ≡ get_or ws p 0 → ⊥). rw (get_or-set_other out (get_or ws p 0) c u s.zero ne, sym (found_past s n ws fs i p to c ne)) (so_far.sums c h))
        (cases_eq c (get_or ws p 0));
  }

  pub scatter_all : (before out : List F) (p : ℕ) → get_or ws (i + 1) 0 ≤ p → Scattered s n ws fs i f before out p → Grew s n (λ c. s.mul f (off_cell s ws fs i c)) before out
  scatter_all before out p end so_far c h = sym (nothing _ _ (found_none s ws fs i p c end)) ∙ so_far.sums c h

-- the diagonal and the first i rows have been added to out
abbrev pub Spread : {F : Type 0} → Semiring F → ℕ → List ℕ → List F → Vector F → List F → ℕ → Type 0
Spread s n ws fs y out i = (c : ℕ) → c < n → figure_at s out c ≡ s.add (s.mul (y c) (figure_at s fs c)) (sum s i (λ k. s.mul (y k) (off_cell s ws fs k c)))

module _ {F : Type 0} (s : Semiring F) (n : ℕ) (ws : List ℕ) (fs : List F) (y : Vector F) where
  pub spread_none : (out : List F) → ((c : ℕ) → c < n → figure_at s out c ≡ s.mul (y c) (figure_at s fs c)) → Spread s n ws fs y out 0
  spread_none out is c h = is c h ∙ sym (add-zero s _)

  pub spread_more : (before out : List F) (i : ℕ) → Spread s n ws fs y before i → Grew s n (λ c. s.mul (y i) (off_cell s ws fs i c)) before out → Spread s n ws fs y out (i + 1)
  spread_more before out i so_far grew c h =
      grew c h
      ∙ (ap (λ u. s.add u (s.mul (y i) (off_cell s ws fs i c))) (so_far c h)
      ∙ (s.add_assoc _ _ _
      ∙ ap (s.add (s.mul (y c) (figure_at s fs c))) (sym (sum_more s i (λ k. s.mul (y k) (off_cell s ws fs k c))))))

  -- the whole of column c: its diagonal and what the rows store in it
  pub spread_whole : Sound s n ws fs → (c : ℕ) → c < n → row_worked s n y (table s ws fs) c ≡ s.add (s.mul (y c) (figure_at s fs c)) (sum s n (λ k. s.mul (y k) (off_cell s ws fs k c)))
  spread_whole sound c low = sum_change s n _ _ c _ low
      (ap (s.mul (y c)) (table_here s ws fs c) ∙ sym (nothing s n ws fs sound c low (y c) _ _ (off_diagonal s n ws fs sound c low)))
      (λ k h ne. ap (s.mul (y k)) (table_off s ws fs k c (λ e. ne (sym e))))

  pub spread_all : Sound s n ws fs → (out : List F) → Spread s n ws fs y out n → (c : ℕ) → c < n → figure_at s out c ≡ row_worked s n y (table s ws fs) c
  spread_all sound out all c h = all c h ∙ sym (spread_whole sound c h)
