-- A table that is gone through cell by cell: what is counted of it, and what is written.
use Rattle.std.proofs.Common.{◌≡◌, ℕ, ◌+◌, ◌<◌, ◌≤◌, cond, not, ◌&&◌, eqb, ◌⊎◌, List, length, Some, None, sym, refl, ap, ◌∙◌, subst, ap₂, inl, inr, add-one, arith}
use Rattle.arithmetic.specs.Semiring.{Figures}
use Rattle.matrix.specs.Tables.{Table}
use Rattle.sheet.specs.Packed.{stored, packed_length}
use Rattle.sheet.specs.Writing.{RowStarted, EntryWritten}
use Rattle.sheet.specs.declared.sound.RowCell.{RowCell}
use Rattle.sheet.proofs.Laying.{Laying, spot, spot_row, spot_more, spot_within, laying_entry, laying_room, laying_row, laying_skip}
use Rattle.sheet.proofs.Lists.{spot_quiet}
use Rattle.sum.specs.Merging.{NextCell}

module _ {S : Type 0} (a : Figures S) (n : ℕ) (t : Table a.F) (row from : ℕ) (low : row < n) (row' from' : ℕ) where
  -- what the stored cells take up to column m, if the cells before it are zero
  quiet : (m : ℕ) → from ≤ m → m ≤ n → ((j : ℕ) → from ≤ j → j < m → t row j ≡ a.ring.zero) → spot a.ring n t row from ≡ spot a.ring n t row m
  quiet m up high gap = spot_quiet a.ring n t row from row m (inr (refl, up)) (omega arith) (λ x y at before in_row. pass x y at before) high
    where
      pass : (x y : ℕ) → (row < x) ⊎ ((row ≡ x) × (from ≤ y)) → (x < row) ⊎ ((x ≡ row) × (y < m)) → t x y ≡ a.ring.zero
      pass x y (inl h) (inl g) = absurd (omega arith)
      pass x y (inl h) (inr g) = let e = g.0 in absurd (omega arith)
      pass x y (inr h) (inl g) = let e = h.0 in absurd (omega arith)
      pass x y (inr h) (inr g) = ap (λ k. t k y) g.0 ∙ gap y h.1 g.1

  -- one more cell is counted
  pub counted_cell : (cell : RowCell S) → NextCell a n t row from (Some cell) row' from' → (count more : ℕ) → count ≡ spot a.ring n t row from → more ≡ cond (not (eqb cell.column row) && not (a.ring.is_zero (a.meaning cell.figure))) 1 0 → count + more ≡ spot a.ring n t row from'
  counted_cell cell next count more is told =
      let short = next.1 in
      ap₂ ◌+◌ (is ∙ quiet cell.column next.0 (omega arith) next.2) (told ∙ ap (λ v. cond (not (eqb cell.column row) && not (a.ring.is_zero v)) 1 0) next.3)
      ∙ (spot_more a.ring n t row cell.column (stored a.ring row (t row) cell.column) refl ∙ ap (spot a.ring n t row) (sym next.5))

  -- the row is counted
  pub counted_row : from ≤ n → NextCell a n t row from None row' from' → spot a.ring n t row from ≡ spot a.ring n t (row + 1) 0
  counted_row within next = quiet n within (omega arith) next.0 ∙ (sym (spot_row a.ring n t row) ∙ ap (λ k. spot a.ring n t k 0) (sym (add-one row)))

  module _ (ws : List ℕ) (fs : List S) (room : packed_length a.ring n t ≤ length ws) (even : length fs ≡ length ws) (ws' : List ℕ) (fs' : List S) (at : ℕ) (l : Laying a n t ws fs row from ws' fs' at) where
    reached : (cell : RowCell S) → NextCell a n t row from (Some cell) row' from' → Laying a n t ws fs row cell.column ws' fs' at
    reached cell next = laying_skip a n t ws fs room even row from cell.column low next.0 ws' fs' at next.2 l

    -- where a cell that is stored goes, there is room
    pub written_room : (cell : RowCell S) → NextCell a n t row from (Some cell) row' from' → (cell.column ≡ row → ⊥) → (a.meaning cell.figure ≡ a.ring.zero → ⊥) → at < length ws
    written_room cell next = laying_room a n t ws fs room even row cell.column low ws' fs' at (reached cell next) next.1 cell.figure next.3

    -- one more cell is written
    pub written_cell : (cell : RowCell S) → NextCell a n t row from (Some cell) row' from' → (ws'' : List ℕ) (fs'' : List S) (at' : ℕ) → EntryWritten a row cell.column cell.figure at ws' fs' ws'' fs'' at' → Laying a n t ws fs row from' ws'' fs'' at'
    written_cell cell next ws'' fs'' at' w = subst (λ k. Laying a n t ws fs row k ws'' fs'' at') (sym next.5) (laying_entry a n t ws fs room even row cell.column low ws' fs' at (reached cell next) next.1 cell.figure next.3 ws'' fs'' at' w)

    -- the row ends, and the next one starts where its cells end
    ended : from ≤ n → NextCell a n t row from None row' from' → Laying a n t ws fs row n ws' fs' at
    ended within next = laying_skip a n t ws fs room even row from n low within ws' fs' at next.0 l

    pub written_end : from ≤ n → NextCell a n t row from None row' from' → at ≤ length ws
    written_end within next = let here = (ended within next).at_is in let high = spot_within a.ring n t row n low (omega arith) in omega arith

    pub written_row : (within : from ≤ n) → NextCell a n t row from None row' from' → (ws'' : List ℕ) (fs'' : List S) → RowStarted a (row + 1) at ws' fs' ws'' fs'' → Laying a n t ws fs (row + 1) 0 ws'' fs'' at
    written_row within next ws'' fs'' w = laying_row a n t ws fs room even row n low ws' fs' at (ended within next) refl ws'' fs'' w
