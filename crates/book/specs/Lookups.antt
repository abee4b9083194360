-- The calls that look things up: what each answers. None of them changes anything.
use Rattle.std.specs.Prelude.{◌≡◌, ℕ, ◌+◌, ◌≤◌, List, [], ◌∷◌, ◌++◌, length, Ok, Err, Result, slice_index}
use Rattle.std.specs.Borrow.{Bor}
use Rattle.arithmetic.specs.Semiring.{Figures}
use Rattle.sheet.specs.declared.refusal.Refusal.{Refusal}
use Rattle.sheet.specs.Writing.{part}
use Rattle.book.specs.Book.{Arrays, start_of, sheet_index, sheet_table}
use Rattle.book.specs.Lines.{Line, Granted, SentBack, guard, missing, outside, outside_row}

module _ {S : Type 0} (b : Arrays S) where
  -- where the off-diagonal cells of a row of sheet k begin in the index array, and one past their last
  abbrev pub row_from : ℕ → ℕ → ℕ
  row_from k row = start_of b k + slice_index (sheet_index b k) row

  abbrev pub row_to : ℕ → ℕ → ℕ
  row_to k row = start_of b k + slice_index (sheet_index b k) (row + 1)

module _ {S : Type 0} (a : Figures S) (b : Arrays S) where
  abbrev pub cell_lines : ℕ → ℕ → ℕ → List Line
  cell_lines k row column = guard a b ++ (missing b (k ∷ []) ∷ (outside b row column ∷ []))

  abbrev pub row_lines : ℕ → ℕ → List Line
  row_lines k row = guard a b ++ (missing b (k ∷ []) ∷ (outside_row b row ∷ []))

  -- the figure of one cell of one sheet
  abbrev pub CellIs : ℕ → ℕ → ℕ → Result S Refusal → Type 0
  CellIs k row column (Ok figure) = Granted (cell_lines k row column) × (a.meaning figure ≡ sheet_table a b k row column)
  CellIs k row column (Err why) = SentBack (cell_lines k row column) why

  abbrev pub RowIs : ℕ → ℕ → Result (ℕ × ℕ) Refusal → Type 0
  RowIs k row (Ok place) = Granted (row_lines k row) × (place.0 ≡ row_from b k row) × (place.1 ≡ row_to b k row)
  RowIs k row (Err why) = SentBack (row_lines k row) why

  -- the part of xs, one of the arrays, between the two places of a row
  abbrev pub RowPartIs : {A : Type 0} → List A → ℕ → ℕ → Result (Bor (List A)) Refusal → Type 0
  RowPartIs xs k row (Ok found) = Granted (row_lines k row) × (found.now ≡ part xs (row_from b k row) (row_to b k row))
  RowPartIs xs k row (Err why) = SentBack (row_lines k row) why

-- two places between which a part of each array lies
abbrev pub Between : {S : Type 0} → Arrays S → Result (ℕ × ℕ) Refusal → Type 0
Between b (Ok place) = (place.0 ≤ place.1) × (place.1 ≤ length b.index) × (place.1 ≤ length b.figures)
Between b (Err why) = Unit {0}
