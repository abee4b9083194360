-- What the calls that look things up answer, once their sheet was found.
use Rattle.std.proofs.Common.{◌≡◌, ℕ, ◌+◌, ◌<◌, [], ◌∷◌, get_or, Ok, refl, ◌∙◌, arith}
use Rattle.arithmetic.specs.Semiring.{Figures, meanings}
use Rattle.sheet.specs.Packed.{table}
use Rattle.sheet.specs.Writing.{part}
use Rattle.book.specs.Book.{Arrays, SoundBook, order_of, sheets_of}
use Rattle.book.specs.Lines.{Granted, guard, missing, outside, outside_row}
use Rattle.book.specs.Checked.{SheetLies}
use Rattle.book.specs.Lookups.{row_from, row_to, row_lines, cell_lines, CellIs, RowIs, Between}
use Rattle.book.proofs.Passing.{granted_both, guard_passes, missing_passes, outside_row_passes, outside_passes}
use Rattle.book.proofs.Sheets.{sheet_to, row_rises, row_ends}

module _ {S : Type 0} (a : Figures S) (b : Arrays S) (k : ℕ) where
  pub row_granted : (row : ℕ) → SoundBook a b → k < sheets_of b → row < order_of b → Granted (row_lines a b k row)
  row_granted row sound there low = granted_both (guard a b) (missing b (k ∷ []) ∷ (outside_row b row ∷ [])) (guard_passes b a sound) (missing_passes b k there, (outside_row_passes b row low, tt))

  pub cell_granted : (row column : ℕ) → SoundBook a b → k < sheets_of b → row < order_of b → column < order_of b → Granted (cell_lines a b k row column)
  cell_granted row column sound there low low' = granted_both (guard a b) (missing b (k ∷ []) ∷ (outside b row column ∷ [])) (guard_passes b a sound) (missing_passes b k there, (outside_passes b row column low low', tt))

  -- the places of a row, as they are read from the words of its sheet
  pub row_read : (from to row : ℕ) → SheetLies a b k (from, to) → row < order_of b → (p q : ℕ) → p ≡ from + get_or (part b.index from to) row 0 → q ≡ from + get_or (part b.index from to) (row + 1) 0 → RowIs a b k row (Ok (p, q)) × Between b (Ok (p, q))
  row_read from to row at low p q is_p is_q =
      let e : p ≡ row_from b k row = is_p ∙ rw (at.from, at.to) refl in
      let e' : q ≡ row_to b k row = is_q ∙ rw (at.from, at.to) refl in
      let rises = row_rises a b at.sound k at.there row low in
      let ends = row_ends a b at.sound k at.there row low in
      let within = sheet_to a b at.sound k at.there in
      let same = at.sound.lengths in
      ((row_granted row at.sound at.there low, e, e'), (omega arith, omega arith, omega arith))

  -- the figure of a cell, as it is read from its sheet
  pub cell_read : (from to row column : ℕ) → SheetLies a b k (from, to) → row < order_of b → column < order_of b → (figure : S) → a.meaning figure ≡ table a.ring (part b.index from to) (meanings a (part b.figures from to)) row column → CellIs a b k row column (Ok figure)
  cell_read from to row column at low low' figure is = (cell_granted row column at.sound at.there low low', is ∙ rw (at.from, at.to) refl)
