-- Two sheets gone through together, row by row, in the order of their columns; their index words are ws and us, their
-- figures fs and gs.
use Rattle.std.specs.Prelude.{◌≡◌, ℕ, ◌+◌, ◌<◌, ◌≤◌, min, cond, List, Some, None, Option, nat_le}
use Rattle.arithmetic.specs.Semiring.{Figures, meanings}
use Rattle.arithmetic.specs.declared.Arithmetic.{Ghosts}
use Rattle.matrix.specs.Tables.{Table, added}
use Rattle.sheet.specs.Packed.{table}
use Rattle.sheet.specs.Cursors.{column_of, Cursor}
use Rattle.sheet.specs.declared.sound.Pair.{Pair}
use Rattle.sheet.specs.declared.sound.RowCell.{RowCell}

-- the table of the sum of two sheets
abbrev pub summed : {S : Type 0} (a : Figures S) → List ℕ → List S → List ℕ → List S → Table a.F
summed a ws fs us gs = added a.ring (table a.ring ws (meanings a fs)) (table a.ring us (meanings a gs))

-- the same for a pair of sheets
abbrev pub pair_sum : {S : Type 0} {g : Ghosts S} → Pair S g → Table g.figures.F
pair_sum {g = g} pair = summed g.figures pair.first.words.now pair.first.figures.now pair.second.words.now pair.second.figures.now

-- the next column of row i, from `from` on, that two sheets or the diagonal have; n if there is none
abbrev pub next_column_of : List ℕ → List ℕ → ℕ → ℕ → ℕ → ℕ → ℕ → ℕ
next_column_of ws us n i from p q = min (min (column_of ws n i p) (column_of us n i q)) (cond (nat_le from i) i n)

-- the merge has come to column `from` of this row; p and q are the places in the two sheets
pub record Merging (n : ℕ) (ws us : List ℕ) (row from p q : ℕ) : Type 0 where
  pub row_within : row ≤ n
  pub from_within : from ≤ n
  pub done : row ≡ n → from ≡ 0
  pub first : row < n → Cursor ws row from p
  pub second : row < n → Cursor us row from q

-- the next cell of a row of the table t, from `from` on, that may be other than zero, and how far the table has been gone
-- through then; none where the rest of the row is zero, and then the next row begins
abbrev pub NextCell : {S : Type 0} (a : Figures S) → ℕ → Table a.F → ℕ → ℕ → Option (RowCell S) → ℕ → ℕ → Type 0
NextCell a n t row from (Some cell) row' from' =
    (from ≤ cell.column) × (cell.column < n) × ((j : ℕ) → from ≤ j → j < cell.column → t row j ≡ a.ring.zero)
    × (a.meaning cell.figure ≡ t row cell.column) × (row' ≡ row) × (from' ≡ cell.column + 1)
NextCell a n t row from None row' from' = ((j : ℕ) → from ≤ j → j < n → t row j ≡ a.ring.zero) × (row' ≡ row + 1) × (from' ≡ 0)
