-- What a new sheet leaves in the arrays that it was written to.
use Rattle.std.specs.Prelude.{◌≡◌, ℕ, ◌+◌, ◌-◌, ◌≤◌, List, ◌++◌, length, take, drop, ◌≢◌, slice_set}
use Rattle.arithmetic.specs.Semiring.{Figures, meanings}
use Rattle.matrix.specs.Tables.{Table}
use Rattle.sheet.specs.Packed.{packed_index, packed_figures}

-- the places from `from` up to `to`
abbrev pub part : {A : Type 0} → List A → ℕ → ℕ → List A
part xs from to = take (to - from) (drop from xs)

-- as many figures as index words, and no more than a book can have
abbrev pub SideBySide : {S : Type 0} → List ℕ → List S → Type 0
SideBySide ws fs = (length fs ≡ length ws) × (length ws ≤ 65536)

-- xs over the first places of d; the other places are as they were
abbrev pub overlaid : {A : Type 0} → List A → List A → List A
overlaid d xs = xs ++ drop (length xs) d

-- the packed form of t, of order n, was written at the start of two arrays, and nothing else: ws and fs before, ws' and
-- fs' after
pub record Written {S : Type 0} (a : Figures S) (n : ℕ) (t : Table a.F) (ws : List ℕ) (fs : List S) (ws' : List ℕ) (fs' : List S) : Type 0 where
  pub index : ws' ≡ overlaid ws (packed_index a.ring n t)
  pub stored : List S
  pub means : meanings a stored ≡ packed_figures a.ring n t
  pub figures : fs' ≡ overlaid fs stored

-- the start of a row was written, or past the last row the end of the sheet, and a zero beside it
pub record RowStarted {S : Type 0} (a : Figures S) (row at : ℕ) (ws : List ℕ) (fs : List S) (ws' : List ℕ) (fs' : List S) : Type 0 where
  pub index : ws' ≡ slice_set ws row at
  pub corner : S
  pub corner_means : a.meaning corner ≡ a.ring.zero
  pub figures : fs' ≡ slice_set fs row corner

-- the figure f of cell (row, column) was written, in a sheet that is being written: on the diagonal to its place there;
-- elsewhere to `at` if it is not zero; what is written next goes to at'
pub record EntryWritten {S : Type 0} (a : Figures S) (row column : ℕ) (f : S) (at : ℕ) (ws : List ℕ) (fs : List S) (ws' : List ℕ) (fs' : List S) (at' : ℕ) : Type 0 where
  pub corner : column ≡ row → (ws' ≡ ws) × (fs' ≡ slice_set fs row f) × (at' ≡ at)
  pub nothing : (column ≢ row) → a.meaning f ≡ a.ring.zero → (ws' ≡ ws) × (fs' ≡ fs) × (at' ≡ at)
  pub cell : (column ≢ row) → (a.meaning f ≢ a.ring.zero) → (ws' ≡ slice_set ws at column) × (fs' ≡ slice_set fs at f) × (at' ≡ at + 1)
