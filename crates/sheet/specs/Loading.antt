-- Lists of entries, and the table that a list stands for.
use Rattle.std.specs.Prelude.{◌≡◌, ℕ, ◌-◌, ◌<◌, cond, ◌&&◌, ◌⊎◌, List, [], ◌∷◌, length, Ok, Err, Result, ◌==◌, slice_index, slice_index_or}
use Rattle.arithmetic.specs.Semiring.{Semiring, Figures}
use Rattle.matrix.specs.Tables.{Table}
use Rattle.sheet.specs.Packed.{FirstBreak}
use Rattle.sheet.specs.declared.refusal.Refusal.{Refusal}
use Rattle.sheet.specs.declared.refusal.Refusal.TheVariants.{Misplaced}

-- one entry of a list: a figure and its cell
pub record Entry (F : Type 0) : Type 0 where
  pub row : ℕ
  pub column : ℕ
  pub figure : F

-- the entries that three lists of one length spell out
abbrev pub entries : {S : Type 0} (a : Figures S) → List ℕ → List ℕ → List S → List (Entry a.F)
entries a [] cs fs = []
entries a (r ∷ rs) [] fs = []
entries a (r ∷ rs) (c ∷ cs) [] = []
entries a (r ∷ rs) (c ∷ cs) (f ∷ fs) = record { row = r; column = c; figure = a.meaning f } ∷ entries a rs cs fs

-- the table of a list: at each cell the sum of the entries there, of which a list that is accepted has at most one; zero elsewhere
abbrev pub loaded : {F : Type 0} → Semiring F → List (Entry F) → Table F
loaded s [] r c = s.zero
loaded s (e ∷ es) r c = cond (e.row == r && e.column == c) (s.add e.figure (loaded s es r c)) (loaded s es r c)

-- entry k lies in a table of order n, and after the entry before it, by row and then by column
pub record Placed (n : ℕ) (rows columns : List ℕ) (k : ℕ) : Type 0 where
  pub row_below : slice_index_or rows k 0 < n
  pub column_below : slice_index_or columns k 0 < n
  pub after : 0 < k → (slice_index rows (k - 1) < slice_index rows k) ⊎ ((slice_index rows (k - 1) ≡ slice_index rows k) × (slice_index columns (k - 1) < slice_index columns k))

-- every entry is placed; or the first that is not is told
abbrev pub EntriesChecked : ℕ → List ℕ → List ℕ → Result (Unit {0}) Refusal → Type 0
EntriesChecked n rows columns (Ok u) = (k : ℕ) → k < length rows → Placed n rows columns k
EntriesChecked n rows columns (Err why) = (k : ℕ) × (why ≡ Misplaced k) × FirstBreak (Placed n rows columns) (length rows) k
