-- The workings: a sheet times a vector, and a vector times a sheet. What each answers, and the vector out after it.
use Rattle.std.specs.Prelude.{◌≡◌, ℕ, List, [], ◌∷◌, ◌++◌, map, length, Ok, Err, Result}
use Rattle.std.specs.List.{range_with_len}
use Rattle.arithmetic.specs.Semiring.{Figures, meanings}
use Rattle.matrix.specs.Vectors.{Vector, column_worked, row_worked, figure_at}
use Rattle.arithmetic.specs.declared.Arithmetic.{Ghosts}
use Rattle.sheet.specs.declared.refusal.Refusal.{Refusal}
use Rattle.sheet.specs.declared.sound.Sheet.{Sheet}
use Rattle.sheet.specs.Sheets.{table_of}
use Rattle.book.specs.Book.{Arrays, order_of, sheet_table}
use Rattle.book.specs.Lines.{Line, Granted, SentBack, guard, vector_lengths, missing}

-- a list of stored values as a vector
abbrev pub vector : {S : Type 0} (a : Figures S) → List S → Vector a.F
vector a xs = figure_at a.ring (meanings a xs)

module _ {S : Type 0} (a : Figures S) (b : Arrays S) where
  -- the lines that a working on sheet k is held against: the lengths of the vectors come before the sheet
  abbrev pub working_lines : ℕ → List S → List S → List Line
  working_lines k given out = guard a b ++ (vector_lengths b given out ∷ (missing b (k ∷ []) ∷ []))

  -- out becomes the vector v, and the answer is 0; a refusal leaves out as it was
  abbrev pub Worked : Vector a.F → ℕ → List S → List S → Result ℕ Refusal → List S → Type 0
  Worked v k given out (Ok answer) after = Granted (working_lines k given out) × (answer ≡ 0) × (meanings a after ≡ map v (range_with_len 0 (order_of b)))
  Worked v k given out (Err why) after = SentBack (working_lines k given out) why × (after ≡ out)

  -- sheet k times x: at i the sum of cell(i, j) × x(j) over the columns j
  abbrev pub ColumnWorked : ℕ → List S → List S → Result ℕ Refusal → List S → Type 0
  ColumnWorked k x = Worked (column_worked a.ring (order_of b) (sheet_table a b k) (vector a x)) k x

  -- y times sheet k: at j the sum of y(i) × cell(i, j) over the rows i
  abbrev pub RowWorked : ℕ → List S → List S → Result ℕ Refusal → List S → Type 0
  RowWorked k y = Worked (row_worked a.ring (order_of b) (vector a y) (sheet_table a b k)) k y

-- sheet k, with a vector in and a vector out for it, since none of the lines applies; or the working is sent back
abbrev pub WorkingFound : {S : Type 0} {g : Ghosts S} → Arrays S → ℕ → List S → List S → Result (Sheet S g) Refusal → Type 0
WorkingFound {g = g} b k given out (Ok sheet) =
    Granted (working_lines g.figures b k given out) × (sheet.order ≡ order_of b) × (table_of sheet ≡ sheet_table g.figures b k)
    × (length given ≡ order_of b) × (length out ≡ order_of b)
WorkingFound {g = g} b k given out (Err why) = SentBack (working_lines g.figures b k given out) why
