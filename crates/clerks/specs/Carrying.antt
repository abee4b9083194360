-- A line of sheets of one book: two vectors carried through it, one from either end, and their one total.
use Rattle.std.specs.Prelude.{◌≡◌, ℕ, List, [], ◌∷◌, map, length, Ok}
use Rattle.std.specs.List.{range_with_len}
use Rattle.arithmetic.specs.Semiring.{Figures, meanings}
use Rattle.matrix.specs.Tables.{Table, unit_table, product}
use Rattle.matrix.specs.Vectors.{figure_at, column_worked, row_worked, bilinear, weighed}
use Rattle.book.specs.Book.{Arrays, order_of, sheet_table}
use Rattle.book.specs.Workings.{ColumnWorked, RowWorked}

module _ {S : Type 0} (a : Figures S) (b : Arrays S) where
  -- the tables of the line's sheets multiplied in the order of the line
  abbrev pub line_product : List ℕ → Table a.F
  line_product [] = unit_table a.ring
  line_product (k ∷ ks) = product a.ring (order_of b) (sheet_table a b k) (line_product ks)

  -- the sum of y(i) × the line's product at (i, j) × x(j) over all i and j
  abbrev pub line_total : List ℕ → List a.F → List a.F → a.F
  line_total line y x = bilinear a.ring (order_of b) (figure_at a.ring y) (line_product line) (figure_at a.ring x)

  -- what column working makes of x, from the last sheet of the line to the first
  abbrev pub carried_back : List ℕ → List a.F → List a.F
  carried_back [] x = x
  carried_back (k ∷ ks) x = map (column_worked a.ring (order_of b) (sheet_table a b k) (figure_at a.ring (carried_back ks x))) (range_with_len 0 (order_of b))

  -- what row working makes of y, from the first sheet of the line to the last
  abbrev pub carried_forward : List ℕ → List a.F → List a.F
  carried_forward [] y = y
  carried_forward (k ∷ ks) y = carried_forward ks (map (row_worked a.ring (order_of b) (figure_at a.ring y) (sheet_table a b k)) (range_with_len 0 (order_of b)))

  -- y weighed against x carried back, and y carried forward weighed against x, are both the line's total
  abbrev pub LineTotal : Type 0
  LineTotal =
      (line : List ℕ) (x y : List a.F) →
      length x ≡ order_of b →
      length y ≡ order_of b →
      (weighed a.ring y (carried_back line x) ≡ line_total line y x) × (weighed a.ring (carried_forward line y) x ≡ line_total line y x)

  -- x carried back through a line by granted column workings, each sheet taking what the one after it gave
  pub data CarriedBack : List ℕ → List S → List S → Type 0 where
    back_none : {x : List S} → CarriedBack [] x x
    back_more : {k : ℕ} {ks : List ℕ} {x between after : List S} (before : List S) (answer : ℕ) → CarriedBack ks x between → ColumnWorked a b k between before (Ok answer) after → CarriedBack (k ∷ ks) x after

  -- y carried forward through a line by granted row workings, each sheet taking what the one before it gave
  pub data CarriedForward : List ℕ → List S → List S → Type 0 where
    forward_none : {y : List S} → CarriedForward [] y y
    forward_more : {k : ℕ} {ks : List ℕ} {y between after : List S} (before : List S) (answer : ℕ) → RowWorked a b k y before (Ok answer) between → CarriedForward ks between after → CarriedForward (k ∷ ks) y after

  -- the same of stored values and of the workings that were made
  abbrev pub CarriedTotal : Type 0
  CarriedTotal =
      (line : List ℕ) (x y back forward : List S) →
      length x ≡ order_of b →
      length y ≡ order_of b →
      CarriedBack line x back →
      CarriedForward line y forward →
      (weighed a.ring (meanings a y) (meanings a back) ≡ line_total line (meanings a y) (meanings a x)) × (weighed a.ring (meanings a forward) (meanings a x) ≡ line_total line (meanings a y) (meanings a x))

  -- any two vectors carried through any line of the book's sheets come to one total
  abbrev pub LinesTotal : Type 0
  LinesTotal = LineTotal × CarriedTotal

-- in any book, whatever calls made it
abbrev pub OneTotal : {S : Type 0} → Figures S → Type 0
OneTotal {S} a = (b : Arrays S) → LinesTotal a b
