-- The table of refusals: its lines, and what it means that a call is sent back or granted.
use Rattle.std.specs.Prelude.{◌≡◌, ℕ, ◌<◌, ◌≤◌, ◌⊎◌, List, [], ◌∷◌, ◌++◌, length, ◌≢◌}
use Rattle.arithmetic.specs.Semiring.{Figures}
use Rattle.sheet.specs.Packed.{FirstBreak}
use Rattle.sheet.specs.Loading.{Placed}
use Rattle.sheet.specs.declared.refusal.Refusal.{Refusal}
use Rattle.sheet.specs.declared.refusal.Refusal.TheVariants.{Layout, Order, Header, Position, Lengths, Sheet, Full, Misplaced, Room}
use Rattle.book.specs.Limits.{header_words, most_sheets, largest_order, largest_capacity}
use Rattle.book.specs.Book.{Arrays, HeaderRule, PositionRule, order_of, sheets_of, capacity, last_end}

-- a line of the table: the refusals that it gives
abbrev pub Line : Type 1
Line = Refusal → Type 0

-- the line that gives this case of a refusal, with each place at which its condition holds
abbrev pub line : (ℕ → Refusal) → (ℕ → Type 0) → Line
line case condition why = (place : ℕ) × (why ≡ case place) × condition place

-- no refusal is given by the line
abbrev pub Passes : Line → Type 0
Passes l = (why : Refusal) → l why → ⊥

-- none of the lines applies
abbrev pub Granted : List Line → Type 0
Granted [] = Unit {0}
Granted (l ∷ ls) = Passes l × Granted ls

-- the refusal comes from the first line that applies
abbrev pub SentBack : List Line → Refusal → Type 0
SentBack [] why = ⊥
SentBack (l ∷ ls) why = l why ⊎ (Passes l × SentBack ls why)

-- the first of the named sheets that a book of so many sheets has not
abbrev pub FirstMissing : ℕ → List ℕ → ℕ → Type 0
FirstMissing sheets [] p = ⊥
FirstMissing sheets (k ∷ ks) p = ((sheets ≤ k) × (p ≡ k)) ⊎ ((k < sheets) × FirstMissing sheets ks p)

module _ {S : Type 0} (b : Arrays S) where
  -- 0: the header has not the right number of words; else 1: index and figures differ in length; else 2: they are too long
  abbrev pub LayoutFault : ℕ → Type 0
  LayoutFault p = ((p ≡ 0) × (length b.header ≢ header_words))
      ⊎ (((p ≡ 1) × (length b.header ≡ header_words) × (length b.index ≢ length b.figures))
      ⊎ ((p ≡ 2) × (length b.header ≡ header_words) × (length b.index ≡ length b.figures) × (largest_capacity < length b.index)))

  abbrev pub layout : Line
  layout = line Layout LayoutFault

  -- the order given is 0 or too large
  abbrev pub order : ℕ → Line
  order n = line Order (λ p. (p ≡ n) × ((n ≡ 0) ⊎ (largest_order < n)))

  -- the first header word that breaks its rule
  abbrev pub header : Line
  header = line Header (FirstBreak (HeaderRule b.header (capacity b)) header_words)

  -- one of the named sheets is not there
  abbrev pub missing : List ℕ → Line
  missing names = line Sheet (FirstMissing (sheets_of b) names)

  -- there is no sheet to strike
  abbrev pub none_to_strike : Line
  none_to_strike = line Sheet (λ p. (p ≡ 0) × (sheets_of b ≡ 0))

  -- the row or, where that is in the table, the column is not in the table
  abbrev pub outside : ℕ → ℕ → Line
  outside row column = line Misplaced (λ p. ((p ≡ 0) × (order_of b ≤ row)) ⊎ ((p ≡ 1) × (row < order_of b) × (order_of b ≤ column)))

  abbrev pub outside_row : ℕ → Line
  outside_row row = line Misplaced (λ p. (p ≡ 0) × (order_of b ≤ row))

  -- 0: the vector in is not as long as the order; else 1: the vector out is not
  abbrev pub vector_lengths : List S → List S → Line
  vector_lengths given out = line Lengths (λ p. ((p ≡ 0) × (length given ≢ order_of b)) ⊎ ((p ≡ 1) × (length given ≡ order_of b) × (length out ≢ order_of b)))

module _ {S : Type 0} (a : Figures S) (b : Arrays S) where
  -- the first position of the index array that breaks its rule
  abbrev pub position : Line
  position = line Position (FirstBreak (PositionRule a b) (last_end b))

  -- the lines that every call on a book but open begins with
  abbrev pub guard : List Line
  guard = layout b ∷ (header b ∷ (position ∷ []))

-- 1: the column list is not as long as the row list; else 2: the figure list is not
abbrev pub list_lengths : {S : Type 0} → List ℕ → List ℕ → List S → Line
list_lengths rows columns figures = line Lengths (λ p. ((p ≡ 1) × (length columns ≢ length rows)) ⊎ ((p ≡ 2) × (length columns ≡ length rows) × (length figures ≢ length rows)))

-- a new sheet is wanted and the book has as many sheets as it can have
abbrev pub full : ℕ → Line
full sheets = line Full (λ p. (p ≡ most_sheets) × (sheets ≡ most_sheets))

-- the first entry of a list that is misplaced in a table of order n
abbrev pub misplaced : ℕ → List ℕ → List ℕ → Line
misplaced n rows columns = line Misplaced (FirstBreak (Placed n rows columns) (length rows))

-- the new sheet is longer than what is left of the capacity
abbrev pub room : ℕ → ℕ → Line
room size left = line Room (λ p. (p ≡ size) × (left < p))

-- the lines that a call on sheets i and j that makes a new one begins with
abbrev pub pair_guard : {S : Type 0} → Figures S → Arrays S → ℕ → ℕ → List Line
pair_guard a b i j = guard a b ++ (missing b (i ∷ (j ∷ [])) ∷ (full (sheets_of b) ∷ []))
