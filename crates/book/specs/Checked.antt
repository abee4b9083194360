-- What the checks that come before a call answer.
use Rattle.std.specs.Prelude.{◌≡◌, ℕ, ◌+◌, ◌<◌, ◌≤◌, List, [], ◌∷◌, ◌++◌, length, Ok, Err, Result}
use Rattle.arithmetic.specs.Semiring.{Figures, meanings}
use Rattle.sheet.specs.Packed.{Sound}
use Rattle.sheet.specs.Writing.{part}
use Rattle.sheet.specs.declared.refusal.Refusal.{Refusal}
use Rattle.book.specs.Limits.{header_words, most_sheets, largest_order, largest_capacity}
use Rattle.book.specs.Book.{Arrays, SoundBook, HeaderRule, order_of, sheets_of, capacity, start_of}
use Rattle.book.specs.Lines.{Line, Passes, SentBack, guard, pair_guard, layout, order, header, missing}

-- the three arrays have the lengths that they should
pub record Laid {S : Type 0} (b : Arrays S) : Type 0 where
  pub words : length b.header ≡ header_words
  pub lengths : length b.index ≡ length b.figures
  pub small : capacity b ≤ largest_capacity

abbrev pub LayoutChecked : {S : Type 0} → Arrays S → Result (Unit {0}) Refusal → Type 0
LayoutChecked b (Ok u) = Laid b
LayoutChecked b (Err why) = layout b why

-- a book of order n can be made in the arrays; or open is sent back
abbrev pub OpenChecked : {S : Type 0} → Arrays S → ℕ → Result (Unit {0}) Refusal → Type 0
OpenChecked b n (Ok u) = Laid b × (1 ≤ n) × (n ≤ largest_order)
OpenChecked b n (Err why) = SentBack (layout b ∷ (order b n ∷ [])) why

-- every word of the header keeps its rule
abbrev pub Headed : {S : Type 0} → Arrays S → Type 0
Headed b = (w : ℕ) → w < header_words → HeaderRule b.header (capacity b) w

abbrev pub HeaderChecked : {S : Type 0} → Arrays S → Result (Unit {0}) Refusal → Type 0
HeaderChecked b (Ok u) = Headed b
HeaderChecked b (Err why) = header b why

-- the book is sound, or is sent back by the first of the lines that every call begins with
abbrev pub BookChecked : {S : Type 0} → Figures S → Arrays S → Result (Unit {0}) Refusal → Type 0
BookChecked a b (Ok u) = SoundBook a b
BookChecked a b (Err why) = SentBack (guard a b) why

-- the line does not apply, or it gives the refusal
abbrev pub LineChecked : Line → Result (Unit {0}) Refusal → Type 0
LineChecked l (Ok u) = Passes l
LineChecked l (Err why) = l why

-- a sound sheet of order n lies between two places of an index array and a figure array
pub record Lying {S : Type 0} (a : Figures S) (n : ℕ) (ws : List ℕ) (fs : List S) (place : ℕ × ℕ) : Type 0 where
  pub from : place.0 ≤ place.1
  pub to : place.1 ≤ length ws
  pub paired : length fs ≡ length ws
  pub sound : Sound a.ring n (part ws place.0 place.1) (meanings a (part fs place.0 place.1))

-- where sheet k of a sound book lies in the index array and the figure array
pub record SheetLies {S : Type 0} (a : Figures S) (b : Arrays S) (k : ℕ) (place : ℕ × ℕ) : Type 0 where
  pub sound : SoundBook a b
  pub there : k < sheets_of b
  pub from : place.0 ≡ start_of b k
  pub to : place.1 ≡ start_of b (k + 1)
  pub room : place.0 + order_of b < place.1
  pub within : place.1 ≤ length b.index
  pub within_figures : place.1 ≤ length b.figures

-- the lines that a call on sheet k begins with
abbrev pub sheet_guard : {S : Type 0} → Figures S → Arrays S → ℕ → List Line
sheet_guard a b k = guard a b ++ (missing b (k ∷ []) ∷ [])

-- the place of sheet k; or the call is sent back by the first of those lines
abbrev pub SheetFound : {S : Type 0} → Figures S → Arrays S → ℕ → Result (ℕ × ℕ) Refusal → Type 0
SheetFound a b k (Ok place) = SheetLies a b k place
SheetFound a b k (Err why) = SentBack (sheet_guard a b k) why

-- the places of sheets i and j, and there is a number for a new one; or the call is sent back
abbrev pub PairFound : {S : Type 0} → Figures S → Arrays S → ℕ → ℕ → Result ((ℕ × ℕ) × (ℕ × ℕ)) Refusal → Type 0
PairFound a b i j (Ok places) = SheetLies a b i places.0 × SheetLies a b j places.1 × (sheets_of b < most_sheets)
PairFound a b i j (Err why) = SentBack (pair_guard a b i j) why
