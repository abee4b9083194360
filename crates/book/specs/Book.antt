-- A book: a header, an index array and a figure array, and when it is sound.
use Rattle.std.specs.Prelude.{◌≡◌, ℕ, ◌+◌, ◌-◌, ◌<◌, ◌≤◌, List, ◌++◌, length, take, drop, slice_index, slice_set}
use Rattle.arithmetic.specs.Semiring.{Figures, meanings}
use Rattle.matrix.specs.Tables.{Table}
use Rattle.sheet.specs.Writing.{part}
use Rattle.sheet.specs.Packed.{Rule, table, packed_length, packed_index, packed_figures}
use Rattle.book.specs.Limits.{header_words, most_sheets, largest_order, largest_capacity}

-- what the three given arrays hold; S is the stored type
pub record Arrays (S : Type 0) : Type 0 where
  pub header : List ℕ
  pub index : List ℕ
  pub figures : List S

-- what word w of a header has to keep, over arrays of this capacity; each rule reads earlier words only
pub record HeaderRule (header : List ℕ) (capacity w : ℕ) : Type 0 where
  pub order : w ≡ 0 → (1 ≤ slice_index header 0) × (slice_index header 0 ≤ largest_order)
  pub sheets : w ≡ 1 → slice_index header 1 ≤ most_sheets
  pub start : w ≡ 2 → slice_index header 2 ≡ 0
  pub end : 2 < w → w ≤ 2 + slice_index header 1 → (slice_index header (w - 1) + (slice_index header 0 + 1) ≤ slice_index header w) × (slice_index header w ≤ capacity)
  pub rest : 2 < w → 2 + slice_index header 1 < w → slice_index header w ≡ 0

module _ {S : Type 0} (b : Arrays S) where
  abbrev pub order_of : ℕ
  order_of = slice_index b.header 0

  -- how many sheets the book has
  abbrev pub sheets_of : ℕ
  sheets_of = slice_index b.header 1

  abbrev pub capacity : ℕ
  capacity = length b.index

  -- the start of sheet k, which is the end of the sheet before it
  abbrev pub start_of : ℕ → ℕ
  start_of k = slice_index b.header (2 + k)

  abbrev pub last_end : ℕ
  last_end = start_of sheets_of

  abbrev pub sheet_index : ℕ → List ℕ
  sheet_index k = part b.index (start_of k) (start_of (k + 1))

module _ {S : Type 0} (a : Figures S) (b : Arrays S) where
  -- the figures of sheet k, by what they mean
  abbrev pub sheet_figures : ℕ → List a.F
  sheet_figures k = meanings a (part b.figures (start_of b k) (start_of b (k + 1)))

  abbrev pub sheet_table : ℕ → Table a.F
  sheet_table k = table a.ring (sheet_index b k) (sheet_figures k)

  -- position q of the index array keeps the rule of the sheet that it lies in
  abbrev pub PositionRule : ℕ → Type 0
  PositionRule q = (k : ℕ) → k < sheets_of b → start_of b k ≤ q → q < start_of b (k + 1) → Rule a.ring (order_of b) (sheet_index b k) (sheet_figures k) (q - start_of b k)

  pub record SoundBook : Type 0 where
    pub words : length b.header ≡ header_words
    pub lengths : length b.index ≡ length b.figures
    pub small : capacity b ≤ largest_capacity
    pub header_rules : (w : ℕ) → w < header_words → HeaderRule b.header (capacity b) w
    pub positions : (q : ℕ) → q < last_end b → PositionRule q

  -- the arrays after one more sheet, that of the table t: its packed form from the last end on, one more sheet in the
  -- header with its end, and every other word and figure as it was
  pub record OneMore (t : Table a.F) (after : Arrays S) : Type 0 where
    pub header : after.header ≡ slice_set (slice_set b.header 1 (sheets_of b + 1)) (3 + sheets_of b) (last_end b + packed_length a.ring (order_of b) t)
    pub index : after.index ≡ take (last_end b) b.index ++ (packed_index a.ring (order_of b) t ++ drop (last_end b + packed_length a.ring (order_of b) t) b.index)
    pub stored : List S
    pub means : meanings a stored ≡ packed_figures a.ring (order_of b) t
    pub figures : after.figures ≡ take (last_end b) b.figures ++ (stored ++ drop (last_end b + packed_length a.ring (order_of b) t) b.figures)

-- the arrays after the last sheet was struck: its end word is 0, there is one sheet less, and nothing else changed
pub record OneLess {S : Type 0} (b : Arrays S) (after : Arrays S) : Type 0 where
  pub header : after.header ≡ slice_set (slice_set b.header (2 + sheets_of b) 0) 1 (sheets_of b - 1)
  pub index : after.index ≡ b.index
  pub figures : after.figures ≡ b.figures
