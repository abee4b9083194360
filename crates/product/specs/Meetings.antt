-- The pairs of stored cells that meet in one row of a product, a list for each column: numbers only.
use Rattle.std.specs.Prelude.{◌≡◌, ℕ, zero, suc, ◌+◌, ◌/◌, ◌%◌, ◌^◌, ◌<◌, ◌≤◌, List, length, replicate, Some, None, Option, bit_or, slice_index, slice_index_or, slice_set}
use Rattle.arithmetic.specs.Semiring.{Semiring, Figures, meanings}
use Rattle.arithmetic.specs.declared.Arithmetic.{Ghosts}
use Rattle.matrix.specs.Tables.{Table, product}
use Rattle.sheet.specs.Packed.{table}
use Rattle.sheet.specs.declared.sound.Pair.{Pair}
use Rattle.product.specs.declared.meetings.Meeting.{Meeting}
use Rattle.product.specs.declared.meetings.Meetings.{Meetings}
use Rattle.sheet.specs.declared.sound.RowCell.{RowCell}

-- the bit of column c is not set
abbrev pub Absent : List ℕ → ℕ → Type 0
Absent touched c = slice_index touched (c / 64) / 2 ^ (c % 64) % 2 ≡ 0

-- the next column, from `from` on, whose bit is set. None where no bit from there on is set
abbrev pub NextTouched : List ℕ → ℕ → Option ℕ → Type 0
NextTouched touched from (Some c) = (from ≤ c) × ((j : ℕ) → from ≤ j → j < c → Absent touched j)
NextTouched touched from None = (j : ℕ) → from ≤ j → j < 1024 → Absent touched j

-- what an array of meetings holds where none was put yet
abbrev pub no_meeting : Meeting
no_meeting = record { before = 0; left = 0; right = 0 }

-- meeting q
abbrev pub meeting_in : List Meeting → ℕ → Meeting
meeting_in ms q = slice_index_or ms q no_meeting

-- one meeting more, in this column, of the cells at two places
abbrev pub meeting : ℕ → ℕ → ℕ → Meetings → Meetings
meeting column left right m = record {
  head = slice_set m.head column (m.count + 1);
  touched = slice_set m.touched (column / 64) (bit_or (slice_index m.touched (column / 64)) (2 ^ (column % 64)));
  meetings = slice_set m.meetings (m.count + 1) (record { before = slice_index m.head column; left = left; right = right });
  count = m.count + 1;
  from = m.from;
}

-- the k cells from place q on of a sheet whose index words are us meet the cell at `left`
abbrev pub pushed : List ℕ → ℕ → ℕ → ℕ → Meetings → Meetings
pushed us left q zero m = m
pushed us left q (suc k) m = pushed us left (q + 1) k (meeting (slice_index us q) left q m)

-- the list of column c is taken away, and those before it are gone
abbrev pub taken : ℕ → Meetings → Meetings
taken c m = record { head = slice_set m.head c 0; touched = m.touched; meetings = m.meetings; count = m.count; from = c + 1 }

-- no bit is set, no meeting counted and no list taken
abbrev pub cleared : Meetings → Meetings
cleared m = record { head = m.head; touched = replicate 16 0; meetings = m.meetings; count = 0; from = 0 }

-- the lengths of the arrays
pub record Shaped (m : Meetings) : Type 0 where
  pub heads : length m.head ≡ 1024
  pub words : length m.touched ≡ 16
  pub room : length m.meetings ≡ 65536

-- no column below n has a list
pub record Idle (n : ℕ) (m : Meetings) : Type 0 where
  pub shaped : Shaped m
  pub none : (c : ℕ) → c < n → slice_index m.head c ≡ 0

-- lists that go down, of cells of a left sheet and a right one of these lengths
pub record Linked (left right : ℕ) (m : Meetings) : Type 0 where
  pub few : m.count < 65536
  pub down : (q : ℕ) → 0 < q → q ≤ m.count → (meeting_in m.meetings q).before < q
  pub left_within : (q : ℕ) → 0 < q → q ≤ m.count → (meeting_in m.meetings q).left < left
  pub right_within : (q : ℕ) → 0 < q → q ≤ m.count → (meeting_in m.meetings q).right < right

-- the lists of the columns below n start at a meeting, and a column whose bit is not set has none
pub record Marked (n : ℕ) (m : Meetings) : Type 0 where
  pub shaped : Shaped m
  pub narrow : (g : ℕ) → slice_index m.touched g < 2 ^ 64
  pub below : (c : ℕ) → c < n → slice_index m.head c ≤ m.count
  pub marks : (c : ℕ) → c < n → Absent m.touched c → slice_index m.head c ≡ 0

-- the sum of left × right over the meetings of a list, from q down, at most k of them
abbrev pub along : {F : Type 0} → Semiring F → List F → List F → List Meeting → ℕ → ℕ → F
along s fs gs ms zero q = s.zero
along s fs gs ms (suc k) zero = s.zero
along s fs gs ms (suc k) (suc q) = s.add (s.mul (slice_index_or fs (meeting_in ms (suc q)).left s.zero) (slice_index_or gs (meeting_in ms (suc q)).right s.zero)) (along s fs gs ms k (meeting_in ms (suc q)).before)

module _ {F : Type 0} (s : Semiring F) (fs gs : List F) (m : Meetings) where
  abbrev pub list_sum : ℕ → F
  list_sum q = along s fs gs m.meetings q q

  -- the lists of the columns below n: that of column c adds up to v c
  pub record Lists (n : ℕ) (v : ℕ → F) : Type 0 where
    pub linked : Linked (length fs) (length gs) m
    pub marked : Marked n m
    pub sums : (c : ℕ) → c < n → list_sum (slice_index m.head c) ≡ v c

-- the next column, from m.from on and below n, that has a list, with the sum of its meetings; the list is taken away.
-- None where no column from there on has one
abbrev pub NextCell : {S : Type 0} → Figures S → ℕ → List S → List S → Meetings → Option (RowCell S) → Meetings → Type 0
NextCell a n fs gs m (Some cell) m' =
    (m.from ≤ cell.column) × (cell.column < n) × ((j : ℕ) → m.from ≤ j → j < cell.column → slice_index m.head j ≡ 0)
    × (a.meaning cell.figure ≡ list_sum a.ring (meanings a fs) (meanings a gs) m (slice_index m.head cell.column)) × (m' ≡ taken cell.column m)
NextCell a n fs gs m None m' = ((j : ℕ) → m.from ≤ j → j < n → slice_index m.head j ≡ 0) × (m' ≡ m)

-- the table of the product of two sheets
abbrev pub multiplied : {S : Type 0} (a : Figures S) → ℕ → List ℕ → List S → List ℕ → List S → Table a.F
multiplied a n ws fs us gs = product a.ring n (table a.ring ws (meanings a fs)) (table a.ring us (meanings a gs))

-- the same for a pair of sheets
abbrev pub pair_product : {S : Type 0} {g : Ghosts S} → Pair S g → Table g.figures.F
pair_product {g = g} pair = multiplied g.figures pair.first.order pair.first.words.now pair.first.figures.now pair.second.words.now pair.second.figures.now
