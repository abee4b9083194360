-- The calls that make a book, add a sheet to it or take one away: what each answers, and the arrays after it.
use Rattle.std.specs.Prelude.{◌≡◌, ℕ, ◌-◌, List, [], ◌∷◌, ◌++◌, replicate, Ok, Err, Result}
use Rattle.arithmetic.specs.Semiring.{Figures}
use Rattle.matrix.specs.Tables.{Table, unit_table, added, product, flipped}
use Rattle.sheet.specs.Packed.{packed_length}
use Rattle.sheet.specs.Loading.{entries, loaded}
use Rattle.sheet.specs.declared.refusal.Refusal.{Refusal}
use Rattle.book.specs.Limits.{header_words}
use Rattle.book.specs.Book.{Arrays, OneMore, OneLess, order_of, sheets_of, capacity, last_end, sheet_table}
use Rattle.book.specs.Lines.{Line, Granted, SentBack, guard, pair_guard, layout, order, list_lengths, missing, none_to_strike, full, misplaced, room}

-- a call with its arguments
pub data Call (S : Type 0) : Type 0 where
  Open : ℕ → Call S
  Unit' : Call S
  Load : List ℕ → List ℕ → List S → Call S
  Add : ℕ → ℕ → Call S
  Multiply : ℕ → ℕ → Call S
  Flip : ℕ → Call S
  Strike : Call S

module _ {S : Type 0} (a : Figures S) (b : Arrays S) where
  -- the packed form of t is longer than what the capacity leaves after the last end
  abbrev pub no_room : Table a.F → Line
  no_room t = room (packed_length a.ring (order_of b) t) (capacity b - last_end b)

  -- the lines of the table of refusals that a call is held against, in their order
  abbrev pub lines : Call S → List Line
  lines (Open n) = layout b ∷ (order b n ∷ [])
  lines Unit' = guard a b ++ (full (sheets_of b) ∷ (no_room (unit_table a.ring) ∷ []))
  lines (Load rs cs fs) = guard a b ++ (list_lengths rs cs fs ∷ (full (sheets_of b) ∷ (misplaced (order_of b) rs cs ∷ (no_room (loaded a.ring (entries a rs cs fs)) ∷ []))))
  lines (Add i j) = pair_guard a b i j ++ (no_room (added a.ring (sheet_table a b i) (sheet_table a b j)) ∷ [])
  lines (Multiply i j) = pair_guard a b i j ++ (no_room (product a.ring (order_of b) (sheet_table a b i) (sheet_table a b j)) ∷ [])
  lines (Flip i) = guard a b ++ (missing b (i ∷ []) ∷ (full (sheets_of b) ∷ (no_room (flipped (sheet_table a b i)) ∷ [])))
  lines Strike = guard a b ++ (none_to_strike b ∷ [])

  -- what a granted call answers, and what it leaves in the arrays
  abbrev pub Effect : Call S → ℕ → Arrays S → Type 0
  Effect (Open n) answer after = (answer ≡ 0) × (after.header ≡ n ∷ replicate (header_words - 1) 0) × (after.index ≡ b.index) × (after.figures ≡ b.figures)
  Effect Unit' answer after = (answer ≡ sheets_of b) × OneMore a b (unit_table a.ring) after
  Effect (Load rs cs fs) answer after = (answer ≡ sheets_of b) × OneMore a b (loaded a.ring (entries a rs cs fs)) after
  Effect (Add i j) answer after = (answer ≡ sheets_of b) × OneMore a b (added a.ring (sheet_table a b i) (sheet_table a b j)) after
  Effect (Multiply i j) answer after = (answer ≡ sheets_of b) × OneMore a b (product a.ring (order_of b) (sheet_table a b i) (sheet_table a b j)) after
  Effect (Flip i) answer after = (answer ≡ sheets_of b) × OneMore a b (flipped (sheet_table a b i)) after
  Effect Strike answer after = (answer ≡ sheets_of b - 1) × OneLess b after

  -- the one answer of a call, and what the arrays hold after it; a refusal leaves them as they were
  abbrev pub Outcome : Call S → Result ℕ Refusal → Arrays S → Type 0
  Outcome call (Ok answer) after = Granted (lines call) × Effect call answer after
  Outcome call (Err why) after = SentBack (lines call) why × (after ≡ b)
