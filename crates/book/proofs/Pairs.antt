-- Two sheets of a sound book, at their places.
use Rattle.std.proofs.Common.{◌≡◌, ℕ, ◌<◌, ◌≤◌, List, [], ◌∷◌, ◌++◌, length, take, Ok, sym, ap, ◌∙◌, ap₂, arith, rules}
use Rattle.std.proofs.lemmas.List.{places, same_lists, length-take-le}
use Rattle.arithmetic.specs.Semiring.{Figures, meanings}
use Rattle.matrix.specs.Tables.{Table}
use Rattle.sheet.specs.Packed.{table, packed_length}
use Rattle.sheet.specs.Writing.{part}
use Rattle.book.specs.Book.{Arrays, SoundBook, order_of, sheets_of, last_end, sheet_table}
use Rattle.book.specs.Lines.{Granted, Passes, guard, pair_guard, missing, full}
use Rattle.book.specs.Checked.{SheetLies, Lying, PairFound}
use Rattle.book.proofs.Passing.{guard_passes, missing_passes, pair_passes, granted_both}
use Rattle.book.proofs.Sheets.{sheet_before, place_sound}
use Rattle.book.proofs.Ends.{end_within}
use Rattle.book.proofs.Rooms.{Split, Making}

-- a part of the first places of a list
part_take : {A : Type 0} (xs : List A) (end from to : ℕ) → to ≤ end → part (take end xs) from to ≡ part xs from to
part_take xs end from to low = same_lists _ _ (search (rules, places)) (λ k e h. grind (arith, places))

-- the table of the sheet at its place
pub place_table : {S : Type 0} (a : Figures S) (b : Arrays S) (k from to : ℕ) → SheetLies a b k (from, to) → table a.ring (part b.index from to) (meanings a (part b.figures from to)) ≡ sheet_table a b k
place_table a b k from to at = ap₂ (λ x y. table a.ring (part b.index x y) (meanings a (part b.figures x y))) at.from at.to

-- a sheet lies before the last end
pub place_before : {S : Type 0} (a : Figures S) (b : Arrays S) (k from to : ℕ) → SheetLies a b k (from, to) → (from ≤ to) × (to ≤ last_end b)
place_before a b k from to at =
    let before = sheet_before a b at.sound k at.there in
    let end = at.to in
    let low = at.room in
    (omega arith, omega arith)

module _ {S : Type 0} (a : Figures S) (b : Arrays S) (k : ℕ) (place : ℕ × ℕ) (at : SheetLies a b k place) where
  -- the sheet at its place in the arrays
  pub lying : Lying a (order_of b) b.index b.figures place
  lying = let room = at.room in record { from = omega arith; to = at.within; paired = sym at.sound.lengths; sound = place_sound a b k place.0 place.1 at }

  pub lying_table : table a.ring (part b.index place.0 place.1) (meanings a (part b.figures place.0 place.1)) ≡ sheet_table a b k
  lying_table = place_table a b k place.0 place.1 at

  -- the same in what lies before the last end
  module _ (used : List ℕ) (used' : List S) (ue : used ≡ take (last_end b) b.index) (ue' : used' ≡ take (last_end b) b.figures) where
    part_used : part used place.0 place.1 ≡ part b.index place.0 place.1
    part_used = let to = (place_before a b k place.0 place.1 at).1 in ap (λ xs. part xs place.0 place.1) ue ∙ part_take b.index (last_end b) place.0 place.1 to

    part_used' : part used' place.0 place.1 ≡ part b.figures place.0 place.1
    part_used' = let to = (place_before a b k place.0 place.1 at).1 in ap (λ xs. part xs place.0 place.1) ue' ∙ part_take b.figures (last_end b) place.0 place.1 to

    pub lying_used : Lying a (order_of b) used used' place
    lying_used =
        let room = at.room in
        let to = (place_before a b k place.0 place.1 at).1 in
        let end = end_within b at.sound.header_rules in
        let same = at.sound.lengths in
        let long : length used ≡ last_end b = ap length ue ∙ length-take-le (last_end b) b.index end in
        let long' : length used' ≡ last_end b = ap length ue' ∙ length-take-le (last_end b) b.figures (omega arith) in
        record { from = omega arith; to = omega arith; paired = long' ∙ sym long; sound = rw (part_used, part_used') (place_sound a b k place.0 place.1 at) }

    -- the table of the sheet that lies there
    pub used_table : (ws : List ℕ) (fs : List S) → ws ≡ part used place.0 place.1 → fs ≡ part used' place.0 place.1 → table a.ring ws (meanings a fs) ≡ sheet_table a b k
    used_table ws fs we fe = ap₂ (λ x y. table a.ring x (meanings a y)) (we ∙ part_used) (fe ∙ part_used') ∙ lying_table

-- there is a number for a new sheet
full_passes : (sheets : ℕ) → sheets < 16 → Passes (full sheets)
full_passes sheets few why fault = let e = fault.2.1 in absurd (omega arith)

-- the lines that a call on one sheet, or on two, that makes a new one begins with do not apply
pub flip_granted : {S : Type 0} (a : Figures S) (b : Arrays S) (k : ℕ) → SoundBook a b → k < sheets_of b → sheets_of b < 16 → Granted (guard a b ++ (missing b (k ∷ []) ∷ (full (sheets_of b) ∷ [])))
flip_granted a b k sound low few = granted_both (guard a b) (_ ∷ (full (sheets_of b) ∷ [])) (guard_passes b a sound) (missing_passes b k low, (full_passes (sheets_of b) few, tt))

pub pair_granted : {S : Type 0} (a : Figures S) (b : Arrays S) (i j : ℕ) → SoundBook a b → i < sheets_of b → j < sheets_of b → sheets_of b < 16 → Granted (pair_guard a b i j)
pair_granted a b i j sound low low' few = granted_both (guard a b) (_ ∷ (full (sheets_of b) ∷ [])) (guard_passes b a sound) (pair_passes b i j low low', (full_passes (sheets_of b) few, tt))

-- a call that makes a sheet of two: op is what it makes of two tables of an order
module _ {S : Type 0} (a : Figures S) (b : Arrays S) (i j : ℕ) (one two : ℕ × ℕ) (found : PairFound a b i j (Ok (one, two))) {used free : List ℕ} {used' free' : List S} (split : Split b used free used' free') (op : ℕ → Table a.F → Table a.F → Table a.F) where
  pub pair_making : (n : ℕ) (ws us : List ℕ) (fs gs : List S) (size : ℕ) → n ≡ order_of b → ws ≡ part used one.0 one.1 → fs ≡ part used' one.0 one.1 → us ≡ part used two.0 two.1 → gs ≡ part used' two.0 two.1 → size ≡ packed_length a.ring n (op n (table a.ring ws (meanings a fs)) (table a.ring us (meanings a gs))) → Making a b (pair_guard a b i j) (op (order_of b) (sheet_table a b i) (sheet_table a b j)) used free used' free' n (op n (table a.ring ws (meanings a fs)) (table a.ring us (meanings a gs))) size
  pair_making n ws us fs gs size order we fe ue ge is = record {
    sound = found.0.sound;
    split = split;
    pass = pair_granted a b i j found.0.sound found.0.there found.1.there found.2;
    order = order;
    same = ap₂ (op n) (used_table a b i one found.0 used used' split.used_is split.used_is' ws fs we fe) (used_table a b j two found.1 used used' split.used_is split.used_is' us gs ue ge) ∙ ap (λ k. op k (sheet_table a b i) (sheet_table a b j)) order;
    size_is = is;
  }
