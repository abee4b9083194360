-- The sheets of a sound book, one by one.
use Rattle.std.proofs.Common.{◌≡◌, ℕ, ◌+◌, ◌-◌, ◌<◌, ◌≤◌, refl, arith}
use Rattle.arithmetic.specs.Semiring.{Figures, meanings}
use Rattle.sheet.specs.Packed.{Sound}
use Rattle.sheet.proofs.Found.{sound_rises, row_within}
use Rattle.sheet.specs.Writing.{part}
use Rattle.book.specs.Book.{Arrays, SoundBook, order_of, sheets_of, capacity, start_of, last_end, sheet_index, sheet_figures}
use Rattle.book.specs.Lookups.{row_from, row_to}
use Rattle.book.specs.Checked.{SheetLies}
use Rattle.book.proofs.Starts.{lies, sheet_long, few, starts_rise}

module _ {S : Type 0} (a : Figures S) (b : Arrays S) (sound : SoundBook a b) where
  pub order_most : order_of b ≤ 1024
  order_most = ((sound.header_rules 0 (omega arith)).order (omega arith)).1

  pub sheets_few : sheets_of b ≤ 16
  sheets_few = few _ _ sound.header_rules

  module _ (k : ℕ) (low : k < sheets_of b) where
    -- a sheet has room for its head
    pub sheet_from : start_of b k + (order_of b + 1) ≤ start_of b (k + 1)
    sheet_from = let e : 2 + (k + 1) ≡ 3 + k = omega arith in rw e (lies _ (capacity b) sound.header_rules k low).room

    pub sheet_to : start_of b (k + 1) ≤ capacity b
    sheet_to = let e : 2 + (k + 1) ≡ 3 + k = omega arith in rw e (lies _ (capacity b) sound.header_rules k low).within

    pub sheet_before : start_of b (k + 1) ≤ last_end b
    sheet_before = starts_rise a b sound.header_rules (k + 1) (sheets_of b) (omega arith) (omega arith)

    pub sheet_sound : Sound a.ring (order_of b) (sheet_index b k) (sheet_figures a b k)
    sheet_sound =
        let long = sheet_long a b sound.header_rules k low in
        let from = sheet_from in
        let end = sheet_before in
        record {
          room = omega arith;
          rules = λ p within.
              let e : start_of b k + p - start_of b k ≡ p = omega arith in
              rw e at (sound.positions (start_of b k + p) (omega arith) k low (omega arith) (omega arith));
        }

    pub sheet_lies : SheetLies a b k (start_of b k, start_of b (k + 1))
    sheet_lies =
        let room = sheet_from in
        let end = sheet_to in
        let same = sound.lengths in
        record { sound = sound; there = low; from = refl; to = refl; room = omega arith; within = end; within_figures = omega arith }

    pub row_rises : (row : ℕ) → row < order_of b → row_from b k row ≤ row_to b k row
    row_rises row below = let up = sound_rises a.ring (order_of b) (sheet_index b k) (sheet_figures a b k) sheet_sound row (row + 1) (omega arith) (omega arith) in omega arith

    pub row_ends : (row : ℕ) → row < order_of b → row_to b k row ≤ start_of b (k + 1)
    row_ends row below =
        let long = sheet_long a b sound.header_rules k low in
        let from = sheet_from in
        let end = row_within a.ring (order_of b) (sheet_index b k) (sheet_figures a b k) sheet_sound (row + 1) (omega arith) in
        omega arith

-- the same of a sheet by its place
module _ {S : Type 0} (a : Figures S) (b : Arrays S) (k from to : ℕ) (at : SheetLies a b k (from, to)) where
  pub place_sound : Sound a.ring (order_of b) (part b.index from to) (meanings a (part b.figures from to))
  place_sound = rw (at.from, at.to) (sheet_sound a b at.sound k at.there)
