-- The calls that a clerk's book is opened and worked with, and two clerks' books: what they answer, and what they leave.
use Rattle.std.specs.Prelude.{◌≡◌, ℕ, List, ◌∷◌, length, Ok, Err, Result, ◌≢◌}
use Rattle.arithmetic.specs.Semiring.{Figures}
use Rattle.sheet.specs.declared.refusal.Refusal.{Refusal}
use Rattle.sheet.specs.declared.refusal.Refusal.TheVariants.{Lengths}
use Rattle.book.specs.Book.{Arrays}
use Rattle.book.specs.Lines.{Line, line, Granted, SentBack}
use Rattle.book.specs.Calls.{Open, lines}
use Rattle.clerks.specs.declared.call.Call as told
use Rattle.clerks.specs.declared.both.Halt.{Halt}
use Rattle.clerks.specs.declared.both.Halt.TheVariants as halt
use Rattle.clerks.specs.Clerks.{ClerksBook, TwoBooks}
use Rattle.clerks.specs.Asked.{answered}
use Rattle.clerks.specs.LineTotals.{Written, LineOutcome}

-- a clerk's desk: the arrays of the book, and the places for what each call answered
pub record Desk (S : Type 0) : Type 0 where
  pub book : Arrays S
  pub answers : List (Result ℕ Refusal)

-- there is not one place for an answer for each call
abbrev pub places : {S : Type 0} → List (told.Call S) → List (Result ℕ Refusal) → Line
places calls answers = line Lengths (λ p. (p ≡ 1) × (length answers ≢ length calls))

module _ {S : Type 0} (a : Figures S) (n : ℕ) where
  -- the lines that a clerk's work is held against: the places for answers, and those of open
  abbrev pub desk_lines : List (told.Call S) → Desk S → List Line
  desk_lines calls desk = places calls desk.answers ∷ lines a desk.book (Open n)

  abbrev pub DeskChecked : List (told.Call S) → Desk S → Result (Unit {0}) Refusal → Type 0
  DeskChecked calls desk (Ok u) = Granted (desk_lines calls desk)
  DeskChecked calls desk (Err why) = SentBack (desk_lines calls desk) why

  -- the book was opened and every call carried out; or the work was sent back, and nothing changed
  abbrev pub Worked : List (told.Call S) → Desk S → Result (Unit {0}) Refusal → Desk S → Type 0
  Worked calls before (Ok u) after = Granted (desk_lines calls before) × (length after.answers ≡ length calls) × ClerksBook a n before.book (answered calls after.answers) after.book
  Worked calls before (Err why) after = SentBack (desk_lines calls before) why × (after ≡ before)

-- all that a call on two clerks' books writes to
pub record Desks (S : Type 0) : Type 0 where
  pub first : Desk S
  pub second : Desk S
  pub vectors : Written S

module _ {S : Type 0} (a : Figures S) (n : ℕ) (bs cs : List (told.Call S)) where
  -- both books were opened and worked, and what that means for any two of their sheets
  pub record BothWorked (before after : Desks S) : Type 0 where
    pub first : Worked a n bs before.first (Ok tt) after.first
    pub second : Worked a n cs before.second (Ok tt) after.second
    pub promise : TwoBooks a n (answered bs after.first.answers) after.first.book (answered cs after.second.answers) after.second.book

  -- the work on a book was sent back, which book and why, and nothing changed; else both were worked, and the vectors were
  -- carried through a line of the first book, or that was sent back
  abbrev pub BothOutcome : List ℕ → List S → List S → Desks S → Result (S × S) Halt → Desks S → Type 0
  BothOutcome sheets x y before (Ok totals) after = BothWorked before after × LineOutcome a after.first.book sheets x y before.vectors (Ok totals) after.vectors
  BothOutcome sheets x y before (Err (halt.First why)) after = SentBack (desk_lines a n bs before.first) why × (after ≡ before)
  BothOutcome sheets x y before (Err (halt.Second why)) after = Granted (desk_lines a n bs before.first) × SentBack (desk_lines a n cs before.second) why × (after ≡ before)
  BothOutcome sheets x y before (Err (halt.Line why)) after = BothWorked before after × LineOutcome a after.first.book sheets x y before.vectors (Err why) after.vectors
