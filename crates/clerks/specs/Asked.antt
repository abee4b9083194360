-- The calls of the code, read as the calls that the theorems speak of, and lists of them carried out.
use Rattle.std.specs.Prelude.{◌≡◌, ℕ, List, map, length, Ok, Err, Result, ◌≢◌}
use Rattle.std.specs.List.{zip}
use Rattle.arithmetic.specs.Semiring.{Figures}
use Rattle.sheet.specs.declared.refusal.Refusal.{Refusal}
use Rattle.sheet.specs.declared.refusal.Refusal.TheVariants.{Lengths}
use Rattle.book.specs.Book.{Arrays}
use Rattle.book.specs.Calls.{Call, Unit', Load, Add, Multiply, Flip, Strike}
use Rattle.clerks.specs.declared.call.Call as told
use Rattle.clerks.specs.declared.call.Call.TheVariants as way
use Rattle.clerks.specs.Clerks.{Run}

abbrev pub asked : {S : Type 0} → told.Call S → Call S
asked way.Unit = Unit'
asked (way.Load rows columns figures) = Load rows.now columns.now figures.now
asked (way.Add first second) = Add first second
asked (way.Multiply first second) = Multiply first second
asked (way.Flip sheet) = Flip sheet
asked way.Strike = Strike

-- each call with its answer
abbrev pub answered : {S : Type 0} → List (told.Call S) → List (Result ℕ Refusal) → List (Call S × Result ℕ Refusal)
answered calls answers = zip (map asked calls) answers

-- there is one place for an answer for each call; or the places are refused
abbrev pub PlacesChecked : {S : Type 0} → List (told.Call S) → List (Result ℕ Refusal) → Result (Unit {0}) Refusal → Type 0
PlacesChecked calls places (Ok u) = length places ≡ length calls
PlacesChecked calls places (Err why) = (length places ≢ length calls) × (why ≡ Lengths 1)

-- the calls were carried out one after another, each with its answer; or there is not one place for an answer for each
-- call, and nothing changed
abbrev pub CarriedOut : {S : Type 0} → Figures S → Arrays S → List (told.Call S) → List (Result ℕ Refusal) → Result (Unit {0}) Refusal → Arrays S → List (Result ℕ Refusal) → Type 0
CarriedOut a b calls places (Ok u) after answers = (length answers ≡ length calls) × Run a b (answered calls answers) after
CarriedOut a b calls places (Err why) after answers = (length places ≢ length calls) × (why ≡ Lengths 1) × (after ≡ b) × (answers ≡ places)
