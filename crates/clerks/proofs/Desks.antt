-- Two clerks' books that were opened and worked by calls of the code.
use Rattle.std.proofs.Common.{◌≡◌, ℕ, true, false, List, Ok, Err, Result, is_ok, IsErrAnd, MatchResult, refl}
use Rattle.std.proofs.lemmas.Result.{err_from_is_err_and}
use Rattle.arithmetic.specs.Semiring.{Figures}
use Rattle.sheet.specs.declared.refusal.Refusal.{Refusal}
use Rattle.sheet.specs.declared.refusal.Refusal.TheVariants.{Lengths}
use Rattle.book.specs.Book.{Arrays}
use Rattle.book.specs.Lines.{Granted}
use Rattle.book.specs.Calls.{Open, Outcome}
use Rattle.book.proofs.Singles.{not_both}
use Rattle.clerks.specs.declared.call.Call as told
use Rattle.clerks.specs.declared.both.Halt.{Halt}
use Rattle.clerks.specs.declared.both.Halt.TheVariants as halt
use Rattle.clerks.specs.Asked.{CarriedOut}
use Rattle.clerks.specs.LineTotals.{LineOutcome}
use Rattle.clerks.specs.Working.{Desk, Desks, desk_lines, DeskChecked, Worked, BothWorked, BothOutcome}
use Rattle.clerks.proofs.Asks.{asked_listed}
use Rattle.clerks.proofs.Agreeing.{two_clerks}

-- a desk where the work is not sent back: once the book is open, every call is carried out
pub book_worked : {S : Type 0} (a : Figures S) (n : ℕ) (calls : List (told.Call S)) (before : Desk S) (answer : ℕ) (opened : Arrays S) (r : Result (Unit {0}) Refusal) (after : Desk S) → Granted (desk_lines a n calls before) → Outcome a before.book (Open n) (Ok answer) opened → CarriedOut a opened calls before.answers r after.book after.answers → Worked a n calls before r after
book_worked a n calls before answer opened (Ok u) after granted opens carried = (granted, carried.0, record { opened = opened; answer = answer; opens = opens; listed = asked_listed calls after.answers; run = carried.1 })
book_worked a n calls before answer opened (Err why) after granted opens carried = absurd (granted.0 (Lengths 1) (1, refl, (refl, carried.0)))

-- what a check that did not fail says, and a working
pub desk_granted : {S : Type 0} (a : Figures S) (n : ℕ) (calls : List (told.Call S)) (desk : Desk S) (r : Result (Unit {0}) Refusal) → DeskChecked a n calls desk r → true ≡ is_ok r → Granted (desk_lines a n calls desk)
desk_granted a n calls desk (Ok u) checked ok = checked
desk_granted a n calls desk (Err why) checked ok = absurd (cc ok)

pub desk_worked : {S : Type 0} (a : Figures S) (n : ℕ) (calls : List (told.Call S)) (before : Desk S) (r : Result (Unit {0}) Refusal) (after : Desk S) → Worked a n calls before r after → true ≡ is_ok r → Worked a n calls before (Ok tt) after
desk_worked a n calls before (Ok u) after worked ok = worked
desk_worked a n calls before (Err why) after worked ok = absurd (cc ok)

-- a desk where the work is not sent back is worked
pub never_halted : {S : Type 0} (a : Figures S) (n : ℕ) (calls : List (told.Call S)) (before : Desk S) (r : Result (Unit {0}) Refusal) (after : Desk S) → Granted (desk_lines a n calls before) → Worked a n calls before r after → false ≡ is_ok r → ⊥
never_halted a n calls before (Ok u) after granted worked halted = cc halted
never_halted a n calls before (Err why) after granted worked halted = not_both (desk_lines a n calls before) why granted worked.0

pub both_worked : {S : Type 0} (a : Figures S) (n : ℕ) (bs cs : List (told.Call S)) (before after : Desks S) → Worked a n bs before.first (Ok tt) after.first → Worked a n cs before.second (Ok tt) after.second → BothWorked a n bs cs before after
both_worked a n bs cs before after first second = record { first = first; second = second; promise = two_clerks a n before.first.book before.second.book _ _ after.first.book after.second.book first.2 second.2 }

-- both books worked, and what came of the line
pub both_outcome : {S : Type 0} (a : Figures S) (n : ℕ) (bs cs : List (told.Call S)) (sheets : List ℕ) (x y : List S) (before after : Desks S) → BothWorked a n bs cs before after → (r : Result (S × S) Refusal) → LineOutcome a after.first.book sheets x y before.vectors r after.vectors → (s : Result (S × S) Halt) → MatchResult r (λ totals. s ≡ Ok totals) (λ why. IsErrAnd s (λ h. h ≡ halt.Line why)) → BothOutcome a n bs cs sheets x y before s after
both_outcome a n bs cs sheets x y before after worked (Ok totals) out s is = rw is (worked, out)
both_outcome a n bs cs sheets x y before after worked (Err why) out (Ok totals) is = absurd is
both_outcome a n bs cs sheets x y before after worked (Err why) out (Err h) is = rw is (worked, out)

-- the work on the second book sent back before either was touched
pub second_halted : {S : Type 0} (a : Figures S) (n : ℕ) (bs cs : List (told.Call S)) (sheets : List ℕ) (x y : List S) (before : Desks S) → Granted (desk_lines a n bs before.first) → (r : Result (Unit {0}) Refusal) → DeskChecked a n cs before.second r → (h : Halt) → MatchResult r (λ u. Err h ≡ Ok u) (λ why. h ≡ halt.Second why) → (s : Result (S × S) Halt) → IsErrAnd s (λ k. k ≡ h) → BothOutcome a n bs cs sheets x y before s before
second_halted a n bs cs sheets x y before granted (Ok u) checked h is s came = absurd (cc is)
second_halted a n bs cs sheets x y before granted (Err why) checked h is s came =
    let p = err_from_is_err_and s came in
    rw (p.1, p.2, is) (granted, checked, refl)
