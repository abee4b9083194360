-- A line of sheets, one sheet after another.
use Rattle.std.proofs.Common.{◌≡◌, ℕ, suc, ◌+◌, ◌-◌, ◌<◌, not, nat_eq, nat_le, Some, None, List, [], ◌∷◌, ◌++◌, length, map, reverse, get_or, Ok, Err, Result, ◌∙◌, inl, inr, ⊎_elim, arith}
use Rattle.std.specs.List.{find, position_from}
use Rattle.std.proofs.lemmas.List.{reverse-append, length-reverse, get_or-reverse, get_or_default}
use Rattle.std.proofs.lemmas.Bool.Decides.{leb_tells, eqb_tells}
use Rattle.arithmetic.specs.Semiring.{Figures}
use Rattle.sheet.specs.declared.refusal.Refusal.{Refusal}
use Rattle.sheet.specs.Weighing.{Weighs}
use Rattle.book.specs.Book.{Arrays, SoundBook, order_of, sheets_of}
use Rattle.book.specs.Lines.{Granted, SentBack, FirstMissing, guard, missing}
use Rattle.book.specs.Workings.{working_lines, ColumnWorked, RowWorked}
use Rattle.book.proofs.Passing.{granted_both, guard_passes, sent_after}
use Rattle.book.proofs.Singles.{not_both}
use Rattle.book.proofs.Worked.{working_granted}
use Rattle.clerks.specs.Carrying.{CarriedBack, back_more, CarriedForward, forward_none, forward_more}
use Rattle.clerks.specs.LineTotals.{FirstUneven, Even, uneven, SheetsChecked, line_lines, LineStands, LineChecked, LineWeighed}
use Rattle.clerks.proofs.Carrying.{carried_totals}

-- what a search along the line for a number that is too high finds
pub first_missing : (names : List ℕ) (sheets p : ℕ) → find (λ k. nat_le sheets k) names ≡ Some p → FirstMissing sheets names p
first_missing [] sheets p found = absurd (cc found)
first_missing (n ∷ ns) sheets p found = ⊎_elim
    (λ high. let is = rw high.0 at found in inl (high.1, cc))
    (λ low. inr (low.1, first_missing ns sheets p (rw low.0 at found)))
    (leb_tells sheets n)

-- what a search for a vector that is not as long as n finds
pub first_uneven : {S A : Type 0} (items : A → List S) (n at p : ℕ) (vectors : List A) → position_from (λ v. not (nat_eq (length (items v)) n)) at vectors ≡ Some p → FirstUneven n (map items vectors) at p
first_uneven items n at p [] found = absurd (cc found)
first_uneven items n at p (v ∷ vs) found = ⊎_elim
    (λ same. inr (same.1, first_uneven items n (at + 1) p vs (rw same.0 at found)))
    (λ other. let is = rw other.0 at found in inl (other.1, cc))
    (eqb_tells (length (items v)) n)

pub all_even : {S A : Type 0} (items : A → List S) (n at : ℕ) (vectors : List A) → position_from (λ v. not (nat_eq (length (items v)) n)) at vectors ≡ None → Even n (map items vectors)
all_even items n at [] found = tt
all_even items n at (v ∷ vs) found = ⊎_elim
    (λ same. (same.1, all_even items n (at + 1) vs (rw same.0 at found)))
    (λ other. absurd (let is = rw other.0 at found in cc))
    (eqb_tells (length (items v)) n)

none_missing : (names : List ℕ) (sheets p : ℕ) → ((k : ℕ) → k < length names → get_or names k 0 < sheets) → FirstMissing sheets names p → ⊥
none_missing [] sheets p below missing = missing
none_missing (n ∷ ns) sheets p below (inl here) =
    let low = below 0 (omega arith) in
    let high = here.0 in
    absurd (omega arith)
none_missing (n ∷ ns) sheets p below (inr later) = none_missing ns sheets p (λ k h. below (suc k) (omega arith)) later.1

none_uneven : {S : Type 0} (n : ℕ) (vectors : List (List S)) (at p : ℕ) → Even n vectors → FirstUneven n vectors at p → ⊥
none_uneven n [] at p even uneven = uneven
none_uneven n (v ∷ vs) at p even (inl here) = here.0 even.0
none_uneven n (v ∷ vs) at p even (inr later) = none_uneven n vs (at + 1) p even.1 later.1

module _ {S : Type 0} (a : Figures S) (b : Arrays S) (line : List ℕ) where
  pub line_granted : LineStands a b line → (vectors : List (List S)) → Even (order_of b) vectors → Granted (line_lines a b line vectors)
  line_granted stands vectors even =
      granted_both (guard a b) (uneven (order_of b) vectors ∷ (missing b line ∷ [])) (guard_passes b a stands.sound)
      ((λ why fault. none_uneven (order_of b) vectors 0 fault.0 even fault.2), ((λ why fault. none_missing line (sheets_of b) fault.0 stands.there fault.2), tt))

  -- a sound book and vectors as long as the order: what is left is whether the sheets are there
  pub line_checked : SoundBook a b → (vectors : List (List S)) → Even (order_of b) vectors → (r : Result (Unit {0}) Refusal) → SheetsChecked line (sheets_of b) r → LineChecked a b line vectors r
  line_checked sound vectors even (Ok u) there = (record { sound = sound; there = there }, even)
  line_checked sound vectors even (Err why) missed =
      sent_after (guard a b) (uneven (order_of b) vectors ∷ (missing b line ∷ [])) why (guard_passes b a sound)
      (inr ((λ why fault. none_uneven (order_of b) vectors 0 fault.0 even fault.2), inl missed))

  pub line_weighed : (x y back forward spare : List S) (first second : S) → length x ≡ order_of b → length y ≡ order_of b → CarriedBack a b line x back → CarriedForward a b line y forward → spare ≡ x → Weighs a y back (Ok first) → Weighs a forward x (Ok second) → LineWeighed a b line x y (first, second) (record { back = back; forward = forward; spare = spare })
  line_weighed x y back forward spare first second long long' went_back went_forward copied weighs weighs' =
      let both = carried_totals a b line x y back forward long long' went_back went_forward in
      record { back = went_back; forward = went_forward; spare = copied; first = weighs.1 ∙ both.0; second = weighs'.1 ∙ both.1 }

  -- a sheet that was met on the way back along a line that stands is there, and no working on it is sent back
  pub never_sent : LineStands a b line → (j sheet : ℕ) → (j < length (reverse line)) × (sheet ≡ get_or (reverse line) j sheet) → (given out : List S) → length given ≡ order_of b → length out ≡ order_of b → (why : Refusal) → SentBack (working_lines a b sheet given out) why → ⊥
  never_sent stands j sheet met given out long long' why sent =
      let low : length line - 1 - j < length line = omega (arith, met.0, length-reverse line) in
      let is : sheet ≡ get_or line (length line - 1 - j) 0 = met.1 ∙ (get_or-reverse line j sheet (omega (arith, met.0, length-reverse line)) ∙ get_or_default line _ sheet 0 low) in
      let there : sheet < sheets_of b = rw is (stands.there _ low) in
      not_both (working_lines a b sheet given out) why (working_granted a b sheet given out stands.sound there long long') sent

-- one sheet more at the front
pub back_next : {S : Type 0} (a : Figures S) (b : Arrays S) (sheets : List ℕ) (sheet : ℕ) (x before out : List S) (answer : ℕ) → CarriedBack a b (reverse sheets) x before → ColumnWorked a b sheet before before (Ok answer) out → CarriedBack a b (reverse (sheets ++ sheet ∷ [])) x out
back_next a b sheets sheet x before out answer rest worked = rw reverse-append (back_more before answer rest worked)

-- one sheet more at the end
pub forward_next : {S : Type 0} (a : Figures S) (b : Arrays S) {sheets : List ℕ} {y before : List S} → CarriedForward a b sheets y before → {sheet answer : ℕ} {out : List S} → RowWorked a b sheet before before (Ok answer) out → CarriedForward a b (sheets ++ sheet ∷ []) y out
forward_next a b forward_none worked = forward_more _ _ worked forward_none
forward_next a b (forward_more before answer first rest) worked = forward_more before answer first (forward_next a b rest worked)
