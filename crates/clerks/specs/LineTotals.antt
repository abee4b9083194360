-- The call that carries two vectors through a line of sheets and weighs them: what it answers, and what it leaves.
use Rattle.std.specs.Prelude.{◌≡◌, ℕ, ◌+◌, ◌<◌, ◌⊎◌, List, [], ◌∷◌, ◌++◌, length, Ok, Err, Result, ◌≢◌, slice_index}
use Rattle.std.specs.List.{AllByRecursion}
use Rattle.arithmetic.specs.Semiring.{Figures, meanings}
use Rattle.sheet.specs.declared.refusal.Refusal.{Refusal}
use Rattle.sheet.specs.declared.refusal.Refusal.TheVariants.{Lengths, Sheet}
use Rattle.book.specs.Book.{Arrays, SoundBook, order_of, sheets_of}
use Rattle.book.specs.Lines.{Line, line, Granted, SentBack, FirstMissing, guard, missing}
use Rattle.clerks.specs.Carrying.{CarriedBack, CarriedForward, line_total}

-- the vectors that the call writes to
pub record Written (S : Type 0) : Type 0 where
  pub back : List S
  pub forward : List S
  pub spare : List S

-- the first of these vectors that is not as long as n, counted from `at`
abbrev pub FirstUneven : {S : Type 0} → ℕ → List (List S) → ℕ → ℕ → Type 0
FirstUneven n [] at p = ⊥
FirstUneven n (v ∷ vs) at p = ((length v ≢ n) × (p ≡ at)) ⊎ ((length v ≡ n) × FirstUneven n vs (at + 1) p)

abbrev pub Even : {S : Type 0} → ℕ → List (List S) → Type 0
Even n vectors = AllByRecursion (λ v. length v ≡ n) vectors

-- one of the vectors is not as long as n
abbrev pub uneven : {S : Type 0} → ℕ → List (List S) → Line
uneven n vectors = line Lengths (FirstUneven n vectors 0)

abbrev pub LengthsChecked : {S : Type 0} → ℕ → List (List S) → Result (Unit {0}) Refusal → Type 0
LengthsChecked n vectors (Ok u) = Even n vectors
LengthsChecked n vectors (Err why) = uneven n vectors why

-- every one of the named sheets is below this number; or the first that is not is told
abbrev pub SheetsChecked : List ℕ → ℕ → Result (Unit {0}) Refusal → Type 0
SheetsChecked names sheets (Ok u) = (k : ℕ) → k < length names → slice_index names k < sheets
SheetsChecked names sheets (Err why) = line Sheet (FirstMissing sheets names) why

module _ {S : Type 0} (a : Figures S) (b : Arrays S) where
  -- the lines that the call is held against: the book, the lengths of the vectors, the sheets that the line names
  abbrev pub line_lines : List ℕ → List (List S) → List Line
  line_lines sheets vectors = guard a b ++ (uneven (order_of b) vectors ∷ (missing b sheets ∷ []))

  -- every number of the line is that of a standing sheet of a sound book
  pub record LineStands (sheets : List ℕ) : Type 0 where
    pub sound : SoundBook a b
    pub there : (k : ℕ) → k < length sheets → slice_index sheets k < sheets_of b

  -- the line stands and the vectors are as long as the order; or the call is sent back
  abbrev pub LineChecked : List ℕ → List (List S) → Result (Unit {0}) Refusal → Type 0
  LineChecked sheets vectors (Ok u) = LineStands sheets × Even (order_of b) vectors
  LineChecked sheets vectors (Err why) = SentBack (line_lines sheets vectors) why

  -- x carried back and y carried forward, and two answers: y weighed against the one, the other weighed against x; both
  -- are the line's total. The spare vector holds x
  pub record LineWeighed (sheets : List ℕ) (x y : List S) (answer : S × S) (after : Written S) : Type 0 where
    pub back : CarriedBack a b sheets x after.back
    pub forward : CarriedForward a b sheets y after.forward
    pub spare : after.spare ≡ x
    pub first : a.meaning answer.0 ≡ line_total a b sheets (meanings a y) (meanings a x)
    pub second : a.meaning answer.1 ≡ line_total a b sheets (meanings a y) (meanings a x)

  -- a refusal leaves the vectors as they were
  abbrev pub LineOutcome : List ℕ → List S → List S → Written S → Result (S × S) Refusal → Written S → Type 0
  LineOutcome sheets x y before (Ok answer) after = Granted (line_lines sheets (x ∷ (y ∷ (before.back ∷ (before.forward ∷ (before.spare ∷ [])))))) × LineWeighed sheets x y answer after
  LineOutcome sheets x y before (Err why) after = SentBack (line_lines sheets (x ∷ (y ∷ (before.back ∷ (before.forward ∷ (before.spare ∷ [])))))) why × (after ≡ before)

  -- a line that stands is carried to its end
  abbrev pub BackDone : List ℕ → List S → List S → Result (Unit {0}) Refusal → Type 0
  BackDone sheets x out (Ok u) = CarriedBack a b sheets x out
  BackDone sheets x out (Err why) = ⊥

  abbrev pub ForwardDone : List ℕ → List S → List S → Result (Unit {0}) Refusal → Type 0
  ForwardDone sheets y out (Ok u) = CarriedForward a b sheets y out
  ForwardDone sheets y out (Err why) = ⊥
