-- Every call has one outcome: what its arguments and the arrays hold leaves nothing open.
use Rattle.std.specs.Prelude.{◌≡◌, ℕ, List, Ok, Err, Result}
use Rattle.std.specs.Borrow.{Bor}
use Rattle.arithmetic.specs.Semiring.{Figures, meanings}
use Rattle.matrix.specs.Vectors.{Vector}
use Rattle.sheet.specs.declared.refusal.Refusal.{Refusal}
use Rattle.book.specs.Book.{Arrays}
use Rattle.book.specs.Calls.{Call, Open, Unit', Load, Add, Multiply, Flip, Strike, Outcome}
use Rattle.book.specs.Lookups.{CellIs, RowIs, RowPartIs}
use Rattle.book.specs.Workings.{Worked}

-- the same words, and figures that mean the same one by one
pub record Alike {S : Type 0} (a : Figures S) (x y : Arrays S) : Type 0 where
  pub header : x.header ≡ y.header
  pub index : x.index ≡ y.index
  pub figures : meanings a x.figures ≡ meanings a y.figures

-- the call, answered so, writes no figure
abbrev pub WritesNone : {S : Type 0} → Call S → Result ℕ Refusal → Type 0
WritesNone call (Err why) = Unit {0}
WritesNone (Open n) (Ok answer) = Unit {0}
WritesNone Unit' (Ok answer) = ⊥
WritesNone (Load rs cs fs) (Ok answer) = ⊥
WritesNone (Add i j) (Ok answer) = ⊥
WritesNone (Multiply i j) (Ok answer) = ⊥
WritesNone (Flip i) (Ok answer) = ⊥
WritesNone Strike (Ok answer) = Unit {0}

-- two outcomes of one call have the same answer and leave the same in the arrays: of a new sheet the same meanings, and
-- where no figure is written the same figures
abbrev pub OutcomeIsSingle : {S : Type 0} → Figures S → Type 0
OutcomeIsSingle {S} a =
    (b : Arrays S) (call : Call S) (r r' : Result ℕ Refusal) (after after' : Arrays S) →
    Outcome a b call r after →
    Outcome a b call r' after' →
    (r ≡ r') × Alike a after after' × (WritesNone call r → after ≡ after')

-- an answer by what the figure in it means
abbrev pub meant : {S : Type 0} (a : Figures S) → Result S Refusal → Result a.F Refusal
meant a (Ok figure) = Ok (a.meaning figure)
meant a (Err why) = Err why

-- an answer by what the part in it holds
abbrev pub held : {A : Type 0} → Result (Bor A) Refusal → Result A Refusal
held (Ok found) = Ok found.now
held (Err why) = Err why

-- a call, answered so, was refused
abbrev pub Refused : {A : Type 0} → Result A Refusal → Type 0
Refused (Ok answer) = ⊥
Refused (Err why) = Unit {0}

module _ {S : Type 0} (a : Figures S) where
  abbrev pub CellIsSingle : Type 0
  CellIsSingle = (b : Arrays S) (k row column : ℕ) (r r' : Result S Refusal) → CellIs a b k row column r → CellIs a b k row column r' → meant a r ≡ meant a r'

  abbrev pub RowIsSingle : Type 0
  RowIsSingle = (b : Arrays S) (k row : ℕ) (r r' : Result (ℕ × ℕ) Refusal) → RowIs a b k row r → RowIs a b k row r' → r ≡ r'

  abbrev pub ColumnsAreSingle : Type 0
  ColumnsAreSingle = (b : Arrays S) (k row : ℕ) (r r' : Result (Bor (List ℕ)) Refusal) → RowPartIs a b b.index k row r → RowPartIs a b b.index k row r' → held r ≡ held r'

  abbrev pub FiguresAreSingle : Type 0
  FiguresAreSingle = (b : Arrays S) (k row : ℕ) (r r' : Result (Bor (List S)) Refusal) → RowPartIs a b b.figures k row r → RowPartIs a b b.figures k row r' → held r ≡ held r'

  -- two outcomes of one working have the same answer and leave the same meanings in the vector out; refused, the same
  -- figures. It holds of a sheet times a vector and of a vector times a sheet: v is the vector that the working makes
  abbrev pub WorkingIsSingle : Type 0
  WorkingIsSingle =
      (b : Arrays S) (v : Vector a.F) (k : ℕ) (given out : List S) (r r' : Result ℕ Refusal) (after after' : List S) →
      Worked a b v k given out r after →
      Worked a b v k given out r' after' →
      (r ≡ r') × (meanings a after ≡ meanings a after') × (Refused r → after ≡ after')
