-- Two books of one order, each worked by a clerk's list of calls.
use Rattle.std.specs.Prelude.{◌≡◌, ℕ, ◌+◌, ◌<◌, Bool, true, ◌⊎◌, List, [], ◌∷◌, length, Ok, Result, slice_index_or}
use Rattle.std.specs.List.{AllByRecursion}
use Rattle.arithmetic.specs.Semiring.{Figures, Commutes}
use Rattle.matrix.specs.Tables.{Table}
use Rattle.matrix.specs.Bags.{SameBag}
use Rattle.sheet.specs.Packed.{packed_index, packed_figures}
use Rattle.sheet.specs.Writing.{part}
use Rattle.sheet.specs.declared.refusal.Refusal.{Refusal}
use Rattle.book.specs.Book.{Arrays, SoundBook, order_of, sheets_of, start_of, sheet_index, sheet_figures}
use Rattle.book.specs.Calls.{Call, Open, Unit', Load, Add, Multiply, Flip, Strike, Outcome}
use Rattle.clerks.specs.Pedigree.{Pedigree, pedigrees, total}
use Rattle.clerks.specs.Carrying.{LinesTotal}

-- calls carried out one after another, each with what it was answered
pub data Run {S : Type 0} (a : Figures S) : Arrays S → List (Call S × Result ℕ Refusal) → Arrays S → Type 0 where
  done : {b : Arrays S} → Run a b [] b
  step : {b c d : Arrays S} {call : Call S} {r : Result ℕ Refusal} {rest : List (Call S × Result ℕ Refusal)} → Outcome a b call r c → Run a c rest d → Run a b ((call, r) ∷ rest) d

-- every call of a list is of this kind
abbrev pub Each : {S : Type 0} → (Call S → Type 0) → List (Call S × Result ℕ Refusal) → Type 0
Each kind cs = AllByRecursion (λ c. kind c.0) cs

-- what a clerk's list may hold: any call but open
abbrev pub NotOpen : {S : Type 0} → Call S → Type 0
NotOpen (Open n) = ⊥
NotOpen Unit' = Unit {0}
NotOpen (Load rs cs fs) = Unit {0}
NotOpen (Add i j) = Unit {0}
NotOpen (Multiply i j) = Unit {0}
NotOpen (Flip i) = Unit {0}
NotOpen Strike = Unit {0}

abbrev pub NotFlip : {S : Type 0} → Call S → Type 0
NotFlip (Open n) = Unit {0}
NotFlip Unit' = Unit {0}
NotFlip (Load rs cs fs) = Unit {0}
NotFlip (Add i j) = Unit {0}
NotFlip (Multiply i j) = Unit {0}
NotFlip (Flip i) = ⊥
NotFlip Strike = Unit {0}

-- the stored values of the figures of sheet k
abbrev pub sheet_stored : {S : Type 0} → Arrays S → ℕ → List S
sheet_stored b k = part b.figures (start_of b k) (start_of b (k + 1))

module _ {S : Type 0} (a : Figures S) where
  -- b is a clerk's book: opened at order n in the arrays `before`, whatever these held, and then worked by the calls cs
  pub record ClerksBook (n : ℕ) (before : Arrays S) (cs : List (Call S × Result ℕ Refusal)) (b : Arrays S) : Type 0 where
    pub opened : Arrays S
    pub answer : ℕ
    pub opens : Outcome a before (Open n) (Ok answer) opened
    pub listed : Each NotOpen cs
    pub run : Run a opened cs b

  -- b is sound, of order n, and has one sheet for each pedigree and no other
  pub record Kept (n : ℕ) (b : Arrays S) (ps : List (Pedigree a.F)) : Type 0 where
    pub sound : SoundBook a b
    pub order : order_of b ≡ n
    pub sheets : sheets_of b ≡ length ps

  -- sheet k of b is the packed form of the table t of order n
  pub record SheetIs (n : ℕ) (b : Arrays S) (k : ℕ) (t : Table a.F) : Type 0 where
    pub index : sheet_index b k ≡ packed_index a.ring n t
    pub figures : sheet_figures a b k ≡ packed_figures a.ring n t

  -- each sheet is the packed form of its pedigree's total
  abbrev pub Totalled : ℕ → Arrays S → List (Pedigree a.F) → Type 0
  Totalled n b ps = (k : ℕ) → k < sheets_of b → SheetIs n b k (total a.ring n (slice_index_or ps k []))

  -- no two stored values of this kind mean the same
  abbrev pub Apart : (S → Bool) → Type 0
  Apart kind = (x y : S) → kind x ≡ true → kind y ≡ true → a.meaning x ≡ a.meaning y → x ≡ y

  -- two sheets are equal in both arrays: equally long, the same index words, and figures that mean the same one by one;
  -- where both store values of a kind of which no two mean the same, as a number that fits its word, the same values
  pub record Equal (b : Arrays S) (i : ℕ) (c : Arrays S) (j : ℕ) : Type 0 where
    pub index : sheet_index b i ≡ sheet_index c j
    pub figures : sheet_figures a b i ≡ sheet_figures a c j
    pub stored : (kind : S → Bool) → Apart kind → AllByRecursion (λ x. kind x ≡ true) (sheet_stored b i) → AllByRecursion (λ x. kind x ≡ true) (sheet_stored c j) → sheet_stored b i ≡ sheet_stored c j

  -- any two sheets, one in each book, whose pedigrees hold every chain equally often are equal in both arrays
  abbrev pub Agree : Arrays S → List (Pedigree a.F) → Arrays S → List (Pedigree a.F) → Type 0
  Agree b ps c qs = (i j : ℕ) → i < sheets_of b → j < sheets_of c → SameBag (slice_index_or ps i []) (slice_index_or qs j []) → Equal b i c j

  -- there is no flip in either list, or the arithmetic commutes
  abbrev pub Straight : List (Call S × Result ℕ Refusal) → List (Call S × Result ℕ Refusal) → Type 0
  Straight bs cs = (Each NotFlip bs × Each NotFlip cs) ⊎ Commutes a.ring

  -- what two books b and c of order n, worked by the lists bs and cs, hold: always a sound book with a sheet for each
  -- pedigree, and one total for any two vectors carried through any line of its sheets; without flip, or where the
  -- arithmetic commutes, the pedigrees' totals and nothing that tells the books apart
  pub record TwoBooks (n : ℕ) (bs : List (Call S × Result ℕ Refusal)) (b : Arrays S) (cs : List (Call S × Result ℕ Refusal)) (c : Arrays S) : Type 0 where
    pub first : Kept n b (pedigrees a bs)
    pub second : Kept n c (pedigrees a cs)
    pub first_totals : Straight bs cs → Totalled n b (pedigrees a bs)
    pub second_totals : Straight bs cs → Totalled n c (pedigrees a cs)
    pub agree : Straight bs cs → Agree b (pedigrees a bs) c (pedigrees a cs)
    pub first_lines : LinesTotal a b
    pub second_lines : LinesTotal a c

  -- whatever the two clerks do, in any arrays
  abbrev pub TwoClerks : Type 0
  TwoClerks =
      (n : ℕ) (b₀ c₀ : Arrays S) (bs cs : List (Call S × Result ℕ Refusal)) (b c : Arrays S) →
      ClerksBook n b₀ bs b →
      ClerksBook n c₀ cs c →
      TwoBooks n bs b cs c
