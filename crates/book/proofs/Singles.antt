-- A line of the table of refusals gives one refusal, so a list of lines sends back with one refusal or grants.
use Rattle.std.proofs.Common.{◌≡◌, ℕ, ◌<◌, List, [], ◌∷◌, sym, ap, ◌∙◌, inl, inr, ⊎_elim, arith}
use Rattle.std.proofs.lemmas.Bool.{cases_order}
use Rattle.arithmetic.specs.Semiring.{Figures}
use Rattle.sheet.specs.Packed.{FirstBreak}
use Rattle.sheet.specs.declared.refusal.Refusal.{Refusal}
use Rattle.book.specs.Book.{Arrays, sheets_of}
use Rattle.book.specs.Lines.{Line, line, Granted, SentBack, LayoutFault, FirstMissing, layout, order, header, list_lengths, missing, none_to_strike, full, outside, outside_row, vector_lengths, misplaced, position, room}

-- at most one refusal
abbrev pub Single : Line → Type 0
Single l = (why why' : Refusal) → l why → l why' → why ≡ why'

-- at most one place
abbrev pub One : (ℕ → Type 0) → Type 0
One condition = (p q : ℕ) → condition p → condition q → p ≡ q

pub line_single : (case : ℕ → Refusal) (condition : ℕ → Type 0) → One condition → Single (line case condition)
line_single case condition one why why' at at' = at.1 ∙ (ap case (one at.0 at'.0 at.2 at'.2) ∙ sym at'.1)

abbrev pub EachSingle : List Line → Type 0
EachSingle [] = Unit {0}
EachSingle (l ∷ ls) = Single l × EachSingle ls

pub sent_single : (ls : List Line) → EachSingle ls → (why why' : Refusal) → SentBack ls why → SentBack ls why' → why ≡ why'
sent_single [] single why why' sent sent' = absurd sent
sent_single (l ∷ ls) single why why' (inl here) (inl here') = single.0 why why' here here'
sent_single (l ∷ ls) single why why' (inl here) (inr later') = absurd (later'.0 why here)
sent_single (l ∷ ls) single why why' (inr later) (inl here') = absurd (later.0 why' here')
sent_single (l ∷ ls) single why why' (inr later) (inr later') = sent_single ls single.1 why why' later.1 later'.1

pub not_both : (ls : List Line) (why : Refusal) → Granted ls → SentBack ls why → ⊥
not_both [] why granted sent = sent
not_both (l ∷ ls) why granted (inl here) = granted.0 why here
not_both (l ∷ ls) why granted (inr later) = not_both ls why granted.1 later.1

pub first_one : (rule : ℕ → Type 0) (size : ℕ) → One (FirstBreak rule size)
first_one rule size p q at at' = ⊎_elim
    (λ e. e)
    (⊎_elim (λ (less : p < q). absurd (at.1 (at'.2 p less))) (λ (more : q < p). absurd (at'.1 (at.2 q more))))
    (cases_order p q)

module _ {S : Type 0} (b : Arrays S) where
  layout_one : One (LayoutFault b)
  layout_one p q (inl f) (inl g) = f.0 ∙ sym g.0
  layout_one p q (inl f) (inr (inl g)) = absurd (f.1 g.1)
  layout_one p q (inl f) (inr (inr g)) = absurd (f.1 g.1)
  layout_one p q (inr (inl f)) (inl g) = absurd (g.1 f.1)
  layout_one p q (inr (inl f)) (inr (inl g)) = f.0 ∙ sym g.0
  layout_one p q (inr (inl f)) (inr (inr g)) = absurd (f.2 g.2)
  layout_one p q (inr (inr f)) (inl g) = absurd (g.1 f.1)
  layout_one p q (inr (inr f)) (inr (inl g)) = absurd (g.2 f.2)
  layout_one p q (inr (inr f)) (inr (inr g)) = f.0 ∙ sym g.0

  missing_one : (names : List ℕ) → One (FirstMissing (sheets_of b) names)
  missing_one [] p q at at' = absurd at
  missing_one (k ∷ ks) p q (inl f) (inl g) = f.1 ∙ sym g.1
  missing_one (k ∷ ks) p q (inl f) (inr g) = let high = f.0 in let low = g.0 in absurd (omega arith)
  missing_one (k ∷ ks) p q (inr f) (inl g) = let low = f.0 in let high = g.0 in absurd (omega arith)
  missing_one (k ∷ ks) p q (inr f) (inr g) = missing_one ks p q f.1 g.1

  pub layout_single : Single (layout b)
  layout_single = line_single _ _ layout_one

  pub order_single : (n : ℕ) → Single (order b n)
  order_single n = line_single _ _ (λ p q f g. f.0 ∙ sym g.0)

  pub header_single : Single (header b)
  header_single = line_single _ _ (first_one _ _)

  pub missing_single : (names : List ℕ) → Single (missing b names)
  missing_single names = line_single _ _ (missing_one names)

  pub none_single : Single (none_to_strike b)
  none_single = line_single _ _ (λ p q f g. f.0 ∙ sym g.0)

  pub outside_single : (row column : ℕ) → Single (outside b row column)
  outside_single row column = line_single _ _ (λ p q f g. ⊎_elim
      (λ x. ⊎_elim (λ y. x.0 ∙ sym y.0) (λ y. let high = x.1 in let low = y.1 in absurd (omega arith)) g)
      (λ x. ⊎_elim (λ y. let low = x.1 in let high = y.1 in absurd (omega arith)) (λ y. x.0 ∙ sym y.0) g)
      f)

  pub outside_row_single : (row : ℕ) → Single (outside_row b row)
  outside_row_single row = line_single _ _ (λ p q f g. f.0 ∙ sym g.0)

  pub vector_lengths_single : (given out : List S) → Single (vector_lengths b given out)
  vector_lengths_single given out = line_single _ _ (λ p q f g. ⊎_elim
      (λ x. ⊎_elim (λ y. x.0 ∙ sym y.0) (λ y. absurd (x.1 y.1)) g)
      (λ x. ⊎_elim (λ y. absurd (y.1 x.1)) (λ y. x.0 ∙ sym y.0) g)
      f)

module _ {S : Type 0} (a : Figures S) (b : Arrays S) where
  pub position_single : Single (position a b)
  position_single = line_single _ _ (first_one _ _)

pub lengths_single : {S : Type 0} (rs cs : List ℕ) (fs : List S) → Single (list_lengths rs cs fs)
lengths_single rs cs fs = line_single _ _ (λ p q f g. ⊎_elim
    (λ x. ⊎_elim (λ y. x.0 ∙ sym y.0) (λ y. absurd (x.1 y.1)) g)
    (λ x. ⊎_elim (λ y. absurd (y.1 x.1)) (λ y. x.0 ∙ sym y.0) g)
    f)

pub full_single : (sheets : ℕ) → Single (full sheets)
full_single sheets = line_single _ _ (λ p q f g. f.0 ∙ sym g.0)

pub misplaced_single : (n : ℕ) (rs cs : List ℕ) → Single (misplaced n rs cs)
misplaced_single n rs cs = line_single _ _ (first_one _ _)

pub room_single : (size left : ℕ) → Single (room size left)
room_single size left = line_single _ _ (λ p q f g. f.0 ∙ sym g.0)
