-- Lines of the table of refusals that do not apply, and lists of lines.
use Rattle.std.proofs.Common.{◌≡◌, ℕ, ◌<◌, List, [], ◌∷◌, ◌++◌, length, inl, inr, ⊎_elim, arith}
use Rattle.arithmetic.specs.Semiring.{Figures}
use Rattle.sheet.specs.Packed.{FirstBreak}
use Rattle.sheet.specs.declared.refusal.Refusal.{Refusal}
use Rattle.book.specs.Book.{Arrays, SoundBook, order_of, sheets_of}
use Rattle.book.specs.Lines.{Line, Passes, Granted, SentBack, layout, header, missing, outside, outside_row, vector_lengths, guard}
use Rattle.book.specs.Checked.{Laid, Headed}

pub sent_on : (ls ms : List Line) (why : Refusal) → SentBack ls why → SentBack (ls ++ ms) why
sent_on [] ms why sent = absurd sent
sent_on (l ∷ ls) ms why (inl here) = inl here
sent_on (l ∷ ls) ms why (inr later) = inr (later.0, sent_on ls ms why later.1)

pub sent_after : (ls ms : List Line) (why : Refusal) → Granted ls → SentBack ms why → SentBack (ls ++ ms) why
sent_after [] ms why pass sent = sent
sent_after (l ∷ ls) ms why pass sent = inr (pass.0, sent_after ls ms why pass.1 sent)

pub granted_both : (ls ms : List Line) → Granted ls → Granted ms → Granted (ls ++ ms)
granted_both [] ms pass more = more
granted_both (l ∷ ls) ms pass more = (pass.0, granted_both ls ms pass.1 more)

-- a place where a rule breaks is not there where the rule is kept
pub no_break : (rule : ℕ → Type 0) (size p : ℕ) → ((k : ℕ) → k < size → rule k) → FirstBreak rule size p → ⊥
no_break rule size p keep broken = broken.1 (keep p broken.0)

module _ {S : Type 0} (b : Arrays S) where
  pub layout_passes : Laid b → Passes (layout b)
  layout_passes laid why fault = ⊎_elim (λ f. f.1 laid.words) (⊎_elim (λ f. f.2 laid.lengths) (λ f. let s = laid.small in let m = f.3 in absurd (omega arith))) fault.2

  pub header_passes : Headed b → Passes (header b)
  header_passes headed why fault = no_break _ _ fault.0 headed fault.2

  pub sound_laid : (a : Figures S) → SoundBook a b → Laid b
  sound_laid a sound = record { words = sound.words; lengths = sound.lengths; small = sound.small }

  pub guard_passes : (a : Figures S) → SoundBook a b → Granted (guard a b)
  guard_passes a sound = (layout_passes (sound_laid a sound), (header_passes sound.header_rules, ((λ why fault. no_break _ _ fault.0 sound.positions fault.2), tt)))

  pub missing_passes : (k : ℕ) → k < sheets_of b → Passes (missing b (k ∷ []))
  missing_passes k there why fault = ⊎_elim (λ f. let high = f.0 in absurd (omega arith)) (λ f. f.1) fault.2

  pub pair_passes : (i j : ℕ) → i < sheets_of b → j < sheets_of b → Passes (missing b (i ∷ (j ∷ [])))
  pair_passes i j low low' why fault = ⊎_elim (λ f. let high = f.0 in absurd (omega arith)) (λ f. ⊎_elim (λ h. let high = h.0 in absurd (omega arith)) (λ h. h.1) f.1) fault.2

  pub outside_row_passes : (row : ℕ) → row < order_of b → Passes (outside_row b row)
  outside_row_passes row low why fault = let high = fault.2.1 in absurd (omega arith)

  pub outside_passes : (row column : ℕ) → row < order_of b → column < order_of b → Passes (outside b row column)
  outside_passes row column low low' why fault = ⊎_elim (λ f. let high = f.1 in absurd (omega arith)) (λ f. let high = f.2 in absurd (omega arith)) fault.2

  pub vector_lengths_passes : (given out : List S) → length given ≡ order_of b → length out ≡ order_of b → Passes (vector_lengths b given out)
  vector_lengths_passes given out long long' why fault = ⊎_elim (λ f. f.1 long) (λ f. f.2 long') fault.2
