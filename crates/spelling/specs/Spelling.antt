-- Which figure a word of the input writes. A word is the list of its bytes.
use Rattle.std.specs.Prelude.{◌≡◌, ℕ, ◌≤◌, cond, ◌⊎◌, List, ◌∷◌, ◌++◌, codes, Option, MatchOption}
use Rattle.std.specs.Str.Parse.{IsNumeral, digits_value}
use Rattle.arithmetic.specs.Amounts.{amount_figures, quantity, ceiling}
use Rattle.arithmetic.specs.YesOrNo.{said}
use Rattle.arithmetic.specs.Waits.{wait_figures, delay, longest, never}
use Rattle.arithmetic.specs.declared.amount.Amount.{Amount}
use Rattle.arithmetic.specs.declared.block.Block.{Block}
use Rattle.arithmetic.specs.declared.wait.Wait.{Wait}
use Rattle.arithmetic.specs.declared.yes_no.YesNo.{YesNo}

-- what a reader of words answers: what the word spells, or none where it spells nothing
abbrev pub Reads : {S : Type 0} → (List ℕ → S → Type 0) → List ℕ → Option S → Type 0
Reads {S} spells word r = MatchOption r ((x : S) → spells word x → ⊥) (spells word)

-- decimal digits, one at least and nothing else, that write n, which is at most 4294967295
abbrev pub Writes : List ℕ → ℕ → Type 0
Writes word n = IsNumeral 10 word × (digits_value 10 word ≡ n) × (n ≤ ceiling)

abbrev pub SpellsAmount : List ℕ → Amount → Type 0
SpellsAmount word a = (n : ℕ) × Writes word n × (amount_figures.meaning a ≡ quantity n)

abbrev pub SpellsYesNo : List ℕ → YesNo → Type 0
SpellsYesNo word a = word ≡ cond (said a) (codes "yes") (codes "no")

abbrev pub SpellsWait : List ℕ → Wait → Type 0
SpellsWait word w =
    ((word ≡ codes "never") × (wait_figures.meaning w ≡ delay never)) ⊎ ((n : ℕ) × Writes word n × (n ≤ longest) × (wait_figures.meaning w ≡ delay n))

-- two amounts with a comma, 44, between them
abbrev pub SpellsRow : List ℕ → Amount × Amount → Type 0
SpellsRow text row = (left : List ℕ) × (right : List ℕ) × (text ≡ left ++ 44 ∷ right) × SpellsAmount left row.0 × SpellsAmount right row.1

-- two rows with a semicolon, 59, between them
abbrev pub SpellsBlock : List ℕ → Block Amount → Type 0
SpellsBlock word b = (upper : List ℕ) × (lower : List ℕ) × (word ≡ upper ++ 59 ∷ lower) × SpellsRow upper (b.p, b.q) × SpellsRow lower (b.r, b.s)
