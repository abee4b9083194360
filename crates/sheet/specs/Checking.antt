-- What the check of one sheet answers.
use Rattle.std.specs.Prelude.{◌≡◌, ℕ, ◌+◌, List, length, Ok, Err, Result}
use Rattle.arithmetic.specs.Semiring.{Semiring}
use Rattle.sheet.specs.Packed.{Rule, Sound, FirstBreak}
use Rattle.sheet.specs.declared.refusal.Refusal.{Refusal}
use Rattle.sheet.specs.declared.refusal.Refusal.TheVariants.{Position}

-- the sheet is sound; or it is sent back with the place, from `start` on, of the first position that breaks its rule
abbrev pub Checks : {F : Type 0} → Semiring F → ℕ → ℕ → List ℕ → List F → Result (Unit {0}) Refusal → Type 0
Checks s n start ws fs (Ok u) = Sound s n ws fs
Checks s n start ws fs (Err why) = (p : ℕ) × (why ≡ Position (start + p)) × FirstBreak (Rule s n ws fs) (length ws) p
