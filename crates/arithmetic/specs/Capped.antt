-- Whole numbers from 0 to a largest one.
use Rattle.std.specs.Prelude.{◌≡◌, ℕ, ◌≤◌, min}
use mathlib.Core.HLevel.{Σ_prop_path}
use Rattle.std.proofs.Math.Nat.{min-le_right}
use Rattle.std.proofs.Math.Bridge.{le_prop}

abbrev pub Capped : ℕ → Type 0
Capped top = (v : ℕ) × (v ≤ top)

-- a number, or the largest one where it is above that
abbrev pub capped : (top : ℕ) → ℕ → Capped top
capped top x = (min x top, min-le_right x top)

-- two of them are the same where their numbers are
pub same_capped : {top : ℕ} (a b : Capped top) → a.0 ≡ b.0 → a ≡ b
same_capped {top} a b e = Σ_prop_path {B = λ v. v ≤ top} (λ v. le_prop) e
