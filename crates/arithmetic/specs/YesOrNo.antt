-- Yes-or-no: zero is no, unit is yes, add is 'either' and multiply is 'both'.
use Rattle.std.specs.Prelude.{◌≡◌, ℕ, Bool, true, false, not, ◌&&◌, ◌||◌, ◌↔◌, refl}
use Rattle.std.proofs.Common.{arith}
use Rattle.arithmetic.specs.Semiring.{Semiring, Figures}
use Rattle.arithmetic.specs.declared.yes_no.YesNo.{YesNo}
use Rattle.arithmetic.specs.declared.yes_no.YesNo.TheVariants.{No, Yes}

-- whether a stored answer is yes
abbrev pub said : YesNo → Bool
said No = false
said Yes = true

-- From here on: that 'either' and 'both' are a semiring, and that it commutes.

pub either_assoc : (a b c : Bool) → ((a || b) || c) ≡ (a || (b || c))
either_assoc true b c = refl
either_assoc false b c = refl

pub either_comm : (a b : Bool) → (a || b) ≡ (b || a)
either_comm true true = refl
either_comm true false = refl
either_comm false true = refl
either_comm false false = refl

pub both_assoc : (a b c : Bool) → ((a && b) && c) ≡ (a && (b && c))
both_assoc true b c = refl
both_assoc false b c = refl

pub both_comm : (a b : Bool) → (a && b) ≡ (b && a)
both_comm true true = refl
both_comm true false = refl
both_comm false true = refl
both_comm false false = refl

pub both_yes : (a : Bool) → (a && true) ≡ a
both_yes true = refl
both_yes false = refl

pub both_no : (a : Bool) → (a && false) ≡ false
both_no true = refl
both_no false = refl

pub both_either : (a b c : Bool) → (a && (b || c)) ≡ ((a && b) || (a && c))
both_either true b c = refl
both_either false b c = refl

pub either_both : (a b c : Bool) → ((a || b) && c) ≡ ((a && c) || (b && c))
either_both true true true = refl
either_both true true false = refl
either_both true false true = refl
either_both true false false = refl
either_both false b c = refl

pub no_apart : false ≡ true → ⊥
no_apart e = let z : ◌≡◌ {A = ℕ} 0 1 = cc in omega arith

pub no_tested : (a : Bool) → (not a ≡ true) ↔ (a ≡ false)
no_tested true = (λ e. absurd (no_apart e), λ e. absurd (no_apart (cc)))
no_tested false = (λ e. refl, λ e. refl)

abbrev pub yes_or_no : Semiring Bool
yes_or_no = record {
  zero = false;
  unit = true;
  add = ◌||◌;
  mul = ◌&&◌;
  is_zero = not;
  add_assoc = either_assoc;
  add_comm = either_comm;
  zero-add = λ a. refl;
  mul_assoc = both_assoc;
  unit-mul = λ a. refl;
  mul-unit = both_yes;
  mul-add = both_either;
  add-mul = either_both;
  zero-mul = λ a. refl;
  mul-zero = both_no;
  zero_not_unit = no_apart;
  tests_zero = no_tested;
}

abbrev pub yes_no_figures : Figures YesNo
yes_no_figures = record { F = Bool; ring = yes_or_no; meaning = said }
