-- What an arithmetic is: figures that form a semiring with a test for zero, and what a stored value means as a figure.
use Rattle.std.specs.Prelude.{◌≡◌, Bool, true, ◌↔◌, List, map}

-- the figures of an arithmetic, and all the laws that it owes
pub record Semiring (F : Type 0) : Type 0 where
  pub zero : F
  pub unit : F
  pub add : F → F → F
  pub mul : F → F → F
  pub is_zero : F → Bool
  pub add_assoc : (a b c : F) → add (add a b) c ≡ add a (add b c)
  pub add_comm : (a b : F) → add a b ≡ add b a
  pub zero-add : (a : F) → add zero a ≡ a
  pub mul_assoc : (a b c : F) → mul (mul a b) c ≡ mul a (mul b c)
  pub unit-mul : (a : F) → mul unit a ≡ a
  pub mul-unit : (a : F) → mul a unit ≡ a
  pub mul-add : (a b c : F) → mul a (add b c) ≡ add (mul a b) (mul a c)
  pub add-mul : (a b c : F) → mul (add a b) c ≡ add (mul a c) (mul b c)
  pub zero-mul : (a : F) → mul zero a ≡ zero
  pub mul-zero : (a : F) → mul a zero ≡ zero
  pub zero_not_unit : zero ≡ unit → ⊥
  pub tests_zero : (a : F) → (is_zero a ≡ true) ↔ (a ≡ zero)

-- the further law that an arithmetic owes where it states that it commutes
abbrev pub Commutes : {F : Type 0} → Semiring F → Type 0
Commutes {F} s = (a b : F) → s.mul a b ≡ s.mul b a

-- a stored type S read as figures: which figures, their semiring, and the figure that a stored value means
pub record Figures (S : Type 0) : Type 1 where
  pub F : Type 0
  pub ring : Semiring F
  pub meaning : S → F

-- what the stored values of a list mean, one by one
abbrev pub meanings : {S : Type 0} (a : Figures S) → List S → List a.F
meanings a xs = map a.meaning xs
