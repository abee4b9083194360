-- Blocks of four figures in two rows, (p q; r s), over any semiring: added figure by figure, multiplied as tables of two rows and two columns are.
use Rattle.std.specs.Prelude.{◌≡◌, Bool, true, ◌&&◌, ◌↔◌}
use Rattle.std.proofs.Common.{sym, ap, ap₂, ◌∙◌}
use Rattle.std.proofs.lemmas.Bool.{and_parts, and_from}
use Rattle.arithmetic.specs.Semiring.{Semiring, Figures}
use Rattle.arithmetic.specs.declared.block.Block.{Block}

-- row one is p q, row two is r s
pub record Square (F : Type 0) : Type 0 where
  pub p : F
  pub q : F
  pub r : F
  pub s : F

pub same_square : {F : Type 0} (a b : Square F) → a.p ≡ b.p → a.q ≡ b.q → a.r ≡ b.r → a.s ≡ b.s → a ≡ b
same_square a b e f g h = λ i. record { p = e i; q = f i; r = g i; s = h i }

module _ {F : Type 0} (k : Semiring F) where
  abbrev pub square_zero : Square F
  square_zero = record { p = k.zero; q = k.zero; r = k.zero; s = k.zero }

  abbrev pub square_unit : Square F
  square_unit = record { p = k.unit; q = k.zero; r = k.zero; s = k.unit }

  abbrev pub square_plus : Square F → Square F → Square F
  square_plus a b = record { p = k.add a.p b.p; q = k.add a.q b.q; r = k.add a.r b.r; s = k.add a.s b.s }

  -- x × t + y × v
  abbrev pub two : F → F → F → F → F
  two x y t v = k.add (k.mul x t) (k.mul y v)

  abbrev pub square_times : Square F → Square F → Square F
  square_times a b = record { p = two a.p a.q b.p b.r; q = two a.p a.q b.q b.s; r = two a.r a.s b.p b.r; s = two a.r a.s b.q b.s }

  abbrev pub square_tests : Square F → Bool
  square_tests a = (k.is_zero a.p && k.is_zero a.q) && (k.is_zero a.r && k.is_zero a.s)

  add-zero : (a : F) → k.add a k.zero ≡ a
  add-zero a = k.add_comm a k.zero ∙ k.zero-add a

  exchange : (a b c d : F) → k.add (k.add a b) (k.add c d) ≡ k.add (k.add a c) (k.add b d)
  exchange a b c d = k.add_assoc a b (k.add c d) ∙ (ap (k.add a) (sym (k.add_assoc b c d) ∙ (ap (λ x. k.add x d) (k.add_comm b c) ∙ k.add_assoc c b d)) ∙ sym (k.add_assoc a c (k.add b d)))

  two_assoc : (x y t u v w e g : F) → two (two x y t v) (two x y u w) e g ≡ two x y (two t u e g) (two v w e g)
  two_assoc x y t u v w e g =
      ap₂ k.add (k.add-mul (k.mul x t) (k.mul y v) e ∙ ap₂ k.add (k.mul_assoc x t e) (k.mul_assoc y v e)) (k.add-mul (k.mul x u) (k.mul y w) g ∙ ap₂ k.add (k.mul_assoc x u g) (k.mul_assoc y w g))
      ∙ (exchange (k.mul x (k.mul t e)) (k.mul y (k.mul v e)) (k.mul x (k.mul u g)) (k.mul y (k.mul w g))
      ∙ sym (ap₂ k.add (k.mul-add x (k.mul t e) (k.mul u g)) (k.mul-add y (k.mul v e) (k.mul w g))))

  two-plus : (x y t v u w : F) → two x y (k.add t u) (k.add v w) ≡ k.add (two x y t v) (two x y u w)
  two-plus x y t v u w = ap₂ k.add (k.mul-add x t u) (k.mul-add y v w) ∙ exchange (k.mul x t) (k.mul x u) (k.mul y v) (k.mul y w)

  plus-two : (x y t v z w : F) → two (k.add x z) (k.add y w) t v ≡ k.add (two x y t v) (two z w t v)
  plus-two x y t v z w = ap₂ k.add (k.add-mul x z t) (k.add-mul y w v) ∙ exchange (k.mul x t) (k.mul z t) (k.mul y v) (k.mul w v)

  unit-two : (t v : F) → two k.unit k.zero t v ≡ t
  unit-two t v = ap₂ k.add (k.unit-mul t) (k.zero-mul v) ∙ add-zero t

  two-unit : (t v : F) → two k.zero k.unit t v ≡ v
  two-unit t v = ap₂ k.add (k.zero-mul t) (k.unit-mul v) ∙ k.zero-add v

  left_unit : (x y : F) → two x y k.unit k.zero ≡ x
  left_unit x y = ap₂ k.add (k.mul-unit x) (k.mul-zero y) ∙ add-zero x

  right_unit : (x y : F) → two x y k.zero k.unit ≡ y
  right_unit x y = ap₂ k.add (k.mul-zero x) (k.mul-unit y) ∙ k.zero-add y

  zero-two : (t v : F) → two k.zero k.zero t v ≡ k.zero
  zero-two t v = ap₂ k.add (k.zero-mul t) (k.zero-mul v) ∙ k.zero-add k.zero

  two-zero : (x y : F) → two x y k.zero k.zero ≡ k.zero
  two-zero x y = ap₂ k.add (k.mul-zero x) (k.mul-zero y) ∙ k.zero-add k.zero

  pub square_plus_assoc : (a b c : Square F) → square_plus (square_plus a b) c ≡ square_plus a (square_plus b c)
  square_plus_assoc a b c = same_square _ _ (k.add_assoc _ _ _) (k.add_assoc _ _ _) (k.add_assoc _ _ _) (k.add_assoc _ _ _)

  pub square_plus_comm : (a b : Square F) → square_plus a b ≡ square_plus b a
  square_plus_comm a b = same_square _ _ (k.add_comm _ _) (k.add_comm _ _) (k.add_comm _ _) (k.add_comm _ _)

  pub square_zero_plus : (a : Square F) → square_plus square_zero a ≡ a
  square_zero_plus a = same_square _ _ (k.zero-add _) (k.zero-add _) (k.zero-add _) (k.zero-add _)

  pub square_assoc : (a b c : Square F) → square_times (square_times a b) c ≡ square_times a (square_times b c)
  square_assoc a b c = same_square _ _ (two_assoc _ _ _ _ _ _ _ _) (two_assoc _ _ _ _ _ _ _ _) (two_assoc _ _ _ _ _ _ _ _) (two_assoc _ _ _ _ _ _ _ _)

  pub square_unit_times : (a : Square F) → square_times square_unit a ≡ a
  square_unit_times a = same_square _ _ (unit-two _ _) (unit-two _ _) (two-unit _ _) (two-unit _ _)

  pub square_times_unit : (a : Square F) → square_times a square_unit ≡ a
  square_times_unit a = same_square _ _ (left_unit _ _) (right_unit _ _) (left_unit _ _) (right_unit _ _)

  pub square_times_plus : (a b c : Square F) → square_times a (square_plus b c) ≡ square_plus (square_times a b) (square_times a c)
  square_times_plus a b c = same_square _ _ (two-plus _ _ _ _ _ _) (two-plus _ _ _ _ _ _) (two-plus _ _ _ _ _ _) (two-plus _ _ _ _ _ _)

  pub square_plus_times : (a b c : Square F) → square_times (square_plus a b) c ≡ square_plus (square_times a c) (square_times b c)
  square_plus_times a b c = same_square _ _ (plus-two _ _ _ _ _ _) (plus-two _ _ _ _ _ _) (plus-two _ _ _ _ _ _) (plus-two _ _ _ _ _ _)

  pub square_zero_times : (a : Square F) → square_times square_zero a ≡ square_zero
  square_zero_times a = same_square _ _ (zero-two _ _) (zero-two _ _) (zero-two _ _) (zero-two _ _)

  pub square_times_zero : (a : Square F) → square_times a square_zero ≡ square_zero
  square_times_zero a = same_square _ _ (two-zero _ _) (two-zero _ _) (two-zero _ _) (two-zero _ _)

  pub square_apart : square_zero ≡ square_unit → ⊥
  square_apart e = k.zero_not_unit (ap (λ (x : Square F). x.p) e)

  pub square_tested : (a : Square F) → (square_tests a ≡ true) ↔ (a ≡ square_zero)
  square_tested a = (
    λ t. let rows = and_parts _ _ t in let top = and_parts _ _ rows.0 in let low = and_parts _ _ rows.1 in
        same_square _ _ ((k.tests_zero _).0 top.0) ((k.tests_zero _).0 top.1) ((k.tests_zero _).0 low.0) ((k.tests_zero _).0 low.1),
    λ e. and_from _ _ (and_from _ _ ((k.tests_zero _).1 (ap (λ (x : Square F). x.p) e)) ((k.tests_zero _).1 (ap (λ (x : Square F). x.q) e))) (and_from _ _ ((k.tests_zero _).1 (ap (λ (x : Square F). x.r) e)) ((k.tests_zero _).1 (ap (λ (x : Square F). x.s) e))),
  )

  abbrev pub square_ring : Semiring (Square F)
  square_ring = record {
    zero = square_zero;
    unit = square_unit;
    add = square_plus;
    mul = square_times;
    is_zero = square_tests;
    add_assoc = square_plus_assoc;
    add_comm = square_plus_comm;
    zero-add = square_zero_plus;
    mul_assoc = square_assoc;
    unit-mul = square_unit_times;
    mul-unit = square_times_unit;
    mul-add = square_times_plus;
    add-mul = square_plus_times;
    zero-mul = square_zero_times;
    mul-zero = square_times_zero;
    zero_not_unit = square_apart;
    tests_zero = square_tested;
  }

abbrev pub block_figures : {A : Type 0} → Figures A → Figures (Block A)
block_figures a = record { F = Square a.F; ring = square_ring a.ring; meaning = λ b. record { p = a.meaning b.p; q = a.meaning b.q; r = a.meaning b.r; s = a.meaning b.s } }
