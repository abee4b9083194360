-- Two bags hold every element equally often: by counting, where elements can be told apart.
use Rattle.std.specs.Prelude.{◌≡◌, ℕ, suc, Bool, true, cond, ◌↔◌, List, [], ◌∷◌}
use Rattle.arithmetic.specs.Semiring.{Figures}
use Rattle.matrix.specs.Bags.{SameBag}
use Rattle.clerks.specs.Pedigree.{Chain, Pedigree}

-- the test says of any two whether they are the same
abbrev pub Tells : {A : Type 0} → (A → A → Bool) → Type 0
Tells {A} test = (x y : A) → (test x y ≡ true) ↔ (x ≡ y)

-- how often x is in a list, by such a test
abbrev pub often : {A : Type 0} → (A → A → Bool) → A → List A → ℕ
often test x [] = 0
often test x (y ∷ ys) = cond (test x y) (suc (often test x ys)) (often test x ys)

-- two pedigrees are the same bag exactly where the count of every chain is the same in both
abbrev pub BagsByCounting : {S : Type 0} → Figures S → Type 0
BagsByCounting a =
    (test : Chain a.F → Chain a.F → Bool) →
    Tells test →
    (p q : Pedigree a.F) →
    SameBag p q ↔ ((c : Chain a.F) → often test c p ≡ often test c q)

-- where figures can be told apart, chains can
abbrev pub ChainsTold : {S : Type 0} → Figures S → Type 0
ChainsTold a =
    (test : a.F → a.F → Bool) →
    Tells test →
    (chain_test : Chain a.F → Chain a.F → Bool) × Tells chain_test
