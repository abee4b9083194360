-- The laws of sums, tables and vectors, as statements over any semiring.
use Rattle.std.specs.Prelude.{◌≡◌, ℕ, ◌+◌, List}
use Rattle.arithmetic.specs.Semiring.{Semiring}
use Rattle.matrix.specs.Tables.{Table, Same, sum, unit_table, added, product, flipped}
use Rattle.matrix.specs.Vectors.{Vector, dot, column_worked, row_worked, bilinear}
use Rattle.matrix.specs.Bags.{SameBag, bag_total}

module _ {F : Type 0} (s : Semiring F) where
  -- a sum over m + n numbers is the sum over the first m and that over the n after them
  abbrev pub SumsSplit : Type 0
  SumsSplit = (m n : ℕ) (f : ℕ → F) → sum s (m + n) f ≡ s.add (sum s m f) (sum s n (λ i. f (m + i)))

  -- a sum of sums may be taken in either order
  abbrev pub SumsSwap : Type 0
  SumsSwap = (m n : ℕ) (f : ℕ → ℕ → F) → sum s m (λ i. sum s n (λ j. f i j)) ≡ sum s n (λ j. sum s m (λ i. f i j))

  -- a factor on either side of a sum may be multiplied into it
  abbrev pub SumsDistribute : Type 0
  SumsDistribute = (n : ℕ) (c : F) (f : ℕ → F) → (s.mul c (sum s n f) ≡ sum s n (λ i. s.mul c (f i))) × (s.mul (sum s n f) c ≡ sum s n (λ i. s.mul (f i) c))

  abbrev pub ProductsAssociate : Type 0
  ProductsAssociate = (n : ℕ) (a b c : Table F) → Same n (product s n (product s n a b) c) (product s n a (product s n b c))

  -- the unit table on either side leaves a table as it is
  abbrev pub UnitTable : Type 0
  UnitTable = (n : ℕ) (a : Table F) → Same n (product s n (unit_table s) a) a × Same n (product s n a (unit_table s)) a

  -- the product distributes over add from either side
  abbrev pub ProductsDistribute : Type 0
  ProductsDistribute = (n : ℕ) (a b c : Table F) → Same n (product s n a (added s b c)) (added s (product s n a b) (product s n a c)) × Same n (product s n (added s a b) c) (added s (product s n a c) (product s n b c))

  -- a product flipped is the product of the flipped tables the other way round
  abbrev pub ProductsFlip : Type 0
  ProductsFlip = (n : ℕ) (a b : Table F) → Same n (flipped (product s n a b)) (product s n (flipped b) (flipped a))

  -- y weighed against (t times x), and (y times t) weighed against x, are both the sum of y(i) × t(i, j) × x(j)
  abbrev pub OneTotal : Type 0
  OneTotal = (n : ℕ) (y : Vector F) (t : Table F) (x : Vector F) → (dot s n y (column_worked s n t x) ≡ bilinear s n y t x) × (dot s n (row_worked s n y t) x ≡ bilinear s n y t x)

  -- a bag's total does not depend on the order in which its tables are listed
  abbrev pub BagsTotal : Type 0
  BagsTotal = (n : ℕ) (ts us : List (Table F)) → SameBag ts us → Same n (bag_total s ts) (bag_total s us)
