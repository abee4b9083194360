-- The laws of sums and of products of tables.
use Rattle.std.proofs.Common.{◌≡◌, ℕ, zero, suc, ◌<◌, sym, refl, ap, ◌∙◌}
use Rattle.std.proofs.lemmas.Bool.{eq-eqb, ne_eqb}
use Rattle.arithmetic.specs.Semiring.{Semiring, Commutes}
use Rattle.matrix.specs.Tables.{Table, sum, product, added, flipped, unit_table}
use Rattle.matrix.proofs.Sums.{add-zero, add_left_comm, sum_same, sum-zero, sum_change}

module _ {F : Type 0} (s : Semiring F) where
  exchange : (a b c d : F) → s.add (s.add a b) (s.add c d) ≡ s.add (s.add a c) (s.add b d)
  exchange a b c d = s.add_assoc a b (s.add c d) ∙ (ap (s.add a) (add_left_comm s b c d) ∙ sym (s.add_assoc a c (s.add b d)))

  pub sum-add : (n : ℕ) (f g : ℕ → F) → sum s n (λ i. s.add (f i) (g i)) ≡ s.add (sum s n f) (sum s n g)
  sum-add zero f g = sym (s.zero-add s.zero)
  sum-add (suc n) f g = ap (λ x. s.add x (s.add (f n) (g n))) (sum-add n f g) ∙ exchange (sum s n f) (sum s n g) (f n) (g n)

  pub mul-sum : (n : ℕ) (c : F) (f : ℕ → F) → s.mul c (sum s n f) ≡ sum s n (λ i. s.mul c (f i))
  mul-sum zero c f = s.mul-zero c
  mul-sum (suc n) c f = s.mul-add c (sum s n f) (f n) ∙ ap (λ x. s.add x (s.mul c (f n))) (mul-sum n c f)

  pub sum-mul : (n : ℕ) (f : ℕ → F) (c : F) → s.mul (sum s n f) c ≡ sum s n (λ i. s.mul (f i) c)
  sum-mul zero f c = s.zero-mul c
  sum-mul (suc n) f c = s.add-mul (sum s n f) (f n) c ∙ ap (λ x. s.add x (s.mul (f n) c)) (sum-mul n f c)

  pub sum_swap : (n m : ℕ) (f : ℕ → ℕ → F) → sum s n (λ i. sum s m (λ j. f i j)) ≡ sum s m (λ j. sum s n (λ i. f i j))
  sum_swap zero m f = sym (sum-zero s m (λ j. s.zero) (λ j h. refl))
  sum_swap (suc n) m f = ap (λ x. s.add x (sum s m (λ j. f n j))) (sum_swap n m f) ∙ sym (sum-add m (λ j. sum s n (λ i. f i j)) (λ j. f n j))

  pub product_assoc : (n : ℕ) (a b c : Table F) (i j : ℕ) → product s n (product s n a b) c i j ≡ product s n a (product s n b c) i j
  product_assoc n a b c i j =
      sum_same s n _ _ (λ k h. sum-mul n (λ l. s.mul (a i l) (b l k)) (c k j))
      ∙ (sum_swap n n (λ k l. s.mul (s.mul (a i l) (b l k)) (c k j))
      ∙ sum_same s n _ _ (λ l h. sum_same s n _ _ (λ k h'. s.mul_assoc (a i l) (b l k) (c k j)) ∙ sym (mul-sum n (a i l) (λ k. s.mul (b l k) (c k j)))))

  pub product_added : (n : ℕ) (a b c : Table F) (i j : ℕ) → product s n a (added s b c) i j ≡ added s (product s n a b) (product s n a c) i j
  product_added n a b c i j = sum_same s n _ _ (λ k h. s.mul-add (a i k) (b k j) (c k j)) ∙ sum-add n (λ k. s.mul (a i k) (b k j)) (λ k. s.mul (a i k) (c k j))

  pub added_product : (n : ℕ) (a b c : Table F) (i j : ℕ) → product s n (added s a b) c i j ≡ added s (product s n a c) (product s n b c) i j
  added_product n a b c i j = sum_same s n _ _ (λ k h. s.add-mul (a i k) (b i k) (c k j)) ∙ sum-add n (λ k. s.mul (a i k) (c k j)) (λ k. s.mul (b i k) (c k j))

  pub unit_product : (n : ℕ) (a : Table F) (i j : ℕ) → i < n → product s n (unit_table s) a i j ≡ a i j
  unit_product n a i j low =
      sum_change s n _ (λ k. s.zero) i (a i j) low
      (rw (eq-eqb i i refl) (s.unit-mul (a i j) ∙ sym (add-zero s (a i j))))
      (λ k h ne. rw (ne_eqb i k (λ e. ne (sym e))) (s.zero-mul (a k j)))
      ∙ (ap (s.add (a i j)) (sum-zero s n (λ k. s.zero) (λ k h. refl)) ∙ add-zero s (a i j))

  pub product_unit : (n : ℕ) (a : Table F) (i j : ℕ) → j < n → product s n a (unit_table s) i j ≡ a i j
  product_unit n a i j low =
      sum_change s n _ (λ k. s.zero) j (a i j) low
      (rw (eq-eqb j j refl) (s.mul-unit (a i j) ∙ sym (add-zero s (a i j))))
      (λ k h ne. rw (ne_eqb k j ne) (s.mul-zero (a i k)))
      ∙ (ap (s.add (a i j)) (sum-zero s n (λ k. s.zero) (λ k h. refl)) ∙ add-zero s (a i j))

  pub product_flipped : Commutes s → (n : ℕ) (a b : Table F) (i j : ℕ) → flipped (product s n a b) i j ≡ product s n (flipped b) (flipped a) i j
  product_flipped comm n a b i j = sum_same s n _ _ (λ k h. comm (a j k) (b k i))
