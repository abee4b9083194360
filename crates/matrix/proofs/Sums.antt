-- The laws of a sum over the numbers below n.
use Rattle.std.proofs.Common.{◌≡◌, ℕ, zero, suc, ◌+◌, ◌<◌, sym, refl, ap, ◌∙◌, subst, ap₂, ⊎_elim, add-zero as nat-add-zero, add-suc, add-one, arith}
use Rattle.std.proofs.lemmas.Bool.{cases_eq}
use Rattle.arithmetic.specs.Semiring.{Semiring}
use Rattle.matrix.specs.Tables.{sum}

module _ {F : Type 0} (s : Semiring F) where
  pub sum_none : (f : ℕ → F) → s.zero ≡ sum s 0 f
  sum_none f = refl

  pub sum_more : (n : ℕ) (f : ℕ → F) → sum s (n + 1) f ≡ s.add (sum s n f) (f n)
  sum_more n f = rw add-one refl

  pub sum_same : (n : ℕ) (f g : ℕ → F) → ((i : ℕ) → i < n → f i ≡ g i) → sum s n f ≡ sum s n g
  sum_same zero f g same = refl
  sum_same (suc n) f g same = ap₂ s.add (sum_same n f g (λ i h. same i (omega arith))) (same n (omega arith))

  pub add-zero : (a : F) → s.add a s.zero ≡ a
  add-zero a = s.add_comm a s.zero ∙ s.zero-add a

  pub add_left_comm : (a b c : F) → s.add a (s.add b c) ≡ s.add b (s.add a c)
  add_left_comm a b c = sym (s.add_assoc a b c) ∙ (ap (λ x. s.add x c) (s.add_comm a b) ∙ s.add_assoc b a c)

  pub sum-zero : (n : ℕ) (f : ℕ → F) → ((i : ℕ) → i < n → f i ≡ s.zero) → sum s n f ≡ s.zero
  sum-zero zero f none = refl
  sum-zero (suc n) f none = ap₂ s.add (sum-zero n f (λ i h. none i (omega arith))) (none n (omega arith)) ∙ s.zero-add s.zero

  -- two sums that differ by v at one place
  pub sum_change : (n : ℕ) (f g : ℕ → F) (c : ℕ) (v : F) → c < n → f c ≡ s.add v (g c) → ((j : ℕ) → j < n → (j ≡ c → ⊥) → f j ≡ g j) → sum s n f ≡ s.add v (sum s n g)
  sum_change zero f g c v low at other = absurd (omega arith)
  sum_change (suc n) f g c v low at other = ⊎_elim
      (λ (e : c ≡ n).
      ap₂ s.add (sum_same n f g (λ j h. other j (omega arith) (omega arith))) (subst (λ m. f m ≡ s.add v (g m)) e at)
      ∙ add_left_comm (sum s n g) v (g n))
      (λ (d : c ≡ n → ⊥).
      ap₂ s.add (sum_change n f g c v (omega arith) at (λ j h ne. other j (omega arith) ne)) (other n (omega arith) (λ e. d (sym e)))
      ∙ s.add_assoc v (sum s n g) (g n))
      (cases_eq c n)

  pub sum_split : (m n : ℕ) (f : ℕ → F) → sum s (m + n) f ≡ s.add (sum s m f) (sum s n (λ i. f (m + i)))
  sum_split m zero f = rw nat-add-zero (sym (add-zero (sum s m f)))
  sum_split m (suc n) f = rw add-suc (ap (λ x. s.add x (f (m + n))) (sum_split m n f) ∙ s.add_assoc (sum s m f) (sum s n (λ i. f (m + i))) (f (m + n)))
