-- What the totals of pedigrees come to.
use Rattle.std.proofs.Common.{◌≡◌, ℕ, ◌<◌, Bool, true, false, cond, not, [], ◌∷◌, ◌++◌, map, reverse, sym, refl, ap, ◌∙◌, ap₂, ⊎_elim}
use mathlib.Core.List.{reverse-cons}
use Rattle.std.proofs.lemmas.Bool.{cases_eq, ne_eqb}
use Rattle.arithmetic.specs.Semiring.{Semiring, Commutes}
use Rattle.matrix.specs.Tables.{Table, Same, unit_table, added, product, flipped}
use Rattle.matrix.specs.Bags.{SameBag}
use Rattle.matrix.proofs.Sums.{add-zero, sum_same, sum-zero}
use Rattle.matrix.proofs.Tables.{product_assoc, product_added, added_product, unit_product, product_unit, product_flipped}
use Rattle.matrix.proofs.Bags.{bag_same, map_same}
use Rattle.sheet.specs.Loading.{loaded}
use Rattle.clerks.specs.Pedigree.{Link, Chain, Pedigree, turn, followed, turned_over, link_table, chain_total, total}

module _ {F : Type 0} (s : Semiring F) (n : ℕ) where
  pub total_same : {p q : Pedigree F} → SameBag p q → Same n (total s n p) (total s n q)
  total_same bag i j low low' = bag_same s (map_same (chain_total s n) bag) i j

  -- a bag of one chain
  pub total_one : (c : Chain F) (i j : ℕ) → total s n (c ∷ []) i j ≡ chain_total s n c i j
  total_one c i j = add-zero s (chain_total s n c i j)

  -- two bags together
  pub total_append : (p q : Pedigree F) (i j : ℕ) → total s n (p ++ q) i j ≡ added s (total s n p) (total s n q) i j
  total_append [] q i j = sym (s.zero-add (total s n q i j))
  total_append (c ∷ p) q i j = ap (s.add (chain_total s n c i j)) (total_append p q i j) ∙ sym (s.add_assoc (chain_total s n c i j) (total s n p i j) (total s n q i j))

  -- a product depends on row i of the left factor and column j of the right
  pub product_same : (a b c d : Table F) (i j : ℕ) → ((k : ℕ) → k < n → a i k ≡ b i k) → ((k : ℕ) → k < n → c k j ≡ d k j) → product s n a c i j ≡ product s n b d i j
  product_same a b c d i j e f = sum_same s n (λ k. s.mul (a i k) (c k j)) (λ k. s.mul (b i k) (d k j)) (λ k h. ap₂ s.mul (e k h) (f k h))

  -- one chain followed by another
  chain_append : (c d : Chain F) (i j : ℕ) → i < n → chain_total s n (c ++ d) i j ≡ product s n (chain_total s n c) (chain_total s n d) i j
  chain_append [] d i j low = sym (unit_product s n (chain_total s n d) i j low)
  chain_append (l ∷ c) d i j low =
      product_same (link_table s n l) (link_table s n l) (chain_total s n (c ++ d)) (product s n (chain_total s n c) (chain_total s n d)) i j (λ k h. refl) (λ k h. chain_append c d k j h)
      ∙ sym (product_assoc s n (link_table s n l) (chain_total s n c) (chain_total s n d) i j)

  -- one chain followed by every chain of q
  one_followed : (c : Chain F) (q : Pedigree F) (i j : ℕ) → i < n → total s n (map (λ d. c ++ d) q) i j ≡ product s n (chain_total s n c) (total s n q) i j
  one_followed c [] i j low = sym (sum-zero s n (λ k. s.mul (chain_total s n c i k) s.zero) (λ k h. s.mul-zero (chain_total s n c i k)))
  one_followed c (d ∷ q) i j low =
      ap₂ s.add (chain_append c d i j low) (one_followed c q i j low)
      ∙ sym (product_added s n (chain_total s n c) (chain_total s n d) (total s n q) i j)

  pub total_followed : (p q : Pedigree F) (i j : ℕ) → i < n → total s n (followed p q) i j ≡ product s n (total s n p) (total s n q) i j
  total_followed [] q i j low = sym (sum-zero s n (λ k. s.mul s.zero (total s n q k j)) (λ k h. s.zero-mul (total s n q k j)))
  total_followed (c ∷ p) q i j low =
      total_append (map (λ d. c ++ d) q) (followed p q) i j
      ∙ (ap₂ s.add (one_followed c q i j low) (total_followed p q i j low)
      ∙ sym (added_product s n (chain_total s n c) (total s n p) (total s n q) i j))

  -- a chain of one link
  pub chain_one : (l : Link F) (i j : ℕ) → j < n → chain_total s n (l ∷ []) i j ≡ link_table s n l i j
  chain_one l i j low = product_unit s n (link_table s n l) i j low

  -- a link turned over
  link_turned : (l : Link F) (i j : ℕ) → link_table s n (turn l) i j ≡ link_table s n l j i
  link_turned l i j = go l.turned
    where
      go : (b : Bool) → cond (not b) (flipped (loaded s l.list)) (loaded s l.list) i j ≡ cond b (flipped (loaded s l.list)) (loaded s l.list) j i
      go true = refl
      go false = refl

  unit_turned : (i j : ℕ) → unit_table s i j ≡ unit_table s j i
  unit_turned i j = ⊎_elim
      (λ (e : i ≡ j). rw e refl)
      (λ (ne : i ≡ j → ⊥). rw (ne_eqb i j ne, ne_eqb j i (λ e. ne (sym e))) refl)
      (cases_eq i j)

  -- where the arithmetic commutes, a chain turned over is the flipped product
  chain_turned : Commutes s → (c : Chain F) (i j : ℕ) → i < n → j < n → chain_total s n (reverse (map turn c)) i j ≡ chain_total s n c j i
  chain_turned comm [] i j low low' = unit_turned i j
  chain_turned comm (l ∷ c) i j low low' =
      ap (λ d. chain_total s n d i j) (reverse-cons (turn l) (map turn c))
      ∙ (chain_append (reverse (map turn c)) (turn l ∷ []) i j low
      ∙ (product_same (chain_total s n (reverse (map turn c))) (flipped (chain_total s n c)) (chain_total s n (turn l ∷ [])) (flipped (link_table s n l)) i j
      (λ k h. chain_turned comm c i k low h) (λ k h. chain_one (turn l) k j low' ∙ link_turned l k j)
      ∙ sym (product_flipped s comm n (link_table s n l) (chain_total s n c) i j)))

  pub total_turned : Commutes s → (p : Pedigree F) (i j : ℕ) → i < n → j < n → total s n (turned_over p) i j ≡ total s n p j i
  total_turned comm [] i j low low' = refl
  total_turned comm (c ∷ p) i j low low' = ap₂ s.add (chain_turned comm c i j low low') (total_turned comm p i j low low')
