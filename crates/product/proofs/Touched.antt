-- Bits of words, and the columns that they stand for.
use Rattle.std.proofs.Common.{◌≡◌, ℕ, zero, suc, ◌+◌, ◌-◌, ◌/◌, ◌%◌, ◌^◌, ◌<◌, ◌≤◌, List, length, get_or, set, sym, refl, ap, ◌∙◌, ⊎_elim, pow-suc, div-one, arith}
use native.Mathlib.Nat.{zero-div, pow-succ', div-div-eq-div-mul}
use lib.Bits.{bit_or, or_add_and}
use lib.Count.{count_trailing_zeros, under}
use Rattle.std.proofs.lemmas.Nat.{shr-shr, shl-shr, shr_below, or_shr, or_mod, or_lt, pow_below, and_le_l, and_le_r}
use Rattle.std.proofs.lemmas.List.{get_or-set_same, get_or-set_other}
use Rattle.std.proofs.lemmas.Bool.{cases_eq}
use Rattle.product.specs.Meetings.{Absent}

half_shift : (n j : ℕ) → n / 2 ^ suc j ≡ n / 2 / 2 ^ j
half_shift n j = ap (λ (x : ℕ). n / x) (pow-succ' 2 j) ∙ sym (div-div-eq-div-mul n 2 (2 ^ j))

-- the bits below the lowest that is set
low_clear : (k n j : ℕ) → j < count_trailing_zeros k n → n / 2 ^ j % 2 ≡ 0
unfolding count_trailing_zeros
low_clear zero n j low = absurd (omega arith)
low_clear (suc k) n j low = go (n % 2) refl j low (λ i h. low_clear k (n / 2) i h)
  where
    go : (r : ℕ) → n % 2 ≡ r → (j : ℕ) → j < under r (count_trailing_zeros k (n / 2)) → ((i : ℕ) → i < count_trailing_zeros k (n / 2) → n / 2 / 2 ^ i % 2 ≡ 0) → n / 2 ^ j % 2 ≡ 0
    go (suc r) e j h rest = absurd (omega arith)
    go zero e zero h rest = ap (λ (x : ℕ). x % 2) (div-one n) ∙ e
    go zero e (suc j) h rest = ap (λ (x : ℕ). x % 2) (half_shift n j) ∙ rest j (omega arith)

-- the lowest bit that is set lies below the number's width
low_small : (k n b : ℕ) → 0 < n → n < 2 ^ b → count_trailing_zeros k n < b
unfolding count_trailing_zeros
low_small k n zero pos h = absurd (omega arith)
low_small zero n (suc b) pos h = omega arith
low_small (suc k) n (suc b) pos h = go (n % 2) refl (λ some short. low_small k (n / 2) b some short)
  where
    go : (r : ℕ) → n % 2 ≡ r → (0 < n / 2 → n / 2 < 2 ^ b → count_trailing_zeros k (n / 2) < b) → under r (count_trailing_zeros k (n / 2)) < suc b
    go (suc r) e rest = omega arith
    go zero e rest = let wide = pow-suc 2 b in let t = rest (omega arith) (omega arith) in omega arith

-- columns j and `first` of one word, j seen from the bit of `first` on
module _ (touched : List ℕ) (g first j : ℕ) (from : first ≤ j) (one : first / 64 ≡ g) (same : j / 64 ≡ g) where
  absent_from : get_or touched g 0 / 2 ^ (first % 64) / 2 ^ (j - first) % 2 ≡ 0 → Absent touched j
  absent_from clear =
      let at : j % 64 ≡ first % 64 + (j - first) = omega arith in
      rw (same, at) (ap (λ (x : ℕ). x % 2) (sym (shr-shr (get_or touched g 0) (first % 64) (j - first))) ∙ clear)

  pub absent_low : j < first + count_trailing_zeros 64 (get_or touched g 0 / 2 ^ (first % 64)) → Absent touched j
  absent_low low = absent_from (low_clear 64 (get_or touched g 0 / 2 ^ (first % 64)) (j - first) (omega arith))

  pub absent_none : get_or touched g 0 / 2 ^ (first % 64) ≡ 0 → Absent touched j
  absent_none none = absent_from (ap (λ (x : ℕ). x / 2 ^ (j - first) % 2) none ∙ ap (λ (x : ℕ). x % 2) (zero-div (2 ^ (j - first))))

-- the lowest bit set, seen from the bit of `first` on, lies in the same word
pub low_within : (w first : ℕ) → w < 2 ^ 64 → (w / 2 ^ (first % 64) ≡ 0 → ⊥) → (first + count_trailing_zeros 64 (w / 2 ^ (first % 64))) / 64 ≡ first / 64
low_within w first narrow some =
    let split : (64 - first % 64) + first % 64 ≡ 64 = omega arith in
    let low = low_small 64 (w / 2 ^ (first % 64)) (64 - first % 64) (omega (arith, some)) (shr_below w (64 - first % 64) (first % 64) (rw split narrow)) in
    omega arith

-- a bit that is set
module _ (a b : ℕ) where
  or_parts : bit_or a b ≡ 0 → (a ≡ 0) × (b ≡ 0)
  or_parts none = let whole = or_add_and a b in let l = and_le_l a b in let r = and_le_r a b in (omega arith, omega arith)

or_bit : (w x o : ℕ) → bit_or w x / 2 ^ o % 2 ≡ 0 → (w / 2 ^ o % 2 ≡ 0) × (x / 2 ^ o % 2 ≡ 0)
or_bit w x o none = or_parts (w / 2 ^ o % 2) (x / 2 ^ o % 2) (sym (or_mod (w / 2 ^ o) (x / 2 ^ o) 1) ∙ (ap (λ (y : ℕ). y % 2) (sym (or_shr w x o)) ∙ none))

bit_set : (o : ℕ) → 2 ^ o / 2 ^ o % 2 ≡ 0 → ⊥
bit_set o none = let one : 2 ^ o / 2 ^ o ≡ 1 = ap (λ (x : ℕ). x / 2 ^ o) (omega arith) ∙ shl-shr 1 o in let e = ap (λ (x : ℕ). x % 2) one in omega arith

module _ (touched : List ℕ) (c : ℕ) (low : c / 64 < length touched) where
  -- what is absent after a column was marked was absent before, and is not that column
  pub absent_after : (j : ℕ) → Absent (set touched (c / 64) (bit_or (get_or touched (c / 64) 0) (2 ^ (c % 64)))) j → Absent touched j × (j ≡ c → ⊥)
  absent_after j none = ⊎_elim
      (λ (e : j / 64 ≡ c / 64).
      let word = get_or-set_same touched (c / 64) (bit_or (get_or touched (c / 64) 0) (2 ^ (c % 64))) 0 low in
      let here : bit_or (get_or touched (c / 64) 0) (2 ^ (c % 64)) / 2 ^ (j % 64) % 2 ≡ 0 = ap (λ (x : ℕ). x / 2 ^ (j % 64) % 2) (sym (ap (λ (i : ℕ). get_or (set touched (c / 64) (bit_or (get_or touched (c / 64) 0) (2 ^ (c % 64)))) i 0) e ∙ word)) ∙ none in
      let both = or_bit (get_or touched (c / 64) 0) (2 ^ (c % 64)) (j % 64) here in
      (rw e both.0, λ same. bit_set (c % 64) (ap (λ (x : ℕ). 2 ^ (c % 64) / 2 ^ (x % 64) % 2) (sym same) ∙ both.1)))
      (λ (ne : j / 64 ≡ c / 64 → ⊥).
      (ap (λ (x : ℕ). x / 2 ^ (j % 64) % 2) (sym (get_or-set_other touched (c / 64) (j / 64) _ 0 ne)) ∙ none, λ same. ne (ap (λ (x : ℕ). x / 64) same)))
      (cases_eq (j / 64) (c / 64))

  pub narrow_after : ((g : ℕ) → get_or touched g 0 < 2 ^ 64) → (g : ℕ) → get_or (set touched (c / 64) (bit_or (get_or touched (c / 64) 0) (2 ^ (c % 64)))) g 0 < 2 ^ 64
  narrow_after narrow g = ⊎_elim
      (λ (e : g ≡ c / 64). rw (e, get_or-set_same touched (c / 64) (bit_or (get_or touched (c / 64) 0) (2 ^ (c % 64))) 0 low) (or_lt 64 (get_or touched (c / 64) 0) (2 ^ (c % 64)) (narrow (c / 64)) (pow_below (c % 64) 64 (omega arith))))
      (λ (ne : g ≡ c / 64 → ⊥). rw (get_or-set_other touched (c / 64) g (bit_or (get_or touched (c / 64) 0) (2 ^ (c % 64))) 0 ne) (narrow g))
      (cases_eq g (c / 64))
