-- Lists of meetings that go down, and what they add up to.
use Rattle.std.proofs.Common.{◌≡◌, ℕ, zero, suc, ◌+◌, ◌-◌, ◌<◌, ◌≤◌, List, get_or, replicate, sym, refl, ap, ◌∙◌, ap₂, ⊎_elim, arith}
use Rattle.std.proofs.lemmas.List.{get_or-set_other, get_or-replicate, get_or_past, length-replicate}
use Rattle.std.proofs.lemmas.Bool.{cases_lt}
use Rattle.arithmetic.specs.Semiring.{Semiring}
use Rattle.product.specs.declared.meetings.Meeting.{Meeting}
use Rattle.product.specs.declared.meetings.Meetings.{Meetings}
use Rattle.product.specs.Meetings.{meeting_in, meeting, pushed, along, list_sum, Linked}

-- the loop that pushes: what is left to push comes to the whole
pub pushed_more : (us : List ℕ) (left q end : ℕ) (m : Meetings) → q < end → pushed us left (q + 1) (end - (q + 1)) (meeting (get_or us q 0) left q m) ≡ pushed us left q (end - q) m
pushed_more us left q end m short = let e : end - q ≡ suc (end - (q + 1)) = omega arith in rw e refl

module _ {F : Type 0} (s : Semiring F) (fs gs : List F) where
  module _ (m : Meetings) (size size' : ℕ) (linked : Linked size size' m) where
    along_none : (k : ℕ) → along s fs gs m.meetings k 0 ≡ s.zero
    along_none zero = refl
    along_none (suc k) = refl

    -- any number of steps that is large enough gives the same
    along_same : (j k q : ℕ) → q ≤ j → q ≤ k → q ≤ m.count → along s fs gs m.meetings j q ≡ along s fs gs m.meetings k q
    along_same j k zero le le' few = along_none j ∙ sym (along_none k)
    along_same zero k (suc q) le le' few = absurd (omega arith)
    along_same (suc j) zero (suc q) le le' few = absurd (omega arith)
    along_same (suc j) (suc k) (suc q) le le' few =
        let less = linked.down (suc q) (omega arith) few in
        ap (s.add _) (along_same j k (meeting_in m.meetings (suc q)).before (omega arith) (omega arith) (omega arith))

    -- one meeting
    pub list_more : (q : ℕ) → 0 < q → q ≤ m.count → list_sum s fs gs m q ≡ s.add (s.mul (get_or fs (meeting_in m.meetings q).left s.zero) (get_or gs (meeting_in m.meetings q).right s.zero)) (list_sum s fs gs m (meeting_in m.meetings q).before)
    list_more zero pos few = absurd (omega arith)
    list_more (suc q) pos few =
        let less = linked.down (suc q) (omega arith) few in
        ap (s.add _) (along_same q (meeting_in m.meetings (suc q)).before (meeting_in m.meetings (suc q)).before (omega arith) (omega arith) (omega arith))

    -- the walk: what is added so far, t, and what is left come to the whole
    pub walk_more : (q : ℕ) → 0 < q → q ≤ m.count → (t u w : F) → u ≡ s.add t (s.mul (get_or fs (meeting_in m.meetings q).left s.zero) (get_or gs (meeting_in m.meetings q).right s.zero)) → s.add t (list_sum s fs gs m q) ≡ w → s.add u (list_sum s fs gs m (meeting_in m.meetings q).before) ≡ w
    walk_more q pos few t u w e so_far = rw e (s.add_assoc _ _ _ ∙ (ap (s.add t) (sym (list_more q pos few)) ∙ so_far))

    -- a new meeting leaves the lists that are there
    along_stays : (c l r k q : ℕ) → q ≤ m.count → along s fs gs (meeting c l r m).meetings k q ≡ along s fs gs m.meetings k q
    along_stays c l r zero q few = refl
    along_stays c l r (suc k) zero few = refl
    along_stays c l r (suc k) (suc q) few =
        let apart : suc q ≡ m.count + 1 → ⊥ = λ e. omega arith in
        let less = linked.down (suc q) (omega arith) few in
        let old = get_or-set_other m.meetings (m.count + 1) (suc q) _ _ apart in
        ap₂ s.add (ap (λ (x : Meeting). s.mul (get_or fs x.left s.zero) (get_or gs x.right s.zero)) old)
        (ap (λ (x : Meeting). along s fs gs (meeting c l r m).meetings k x.before) old ∙ along_stays c l r k (meeting_in m.meetings (suc q)).before (omega arith))

    pub list_stays : (c l r q : ℕ) → q ≤ m.count → list_sum s fs gs (meeting c l r m) q ≡ list_sum s fs gs m q
    list_stays c l r q few = along_stays c l r q q few

-- an array of zeros
pub zeros_at : (n q : ℕ) → ◌≡◌ {A = ℕ} (get_or (replicate n 0) q 0) 0
zeros_at n q = ⊎_elim
    (λ (h : q < n). get_or-replicate n q 0 0 h)
    (λ (h : n ≤ q). get_or_past (replicate n 0) q 0 (rw length-replicate h))
    (cases_lt q n)
