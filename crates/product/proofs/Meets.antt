-- What a meeting does to the lists of a row.
use Rattle.std.proofs.Common.{◌≡◌, ℕ, zero, suc, ◌+◌, ◌/◌, ◌<◌, ◌≤◌, cond, eqb, List, length, get_or, set, sym, refl, ap, ◌∙◌, subst, ap₂, ⊎_elim, arith}
use Rattle.std.proofs.lemmas.List.{get_or-set_same, get_or-set_other, length-set}
use Rattle.std.proofs.lemmas.Bool.{cases_eq, eq-eqb, ne_eqb}
use Rattle.arithmetic.specs.Semiring.{Semiring}
use Rattle.sheet.specs.Packed.{found}
use Rattle.sheet.proofs.Found.{not_found}
use Rattle.product.specs.declared.meetings.Meeting.{Meeting}
use Rattle.product.specs.declared.meetings.Meetings.{Meetings}
use Rattle.product.specs.Meetings.{meeting_in, meeting, pushed, cleared, Shaped, Idle, Linked, list_sum, Lists}
use Rattle.product.proofs.Chains.{list_more, list_stays, zeros_at}
use Rattle.product.proofs.Touched.{absent_after, narrow_after}

module _ {F : Type 0} (s : Semiring F) (n : ℕ) (small : n ≤ 1024) (fs gs : List F) where
  -- the same sums, said otherwise
  pub lists_same : (m : Meetings) (v v' : ℕ → F) → ((c : ℕ) → c < n → v c ≡ v' c) → Lists s fs gs m n v → Lists s fs gs m n v'
  lists_same m v v' same ls = record { linked = ls.linked; marked = ls.marked; sums = λ c h. ls.sums c h ∙ same c h }

  -- before the first meeting
  pub lists_none : (m : Meetings) (v : ℕ → F) → Idle n m → ((c : ℕ) → c < n → v c ≡ s.zero) → Lists s fs gs (cleared m) n v
  lists_none m v idle none = record {
    linked = record {
      few = omega arith;
      down = λ q pos few. absurd (omega arith);
      left_within = λ q pos few. absurd (omega arith);
      right_within = λ q pos few. absurd (omega arith);
    };
    marked = record {
      shaped = record { heads = idle.shaped.heads; words = refl; room = idle.shaped.room };
      narrow = λ g. rw (zeros_at 16 g) (omega arith);
      below = λ c h. rw (idle.none c h) (omega arith);
      marks = λ c h absent. idle.none c h;
    };
    sums = λ c h. rw (idle.none c h) (sym (none c h));
  }

  -- one meeting more, in column c, of the cells at l and r
  module _ (c l r : ℕ) (c_low : c < n) (l_low : l < length fs) (r_low : r < length gs) (m : Meetings) (v v' : ℕ → F) (room : m.count < 65535)
      (here : v' c ≡ s.add (s.mul (get_or fs l s.zero) (get_or gs r s.zero)) (v c)) (other : (d : ℕ) → d < n → (d ≡ c → ⊥) → v' d ≡ v d) (ls : Lists s fs gs m n v) where
    shape : Shaped m
    shape = ls.marked.shaped

    head_was : get_or m.head c 0 ≤ m.count
    head_was = ls.marked.below c c_low

    -- the new meeting
    abbrev new : Meeting
    new = record { before = get_or m.head c 0; left = l; right = r }

    new_is : meeting_in (set m.meetings (m.count + 1) new) (m.count + 1) ≡ new
    new_is = let long = shape.room in get_or-set_same m.meetings (m.count + 1) new _ (omega arith)

    -- what it and the others keep, all keep
    after_new : (P : ℕ → Meeting → Type 0) → P (m.count + 1) new → ((q : ℕ) → 0 < q → q ≤ m.count → P q (meeting_in m.meetings q)) → (q : ℕ) → 0 < q → q ≤ m.count + 1 → P q (meeting_in (set m.meetings (m.count + 1) new) q)
    after_new P here old q pos few = ⊎_elim
        (λ (e : q ≡ m.count + 1). subst (λ i. P i (meeting_in (set m.meetings (m.count + 1) new) i)) (sym e) (subst (P (m.count + 1)) (sym new_is) here))
        (λ (ne : q ≡ m.count + 1 → ⊥). subst (P q) (sym (get_or-set_other m.meetings (m.count + 1) q new _ ne)) (old q pos (omega (arith, ne))))
        (cases_eq q (m.count + 1))

    linked_now : Linked (length fs) (length gs) (meeting c l r m)
    linked_now = record {
      few = omega arith;
      down = after_new (λ q x. x.before < q) (let h = head_was in omega arith) ls.linked.down;
      left_within = after_new (λ q x. x.left < length fs) l_low ls.linked.left_within;
      right_within = after_new (λ q x. x.right < length gs) r_low ls.linked.right_within;
    }

    head_here : get_or (set m.head c (m.count + 1)) c 0 ≡ m.count + 1
    head_here = let long = shape.heads in get_or-set_same m.head c (m.count + 1) 0 (omega arith)

    head_other : (d : ℕ) → (d ≡ c → ⊥) → get_or (set m.head c (m.count + 1)) d 0 ≡ get_or m.head d 0
    head_other d ne = get_or-set_other m.head c d (m.count + 1) 0 ne

    word_low : c / 64 < length m.touched
    word_low = let long = shape.words in omega arith

    pub lists_one : Lists s fs gs (meeting c l r m) n v'
    lists_one = record {
      linked = linked_now;
      marked = record {
        shaped = record {
          heads = length-set m.head c (m.count + 1) ∙ shape.heads;
          words = length-set m.touched (c / 64) _ ∙ shape.words;
          room = length-set m.meetings (m.count + 1) new ∙ shape.room;
        };
        narrow = narrow_after m.touched c word_low ls.marked.narrow;
        below = λ d low. ⊎_elim
            (λ (e : d ≡ c). rw (e, head_here) (omega arith))
            (λ (ne : d ≡ c → ⊥). rw (head_other d ne) (let h = ls.marked.below d low in omega arith))
            (cases_eq d c);
        marks = λ d low absent. let was = absent_after m.touched c word_low d absent in head_other d was.1 ∙ ls.marked.marks d low was.0;
      };
      sums = λ d low. ⊎_elim
          (λ (e : d ≡ c). rw (e, head_here) (
          list_more s fs gs (meeting c l r m) (length fs) (length gs) linked_now (m.count + 1) (omega arith) (omega arith)
          ∙ (ap₂ s.add (ap (λ (x : Meeting). s.mul (get_or fs x.left s.zero) (get_or gs x.right s.zero)) new_is)
          (ap (λ (x : Meeting). list_sum s fs gs (meeting c l r m) x.before) new_is ∙ (list_stays s fs gs m (length fs) (length gs) ls.linked c l r (get_or m.head c 0) head_was ∙ ls.sums c c_low))
          ∙ sym here)))
          (λ (ne : d ≡ c → ⊥). rw (head_other d ne) (list_stays s fs gs m (length fs) (length gs) ls.linked c l r (get_or m.head d 0) (ls.marked.below d low) ∙ (ls.sums d low ∙ sym (other d low ne))))
          (cases_eq d c);
    }

  -- the meetings of the k cells from place q on with the cell at l, in columns that rise
  pub lists_many : (us : List ℕ) (l : ℕ) → l < length fs → (k q : ℕ) (m : Meetings) (v : ℕ → F) → q + k ≤ length gs → m.count + k ≤ 65535 → ((i : ℕ) → q ≤ i → i < q + k → get_or us i 0 < n)
      → ((i j : ℕ) → q ≤ i → i < j → j < q + k → get_or us i 0 < get_or us j 0)
      → Lists s fs gs m n v → Lists s fs gs (pushed us l q k m) n (λ c. s.add (s.mul (get_or fs l s.zero) (found s us gs c q k)) (v c))
  lists_many us l l_low zero q m v fits room columns rise ls =
      lists_same m v _ (λ c h. sym (rw (s.mul-zero (get_or fs l s.zero)) (s.zero-add (v c)))) ls
  lists_many us l l_low (suc k) q m v fits room columns rise ls =
      let d = get_or us q 0 in
      let f = get_or fs l s.zero in
      let v' : ℕ → F = λ c. cond (eqb d c) (s.add (s.mul f (get_or gs q s.zero)) (v c)) (v c) in
      let one = lists_one d l q (columns q (omega arith) (omega arith)) l_low (omega arith) m v v' (omega arith) (rw (eq-eqb d d refl) refl) (λ c h ne. rw (ne_eqb d c (λ e. ne (sym e))) refl) ls in
      let all = lists_many us l l_low k (q + 1) (meeting d l q m) v' (omega arith) (omega arith) (λ i from to. columns i (omega arith) (omega arith)) (λ i j from less to. rise i j (omega arith) less (omega arith)) one in
      lists_same _ _ _
      (λ c h. ⊎_elim
      (λ (e : d ≡ c).
      let gone : found s us gs c (q + 1) k ≡ s.zero = not_found s us gs c (q + 1) k (λ i from to z. let up = rise q i (omega arith) (omega arith) (omega arith) in omega arith) in
      rw (gone, eq-eqb d c e, s.mul-zero f) (s.zero-add _))
      (λ (ne : d ≡ c → ⊥). rw (ne_eqb d c ne) refl)
      (cases_eq d c))
      all

pub pushed_from : (us : List ℕ) (l q k : ℕ) (m : Meetings) → (pushed us l q k m).from ≡ m.from
pushed_from us l q zero m = refl
pushed_from us l q (suc k) m = pushed_from us l (q + 1) k (meeting (get_or us q 0) l q m)

pub pushed_count : (us : List ℕ) (l q k : ℕ) (m : Meetings) → (pushed us l q k m).count ≡ m.count + k
pushed_count us l q zero m = omega arith
pushed_count us l q (suc k) m = pushed_count us l (q + 1) k (meeting (get_or us q 0) l q m) ∙ omega arith
