-- The lists of a row of a product: its diagonal cell meets the second sheet first, and then its other stored cells, place
-- by place.
use Rattle.std.proofs.Common.{◌≡◌, ℕ, ◌+◌, ◌-◌, ◌<◌, ◌≤◌, cond, eqb, List, length, get_or, sym, refl, ap, ◌∙◌, ⊎_elim, arith}
use Rattle.std.proofs.lemmas.Bool.{cases_lt, cases_eq, eq-eqb, ne_eqb}
use Rattle.arithmetic.specs.Semiring.{Semiring, meanings}
use Rattle.arithmetic.specs.declared.Arithmetic.{Ghosts}
use Rattle.sheet.specs.Packed.{found, table}
use Rattle.sheet.specs.declared.sound.Pair.{Pair}
use Rattle.sheet.proofs.Found.{sound_rises, row_past, row_within, cell_at, columns_rise, off_diagonal, rest, worked_start, worked_more, worked_all}
use Rattle.product.specs.declared.meetings.Meetings.{Meetings}
use Rattle.product.specs.Meetings.{meeting, pushed, cleared, Idle, Lists, pair_product}
use Rattle.sheet.proofs.Pairs.{first_sound, second_sound, first_paired, second_paired}
use Rattle.product.proofs.Meets.{lists_same, lists_none, lists_one, lists_many, pushed_from, pushed_count}

module _ {S : Type 0} {g : Ghosts S} (pair : Pair S g) (i : ℕ) where
  abbrev F : Type 0
  F = g.figures.F

  abbrev s : Semiring F
  s = g.figures.ring

  abbrev n : ℕ
  n = pair.first.order

  abbrev ws : List ℕ
  ws = pair.first.words.now

  abbrev fs : List F
  fs = meanings g.figures pair.first.figures.now

  abbrev us : List ℕ
  us = pair.second.words.now

  abbrev gs : List F
  gs = meanings g.figures pair.second.figures.now

  -- no more meetings than the rows before row k of the second sheet have places, and row i
  abbrev Few : ℕ → ℕ → Type 0
  Few k count = (k < i → count + n + get_or us i 0 ≤ get_or us k 0 + k + get_or us (i + 1) 0) × (i < k → count + (n + 1) ≤ get_or us k 0 + k)

  -- the diagonal and the cells before place p of row i have met the second sheet: met c is what the list of column c adds up to
  pub record Linking (p : ℕ) (m : Meetings) : Type 0 where
    pub met : ℕ → F
    pub lists : Lists s fs gs m n met
    pub left : (c : ℕ) → c < n → s.add (met c) (rest s n ws fs (λ j. table s us gs j c) i p) ≡ pair_product pair i c
    pub whole : m.from ≡ 0
    pub few : p < get_or ws (i + 1) 0 → Few (get_or ws p 0) m.count

  -- a cell of the first sheet meets row k of the second
  module _ (k : ℕ) (k_low : k < n) (at : ℕ) (there : at < length ws) (m : Meetings) (roomy : m.count + (get_or us (k + 1) 0 - get_or us k 0) < 65535) where
    abbrev start : ℕ
    start = get_or us k 0

    abbrev size : ℕ
    size = get_or us (k + 1) 0 - get_or us k 0

    module _ (v : ℕ → F) where
      abbrev v' : ℕ → F
      v' d = cond (eqb k d) (s.add (s.mul (get_or fs at s.zero) (get_or gs k s.zero)) (v d)) (v d)

      -- the diagonal cell of row k, and then the others
      more : (d : ℕ) → d < n → s.add (s.mul (get_or fs at s.zero) (found s us gs d start size)) (v' d) ≡ s.add (v d) (s.mul (get_or fs at s.zero) (table s us gs k d))
      more d h = ⊎_elim
          (λ (e : k ≡ d).
          let none : found s us gs d start size ≡ s.zero = rw (sym e) (off_diagonal s n us gs (second_sound pair) k k_low) in
          rw (none, eq-eqb k d e, s.mul-zero (get_or fs at s.zero)) (s.zero-add _ ∙ s.add_comm _ _))
          (λ (ne : k ≡ d → ⊥). rw (ne_eqb k d ne) (s.add_comm _ _))
          (cases_eq k d)

      row_met : Lists s fs gs m n v → Lists s fs gs (pushed us at start size (meeting k at k m)) n (λ d. s.add (v d) (s.mul (get_or fs at s.zero) (table s us gs k d)))
      row_met ls =
          let sound' = second_sound pair in
          let up = sound_rises s n us gs sound' k (k + 1) (omega arith) (omega arith) in
          let end = row_within s n us gs sound' (k + 1) (omega arith) in
          let room = sound'.room in
          let even = first_paired pair in
          let even' = second_paired pair in
          let one = lists_one s n pair.small_order fs gs k at k k_low (omega arith) (omega arith) m v v' (omega arith) (rw (eq-eqb k k refl) refl) (λ d h ne. rw (ne_eqb k d (λ e. ne (sym e))) refl) ls in
          let many = lists_many s n pair.small_order fs gs us at (omega arith) size start (meeting k at k m) v' (omega arith) (omega arith) (λ j from to. (cell_at s n us gs sound' k k_low j from (omega arith)).0) (λ j d from less to. columns_rise s n us gs sound' k k_low j d from less (omega arith)) one in
          lists_same s n pair.small_order fs gs _ _ _ more many

  module _ (low : i < n) where
    -- there is room for the meetings of row i, which the diagonal cell meets
    pub first_room : (m m' : Meetings) → m' ≡ cleared m → m'.count + (get_or us (i + 1) 0 - get_or us i 0) < 65535
    first_room m m' is =
        let none = ap (λ (x : Meetings). x.count) is in
        let past = row_past s n us gs (second_sound pair) i (omega arith) in
        let end = row_within s n us gs (second_sound pair) (i + 1) (omega arith) in
        let short = pair.small_second in
        omega arith

    pub linking_first : (m m' m'' : Meetings) → Idle n m → m' ≡ cleared m → m'' ≡ pushed us i (get_or us i 0) (get_or us (i + 1) 0 - get_or us i 0) (meeting i i i m') → Linking (get_or ws i 0) m''
    linking_first m m' m'' idle none is =
        let sound = first_sound pair in
        let sound' = second_sound pair in
        let room = sound.room in
        let count = ap (λ (x : Meetings). x.count) is ∙ pushed_count us i (get_or us i 0) (get_or us (i + 1) 0 - get_or us i 0) (meeting i i i m') in
        let zero = ap (λ (x : Meetings). x.count) none in
        let past = row_past s n us gs sound' i (omega arith) in
        let up = sound_rises s n us gs sound' i (i + 1) (omega arith) (omega arith) in
        record {
          met = λ c. s.add s.zero (s.mul (get_or fs i s.zero) (table s us gs i c));
          lists = rw is (row_met i low i (omega arith) m' (first_room m m' none) (λ c. s.zero) (rw none (lists_none s n pair.small_order fs gs m _ idle (λ c h. refl))));
          left = λ c h. worked_start s n ws fs sound (λ j. table s us gs j c) i low _ (s.zero-add _);
          whole = ap (λ (x : Meetings). x.from) is ∙ (pushed_from us i (get_or us i 0) (get_or us (i + 1) 0 - get_or us i 0) (meeting i i i m') ∙ ap (λ (x : Meetings). x.from) none);
          few = λ short.
              let column = cell_at s n ws fs sound i low (get_or ws i 0) (omega arith) short in
              let past' = row_past s n us gs sound' (get_or ws (get_or ws i 0) 0) (let b = column.0 in omega arith) in (
                λ before. omega arith,
                λ after. let up' = sound_rises s n us gs sound' (i + 1) (get_or ws (get_or ws i 0) 0) (omega arith) (let b = column.0 in omega arith) in omega arith,
              );
        }

    module _ {p : ℕ} {m : Meetings} (l : Linking p m) where
      -- no stored cell is left
      pub linking_all : get_or ws (i + 1) 0 ≤ p → Lists s fs gs m n (pair_product pair i)
      linking_all end = lists_same s n pair.small_order fs gs m _ _ (λ c h. worked_all s n ws fs (first_sound pair) (λ j. table s us gs j c) i low _ p end (l.left c h)) l.lists

      -- the stored cell at place p
      module _ (from : get_or ws i 0 ≤ p) (to : p < get_or ws (i + 1) 0) where
        abbrev k : ℕ
        k = get_or ws p 0

        pub column_low : k < n
        column_low = (cell_at s n ws fs (first_sound pair) i low p from to).0

        place_within : p < length ws
        place_within = let end = row_within s n ws fs (first_sound pair) (i + 1) (omega arith) in omega arith

        -- there is room for the meetings of row k
        pub row_room : m.count + (get_or us (k + 1) 0 - get_or us k 0) < 65535
        row_room =
            let sound' = second_sound pair in
            let below = column_low in
            let off = (cell_at s n ws fs (first_sound pair) i low p from to).1 in
            let up = sound_rises s n us gs sound' k (k + 1) (omega arith) (omega arith) in
            let past = row_past s n us gs sound' i (omega arith) in
            let end = row_within s n us gs sound' (k + 1) (omega arith) in
            let short = pair.small_second in
            ⊎_elim
            (λ (before : k < i).
            let f = (l.few to).0 before in
            let up' = sound_rises s n us gs sound' (k + 1) i (omega arith) (omega arith) in
            let end' = row_within s n us gs sound' (i + 1) (omega arith) in
            omega arith)
            (λ (after : i ≤ k). let f = (l.few to).1 (omega (arith, off)) in omega arith)
            (cases_lt k i)

        pub linking_more : (m' : Meetings) → m' ≡ pushed us p (get_or us k 0) (get_or us (k + 1) 0 - get_or us k 0) (meeting k p k m) → Linking (p + 1) m'
        linking_more m' is =
            let sound = first_sound pair in
            let sound' = second_sound pair in
            let below = column_low in
            let off = (cell_at s n ws fs sound i low p from to).1 in
            let count = ap (λ (x : Meetings). x.count) is ∙ pushed_count us p (get_or us k 0) (get_or us (k + 1) 0 - get_or us k 0) (meeting k p k m) in
            let up = sound_rises s n us gs sound' k (k + 1) (omega arith) (omega arith) in
            record {
              met = λ c. s.add (l.met c) (s.mul (get_or fs p s.zero) (table s us gs k c));
              lists = rw is (row_met k below p place_within m row_room l.met l.lists);
              left = λ c h. worked_more s n ws fs sound (λ j. table s us gs j c) i low (l.met c) _ p from to refl (l.left c h);
              whole = ap (λ (x : Meetings). x.from) is ∙ (pushed_from us p (get_or us k 0) (get_or us (k + 1) 0 - get_or us k 0) (meeting k p k m) ∙ l.whole);
              few = λ short.
                  let b = (cell_at s n ws fs sound i low (p + 1) (omega arith) short).0 in
                  let rise = columns_rise s n ws fs sound i low p (p + 1) from (omega arith) short in
                  let up' = sound_rises s n us gs sound' (k + 1) (get_or ws (p + 1) 0) (omega arith) (omega arith) in
                  ⊎_elim
                  (λ (before : k < i).
                  let f = (l.few to).0 before in (
                    λ still. omega arith,
                    λ past.
                        let under = sound_rises s n us gs sound' (k + 1) i (omega arith) (omega arith) in
                        let over = sound_rises s n us gs sound' (i + 1) (get_or ws (p + 1) 0) (omega arith) (omega arith) in
                        omega arith,
                  ))
                  (λ (after : i ≤ k). let f = (l.few to).1 (omega (arith, off)) in (λ still. absurd (omega arith), λ past. omega arith))
                  (cases_lt k i);
            }
