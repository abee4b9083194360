-- The cells of a sheet, each moved to the next free place of its column.
use Rattle.std.proofs.Common.{◌≡◌, ℕ, ◌+◌, ◌-◌, ◌<◌, ◌≤◌, true, List, length, get_or, set, take, sym, refl, ap, ◌∙◌, subst, ⊎_elim, add-one, arith}
use Rattle.std.proofs.lemmas.List.{get_or-set_same, get_or-set_other, get_or_append_left, get_or-append_right, get_or-take, get_or-drop, take-map, length-append, length-set, length-take, length-drop, same_lists, ext_get_or}
use Rattle.std.proofs.lemmas.Bool.{cases_lt, cases_eq, cases_order}
use Rattle.arithmetic.specs.Semiring.{Figures, meanings}
use Rattle.matrix.specs.Tables.{Table}
use Rattle.matrix.proofs.Meant.{length-meanings, meanings_set}
use Rattle.sheet.specs.Packed.{stored, columns_below, row_columns, row_start, packed_length, packed_index, packed_figures}
use Rattle.sheet.specs.Writing.{overlaid, Written}
use Rattle.sheet.proofs.Columns.{columns_at, columns_room, starts_grow}
use Rattle.sheet.proofs.Packs.{start_at, diagonal_at, column_of, figure_of}
use Rattle.sheet.proofs.Same.{index_long, figures_long_too}
use Rattle.sheet.proofs.Sounds.{packed_sound, row_of}
use Rattle.transpose.specs.Flipping.{HeadLaid}

-- what stands at a place of a list that another was written over
module _ {A : Type 0} (d xs : List A) where
  overlaid_long : length xs ≤ length d → length (overlaid d xs) ≡ length d
  overlaid_long room = simp (length-append, length-drop) (omega arith)

  overlaid_in : (k : ℕ) (e : A) → k < length xs → get_or (overlaid d xs) k e ≡ get_or xs k e
  overlaid_in k e low = get_or_append_left xs _ e k low

  overlaid_after : (k : ℕ) (e : A) → length xs ≤ k → get_or (overlaid d xs) k e ≡ get_or d k e
  overlaid_after k e past =
      let at : length xs + (k - length xs) ≡ k = omega arith in
      get_or-append_right xs _ (length xs) k e refl past ∙ (get_or-drop (length xs) d (k - length xs) e ∙ ap (λ i. get_or d i e) at)

module _ {S : Type 0} (a : Figures S) (n : ℕ) (t : Table a.F) (ws : List ℕ) (fs : List S) where
  -- the head is there, and each row c of t is written from its start up to next(c)
  pub record Turned (ws' : List ℕ) (fs' : List S) (next : List ℕ) : Type 0 where
    pub head : HeadLaid a n t ws fs ws' fs'
    pub low : (c : ℕ) → c < n → row_start a.ring n t c ≤ get_or next c 0
    pub high : (c : ℕ) → c < n → get_or next c 0 ≤ row_start a.ring n t (c + 1)
    pub words : (c q : ℕ) → c < n → row_start a.ring n t c + q < get_or next c 0 → get_or ws' (row_start a.ring n t c + q) 0 ≡ get_or (row_columns a.ring n t c) q 0
    pub figures : (c q : ℕ) → c < n → row_start a.ring n t c + q < get_or next c 0 → get_or (meanings a fs') (row_start a.ring n t c + q) a.ring.zero ≡ t c (get_or (row_columns a.ring n t c) q 0)

module _ {S : Type 0} (a : Figures S) (n : ℕ) (small : n ≤ 1024) (t : Table a.F) (ws : List ℕ) (fs : List S) (room : packed_length a.ring n t ≤ length ws) (even : length fs ≡ length ws) where
  -- before the first cell
  pub turned_none : (ws' : List ℕ) (fs' : List S) (next : List ℕ) → HeadLaid a n t ws fs ws' fs' → ((c : ℕ) → c < n → get_or next c 0 ≡ row_start a.ring n t c) → Turned a n t ws fs ws' fs' next
  turned_none ws' fs' next head starts = record {
    head = head;
    low = λ c h. rw (starts c h) (omega arith);
    high = λ c h. rw (starts c h) (starts_grow a.ring n t c (c + 1) (omega arith));
    words = λ c q h short. absurd (let e = starts c h in omega arith);
    figures = λ c q h short. absurd (let e = starts c h in omega arith);
  }

  module _ (ws' : List ℕ) (fs' : List S) (next : List ℕ) (done : Turned a n t ws fs ws' fs' next) (i c : ℕ) (i_low : i < n) (c_low : c < n) (cell : stored a.ring c (t c) i ≡ true) (at : get_or next c 0 ≡ row_start a.ring n t c + length (columns_below a.ring c (t c) i)) where
    next_start : row_start a.ring n t (c + 1) ≡ row_start a.ring n t c + length (row_columns a.ring n t c)
    next_start = rw add-one refl

    -- the place is free: no other row reaches it
    apart : (d q : ℕ) → d < n → row_start a.ring n t d + q < get_or next d 0 → row_start a.ring n t d + q ≡ get_or next c 0 → ⊥
    apart d q d_low short e = ⊎_elim
        (λ (same : d ≡ c). let short' : row_start a.ring n t d + q < get_or next c 0 = subst (λ m. row_start a.ring n t d + q < get_or next m 0) same short in omega arith)
        (⊎_elim
        (λ (less : d < c). let x = done.high d d_low in let y = done.low c c_low in let u = starts_grow a.ring n t (d + 1) c (omega arith) in omega arith)
        (λ (more : c < d). let more_Room = columns_room a.ring c (t c) i n i_low cell in let u = starts_grow a.ring n t (c + 1) d (omega arith) in let nx = next_start in omega arith))
        (cases_order d c)

    -- and it lies past the head
    pub place_within : (n < get_or next c 0) × (get_or next c 0 < packed_length a.ring n t)
    place_within =
        let r = columns_room a.ring c (t c) i n i_low cell in
        let g = starts_grow a.ring n t (c + 1) n (omega arith) in
        let nx = next_start in
        let z = starts_grow a.ring n t 0 c (omega arith) in
        (omega arith, omega arith)

    module _ (long : length next ≡ 1024) (u : S) (u_is : a.meaning u ≡ t c i) where
      at_c : get_or (set next c (get_or next c 0 + 1)) c 0 ≡ get_or next c 0 + 1
      at_c = get_or-set_same next c (get_or next c 0 + 1) 0 (omega arith)

      at_other : (d : ℕ) → (d ≡ c → ⊥) → get_or (set next c (get_or next c 0 + 1)) d 0 ≡ get_or next d 0
      at_other d ne = get_or-set_other next c d (get_or next c 0 + 1) 0 ne

      -- a place that is written now was written before, or is the new one
      before : (d q : ℕ) → row_start a.ring n t d + q < get_or (set next c (get_or next c 0 + 1)) d 0 → (row_start a.ring n t d + q ≡ get_or next c 0 → ⊥) → row_start a.ring n t d + q < get_or next d 0
      before d q short ne = ⊎_elim
          (λ (same : d ≡ c).
          let short' : row_start a.ring n t d + q < get_or next c 0 + 1 = rw at_c at (subst (λ m. row_start a.ring n t d + q < get_or (set next c (get_or next c 0 + 1)) m 0) same short) in
          let less : row_start a.ring n t d + q < get_or next c 0 = omega (arith, ne) in
          subst (λ m. row_start a.ring n t d + q < get_or next m 0) (sym same) less)
          (λ (other : d ≡ c → ⊥). rw (at_other d other) at short)
          (cases_eq d c)

      the_row : (d q : ℕ) → d < n → row_start a.ring n t d + q < get_or (set next c (get_or next c 0 + 1)) d 0 → row_start a.ring n t d + q ≡ get_or next c 0 → d ≡ c
      the_row d q d_low short e = ⊎_elim (λ (same : d ≡ c). same) (λ (other : d ≡ c → ⊥). absurd (apart d q d_low (rw (at_other d other) at short) e)) (cases_eq d c)

      the_column : (d q : ℕ) → d ≡ c → row_start a.ring n t d + q ≡ get_or next c 0 → get_or (row_columns a.ring n t d) q 0 ≡ i
      the_column d q same e =
          let e' : row_start a.ring n t c + q ≡ get_or next c 0 = subst (λ m. row_start a.ring n t m + q ≡ get_or next c 0) same e in
          let place : q ≡ length (columns_below a.ring c (t c) i) = omega arith in
          rw (same, place) (columns_at a.ring c (t c) i n 0 i_low cell)

      words_room : get_or next c 0 < length ws'
      words_room = let w = place_within.1 in let l = done.head.words_long in omega arith

      figures_room : get_or next c 0 < length (meanings a fs')
      figures_room = let w = place_within.1 in let l = done.head.figures_long in rw (length-meanings a fs') (omega arith)

      -- a write past the head leaves it
      head_now : HeadLaid a n t ws fs (set ws' (get_or next c 0) i) (set fs' (get_or next c 0) u)
      head_now =
          let past = place_within.0 in
          let within = place_within.1 in
          let h = done.head in
          record {
            starts = λ r le. get_or-set_other ws' (get_or next c 0) r i 0 (λ e. omega arith) ∙ h.starts r le;
            diagonal = λ r less. ap (λ xs. get_or xs r a.ring.zero) (meanings_set a fs' (get_or next c 0) u) ∙ (get_or-set_other (meanings a fs') (get_or next c 0) r (a.meaning u) a.ring.zero (λ e. omega arith) ∙ h.diagonal r less);
            spare = ap (λ xs. get_or xs n a.ring.zero) (meanings_set a fs' (get_or next c 0) u) ∙ (get_or-set_other (meanings a fs') (get_or next c 0) n (a.meaning u) a.ring.zero (λ e. omega arith) ∙ h.spare);
            words_long = length-set ws' (get_or next c 0) i ∙ h.words_long;
            figures_long = length-set fs' (get_or next c 0) u ∙ h.figures_long;
            words_stay = λ k out. get_or-set_other ws' (get_or next c 0) k i 0 (λ e. omega arith) ∙ h.words_stay k out;
            figures_stay = λ k d out. get_or-set_other fs' (get_or next c 0) k u d (λ e. omega arith) ∙ h.figures_stay k d out;
          }

      pub turned_more : Turned a n t ws fs (set ws' (get_or next c 0) i) (set fs' (get_or next c 0) u) (set next c (get_or next c 0 + 1))
      turned_more = record {
        head = head_now;
        low = λ d h. ⊎_elim
            (λ (same : d ≡ c). let b = done.low c c_low in rw (same, at_c) (omega arith))
            (λ (other : d ≡ c → ⊥). rw (at_other d other) (done.low d h))
            (cases_eq d c);
        high = λ d h. ⊎_elim
            (λ (same : d ≡ c). let r = columns_room a.ring c (t c) i n i_low cell in let nx = next_start in rw (same, at_c) (omega arith))
            (λ (other : d ≡ c → ⊥). rw (at_other d other) (done.high d h))
            (cases_eq d c);
        words = λ d q h short. ⊎_elim
            (λ (e : row_start a.ring n t d + q ≡ get_or next c 0). rw e (get_or-set_same ws' (get_or next c 0) i 0 words_room) ∙ sym (the_column d q (the_row d q h short e) e))
            (λ (ne : row_start a.ring n t d + q ≡ get_or next c 0 → ⊥).
            get_or-set_other ws' (get_or next c 0) (row_start a.ring n t d + q) i 0 ne ∙ done.words d q h (before d q short ne))
            (cases_eq (row_start a.ring n t d + q) (get_or next c 0));
        figures = λ d q h short. ap (λ xs. get_or xs (row_start a.ring n t d + q) a.ring.zero) (meanings_set a fs' (get_or next c 0) u) ∙ ⊎_elim
            (λ (e : row_start a.ring n t d + q ≡ get_or next c 0).
            let same = the_row d q h short e in
            rw e (get_or-set_same (meanings a fs') (get_or next c 0) (a.meaning u) a.ring.zero figures_room) ∙ (u_is ∙ sym (ap (t d) (the_column d q same e) ∙ ap (λ m. t m i) same)))
            (λ (ne : row_start a.ring n t d + q ≡ get_or next c 0 → ⊥).
            get_or-set_other (meanings a fs') (get_or next c 0) (row_start a.ring n t d + q) (a.meaning u) a.ring.zero ne ∙ done.figures d q h (before d q short ne))
            (cases_eq (row_start a.ring n t d + q) (get_or next c 0));
      }

  -- every row is written to its end: the packed form stands there
  module _ (ws' : List ℕ) (fs' : List S) (next : List ℕ) (done : Turned a n t ws fs ws' fs' next) (full : (c : ℕ) → c < n → get_or next c 0 ≡ row_start a.ring n t c + length (row_columns a.ring n t c)) where
    word_at : (x : ℕ) → x < packed_length a.ring n t → get_or ws' x 0 ≡ get_or (packed_index a.ring n t) x 0
    word_at x low = ⊎_elim
        (λ (past : n < x).
        let found = row_of a.ring n t x n past low in
        let short = found.short in
        let end = full found.row found.row_below in
        subst (λ y. get_or ws' y 0 ≡ get_or (packed_index a.ring n t) y 0) found.is
        (done.words found.row found.place found.row_below (omega arith) ∙ sym (column_of a.ring n t found.row found.place found.row_below short)))
        (λ (le : x ≤ n). done.head.starts x le ∙ sym (start_at a.ring n t x le))
        (cases_lt n x)

    figure_at_place : (x : ℕ) → x < packed_length a.ring n t → get_or (meanings a fs') x a.ring.zero ≡ get_or (packed_figures a.ring n t) x a.ring.zero
    figure_at_place x low = ⊎_elim
        (λ (past : n < x).
        let found = row_of a.ring n t x n past low in
        let short = found.short in
        let end = full found.row found.row_below in
        subst (λ y. get_or (meanings a fs') y a.ring.zero ≡ get_or (packed_figures a.ring n t) y a.ring.zero) found.is
        (done.figures found.row found.place found.row_below (omega arith) ∙ sym (figure_of a.ring n t found.row found.place found.row_below short)))
        (λ (le : x ≤ n). ⊎_elim
        (λ (less : x < n). done.head.diagonal x less ∙ sym (diagonal_at a.ring n t x less))
        (λ (ge : n ≤ x).
        let e : x ≡ n = omega arith in
        ap (λ y. get_or (meanings a fs') y a.ring.zero) e ∙ (done.head.spare ∙ sym ((((packed_sound a.ring n t).rules x (omega (arith, index_long a.ring n t))).head le).spare e)))
        (cases_lt x n))
        (cases_lt n x)

    pub turned_all : Written a n t ws fs ws' fs'
    turned_all =
        let long = index_long a.ring n t in
        let long' = figures_long_too a.ring n t in
        let words_long = done.head.words_long in
        let figures_long = done.head.figures_long in
        let size = packed_length a.ring n t in
        let mine : length (take size fs') ≡ size = simp length-take (omega arith) in
        let fits : length (packed_index a.ring n t) ≤ length ws = omega arith in
        let fits' : length (take size fs') ≤ length fs = omega arith in
        record {
          index = ext_get_or 0 ws' (overlaid ws (packed_index a.ring n t)) (words_long ∙ sym (overlaid_long ws (packed_index a.ring n t) fits)) (λ k h. ⊎_elim
              (λ (low : k < size). word_at k low ∙ sym (overlaid_in ws (packed_index a.ring n t) k 0 (omega arith)))
              (λ (past : size ≤ k). done.head.words_stay k past ∙ sym (overlaid_after ws (packed_index a.ring n t) k 0 (omega arith)))
              (cases_lt k size));
          stored = take size fs';
          means = ext_get_or a.ring.zero (meanings a (take size fs')) (packed_figures a.ring n t) (length-meanings a _ ∙ (mine ∙ sym long')) (λ k h.
              let low : k < size = let l = length-meanings a (take size fs') in omega arith in
              ap (λ xs. get_or xs k a.ring.zero) (sym (take-map a.meaning size fs')) ∙ (get_or-take size (meanings a fs') k a.ring.zero low ∙ figure_at_place k low));
          figures = same_lists fs' (overlaid fs (take size fs')) (figures_long ∙ sym (overlaid_long fs (take size fs') fits')) (λ k d h. ⊎_elim
              (λ (low : k < size). sym (overlaid_in fs (take size fs') k d (omega arith) ∙ get_or-take size fs' k d low))
              (λ (past : size ≤ k). done.head.figures_stay k d past ∙ sym (overlaid_after fs (take size fs') k d (omega arith)))
              (cases_lt k size));
        }
