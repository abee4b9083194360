-- A sound sheet is the packed form of its table: a table has one packed form.
use Rattle.std.proofs.Common.{◌≡◌, ℕ, zero, suc, ◌+◌, ◌-◌, ◌<◌, ◌≤◌, true, false, List, [], ◌∷◌, ◌++◌, length, get_or, take, drop, sym, refl, ap, ◌∙◌, subst, ap₂, ⊎_elim, add-one, arith}
use Rattle.std.proofs.lemmas.List.{ext_get_or, length-take-le, length-drop, take_more, get_or-drop}
use Rattle.std.proofs.lemmas.Bool.{cases_lt, cases_eq, cases_Bool, eq-eqb, ne_eqb, and_from, and_left, and_right, not_from_true, not_from_false}
use Rattle.arithmetic.specs.Semiring.{Semiring}
use Rattle.matrix.specs.Tables.{Table, Same}
use Rattle.sheet.specs.Packed.{stored, columns_below, row_columns, row_start, packed_length, packed_index, packed_figures, Sound, found, table}
use Rattle.sheet.specs.Forms.{PackedFormExists, PackedFormIsUnique, SoundSheetIsPacked}
use Rattle.sheet.proofs.Columns.{columns_yes, columns_no}
use Rattle.sheet.proofs.Cells.{part_at}
use Rattle.sheet.proofs.Found.{sound_rises, row_past, row_within, cell_at, columns_rise, not_found, table_here, table_off}
use Rattle.sheet.proofs.Packs.{start_at, diagonal_at, column_of, figure_of, table_packed}
use Rattle.sheet.proofs.Same.{packed_index_same, packed_figures_same, index_long, figures_long_too}
use Rattle.sheet.proofs.Sounds.{row_of, packed_sound}

-- the first position that holds column c gives its figure
pub found_first : {F : Type 0} (s : Semiring F) (ws : List ℕ) (fs : List F) (c p k q : ℕ) → p ≤ q → q < p + k → get_or ws q 0 ≡ c → ((j : ℕ) → p ≤ j → j < q → get_or ws j 0 ≡ c → ⊥) → found s ws fs c p k ≡ get_or fs q s.zero
found_first s ws fs c p zero q low high is before = absurd (omega arith)
found_first s ws fs c p (suc k) q low high is before = ⊎_elim
    (λ (h : p < q). rw (ne_eqb (get_or ws p 0) c (before p (omega arith) h)) (found_first s ws fs c (p + 1) k q (omega arith) (omega arith) is (λ j from to. before j (omega arith) to)))
    (λ (h : q ≤ p). let e : p ≡ q = omega arith in rw (e, eq-eqb (get_or ws q 0) c is) refl)
    (cases_lt p q)

module _ {F : Type 0} (s : Semiring F) (n : ℕ) (ws : List ℕ) (fs : List F) (sound : Sound s n ws fs) where
  module _ (r : ℕ) (low : r < n) where
    -- the figure at a position of row r is the table's, in the column that stands there
    pub cell_figure : (p : ℕ) → get_or ws r 0 ≤ p → p < get_or ws (r + 1) 0 → table s ws fs r (get_or ws p 0) ≡ get_or fs p s.zero
    cell_figure p from to =
        table_off s ws fs r (get_or ws p 0) (cell_at s n ws fs sound r low p from to).1
        ∙ found_first s ws fs (get_or ws p 0) (get_or ws r 0) (get_or ws (r + 1) 0 - get_or ws r 0) p from (omega arith) refl
        (λ j at_least_lem before e. let up = columns_rise s n ws fs sound r low j p at_least_lem before to in omega arith)

    cell_filled : (p : ℕ) → get_or ws r 0 ≤ p → p < get_or ws (r + 1) 0 → get_or fs p s.zero ≡ s.zero → ⊥
    cell_filled p from to =
        let past = row_past s n ws fs sound r (omega arith) in
        let within = row_within s n ws fs sound (r + 1) (omega arith) in
        ((sound.rules p (omega arith)).cell (omega arith)).figure

    -- a column that stands in row r is one that its table's row stores
    pub cell_stored : (p : ℕ) → get_or ws r 0 ≤ p → p < get_or ws (r + 1) 0 → stored s r (table s ws fs r) (get_or ws p 0) ≡ true
    cell_stored p from to =
        let off = (cell_at s n ws fs sound r low p from to).1 in
        let filled : s.is_zero (table s ws fs r (get_or ws p 0)) ≡ false = ⊎_elim
        (λ (z : s.is_zero (table s ws fs r (get_or ws p 0)) ≡ true). absurd (cell_filled p from to (sym (cell_figure p from to) ∙ (s.tests_zero _).0 z)))
        (λ (z : s.is_zero (table s ws fs r (get_or ws p 0)) ≡ false). z)
        (cases_Bool (s.is_zero (table s ws fs r (get_or ws p 0)))) in
        and_from _ _ (not_from_false _ (ne_eqb (get_or ws p 0) r off)) (not_from_false _ filled)

    -- and a column that does not stand there is not stored
    pub none_stored : (c : ℕ) → ((q : ℕ) → get_or ws r 0 ≤ q → q < get_or ws (r + 1) 0 → get_or ws q 0 ≡ c → ⊥) → stored s r (table s ws fs r) c ≡ false
    none_stored c none =
        let up = sound_rises s n ws fs sound r (r + 1) (omega arith) (omega arith) in
        ⊎_elim
        (λ (e : c ≡ r). and_left _ _ (not_from_true _ (eq-eqb c r e)))
        (λ (ne : c ≡ r → ⊥). and_right _ _ (not_from_true _ ((s.tests_zero _).1 (table_off s ws fs r c ne ∙ not_found s ws fs c (get_or ws r 0) (get_or ws (r + 1) 0 - get_or ws r 0) (λ q from to. none q from (omega arith))))))
        (cases_eq c r)

    -- how far the columns of row r are known: those below k are the first m that stand in the row
    record Known (k m : ℕ) : Type 0 where
      within : get_or ws r 0 + m ≤ get_or ws (r + 1) 0
      so_far : columns_below s r (table s ws fs r) k ≡ take m (drop (get_or ws r 0) ws)
      before : (q : ℕ) → get_or ws r 0 ≤ q → q < get_or ws r 0 + m → get_or ws q 0 < k
      after : (q : ℕ) → get_or ws r 0 + m ≤ q → q < get_or ws (r + 1) 0 → k ≤ get_or ws q 0

    known_none : Known 0 0
    known_none = record {
      within = let up = sound_rises s n ws fs sound r (r + 1) (omega arith) (omega arith) in omega arith;
      so_far = refl;
      before = λ q from to. absurd (omega arith);
      after = λ q from to. omega arith;
    }

    -- column k does not stand in the row
    known_skip : (k m : ℕ) → Known k m → ((q : ℕ) → get_or ws r 0 + m ≤ q → q < get_or ws (r + 1) 0 → k < get_or ws q 0) → Known (k + 1) m
    known_skip k m w past = record {
      within = w.within;
      so_far = columns_no s r (table s ws fs r) k (none_stored k (λ q from to e. ⊎_elim
          (λ (h : q < get_or ws r 0 + m). let b = w.before q from h in omega arith)
          (λ (h : get_or ws r 0 + m ≤ q). let b = past q h to in omega arith)
          (cases_lt q (get_or ws r 0 + m)))) ∙ w.so_far;
      before = λ q from to. let b = w.before q from to in omega arith;
      after = λ q from to. let b = past q from to in omega arith;
    }

    -- column k stands in the row, at the next position
    known_take : (k m : ℕ) → Known k m → get_or ws r 0 + m < get_or ws (r + 1) 0 → get_or ws (get_or ws r 0 + m) 0 ≡ k → Known (k + 1) (m + 1)
    known_take k m w short is =
        let end = row_within s n ws fs sound (r + 1) (omega arith) in
        let long : m < length (drop (get_or ws r 0) ws) = simp length-drop (omega arith) in
        let here : get_or (drop (get_or ws r 0) ws) m 0 ≡ k = get_or-drop (get_or ws r 0) ws m 0 ∙ is in
        let yes' : stored s r (table s ws fs r) k ≡ true = subst (λ c. stored s r (table s ws fs r) c ≡ true) is (cell_stored (get_or ws r 0 + m) (omega arith) short) in
        record {
          within = omega arith;
          so_far = columns_yes s r (table s ws fs r) k yes' ∙ (ap₂ (λ l c. l ++ c ∷ []) w.so_far (sym here) ∙ sym (take_more (drop (get_or ws r 0) ws) m 0 long));
          before = λ q from to. ⊎_elim
              (λ (h : q < get_or ws r 0 + m). let b = w.before q from h in omega arith)
              (λ (h : get_or ws r 0 + m ≤ q). let e : get_or ws r 0 + m ≡ q = omega arith in let at_q : get_or ws q 0 ≡ k = subst (λ j. get_or ws j 0 ≡ k) e is in omega arith)
              (cases_lt q (get_or ws r 0 + m));
          after = λ q from to. let up = columns_rise s n ws fs sound r low (get_or ws r 0 + m) q (omega arith) (omega arith) to in omega arith;
        }

    known_more : (k m : ℕ) → Known k m → (m' : ℕ) × Known (k + 1) m'
    known_more k m w = ⊎_elim
        (λ (short : get_or ws r 0 + m < get_or ws (r + 1) 0). ⊎_elim
        (λ (is : get_or ws (get_or ws r 0 + m) 0 ≡ k). (m + 1, known_take k m w short is))
        (λ (ne : get_or ws (get_or ws r 0 + m) 0 ≡ k → ⊥).
        let least = w.after (get_or ws r 0 + m) (omega arith) short in
        let more : k < get_or ws (get_or ws r 0 + m) 0 = omega (arith, ne) in (
          m,
          known_skip k m w (λ q from to. ⊎_elim
              (λ (h : get_or ws r 0 + m < q). let up = columns_rise s n ws fs sound r low (get_or ws r 0 + m) q (omega arith) h to in omega arith)
              (λ (h : q ≤ get_or ws r 0 + m). let e : get_or ws r 0 + m ≡ q = omega arith in subst (λ j. k < get_or ws j 0) e more)
              (cases_lt (get_or ws r 0 + m) q)),
        ))
        (cases_eq (get_or ws (get_or ws r 0 + m) 0) k))
        (λ (done : get_or ws (r + 1) 0 ≤ get_or ws r 0 + m). (m, known_skip k m w (λ q from to. absurd (omega arith))))
        (cases_lt (get_or ws r 0 + m) (get_or ws (r + 1) 0))

    known : (k : ℕ) → (m : ℕ) × Known k m
    known zero = (0, known_none)
    known (suc k) = let w = known k in let more = known_more k w.0 w.1 in (more.0, rw add-one at more.1)

    -- what stands in row r of the sheet are the columns that its table's row stores
    pub row_is : row_columns s n (table s ws fs) r ≡ take (get_or ws (r + 1) 0 - get_or ws r 0) (drop (get_or ws r 0) ws)
    row_is =
        let all = known n in
        let m = all.0 in
        let w : Known n m = all.1 in
        let within = w.within in
        ⊎_elim
        (λ (short : get_or ws r 0 + m < get_or ws (r + 1) 0).
        let above = w.after (get_or ws r 0 + m) (omega arith) short in
        let below = (cell_at s n ws fs sound r low (get_or ws r 0 + m) (omega arith) short).0 in
        absurd (omega arith))
        (λ (done : get_or ws (r + 1) 0 ≤ get_or ws r 0 + m).
        let e : m ≡ get_or ws (r + 1) 0 - get_or ws r 0 = omega arith in
        w.so_far ∙ ap (λ j. take j (drop (get_or ws r 0) ws)) e)
        (cases_lt (get_or ws r 0 + m) (get_or ws (r + 1) 0))

    pub row_long : length (row_columns s n (table s ws fs) r) ≡ get_or ws (r + 1) 0 - get_or ws r 0
    row_long =
        let end = row_within s n ws fs sound (r + 1) (omega arith) in
        ap length row_is ∙ length-take-le (get_or ws (r + 1) 0 - get_or ws r 0) (drop (get_or ws r 0) ws) (simp length-drop (omega arith))

    pub row_column : (q : ℕ) → q < get_or ws (r + 1) 0 - get_or ws r 0 → get_or (row_columns s n (table s ws fs) r) q 0 ≡ get_or ws (get_or ws r 0 + q) 0
    row_column q short =
        ap (λ l. get_or l q 0) row_is
        ∙ part_at ws (get_or ws r 0) (get_or ws (r + 1) 0) q 0 short

  -- the starts of the rows are those of the table
  pub start_is : (r : ℕ) → r ≤ n → row_start s n (table s ws fs) r ≡ get_or ws r 0
  start_is zero low = let room = sound.room in sym (((sound.rules 0 (omega arith)).head (omega arith)).first refl)
  start_is (suc r) low =
      let e : r + 1 ≡ suc r = add-one r in
      let up : get_or ws r 0 ≤ get_or ws (suc r) 0 = sound_rises s n ws fs sound r (suc r) (omega arith) low in
      let before = start_is r (omega arith) in
      let long : length (row_columns s n (table s ws fs) r) ≡ get_or ws (suc r) 0 - get_or ws r 0 = rw e at (row_long r (omega arith)) in
      omega arith

  pub length_is : packed_length s n (table s ws fs) ≡ length ws
  length_is = start_is n (omega arith) ∙ ((sound.rules n sound.room).head (omega arith)).last refl

  -- the word and the figure q places past the start of row r
  module _ (r q : ℕ) (low : r < n) (short : q < length (row_columns s n (table s ws fs) r)) where
    word_in_row : get_or ws (row_start s n (table s ws fs) r + q) 0 ≡ get_or (packed_index s n (table s ws fs)) (row_start s n (table s ws fs) r + q) 0
    word_in_row =
        ap (λ k. get_or ws (k + q) 0) (start_is r (omega arith))
        ∙ sym (column_of s n (table s ws fs) r q low short ∙ row_column r low q (omega (arith, row_long r low)))

    figure_in_row : get_or fs (row_start s n (table s ws fs) r + q) s.zero ≡ get_or (packed_figures s n (table s ws fs)) (row_start s n (table s ws fs) r + q) s.zero
    figure_in_row =
        let within : q < get_or ws (r + 1) 0 - get_or ws r 0 = omega (arith, row_long r low) in
        ap (λ k. get_or fs (k + q) s.zero) (start_is r (omega arith))
        ∙ sym (figure_of s n (table s ws fs) r q low short ∙ (ap (table s ws fs r) (row_column r low q within) ∙ cell_figure r low (get_or ws r 0 + q) (omega arith) (omega arith)))

  -- word by word: the head holds the starts, and a position past it lies in a row, so many places from its start
  pub index_is : ws ≡ packed_index s n (table s ws fs)
  index_is = ext_get_or 0 _ _ (sym (index_long s n (table s ws fs) ∙ length_is)) (λ p within. ⊎_elim
      (λ (past : n < p).
      let found = row_of s n (table s ws fs) p n past (omega (arith, length_is)) in
      subst (λ j. get_or ws j 0 ≡ get_or (packed_index s n (table s ws fs)) j 0) found.is (word_in_row found.row found.place found.row_below found.short))
      (λ (head : p ≤ n). sym (start_at s n (table s ws fs) p head ∙ start_is p head))
      (cases_lt n p))

  -- figure by figure: the diagonal, the spare zero, and the stored cells
  pub figures_is : length fs ≡ length ws → fs ≡ packed_figures s n (table s ws fs)
  figures_is even = ext_get_or s.zero _ _ (even ∙ sym (figures_long_too s n (table s ws fs) ∙ length_is)) (λ p within. ⊎_elim
      (λ (past : n < p).
      let found = row_of s n (table s ws fs) p n past (omega (arith, length_is)) in
      subst (λ j. get_or fs j s.zero ≡ get_or (packed_figures s n (table s ws fs)) j s.zero) found.is (figure_in_row found.row found.place found.row_below found.short))
      (λ (head : p ≤ n). ⊎_elim
      (λ (diagonal : p < n). sym (diagonal_at s n (table s ws fs) p diagonal ∙ table_here s ws fs p))
      (λ (end : n ≤ p).
      let e : p ≡ n = omega arith in
      ((sound.rules p (omega arith)).head head).spare e ∙ sym ((((packed_sound s n (table s ws fs)).rules p (omega (arith, index_long s n (table s ws fs), length_is))).head head).spare e))
      (cases_lt p n))
      (cases_lt n p))

module _ {F : Type 0} (s : Semiring F) where
  pub packed_form_exists_lem : PackedFormExists s
  packed_form_exists_lem n t = (packed_sound s n t, figures_long_too s n t ∙ sym (index_long s n t), table_packed s n t)

  pub packed_form_is_unique_lem : PackedFormIsUnique s
  packed_form_is_unique_lem n t ws fs packs =
      let sound = packs.0 in
      let same = packs.2 in
      (index_is s n ws fs sound ∙ packed_index_same s n (table s ws fs) t same, figures_is s n ws fs sound packs.1 ∙ packed_figures_same s n (table s ws fs) t same)

  -- a sheet is the packed form of one table
  pub one_table : (n : ℕ) (ws : List ℕ) (fs : List F) (t : Table F) → ws ≡ packed_index s n t → fs ≡ packed_figures s n t → Same n t (table s ws fs)
  one_table n ws fs t e f i j low low' = sym (ap₂ (λ w g. table s w g i j) e f ∙ table_packed s n t i j low low')

  pub sound_sheet_is_packed_lem : SoundSheetIsPacked s
  sound_sheet_is_packed_lem n ws fs sound even = (index_is s n ws fs sound, figures_is s n ws fs sound even, one_table n ws fs)
