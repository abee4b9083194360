-- The head of a flipped sheet, written row by row.
use Rattle.std.proofs.Common.{◌≡◌, ℕ, ◌+◌, ◌<◌, ◌≤◌, List, length, get_or, set, sym, refl, ap, ◌∙◌, ap₂, ⊎_elim, add-one, arith}
use Rattle.std.proofs.lemmas.List.{get_or-set_same, get_or-set_other, length-set}
use Rattle.std.proofs.lemmas.Bool.{cases_eq}
use Rattle.arithmetic.specs.Semiring.{Figures, meanings}
use Rattle.matrix.proofs.Meant.{length-meanings, meanings_set}
use Rattle.sheet.specs.Packed.{row_columns, row_start}
use Rattle.sheet.specs.Writing.{RowStarted}
use Rattle.sheet.proofs.Found.{table_here}
use Rattle.sheet.proofs.Columns.{starts_grow}
use Rattle.transpose.specs.Flipping.{HeadLaid}
use Rattle.transpose.proofs.Flips.{flipped_table, Flip, long}

module _ {S : Type 0} (a : Figures S) (n : ℕ) (ws : List ℕ) (fs : List S) (d : List ℕ) (e : List S) where
  -- the rows before `row` have their start and their diagonal cell, and `next` has the starts of these rows and the sizes
  -- of the others
  pub record Heading (row : ℕ) (d' : List ℕ) (e' : List S) (next : List ℕ) (at : ℕ) : Type 0 where
    pub flip : Flip a n ws fs d e
    pub at_is : at ≡ row_start a.ring n (flipped_table a ws fs) row
    pub within : at ≤ length ws
    pub done : (c : ℕ) → c < row → get_or next c 0 ≡ row_start a.ring n (flipped_table a ws fs) c
    pub left : (c : ℕ) → row ≤ c → c < n → get_or next c 0 ≡ length (row_columns a.ring n (flipped_table a ws fs) c)
    pub starts : (r : ℕ) → r < row → get_or d' r 0 ≡ row_start a.ring n (flipped_table a ws fs) r
    pub diagonal : (r : ℕ) → r < row → get_or (meanings a e') r a.ring.zero ≡ flipped_table a ws fs r r
    pub words_long : length d' ≡ length d
    pub figures_long : length e' ≡ length e
    pub words_stay : (k : ℕ) → length ws ≤ k → get_or d' k 0 ≡ get_or d k 0
    pub figures_stay : (k : ℕ) (z : S) → length ws ≤ k → get_or e' k z ≡ get_or e k z

module _ {S : Type 0} {a : Figures S} {n : ℕ} {ws : List ℕ} {fs : List S} {d : List ℕ} {e : List S} where
  pub heading_none : Flip a n ws fs d e → (next : List ℕ) → ((c : ℕ) → c < n → get_or next c 0 ≡ length (row_columns a.ring n (flipped_table a ws fs) c)) → Heading a n ws fs d e 0 d e next (n + 1)
  heading_none flip next counts = record {
    flip = flip;
    at_is = refl;
    within = let room = flip.sound.room in omega arith;
    done = λ c h. absurd (omega arith);
    left = λ c from h. counts c h;
    starts = λ r h. absurd (omega arith);
    diagonal = λ r h. absurd (omega arith);
    words_long = refl;
    figures_long = refl;
    words_stay = λ k out. refl;
    figures_stay = λ k z out. refl;
  }

  module _ {row : ℕ} {d' : List ℕ} {e' : List S} {next : List ℕ} {at : ℕ} (h : Heading a n ws fs d e row d' e' next at) where
    pub heading_more : row < n → length next ≡ 1024 → (y : S) → a.meaning y ≡ get_or (meanings a fs) row a.ring.zero → Heading a n ws fs d e (row + 1) (set d' row at) (set e' row y) (set next row at) (at + get_or next row 0)
    heading_more low next_long y y_is =
        let t = flipped_table a ws fs in
        let flip = h.flip in
        let room = flip.room in
        let even = flip.even in
        let small = flip.small in
        let some = flip.sound.room in
        let words_long = h.words_long in
        let figures_long = h.figures_long in
        let end : at + get_or next row 0 ≡ row_start a.ring n t (row + 1) = rw add-one (ap₂ ◌+◌ h.at_is (h.left row (omega arith) low)) in
        let up = starts_grow a.ring n t (row + 1) n (omega arith) in
        let all = long flip in
        record {
          flip = flip;
          at_is = end;
          within = omega arith;
          done = λ c less. ⊎_elim
              (λ (e : c ≡ row). rw e (get_or-set_same next row at 0 (omega arith) ∙ h.at_is))
              (λ (ne : c ≡ row → ⊥). get_or-set_other next row c at 0 ne ∙ h.done c (omega (arith, ne)))
              (cases_eq c row);
          left = λ c from less. get_or-set_other next row c at 0 (λ e. omega arith) ∙ h.left c (omega arith) less;
          starts = λ r less. ⊎_elim
              (λ (e : r ≡ row). rw e (get_or-set_same d' row at 0 (omega arith) ∙ h.at_is))
              (λ (ne : r ≡ row → ⊥). get_or-set_other d' row r at 0 ne ∙ h.starts r (omega (arith, ne)))
              (cases_eq r row);
          diagonal = λ r less. ap (λ xs. get_or xs r a.ring.zero) (meanings_set a e' row y) ∙ ⊎_elim
              (λ (e : r ≡ row). rw e (get_or-set_same (meanings a e') row (a.meaning y) a.ring.zero (rw (length-meanings a e') (omega arith)) ∙ (y_is ∙ sym (table_here a.ring ws (meanings a fs) row))))
              (λ (ne : r ≡ row → ⊥). get_or-set_other (meanings a e') row r (a.meaning y) a.ring.zero ne ∙ h.diagonal r (omega (arith, ne)))
              (cases_eq r row);
          words_long = length-set d' row at ∙ h.words_long;
          figures_long = length-set e' row y ∙ h.figures_long;
          words_stay = λ k out. get_or-set_other d' row k at 0 (λ e. omega arith) ∙ h.words_stay k out;
          figures_stay = λ k z out. get_or-set_other e' row k y z (λ e. omega arith) ∙ h.figures_stay k z out;
        }

    -- the end of the last row and the spare zero
    pub heading_all : row ≡ n → (d'' : List ℕ) (e'' : List S) → RowStarted a n at d' e' d'' e'' → HeadLaid a n (flipped_table a ws fs) d e d'' e''
    heading_all done d'' e'' w =
        let t = flipped_table a ws fs in
        let flip = h.flip in
        let room = flip.room in
        let even = flip.even in
        let some = flip.sound.room in
        let words_long = h.words_long in
        let figures_long = h.figures_long in
        let all = long flip in
        let z = w.corner in
        rw (w.index, w.figures) (record {
          starts = λ r less. ⊎_elim
              (λ (e : r ≡ n). rw e (get_or-set_same d' n at 0 (omega arith) ∙ (h.at_is ∙ ap (row_start a.ring n t) done)))
              (λ (ne : r ≡ n → ⊥). get_or-set_other d' n r at 0 ne ∙ h.starts r (omega (arith, ne)))
              (cases_eq r n);
          diagonal = λ r less. ap (λ xs. get_or xs r a.ring.zero) (meanings_set a e' n z) ∙ (get_or-set_other (meanings a e') n r (a.meaning z) a.ring.zero (λ e. omega arith) ∙ h.diagonal r (omega arith));
          spare = ap (λ xs. get_or xs n a.ring.zero) (meanings_set a e' n z) ∙ (get_or-set_same (meanings a e') n (a.meaning z) a.ring.zero (rw (length-meanings a e') (omega arith)) ∙ w.corner_means);
          words_long = length-set d' n at ∙ h.words_long;
          figures_long = length-set e' n z ∙ h.figures_long;
          words_stay = λ k out. get_or-set_other d' n k at 0 (λ e. omega arith) ∙ h.words_stay k (omega arith);
          figures_stay = λ k x out. get_or-set_other e' n k z x (λ e. omega arith) ∙ h.figures_stay k x (omega arith);
        })
