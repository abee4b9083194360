-- A sheet that is written cell by cell, in the order of rows and columns.
use Rattle.std.proofs.Common.{◌≡◌, ℕ, zero, suc, ◌+◌, ◌<◌, ◌≤◌, Bool, true, false, cond, not, ltb, ◌⊎◌, List, [], ◌∷◌, ◌++◌, map, length, set, sym, refl, ap, ◌∙◌, subst, ap₂, ⊎_elim, append_assoc, add-one, arith}
use Rattle.std.specs.List.{range_with_len}
use Rattle.std.proofs.lemmas.List.{append-nil, length-append, length-map, length_push, map-append, map_push}
use Rattle.std.proofs.lemmas.List.FromFn.{length-map-range_with_len, map-range_with_len_more}
use Rattle.std.proofs.lemmas.Bool.{iff_false, false≢true, cases_lt, cases_eq, cases_Bool, lt-ltb, le-ltb, eq-eqb, ne_eqb, and_parts, cond_below, cond_above}
use Rattle.arithmetic.specs.Semiring.{Semiring, Figures, meanings}
use Rattle.matrix.specs.Tables.{Table}
use Rattle.matrix.proofs.Meant.{length-meanings}
use Rattle.sheet.specs.Packed.{joined_over, stored, columns_below, row_columns, row_start, packed_length}
use Rattle.sheet.specs.Writing.{overlaid, Written, RowStarted, EntryWritten}
use Rattle.sheet.proofs.Columns.{zero_not_stored, columns_yes, columns_no, columns_room, columns_grow, starts_grow}
use Rattle.sheet.proofs.Packs.{row_start_is, figures_long}
use Rattle.sheet.proofs.Halves.{half, half_none, half_mark, half_again, half_push, half_all}

ltb_apart : (r c : ℕ) → (c ≡ r → ⊥) → ltb r c ≡ ltb r (c + 1)
ltb_apart r c ne = ⊎_elim
    (λ (h : r < c). lt-ltb r c h ∙ sym (lt-ltb r (c + 1) (omega arith)))
    (λ (h : c ≤ r). le-ltb r c h ∙ sym (le-ltb r (c + 1) (omega (arith, ne))))
    (cases_lt r c)

module _ {F : Type 0} (s : Semiring F) (n : ℕ) (t : Table F) where
  -- the columns of the stored cells before (r, c), and their figures
  abbrev pub before : ℕ → ℕ → List ℕ
  before r c = joined_over (row_columns s n t) r ++ columns_below s r (t r) c

  abbrev pub values : ℕ → ℕ → List F
  values r c = joined_over (λ i. map (t i) (row_columns s n t i)) r ++ map (t r) (columns_below s r (t r) c)

  -- where the cell (r, c) goes if it is stored, counted from the start of the sheet
  abbrev pub spot : ℕ → ℕ → ℕ
  spot r c = row_start s n t r + length (columns_below s r (t r) c)

  pub before_long : (r c : ℕ) → (n + 1) + length (before r c) ≡ spot r c
  before_long r c = simp length-append (omega (arith, row_start_is s n t r))

  pub values_long : (r c : ℕ) → length (values r c) ≡ length (before r c)
  values_long r c = simp (length-append, length-map) (omega (arith, figures_long s n t r))

  -- the cells of a row end where the next row starts
  pub spot_row : (r : ℕ) → spot (suc r) 0 ≡ spot r n
  spot_row r = omega arith

  -- past a cell, the place is one further if the cell is stored
  pub spot_more : (r c : ℕ) (b : Bool) → stored s r (t r) c ≡ b → spot r c + cond b 1 0 ≡ spot r (c + 1)
  spot_more r c true e = rw (columns_yes s r (t r) c e) (simp length_push (omega arith))
  spot_more r c false e = rw (columns_no s r (t r) c e) (omega arith)

  pub spot_within : (r c : ℕ) → r < n → c ≤ n → spot r c ≤ packed_length s n t
  spot_within r c low le =
      let up = starts_grow s n t (suc r) n (omega arith) in
      let grow = columns_grow s r (t r) c n le in
      omega arith

  pub spot_stored : (r c : ℕ) → r < n → c < n → stored s r (t r) c ≡ true → spot r c < packed_length s n t
  spot_stored r c low low' kept =
      let up = starts_grow s n t (suc r) n (omega arith) in
      let grow = columns_room s r (t r) c n low' kept in
      omega arith

module _ {S : Type 0} (a : Figures S) (n : ℕ) (t : Table a.F) (ws : List ℕ) (fs : List S) where
  -- the cells before (r, c) are written: rows before r with their starts and diagonals, the start of row r, its diagonal
  -- if that comes before c, and the cells of row r before c
  pub record Laying (r c : ℕ) (ws' : List ℕ) (fs' : List S) (at : ℕ) : Type 0 where
    pub at_is : at ≡ spot a.ring n t r c
    pub words_are : ws' ≡ half ws n (map (row_start a.ring n t) (range_with_len 0 (suc r))) (before a.ring n t r c)
    pub diagonal : List S
    pub corner : S
    pub cells : List S
    pub diagonal_means : meanings a diagonal ≡ map (λ i. t i i) (range_with_len 0 r)
    pub corner_means : a.meaning corner ≡ cond (ltb r c) (t r r) a.ring.zero
    pub cells_mean : meanings a cells ≡ values a.ring n t r c
    pub figures_are : fs' ≡ half fs n (diagonal ++ corner ∷ []) cells

module _ {S : Type 0} (a : Figures S) (n : ℕ) (t : Table a.F) (ws : List ℕ) (fs : List S) (room : packed_length a.ring n t ≤ length ws) (even : length fs ≡ length ws) where
  pub head_room : n + 1 ≤ length ws
  head_room = let up = starts_grow a.ring n t 0 n (omega arith) in omega arith

  pub laying_start : (ws' : List ℕ) (fs' : List S) → RowStarted a 0 (n + 1) ws fs ws' fs' → Laying a n t ws fs 0 0 ws' fs' (n + 1)
  laying_start ws' fs' w =
      let fits = head_room in
      record {
        at_is = omega arith;
        words_are = w.index ∙ ap (λ d. set d 0 (n + 1)) (sym (half_none ws n fits)) ∙ half_mark ws n [] [] (n + 1) (omega arith) (omega arith);
        diagonal = [];
        corner = w.corner;
        cells = [];
        diagonal_means = refl;
        corner_means = w.corner_means;
        cells_mean = refl;
        figures_are = w.figures ∙ ap (λ d. set d 0 w.corner) (sym (half_none fs n (omega arith))) ∙ half_mark fs n [] [] w.corner (omega arith) (omega arith);
      }

  module _ (r c : ℕ) (low : r < n) (ws' : List ℕ) (fs' : List S) (at : ℕ) (l : Laying a n t ws fs r c ws' fs' at) where
    diagonal_long : length l.diagonal ≡ r
    diagonal_long = sym (length-meanings a l.diagonal) ∙ (ap length l.diagonal_means ∙ length-map-range_with_len (λ i. t i i) 0 r)

    cells_long : length l.cells ≡ length (before a.ring n t r c)
    cells_long = sym (length-meanings a l.cells) ∙ (ap length l.cells_mean ∙ values_long a.ring n t r c)

    -- a stored cell is written where the cells so far end
    pub laying_cell : c < n → stored a.ring r (t r) c ≡ true → (y : S) → a.meaning y ≡ t r c → (ws'' : List ℕ) (fs'' : List S) (at' : ℕ) → ws'' ≡ set ws' at c → fs'' ≡ set fs' at y → at' ≡ at + 1 → Laying a n t ws fs r (c + 1) ws'' fs'' at'
    laying_cell low' kept y y_is ws'' fs'' at' we fe ae =
        let s = a.ring in
        let cols = columns_below s r (t r) c in
        let next = columns_yes s r (t r) c kept in
        let more = spot_stored s n t r c low low' kept in
        let long = before_long s n t r c in
        let here : at ≡ (n + 1) + length (before s n t r c) = omega (arith, l.at_is) in
        let here' : at ≡ (n + 1) + length l.cells = omega (arith, l.at_is, cells_long) in
        let short : length (map (row_start s n t) (range_with_len 0 (suc r))) ≤ n + 1 = rw (length-map-range_with_len (row_start s n t) 0 (suc r)) (omega arith) in
        let short' : length (l.diagonal ++ l.corner ∷ []) ≤ n + 1 = rw (length_push l.diagonal l.corner) (omega (arith, diagonal_long)) in
        let apart : c ≡ r → ⊥ = λ e. false≢true (sym (ap not (eq-eqb c r e)) ∙ (and_parts _ _ kept).0) in
        record {
          at_is = rw next (simp length_push (omega (arith, l.at_is)));
          words_are = rw next (we ∙ (ap₂ (λ d i. set d i c) l.words_are here ∙ (half_push ws n (map (row_start s n t) (range_with_len 0 (suc r))) (before s n t r c) c short (omega arith) ∙ ap (half ws n (map (row_start s n t) (range_with_len 0 (suc r)))) (append_assoc (joined_over (row_columns s n t) r) cols (c ∷ [])))));
          diagonal = l.diagonal;
          corner = l.corner;
          cells = l.cells ++ y ∷ [];
          diagonal_means = l.diagonal_means;
          corner_means = l.corner_means ∙ ap (λ b. cond b (t r r) s.zero) (ltb_apart r c apart);
          cells_mean = rw next (map_push a.meaning l.cells y ∙ (ap₂ (λ xs x. xs ++ x ∷ []) l.cells_mean y_is ∙ (append_assoc (joined_over (λ i. map (t i) (row_columns s n t i)) r) (map (t r) cols) (t r c ∷ []) ∙ ap (λ z. joined_over (λ i. map (t i) (row_columns s n t i)) r ++ z) (sym (map_push (t r) cols c)))));
          figures_are = fe ∙ (ap₂ (λ d i. set d i y) l.figures_are here' ∙ half_push fs n (l.diagonal ++ l.corner ∷ []) l.cells y short' (omega (arith, cells_long)));
        }

    -- a cell that is zero, or on the diagonal and zero, is passed over
    pub laying_pass : t r c ≡ a.ring.zero → Laying a n t ws fs r (c + 1) ws' fs' at
    laying_pass nothing =
        let s = a.ring in
        let none : stored s r (t r) c ≡ false = zero_not_stored s r (t r) c nothing in
        let next = columns_no s r (t r) c none in
        record {
          at_is = rw next l.at_is;
          words_are = rw next l.words_are;
          diagonal = l.diagonal;
          corner = l.corner;
          cells = l.cells;
          diagonal_means = l.diagonal_means;
          corner_means = l.corner_means ∙ corner_same (cases_eq c r);
          cells_mean = rw next l.cells_mean;
          figures_are = l.figures_are;
        }
      where
        corner_same : (c ≡ r) ⊎ (c ≡ r → ⊥) → cond (ltb r c) (t r r) a.ring.zero ≡ cond (ltb r (c + 1)) (t r r) a.ring.zero
        corner_same = ⊎_elim
            (λ (e : c ≡ r). let here : t r r ≡ a.ring.zero = rw e at nothing in rw (le-ltb r c (omega arith), lt-ltb r (c + 1) (omega arith)) (sym here))
            (λ (ne : c ≡ r → ⊥). ap (λ b. cond b (t r r) a.ring.zero) (ltb_apart r c ne))

    -- the diagonal is written in its place
    pub laying_corner : c ≡ r → (y : S) → a.meaning y ≡ t r c → (fs'' : List S) → fs'' ≡ set fs' (r) y → Laying a n t ws fs r (c + 1) ws' fs'' at
    laying_corner e y y_is fs'' fe =
        let s = a.ring in
        let none : stored s r (t r) c ≡ false = rw (eq-eqb c r e) refl in
        let next = columns_no s r (t r) c none in
        let there : r ≡ length l.diagonal = omega (arith, diagonal_long) in
        let long = before_long s n t r c in
        let fits = spot_within s n t r c low (omega arith) in
        record {
          at_is = rw next l.at_is;
          words_are = rw next l.words_are;
          diagonal = l.diagonal;
          corner = y;
          cells = l.cells;
          diagonal_means = l.diagonal_means;
          corner_means = y_is ∙ (ap (t r) e ∙ cond_below r (c + 1) (t r r) s.zero (omega arith));
          cells_mean = rw next l.cells_mean;
          figures_are = fe ∙ (ap₂ (λ d i. set d i y) l.figures_are there ∙ half_again fs n l.diagonal l.cells l.corner y (omega (arith, diagonal_long)) (omega (arith, cells_long)));
        }

    -- the figure of cell (r, c) is written in whichever way it is to be
    pub laying_entry : c < n → (f : S) → a.meaning f ≡ t r c → (ws'' : List ℕ) (fs'' : List S) (at' : ℕ) → EntryWritten a r c f at ws' fs' ws'' fs'' at' → Laying a n t ws fs r (c + 1) ws'' fs'' at'
    laying_entry low' f is ws'' fs'' at' w = ⊎_elim
        (λ (e : c ≡ r). let p = w.corner e in moved p.0 p.2 (laying_corner e f is fs'' p.1))
        (λ (off : c ≡ r → ⊥). ⊎_elim
        (λ (z : a.ring.is_zero (a.meaning f) ≡ true).
        let none = (a.ring.tests_zero (a.meaning f)).0 z in
        let p = w.nothing off none in
        settled p.0 p.1 p.2 (laying_pass (sym is ∙ none)))
        (λ (z : a.ring.is_zero (a.meaning f) ≡ false).
        let p = w.cell off (iff_false (a.ring.tests_zero (a.meaning f)) z) in
        laying_cell low' (rw (ne_eqb c r off, sym is, z) refl) f is ws'' fs'' at' p.0 p.1 p.2)
        (cases_Bool (a.ring.is_zero (a.meaning f))))
        (cases_eq c r)
      where
        settled : ws'' ≡ ws' → fs'' ≡ fs' → at' ≡ at → Laying a n t ws fs r (c + 1) ws' fs' at → Laying a n t ws fs r (c + 1) ws'' fs'' at'
        settled we fe ae h = rw (we, fe, ae) h

        moved : ws'' ≡ ws' → at' ≡ at → Laying a n t ws fs r (c + 1) ws' fs'' at → Laying a n t ws fs r (c + 1) ws'' fs'' at'
        moved we ae h = rw (we, ae) h

    -- where it goes if it is stored, there is room
    pub laying_room : c < n → (f : S) → a.meaning f ≡ t r c → (c ≡ r → ⊥) → (a.meaning f ≡ a.ring.zero → ⊥) → at < length ws
    laying_room low' f is off some = ⊎_elim
        (λ (z : a.ring.is_zero (t r c) ≡ true). absurd (some (is ∙ (a.ring.tests_zero (t r c)).0 z)))
        (λ (z : a.ring.is_zero (t r c) ≡ false).
        let more = spot_stored a.ring n t r c low low' (rw (ne_eqb c r off, z) refl) in
        let here = l.at_is in
        omega arith)
        (cases_Bool (a.ring.is_zero (t r c)))

    -- the row is done: the next one starts where its cells ended
    pub laying_row : c ≡ n → (ws'' : List ℕ) (fs'' : List S) → RowStarted a (r + 1) at ws' fs' ws'' fs'' → Laying a n t ws fs (r + 1) 0 ws'' fs'' at
    laying_row done ws'' fs'' w =
        let s = a.ring in
        let all : before s n t (suc r) 0 ≡ before s n t r c = append-nil _ ∙ ap (λ k. before s n t r k) (sym done) in
        let all' : values s n t (suc r) 0 ≡ values s n t r c = append-nil _ ∙ ap (λ k. values s n t r k) (sym done) in
        let at_row : spot s n t (suc r) 0 ≡ spot s n t r c = spot_row s n t r ∙ ap (spot s n t r) (sym done) in
        let start : at ≡ row_start s n t (suc r) = omega (arith, l.at_is) in
        let long = before_long s n t r c in
        let fits = spot_within s n t r c low (omega arith) in
        let marks : length (map (row_start s n t) (range_with_len 0 (suc r))) ≡ suc r = length-map-range_with_len (row_start s n t) 0 (suc r) in
        let there : r + 1 ≡ length (map (row_start s n t) (range_with_len 0 (suc r))) = omega arith in
        let wide : length (l.diagonal ++ l.corner ∷ []) ≡ suc r = length_push l.diagonal l.corner ∙ omega (arith, diagonal_long) in
        let there' : r + 1 ≡ length (l.diagonal ++ l.corner ∷ []) = omega arith in
        rw (add-one r) (record {
          at_is = l.at_is ∙ sym at_row;
          words_are = w.index ∙ (ap₂ (λ d i. set d i at) l.words_are there ∙ (half_mark ws n (map (row_start s n t) (range_with_len 0 (suc r))) (before s n t r c) at (omega arith) (omega arith) ∙ ap₂ (half ws n) (ap (λ z. map (row_start s n t) (range_with_len 0 (suc r)) ++ z ∷ []) start ∙ more_starts) (sym all)));
          diagonal = l.diagonal ++ l.corner ∷ [];
          corner = w.corner;
          cells = l.cells;
          diagonal_means = map_push a.meaning l.diagonal l.corner ∙ (ap₂ (λ xs x. xs ++ x ∷ []) l.diagonal_means (l.corner_means ∙ sym (cond_below r c (t r r) s.zero (omega arith))) ∙ more_diagonal);
          corner_means = w.corner_means ∙ cond_above (suc r) 0 (t (suc r) (suc r)) s.zero s.zero (omega arith) refl;
          cells_mean = l.cells_mean ∙ sym all';
          figures_are = w.figures ∙ (ap₂ (λ d i. set d i w.corner) l.figures_are there' ∙ half_mark fs n (l.diagonal ++ l.corner ∷ []) l.cells w.corner (omega arith) (omega (arith, cells_long)));
        })
      where
        more_starts : map (row_start a.ring n t) (range_with_len 0 (suc r)) ++ row_start a.ring n t (suc r) ∷ [] ≡ map (row_start a.ring n t) (range_with_len 0 (suc (suc r)))
        more_starts = sym (map-range_with_len_more (row_start a.ring n t) 0 (suc r) (suc r) (omega arith)) ∙ ap (λ k. map (row_start a.ring n t) (range_with_len 0 k)) (add-one (suc r))

        more_diagonal : map (λ i. t i i) (range_with_len 0 r) ++ t r r ∷ [] ≡ map (λ i. t i i) (range_with_len 0 (suc r))
        more_diagonal = sym (map-range_with_len_more (λ i. t i i) 0 r r (omega arith)) ∙ ap (λ k. map (λ i. t i i) (range_with_len 0 k)) (add-one r)

  -- columns from c up to m are zero: they are passed over
  pub laying_skip : (r c m : ℕ) → r < n → c ≤ m → (ws' : List ℕ) (fs' : List S) (at : ℕ) → ((j : ℕ) → c ≤ j → j < m → t r j ≡ a.ring.zero) → Laying a n t ws fs r c ws' fs' at → Laying a n t ws fs r m ws' fs' at
  laying_skip r c zero low le ws' fs' at gap l = let e : c ≡ 0 = omega arith in subst (λ k. Laying a n t ws fs r k ws' fs' at) e l
  laying_skip r c (suc m) low le ws' fs' at gap l = ⊎_elim
      (λ (h : c < suc m). subst (λ k. Laying a n t ws fs r k ws' fs' at) (add-one m) (laying_pass r m low ws' fs' at (laying_skip r c m low (omega arith) ws' fs' at (λ j from to. gap j from (omega arith)) l) (gap m (omega arith) (omega arith))))
      (λ (h : suc m ≤ c). let e : c ≡ suc m = omega arith in subst (λ k. Laying a n t ws fs r k ws' fs' at) e l)
      (cases_lt c (suc m))

  -- all rows are done
  pub laying_all : (r : ℕ) → r ≡ n → (ws' : List ℕ) (fs' : List S) (at : ℕ) → Laying a n t ws fs r 0 ws' fs' at → Written a n t ws fs ws' fs' × (at ≡ packed_length a.ring n t)
  laying_all r done ws' fs' at l₀ =
      let s = a.ring in
      let l : Laying a n t ws fs n 0 ws' fs' at = subst (λ k. Laying a n t ws fs k 0 ws' fs' at) done l₀ in
      let starts = map (row_start s n t) (range_with_len 0 (suc n)) in
      let diagonals : length l.diagonal ≡ n = sym (length-meanings a l.diagonal) ∙ (ap length l.diagonal_means ∙ length-map-range_with_len (λ i. t i i) 0 n) in
      let wide : length (l.diagonal ++ l.corner ∷ []) ≡ n + 1 = length_push l.diagonal l.corner ∙ omega arith in
      let cells : length l.cells ≡ length (before s n t n 0) = sym (length-meanings a l.cells) ∙ (ap length l.cells_mean ∙ values_long s n t n 0) in
      let long = before_long s n t n 0 in (
        record {
          index = l.words_are ∙ (half_all ws n starts (before s n t n 0) (length-map-range_with_len (row_start s n t) 0 (suc n) ∙ omega arith) (omega arith) ∙ ap₂ (λ x y. overlaid ws (x ++ y)) (ap (λ k. map (row_start s n t) (range_with_len 0 k)) (sym (add-one n))) (append-nil _));
          stored = (l.diagonal ++ l.corner ∷ []) ++ l.cells;
          means = map-append a.meaning (l.diagonal ++ l.corner ∷ []) l.cells ∙ (ap₂ ◌++◌ (map_push a.meaning l.diagonal l.corner ∙ ap₂ (λ xs x. xs ++ x ∷ []) l.diagonal_means (l.corner_means ∙ sym (cond_above n 0 (t n n) s.zero s.zero (omega arith) refl))) (l.cells_mean ∙ append-nil _) ∙ append_assoc (map (λ i. t i i) (range_with_len 0 n)) (s.zero ∷ []) _);
          figures = l.figures_are ∙ half_all fs n (l.diagonal ++ l.corner ∷ []) l.cells wide (omega arith);
        },
        omega (arith, l.at_is),
      )
