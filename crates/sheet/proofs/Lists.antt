-- Lists of entries in order, and the tables that they stand for.
use Rattle.std.proofs.Common.{◌≡◌, ℕ, zero, suc, ◌+◌, ◌-◌, ◌*◌, ◌<◌, ◌≤◌, Bool, true, false, cond, not, ◌&&◌, eqb, ◌⊎◌, List, [], ◌∷◌, ◌++◌, length, get_or, sym, refl, ap, ◌∙◌, subst, inl, inr, ⊎_elim, add-one, arith}
use Rattle.std.proofs.lemmas.List.{length-append}
use Rattle.std.proofs.lemmas.Bool.{cases_lt, cases_eq, eq-eqb, ne_eqb}
use Rattle.arithmetic.specs.Semiring.{Semiring, Figures, meanings}
use Rattle.matrix.specs.Tables.{Table}
use Rattle.matrix.proofs.Sums.{add-zero}
use Rattle.matrix.proofs.Meant.{read_means}
use Rattle.sheet.specs.Packed.{stored, columns_below, row_start, packed_length}
use Rattle.sheet.specs.Loading.{entries, loaded, Placed}
use Rattle.sheet.proofs.Columns.{zero_not_stored, columns_no}
use Rattle.sheet.proofs.Laying.{spot, spot_row, spot_more}

-- cell (r, c) comes before cell (i, j)
abbrev pub Before : ℕ → ℕ → ℕ → ℕ → Type 0
Before r c i j = (r < i) ⊎ ((r ≡ i) × (c < j))

further : {a b c d e f : ℕ} → Before a b c d → Before c d e f → Before a b e f
further (inl x) (inl y) = inl (omega arith)
further (inl x) (inr y) = let z = y.0 in inl (omega arith)
further (inr x) (inl y) = let z = x.0 in inl (omega arith)
further (inr x) (inr y) = let z = x.1 in let w = y.1 in inr (x.0 ∙ y.0, omega arith)

module _ (n : ℕ) (rows columns : List ℕ) (placed : (k : ℕ) → k < length rows → Placed n rows columns k) where
  -- the entries come in the order of their cells
  pub ordered : (i j : ℕ) → i < j → j < length rows → Before (get_or rows i 0) (get_or columns i 0) (get_or rows j 0) (get_or columns j 0)
  ordered i zero less low = absurd (omega arith)
  ordered i (suc j) less low =
      let e : suc j - 1 ≡ j = omega arith in
      let step : Before (get_or rows j 0) (get_or columns j 0) (get_or rows (suc j) 0) (get_or columns (suc j) 0) = rw e at ((placed (suc j) low).after (omega arith)) in
      ⊎_elim
      (λ (h : i < j). further (ordered i j h (omega arith)) step)
      (λ (h : j ≤ i). let same : i ≡ j = omega arith in rw same step)
      (cases_lt i j)

-- x is r and y is c: the test for both says no where they are not both so
not_both : (x y r c : ℕ) → (x ≡ r → y ≡ c → ⊥) → (eqb x r && eqb y c) ≡ false
not_both x y r c none = ⊎_elim
    (λ (e : x ≡ r). rw (eq-eqb x r e, ne_eqb y c (none e)) refl)
    (λ (ne : x ≡ r → ⊥). rw (ne_eqb x r ne) refl)
    (cases_eq x r)

module _ {S : Type 0} (a : Figures S) where
  -- a cell that no entry names is zero
  pub loaded_none : (rs cs : List ℕ) (fs : List S) (r c : ℕ) → ((e : ℕ) → e < length rs → get_or rs e 0 ≡ r → get_or cs e 0 ≡ c → ⊥) → loaded a.ring (entries a rs cs fs) r c ≡ a.ring.zero
  loaded_none [] cs fs r c none = refl
  loaded_none (x ∷ rs) [] fs r c none = refl
  loaded_none (x ∷ rs) (y ∷ cs) [] r c none = refl
  loaded_none (x ∷ rs) (y ∷ cs) (f ∷ fs) r c none = rw (not_both x y r c (none 0 (omega arith))) (loaded_none rs cs fs r c (λ e low. none (suc e) (omega arith)))

  -- a cell that one entry names has its figure
  pub loaded_one : (rs cs : List ℕ) (fs : List S) (r c k : ℕ) (d : a.F) → length cs ≡ length rs → length fs ≡ length rs → k < length rs → get_or rs k 0 ≡ r → get_or cs k 0 ≡ c → ((e : ℕ) → e < length rs → get_or rs e 0 ≡ r → get_or cs e 0 ≡ c → e ≡ k) → loaded a.ring (entries a rs cs fs) r c ≡ get_or (meanings a fs) k d
  loaded_one [] cs fs r c k d lc lf low at-r at_c only = absurd (omega arith)
  loaded_one (x ∷ rs) [] fs r c k d lc lf low at-r at_c only = absurd (omega arith)
  loaded_one (x ∷ rs) (y ∷ cs) [] r c k d lc lf low at-r at_c only = absurd (omega arith)
  loaded_one (x ∷ rs) (y ∷ cs) (f ∷ fs) r c zero d lc lf low at-r at_c only =
      rw (eq-eqb x r at-r, eq-eqb y c at_c) (ap (a.ring.add (a.meaning f)) (loaded_none rs cs fs r c (λ e h hr hc. let z : suc e ≡ 0 = only (suc e) (omega arith) hr hc in absurd (omega arith))) ∙ add-zero a.ring (a.meaning f))
  loaded_one (x ∷ rs) (y ∷ cs) (f ∷ fs) r c (suc k) d lc lf low at-r at_c only =
      rw (not_both x y r c (λ e d. let z : 0 ≡ suc k = only 0 (omega arith) e d in omega arith)) (loaded_one rs cs fs r c k d (omega arith) (omega arith) (omega arith) at-r at_c (λ e h hr hc. let z : suc e ≡ suc k = only (suc e) (omega arith) hr hc in omega arith))

-- cell (r, c) is cell (i, j) or comes before it
abbrev pub AtLeast : ℕ → ℕ → ℕ → ℕ → Type 0
AtLeast r c i j = (r < i) ⊎ ((r ≡ i) × (c ≤ j))

module _ {F : Type 0} (s : Semiring F) (n : ℕ) (t : Table F) where
  -- columns from c up to m are zero: none of them is stored
  pub columns_quiet : (r c m : ℕ) → c ≤ m → ((j : ℕ) → c ≤ j → j < m → t r j ≡ s.zero) → columns_below s r (t r) c ≡ columns_below s r (t r) m
  columns_quiet r c zero le quiet = let e : c ≡ 0 = omega arith in ap (columns_below s r (t r)) e
  columns_quiet r c (suc m) le quiet = ⊎_elim
      (λ (h : c < suc m). columns_quiet r c m (omega arith) (λ j from to. quiet j from (omega arith)) ∙ (sym (columns_no s r (t r) m (zero_not_stored s r (t r) m (quiet m (omega arith) (omega arith)))) ∙ ap (columns_below s r (t r)) (add-one m)))
      (λ (h : suc m ≤ c). let e : c ≡ suc m = omega arith in ap (columns_below s r (t r)) e)
      (cases_lt c (suc m))

  -- cells that are zero take no place
  pub spot_quiet : (r c i j : ℕ) → AtLeast r c i j → c ≤ n → ((x y : ℕ) → AtLeast r c x y → Before x y i j → y < n → t x y ≡ s.zero) → j ≤ n → spot s n t r c ≡ spot s n t i j
  spot_quiet r c zero j (inl less) low quiet high = absurd (omega arith)
  spot_quiet r c (suc i) j (inl less) low quiet high =
      spot_quiet r c i n (⊎_elim (λ (h : r < i). inl h) (λ (h : i ≤ r). inr (omega arith, low)) (cases_lt r i)) low (λ x y from to in_row. quiet x y from (inl (row_of to)) in_row) (omega arith)
      ∙ (sym (spot_row s n t i) ∙ ap (λ l. row_start s n t (suc i) + length l) (columns_quiet (suc i) 0 j (omega arith) (λ y from to. quiet (suc i) y (inl less) (inr (refl, to)) (omega arith))))
    where
      row_of : {x y : ℕ} → Before x y i n → x < suc i
      row_of (inl h) = omega arith
      row_of (inr h) = let e = h.0 in omega arith
  spot_quiet r c i j (inr same) low quiet high =
      ap (λ k. spot s n t k c) same.0 ∙ ap (λ l. row_start s n t i + length l) (columns_quiet i c j same.1 (λ y from to. quiet i y (inr (same.0, from)) (inr (refl, to)) (omega arith)))

  -- a bound on where a cell can stand
  pub spot_small : (r c : ℕ) → n ≤ 1024 → spot s n t r c ≤ n + 1 + r * 1024 + c
  spot_small r c small = let a = starts_small r small in let b = columns_few r c in omega arith
    where
      columns_few : (r c : ℕ) → length (columns_below s r (t r) c) ≤ c
      columns_few r zero = omega arith
      columns_few r (suc c) = let before = columns_few r c in few_more (stored s r (t r) c) before
        where
          few_more : (b : Bool) → length (columns_below s r (t r) c) ≤ c → length (columns_below s r (t r) c ++ cond b (c ∷ []) []) ≤ suc c
          few_more true h = simp length-append (omega arith)
          few_more false h = simp length-append (omega arith)

      starts_small : (r : ℕ) → n ≤ 1024 → row_start s n t r ≤ n + 1 + r * 1024
      starts_small zero small = omega arith
      starts_small (suc r) small = let before = starts_small r small in let few = columns_few r n in omega arith

-- the first k entries come before cell (r, c), and the others do not
pub record Frontier (rows columns : List ℕ) (r c k : ℕ) : Type 0 where
  pub few : k ≤ length rows
  pub past : (e : ℕ) → e < k → Before (get_or rows e 0) (get_or columns e 0) r c
  pub ahead : (e : ℕ) → k ≤ e → e < length rows → AtLeast r c (get_or rows e 0) (get_or columns e 0)

abbrev pub listed : {S : Type 0} (a : Figures S) → List ℕ → List ℕ → List S → Table a.F
listed a rows columns figs = loaded a.ring (entries a rows columns figs)

module _ {S : Type 0} (a : Figures S) (n : ℕ) (rows columns : List ℕ) (figs : List S) (even : length columns ≡ length rows) (even' : length figs ≡ length rows) (placed : (k : ℕ) → k < length rows → Placed n rows columns k) where
  pub frontier_none : Frontier rows columns 0 0 0
  frontier_none = record { few = omega arith; past = λ e h. absurd (omega arith); ahead = λ e from to. start (get_or rows e 0) (get_or columns e 0) }
    where
      start : (i j : ℕ) → AtLeast 0 0 i j
      start zero j = inr (refl, omega arith)
      start (suc i) j = inl (omega arith)

  apart : {r c i j x y : ℕ} → Before x y r c → AtLeast r c i j → (x ≡ i) → (y ≡ j) → ⊥
  apart (inl h) (inl g) e d = omega arith
  apart (inl h) (inr g) e d = let q = g.0 in omega arith
  apart (inr h) (inl g) e d = let q = h.0 in omega arith
  apart (inr h) (inr g) e d = let p = h.1 in let q = g.1 in omega arith

  not_same : {i j x y : ℕ} → Before i j x y → x ≡ i → y ≡ j → ⊥
  not_same (inl h) e d = omega arith
  not_same (inr h) e d = let q = h.1 in omega arith

  -- a cell between the frontier and the next entry is zero
  pub gap : (r c k i j : ℕ) → Frontier rows columns r c k → AtLeast r c i j → ((e : ℕ) → k ≤ e → e < length rows → Before i j (get_or rows e 0) (get_or columns e 0)) → listed a rows columns figs i j ≡ a.ring.zero
  gap r c k i j f from to = loaded_none a rows columns figs i j (λ e low is_r is_c. ⊎_elim
      (λ (h : e < k). apart (f.past e h) from is_r is_c)
      (λ (h : k ≤ e). not_same (to e h low) is_r is_c)
      (cases_lt e k))

  module _ (k : ℕ) (low : k < length rows) where
    -- the cell of an entry has its figure
    pub cell_listed : (d : a.F) → listed a rows columns figs (get_or rows k 0) (get_or columns k 0) ≡ get_or (meanings a figs) k d
    cell_listed d = loaded_one a rows columns figs (get_or rows k 0) (get_or columns k 0) k d even even' low refl refl (λ e less is_r is_c. ⊎_elim
        (λ (h : e < k). absurd (not_same (ordered n rows columns placed e k h low) (sym is_r) (sym is_c)))
        (λ (h : k ≤ e). ⊎_elim
        (λ (g : k < e). absurd (not_same (ordered n rows columns placed k e g less) is_r is_c))
        (λ (g : e ≤ k). omega arith)
        (cases_lt k e))
        (cases_lt e k))

    -- past an entry, the frontier is the cell after it
    pub frontier_more : (r c : ℕ) → Frontier rows columns r c k → Frontier rows columns (get_or rows k 0) (get_or columns k 0 + 1) (k + 1)
    frontier_more r c f = record {
      few = omega arith;
      past = λ e h. ⊎_elim
          (λ (g : e < k). widen (ordered n rows columns placed e k g low))
          (λ (g : k ≤ e). let same : e ≡ k = omega arith in rw same (inr (refl, omega arith)))
          (cases_lt e k);
      ahead = λ e from to. narrow (ordered n rows columns placed k e (omega arith) to);
    }
      where
        widen : {x y i j : ℕ} → Before x y i j → Before x y i (j + 1)
        widen (inl h) = inl h
        widen (inr h) = let q = h.1 in inr (h.0, omega arith)

        narrow : {x y i j : ℕ} → Before x y i j → AtLeast x (y + 1) i j
        narrow (inl h) = inl h
        narrow (inr h) = let q = h.1 in inr (h.0, omega arith)

    -- cells from the frontier up to the next entry are zero
    pub gap_before : (r c : ℕ) → Frontier rows columns r c k → (i j : ℕ) → AtLeast r c i j → Before i j (get_or rows k 0) (get_or columns k 0) → listed a rows columns figs i j ≡ a.ring.zero
    gap_before r c f i j from to = gap r c k i j f from (λ e more less. ⊎_elim
        (λ (g : k < e). further to (ordered n rows columns placed k e g less))
        (λ (g : e ≤ k). let same : e ≡ k = omega arith in rw same to)
        (cases_lt k e))

-- k entries are counted: up to the cell after them the packed form is so long
pub record Counted {S : Type 0} (a : Figures S) (n : ℕ) (rows columns : List ℕ) (figs : List S) (k count : ℕ) : Type 0 where
  pub row : ℕ
  pub column : ℕ
  pub row_within : row < n
  pub column_within : column ≤ n
  pub frontier : Frontier rows columns row column k
  pub count_is : count ≡ spot a.ring n (listed a rows columns figs) row column

module _ {S : Type 0} (a : Figures S) (n : ℕ) (rows columns : List ℕ) (figs : List S) (even : length columns ≡ length rows) (even' : length figs ≡ length rows) (placed : (k : ℕ) → k < length rows → Placed n rows columns k) where
  -- the count stays small
  pub counted_small : n ≤ 1024 → (k count : ℕ) → Counted a n rows columns figs k count → count < 2000000
  counted_small small k count m =
      let bound = spot_small a.ring n (listed a rows columns figs) m.row m.column small in
      let rows_few = m.row_within in
      let columns_few = m.column_within in
      let is = m.count_is in
      omega arith

  -- one more entry, which is stored or not
  pub counted_more : (k : ℕ) → k < length rows → (count : ℕ) → Counted a n rows columns figs k count → (b : Bool) → stored a.ring (get_or rows k 0) (listed a rows columns figs (get_or rows k 0)) (get_or columns k 0) ≡ b → Counted a n rows columns figs (k + 1) (count + cond b 1 0)
  counted_more k low count m b is =
      let p = placed k low in
      let below = p.row_below in
      let below' = p.column_below in
      record {
        row = get_or rows k 0;
        column = get_or columns k 0 + 1;
        row_within = omega arith;
        column_within = omega arith;
        frontier = frontier_more a n rows columns figs even even' placed k low m.row m.column m.frontier;
        count_is = ap (λ x. x + cond b 1 0) (m.count_is ∙ spot_quiet a.ring n (listed a rows columns figs) m.row m.column (get_or rows k 0) (get_or columns k 0) (m.frontier.ahead k (omega arith) low) m.column_within (λ x y from to in_row. gap_before a n rows columns figs even even' placed k low m.row m.column m.frontier x y from to) (omega arith)) ∙ spot_more a.ring n (listed a rows columns figs) (get_or rows k 0) (get_or columns k 0) b is;
      }

  pub counted_all : (k : ℕ) → length rows ≤ k → (count : ℕ) → Counted a n rows columns figs k count → count ≡ packed_length a.ring n (listed a rows columns figs)
  counted_all k all count m =
      m.count_is ∙ (spot_quiet a.ring n (listed a rows columns figs) m.row m.column n 0 (inl m.row_within) m.column_within (λ x y from to in_row. gap a n rows columns figs even even' placed m.row m.column k x y m.frontier from (λ e more less. absurd (omega arith))) (omega arith) ∙ omega arith)

  -- whether the cell of an entry is stored, by its figure
  pub stored_listed : (k : ℕ) → k < length rows → (f : S) → f ≡ get_or figs k f → stored a.ring (get_or rows k 0) (listed a rows columns figs (get_or rows k 0)) (get_or columns k 0) ≡ (not (eqb (get_or columns k 0) (get_or rows k 0)) && not (a.ring.is_zero (a.meaning f)))
  stored_listed k low f is = ap (λ x. not (eqb (get_or columns k 0) (get_or rows k 0)) && not (a.ring.is_zero x)) (cell_listed a n rows columns figs even even' placed k low a.ring.zero ∙ sym (read_means a figs k f a.ring.zero (omega arith) is))

  pub counted_next : (k : ℕ) → k < length rows → (count : ℕ) → Counted a n rows columns figs k count → (f : S) → f ≡ get_or figs k f → (more : ℕ) → more ≡ cond (not (eqb (get_or columns k 0) (get_or rows k 0)) && not (a.ring.is_zero (a.meaning f))) 1 0 → Counted a n rows columns figs (k + 1) (count + more)
  counted_next k low count m f is more told = subst (λ x. Counted a n rows columns figs (k + 1) (count + x)) (sym told) (counted_more k low count m _ (stored_listed k low f is))
