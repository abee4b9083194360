-- A list that is written entry by entry.
use Rattle.std.proofs.Common.{◌≡◌, ℕ, ◌+◌, ◌<◌, ◌≤◌, List, length, get_or, sym, refl, ap, ◌∙◌, subst, inl, inr, ⊎_elim, arith}
use Rattle.std.proofs.lemmas.Bool.{cases_lt}
use Rattle.arithmetic.specs.Semiring.{Figures}
use Rattle.matrix.proofs.Meant.{read_means}
use Rattle.sheet.specs.Packed.{packed_length}
use Rattle.sheet.specs.Loading.{Placed}
use Rattle.sheet.specs.Writing.{Written, RowStarted, EntryWritten}
use Rattle.sheet.proofs.Laying.{Laying, spot_within, laying_start, laying_entry, laying_room, laying_row, laying_skip, laying_all}
use Rattle.sheet.proofs.Lists.{Before, AtLeast, Frontier, listed, ordered, frontier_none, frontier_more, gap, gap_before, cell_listed}

-- k entries are written; the sheet has come to this row
pub record Loading {S : Type 0} (a : Figures S) (n : ℕ) (rows columns : List ℕ) (figs : List S) (ws : List ℕ) (fs : List S) (k row : ℕ) (ws' : List ℕ) (fs' : List S) (at : ℕ) : Type 0 where
  pub column : ℕ
  pub column_within : column ≤ n
  pub row_within : row ≤ n
  pub done : row ≡ n → column ≡ 0
  pub frontier : Frontier rows columns row column k
  pub laying : Laying a n (listed a rows columns figs) ws fs row column ws' fs' at

module _ {S : Type 0} (a : Figures S) (n : ℕ) (rows columns : List ℕ) (figs : List S) (even : length columns ≡ length rows) (even' : length figs ≡ length rows) (placed : (k : ℕ) → k < length rows → Placed n rows columns k) (ws : List ℕ) (fs : List S) (room : packed_length a.ring n (listed a rows columns figs) ≤ length ws) (level : length fs ≡ length ws) where
  module _ (k row : ℕ) (low : k < length rows) (is : get_or rows k 0 ≡ row) (below : row < n) (ws' : List ℕ) (fs' : List S) (at : ℕ) (l : Loading a n rows columns figs ws fs k row ws' fs' at) (f : S) (f_is : f ≡ get_or figs k f) where
    -- the entry's column is not passed yet
    ahead_of : l.column ≤ get_or columns k 0
    ahead_of = go (l.frontier.ahead k (omega arith) low)
      where
        go : AtLeast row l.column (get_or rows k 0) (get_or columns k 0) → l.column ≤ get_or columns k 0
        go (inl h) = absurd (omega arith)
        go (inr h) = h.1

    -- the cells before the entry are zero
    entry_here : Laying a n (listed a rows columns figs) ws fs row (get_or columns k 0) ws' fs' at
    entry_here = laying_skip a n (listed a rows columns figs) ws fs room level row l.column (get_or columns k 0) below ahead_of ws' fs' at (λ j from to. gap_before a n rows columns figs even even' placed k low row l.column l.frontier row j (inr (refl, from)) (inr (sym is, to))) l.laying

    value_is : a.meaning f ≡ listed a rows columns figs row (get_or columns k 0)
    value_is = read_means a figs k f a.ring.zero (omega arith) f_is ∙ (sym (cell_listed a n rows columns figs even even' placed k low a.ring.zero) ∙ ap (λ r. listed a rows columns figs r (get_or columns k 0)) is)

    -- where an entry that is stored goes, there is room
    pub entry_room : (get_or columns k 0 ≡ row → ⊥) → (a.meaning f ≡ a.ring.zero → ⊥) → at < length ws
    entry_room off some = laying_room a n (listed a rows columns figs) ws fs room level row (get_or columns k 0) below ws' fs' at entry_here (placed k low).column_below f value_is off some

    pub loading_entry : (ws'' : List ℕ) (fs'' : List S) (at' : ℕ) → EntryWritten a (get_or rows k 0) (get_or columns k 0) f at ws' fs' ws'' fs'' at' → Loading a n rows columns figs ws fs (k + 1) row ws'' fs'' at'
    loading_entry ws'' fs'' at' w =
        let in_table = (placed k low).column_below in
        record {
          column = get_or columns k 0 + 1;
          column_within = omega arith;
          row_within = omega arith;
          done = λ e. absurd (omega arith);
          frontier = subst (λ r. Frontier rows columns r (get_or columns k 0 + 1) (k + 1)) is (frontier_more a n rows columns figs even even' placed k low row l.column l.frontier);
          laying = laying_entry a n (listed a rows columns figs) ws fs room level row (get_or columns k 0) below ws' fs' at entry_here in_table f value_is ws'' fs'' at' (subst (λ r. EntryWritten a r (get_or columns k 0) f at ws' fs' ws'' fs'' at') is w);
        }

  module _ (k row : ℕ) (below : row < n) (ws' : List ℕ) (fs' : List S) (at : ℕ) (l : Loading a n rows columns figs ws fs k row ws' fs' at) (over : (k < length rows) × (get_or rows k 0 ≡ row) → ⊥) where
    -- the entries that are left lie in later rows
    later : (e : ℕ) → k ≤ e → e < length rows → row < get_or rows e 0
    later e from to = go (l.frontier.ahead e from to) (l.frontier.ahead k (omega arith) (omega arith))
      where
        in_order : get_or rows k 0 ≤ get_or rows e 0
        in_order = ⊎_elim
            (λ (h : k < e). rises (ordered n rows columns placed k e h to))
            (λ (h : e ≤ k). let same : e ≡ k = omega arith in rw same (omega arith))
            (cases_lt k e)
          where
            rises : {x y i j : ℕ} → Before x y i j → x ≤ i
            rises (inl h) = omega arith
            rises (inr h) = let q = h.0 in omega arith

        go : AtLeast row l.column (get_or rows e 0) (get_or columns e 0) → AtLeast row l.column (get_or rows k 0) (get_or columns k 0) → row < get_or rows e 0
        go (inl h) g = h
        go (inr h) (inl g) = let q = in_order in omega arith
        go (inr h) (inr g) = absurd (over (omega arith, sym g.0))

    row_here : Laying a n (listed a rows columns figs) ws fs row n ws' fs' at
    row_here = laying_skip a n (listed a rows columns figs) ws fs room level row l.column n below l.column_within ws' fs' at (λ j from to. gap a n rows columns figs even even' placed row l.column k row j l.frontier (inr (refl, from)) (λ e more less. inl (later e more less))) l.laying

    -- where the row ends
    pub row_room : at ≤ length ws
    row_room =
        let within = spot_within a.ring n (listed a rows columns figs) row n below (omega arith) in
        let here = row_here.at_is in
        omega arith

    pub loading_row : (ws'' : List ℕ) (fs'' : List S) → RowStarted a (row + 1) at ws' fs' ws'' fs'' → Loading a n rows columns figs ws fs k (row + 1) ws'' fs'' at
    loading_row ws'' fs'' w = record {
      column = 0;
      column_within = omega arith;
      row_within = omega arith;
      done = λ e. refl;
      frontier = record {
        few = l.frontier.few;
        past = λ e h. inl (before (l.frontier.past e h));
        ahead = λ e from to. next (later e from to);
      };
      laying = laying_row a n (listed a rows columns figs) ws fs room level row n below ws' fs' at row_here refl ws'' fs'' w;
    }
      where
        before : {x y i j : ℕ} → Before x y i j → x < i + 1
        before (inl h) = omega arith
        before (inr h) = let q = h.0 in omega arith

        next : {r i j : ℕ} → r < i → AtLeast (r + 1) 0 i j
        next {r} {i} {j} h = ⊎_elim (λ (g : r + 1 < i). inl g) (λ (g : i ≤ r + 1). inr (omega arith, omega arith)) (cases_lt (r + 1) i)

  pub loading_start : 1 ≤ n → (ws' : List ℕ) (fs' : List S) → RowStarted a 0 (n + 1) ws fs ws' fs' → Loading a n rows columns figs ws fs 0 0 ws' fs' (n + 1)
  loading_start some ws' fs' w = record {
    column = 0;
    column_within = omega arith;
    row_within = omega arith;
    done = λ e. refl;
    frontier = frontier_none a n rows columns figs even even' placed;
    laying = laying_start a n (listed a rows columns figs) ws fs room level ws' fs' w;
  }

  pub loading_all : (k row : ℕ) → n ≤ row → (ws' : List ℕ) (fs' : List S) (at : ℕ) → Loading a n rows columns figs ws fs k row ws' fs' at → Written a n (listed a rows columns figs) ws fs ws' fs'
  loading_all k row all ws' fs' at l =
      let in_table = l.row_within in
      let end : row ≡ n = omega arith in
      (laying_all a n (listed a rows columns figs) ws fs room level row end ws' fs' at (subst (λ c. Laying a n (listed a rows columns figs) ws fs row c ws' fs' at) (l.done end) l.laying)).0
