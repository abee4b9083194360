-- The lists of a row that are left while its cells are taken one by one.
use Rattle.std.proofs.Common.{◌≡◌, ℕ, ◌+◌, ◌<◌, ◌≤◌, true, false, cond, not, ◌&&◌, eqb, List, length, get_or, set, Some, None, sym, ap, ◌∙◌, ⊎_elim, arith}
use Rattle.std.proofs.lemmas.List.{get_or-set_same, get_or-set_other, length-set, length_push}
use Rattle.std.proofs.lemmas.Bool.{cases_lt, cases_eq, cases_Bool}
use Rattle.arithmetic.specs.Semiring.{Semiring, meanings}
use Rattle.arithmetic.specs.declared.Arithmetic.{Ghosts}
use Rattle.sheet.specs.Packed.{stored, columns_below}
use Rattle.sheet.specs.declared.sound.Pair.{Pair}
use Rattle.sheet.proofs.Columns.{columns_yes, columns_no}
use Rattle.sheet.proofs.Lists.{columns_quiet}
use Rattle.product.specs.declared.meetings.Meetings.{Meetings}
use Rattle.sheet.specs.declared.sound.RowCell.{RowCell}
use Rattle.product.specs.Meetings.{taken, Idle, Linked, Marked, list_sum, NextCell, pair_product}

module _ {S : Type 0} {g : Ghosts S} (pair : Pair S g) where
  abbrev s : Semiring g.figures.F
  s = g.figures.ring

  abbrev n : ℕ
  n = pair.first.order

  abbrev fs : List g.figures.F
  fs = meanings g.figures pair.first.figures.now

  abbrev gs : List g.figures.F
  gs = meanings g.figures pair.second.figures.now

  module _ (i : ℕ) where
    -- row i of the product
    abbrev v : ℕ → g.figures.F
    v = pair_product pair i

    -- the lists that are left add up to the cells of row i
    pub record Rest (m : Meetings) : Type 0 where
      pub high : m.from ≤ n
      pub linked : Linked (length fs) (length gs) m
      pub marked : Marked n m
      pub past : (c : ℕ) → c < m.from → get_or m.head c 0 ≡ 0
      pub sums : (c : ℕ) → m.from ≤ c → c < n → list_sum s fs gs m (get_or m.head c 0) ≡ v c

    -- how many cells of row i before column c are stored
    abbrev pub stored_before : ℕ → ℕ
    stored_before c = length (columns_below s i v c)

    module _ {m : Meetings} (rest : Rest m) where
      -- a column without a list is zero
      quiet : (j : ℕ) → m.from ≤ j → j < n → get_or m.head j 0 ≡ 0 → v j ≡ s.zero
      quiet j low high none = sym (rest.sums j low high) ∙ ap (list_sum s fs gs m) none

      -- the next cell: columns before it are zero, its figure is what it should be, and the others are left
      module _ (cell : RowCell S) (m' : Meetings) (next : NextCell g.figures n pair.first.figures.now pair.second.figures.now m (Some cell) m') where
        abbrev c : ℕ
        c = cell.column

        pub cell_from : m.from ≤ cell.column
        cell_from = next.0

        pub cell_below : cell.column < n
        cell_below = next.1

        pub cell_gap : (j : ℕ) → m.from ≤ j → j < cell.column → v j ≡ s.zero
        cell_gap j low high = let below = cell_below in quiet j low (omega arith) (next.2 j low high)

        pub cell_is : g.figures.meaning cell.figure ≡ v cell.column
        cell_is = next.3 ∙ rest.sums c cell_from cell_below

        wide : c < length m.head
        wide = let heads = rest.marked.shaped.heads in let small = pair.small_order in let below = cell_below in omega arith

        head_was : (d : ℕ) → (d ≡ c → ⊥) → get_or (set m.head c 0) d 0 ≡ get_or m.head d 0
        head_was d ne = get_or-set_other m.head c d 0 0 ne

        none_here : get_or (set m.head c 0) c 0 ≡ 0
        none_here = get_or-set_same m.head c 0 0 wide

        left : Rest (taken c m)
        left =
            let shape = rest.marked.shaped in
            let below = cell_below in
            record {
              high = omega arith;
              linked = record { few = rest.linked.few; down = rest.linked.down; left_within = rest.linked.left_within; right_within = rest.linked.right_within };
              marked = record {
                shaped = record { heads = length-set m.head c 0 ∙ shape.heads; words = shape.words; room = shape.room };
                narrow = rest.marked.narrow;
                below = λ d h. ⊎_elim
                    (λ (e : d ≡ c). rw (e, none_here) (omega arith))
                    (λ (ne : d ≡ c → ⊥). rw (head_was d ne) (rest.marked.below d h))
                    (cases_eq d c);
                marks = λ d h absent. ⊎_elim
                    (λ (e : d ≡ c). rw e none_here)
                    (λ (ne : d ≡ c → ⊥). head_was d ne ∙ rest.marked.marks d h absent)
                    (cases_eq d c);
              };
              past = λ d h. ⊎_elim
                  (λ (e : d ≡ c). rw e none_here)
                  (λ (ne : d ≡ c → ⊥). head_was d ne ∙ ⊎_elim
                  (λ (old : d < m.from). rest.past d old)
                  (λ (new : m.from ≤ d). next.2 d new (omega (arith, ne)))
                  (cases_lt d m.from))
                  (cases_eq d c);
              sums = λ d low h. rw (head_was d (λ e. omega arith)) (rest.sums d (let up = cell_from in omega arith) h);
            }

        pub from_is : m'.from ≡ cell.column + 1
        from_is = ap (λ (x : Meetings). x.from) next.4

        pub rest_more : Rest m'
        rest_more = rw next.4 left

        pub size_more : (size more : ℕ) → size ≡ stored_before m.from → more ≡ cond (not (eqb c i) && not (s.is_zero (g.figures.meaning cell.figure))) 1 0 → size + more ≡ stored_before m'.from
        size_more size more so_far told =
            let same : size ≡ stored_before c = so_far ∙ ap length (columns_quiet s n (pair_product pair) i m.from c cell_from cell_gap) in
            let kept : stored s i v c ≡ (not (eqb c i) && not (s.is_zero (g.figures.meaning cell.figure))) = ap (λ x. not (eqb c i) && not (s.is_zero x)) (sym cell_is) in
            rw from_is (⊎_elim
            (λ (yes : (not (eqb c i) && not (s.is_zero (g.figures.meaning cell.figure))) ≡ true).
            let one : more ≡ 1 = told ∙ ap (λ b. cond b 1 0) yes in
            let next = ap length (columns_yes s i v c (kept ∙ yes)) ∙ length_push (columns_below s i v c) c in
            omega arith)
            (λ (no : (not (eqb c i) && not (s.is_zero (g.figures.meaning cell.figure))) ≡ false).
            let none : more ≡ 0 = told ∙ ap (λ b. cond b 1 0) no in
            let next = ap length (columns_no s i v c (kept ∙ no)) in
            omega arith)
            (cases_Bool (not (eqb c i) && not (s.is_zero (g.figures.meaning cell.figure)))))

      -- no cell is left
      module _ (m' : Meetings) (next : NextCell g.figures n pair.first.figures.now pair.second.figures.now m None m') where
        pub end_gap : (j : ℕ) → m.from ≤ j → j < n → v j ≡ s.zero
        end_gap j low high = quiet j low high (next.0 j low high)

        pub rest_all : Idle n m'
        rest_all = rw next.1 (record {
          shaped = rest.marked.shaped;
          none = λ c h. ⊎_elim
              (λ (old : c < m.from). rest.past c old)
              (λ (new : m.from ≤ c). next.0 c new h)
              (cases_lt c m.from);
        })

        pub size_all : (size : ℕ) → size ≡ stored_before m.from → size ≡ stored_before n
        size_all size so_far = so_far ∙ ap length (columns_quiet s n (pair_product pair) i m.from n rest.high end_gap)
