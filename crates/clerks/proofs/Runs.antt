-- A book through any calls: it stays sound, and its sheets are the totals of their pedigrees.
use Rattle.std.proofs.Common.{◌≡◌, ℕ, ◌+◌, ◌-◌, ◌<◌, ◌≤◌, false, cond, ◌⊎◌, List, [], ◌∷◌, ◌++◌, length, get_or, take, is_ok, Ok, Err, Result, sym, refl, ap, ◌∙◌, subst, ap₂, inl, inr, ⊎_elim, arith}
use Rattle.std.proofs.lemmas.List.{length_push, length-take-le, get_or_append_left, get_or_push, get_or-take}
use Rattle.std.proofs.lemmas.Bool.{cases_lt}
use Rattle.arithmetic.specs.Semiring.{Figures, Commutes}
use Rattle.matrix.specs.Tables.{Table, Same, unit_table, added, product, flipped}
use Rattle.sheet.specs.Packed.{packed_length, table}
use Rattle.sheet.specs.Loading.{entries, loaded}
use Rattle.sheet.specs.declared.refusal.Refusal.{Refusal}
use Rattle.sheet.specs.declared.refusal.Refusal.TheVariants.{Sheet}
use Rattle.sheet.proofs.Packs.{table_packed}
use Rattle.sheet.proofs.Same.{packed_index_same, packed_figures_same}
use Rattle.book.specs.Book.{Arrays, OneMore, OneLess, order_of, sheets_of, capacity, last_end, sheet_table}
use Rattle.book.specs.Lines.{Passes, Granted, missing, none_to_strike, full}
use Rattle.book.specs.Calls.{Call, Open, Unit', Load, Add, Multiply, Flip, Strike, lines, no_room, Effect, Outcome}
use Rattle.book.proofs.Ends.{end_within, fits_from, few_from}
use Rattle.book.proofs.Sheets.{sheets_few}
use Rattle.clerks.specs.Pedigree.{Link, Pedigree, followed, turned_over, pedigrees_after, pedigrees_from, total}
use Rattle.clerks.specs.Clerks.{Run, done, step, Each, NotOpen, NotFlip, Kept, SheetIs, Totalled}
use Rattle.clerks.proofs.Totals.{total_one, total_append, product_same, total_followed, chain_one, total_turned}
use Rattle.clerks.proofs.Growing.{more_order, more_sheets, index_stays, figures_stay, new_sheet, more_sound}
use Rattle.clerks.proofs.Shrinking.{less_order, less_sheets, index_left, figures_left, less_sound}

-- a kept book; given P, its sheets are the totals of their pedigrees
pub record Stands {S : Type 0} (a : Figures S) (P : Type 0) (n : ℕ) (b : Arrays S) (ps : List (Pedigree a.F)) : Type 0 where
  pub kept : Kept a n b ps
  pub totals : P → Totalled a n b ps

-- what it means that the sheets that a call names are not missing
module _ {S : Type 0} (b : Arrays S) where
  first_there : (i : ℕ) (is : List ℕ) → Passes (missing b (i ∷ is)) → i < sheets_of b
  first_there i is pass = ⊎_elim
      (λ (h : i < sheets_of b). h)
      (λ (h : sheets_of b ≤ i). absurd (pass (Sheet i) (i, refl, inl (h, refl))))
      (cases_lt i (sheets_of b))

  second_there : (i j : ℕ) → Passes (missing b (i ∷ (j ∷ []))) → j < sheets_of b
  second_there i j pass = ⊎_elim
      (λ (h : j < sheets_of b). h)
      (λ (h : sheets_of b ≤ j). absurd (pass (Sheet j) (j, refl, inr (first_there i (j ∷ []) pass, inl (h, refl)))))
      (cases_lt j (sheets_of b))

  some_there : Passes (none_to_strike b) → 0 < sheets_of b
  some_there pass = ⊎_elim
      (λ (h : 0 < sheets_of b). h)
      (λ (h : sheets_of b ≤ 0). let none : sheets_of b ≡ 0 = omega arith in absurd (pass (Sheet 0) (0, refl, (refl, none))))
      (cases_lt 0 (sheets_of b))

module _ {S : Type 0} (a : Figures S) (P : Type 0) (n : ℕ) (b : Arrays S) (ps : List (Pedigree a.F)) (st : Stands a P n b ps) where
  abbrev tot : Pedigree a.F → Table a.F
  tot p = total a.ring n p

  -- a sheet read back is its pedigree's total
  read_back : P → (k : ℕ) → k < sheets_of b → Same n (sheet_table a b k) (tot (get_or ps k []))
  read_back given k there r c low low' =
      let is = st.totals given k there in
      ap₂ (λ ws fs. table a.ring ws fs r c) is.index is.figures ∙ table_packed a.ring n (tot (get_or ps k [])) r c low low'

  -- one more sheet, of the table t, and one more pedigree with this total
  module _ (t : Table a.F) (c : Arrays S) (m : OneMore a b t c) (not_full : Passes (full (sheets_of b))) (roomy : Passes (no_room a b t)) (p : Pedigree a.F) (same : P → Same n t (tot p)) where
    few : sheets_of b < 16
    few = few_from (sheets_of b) (sheets_few a b st.kept.sound) not_full

    fits : last_end b + packed_length a.ring (order_of b) t ≤ capacity b
    fits =
        let end = end_within b st.kept.sound.header_rules in
        let size = fits_from _ _ roomy in
        omega arith

    old_total : P → (k : ℕ) → k < sheets_of b → SheetIs a n c k (tot (get_or (ps ++ p ∷ []) k []))
    old_total given k h =
        let is = st.totals given k h in
        let there : k < length ps = omega (arith, st.kept.sheets) in
        rw (get_or_append_left ps (p ∷ []) [] k there) (record {
          index = index_stays a b st.kept.sound t c m few fits k h ∙ is.index;
          figures = figures_stay a b st.kept.sound t c m few fits k h ∙ is.figures;
        })

    new_total : P → (k : ℕ) → k ≡ sheets_of b → SheetIs a n c k (tot (get_or (ps ++ p ∷ []) k []))
    new_total given k e =
        let is : SheetIs a n c (sheets_of b) t = subst (λ o. SheetIs a o c (sheets_of b) t) st.kept.order (new_sheet a b st.kept.sound t c m few fits) in
        rw (get_or_push ps p [] k (sym (e ∙ st.kept.sheets)), e) (record {
          index = is.index ∙ packed_index_same a.ring n t (tot p) (same given);
          figures = is.figures ∙ packed_figures_same a.ring n t (tot p) (same given);
        })

    stands_more : Stands a P n c (ps ++ p ∷ [])
    stands_more =
        let sheets = more_sheets a b st.kept.sound t c m few fits in
        record {
          kept = record {
            sound = more_sound a b st.kept.sound t c m few fits;
            order = more_order a b st.kept.sound t c m few fits ∙ st.kept.order;
            sheets = sheets ∙ (ap (λ k. k + 1) st.kept.sheets ∙ sym (length_push ps p));
          };
          totals = λ given k there. ⊎_elim (old_total given k) (λ (h : sheets_of b ≤ k). new_total given k (omega arith)) (cases_lt k (sheets_of b));
        }

  -- the last sheet and the last pedigree taken away
  stands_less : (c : Arrays S) → OneLess b c → 0 < sheets_of b → Stands a P n c (take (length ps - 1) ps)
  stands_less c m some =
      let sheets = less_sheets a b st.kept.sound c m some in
      let even = st.kept.sheets in
      let long : length (take (length ps - 1) ps) ≡ length ps - 1 = length-take-le (length ps - 1) ps (omega arith) in
      record {
        kept = record {
          sound = less_sound a b st.kept.sound c m some;
          order = less_order a b st.kept.sound c m some ∙ st.kept.order;
          sheets = omega arith;
        };
        totals = λ given k there.
            let is = st.totals given k (omega arith) in
            let low : k < length ps - 1 = omega arith in
            rw (get_or-take (length ps - 1) ps k [] low) (record {
              index = index_left a b st.kept.sound c m some k (omega arith) ∙ is.index;
              figures = figures_left a b st.kept.sound c m some k (omega arith) ∙ is.figures;
            });
      }

  unit_same : Same n (unit_table a.ring) (tot ([] ∷ []))
  unit_same r c low low' = sym (total_one a.ring n [] r c)

  load_same : (l : Link a.F) → l.turned ≡ false → Same n (loaded a.ring l.list) (tot ((l ∷ []) ∷ []))
  load_same l e r c low low' = sym (total_one a.ring n (l ∷ []) r c ∙ (chain_one a.ring n l r c low' ∙ ap (λ v. cond v (flipped (loaded a.ring l.list)) (loaded a.ring l.list) r c) e))

  add_same : (i j : ℕ) → i < sheets_of b → j < sheets_of b → P → Same n (added a.ring (sheet_table a b i) (sheet_table a b j)) (tot (get_or ps i [] ++ get_or ps j []))
  add_same i j hi hj given r c low low' =
      ap₂ a.ring.add (read_back given i hi r c low low') (read_back given j hj r c low low')
      ∙ sym (total_append a.ring n (get_or ps i []) (get_or ps j []) r c)

  multiply_same : (i j : ℕ) → i < sheets_of b → j < sheets_of b → P → Same n (product a.ring (order_of b) (sheet_table a b i) (sheet_table a b j)) (tot (followed (get_or ps i []) (get_or ps j [])))
  multiply_same i j hi hj given r c low low' =
      ap (λ o. product a.ring o (sheet_table a b i) (sheet_table a b j) r c) st.kept.order
      ∙ (product_same a.ring n (sheet_table a b i) (tot (get_or ps i [])) (sheet_table a b j) (tot (get_or ps j [])) r c
      (λ k h. read_back given i hi r k low h) (λ k h. read_back given j hj k c h low')
      ∙ sym (total_followed a.ring n (get_or ps i []) (get_or ps j []) r c low))

  flip_same : (i : ℕ) → i < sheets_of b → P → Commutes a.ring → Same n (flipped (sheet_table a b i)) (tot (turned_over (get_or ps i [])))
  flip_same i hi given comm r c low low' =
      read_back given i hi c r low' low
      ∙ sym (total_turned a.ring n comm (get_or ps i []) r c low low')

-- a call that keeps totals: it is not a flip, or the arithmetic commutes
abbrev pub Keeps : {S : Type 0} → Figures S → Call S → Type 0
Keeps a call = NotFlip call ⊎ Commutes a.ring

-- one granted call
granted_stands : {S : Type 0} (a : Figures S) (P : Type 0) (n : ℕ) (b : Arrays S) (ps : List (Pedigree a.F)) → Stands a P n b ps → (call : Call S) → NotOpen call → (P → Keeps a call) → (v : ℕ) (c : Arrays S) → Granted (lines a b call) → Effect a b call v c → Stands a P n c (pedigrees_after a ps call)
granted_stands a P n b ps st (Open m) listed keeps v c granted effect = absurd listed
granted_stands a P n b ps st Unit' listed keeps v c granted effect =
    stands_more a P n b ps st _ c effect.1 granted.1.1.1.0 granted.1.1.1.1.0 _ (λ given. unit_same a P n b ps st)
granted_stands a P n b ps st (Load rs cs fs) listed keeps v c granted effect =
    stands_more a P n b ps st _ c effect.1 granted.1.1.1.1.0 granted.1.1.1.1.1.1.0 _ (λ given. load_same a P n b ps st (record { list = entries a rs cs fs; turned = false }) refl)
granted_stands a P n b ps st (Add i j) listed keeps v c granted effect =
    let there = granted.1.1.1.0 in
    stands_more a P n b ps st _ c effect.1 granted.1.1.1.1.0 granted.1.1.1.1.1.0 _ (add_same a P n b ps st i j (first_there b i (j ∷ []) there) (second_there b i j there))
granted_stands a P n b ps st (Multiply i j) listed keeps v c granted effect =
    let there = granted.1.1.1.0 in
    stands_more a P n b ps st _ c effect.1 granted.1.1.1.1.0 granted.1.1.1.1.1.0 _ (multiply_same a P n b ps st i j (first_there b i (j ∷ []) there) (second_there b i j there))
granted_stands a P n b ps st (Flip i) listed keeps v c granted effect =
    stands_more a P n b ps st _ c effect.1 granted.1.1.1.1.0 granted.1.1.1.1.1.0 _ (λ given. flip_same a P n b ps st i (first_there b i [] granted.1.1.1.0) given (⊎_elim (λ no. absurd no) (λ comm. comm) (keeps given)))
granted_stands a P n b ps st Strike listed keeps v c granted effect = stands_less a P n b ps st c effect.1 (some_there b granted.1.1.1.0)

-- one call, granted or sent back
one_call : {S : Type 0} (a : Figures S) (P : Type 0) (n : ℕ) (b : Arrays S) (ps : List (Pedigree a.F)) → Stands a P n b ps → (call : Call S) → NotOpen call → (P → Keeps a call) → (r : Result ℕ Refusal) (c : Arrays S) → Outcome a b call r c → Stands a P n c (cond (is_ok r) (pedigrees_after a ps call) ps)
one_call a P n b ps st call listed keeps (Ok v) c out = granted_stands a P n b ps st call listed keeps v c out.0 out.1
one_call a P n b ps st call listed keeps (Err why) c out = subst (λ z. Stands a P n z ps) (sym out.1) st

pub run_stands : {S : Type 0} (a : Figures S) (P : Type 0) (n : ℕ) (ps : List (Pedigree a.F)) {b d : Arrays S} {cs : List (Call S × Result ℕ Refusal)} → Run a b cs d → Each NotOpen cs → (P → Each (Keeps a) cs) → Stands a P n b ps → Stands a P n d (pedigrees_from a ps cs)
run_stands a P n ps done listed keeps st = st
run_stands a P n ps (step {b = b} {c = c} {call = call} {r = r} out rest) listed keeps st =
    run_stands a P n (cond (is_ok r) (pedigrees_after a ps call) ps) rest listed.1 (λ given. (keeps given).1) (one_call a P n b ps st call listed.0 (λ given. (keeps given).0) r c out)
