-- A sound book after one more sheet.
use Rattle.std.proofs.Common.{◌≡◌, ℕ, ◌+◌, ◌-◌, ◌<◌, ◌≤◌, List, ◌++◌, length, get_or, take, drop, set, sym, ap, ◌∙◌, ap₂, ⊎_elim, arith, rules}
use Rattle.std.proofs.lemmas.List.{places, same_lists, length-append, length-take, length-drop, length-set, get_or-set_same, get_or-set_other}
use Rattle.std.proofs.lemmas.Bool.{cases_lt}
use Rattle.arithmetic.specs.Semiring.{Figures, meanings}
use Rattle.matrix.specs.Tables.{Table}
use Rattle.matrix.proofs.Meant.{length-meanings}
use Rattle.sheet.specs.Packed.{Sound, packed_length, packed_index}
use Rattle.sheet.specs.Writing.{part}
use Rattle.sheet.proofs.Columns.{starts_grow}
use Rattle.sheet.proofs.Sounds.{packed_sound}
use Rattle.sheet.proofs.Same.{index_long, figures_long_too}
use Rattle.book.specs.Book.{Arrays, SoundBook, HeaderRule, OneMore, order_of, sheets_of, capacity, start_of, last_end, sheet_index, sheet_figures}
use Rattle.book.proofs.Starts.{all_keep}
use Rattle.book.proofs.Ends.{end_within}
use Rattle.book.proofs.Sheets.{sheet_before, sheet_sound}
use Rattle.clerks.specs.Clerks.{SheetIs}

-- new places laid over a list from L on: what lies before them, they themselves, and how long the list is
part_before : {A : Type 0} (xs ys : List A) (L from to : ℕ) → to ≤ L → L ≤ length xs → part (take L xs ++ ys) from to ≡ part xs from to
part_before xs ys L from to low room = same_lists _ _ (search (rules, places)) (λ k e h. grind (arith, places))

part_new : {A : Type 0} (xs ys zs : List A) (L m : ℕ) → L ≤ length xs → length ys ≡ m → part (take L xs ++ (ys ++ zs)) L (L + m) ≡ ys
part_new xs ys zs L m room long = same_lists _ _ (search (rules, places)) (λ k e h. grind (arith, places))

laid_long : {A : Type 0} (xs ys : List A) (L m : ℕ) → L + m ≤ length xs → length ys ≡ m → length (take L xs ++ (ys ++ drop (L + m) xs)) ≡ length xs
laid_long xs ys L m room long = simp (length-append, length-take, length-drop) (omega arith)

module _ {S : Type 0} (a : Figures S) (b : Arrays S) (sound : SoundBook a b) (t : Table a.F) (c : Arrays S) (m : OneMore a b t c) (few : sheets_of b < 16) (fits : last_end b + packed_length a.ring (order_of b) t ≤ capacity b) where
  abbrev K : ℕ
  K = sheets_of b

  abbrev size : ℕ
  size = packed_length a.ring (order_of b) t

  -- every word of the header but two is as it was
  word_stays : (w : ℕ) → (w ≡ 1 → ⊥) → (w ≡ 3 + K → ⊥) → get_or c.header w 0 ≡ get_or b.header w 0
  word_stays w ne ne' =
      ap (λ h. get_or h w 0) m.header
      ∙ (get_or-set_other (set b.header 1 (K + 1)) (3 + K) w (last_end b + size) 0 (omega (arith, ne'))
      ∙ get_or-set_other b.header 1 w (K + 1) 0 (omega (arith, ne)))

  pub more_order : order_of c ≡ order_of b
  more_order = word_stays 0 (omega arith) (omega arith)

  pub more_sheets : sheets_of c ≡ K + 1
  more_sheets =
      let words = sound.words in
      ap (λ h. get_or h 1 0) m.header
      ∙ (get_or-set_other (set b.header 1 (K + 1)) (3 + K) 1 (last_end b + size) 0 (omega arith)
      ∙ get_or-set_same b.header 1 (K + 1) 0 (omega arith))

  start_stays : (k : ℕ) → k ≤ K → start_of c k ≡ start_of b k
  start_stays k low = word_stays (2 + k) (omega arith) (omega arith)

  new_end : start_of c (K + 1) ≡ last_end b + size
  new_end =
      let there : 2 + (K + 1) ≡ 3 + K = omega arith in
      let words = sound.words in
      let wide : 3 + K < length (set b.header 1 (K + 1)) = rw (length-set b.header 1 (K + 1)) (omega arith) in
      rw there (ap (λ h. get_or h (3 + K) 0) m.header ∙ get_or-set_same (set b.header 1 (K + 1)) (3 + K) (last_end b + size) 0 wide)

  stored_long : length m.stored ≡ size
  stored_long = sym (length-meanings a m.stored) ∙ (ap length m.means ∙ figures_long_too a.ring (order_of b) t)

  within : last_end b ≤ length b.figures
  within = let end = end_within b sound.header_rules in let same = sound.lengths in omega arith

  -- a sheet that was there, in either array
  old : {A : Type 0} (xs ys zs : List A) (k : ℕ) → k < K → last_end b ≤ length xs → ys ≡ take (last_end b) xs ++ zs → part ys (start_of c k) (start_of c (k + 1)) ≡ part xs (start_of b k) (start_of b (k + 1))
  old xs ys zs k low room e =
      ap₂ (part ys) (start_stays k (omega arith)) (start_stays (k + 1) (omega arith))
      ∙ (ap (λ l. part l (start_of b k) (start_of b (k + 1))) e
      ∙ part_before xs zs (last_end b) (start_of b k) (start_of b (k + 1)) (sheet_before a b sound k low) room)

  -- the new sheet, in either array
  new : {A : Type 0} (xs ys ws zs : List A) → last_end b ≤ length xs → length ws ≡ size → ys ≡ take (last_end b) xs ++ (ws ++ zs) → part ys (start_of c K) (start_of c (K + 1)) ≡ ws
  new xs ys ws zs room long e =
      ap₂ (part ys) (start_stays K (omega arith)) new_end
      ∙ (ap (λ l. part l (last_end b) (last_end b + size)) e ∙ part_new xs ws zs (last_end b) size room long)

  pub index_stays : (k : ℕ) → k < K → sheet_index c k ≡ sheet_index b k
  index_stays k low = old b.index c.index _ k low (end_within b sound.header_rules) m.index

  pub figures_stay : (k : ℕ) → k < K → sheet_figures a c k ≡ sheet_figures a b k
  figures_stay k low = ap (meanings a) (old b.figures c.figures _ k low within m.figures)

  pub new_sheet : SheetIs a (order_of b) c K t
  new_sheet = record {
    index = new b.index c.index (packed_index a.ring (order_of b) t) _ (end_within b sound.header_rules) (index_long a.ring (order_of b) t) m.index;
    figures = ap (meanings a) (new b.figures c.figures m.stored _ within stored_long m.figures) ∙ m.means;
  }

  index_long_too : length c.index ≡ length b.index
  index_long_too = ap length m.index ∙ laid_long b.index (packed_index a.ring (order_of b) t) (last_end b) size fits (index_long a.ring (order_of b) t)

  figures_long : length c.figures ≡ length b.figures
  figures_long = ap length m.figures ∙ laid_long b.figures m.stored (last_end b) size (let same = sound.lengths in omega arith) stored_long

  sheet_keeps : (k : ℕ) → k < sheets_of c → Sound a.ring (order_of c) (sheet_index c k) (sheet_figures a c k)
  sheet_keeps k low = ⊎_elim
      (λ (h : k < K). rw (more_order, index_stays k h, figures_stay k h) (sheet_sound a b sound k h))
      (λ (h : K ≤ k). let e : k ≡ K = omega (arith, more_sheets) in rw (e, more_order, new_sheet.index, new_sheet.figures) (packed_sound a.ring (order_of b) t))
      (cases_lt k K)

  word_keeps : (w : ℕ) → w < 19 → HeaderRule c.header (capacity c) w
  word_keeps w low =
      let rule = sound.header_rules w low in
      let order = more_order in
      let sheets = more_sheets in
      let long = index_long_too in
      record {
        order = λ e. let is = rule.order e in (omega arith, omega arith);
        sheets = λ e. omega arith;
        start = λ e. word_stays 2 (omega arith) (omega arith) ∙ rule.start e;
        end = λ past there. ⊎_elim
            (λ (h : w < 3 + K).
            let here = word_stays w (omega arith) (omega arith) in
            let before = word_stays (w - 1) (omega arith) (omega arith) in
            let is = rule.end past (omega arith) in
            (omega arith, omega arith))
            (λ (h : 3 + K ≤ w).
            let e : w ≡ 2 + (K + 1) = omega arith in
            let d : w - 1 ≡ 2 + K = omega arith in
            let up = starts_grow a.ring (order_of b) t 0 (order_of b) (omega arith) in
            let from = start_stays K (omega arith) in
            let to = new_end in
            let here : get_or c.header w 0 ≡ last_end b + size = rw e to in
            let before : get_or c.header (w - 1) 0 ≡ last_end b = rw d from in
            (omega arith, omega arith))
            (cases_lt w (3 + K));
        rest = λ past beyond. word_stays w (omega arith) (omega arith) ∙ rule.rest past (omega arith);
      }

  pub more_sound : SoundBook a c
  more_sound = record {
    words = ap length m.header ∙ (length-set (set b.header 1 (K + 1)) (3 + K) (last_end b + size) ∙ (length-set b.header 1 (K + 1) ∙ sound.words));
    lengths = index_long_too ∙ (sound.lengths ∙ sym figures_long);
    small = let small = sound.small in omega (arith, index_long_too);
    header_rules = word_keeps;
    positions = λ q low. all_keep a c word_keeps (λ k there. (sheet_keeps k there).rules) q;
  }
