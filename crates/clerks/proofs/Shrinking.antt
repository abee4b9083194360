-- A sound book after its last sheet was struck.
use Rattle.std.proofs.Common.{◌≡◌, ℕ, ◌+◌, ◌-◌, ◌<◌, ◌≤◌, List, length, get_or, set, sym, ap, ◌∙◌, ap₂, ⊎_elim, arith}
use Rattle.std.proofs.lemmas.List.{length-set, get_or-set_same, get_or-set_other}
use Rattle.std.proofs.lemmas.Bool.{cases_lt}
use Rattle.arithmetic.specs.Semiring.{Figures, meanings}
use Rattle.sheet.specs.Packed.{Sound}
use Rattle.sheet.specs.Writing.{part}
use Rattle.book.specs.Book.{Arrays, SoundBook, HeaderRule, OneLess, order_of, sheets_of, capacity, start_of, sheet_index, sheet_figures}
use Rattle.book.proofs.Starts.{all_keep}
use Rattle.book.proofs.Sheets.{sheets_few, sheet_sound}

module _ {S : Type 0} (a : Figures S) (b : Arrays S) (sound : SoundBook a b) (c : Arrays S) (m : OneLess b c) (some : 0 < sheets_of b) where
  abbrev K : ℕ
  K = sheets_of b

  -- every word of the header but two is as it was
  word_stays : (w : ℕ) → (w ≡ 1 → ⊥) → (w ≡ 2 + K → ⊥) → get_or c.header w 0 ≡ get_or b.header w 0
  word_stays w ne ne' =
      ap (λ h. get_or h w 0) m.header
      ∙ (get_or-set_other (set b.header (2 + K) 0) 1 w (K - 1) 0 (omega (arith, ne))
      ∙ get_or-set_other b.header (2 + K) w 0 0 (omega (arith, ne')))

  pub less_order : order_of c ≡ order_of b
  less_order = word_stays 0 (omega arith) (omega arith)

  pub less_sheets : sheets_of c ≡ K - 1
  less_sheets =
      let words = sound.words in
      let wide : 1 < length (set b.header (2 + K) 0) = rw (length-set b.header (2 + K) 0) (omega arith) in
      ap (λ h. get_or h 1 0) m.header ∙ get_or-set_same (set b.header (2 + K) 0) 1 (K - 1) 0 wide

  last_cleared : get_or c.header (2 + K) 0 ≡ 0
  last_cleared =
      let words = sound.words in
      let few = sheets_few a b sound in
      ap (λ h. get_or h (2 + K) 0) m.header
      ∙ (get_or-set_other (set b.header (2 + K) 0) 1 (2 + K) (K - 1) 0 (omega arith)
      ∙ get_or-set_same b.header (2 + K) 0 0 (omega arith))

  start_stays : (k : ℕ) → k < K → start_of c k ≡ start_of b k
  start_stays k low = word_stays (2 + k) (omega arith) (omega arith)

  -- a sheet that is left, in either array
  left : {A : Type 0} (xs ys : List A) (k : ℕ) → k < K - 1 → ys ≡ xs → part ys (start_of c k) (start_of c (k + 1)) ≡ part xs (start_of b k) (start_of b (k + 1))
  left xs ys k low e =
      ap₂ (part ys) (start_stays k (omega arith)) (start_stays (k + 1) (omega arith))
      ∙ ap (λ l. part l (start_of b k) (start_of b (k + 1))) e

  pub index_left : (k : ℕ) → k < K - 1 → sheet_index c k ≡ sheet_index b k
  index_left k low = left b.index c.index k low m.index

  pub figures_left : (k : ℕ) → k < K - 1 → sheet_figures a c k ≡ sheet_figures a b k
  figures_left k low = ap (meanings a) (left b.figures c.figures k low m.figures)

  sheet_keeps : (k : ℕ) → k < sheets_of c → Sound a.ring (order_of c) (sheet_index c k) (sheet_figures a c k)
  sheet_keeps k low = let h : k < K - 1 = omega (arith, less_sheets) in rw (less_order, index_left k h, figures_left k h) (sheet_sound a b sound k (omega arith))

  word_keeps : (w : ℕ) → w < 19 → HeaderRule c.header (capacity c) w
  word_keeps w low =
      let rule = sound.header_rules w low in
      let order = less_order in
      let sheets = less_sheets in
      let few = sheets_few a b sound in
      let long = ap length m.index in
      record {
        order = λ e. let is = rule.order e in (omega arith, omega arith);
        sheets = λ e. omega arith;
        start = λ e. word_stays 2 (omega arith) (omega arith) ∙ rule.start e;
        end = λ past there.
            let here = word_stays w (omega arith) (omega arith) in
            let before = word_stays (w - 1) (omega arith) (omega arith) in
            let is = rule.end past (omega arith) in
            (omega arith, omega arith);
        rest = λ past beyond. ⊎_elim
            (λ (h : 2 + K < w). word_stays w (omega arith) (omega arith) ∙ rule.rest past h)
            (λ (h : w ≤ 2 + K). let e : w ≡ 2 + K = omega arith in rw e last_cleared)
            (cases_lt (2 + K) w);
      }

  pub less_sound : SoundBook a c
  less_sound = record {
    words = ap length m.header ∙ (length-set (set b.header (2 + K) 0) 1 (K - 1) ∙ (length-set b.header (2 + K) 0 ∙ sound.words));
    lengths = ap length m.index ∙ (sound.lengths ∙ sym (ap length m.figures));
    small = let small = sound.small in omega (arith, ap length m.index);
    header_rules = word_keeps;
    positions = λ q low. all_keep a c word_keeps (λ k there. (sheet_keeps k there).rules) q;
  }
