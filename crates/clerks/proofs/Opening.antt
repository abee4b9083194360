-- A book that was just opened is sound and has no sheet.
use Rattle.std.proofs.Common.{◌≡◌, ℕ, zero, suc, ◌<◌, ◌≤◌, [], ◌∷◌, length, get_or, replicate, Ok, sym, refl, ap, ◌∙◌, inl, inr, ⊎_elim, arith}
use Rattle.std.proofs.lemmas.List.{length-replicate, get_or-replicate, get_or_past}
use Rattle.std.proofs.lemmas.Bool.{cases_lt, cases_eq}
use Rattle.arithmetic.specs.Semiring.{Figures}
use Rattle.sheet.specs.declared.refusal.Refusal.TheVariants.{Layout, Order}
use Rattle.book.specs.Book.{Arrays, order_of, sheets_of}
use Rattle.book.specs.Lines.{Passes, layout, order}
use Rattle.book.specs.Checked.{Laid}
use Rattle.book.specs.Calls.{Open, Outcome}
use Rattle.clerks.specs.Clerks.{Kept}

blank : (n w : ℕ) → 0 < w → get_or (n ∷ replicate 18 0) w 0 ≡ 0
blank n zero some = absurd (omega arith)
blank n (suc w) some = ⊎_elim
    (λ (h : w < 18). get_or-replicate 18 w 0 0 h)
    (λ (h : 18 ≤ w). get_or_past (replicate 18 0) w 0 (rw length-replicate h))
    (cases_lt w 18)

module _ {S : Type 0} (b : Arrays S) where
  laid_from : Passes (layout b) → Laid b
  laid_from pass =
      let words : length b.header ≡ 19 = ⊎_elim (λ (e : length b.header ≡ 19). e) (λ (ne : length b.header ≡ 19 → ⊥). absurd (pass (Layout 0) (0, refl, inl (refl, ne)))) (cases_eq (length b.header) 19) in
      let lengths : length b.index ≡ length b.figures = ⊎_elim (λ (e : length b.index ≡ length b.figures). e) (λ (ne : length b.index ≡ length b.figures → ⊥). absurd (pass (Layout 1) (1, refl, inr (inl (refl, words, ne))))) (cases_eq (length b.index) (length b.figures)) in
      record {
        words = words;
        lengths = lengths;
        small = ⊎_elim (λ (h : 65536 < length b.index). absurd (pass (Layout 2) (2, refl, inr (inr (refl, words, lengths, h))))) (λ (h : length b.index ≤ 65536). h) (cases_lt 65536 (length b.index));
      }

  order_from : (n : ℕ) → Passes (order b n) → (1 ≤ n) × (n ≤ 1024)
  order_from n pass = (
    ⊎_elim (λ (h : 0 < n). h) (λ (h : n ≤ 0). let e : n ≡ 0 = omega arith in absurd (pass (Order n) (n, refl, (refl, inl e)))) (cases_lt 0 n),
    ⊎_elim (λ (h : 1024 < n). absurd (pass (Order n) (n, refl, (refl, inr h)))) (λ (h : n ≤ 1024). h) (cases_lt 1024 n),
  )

pub opened_kept : {S : Type 0} (a : Figures S) (n answer : ℕ) (b c : Arrays S) → Outcome a b (Open n) (Ok answer) c → Kept a n c []
opened_kept a n answer b c out =
    let laid = laid_from b out.0.0 in
    let bounds = order_from b n out.0.1.0 in
    let header : c.header ≡ n ∷ replicate 18 0 = out.1.1 in
    let index : length c.index ≡ length b.index = ap length out.1.2 in
    let figures : length c.figures ≡ length b.figures = ap length out.1.3 in
    let first : order_of c ≡ n = ap (λ h. get_or h 0 0) header in
    let none : sheets_of c ≡ 0 = ap (λ h. get_or h 1 0) header in
    record {
      sound = record {
        words = ap length header;
        lengths = index ∙ (laid.lengths ∙ sym figures);
        small = let small = laid.small in omega arith;
        header_rules = λ w low. record {
          order = λ e. (omega arith, omega arith);
          sheets = λ e. omega arith;
          start = λ e. ap (λ h. get_or h 2 0) header;
          end = λ past there. absurd (omega arith);
          rest = λ past beyond. ap (λ h. get_or h w 0) header ∙ blank n w (omega arith);
        };
        positions = λ q low k there from to. absurd (omega arith);
      };
      order = first;
      sheets = none;
    }
