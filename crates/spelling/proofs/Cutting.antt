-- Where a row and a block are cut: the marks between figures are no digits, so the first mark is the right one.
use Rattle.std.proofs.Common.{◌≡◌, ℕ, zero, suc, ◌-◌, ◌<◌, List, ◌∷◌, ◌++◌, length, get_or, Some, None, Option, sym, ◌∙◌, subst, ⊎_elim, arith, length-append, Bor, MatchOption}
use Rattle.std.specs.Str.Parse.{AllDigits}
use Rattle.std.specs.Int.{IsInRange}
use Rattle.std.proofs.lemmas.List.{get_or_append_left, get_or-append_right}
use Rattle.std.proofs.lemmas.Str.Parse.{numerals_by_value, tells_digits, not_in_digits}
use Rattle.std.proofs.lemmas.Str.Pattern.{IsSplitOnceResult, split_after}
use Rattle.std.proofs.str.Laws.{order}
use Rattle.arithmetic.specs.declared.amount.Amount.{Amount}
use Rattle.arithmetic.specs.declared.block.Block.{Block}
use Rattle.spelling.specs.Spelling.{SpellsAmount, SpellsRow, SpellsBlock}

pub no_mark : (ds : List ℕ) (c : ℕ) → AllDigits 10 ds → (IsInRange 48 57 c → ⊥) → (i : ℕ) → i < length ds → get_or ds i 0 ≡ c → ⊥
no_mark ds c d apart i lt e = not_in_digits (numerals_by_value (AllDigits 10) tells_digits) ds c d apart i lt e

past_comma : (right : List ℕ) (k : ℕ) → AllDigits 10 right → k < length (44 ∷ right) → get_or (44 ∷ right) k 0 ≡ 59 → ⊥
past_comma right zero d lt e = omega (arith, e)
past_comma right (suc k) d lt e = no_mark right 59 d (λ h. omega (arith, h.1)) k (omega (arith, lt)) e

no_semicolon : (left right : List ℕ) → AllDigits 10 left → AllDigits 10 right → (i : ℕ) → i < length (left ++ 44 ∷ right) → get_or (left ++ 44 ∷ right) i 0 ≡ 59 → ⊥
no_semicolon left right a b i lt e =
    let long = length-append left (44 ∷ right) in
    ⊎_elim
    (λ here. no_mark left 59 a (λ h. omega (arith, h.1)) i here (sym (get_or_append_left left (44 ∷ right) 0 i here) ∙ e))
    (λ there. past_comma right (i - length left) b (omega (arith, lt, long, there)) (sym (get_or-append_right left (44 ∷ right) (length left) i 0 (λ _. length left) there) ∙ e))
    (order i (length left))

pub row_cut : (text : List ℕ) (r : Option (Bor (List ℕ) × Bor (List ℕ))) → IsSplitOnceResult 44 text r → (row : Amount × Amount) → SpellsRow text row → MatchOption r ⊥ (λ p. SpellsAmount p.0.now row.0 × SpellsAmount p.1.now row.1)
row_cut text None at row s = split_after 44 text s.0 s.1 None at (omega arith) s.2 (no_mark s.0 44 s.3.1.0.1 (λ h. omega (arith, h.0)))
row_cut text (Some p) at row s =
    let same = split_after 44 text s.0 s.1 (Some p) at (omega arith) s.2 (no_mark s.0 44 s.3.1.0.1 (λ h. omega (arith, h.0))) in
    (subst (λ l. SpellsAmount l row.0) (sym same.0) s.3, subst (λ l. SpellsAmount l row.1) (sym same.1) s.4)

row_plain : (text : List ℕ) (row : Amount × Amount) → SpellsRow text row → (i : ℕ) → i < length text → get_or text i 0 ≡ 59 → ⊥
row_plain text row s = subst (λ l. (i : ℕ) → i < length l → get_or l i 0 ≡ 59 → ⊥) (sym s.2) (no_semicolon s.0 s.1 s.3.1.0.1 s.4.1.0.1)

pub block_cut : (word : List ℕ) (r : Option (Bor (List ℕ) × Bor (List ℕ))) → IsSplitOnceResult 59 word r → (b : Block Amount) → SpellsBlock word b → MatchOption r ⊥ (λ p. SpellsRow p.0.now (b.p, b.q) × SpellsRow p.1.now (b.r, b.s))
block_cut word None at b s = split_after 59 word s.0 s.1 None at (omega arith) s.2 (row_plain s.0 (b.p, b.q) s.3)
block_cut word (Some p) at b s =
    let same = split_after 59 word s.0 s.1 (Some p) at (omega arith) s.2 (row_plain s.0 (b.p, b.q) s.3) in
    (subst (λ l. SpellsRow l (b.p, b.q)) (sym same.0) s.3, subst (λ l. SpellsRow l (b.r, b.s)) (sym same.1) s.4)
