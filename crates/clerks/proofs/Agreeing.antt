-- Two clerks' books: sheets of equal pedigree are equal.
use Rattle.std.proofs.Common.{◌≡◌, ℕ, ◌<◌, Bool, true, ◌⊎◌, List, [], ◌∷◌, length, get_or, Result, sym, ap, ◌∙◌, inl, inr, ⊎_elim, arith}
use Rattle.std.specs.List.{AllByRecursion}
use Rattle.std.proofs.lemmas.List.{same_lists, get_or-map}
use Rattle.std.proofs.ByRecursion.{All-get_or}
use Rattle.arithmetic.specs.Semiring.{Figures, Commutes, meanings}
use Rattle.matrix.proofs.Meant.{length-meanings}
use Rattle.sheet.specs.declared.refusal.Refusal.{Refusal}
use Rattle.sheet.proofs.Same.{packed_index_same, packed_figures_same}
use Rattle.book.specs.Book.{Arrays, sheet_figures}
use Rattle.book.specs.Calls.{Call}
use Rattle.clerks.specs.Pedigree.{Pedigree, pedigrees}
use Rattle.clerks.specs.Clerks.{Each, NotFlip, ClerksBook, Totalled, sheet_stored, Apart, Agree, Straight, TwoClerks}
use Rattle.clerks.proofs.Totals.{total_same}
use Rattle.clerks.proofs.Opening.{opened_kept}
use Rattle.clerks.proofs.Carrying.{one_totals}
use Rattle.clerks.proofs.Runs.{Stands, Keeps, run_stands}

-- lists of values of one kind that mean the same one by one
same_stored : {S : Type 0} (a : Figures S) (kind : S → Bool) → Apart a kind → (xs ys : List S) → AllByRecursion (λ x. kind x ≡ true) xs → AllByRecursion (λ x. kind x ≡ true) ys → meanings a xs ≡ meanings a ys → xs ≡ ys
same_stored a kind apart xs ys all all' e =
    let long : length xs ≡ length ys = sym (length-meanings a xs) ∙ (ap length e ∙ length-meanings a ys) in
    same_lists xs ys long (λ k d h.
    let h' : k < length ys = omega arith in
    apart _ _ (All-get_or (λ x. kind x ≡ true) xs k d h all) (All-get_or (λ x. kind x ≡ true) ys k d h' all') (sym (get_or-map a.meaning xs k d (a.meaning d) h) ∙ (ap (λ l. get_or l k (a.meaning d)) e ∙ get_or-map a.meaning ys k d (a.meaning d) h')))

totals_agree_lem : {S : Type 0} (a : Figures S) (n : ℕ) (b c : Arrays S) (ps qs : List (Pedigree a.F)) → Totalled a n b ps → Totalled a n c qs → Agree a b ps c qs
totals_agree_lem a n b c ps qs first second i j there there' bag =
    let same = total_same a.ring n bag in
    let figures : sheet_figures a b i ≡ sheet_figures a c j = (first i there).figures ∙ (packed_figures_same a.ring n _ _ same ∙ sym (second j there').figures) in
    record {
      index = (first i there).index ∙ (packed_index_same a.ring n _ _ same ∙ sym (second j there').index);
      figures = figures;
      stored = λ kind apart all all'. same_stored a kind apart (sheet_stored b i) (sheet_stored c j) all all' figures;
    }

each_keeps : {S : Type 0} (a : Figures S) (cs : List (Call S × Result ℕ Refusal)) → Each NotFlip cs ⊎ Commutes a.ring → Each (Keeps a) cs
each_keeps a [] straight = tt
each_keeps a (c ∷ cs) (inl none) = (inl none.0, each_keeps a cs (inl none.1))
each_keeps a (c ∷ cs) (inr comm) = (inr comm, each_keeps a cs (inr comm))

book_stands : {S : Type 0} (a : Figures S) (P : Type 0) (n : ℕ) (before : Arrays S) (cs : List (Call S × Result ℕ Refusal)) (b : Arrays S) → ClerksBook a n before cs b → (P → Each NotFlip cs ⊎ Commutes a.ring) → Stands a P n b (pedigrees a cs)
book_stands a P n before cs b book straight =
    let kept = opened_kept a n book.answer before book.opened book.opens in
    let none = kept.sheets in
    run_stands a P n [] book.run book.listed (λ given. each_keeps a cs (straight given)) (record { kept = kept; totals = λ given k there. absurd (omega arith) })

pub two_clerks : {S : Type 0} (a : Figures S) → TwoClerks a
two_clerks a n b₀ c₀ bs cs b c first second =
    let sb = book_stands a (Straight a bs cs) n b₀ bs b first (⊎_elim (λ none. inl none.0) (λ comm. inr comm)) in
    let sc = book_stands a (Straight a bs cs) n c₀ cs c second (⊎_elim (λ none. inl none.1) (λ comm. inr comm)) in
    record {
      first = sb.kept;
      second = sc.kept;
      first_totals = sb.totals;
      second_totals = sc.totals;
      agree = λ straight. totals_agree_lem a n b c (pedigrees a bs) (pedigrees a cs) (sb.totals straight) (sc.totals straight);
      first_lines = one_totals a b;
      second_lines = one_totals a c;
    }
