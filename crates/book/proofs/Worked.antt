-- What the workings answer, once their sheet was found; and that they have one outcome.
use Rattle.std.proofs.Common.{◌≡◌, ℕ, List, [], ◌∷◌, ◌<◌, length, Ok, Err, sym, ap, ◌∙◌}
use Rattle.arithmetic.specs.Semiring.{Figures, meanings}
use Rattle.book.specs.Book.{Arrays, SoundBook, order_of, sheets_of}
use Rattle.book.specs.Lines.{Granted, guard, vector_lengths, missing}
use Rattle.book.specs.Workings.{working_lines}
use Rattle.book.specs.Single.{WorkingIsSingle}
use Rattle.book.proofs.Passing.{granted_both, guard_passes, missing_passes, vector_lengths_passes}
use Rattle.book.proofs.Singles.{EachSingle, sent_single, not_both, layout_single, header_single, position_single, vector_lengths_single, missing_single}

module _ {S : Type 0} (a : Figures S) (b : Arrays S) (k : ℕ) (given out : List S) where
  pub working_granted : SoundBook a b → k < sheets_of b → length given ≡ order_of b → length out ≡ order_of b → Granted (working_lines a b k given out)
  working_granted sound there given_long out_long = granted_both (guard a b) (vector_lengths b given out ∷ (missing b (k ∷ []) ∷ [])) (guard_passes b a sound) (vector_lengths_passes b given out given_long out_long, (missing_passes b k there, tt))

  working_each : EachSingle (working_lines a b k given out)
  working_each = (layout_single b, (header_single b, (position_single a b, (vector_lengths_single b given out, (missing_single b (k ∷ []), tt)))))

pub working_is_single_lem : {S : Type 0} (a : Figures S) → WorkingIsSingle a
working_is_single_lem a b v k given out (Ok n) (Ok m) x y o p = (ap Ok (o.1 ∙ sym p.1), o.2 ∙ sym p.2, λ refused. absurd refused)
working_is_single_lem a b v k given out (Ok n) (Err why) x y o p = absurd (not_both (working_lines a b k given out) why o.0 p.0)
working_is_single_lem a b v k given out (Err why) (Ok m) x y o p = absurd (not_both (working_lines a b k given out) why p.0 o.0)
working_is_single_lem a b v k given out (Err why) (Err why') x y o p =
    let same = o.1 ∙ sym p.1 in
    (ap Err (sent_single (working_lines a b k given out) (working_each a b k given out) why why' o.0 p.0), ap (meanings a) same, λ refused. same)
