-- A call that is sent back by a check that comes before its own.
use Rattle.std.proofs.Common.{◌≡◌, List, ◌++◌, IsErrAnd, Err, Result}
use Rattle.std.proofs.lemmas.Result.{err_from_is_err_and}
use Rattle.arithmetic.specs.Semiring.{Figures}
use Rattle.sheet.specs.declared.refusal.Refusal.{Refusal}
use Rattle.book.specs.Book.{Arrays, SoundBook}
use Rattle.book.specs.Lines.{Line, Granted, SentBack, guard}
use Rattle.book.proofs.Passing.{sent_on, sent_after, guard_passes}

-- by these lines, of which more follow
pub early_by : {A : Type 0} (lines more : List Line) (r : Result A Refusal) (why : Refusal) → IsErrAnd r (λ y. y ≡ why) → SentBack lines why → (y : Refusal) × (r ≡ Err y) × SentBack (lines ++ more) y
early_by lines more r why came sent =
    let p = err_from_is_err_and r came in
    (p.0, p.1, rw p.2 (sent_on lines more why sent))

pub early : {S A : Type 0} (a : Figures S) (b : Arrays S) (more : List Line) (r : Result A Refusal) (why : Refusal) → IsErrAnd r (λ y. y ≡ why) → SentBack (guard a b) why → (y : Refusal) × (r ≡ Err y) × SentBack (guard a b ++ more) y
early a b more r why came sent = early_by (guard a b) more r why came sent

-- by a line after these, which do not apply
pub late_by : {A : Type 0} (lines more : List Line) (r : Result A Refusal) (why : Refusal) → IsErrAnd r (λ y. y ≡ why) → Granted lines → SentBack more why → (y : Refusal) × (r ≡ Err y) × SentBack (lines ++ more) y
late_by lines more r why came pass sent =
    let p = err_from_is_err_and r came in
    (p.0, p.1, rw p.2 (sent_after lines more why pass sent))

-- a call whose book is sound is sent back by a line of its own
pub late : {S A : Type 0} (a : Figures S) (b : Arrays S) (sound : SoundBook a b) (more : List Line) (r : Result A Refusal) (why : Refusal) → IsErrAnd r (λ y. y ≡ why) → SentBack more why → (y : Refusal) × (r ≡ Err y) × SentBack (guard a b ++ more) y
late a b sound more r why came sent = late_by (guard a b) more r why came (guard_passes b a sound) sent
