-- Calls of the code carried out one more at a time.
use Rattle.std.proofs.Common.{◌≡◌, ℕ, zero, suc, ◌+◌, ◌<◌, List, [], ◌∷◌, ◌++◌, length, get_or, take, set, Result, sym, refl, ap, ◌∙◌, add-one, arith}
use Rattle.arithmetic.specs.Semiring.{Figures}
use Rattle.sheet.specs.declared.refusal.Refusal.{Refusal}
use Rattle.book.specs.Book.{Arrays}
use Rattle.book.specs.Calls.{Call, Outcome}
use Rattle.clerks.specs.declared.call.Call as told
use Rattle.clerks.specs.declared.call.Call.TheVariants as way
use Rattle.clerks.specs.Clerks.{Run, done, step, Each, NotOpen}
use Rattle.clerks.specs.Asked.{asked, answered}

-- one more call after a run
run_more : {S : Type 0} (a : Figures S) {b c : Arrays S} {cs : List (Call S × Result ℕ Refusal)} → Run a b cs c → (call : Call S) (r : Result ℕ Refusal) (d : Arrays S) → Outcome a c call r d → Run a b (cs ++ (call, r) ∷ []) d
run_more a done call r d out = step out done
run_more a (step o rest) call r d out = step o (run_more a rest call r d out)

answered_more : {S : Type 0} (cs : List (told.Call S)) (rs : List (Result ℕ Refusal)) (i : ℕ) (d : told.Call S) (r : Result ℕ Refusal) → i < length cs → length rs ≡ length cs → answered (take (suc i) cs) (take (suc i) (set rs i r)) ≡ answered (take i cs) (take i rs) ++ (asked (get_or cs i d), r) ∷ []
answered_more [] rs i d r low long = absurd (omega arith)
answered_more (c ∷ cs) [] i d r low long = absurd (omega arith)
answered_more (c ∷ cs) (x ∷ rs) zero d r low long = refl
answered_more (c ∷ cs) (x ∷ rs) (suc i) d r low long = ap (λ l. (asked c, x) ∷ l) (answered_more cs rs i d r (omega arith) (omega arith))

-- a run of the first i calls, and one call more
pub run_next : {S : Type 0} (a : Figures S) (b c d : Arrays S) (cs : List (told.Call S)) (rs : List (Result ℕ Refusal)) (i : ℕ) (call : told.Call S) (r : Result ℕ Refusal) → i < length cs → length rs ≡ length cs → call ≡ get_or cs i call → Run a b (answered (take i cs) (take i rs)) c → Outcome a c (asked call) r d → Run a b (answered (take (i + 1) cs) (take (i + 1) (set rs i r))) d
run_next a b c d cs rs i call r low long read run out =
    let more = run_more a run (asked call) r d out in
    let there : answered (take (i + 1) cs) (take (i + 1) (set rs i r)) ≡ answered (take i cs) (take i rs) ++ (asked call, r) ∷ [] = rw add-one (answered_more cs rs i call r low long ∙ ap (λ x. answered (take i cs) (take i rs) ++ (asked x, r) ∷ []) (sym read)) in
    rw there more

-- no call of the code is open
asked_not_open : {S : Type 0} (call : told.Call S) → NotOpen (asked call)
asked_not_open way.Unit = tt
asked_not_open (way.Load rows columns figures) = tt
asked_not_open (way.Add first second) = tt
asked_not_open (way.Multiply first second) = tt
asked_not_open (way.Flip sheet) = tt
asked_not_open way.Strike = tt

pub asked_listed : {S : Type 0} (cs : List (told.Call S)) (rs : List (Result ℕ Refusal)) → Each NotOpen (answered cs rs)
asked_listed [] rs = tt
asked_listed (c ∷ cs) [] = tt
asked_listed (c ∷ cs) (r ∷ rs) = (asked_not_open c, asked_listed cs rs)
