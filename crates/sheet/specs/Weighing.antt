-- What weigh answers.
use Rattle.std.specs.Prelude.{◌≡◌, List, length, Ok, Err, Result, ◌≢◌}
use Rattle.arithmetic.specs.Semiring.{Figures, meanings}
use Rattle.matrix.specs.Vectors.{weighed}
use Rattle.sheet.specs.declared.refusal.Refusal.{Refusal}
use Rattle.sheet.specs.Refusals.{refusal_number, refusal_place}

-- the dot product of two lists of one length; lists of unequal length are sent back with number 5 and place 1
abbrev pub Weighs : {S : Type 0} → Figures S → List S → List S → Result S Refusal → Type 0
Weighs a xs ys (Ok total) = (length xs ≡ length ys) × (a.meaning total ≡ weighed a.ring (meanings a xs) (meanings a ys))
Weighs a xs ys (Err why) = (length xs ≢ length ys) × (refusal_number why ≡ 5) × (refusal_place why ≡ 1)
