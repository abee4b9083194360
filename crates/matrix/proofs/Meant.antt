-- What a figure read from a slice means.
use Rattle.std.proofs.Common.{◌≡◌, ℕ, ◌<◌, List, length, get_or, set, sym, ap, ◌∙◌}
use Rattle.std.proofs.lemmas.List.{get_or-map, map-set, length-map}
use Rattle.arithmetic.specs.Semiring.{Figures, meanings}

pub read_means : {S : Type 0} (a : Figures S) (xs : List S) (i : ℕ) (x : S) (d : a.F) → i < length xs → x ≡ get_or xs i x → a.meaning x ≡ get_or (meanings a xs) i d
read_means a xs i x d within read = ap a.meaning read ∙ sym (get_or-map a.meaning xs i x d within)

pub meanings_set : {S : Type 0} (a : Figures S) (xs : List S) (i : ℕ) (v : S) → meanings a (set xs i v) ≡ set (meanings a xs) i (a.meaning v)
meanings_set a xs i v = map-set a.meaning xs i v

pub length-meanings : {S : Type 0} (a : Figures S) (xs : List S) → length (meanings a xs) ≡ length xs
length-meanings a xs = length-map xs a.meaning

-- read_means for an element of an array, which is read as `get_or xs i x`
pub at_means : {S : Type 0} (a : Figures S) (xs : List S) (i : ℕ) (x : S) (d : a.F) → i < length xs → a.meaning (get_or xs i x) ≡ get_or (meanings a xs) i d
at_means a xs i x d within = sym (get_or-map a.meaning xs i x d within)
