-- Where a sheet comes from: the lists that were loaded for it, as a bag of chains.
use Rattle.std.specs.Prelude.{◌≡◌, ℕ, ◌-◌, Bool, false, cond, not, List, [], ◌∷◌, ◌++◌, map, reverse, length, take, is_ok, Result, slice_index_or}
use Rattle.std.specs.List.{flat_map}
use Rattle.arithmetic.specs.Semiring.{Semiring, Figures}
use Rattle.matrix.specs.Tables.{Table, unit_table, product, flipped}
use Rattle.matrix.specs.Bags.{bag_total}
use Rattle.sheet.specs.Loading.{Entry, entries, loaded}
use Rattle.sheet.specs.declared.refusal.Refusal.{Refusal}
use Rattle.book.specs.Calls.{Call, Open, Unit', Load, Add, Multiply, Flip, Strike}

-- a list that load accepted, as it was or turned over
pub record Link (F : Type 0) : Type 0 where
  pub list : List (Entry F)
  pub turned : Bool

-- turned over
abbrev pub turn : {F : Type 0} → Link F → Link F
turn l = record { list = l.list; turned = not l.turned }

-- turned over twice, a link is itself
abbrev pub TurnsBack : Type 0 → Type 0
TurnsBack F = (l : Link F) → turn (turn l) ≡ l

abbrev pub Chain : Type 0 → Type 0
Chain F = List (Link F)

-- a bag of chains, counted with repeats: their order has no meaning
abbrev pub Pedigree : Type 0 → Type 0
Pedigree F = List (Chain F)

-- every chain of the first followed by every chain of the second
abbrev pub followed : {F : Type 0} → Pedigree F → Pedigree F → Pedigree F
followed p q = flat_map (λ c. map (λ d. c ++ d) q) p

-- every chain reversed and every link turned over
abbrev pub turned_over : {F : Type 0} → Pedigree F → Pedigree F
turned_over p = map (λ c. reverse (map turn c)) p

module _ {S : Type 0} (a : Figures S) where
  -- the pedigrees of a book's sheets after a granted call, from those before it
  abbrev pub pedigrees_after : List (Pedigree a.F) → Call S → List (Pedigree a.F)
  pedigrees_after ps (Open n) = []
  pedigrees_after ps Unit' = ps ++ (([] ∷ []) ∷ [])
  pedigrees_after ps (Load rs cs fs) = ps ++ (((record { list = entries a rs cs fs; turned = false } ∷ []) ∷ []) ∷ [])
  pedigrees_after ps (Add i j) = ps ++ ((slice_index_or ps i [] ++ slice_index_or ps j []) ∷ [])
  pedigrees_after ps (Multiply i j) = ps ++ (followed (slice_index_or ps i []) (slice_index_or ps j []) ∷ [])
  pedigrees_after ps (Flip i) = ps ++ (turned_over (slice_index_or ps i []) ∷ [])
  pedigrees_after ps Strike = take (length ps - 1) ps

  -- the pedigrees after a list of calls, by the calls and whether each was granted; a refused call alters none
  abbrev pub pedigrees_from : List (Pedigree a.F) → List (Call S × Result ℕ Refusal) → List (Pedigree a.F)
  pedigrees_from ps [] = ps
  pedigrees_from ps (c ∷ cs) = pedigrees_from (cond (is_ok c.1) (pedigrees_after ps c.0) ps) cs

  -- the pedigrees of a book that was opened and then worked by these calls
  abbrev pub pedigrees : List (Call S × Result ℕ Refusal) → List (Pedigree a.F)
  pedigrees cs = pedigrees_from [] cs

module _ {F : Type 0} (s : Semiring F) (n : ℕ) where
  -- the table of a link's list, flipped where the link is turned over
  abbrev pub link_table : Link F → Table F
  link_table l = cond l.turned (flipped (loaded s l.list)) (loaded s l.list)

  -- the product of the links' tables from left to right; of no link, the unit table
  abbrev pub chain_total : Chain F → Table F
  chain_total [] = unit_table s
  chain_total (l ∷ ls) = product s n (link_table l) (chain_total ls)

  -- the sum of the chains' totals
  abbrev pub total : Pedigree F → Table F
  total p = bag_total s (map chain_total p)
