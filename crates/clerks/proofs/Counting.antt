-- Bags by counting, and a test of equality on chains from one on figures.
use Rattle.std.proofs.Common.{◌≡◌, ℕ, suc, ◌<◌, Bool, true, false, cond, not, ◌&&◌, eqb, List, [], ◌∷◌, sym, refl, ap, ◌∙◌, ap₂, ⊎_elim, arith}
use Rattle.std.proofs.lemmas.Bool.{cases_Bool, and_parts, and_from, eqb-true, eq-eqb}
use Rattle.arithmetic.specs.Semiring.{Figures}
use Rattle.matrix.specs.Bags.{SameBag, none, keep, swap, then}
use Rattle.sheet.specs.Loading.{Entry}
use Rattle.clerks.specs.Pedigree.{Link}
use Rattle.clerks.specs.Counting.{Tells, often, BagsByCounting, ChainsTold}

bag_itself : {A : Type 0} (xs : List A) → SameBag xs xs
bag_itself [] = none
bag_itself (x ∷ xs) = keep (bag_itself xs)

one_less : (b : Bool) (k l : ℕ) → cond b (suc k) k ≡ cond b (suc l) l → k ≡ l
one_less true k l e = omega arith
one_less false k l e = e

module _ {A : Type 0} (test : A → A → Bool) (tells : Tells test) where
  -- the same bag holds x equally often
  bag_often : {xs ys : List A} → SameBag xs ys → (x : A) → often test x xs ≡ often test x ys
  bag_often none x = refl
  bag_often (keep {x = y} bag) x = ap (λ k. cond (test x y) (suc k) k) (bag_often bag x)
  bag_often (swap {x = y} {y = z} {xs = xs}) x = go (test x y) (test x z)
    where
      go : (b c : Bool) → cond b (suc (cond c (suc (often test x xs)) (often test x xs))) (cond c (suc (often test x xs)) (often test x xs)) ≡ cond c (suc (cond b (suc (often test x xs)) (often test x xs))) (cond b (suc (often test x xs)) (often test x xs))
      go true true = refl
      go true false = refl
      go false true = refl
      go false false = refl
  bag_often (then bag more) x = bag_often bag x ∙ bag_often more x

  -- what is in a bag can be put first
  put_first : (x : A) (ys : List A) → 0 < often test x ys → (rest : List A) × SameBag (x ∷ rest) ys
  put_first x [] some = absurd (omega arith)
  put_first x (y ∷ ys) some = ⊎_elim
      (λ (e : test x y ≡ true). let is = (tells x y).0 e in (ys, rw is (bag_itself (y ∷ ys))))
      (λ (e : test x y ≡ false).
      let more = put_first x ys (rw e at some) in
      (y ∷ more.0, then swap (keep more.1)))
      (cases_Bool (test x y))

  counted_bag : (xs ys : List A) → ((x : A) → often test x xs ≡ often test x ys) → SameBag xs ys
  counted_bag [] [] even = none
  counted_bag [] (y ∷ ys) even = absurd (let e = rw ((tells y y).1 refl) at (even y) in omega arith)
  counted_bag (x ∷ xs) ys even =
      let e = rw ((tells x x).1 refl) at (even x) in
      let first = put_first x ys (omega arith) in
      then (keep (counted_bag xs first.0 (λ z. one_less (test z x) _ _ (even z ∙ sym (bag_often first.1 z))))) first.1

pub bags_by_counting_lem : {S : Type 0} (a : Figures S) → BagsByCounting a
bags_by_counting_lem a test tells p q = (bag_often test tells, counted_bag test tells p q)

-- tests made of tests
abbrev list_test : {A : Type 0} → (A → A → Bool) → List A → List A → Bool
list_test test [] [] = true
list_test test [] (y ∷ ys) = false
list_test test (x ∷ xs) [] = false
list_test test (x ∷ xs) (y ∷ ys) = test x y && list_test test xs ys

list_tells : {A : Type 0} (test : A → A → Bool) → Tells test → Tells (list_test test)
list_tells test tells [] [] = (λ e. refl, λ e. refl)
list_tells test tells [] (y ∷ ys) = (λ e. cc, λ e. cc)
list_tells test tells (x ∷ xs) [] = (λ e. cc, λ e. cc)
list_tells test tells (x ∷ xs) (y ∷ ys) =
    let rest = list_tells test tells xs ys in (
      λ e. let both = and_parts (test x y) (list_test test xs ys) e in ap₂ ◌∷◌ ((tells x y).0 both.0) (rest.0 both.1),
      λ e. and_from (test x y) (list_test test xs ys) ((tells x y).1 (cc)) (rest.1 (cc)),
    )

module _ {F : Type 0} (test : F → F → Bool) (tells : Tells test) where
  abbrev entry_test : Entry F → Entry F → Bool
  entry_test d e = eqb d.row e.row && (eqb d.column e.column && test d.figure e.figure)

  entry_tells : Tells entry_test
  entry_tells d e = (
    λ same.
        let one = and_parts (eqb d.row e.row) _ same in
        let two = and_parts (eqb d.column e.column) _ one.1 in
        λ i. record { row = eqb-true d.row e.row one.0 i; column = eqb-true d.column e.column two.0 i; figure = (tells d.figure e.figure).0 two.1 i },
    λ same. and_from _ _ (eq-eqb d.row e.row (ap (λ (z : Entry F). z.row) same)) (and_from _ _ (eq-eqb d.column e.column (ap (λ (z : Entry F). z.column) same)) ((tells d.figure e.figure).1 (ap (λ (z : Entry F). z.figure) same))),
  )

  abbrev both_or_neither : Bool → Bool → Bool
  both_or_neither b c = cond b c (not c)

  bool_tells : Tells both_or_neither
  bool_tells true true = (λ e. refl, λ e. refl)
  bool_tells true false = (λ e. cc, λ e. cc)
  bool_tells false true = (λ e. cc, λ e. cc)
  bool_tells false false = (λ e. refl, λ e. refl)

  abbrev link_test : Link F → Link F → Bool
  link_test l m = list_test entry_test l.list m.list && both_or_neither l.turned m.turned

  link_tells : Tells link_test
  link_tells l m =
      let lists = list_tells entry_test entry_tells l.list m.list in
      let turns = bool_tells l.turned m.turned in (
        λ same. let both = and_parts (list_test entry_test l.list m.list) _ same in λ i. record { list = lists.0 both.0 i; turned = turns.0 both.1 i },
        λ same. and_from _ _ (lists.1 (ap (λ (z : Link F). z.list) same)) (turns.1 (ap (λ (z : Link F). z.turned) same)),
      )

pub chains_told : {S : Type 0} (a : Figures S) → ChainsTold a
chains_told a test tells = (list_test (link_test test tells), list_tells (link_test test tells) (link_tells test tells))
