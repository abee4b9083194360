-- A call that makes a new sheet: what it has of the arrays, its room, and what it leaves.
use Rattle.std.proofs.Common.{◌≡◌, ℕ, ◌+◌, ◌-◌, ◌≤◌, List, [], ◌∷◌, ◌++◌, length, take, drop, set, IsErrAnd, Err, Result, sym, ap, ap₂, ◌∙◌, subst, inl, arith}
use Rattle.std.proofs.lemmas.List.{length-drop}
use Rattle.arithmetic.specs.Semiring.{Figures}
use Rattle.matrix.specs.Tables.{Table}
use Rattle.sheet.specs.Packed.{packed_length}
use Rattle.sheet.specs.Writing.{Written}
use Rattle.sheet.specs.declared.refusal.Refusal.{Refusal}
use Rattle.book.specs.Book.{Arrays, SoundBook, OneMore, order_of, sheets_of, capacity, last_end}
use Rattle.book.specs.Lines.{Line, Passes, Granted, SentBack, room}
use Rattle.book.specs.Calls.{no_room}
use Rattle.book.proofs.Passing.{granted_both}
use Rattle.book.proofs.Early.{late_by}
use Rattle.book.proofs.Ends.{end_within, one_more, fits_from}

-- the arrays up to the last end, and from there on
pub record Split {S : Type 0} (b : Arrays S) (used free : List ℕ) (used' free' : List S) : Type 0 where
  pub used_is : used ≡ take (last_end b) b.index
  pub free_is : free ≡ drop (last_end b) b.index
  pub whole : b.index ≡ used ++ free
  pub used_is' : used' ≡ take (last_end b) b.figures
  pub free_is' : free' ≡ drop (last_end b) b.figures
  pub whole' : b.figures ≡ used' ++ free'

-- a call that makes a sheet: the lines ls come before the room and do not apply, t is the new sheet's table, and n and t'
-- are the order and the table that the writing knows
pub record Making {S : Type 0} (a : Figures S) (b : Arrays S) (ls : List Line) (t : Table a.F) (used free : List ℕ) (used' free' : List S) (n : ℕ) (t' : Table a.F) (size : ℕ) : Type 0 where
  pub sound : SoundBook a b
  pub split : Split b used free used' free'
  pub pass : Granted ls
  pub order : n ≡ order_of b
  pub same : t' ≡ t
  pub size_is : size ≡ packed_length a.ring n t'

module _ {S : Type 0} {a : Figures S} {b : Arrays S} {ls : List Line} {t : Table a.F} {used free : List ℕ} {used' free' : List S} {n : ℕ} {t' : Table a.F} {size : ℕ} (m : Making a b ls t used free used' free' n t' size) where
  is : size ≡ packed_length a.ring (order_of b) t
  is = m.size_is ∙ ap₂ (packed_length a.ring) m.order m.same

  free_long : length free ≡ capacity b - last_end b
  free_long = ap length m.split.free_is ∙ length-drop (last_end b) b.index

  -- what is free in the two arrays is as long, and small
  pub making_arrays : (length free' ≡ length free) × (length free ≤ 65536)
  making_arrays =
      let long = free_long in
      let small = m.sound.small in
      (ap length m.split.free_is' ∙ (length-drop (last_end b) b.figures ∙ (ap (λ k. k - last_end b) (sym m.sound.lengths) ∙ sym long)), omega arith)

  -- there is no room: the arrays are as they were
  pub making_sent : {A : Type 0} (r : Result A Refusal) (why : Refusal) → IsErrAnd r (λ y. y ≡ why) → room size (length free) why → (y : Refusal) × (r ≡ Err y) × (SentBack (ls ++ (no_room a b t ∷ [])) y × ◌≡◌ {A = Arrays S} (record { header = b.header; index = used ++ free; figures = used' ++ free' }) b)
  making_sent r why came told =
      let p = late_by ls (no_room a b t ∷ []) r why came m.pass (inl (told.0, told.1, (told.2.0 ∙ is, let few = told.2.1 in let long = free_long in omega arith))) in
      (p.0, p.1, (p.2, λ i. record { header = b.header; index = sym m.split.whole i; figures = sym m.split.whole' i }))

  -- there is
  module _ (roomy : Passes (room size (length free))) where
    pub making_room : packed_length a.ring n t' ≤ length free
    making_room = let fits = fits_from _ _ roomy in let e = m.size_is in omega arith

    pub making_end : last_end b + size ≤ 65536
    making_end =
        let end = end_within b m.sound.header_rules in
        let fits = fits_from _ _ roomy in
        let long = free_long in
        let small = m.sound.small in
        omega arith

    pub making_done : (header' ws : List ℕ) (fs : List S) → Written a n t' free free' ws fs → header' ≡ set (set b.header 1 (sheets_of b + 1)) (3 + sheets_of b) (last_end b + size) → Granted (ls ++ (no_room a b t ∷ [])) × OneMore a b t (record { header = header'; index = used ++ ws; figures = used' ++ fs })
    making_done header' ws fs wrote words = (
      granted_both ls (no_room a b t ∷ []) m.pass ((λ why told. roomy why (told.0, told.1, (told.2.0 ∙ sym is, let few = told.2.1 in let long = free_long in omega arith))), tt),
      one_more a b t used free used' free' m.split.used_is m.split.free_is m.split.used_is' m.split.free_is' header' ws fs (subst (λ x. Written a (order_of b) x free free' ws fs) m.same (subst (λ k. Written a k t' free free' ws fs) m.order wrote)) (words ∙ ap (λ k. set (set b.header 1 (sheets_of b + 1)) (3 + sheets_of b) (last_end b + k)) is),
    )
