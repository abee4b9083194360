use Rattle.std.proofs.Common.{◌+◌, ◌<◌, ◌≤◌, cond, eqb, length, sym, refl, ap₂, ◌∙◌, arith}
use Rattle.arithmetic.specs.Semiring.{meanings}
use Rattle.sheet.proofs.Found.{row_within}
use Rattle.sheet.proofs.Pairs.{first_sound, second_sound}
use Rattle.sum.proofs.Merges.{some_next, none_next, next_from, merging_gap, merging_row, spots_within, merged_here, merging_next}
use Rattle.sum.proofs.merge.Merge.next_cell.Given.{Over}
use Rattle.sum.proofs.merge.Merge.next_cell.Goals.{After-spot-y}
use Rattle.sum.proofs.merge.Merge.next_cell.Goals as goal

pub invariant_of-self : goal.invariant_of-self
invariant_of-self g c =
    let a = g.F.Arithmetic.figures in
    let m = c.args.self.now in
    let pair = m.pair.now in
    let fs = meanings a pair.first.figures.now in
    let gs = meanings a pair.second.figures.now in
    let over = none_next _ pair.first.order (sym c.in_default.is ∙ c.next_column.ensures) in
    record { merging = merging_row a.ring pair.first.order pair.first.words.now fs pair.second.words.now gs (first_sound pair) (second_sound pair) m.row m.from m.p m.q c.requires m.merging over }

pub returns-in_default-clause-next : goal.returns-in_default-clause-next
returns-in_default-clause-next g c =
    let a = g.F.Arithmetic.figures in
    let m = c.args.self.now in
    let pair = m.pair.now in
    let fs = meanings a pair.first.figures.now in
    let gs = meanings a pair.second.figures.now in
    let over = none_next _ pair.first.order (sym c.in_default.is ∙ c.next_column.ensures) in
    ((λ j from to. merging_gap a.ring pair.first.order pair.first.words.now fs pair.second.words.now gs (first_sound pair) (second_sound pair) m.row m.from m.p m.q c.requires m.merging j from (omega arith)), refl, refl)

-- the spots of the next column lie within the sheets
within : (g : Over) (c : After-spot-y g) → (c.spot-x.result < length c.args.self.now.pair.now.first.words.now) × (c.spot-y.result < length c.args.self.now.pair.now.second.words.now)
within g c =
    let a = g.F.Arithmetic.figures in
    let m = c.args.self.now in
    let pair = m.pair.now in
    let fs = meanings a pair.first.figures.now in
    let gs = meanings a pair.second.figures.now in
    let next = some_next _ pair.first.order c.in-Some.column (sym c.in-Some.is ∙ c.next_column.ensures) in
    spots_within a.ring pair.first.order pair.first.words.now fs pair.second.words.now gs (first_sound pair) (second_sound pair) m.row m.from m.p m.q c.requires m.merging c.in-Some.column next.0 (rw next.0 next.1) c.spot-x.result c.spot-y.result c.spot-x.ensures (rw pair.one_order at c.spot-y.ensures) (cond (eqb c.spot-x.result m.p) (m.p + 1) m.p) (cond (eqb c.spot-y.result m.q) (m.q + 1) m.q) refl refl

pub figure-requires : goal.figure-requires
figure-requires g c = (within g (goal.at.figure-requires g c).After-spot-y).0

pub figure-requires-2 : goal.figure-requires-2
figure-requires-2 g c = (within g (goal.at.figure-requires-2 g c).After-spot-y).1

pub advanced-self-requires : goal.advanced-self-requires
advanced-self-requires g c =
    let a = g.F.Arithmetic.figures in
    let m = c.args.self.now in
    let pair = m.pair.now in
    let fs = meanings a pair.first.figures.now in
    let gs = meanings a pair.second.figures.now in
    let at = m.merging.first c.requires in
    let to = at.to in
    omega (arith, row_within a.ring pair.first.order pair.first.words.now fs (first_sound pair) (m.row + 1) (omega arith), pair.small_first)

pub advanced-self-requires-2 : goal.advanced-self-requires-2
advanced-self-requires-2 g c =
    let a = g.F.Arithmetic.figures in
    let m = c.args.self.now in
    let pair = m.pair.now in
    let fs = meanings a pair.first.figures.now in
    let gs = meanings a pair.second.figures.now in
    let at = m.merging.second c.requires in
    let to = at.to in
    omega (arith, row_within a.ring pair.first.order pair.second.words.now gs (second_sound pair) (m.row + 1) (omega arith), pair.small_second)

pub invariant_of-self-2 : goal.invariant_of-self-2
invariant_of-self-2 g c =
    let a = g.F.Arithmetic.figures in
    let m = c.args.self.now in
    let pair = m.pair.now in
    let fs = meanings a pair.first.figures.now in
    let gs = meanings a pair.second.figures.now in
    let next = some_next _ pair.first.order c.in-Some.column (sym c.in-Some.is ∙ c.next_column.ensures) in
    let more = merging_next a.ring pair.first.order pair.first.words.now fs pair.second.words.now gs (first_sound pair) (second_sound pair) m.row m.from m.p m.q c.requires m.merging c.in-Some.column next.0 (rw next.0 next.1) c.spot-x.result c.spot-y.result c.spot-x.ensures (rw pair.one_order at c.spot-y.ensures) c.advanced-self.result c.advanced-self-2.result c.advanced-self.ensures c.advanced-self-2.ensures in
    record { merging = more }

pub returns-clause-next : goal.returns-clause-next
returns-clause-next g c =
    let a = g.F.Arithmetic.figures in
    let m = c.args.self.now in
    let pair = m.pair.now in
    let fs = meanings a pair.first.figures.now in
    let gs = meanings a pair.second.figures.now in
    let next = some_next _ pair.first.order c.in-Some.column (sym c.in-Some.is ∙ c.next_column.ensures) in
    let from : m.from ≤ c.in-Some.column = rw next.0 (next_from a.ring pair.first.order pair.first.words.now fs pair.second.words.now gs (first_sound pair) (second_sound pair) m.row m.from m.p m.q c.requires m.merging) in
    let short : c.in-Some.column < pair.first.order = rw next.0 next.1 in
    (from, short, (λ j low to. merging_gap a.ring pair.first.order pair.first.words.now fs pair.second.words.now gs (first_sound pair) (second_sound pair) m.row m.from m.p m.q c.requires m.merging j low (rw next.0 at to)), merged_here a.ring pair.first.order pair.first.words.now fs pair.second.words.now gs (first_sound pair) (second_sound pair) m.row m.from m.p m.q c.requires m.merging c.in-Some.column next.0 (rw next.0 next.1) c.spot-x.result c.spot-y.result c.spot-x.ensures (rw pair.one_order at c.spot-y.ensures) c.advanced-self.result c.advanced-self-2.result c.advanced-self.ensures c.advanced-self-2.ensures _ (c.add-figure.ensures ∙ ap₂ a.ring.add c.figure.ensures c.figure-2.ensures), refl, refl)
