use Rattle.std.proofs.Common.{◌≡◌, ◌+◌, ◌<◌, ◌≤◌, length, get_or, ap, ◌∙◌, ap₂, arith, rules}
use Rattle.arithmetic.specs.Semiring.{meanings}
use Rattle.matrix.proofs.Meant.{at_means, meanings_set, length-meanings}
use Rattle.sheet.proofs.Known.{sheet_sound}
use Rattle.sheet.proofs.Cells.{Turn, next_place, cells_turn, cells_end}
use Rattle.workings.proofs.Scatters.{scatter_none, scatter_more, scatter_all}
use Rattle.workings.proofs.scatter_row.Given.{Over}
use Rattle.workings.proofs.scatter_row.Goals.{In-Some}
use Rattle.workings.proofs.scatter_row.Goals as goal

-- the column and the figure of the pair that has come
turn_here : (g : Over) (c : In-Some g) → Turn g.F.Arithmetic.figures c.args.sheet.now.order c.args.sheet.now.words.now c.args.sheet.now.figures.now c.args.i (length c.loop-column.yielded) (c.in-Some.column, c.in-Some.figure)
turn_here g c = cells_turn c.args.sheet.now c.args.i (omega arith) c.loop-column.yielded c.into_iter-column-iterator.result c.loop-column.column-iterator c.next.new.self c.next.result (search rules) (search rules) c.loop-column.yielded_by c.next.ensures.steps (c.in-Some.column, c.in-Some.figure) c.in-Some.is

pub loop-column-init : goal.loop-column-init
loop-column-init g c =
    let sheet = c.args.sheet.now in
    let start : get_or sheet.words.now c.args.i 0 + 0 ≡ get_or sheet.words.now c.args.i 0 = omega arith in
    rw start (scatter_none _ _ _ _ (sheet_sound sheet) c.args.i (omega arith) _ _)

pub offset_bounds-out-column : goal.offset_bounds-out-column
offset_bounds-out-column g c =
    let turn = turn_here g (goal.at.offset_bounds-out-column g c).In-Some in
    let low : c.in-Some.column.now < length c.loop-column.out = omega (arith, turn.column, turn.below) in
    search rules

pub bounds-out-column : goal.bounds-out-column
bounds-out-column g c =
    let turn = turn_here g (goal.at.bounds-out-column g c).In-Some in
    omega (arith, turn.column, turn.below)

pub loop-column-preserved : goal.loop-column-preserved
loop-column-preserved g c =
    let a = g.F.Arithmetic.figures in
    let sheet = c.args.sheet.now in
    let p = get_or sheet.words.now c.args.i 0 + length c.loop-column.yielded in
    let turn = turn_here g (goal.at.loop-column-preserved g c).In-Some in
    let room : sheet.order ≤ length (meanings a c.loop-column.out) = simp length-meanings (omega arith) in
    let old = at_means a c.loop-column.out c.in-Some.column.now c.index-out-column.result a.ring.zero (omega (arith, turn.column, turn.below)) in
    let grown : a.meaning c.add.result ≡ a.ring.add (a.meaning (get_or c.loop-column.out c.in-Some.column.now c.index-out-column.result)) (a.meaning c.multiply.result) = c.add.ensures in
    let new = grown ∙ ap₂ a.ring.add old (c.multiply.ensures ∙ ap (a.ring.mul (a.meaning c.args.factor)) turn.figure) in
    rw (next_place, meanings_set, turn.column) (scatter_more _ _ _ _ (sheet_sound sheet) c.args.i (omega arith) _ _ _ _ p room (omega arith) (omega (arith, turn.within)) (rw turn.column at new) c.loop-column.invariant)

pub returns : goal.returns
returns g c =
    let sheet = c.args.sheet.now in
    let end = cells_end sheet c.args.i (omega arith) c.loop-column.yielded c.into_iter-column-iterator.result c.loop-column.column-iterator c.next.new.self c.next.result (search rules) (search rules) c.loop-column.yielded_by c.next.ensures.steps c.in-None.is in
    scatter_all _ _ _ _ (sheet_sound sheet) c.args.i (omega arith) _ _ _ (get_or sheet.words.now c.args.i 0 + length c.loop-column.yielded) (omega (arith, end)) c.loop-column.invariant
