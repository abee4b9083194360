use Rattle.std.proofs.Common.{◌≡◌, ◌+◌, length, get_or, ap, ◌∙◌, ap₂, arith, rules}
use Rattle.arithmetic.specs.Semiring.{meanings}
use Rattle.matrix.specs.Vectors.{figure_at}
use Rattle.matrix.proofs.Meant.{read_means, at_means}
use Rattle.sheet.proofs.Found.{worked_start, worked_more, worked_all}
use Rattle.sheet.proofs.Known.{sheet_sound}
use Rattle.sheet.proofs.Cells.{Turn, next_place, cells_turn, cells_end}
use Rattle.workings.proofs.work_column.Given.{Over}
use Rattle.workings.proofs.work_column.Goals.{In-Some}
use Rattle.workings.proofs.work_column.Goals as goal

-- the column and the figure of the pair that has come
turn_here : (g : Over) (c : In-Some g) → Turn g.F.Arithmetic.figures c.args.sheet.now.order c.args.sheet.now.words.now c.args.sheet.now.figures.now c.args.i (length c.loop-column.yielded) (c.in-Some.column, c.in-Some.figure)
turn_here g c = cells_turn c.args.sheet.now c.args.i (omega arith) c.loop-column.yielded c.into_iter-column-iterator.result c.loop-column.column-iterator c.next.new.self c.next.result (search rules) (search rules) c.loop-column.yielded_by c.next.ensures.steps (c.in-Some.column, c.in-Some.figure) c.in-Some.is

pub loop-column-init : goal.loop-column-init
loop-column-init g c =
    let a = g.F.Arithmetic.figures in
    let sheet = c.args.sheet.now in
    let sound = sheet_sound sheet in
    let f = at_means a sheet.figures.now c.args.i c.index-sheet-i.result a.ring.zero (omega arith) in
    let x = read_means a c.args.x.now c.args.i _ a.ring.zero (omega arith) c.index-x-i.is in
    let start : get_or sheet.words.now c.args.i 0 + 0 ≡ get_or sheet.words.now c.args.i 0 = omega arith in
    rw start (worked_start _ _ _ _ sound (figure_at a.ring (meanings a c.args.x.now)) c.args.i (omega arith) _ (c.multiply-total.ensures ∙ ap₂ a.ring.mul f x))

pub offset_bounds-x-column : goal.offset_bounds-x-column
offset_bounds-x-column g c =
    let turn = turn_here g (goal.at.offset_bounds-x-column g c).In-Some in
    omega (arith, turn.column, turn.below)

pub bounds-x-column : goal.bounds-x-column
bounds-x-column g c =
    let turn = turn_here g (goal.at.bounds-x-column g c).In-Some in
    omega (arith, turn.column, turn.below)

pub loop-column-preserved : goal.loop-column-preserved
loop-column-preserved g c =
    let a = g.F.Arithmetic.figures in
    let sheet = c.args.sheet.now in
    let p = get_or sheet.words.now c.args.i 0 + length c.loop-column.yielded in
    let turn = turn_here g (goal.at.loop-column-preserved g c).In-Some in
    let x = read_means a c.args.x.now c.in-Some.column.now _ a.ring.zero (omega (arith, turn.column, turn.below)) c.index-x-column.is in
    rw next_place (worked_more _ _ _ _ (sheet_sound sheet) (figure_at a.ring (meanings a c.args.x.now)) c.args.i (omega arith) _ _ p (omega arith) (omega (arith, turn.within)) (rw turn.column at (c.add-total.ensures ∙ ap (a.ring.add _) (c.multiply.ensures ∙ ap₂ a.ring.mul turn.figure x))) c.loop-column.invariant)

pub returns : goal.returns
returns g c =
    let a = g.F.Arithmetic.figures in
    let sheet = c.args.sheet.now in
    let end = cells_end sheet c.args.i (omega arith) c.loop-column.yielded c.into_iter-column-iterator.result c.loop-column.column-iterator c.next.new.self c.next.result (search rules) (search rules) c.loop-column.yielded_by c.next.ensures.steps c.in-None.is in
    worked_all _ _ _ _ (sheet_sound sheet) (figure_at a.ring (meanings a c.args.x.now)) c.args.i (omega arith) _ (get_or sheet.words.now c.args.i 0 + length c.loop-column.yielded) (omega (arith, end)) c.loop-column.invariant
