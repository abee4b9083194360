use Rattle.std.proofs.Common.{◌≡◌, length, get_or, arith, rules}
use Rattle.arithmetic.specs.Semiring.{meanings}
use Rattle.sheet.proofs.Known.{sheet_sound}
use Rattle.sheet.proofs.Cells.{Turn, next_place, cells_turn, cells_end}
use Rattle.transpose.proofs.Hits.{hits_all}
use Rattle.transpose.proofs.Walks.{walking_none, walking_cell, walking_over, walking_done, place_free}
use Rattle.transpose.proofs.write_flipped.Given.{Over}
use Rattle.transpose.proofs.write_flipped.Goals.{In-Some}
use Rattle.transpose.proofs.write_flipped.Goals as goal

-- the column and the figure of the pair that has come
turn_here : (g : Over) (c : In-Some g) → Turn g.F.Arithmetic.figures c.args.sheet.now.order c.args.sheet.now.words.now c.args.sheet.now.figures.now c.loop-row.row (length c.loop-column.yielded) (c.in-Some.column, c.in-Some.figure)
turn_here g c = cells_turn c.args.sheet.now c.loop-row.row (omega arith) c.loop-column.yielded c.into_iter-column-iterator.result c.loop-column.column-iterator c.next.new.self c.next.result (search rules) (search rules) c.loop-column.yielded_by c.next.ensures.steps (c.in-Some.column, c.in-Some.figure) c.in-Some.is

pub write_head-requires-clause-counts : goal.write_head-requires-clause-counts
write_head-requires-clause-counts g c =
    let a = g.F.Arithmetic.figures in
    let sheet = c.args.sheet.now in
    let sound = sheet_sound sheet in
    λ k low. rw (c.count_columns-next.ensures k (omega arith)) (hits_all a.ring sheet.order sheet.words.now (meanings a sheet.figures.now) sound k)

pub loop-row-init : goal.loop-row-init
loop-row-init g c =
    let a = g.F.Arithmetic.figures in
    let sheet = c.args.sheet.now in
    let sound = sheet_sound sheet in
    let head = c.write_head.ensures in
    walking_none record { sound = sound; small = omega arith; room = omega arith; even = omega arith } c.write_head.new.index c.write_head.new.figures c.write_head.new.next head.head (omega arith) head.starts

pub move_cell-requires-clause-cell : goal.move_cell-requires-clause-cell
move_cell-requires-clause-cell g c =
    let turn = turn_here g (goal.at.move_cell-requires-clause-cell g c).In-Some in
    (omega (arith, turn.column, turn.below), omega arith)

pub move_cell-requires-clause-free : goal.move_cell-requires-clause-free
move_cell-requires-clause-free g c =
    let turn = turn_here g (goal.at.move_cell-requires-clause-free g c).In-Some in
    place_free c.loop-column.invariant c.loop-row.row (omega arith) (omega arith) (omega (arith, turn.within)) _ turn.column

pub loop-column-preserved : goal.loop-column-preserved
loop-column-preserved g c =
    let words = c.args.sheet.now.words.now in
    let turn = turn_here g (goal.at.loop-column-preserved g c).In-Some in
    let moved = c.move_cell.ensures in
    rw next_place (walking_cell c.loop-column.invariant c.loop-row.row (omega arith) (omega arith) (omega (arith, turn.within)) _ turn.column _ turn.figure _ _ _ moved.word moved.figure moved.next)

pub loop-row-preserved : goal.loop-row-preserved
loop-row-preserved g c =
    let end = cells_end c.args.sheet.now c.loop-row.row (omega arith) c.loop-column.yielded c.into_iter-column-iterator.result c.loop-column.column-iterator c.next.new.self c.next.result (search rules) (search rules) c.loop-column.yielded_by c.next.ensures.steps c.in-None.is in
    rw end at c.loop-column.invariant

pub returns-then-sheet-row : goal.returns-then-sheet-row
returns-then-sheet-row g c =
    let words = c.args.sheet.now.words.now in
    let none_left : get_or words c.loop-row.row 0 ≡ length words = omega arith in
    walking_over c.loop-row.index c.loop-row.figures c.loop-row.next (rw none_left at c.loop-row.invariant)

pub returns-after-loop-row : goal.returns-after-loop-row
returns-after-loop-row g c =
    let all : c.loop-row.row ≡ c.args.sheet.now.order = omega arith in
    walking_done c.loop-row.index c.loop-row.figures c.loop-row.next (rw all at c.loop-row.invariant)
