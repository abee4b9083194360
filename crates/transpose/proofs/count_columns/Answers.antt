use Rattle.std.proofs.Common.{◌+◌, ◌-◌, length, get_or, take, drop, refl, arith}
use Rattle.std.proofs.lemmas.List.{get_or-replicate}
use Rattle.sheet.proofs.Known.{sheet_sound}
use Rattle.transpose.proofs.Hits.{hits_few, column_past}
use Rattle.transpose.proofs.count_columns.Goals as goal

pub loop-column-init : goal.loop-column-init
loop-column-init g c = (refl, λ k low. get_or-replicate 1024 k 0 0 low)

pub bounds-counts-column : goal.bounds-counts-column
bounds-counts-column g c =
    let a = g.F.Arithmetic.figures in
    let sheet = c.args.sheet.now in
    omega (arith, column_past a.ring sheet.order sheet.words.now _ (sheet_sound sheet) c.loop-column.column-index (omega arith))

pub overflow_add-counts : goal.overflow_add-counts
overflow_add-counts g c =
    let a = g.F.Arithmetic.figures in
    let sheet = c.args.sheet.now in
    let column = get_or (take (length sheet.words.now - (sheet.order + 1)) (drop (sheet.order + 1) sheet.words.now)) c.loop-column.column-index 0 in
    let low = column_past a.ring sheet.order sheet.words.now _ (sheet_sound sheet) c.loop-column.column-index (omega arith) in
    let is = c.loop-column.invariant.1 column (omega arith) in
    let few = hits_few sheet.words.now column (sheet.order + 1) c.loop-column.column-index in
    omega arith

pub bounds-counts-column-in-loop-column : goal.bounds-counts-column-in-loop-column
bounds-counts-column-in-loop-column g c =
    let a = g.F.Arithmetic.figures in
    let sheet = c.args.sheet.now in
    omega (arith, column_past a.ring sheet.order sheet.words.now _ (sheet_sound sheet) c.loop-column.column-index (omega arith))
