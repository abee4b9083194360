use Rattle.std.proofs.Common.{◌<◌, length, sym, arith, rules}
use Rattle.std.proofs.lemmas.Bool.{iff_false}
use Rattle.sheet.proofs.writing.write_entry.Goals as goal

pub offset_bounds-index-at : goal.offset_bounds-index-at
offset_bounds-index-at g c =
    let a = g.F.Arithmetic.figures in
    let low : c.args.at < length c.args.index.now = c.requires.room (λ e. omega arith) (iff_false (a.ring.tests_zero _) (sym c.if-is_zero.ensures)) in
    search rules

pub bounds-index-at : goal.bounds-index-at
bounds-index-at g c =
    let a = g.F.Arithmetic.figures in
    c.requires.room (λ e. omega arith) (iff_false (a.ring.tests_zero _) (sym c.if-is_zero.ensures))

pub offset_bounds-figures-at : goal.offset_bounds-figures-at
offset_bounds-figures-at g c =
    let a = g.F.Arithmetic.figures in
    let low : c.args.at < length c.args.index.now = c.requires.room (λ e. omega arith) (iff_false (a.ring.tests_zero _) (sym c.if-is_zero.ensures)) in
    search rules

pub bounds-figures-at : goal.bounds-figures-at
bounds-figures-at g c =
    let a = g.F.Arithmetic.figures in
    let low : c.args.at < length c.args.index.now = c.requires.room (λ e. omega arith) (iff_false (a.ring.tests_zero _) (sym c.if-is_zero.ensures)) in
    search rules

pub overflow_add-result : goal.overflow_add-result
overflow_add-result g c =
    let a = g.F.Arithmetic.figures in
    let low : c.args.at < length c.args.index.now = c.requires.room (λ e. omega arith) (iff_false (a.ring.tests_zero _) (sym c.if-is_zero.ensures)) in
    search rules
