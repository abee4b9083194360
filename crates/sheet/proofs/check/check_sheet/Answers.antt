use Rattle.std.proofs.Common.{◌≡◌, ◌+◌, slice_index, refl, arith, below_more}
use Rattle.std.proofs.lemmas.Bool.{false≢true}
use Rattle.sheet.proofs.Rows.{walk_rises}
use Rattle.sheet.proofs.check.check_sheet.Goals as goal

pub loop-p-preserved : goal.loop-p-preserved
loop-p-preserved g c = below_more _ _ c.loop-p.invariant record { head = λ h. c.if-not-head_keeps.ensures.0 refl; cell = λ h. absurd (omega arith) }

pub loop-row-init : goal.loop-row-init
loop-row-init g c =
    let start = ((c.loop-p.invariant 0 (omega arith)).head (omega arith)).first refl in
    record { past = omega arith; within = omega arith; row = omega arith; from = omega arith; keep = λ j h. c.loop-p.invariant j (omega arith) }

pub cell_keeps-requires : goal.cell_keeps-requires
cell_keeps-requires g c =
    let w = c.loop-p-2.invariant in
    let past = w.past in
    let from = w.from in
    let within = ((w.keep (c.loop-row.row + 1) (omega arith)).head (omega arith)).within (omega arith) in
    record { sizes = (omega arith, (omega arith, (omega arith, walk_rises w))); in_row = (omega arith, (omega arith, omega arith)) }

pub returns-then-not-cell_keeps : goal.returns-then-not-cell_keeps
returns-then-not-cell_keeps g c =
    let w = c.loop-p-2.invariant in
    let past = w.past in
    let within = ((w.keep (c.loop-row.row + 1) (omega arith)).head (omega arith)).within (omega arith) in
    (c.loop-p-2.p, refl, (omega arith, (λ rule. false≢true (c.if-not-cell_keeps.ensures.1 rule)), w.keep))

pub loop-p-2-preserved : goal.loop-p-2-preserved
loop-p-2-preserved g c =
    let w = c.loop-p-2.invariant in
    let past = w.past in
    let from = w.from in
    let within = ((w.keep (c.loop-row.row + 1) (omega arith)).head (omega arith)).within (omega arith) in
    record { past = omega arith; within = omega arith; row = w.row; from = omega arith; keep = below_more _ _ w.keep (c.if-not-cell_keeps.ensures.0 refl) }

pub loop-row-preserved : goal.loop-row-preserved
loop-row-preserved g c =
    let w = c.loop-p-2.invariant in
    let past = w.past in
    let up = walk_rises w c.loop-row.row (c.loop-row.row + 1) (omega arith) (omega arith) in
    let e : c.loop-p-2.p ≡ slice_index c.args.words.now (c.loop-row.row + 1) = omega arith in
    record { past = omega arith; within = omega (arith, w.within); row = omega arith; from = omega arith; keep = λ j h. w.keep j (omega arith) }

pub returns-after-loop-row : goal.returns-after-loop-row
returns-after-loop-row g c =
    let w = c.loop-row.invariant in
    let past = w.past in
    let e : c.loop-row.row ≡ c.args.order = omega arith in
    let last = ((w.keep c.args.order (omega arith)).head (omega arith)).last refl in
    record { room = omega arith; rules = λ p low. w.keep p (rw (e, last) low) }
