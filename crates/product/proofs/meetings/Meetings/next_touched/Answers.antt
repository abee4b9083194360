use Rattle.std.proofs.Common.{◌≡◌, ◌*◌, ◌/◌, ◌<◌, ◌≤◌, get_or, ⊎_elim, arith}
use Rattle.std.proofs.lemmas.Bool.{cases_lt}
use Rattle.product.proofs.Touched.{absent_low, absent_none, low_within}
use Rattle.product.proofs.meetings.Meetings.next_touched.Goals as goal

pub returns-then-bits-ne0 : goal.returns-then-bits-ne0
returns-then-bits-ne0 c =
    let touched = c.args.self.now.touched in
    let group = c.loop-group.group in
    let first = c.max-first.result in
    let is = c.max-first.ensures in
    let here : first / 64 ≡ group = omega arith in
    let within = low_within (get_or touched group 0) first (c.requires group) c.if-bits-ne0.true in (
      omega arith,
      λ j low high. ⊎_elim
          (λ (h : j < group * 64). c.loop-group.invariant j low h)
          (λ (h : group * 64 ≤ j). absent_low touched group first j (omega arith) here (omega arith) high)
          (cases_lt j (group * 64)),
    )

pub loop-group-preserved : goal.loop-group-preserved
loop-group-preserved c = λ j low high.
    let touched = c.args.self.now.touched in
    let group = c.loop-group.group in
    let first = c.max-first.result in
    let is = c.max-first.ensures in
    ⊎_elim
    (λ (h : j < group * 64). c.loop-group.invariant j low h)
    (λ (h : group * 64 ≤ j). absent_none touched group first j (omega arith) (omega arith) (omega arith) c.if-bits-ne0.false)
    (cases_lt j (group * 64))
