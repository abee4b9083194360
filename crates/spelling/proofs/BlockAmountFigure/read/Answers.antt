use Rattle.std.proofs.Common.{Some, None, arith}
use Rattle.std.proofs.lemmas.Str.Pattern.{split_parts}
use Rattle.spelling.proofs.Cutting.{block_cut}
use Rattle.spelling.proofs.BlockAmountFigure.read.Goals as goal

pub returns-in_err-upper : goal.returns-in_err-upper
returns-in_err-upper c = rw c.from_residual.ensures (λ b s. block_cut c.args.word.now None c.in_err-upper.ensures.cases b s)

pub returns-in_err-p : goal.returns-in_err-p
returns-in_err-p c =
    let at = c.in_ok-upper in
    rw c.from_residual-in_err-p.ensures (λ b s. let parts = block_cut c.args.word.now (Some (at.upper, at.lower)) at.ensures.cases b s in c.in_err-p.ensures (b.p, b.q) parts.0)

pub returns-in_err-r : goal.returns-in_err-r
returns-in_err-r c =
    let at = c.in_ok-upper in
    rw c.from_residual-in_err-r.ensures (λ b s. let parts = block_cut c.args.word.now (Some (at.upper, at.lower)) at.ensures.cases b s in c.in_err-r.ensures (b.r, b.s) parts.1)

pub returns : goal.returns
returns c =
    let at = c.in_ok-upper in
    let cut = split_parts 59 c.args.word.now (Some (at.upper, at.lower)) at.ensures.cases (omega arith) in
    (at.upper.now, at.lower.now, cut.0, c.in_ok-p.ensures, c.in_ok-r.ensures)
