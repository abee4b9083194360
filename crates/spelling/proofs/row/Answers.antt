use Rattle.std.proofs.Common.{Some, None, arith}
use Rattle.std.proofs.lemmas.Str.Pattern.{split_parts}
use Rattle.spelling.proofs.Cutting.{row_cut}
use Rattle.spelling.proofs.row.Goals as goal

pub returns-in_err-left : goal.returns-in_err-left
returns-in_err-left c = rw c.from_residual.ensures (λ x s. row_cut c.args.text.now None c.in_err-left.ensures.cases x s)

pub returns-in_err-read : goal.returns-in_err-read
returns-in_err-read c =
    let at = c.in_ok-left in
    rw c.from_residual-in_err-read.ensures (λ x s. let parts = row_cut c.args.text.now (Some (at.left, at.right)) at.ensures.cases x s in c.in_err-read.ensures x.0 parts.0)

pub returns-in_err-read-2 : goal.returns-in_err-read-2
returns-in_err-read-2 c =
    let at = c.in_ok-left in
    rw c.from_residual-in_err-read-2.ensures (λ x s. let parts = row_cut c.args.text.now (Some (at.left, at.right)) at.ensures.cases x s in c.in_err-read-2.ensures x.1 parts.1)

pub returns : goal.returns
returns c =
    let at = c.in_ok-left in
    let cut = split_parts 44 c.args.text.now (Some (at.left, at.right)) at.ensures.cases (omega arith) in
    (at.left.now, at.right.now, cut.0, c.in_ok-read.ensures, c.in_ok-read-2.ensures)
