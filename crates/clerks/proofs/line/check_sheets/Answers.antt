use Rattle.std.proofs.Common.{rules, nat_le, refl, sym}
use Rattle.std.proofs.lemmas.Iterator.{YieldsList-from_slice}
use Rattle.std.proofs.lemmas.Iterator.Search.{find_from_yields_List}
use borrow.Author.Tests.{tests}
use Rattle.clerks.proofs.Lines.{first_missing}
use Rattle.clerks.proofs.line.check_sheets.Goals as goal

pub returns-in-Some : goal.returns-in-Some
returns-in-Some c =
    let found = find_from_yields_List (λ k. nat_le c.args.sheets k) _ _ c.find.result c.find.ensures.ran (YieldsList-from_slice c.args.line.now cc) (λ x b q k. search (rules, tests)) in
    (_, refl, first_missing c.args.line.now c.args.sheets _ (sym (rw c.in-Some.is at found)))
