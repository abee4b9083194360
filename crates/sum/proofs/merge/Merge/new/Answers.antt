use Rattle.sheet.proofs.Pairs.{first_sound, second_sound}
use Rattle.sum.proofs.Merges.{merging_none}
use Rattle.sum.proofs.merge.Merge.new.Goals as goal

pub invariant_of-result : goal.invariant_of-result
invariant_of-result g c =
    let pair = c.args.pair.now in
    record { merging = merging_none g.F.Arithmetic.figures.ring pair.first.order pair.first.words.now _ pair.second.words.now _ (first_sound pair) (second_sound pair) }
