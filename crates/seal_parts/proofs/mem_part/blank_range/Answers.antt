use Rattle.std.proofs.Common.{refl, ◌∙◌, arith}
use Rattle.std.proofs.lemmas.List.{length-set}
use Rattle.seal_parts.proofs.ListLaws.{blank_more, rest_more}
use Rattle.seal_parts.proofs.mem_part.blank_range.Goals as goal

pub loop-i-preserved : goal.loop-i-preserved
loop-i-preserved c =
    let v = c.loop-i.invariant in
    record {
      same = length-set _ _ _ ∙ v.same;
      blank = blank_more c.loop-i.held.items c.args.start c.loop-i.i _ _ refl (let s = v.same in omega (arith, c.requires.inside)) refl v.blank;
      rest = rest_more c.args.held.now.items c.loop-i.held.items c.args.start c.loop-i.i _ _ c.loop-i.auto.i refl v.rest;
    }
