use Rattle.std.proofs.Common.{◌+◌, refl, ◌∙◌, arith}
use Rattle.std.proofs.lemmas.List.{length-set}
use Rattle.seal_parts.proofs.ListLaws.{left_more, rest_more}
use Rattle.seal_parts.proofs.mem_part.loosen_range.Goals as goal

pub loop-i-preserved : goal.loop-i-preserved
loop-i-preserved c =
    let v = c.loop-i.invariant in
    record {
      same = length-set _ _ _ ∙ v.same;
      contents = left_more c.args.held.now.items c.loop-i.held.items c.args.start c.loop-i.i _ _ c.index.result.now (let s = v.same in omega (arith, c.requires)) refl
          c.index.ensures c.left_of-content.ensures v.rest v.contents;
      rest = rest_more c.args.held.now.items c.loop-i.held.items c.args.start (c.args.start + c.loop-i.i) _ _ (omega arith) (omega arith) v.rest;
    }
