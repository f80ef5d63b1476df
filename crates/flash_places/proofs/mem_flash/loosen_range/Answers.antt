use Rattle.std.proofs.Common.{refl, ap, ◌∙◌, arith}
use Rattle.std.proofs.lemmas.List.{length-set}
use Rattle.flash_places.specs.declared.mem_flash.MemPlace.{MemPlace}
use Rattle.flash_places.proofs.ListLaws.{content_kept, rest_more}
use Rattle.flash_places.proofs.mem_flash.loosen_range.Goals as goal

pub loop-i-preserved : goal.loop-i-preserved
loop-i-preserved c =
    let v = c.loop-i.invariant in
    record {
      same = length-set _ _ _ ∙ v.same;
      contents = λ k. content_kept c.loop-i.held.items c.loop-i.i c.index.result.now _ (let s = v.same in omega (arith, c.requires.inside))
          (ap (λ (w : MemPlace). w.content) c.index.ensures) k ∙ v.contents k;
      rest = rest_more c.args.held.now.items c.loop-i.held.items c.args.start c.loop-i.i _ _ c.loop-i.auto.i refl v.rest;
    }
