use Rattle.std.proofs.Common.{refl, []}
use Rattle.seal_parts.proofs.ListLaws.{all_blank}
use Rattle.seal_parts.proofs.mem_part.MemPart.new.Goals as goal

pub returns-clause-blank : goal.returns-clause-blank
returns-clause-blank c = all_blank c.args.places _ [] c.in_ok-vec.field-0.items _ refl (c.in_ok-vec.ensures.items_if_clones_equal (λ y e. e))
