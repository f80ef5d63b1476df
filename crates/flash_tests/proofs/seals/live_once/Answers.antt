use Rattle.std.proofs.Common.{◌∙◌}
use Rattle.seal_parts.specs.MemPart.{memory_part}
use Rattle.seal_store.proofs.CallerLemmas.{store_rests}
use Rattle.flash_tests.specs.declared.seals.TheConstants.{SIZES}
use Rattle.flash_tests.proofs.seals.live_once.Goals as goal

pub returns-then-not-is_known : goal.returns-then-not-is_known
returns-then-not-is_known c = store_rests (memory_part c.start_store.new.part) SIZES c.in-Ok.store c.start_store.new.cells c.in-Ok.ensures.sizes c.in-Ok.ensures.ready

pub returns-else-not-is_known : goal.returns-else-not-is_known
returns-else-not-is_known c = store_rests (memory_part c.put_some.new.part) SIZES c.put_some.new.store c.put_some.new.cells (c.put_some.ensures.sizes ∙ c.in-Ok.ensures.sizes) c.put_some.ensures.stands
