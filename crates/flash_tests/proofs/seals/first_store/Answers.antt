use Rattle.std.proofs.Common.{sym, ◌∙◌, arith}
use Rattle.seal_parts.specs.MemPart.{memory_part}
use Rattle.seal_store.specs.Store.{off_at}
use Rattle.seal_store.proofs.CallerLemmas.{lived_first}
use Rattle.flash_tests.specs.declared.seals.TheConstants.{SIZES}
use Rattle.flash_tests.proofs.seals.first_store.Goals as goal

pub begin_store-requires-clause-fits : goal.begin_store-requires-clause-fits
begin_store-requires-clause-fits c = record { two = omega arith; room = omega arith }

pub returns-in-Ok : goal.returns-in-Ok
returns-in-Ok c =
    let runs = c.begin_store.ensures.runs in
    record {
      class = runs.class ∙ c.in_ok-part.ensures.class;
      banks = sym (runs.banks ∙ c.in_ok-part.ensures.banks);
      places = sym (runs.places ∙ c.in_ok-part.ensures.places);
      lived = lived_first SIZES _ (off_at (memory_part c.begin_store.new.part).flash) c.in-Ok.ensures.formatted;
    }
