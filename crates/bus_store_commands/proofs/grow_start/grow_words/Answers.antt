use Rattle.std.proofs.Common.{refl, subst}
use Rattle.bus_config.specs.Buses.{IsNamedBus}
use Rattle.program_edge.specs.NamedSources.{word_source}
use Rattle.bus_store_commands.proofs.GrowPhases.{with_routes, without_routes}
use Rattle.bus_store_commands.proofs.grow_start.grow_words.Goals as goal

pub returns-in-Ok-clause-grows : goal.returns-in-Ok-clause-grows
returns-in-Ok-clause-grows g c =
    let state = word_source g.O.Opened.Source.state g.I.Source.state in record {
      source = record { before = state c.open_word-file.result; after = state c.grow_asked.new.bus };
      named = rw c.file_over_bus.ensures at c.open_word-file.ensures.named;
      opened_once = rw c.file_over_bus.ensures at c.open_word-file.ensures.left;
      left_is = refl;
      has = with_routes _ _ _ _ _ _ c.in-Ok.bus _ _ _ (subst IsNamedBus c.bus.view_is c.bus.invariant) c.in-Ok.ensures.0 c.in-Ok.ensures.1 c.argument_at-word.ensures
          c.layout_of_bus-wanted.ensures c.node_routes.ensures c.grow_named-status.ensures.grows;
    }

pub returns-in-Err-clause-grows : goal.returns-in-Err-clause-grows
returns-in-Err-clause-grows g c =
    let state = word_source g.O.Opened.Source.state g.I.Source.state in record {
      source = record { before = state c.open_word-file.result; after = state c.grow_asked.new.bus };
      named = rw c.file_over_bus.ensures at c.open_word-file.ensures.named;
      opened_once = rw c.file_over_bus.ensures at c.open_word-file.ensures.left;
      left_is = refl;
      has = without_routes _ _ _ _ _ _ c.in-Err.refusal c.in-Err.ensures refl refl
          (record { row = c.in-Err.refusal; comes = refl; told = c.tell_refusal.ensures });
    }
