use Rattle.bus_store_commands.proofs.MakePhases.{row_made, row_unmade}
use Rattle.bus_store_commands.proofs.make.make_over.Goals as goal

pub make_store-requires : goal.make_store-requires
make_store-requires g c = c.node_config.ensures.good

pub returns-in-Ok : goal.returns-in-Ok
returns-in-Ok g c =
    record {
      row = record { status = 0; text = c.as_slice.result.now };
      comes = row_made _ _ _ _ c.kind.ensures c.version.ensures c.node_config.ensures.config _ _ _ _ c.as_slice.ensures.value c.requires.text c.in-Ok.ensures.made;
      told = c.tell.ensures;
    }

pub returns-in-Err : goal.returns-in-Err
returns-in-Err g c =
    record {
      row = c.make_refusal-refusal.result;
      comes = row_unmade _ _ _ _ c.kind.ensures c.version.ensures c.node_config.ensures.config _ _ c.in-Err.unmade.fault _ c.node_config.ensures.good c.in-Err.ensures.refused
          c.make_refusal-refusal.ensures;
      told = c.tell_refusal.ensures;
    }
