use Rattle.std.proofs.Common.{map, ◌∙◌}
use Rattle.kept_starts.specs.KeepRows.{of_look}
use Rattle.bus_commands.specs.Steps.{refused_replay, first_done}
use Rattle.bus_commands.specs.Keeping.{refused_kept, kept_done}
use Rattle.bus_commands.proofs.KeptRun.{kept_answers}
use Rattle.bus_commands.proofs.keeping.keep_and_replay.Goals as goal

pub returns-in-Err : goal.returns-in-Err
returns-in-Err g c = refused_kept (record {
  row = c.keep_refusal.result;
  comes = of_look c.in-Err.fault c.in-Err.ensures.refused c.keep_refusal.ensures;
  told = c.tell_refusal-in-Err.ensures;
})

pub returns : goal.returns
returns g c =
    kept_answers c.starts_are_set_up.ensures c.starts_go_on_at_a_first_world.ensures c.turns_leave_disks.ensures c.turns_are_world_runs.ensures
    _ _ c.args.bus.now c.args.events.now _ _ _ c.in_default.ensures.looked (λ none same. same ∙ c.in_default.ensures.unlooked none) c.replay.ensures
