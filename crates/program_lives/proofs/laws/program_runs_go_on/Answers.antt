use Rattle.program_lives.proofs.LivesOfRuns.{Below, program_runs_go_on}
use Rattle.program_lives.proofs.laws.program_runs_go_on.Goals as goal

pub returns : goal.returns
returns c =
    let below : Below = record {
      headline = c.the_headline_is_a_run_of_the_bus.ensures;
      worlds = c.world_runs_are_lives.ensures;
    } in
    program_runs_go_on below c.lives_go_on.ensures
