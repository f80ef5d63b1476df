use Rattle.program_lives.proofs.LivesOfRuns.{Below, each_run_is_a_life}
use Rattle.program_lives.proofs.laws.each_run_is_a_life.Goals as goal

pub returns : goal.returns
returns c =
    let below : Below = record {
      headline = c.the_headline_is_a_run_of_the_bus.ensures;
      worlds = c.world_runs_are_lives.ensures;
    } in
    each_run_is_a_life below
