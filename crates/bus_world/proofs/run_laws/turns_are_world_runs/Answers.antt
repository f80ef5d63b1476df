use Rattle.bus_world.proofs.WholeRun.{Laws, world_run}
use Rattle.bus_world.proofs.run_laws.turns_are_world_runs.Goals as goal

pub returns : goal.returns
returns c =
    let laws : Laws = record {
      turns = c.turns_are_runs.ensures;
      cover = c.all_freshness_is_covered.ensures;
      rise = c.accepted_freshness_rises.ensures;
      are_authentic = c.runs_are_authentic.ensures;
      are_single = c.no_freshness_is_sent_twice.ensures;
      keep_keys = c.keys_are_kept.ensures;
      skip_little = c.cuts_skip_little.ensures;
      hear = c.honest_pdus_are_accepted.ensures;
      determine = c.events_determine_lines.ensures;
    } in
    world_run laws
