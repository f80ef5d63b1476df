use Rattle.endpoint_commands.proofs.OneRun.{Laws, one_run}
use Rattle.endpoint_commands.proofs.laws.endpoints_are_runs.Goals as goal

pub returns : goal.returns
returns c =
    let laws : Laws = record {
      go_on = c.starts_go_on_at_a_first_world.ensures;
      cover = c.all_freshness_is_covered.ensures;
      rise = c.accepted_freshness_rises.ensures;
      are_authentic = c.runs_are_authentic.ensures;
      are_single = c.no_freshness_is_sent_twice.ensures;
      keep_keys = c.keys_are_kept.ensures;
      determine = c.events_determine_lines.ensures;
    } in
    one_run laws
