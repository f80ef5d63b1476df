use Rattle.gateway_commands.proofs.OneRun.{Laws, one_run}
use Rattle.gateway_commands.proofs.laws.gateways_are_runs.Goals as goal

pub returns : goal.returns
returns c =
    let laws : Laws = record {
      buses = c.named_buses_are_buses.ensures;
      begin_first = c.buses_begin_first.ensures;
      forwards = c.forwards_what_arrived.ensures;
      arrivals = c.arrivals_rise.ensures;
      departures = c.departures_rise.ensures;
      turns = c.gateway_turns_keep.ensures;
    } in
    one_run laws
