use Rattle.std.specs.Prelude.{◌≡◌, ◌+◌}
use Rattle.std.proofs.Common.{sym, ap, subst, ◌∙◌}
use Rattle.machine_runs.specs.Members.{MemberSteps}
use Rattle.bus_machine.specs.Bus.{node_of}
use Rattle.bus_world.specs.Turns.{duty_of, NodeTurn}
use Rattle.bus_world.specs.History.{HistoryState}
use Rattle.bus_world.specs.Worlds.{BusState, world_of}
use Rattle.bus_world.proofs.Stepping.{in_time}
use Rattle.bus_world.proofs.Turning.{turn_is_send, noted_lines, noted_counts}
use Rattle.bus_world.proofs.world.World.step.Goals as goal

pub returns-clause-turn : goal.returns-clause-turn
returns-clause-turn g c =
    let turned = c.turn-line.ensures.turned in
    let old = c.args.self.now in
    let line = c.turn-line.result in
    let history = c.self.inside.history in
    let events : history.events ≡ old.events = ap (λ (s : BusState). s.events) c.self.view_is ∙ turned.events in
    let sent : history.lines ≡ old.sent = ap (λ (s : BusState). s.sent) c.self.view_is ∙ turned.sent in
    record {
      one = subst (λ nodes. MemberSteps NodeTurn old.nodes (node_of c.args.event.now) (duty_of (world_of old) c.args.event.now) line nodes) (sym (ap (λ (s : BusState). s.nodes) c.self.view_is)) turned.one;
      source = turned.source;
      events = ap (λ (h : HistoryState). h.events) c.note.ensures ∙ (noted_counts history line).0 ∙ ap (λ n. n + 1) events;
      most = ap (λ (h : HistoryState). h.most) c.note.ensures ∙ (noted_counts history line).1 ∙ ap (λ (s : BusState). s.most) c.self.view_is ∙ turned.most;
      sent = ap (λ (h : HistoryState). h.lines) c.note.ensures
          ∙ noted_lines history (world_of old) c.args.event.now line (sym events) (sym sent) (turn_is_send (world_of old) c.args.event.now line turned.one.before turned.one.after turned.one.step);
      is_line = c.every_line_is_one.ensures;
    }

pub returns-clause-honest : goal.returns-clause-honest
returns-clause-honest g c =
    let after : BusState = record { nodes = c.self.inside.nodes.items; events = c.note.new.self.events; most = c.note.new.self.most; sent = c.note.new.self.lines } in
    in_time c.args.self.now after c.args.event.now c.turn-line.result (returns-clause-turn g c).one c.turn-line.ensures.honest
