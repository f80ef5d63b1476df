use Rattle.std.proofs.Common.{◌≡◌, ap, sym, subst, ◌∙◌, Ok, Err, length}
use Rattle.std.specs.Prelude.{IfSome, take}
use Rattle.cut_disk.specs.Calls.{Rose}
use Rattle.bus_machine.specs.declared.lines.Line.TheVariants.{Sent, Refused}
use Rattle.bus_machine.specs.declared.lines.Refusal.TheVariants.{BadLength, Key, Exhausted, MemoryFailure}
use Rattle.bus_machine.specs.Steps.{sends, NodeStep}
use Rattle.freshness_routes.specs.declared.routes.Direction.TheVariants.{Sends, Receives}
use Rattle.secoc_sender.specs.Sending.{refusal_of_send, line_of_send, after_send}
use Rattle.secoc_sender.specs.declared.sender.Sent.{Sent as Sending}
use Rattle.secoc_sender.specs.declared.sender.SendFault.{SendFault}
use Rattle.secoc_node.specs.declared.counters.RouteCounter.TheVariants as of_route
use Rattle.secoc_node.specs.declared.faults.NodeFault.{NodeFault}
use Rattle.secoc_node.specs.declared.faults.NodeFault.TheVariants as fault
use Rattle.secoc_node.specs.State.{NodeState, IsCovered}
use Rattle.secoc_node.specs.declared.known.Known.{Known}
use Rattle.secoc_node.specs.Keeping.{node_in, state_in}
use Rattle.secoc_node.proofs.CallLaws.{PastRoute, unless_faulted, not_down, Done, step_from, served_from}
use Rattle.secoc_node.proofs.RouteLaws.{with_counter_at, not_unrouted}
use Rattle.secoc_node.proofs.SendLaws.{fits_a_pdu, no_receiver, tx_kept, has_sender, sent_done, sent_covered, sent_others, refused_state, send_refused, send_failed, failed_others}
use Rattle.secoc_node.proofs.node.Node.send.Given.{Over}
use Rattle.secoc_node.proofs.node.Node.send.Goals as goal

pub unreachable-requires : goal.unreachable-requires
unreachable-requires g c =
    no_receiver c.self.inside.known (g.C.Cells.state c.self.inside.cells) c.self.invariant c.if-not-self.false c.args.id c.in-Some.place c.in-Some.route c.in-Some.ensures
    c.index_mut.result.now c.index_mut.ensures.value c.in_default-index_mut.field-0 c.in_default-index_mut.is

pub send-requires-clause-kept : goal.send-requires-clause-kept
send-requires-clause-kept g c =
    tx_kept c.self.inside.known (g.C.Cells.state c.self.inside.cells) c.self.invariant c.if-not-self.false c.args.id c.in-Some.place c.in-Some.route c.in-Some.ensures
    c.index_mut.result.now c.index_mut.ensures.value c.in-Sends.tx c.in-Sends.is

-- ---- the payload was sent

sent : (g : Over) (c : goal.In-Ok g)
    → Done c.self.inside.known (g.C.Cells.state c.self.inside.cells) (sends c.args.id c.args.payload.now) (Sent c.args.id c.in-Ok.sent.freshness (take c.in-Ok.sent.len c.send.new.out))
    (with_counter_at c.self.inside.known c.in-Some.place (of_route.Sends c.send.new.tx)) (g.C.Cells.state c.send.new.cells)
sent g c =
    sent_done c.self.inside.known (g.C.Cells.state c.self.inside.cells) c.self.invariant c.if-not-self.false c.args.id c.in-Some.place c.in-Some.route c.in-Some.ensures
    c.index_mut.result.now c.index_mut.ensures.value c.in-Sends.tx c.in-Sends.is
    c.args.payload.now c.in-Ok.sent c.send.new.out c.send.new.tx (g.C.Cells.state c.send.new.cells) c.in-Ok.ensures.moved.counted c.in-Ok.ensures.moved.next c.in-Ok.ensures.moved.made
    (c.in-Ok.ensures.step (node_in c.self.inside.known) (has_sender c.self.inside.known (g.C.Cells.state c.self.inside.cells) c.self.invariant c.if-not-self.false c.args.id c.in-Some.place c.in-Some.route c.in-Some.ensures
    c.index_mut.result.now c.index_mut.ensures.value c.in-Sends.tx c.in-Sends.is))

pub invariant_of-self : goal.invariant_of-self
invariant_of-self g c = (sent g c).node

pub returns-in-Ok-clause-step : goal.returns-in-Ok-clause-step
returns-in-Ok-clause-step g c = step_from c.args.self.now c.self.view_is (sent g c)

pub returns-in-Ok-clause-serves : goal.returns-in-Ok-clause-serves
returns-in-Ok-clause-serves g c =
    record {
      down = not_down c.self.inside.known (g.C.Cells.state c.self.inside.cells) c.if-not-self.false c.args.self.now c.self.view_is Sending (Ok c.in-Ok.sent) tt;
      faulted = unless_faulted Sending _ (Ok c.in-Ok.sent) tt;
      faults = c.in-Ok.ensures.store.faults ∙ ap (λ (s : NodeState). s.store.disk.faults) c.self.view_is;
      layout = (served_from c.args.self.now c.self.view_is (sent g c)).layout;
      runs = (served_from c.args.self.now c.self.view_is (sent g c)).runs;
      fits = (served_from c.args.self.now c.self.view_is (sent g c)).fits;
      sound = (sent g c).node.sound;
    }

pub returns-in-Ok-clause-no_route : goal.returns-in-Ok-clause-no_route
returns-in-Ok-clause-no_route g c = not_unrouted c.self.inside.known (g.C.Cells.state c.self.inside.cells) c.self.invariant c.if-not-self.false c.args.id Sends c.in-Some.place c.in-Some.route c.in-Some.ensures c.args.self.now c.self.view_is Sending (Ok c.in-Ok.sent) tt

pub returns-in-Ok-clause-length : goal.returns-in-Ok-clause-length
returns-in-Ok-clause-length g c = c.in-Ok.ensures.sent.as_long

pub returns-in-Ok-clause-within : goal.returns-in-Ok-clause-within
returns-in-Ok-clause-within g c = fits_a_pdu c.in-Ok.sent.len (length c.args.payload.now) c.in-Ok.ensures.sent.as_long c.in-Ok.ensures.sent.secured.is_payload

pub returns-in-Ok-clause-rest : goal.returns-in-Ok-clause-rest
returns-in-Ok-clause-rest g c = c.in-Ok.ensures.sent.rest

pub returns-in-Ok-clause-covered : goal.returns-in-Ok-clause-covered
returns-in-Ok-clause-covered g c =
    sent_covered c.self.inside.known (g.C.Cells.state c.self.inside.cells) c.self.invariant c.if-not-self.false c.args.id c.in-Some.place c.in-Some.route c.in-Some.ensures
    c.index_mut.result.now c.index_mut.ensures.value c.in-Sends.tx c.in-Sends.is
    c.send.new.tx (g.C.Cells.state c.send.new.cells) c.in-Ok.sent.freshness c.in-Ok.ensures.moved.counted c.in-Ok.ensures.store.kept c.in-Ok.ensures.moved.covered

pub returns-in-Ok-clause-others : goal.returns-in-Ok-clause-others
returns-in-Ok-clause-others g c other v =
    subst (λ (s : NodeState). IsCovered s other Receives v → IsCovered (state_in (with_counter_at c.self.inside.known c.in-Some.place (of_route.Sends c.send.new.tx)) (g.C.Cells.state c.send.new.cells)) other Receives v) c.self.view_is
    (sent_others c.self.inside.known (g.C.Cells.state c.self.inside.cells) c.self.invariant c.if-not-self.false c.args.id c.in-Some.place c.in-Some.route c.in-Some.ensures
    c.index_mut.result.now c.index_mut.ensures.value c.in-Sends.tx c.in-Sends.is
    c.send.new.tx (g.C.Cells.state c.send.new.cells) c.in-Ok.ensures.moved.made other v)

-- ---- it was refused

bad_length : (g : Over) (c : goal.In-Err-BadLength g)
    → Done c.self.inside.known (g.C.Cells.state c.self.inside.cells) (sends c.args.id c.args.payload.now) (Refused BadLength) (with_counter_at c.self.inside.known c.in-Some.place (of_route.Sends c.send.new.tx)) (g.C.Cells.state c.send.new.cells)
bad_length g c =
    send_refused c.self.inside.known (g.C.Cells.state c.self.inside.cells) c.self.invariant c.if-not-self.false c.args.id c.in-Some.place c.in-Some.route c.in-Some.ensures
    c.index_mut.result.now c.index_mut.ensures.value c.in-Sends.tx c.in-Sends.is
    c.args.payload.now (Refused BadLength) c.send.new.tx (g.C.Cells.state c.send.new.cells) c.in-Err-BadLength.ensures.as_before
    (subst (λ (f : SendFault). IfSome (refusal_of_send (Err f)) (λ _. g.C.Cells.state c.send.new.cells ≡ g.C.Cells.state c.self.inside.cells)) c.in-Err-BadLength.field-0-is c.in-Err-BadLength.ensures.untouched)
    (subst (λ (f : SendFault). NodeStep (node_in c.self.inside.known) (sends c.in-Some.route.id c.args.payload.now) (line_of_send c.in-Some.route.id (Err f) c.send.new.out)
    (after_send (node_in c.self.inside.known) c.in-Some.route.id (Err f))) c.in-Err-BadLength.field-0-is
    (c.in-Err-BadLength.ensures.step (node_in c.self.inside.known) (has_sender c.self.inside.known (g.C.Cells.state c.self.inside.cells) c.self.invariant c.if-not-self.false c.args.id c.in-Some.place c.in-Some.route c.in-Some.ensures
    c.index_mut.result.now c.index_mut.ensures.value c.in-Sends.tx c.in-Sends.is)))

bad_length_same : (g : Over) (c : goal.In-Err-BadLength g) → state_in (with_counter_at c.self.inside.known c.in-Some.place (of_route.Sends c.send.new.tx)) (g.C.Cells.state c.send.new.cells) ≡ c.args.self.now
bad_length_same g c =
    refused_state c.self.inside.known (g.C.Cells.state c.self.inside.cells) c.self.invariant c.if-not-self.false c.args.id c.in-Some.place c.in-Some.route c.in-Some.ensures
    c.index_mut.result.now c.index_mut.ensures.value c.in-Sends.tx c.in-Sends.is
    c.send.new.tx (g.C.Cells.state c.send.new.cells) c.in-Err-BadLength.ensures.as_before
    (subst (λ (f : SendFault). IfSome (refusal_of_send (Err f)) (λ _. g.C.Cells.state c.send.new.cells ≡ g.C.Cells.state c.self.inside.cells)) c.in-Err-BadLength.field-0-is c.in-Err-BadLength.ensures.untouched)
    ∙ c.self.view_is

pub invariant_of-self-in-Err-BadLength : goal.invariant_of-self-in-Err-BadLength
invariant_of-self-in-Err-BadLength g c = (bad_length g c).node

pub returns-in-Err-BadLength-clause-step : goal.returns-in-Err-BadLength-clause-step
returns-in-Err-BadLength-clause-step g c = step_from c.args.self.now c.self.view_is (bad_length g c)

pub returns-in-Err-BadLength-clause-serves : goal.returns-in-Err-BadLength-clause-serves
returns-in-Err-BadLength-clause-serves g c =
    record {
      down = not_down c.self.inside.known (g.C.Cells.state c.self.inside.cells) c.if-not-self.false c.args.self.now c.self.view_is Sending (Err fault.BadLength) tt;
      faulted = unless_faulted Sending _ (Err fault.BadLength) tt;
      faults = tt;
      layout = (served_from c.args.self.now c.self.view_is (bad_length g c)).layout;
      runs = (served_from c.args.self.now c.self.view_is (bad_length g c)).runs;
      fits = (served_from c.args.self.now c.self.view_is (bad_length g c)).fits;
      sound = (bad_length g c).node.sound;
    }

pub returns-in-Err-BadLength-clause-no_route : goal.returns-in-Err-BadLength-clause-no_route
returns-in-Err-BadLength-clause-no_route g c = not_unrouted c.self.inside.known (g.C.Cells.state c.self.inside.cells) c.self.invariant c.if-not-self.false c.args.id Sends c.in-Some.place c.in-Some.route c.in-Some.ensures c.args.self.now c.self.view_is Sending (Err fault.BadLength) tt

pub returns-in-Err-BadLength-clause-others : goal.returns-in-Err-BadLength-clause-others
returns-in-Err-BadLength-clause-others g c other v covered = subst (λ (s : NodeState). IsCovered s other Receives v) (sym (bad_length_same g c)) covered

pub returns-in-Err-BadLength-clause-untouched : goal.returns-in-Err-BadLength-clause-untouched
returns-in-Err-BadLength-clause-untouched g c other = bad_length_same g c

pub returns-in-Err-BadLength-clause-unwritten : goal.returns-in-Err-BadLength-clause-unwritten
returns-in-Err-BadLength-clause-unwritten g c = c.in-Err-BadLength.ensures.unwritten

key : (g : Over) (c : goal.In-Err-Key g)
    → Done c.self.inside.known (g.C.Cells.state c.self.inside.cells) (sends c.args.id c.args.payload.now) (Refused (Key c.in-Err-Key.refusal)) (with_counter_at c.self.inside.known c.in-Some.place (of_route.Sends c.send.new.tx)) (g.C.Cells.state c.send.new.cells)
key g c =
    send_refused c.self.inside.known (g.C.Cells.state c.self.inside.cells) c.self.invariant c.if-not-self.false c.args.id c.in-Some.place c.in-Some.route c.in-Some.ensures
    c.index_mut.result.now c.index_mut.ensures.value c.in-Sends.tx c.in-Sends.is
    c.args.payload.now (Refused (Key c.in-Err-Key.refusal)) c.send.new.tx (g.C.Cells.state c.send.new.cells) c.in-Err-Key.ensures.as_before
    (subst (λ (f : SendFault). IfSome (refusal_of_send (Err f)) (λ _. g.C.Cells.state c.send.new.cells ≡ g.C.Cells.state c.self.inside.cells)) c.in-Err-Key.field-0-is c.in-Err-Key.ensures.untouched)
    (subst (λ (f : SendFault). NodeStep (node_in c.self.inside.known) (sends c.in-Some.route.id c.args.payload.now) (line_of_send c.in-Some.route.id (Err f) c.send.new.out)
    (after_send (node_in c.self.inside.known) c.in-Some.route.id (Err f))) c.in-Err-Key.field-0-is
    (c.in-Err-Key.ensures.step (node_in c.self.inside.known) (has_sender c.self.inside.known (g.C.Cells.state c.self.inside.cells) c.self.invariant c.if-not-self.false c.args.id c.in-Some.place c.in-Some.route c.in-Some.ensures
    c.index_mut.result.now c.index_mut.ensures.value c.in-Sends.tx c.in-Sends.is)))

key_same : (g : Over) (c : goal.In-Err-Key g) → state_in (with_counter_at c.self.inside.known c.in-Some.place (of_route.Sends c.send.new.tx)) (g.C.Cells.state c.send.new.cells) ≡ c.args.self.now
key_same g c =
    refused_state c.self.inside.known (g.C.Cells.state c.self.inside.cells) c.self.invariant c.if-not-self.false c.args.id c.in-Some.place c.in-Some.route c.in-Some.ensures
    c.index_mut.result.now c.index_mut.ensures.value c.in-Sends.tx c.in-Sends.is
    c.send.new.tx (g.C.Cells.state c.send.new.cells) c.in-Err-Key.ensures.as_before
    (subst (λ (f : SendFault). IfSome (refusal_of_send (Err f)) (λ _. g.C.Cells.state c.send.new.cells ≡ g.C.Cells.state c.self.inside.cells)) c.in-Err-Key.field-0-is c.in-Err-Key.ensures.untouched)
    ∙ c.self.view_is

pub invariant_of-self-in-Err-Key : goal.invariant_of-self-in-Err-Key
invariant_of-self-in-Err-Key g c = (key g c).node

pub returns-in-Err-Key-clause-step : goal.returns-in-Err-Key-clause-step
returns-in-Err-Key-clause-step g c = step_from c.args.self.now c.self.view_is (key g c)

pub returns-in-Err-Key-clause-serves : goal.returns-in-Err-Key-clause-serves
returns-in-Err-Key-clause-serves g c =
    record {
      down = not_down c.self.inside.known (g.C.Cells.state c.self.inside.cells) c.if-not-self.false c.args.self.now c.self.view_is Sending (Err (fault.Key c.in-Err-Key.refusal)) tt;
      faulted = unless_faulted Sending _ (Err (fault.Key c.in-Err-Key.refusal)) tt;
      faults = tt;
      layout = (served_from c.args.self.now c.self.view_is (key g c)).layout;
      runs = (served_from c.args.self.now c.self.view_is (key g c)).runs;
      fits = (served_from c.args.self.now c.self.view_is (key g c)).fits;
      sound = (key g c).node.sound;
    }

pub returns-in-Err-Key-clause-no_route : goal.returns-in-Err-Key-clause-no_route
returns-in-Err-Key-clause-no_route g c = not_unrouted c.self.inside.known (g.C.Cells.state c.self.inside.cells) c.self.invariant c.if-not-self.false c.args.id Sends c.in-Some.place c.in-Some.route c.in-Some.ensures c.args.self.now c.self.view_is Sending (Err (fault.Key c.in-Err-Key.refusal)) tt

pub returns-in-Err-Key-clause-others : goal.returns-in-Err-Key-clause-others
returns-in-Err-Key-clause-others g c other v covered = subst (λ (s : NodeState). IsCovered s other Receives v) (sym (key_same g c)) covered

pub returns-in-Err-Key-clause-untouched : goal.returns-in-Err-Key-clause-untouched
returns-in-Err-Key-clause-untouched g c other = key_same g c

pub returns-in-Err-Key-clause-unwritten : goal.returns-in-Err-Key-clause-unwritten
returns-in-Err-Key-clause-unwritten g c = c.in-Err-Key.ensures.unwritten

exhausted : (g : Over) (c : goal.In-Err-Exhausted g)
    → Done c.self.inside.known (g.C.Cells.state c.self.inside.cells) (sends c.args.id c.args.payload.now) (Refused Exhausted) (with_counter_at c.self.inside.known c.in-Some.place (of_route.Sends c.send.new.tx)) (g.C.Cells.state c.send.new.cells)
exhausted g c =
    send_refused c.self.inside.known (g.C.Cells.state c.self.inside.cells) c.self.invariant c.if-not-self.false c.args.id c.in-Some.place c.in-Some.route c.in-Some.ensures
    c.index_mut.result.now c.index_mut.ensures.value c.in-Sends.tx c.in-Sends.is
    c.args.payload.now (Refused Exhausted) c.send.new.tx (g.C.Cells.state c.send.new.cells) c.in-Err-Exhausted.ensures.as_before
    (subst (λ (f : SendFault). IfSome (refusal_of_send (Err f)) (λ _. g.C.Cells.state c.send.new.cells ≡ g.C.Cells.state c.self.inside.cells)) c.in-Err-Exhausted.field-0-is c.in-Err-Exhausted.ensures.untouched)
    (subst (λ (f : SendFault). NodeStep (node_in c.self.inside.known) (sends c.in-Some.route.id c.args.payload.now) (line_of_send c.in-Some.route.id (Err f) c.send.new.out)
    (after_send (node_in c.self.inside.known) c.in-Some.route.id (Err f))) c.in-Err-Exhausted.field-0-is
    (c.in-Err-Exhausted.ensures.step (node_in c.self.inside.known) (has_sender c.self.inside.known (g.C.Cells.state c.self.inside.cells) c.self.invariant c.if-not-self.false c.args.id c.in-Some.place c.in-Some.route c.in-Some.ensures
    c.index_mut.result.now c.index_mut.ensures.value c.in-Sends.tx c.in-Sends.is)))

exhausted_same : (g : Over) (c : goal.In-Err-Exhausted g) → state_in (with_counter_at c.self.inside.known c.in-Some.place (of_route.Sends c.send.new.tx)) (g.C.Cells.state c.send.new.cells) ≡ c.args.self.now
exhausted_same g c =
    refused_state c.self.inside.known (g.C.Cells.state c.self.inside.cells) c.self.invariant c.if-not-self.false c.args.id c.in-Some.place c.in-Some.route c.in-Some.ensures
    c.index_mut.result.now c.index_mut.ensures.value c.in-Sends.tx c.in-Sends.is
    c.send.new.tx (g.C.Cells.state c.send.new.cells) c.in-Err-Exhausted.ensures.as_before
    (subst (λ (f : SendFault). IfSome (refusal_of_send (Err f)) (λ _. g.C.Cells.state c.send.new.cells ≡ g.C.Cells.state c.self.inside.cells)) c.in-Err-Exhausted.field-0-is c.in-Err-Exhausted.ensures.untouched)
    ∙ c.self.view_is

pub invariant_of-self-in-Err-Exhausted : goal.invariant_of-self-in-Err-Exhausted
invariant_of-self-in-Err-Exhausted g c = (exhausted g c).node

pub returns-in-Err-Exhausted-clause-step : goal.returns-in-Err-Exhausted-clause-step
returns-in-Err-Exhausted-clause-step g c = step_from c.args.self.now c.self.view_is (exhausted g c)

pub returns-in-Err-Exhausted-clause-serves : goal.returns-in-Err-Exhausted-clause-serves
returns-in-Err-Exhausted-clause-serves g c =
    record {
      down = not_down c.self.inside.known (g.C.Cells.state c.self.inside.cells) c.if-not-self.false c.args.self.now c.self.view_is Sending (Err fault.Exhausted) tt;
      faulted = unless_faulted Sending _ (Err fault.Exhausted) tt;
      faults = tt;
      layout = (served_from c.args.self.now c.self.view_is (exhausted g c)).layout;
      runs = (served_from c.args.self.now c.self.view_is (exhausted g c)).runs;
      fits = (served_from c.args.self.now c.self.view_is (exhausted g c)).fits;
      sound = (exhausted g c).node.sound;
    }

pub returns-in-Err-Exhausted-clause-no_route : goal.returns-in-Err-Exhausted-clause-no_route
returns-in-Err-Exhausted-clause-no_route g c = not_unrouted c.self.inside.known (g.C.Cells.state c.self.inside.cells) c.self.invariant c.if-not-self.false c.args.id Sends c.in-Some.place c.in-Some.route c.in-Some.ensures c.args.self.now c.self.view_is Sending (Err fault.Exhausted) tt

pub returns-in-Err-Exhausted-clause-others : goal.returns-in-Err-Exhausted-clause-others
returns-in-Err-Exhausted-clause-others g c other v covered = subst (λ (s : NodeState). IsCovered s other Receives v) (sym (exhausted_same g c)) covered

pub returns-in-Err-Exhausted-clause-untouched : goal.returns-in-Err-Exhausted-clause-untouched
returns-in-Err-Exhausted-clause-untouched g c other = exhausted_same g c

pub returns-in-Err-Exhausted-clause-unwritten : goal.returns-in-Err-Exhausted-clause-unwritten
returns-in-Err-Exhausted-clause-unwritten g c = c.in-Err-Exhausted.ensures.unwritten

-- ---- the disk failed

faulted : (g : Over) (c : goal.After-fail_at g)
    → Done c.self.inside.known (g.C.Cells.state c.self.inside.cells) (sends c.args.id c.args.payload.now) (Refused MemoryFailure) c.fail_at.new.self (g.C.Cells.state c.send.new.cells)
faulted g c =
    send_failed c.self.inside.known (g.C.Cells.state c.self.inside.cells) c.self.invariant c.if-not-self.false c.args.id c.in-Some.place c.in-Some.route c.in-Some.ensures
    c.index_mut.result.now c.index_mut.ensures.value c.in-Sends.tx c.in-Sends.is
    c.args.payload.now c.in-Err-Faulted.bound c.send.new.tx (g.C.Cells.state c.send.new.cells) c.fail_at.new.self c.in-Err-Faulted.ensures.as_before
    (c.in-Err-Faulted.ensures.faulted c.in-Err-Faulted.bound (ap (λ (f : SendFault). Err f) c.in-Err-Faulted.field-0-is)).failed
    (subst (λ (f : SendFault). NodeStep (node_in c.self.inside.known) (sends c.in-Some.route.id c.args.payload.now) (line_of_send c.in-Some.route.id (Err f) c.send.new.out)
    (after_send (node_in c.self.inside.known) c.in-Some.route.id (Err f))) c.in-Err-Faulted.field-0-is
    (c.in-Err-Faulted.ensures.step (node_in c.self.inside.known) (has_sender c.self.inside.known (g.C.Cells.state c.self.inside.cells) c.self.invariant c.if-not-self.false c.args.id c.in-Some.place c.in-Some.route c.in-Some.ensures
    c.index_mut.result.now c.index_mut.ensures.value c.in-Sends.tx c.in-Sends.is)))
    c.fail_at.ensures.down

past : (g : Over) (c : goal.After-fail_at g) → PastRoute {T = Sending} (Err c.fail_at.result)
past g c = subst (λ (f : NodeFault). PastRoute {T = Sending} (Err f)) (sym c.fail_at.ensures.fault) tt

pub invariant_of-self-in-Err-Faulted : goal.invariant_of-self-in-Err-Faulted
invariant_of-self-in-Err-Faulted g c = (faulted g c).node

pub returns-in-Err-Faulted-clause-step : goal.returns-in-Err-Faulted-clause-step
returns-in-Err-Faulted-clause-step g c = rw c.fail_at.ensures.fault (step_from c.args.self.now c.self.view_is (faulted g c))

pub returns-in-Err-Faulted-clause-serves : goal.returns-in-Err-Faulted-clause-serves
returns-in-Err-Faulted-clause-serves g c =
    record {
      down = not_down c.self.inside.known (g.C.Cells.state c.self.inside.cells) c.if-not-self.false c.args.self.now c.self.view_is Sending (Err c.fail_at.result) (past g c);
      faulted = λ e. subst (λ (s : NodeState). Rose s.store.disk.faults (g.C.Cells.state c.send.new.cells).disk.faults) c.self.view_is (c.in-Err-Faulted.ensures.faulted c.in-Err-Faulted.bound (ap (λ (f : SendFault). Err f) c.in-Err-Faulted.field-0-is)).rose;
      faults = tt;
      layout = (served_from c.args.self.now c.self.view_is (faulted g c)).layout;
      runs = (served_from c.args.self.now c.self.view_is (faulted g c)).runs;
      fits = (served_from c.args.self.now c.self.view_is (faulted g c)).fits;
      sound = (faulted g c).node.sound;
    }

pub returns-in-Err-Faulted-clause-no_route : goal.returns-in-Err-Faulted-clause-no_route
returns-in-Err-Faulted-clause-no_route g c = not_unrouted c.self.inside.known (g.C.Cells.state c.self.inside.cells) c.self.invariant c.if-not-self.false c.args.id Sends c.in-Some.place c.in-Some.route c.in-Some.ensures c.args.self.now c.self.view_is Sending (Err c.fail_at.result) (past g c)

pub returns-in-Err-Faulted-clause-others : goal.returns-in-Err-Faulted-clause-others
returns-in-Err-Faulted-clause-others g c other v =
    subst (λ (s : NodeState). IsCovered s other Receives v → IsCovered (state_in c.fail_at.new.self (g.C.Cells.state c.send.new.cells)) other Receives v) c.self.view_is
    (failed_others c.self.inside.known (g.C.Cells.state c.self.inside.cells) c.self.invariant c.if-not-self.false c.args.id c.in-Some.place c.in-Some.route c.in-Some.ensures
    c.index_mut.result.now c.index_mut.ensures.value c.in-Sends.tx c.in-Sends.is
    c.in-Err-Faulted.bound (g.C.Cells.state c.send.new.cells) c.fail_at.new.self (c.in-Err-Faulted.ensures.faulted c.in-Err-Faulted.bound (ap (λ (f : SendFault). Err f) c.in-Err-Faulted.field-0-is)).failed
    (ap (λ (k : Known). k.config) c.fail_at.ensures.down) other v)

pub returns-in-Err-Faulted-clause-untouched : goal.returns-in-Err-Faulted-clause-untouched
returns-in-Err-Faulted-clause-untouched g c apart = absurd (apart c.fail_at.ensures.fault)

pub returns-in-Err-Faulted-clause-unwritten : goal.returns-in-Err-Faulted-clause-unwritten
returns-in-Err-Faulted-clause-unwritten g c = c.in-Err-Faulted.ensures.unwritten
