use Rattle.std.proofs.Common.{◌≡◌, ℕ, ap, sym, subst, ◌∙◌, Ok, Err}
use Rattle.std.specs.Prelude.{Option, None}
use Rattle.cut_disk.specs.Calls.{Rose}
use Rattle.bus_machine.specs.declared.lines.Line.TheVariants.{Refused}
use Rattle.bus_machine.specs.declared.lines.Refusal.TheVariants.{BadLength, Key, MemoryFailure}
use Rattle.bus_machine.specs.Honest.{IsInTime, IsHeard}
use Rattle.bus_machine.specs.Node.{place_of}
use Rattle.bus_machine.specs.Steps.{receives, NodeStep}
use Rattle.freshness_routes.specs.declared.routes.Direction.TheVariants.{Receives}
use Rattle.secoc_receiver.specs.Receiving.{IfUnmoved, line_of_receive, after_receive}
use Rattle.secoc_receiver.specs.declared.receiver.Reception.{Reception}
use Rattle.secoc_receiver.specs.declared.receiver.ReceiveFault.{ReceiveFault}
use Rattle.secoc_node.specs.declared.counters.RouteCounter.TheVariants as of_route
use Rattle.secoc_node.specs.declared.faults.NodeFault.{NodeFault}
use Rattle.secoc_node.specs.declared.faults.NodeFault.TheVariants as fault
use Rattle.secoc_node.specs.Lines.{received_line, IfLeftAlone}
use Rattle.secoc_node.specs.State.{NodeState}
use Rattle.secoc_node.specs.Keeping.{node_in, state_in}
use Rattle.secoc_node.proofs.CallLaws.{PastRoute, unless_faulted, not_down, Done, step_from, served_from}
use Rattle.secoc_node.proofs.RouteLaws.{with_counter_at, not_unrouted}
use Rattle.secoc_node.proofs.ReceiveLaws.{no_sender, rx_kept, has_receiver, said_done, said_length, said_covered, said_untouched, refused_state, receive_refused, receive_failed, heard_by}
use Rattle.secoc_node.proofs.node.Node.receive.Given.{Over}
use Rattle.secoc_node.proofs.node.Node.receive.Goals as goal

pub unreachable-requires : goal.unreachable-requires
unreachable-requires g c =
    no_sender c.self.inside.known (g.C.Cells.state c.self.inside.cells) c.self.invariant c.if-not-self.false c.args.id c.in-Some.place c.in-Some.route c.in-Some.ensures
    c.index_mut.result.now c.index_mut.ensures.value c.in_default-index_mut.field-0 c.in_default-index_mut.is

pub receive-requires-clause-kept : goal.receive-requires-clause-kept
receive-requires-clause-kept g c =
    rx_kept c.self.inside.known (g.C.Cells.state c.self.inside.cells) c.self.invariant c.if-not-self.false c.args.id c.in-Some.place c.in-Some.route c.in-Some.ensures
    c.index_mut.result.now c.index_mut.ensures.value c.in-Receives.rx c.in-Receives.is

-- ---- a verdict was given

said : (g : Over) (c : goal.In-Ok g) (source : Option ℕ)
    → Done c.self.inside.known (g.C.Cells.state c.self.inside.cells) (receives c.args.id c.args.pdu.now) (received_line c.args.id c.args.pdu.now source (Ok c.in-Ok.said))
    (with_counter_at c.self.inside.known c.in-Some.place (of_route.Receives c.receive.new.rx)) (g.C.Cells.state c.receive.new.cells)
said g c source =
    said_done c.self.inside.known (g.C.Cells.state c.self.inside.cells) c.self.invariant c.if-not-self.false c.args.id c.in-Some.place c.in-Some.route c.in-Some.ensures
    c.index_mut.result.now c.index_mut.ensures.value c.in-Receives.rx c.in-Receives.is
    c.args.pdu.now source c.in-Ok.said c.receive.new.rx (g.C.Cells.state c.receive.new.cells) c.in-Ok.ensures.accepted c.in-Ok.ensures.as_before c.in-Ok.ensures.untouched
    (c.in-Ok.ensures.step (node_in c.self.inside.known) source (has_receiver c.self.inside.known (g.C.Cells.state c.self.inside.cells) c.self.invariant c.if-not-self.false c.args.id c.in-Some.place c.in-Some.route c.in-Some.ensures
    c.index_mut.result.now c.index_mut.ensures.value c.in-Receives.rx c.in-Receives.is))

pub invariant_of-self : goal.invariant_of-self
invariant_of-self g c = (said g c None).node

pub returns-in-Ok-clause-step : goal.returns-in-Ok-clause-step
returns-in-Ok-clause-step g c source = step_from c.args.self.now c.self.view_is (said g c source)

pub returns-in-Ok-clause-serves : goal.returns-in-Ok-clause-serves
returns-in-Ok-clause-serves g c =
    record {
      down = not_down c.self.inside.known (g.C.Cells.state c.self.inside.cells) c.if-not-self.false c.args.self.now c.self.view_is Reception (Ok c.in-Ok.said) tt;
      faulted = unless_faulted Reception _ (Ok c.in-Ok.said) tt;
      faults = c.in-Ok.ensures.store.faults ∙ ap (λ (s : NodeState). s.store.disk.faults) c.self.view_is;
      layout = (served_from c.args.self.now c.self.view_is (said g c None)).layout;
      runs = (served_from c.args.self.now c.self.view_is (said g c None)).runs;
      fits = (served_from c.args.self.now c.self.view_is (said g c None)).fits;
      sound = (said g c None).node.sound;
    }

pub returns-in-Ok-clause-no_route : goal.returns-in-Ok-clause-no_route
returns-in-Ok-clause-no_route g c = not_unrouted c.self.inside.known (g.C.Cells.state c.self.inside.cells) c.self.invariant c.if-not-self.false c.args.id Receives c.in-Some.place c.in-Some.route c.in-Some.ensures c.args.self.now c.self.view_is Reception (Ok c.in-Ok.said) tt

pub returns-in-Ok-clause-length : goal.returns-in-Ok-clause-length
returns-in-Ok-clause-length g c = said_length c.in-Ok.said c.args.pdu.now c.in-Receives.rx c.receive.new.rx (g.C.Cells.state c.self.inside.cells) (g.C.Cells.state c.receive.new.cells) c.in-Ok.ensures.accepted

pub returns-in-Ok-clause-covered : goal.returns-in-Ok-clause-covered
returns-in-Ok-clause-covered g c =
    said_covered c.self.inside.known (g.C.Cells.state c.self.inside.cells) c.self.invariant c.if-not-self.false c.args.id c.in-Some.place c.in-Some.route c.in-Some.ensures
    c.index_mut.result.now c.index_mut.ensures.value c.in-Receives.rx c.in-Receives.is
    c.in-Ok.said c.args.pdu.now c.receive.new.rx (g.C.Cells.state c.receive.new.cells) c.in-Ok.ensures.accepted c.in-Ok.ensures.store.kept

pub returns-in-Ok-clause-honest : goal.returns-in-Ok-clause-honest
returns-in-Ok-clause-honest g c sent source id_is pdu_is in_time fits =
    heard_by (node_in c.self.inside.known) c.args.id c.args.pdu.now (received_line c.args.id c.args.pdu.now source (Ok c.in-Ok.said)) (node_in (with_counter_at c.self.inside.known c.in-Some.place (of_route.Receives c.receive.new.rx))) c.self.invariant.sound
    (said g c source).step sent id_is pdu_is (subst (λ (s : NodeState). IsInTime s.node sent (place_of s.node c.args.id Receives)) (sym c.self.view_is) in_time) fits

pub returns-in-Ok-clause-untouched : goal.returns-in-Ok-clause-untouched
returns-in-Ok-clause-untouched g c =
    said_untouched c.self.inside.known (g.C.Cells.state c.self.inside.cells) c.self.invariant c.if-not-self.false c.args.id c.in-Some.place c.in-Some.route c.in-Some.ensures
    c.index_mut.result.now c.index_mut.ensures.value c.in-Receives.rx c.in-Receives.is
    c.args.self.now c.in-Ok.said c.receive.new.rx (g.C.Cells.state c.receive.new.cells) c.self.view_is c.in-Ok.ensures.as_before c.in-Ok.ensures.untouched

-- ---- it was refused

bad_length : (g : Over) (c : goal.In-Err-BadLength g)
    → Done c.self.inside.known (g.C.Cells.state c.self.inside.cells) (receives c.args.id c.args.pdu.now) (Refused BadLength) (with_counter_at c.self.inside.known c.in-Some.place (of_route.Receives c.receive.new.rx)) (g.C.Cells.state c.receive.new.cells)
bad_length g c =
    receive_refused c.self.inside.known (g.C.Cells.state c.self.inside.cells) c.self.invariant c.if-not-self.false c.args.id c.in-Some.place c.in-Some.route c.in-Some.ensures
    c.index_mut.result.now c.index_mut.ensures.value c.in-Receives.rx c.in-Receives.is
    c.args.pdu.now (Refused BadLength) c.receive.new.rx (g.C.Cells.state c.receive.new.cells) c.in-Err-BadLength.ensures.as_before
    (subst (λ (f : ReceiveFault). IfUnmoved (Err f) (g.C.Cells.state c.receive.new.cells ≡ g.C.Cells.state c.self.inside.cells)) c.in-Err-BadLength.field-0-is c.in-Err-BadLength.ensures.untouched)
    (subst (λ (f : ReceiveFault). NodeStep (node_in c.self.inside.known) (receives c.in-Some.route.id c.args.pdu.now) (line_of_receive c.in-Some.route.id c.args.pdu.now None (Err f))
    (after_receive (node_in c.self.inside.known) c.in-Some.route.id (Err f))) c.in-Err-BadLength.field-0-is
    (c.in-Err-BadLength.ensures.step (node_in c.self.inside.known) None (has_receiver c.self.inside.known (g.C.Cells.state c.self.inside.cells) c.self.invariant c.if-not-self.false c.args.id c.in-Some.place c.in-Some.route c.in-Some.ensures
    c.index_mut.result.now c.index_mut.ensures.value c.in-Receives.rx c.in-Receives.is)))

pub invariant_of-self-in-Err-BadLength : goal.invariant_of-self-in-Err-BadLength
invariant_of-self-in-Err-BadLength g c = (bad_length g c).node

pub returns-in-Err-BadLength-clause-step : goal.returns-in-Err-BadLength-clause-step
returns-in-Err-BadLength-clause-step g c source = step_from c.args.self.now c.self.view_is (bad_length g c)

pub returns-in-Err-BadLength-clause-serves : goal.returns-in-Err-BadLength-clause-serves
returns-in-Err-BadLength-clause-serves g c =
    record {
      down = not_down c.self.inside.known (g.C.Cells.state c.self.inside.cells) c.if-not-self.false c.args.self.now c.self.view_is Reception (Err fault.BadLength) tt;
      faulted = unless_faulted Reception _ (Err fault.BadLength) tt;
      faults = tt;
      layout = (served_from c.args.self.now c.self.view_is (bad_length g c)).layout;
      runs = (served_from c.args.self.now c.self.view_is (bad_length g c)).runs;
      fits = (served_from c.args.self.now c.self.view_is (bad_length g c)).fits;
      sound = (bad_length g c).node.sound;
    }

pub returns-in-Err-BadLength-clause-no_route : goal.returns-in-Err-BadLength-clause-no_route
returns-in-Err-BadLength-clause-no_route g c = not_unrouted c.self.inside.known (g.C.Cells.state c.self.inside.cells) c.self.invariant c.if-not-self.false c.args.id Receives c.in-Some.place c.in-Some.route c.in-Some.ensures c.args.self.now c.self.view_is Reception (Err fault.BadLength) tt

pub returns-in-Err-BadLength-clause-honest : goal.returns-in-Err-BadLength-clause-honest
returns-in-Err-BadLength-clause-honest g c sent source id_is pdu_is in_time fits =
    heard_by (node_in c.self.inside.known) c.args.id c.args.pdu.now (Refused BadLength) (node_in (with_counter_at c.self.inside.known c.in-Some.place (of_route.Receives c.receive.new.rx))) c.self.invariant.sound
    (bad_length g c).step sent id_is pdu_is (subst (λ (s : NodeState). IsInTime s.node sent (place_of s.node c.args.id Receives)) (sym c.self.view_is) in_time) fits

pub returns-in-Err-BadLength-clause-untouched : goal.returns-in-Err-BadLength-clause-untouched
returns-in-Err-BadLength-clause-untouched g c =
    refused_state c.self.inside.known (g.C.Cells.state c.self.inside.cells) c.self.invariant c.if-not-self.false c.args.id c.in-Some.place c.in-Some.route c.in-Some.ensures
    c.index_mut.result.now c.index_mut.ensures.value c.in-Receives.rx c.in-Receives.is
    c.receive.new.rx (g.C.Cells.state c.receive.new.cells) c.in-Err-BadLength.ensures.as_before
    (subst (λ (f : ReceiveFault). IfUnmoved (Err f) (g.C.Cells.state c.receive.new.cells ≡ g.C.Cells.state c.self.inside.cells)) c.in-Err-BadLength.field-0-is c.in-Err-BadLength.ensures.untouched)
    ∙ c.self.view_is

key : (g : Over) (c : goal.In-Err-Key g)
    → Done c.self.inside.known (g.C.Cells.state c.self.inside.cells) (receives c.args.id c.args.pdu.now) (Refused (Key c.in-Err-Key.refusal)) (with_counter_at c.self.inside.known c.in-Some.place (of_route.Receives c.receive.new.rx)) (g.C.Cells.state c.receive.new.cells)
key g c =
    receive_refused c.self.inside.known (g.C.Cells.state c.self.inside.cells) c.self.invariant c.if-not-self.false c.args.id c.in-Some.place c.in-Some.route c.in-Some.ensures
    c.index_mut.result.now c.index_mut.ensures.value c.in-Receives.rx c.in-Receives.is
    c.args.pdu.now (Refused (Key c.in-Err-Key.refusal)) c.receive.new.rx (g.C.Cells.state c.receive.new.cells) c.in-Err-Key.ensures.as_before
    (subst (λ (f : ReceiveFault). IfUnmoved (Err f) (g.C.Cells.state c.receive.new.cells ≡ g.C.Cells.state c.self.inside.cells)) c.in-Err-Key.field-0-is c.in-Err-Key.ensures.untouched)
    (subst (λ (f : ReceiveFault). NodeStep (node_in c.self.inside.known) (receives c.in-Some.route.id c.args.pdu.now) (line_of_receive c.in-Some.route.id c.args.pdu.now None (Err f))
    (after_receive (node_in c.self.inside.known) c.in-Some.route.id (Err f))) c.in-Err-Key.field-0-is
    (c.in-Err-Key.ensures.step (node_in c.self.inside.known) None (has_receiver c.self.inside.known (g.C.Cells.state c.self.inside.cells) c.self.invariant c.if-not-self.false c.args.id c.in-Some.place c.in-Some.route c.in-Some.ensures
    c.index_mut.result.now c.index_mut.ensures.value c.in-Receives.rx c.in-Receives.is)))

pub invariant_of-self-in-Err-Key : goal.invariant_of-self-in-Err-Key
invariant_of-self-in-Err-Key g c = (key g c).node

pub returns-in-Err-Key-clause-step : goal.returns-in-Err-Key-clause-step
returns-in-Err-Key-clause-step g c source = step_from c.args.self.now c.self.view_is (key g c)

pub returns-in-Err-Key-clause-serves : goal.returns-in-Err-Key-clause-serves
returns-in-Err-Key-clause-serves g c =
    record {
      down = not_down c.self.inside.known (g.C.Cells.state c.self.inside.cells) c.if-not-self.false c.args.self.now c.self.view_is Reception (Err (fault.Key c.in-Err-Key.refusal)) tt;
      faulted = unless_faulted Reception _ (Err (fault.Key c.in-Err-Key.refusal)) tt;
      faults = tt;
      layout = (served_from c.args.self.now c.self.view_is (key g c)).layout;
      runs = (served_from c.args.self.now c.self.view_is (key g c)).runs;
      fits = (served_from c.args.self.now c.self.view_is (key g c)).fits;
      sound = (key g c).node.sound;
    }

pub returns-in-Err-Key-clause-no_route : goal.returns-in-Err-Key-clause-no_route
returns-in-Err-Key-clause-no_route g c = not_unrouted c.self.inside.known (g.C.Cells.state c.self.inside.cells) c.self.invariant c.if-not-self.false c.args.id Receives c.in-Some.place c.in-Some.route c.in-Some.ensures c.args.self.now c.self.view_is Reception (Err (fault.Key c.in-Err-Key.refusal)) tt

pub returns-in-Err-Key-clause-honest : goal.returns-in-Err-Key-clause-honest
returns-in-Err-Key-clause-honest g c sent source id_is pdu_is in_time fits =
    heard_by (node_in c.self.inside.known) c.args.id c.args.pdu.now (Refused (Key c.in-Err-Key.refusal)) (node_in (with_counter_at c.self.inside.known c.in-Some.place (of_route.Receives c.receive.new.rx))) c.self.invariant.sound
    (key g c).step sent id_is pdu_is (subst (λ (s : NodeState). IsInTime s.node sent (place_of s.node c.args.id Receives)) (sym c.self.view_is) in_time) fits

pub returns-in-Err-Key-clause-untouched : goal.returns-in-Err-Key-clause-untouched
returns-in-Err-Key-clause-untouched g c =
    refused_state c.self.inside.known (g.C.Cells.state c.self.inside.cells) c.self.invariant c.if-not-self.false c.args.id c.in-Some.place c.in-Some.route c.in-Some.ensures
    c.index_mut.result.now c.index_mut.ensures.value c.in-Receives.rx c.in-Receives.is
    c.receive.new.rx (g.C.Cells.state c.receive.new.cells) c.in-Err-Key.ensures.as_before
    (subst (λ (f : ReceiveFault). IfUnmoved (Err f) (g.C.Cells.state c.receive.new.cells ≡ g.C.Cells.state c.self.inside.cells)) c.in-Err-Key.field-0-is c.in-Err-Key.ensures.untouched)
    ∙ c.self.view_is

-- ---- the disk failed

faulted : (g : Over) (c : goal.After-fail_at g)
    → Done c.self.inside.known (g.C.Cells.state c.self.inside.cells) (receives c.args.id c.args.pdu.now) (Refused MemoryFailure) c.fail_at.new.self (g.C.Cells.state c.receive.new.cells)
faulted g c =
    receive_failed c.self.inside.known (g.C.Cells.state c.self.inside.cells) c.self.invariant c.if-not-self.false c.args.id c.in-Some.place c.in-Some.route c.in-Some.ensures
    c.index_mut.result.now c.index_mut.ensures.value c.in-Receives.rx c.in-Receives.is
    c.args.pdu.now c.in-Err-Faulted.bound c.receive.new.rx (g.C.Cells.state c.receive.new.cells) c.fail_at.new.self c.in-Err-Faulted.ensures.as_before
    (c.in-Err-Faulted.ensures.faulted c.in-Err-Faulted.bound (ap (λ (f : ReceiveFault). Err f) c.in-Err-Faulted.field-0-is)).failed.failed
    (subst (λ (f : ReceiveFault). NodeStep (node_in c.self.inside.known) (receives c.in-Some.route.id c.args.pdu.now) (line_of_receive c.in-Some.route.id c.args.pdu.now None (Err f))
    (after_receive (node_in c.self.inside.known) c.in-Some.route.id (Err f))) c.in-Err-Faulted.field-0-is
    (c.in-Err-Faulted.ensures.step (node_in c.self.inside.known) None (has_receiver c.self.inside.known (g.C.Cells.state c.self.inside.cells) c.self.invariant c.if-not-self.false c.args.id c.in-Some.place c.in-Some.route c.in-Some.ensures
    c.index_mut.result.now c.index_mut.ensures.value c.in-Receives.rx c.in-Receives.is)))
    c.fail_at.ensures.down

past : (g : Over) (c : goal.After-fail_at g) → PastRoute {T = Reception} (Err c.fail_at.result)
past g c = subst (λ (f : NodeFault). PastRoute {T = Reception} (Err f)) (sym c.fail_at.ensures.fault) tt

pub invariant_of-self-in-Err-Faulted : goal.invariant_of-self-in-Err-Faulted
invariant_of-self-in-Err-Faulted g c = (faulted g c).node

pub returns-in-Err-Faulted-clause-step : goal.returns-in-Err-Faulted-clause-step
returns-in-Err-Faulted-clause-step g c source = rw c.fail_at.ensures.fault (step_from c.args.self.now c.self.view_is (faulted g c))

pub returns-in-Err-Faulted-clause-serves : goal.returns-in-Err-Faulted-clause-serves
returns-in-Err-Faulted-clause-serves g c =
    record {
      down = not_down c.self.inside.known (g.C.Cells.state c.self.inside.cells) c.if-not-self.false c.args.self.now c.self.view_is Reception (Err c.fail_at.result) (past g c);
      faulted = λ e. subst (λ (s : NodeState). Rose s.store.disk.faults (g.C.Cells.state c.receive.new.cells).disk.faults) c.self.view_is (c.in-Err-Faulted.ensures.faulted c.in-Err-Faulted.bound (ap (λ (f : ReceiveFault). Err f) c.in-Err-Faulted.field-0-is)).failed.rose;
      faults = tt;
      layout = (served_from c.args.self.now c.self.view_is (faulted g c)).layout;
      runs = (served_from c.args.self.now c.self.view_is (faulted g c)).runs;
      fits = (served_from c.args.self.now c.self.view_is (faulted g c)).fits;
      sound = (faulted g c).node.sound;
    }

pub returns-in-Err-Faulted-clause-no_route : goal.returns-in-Err-Faulted-clause-no_route
returns-in-Err-Faulted-clause-no_route g c = not_unrouted c.self.inside.known (g.C.Cells.state c.self.inside.cells) c.self.invariant c.if-not-self.false c.args.id Receives c.in-Some.place c.in-Some.route c.in-Some.ensures c.args.self.now c.self.view_is Reception (Err c.fail_at.result) (past g c)

pub returns-in-Err-Faulted-clause-honest : goal.returns-in-Err-Faulted-clause-honest
returns-in-Err-Faulted-clause-honest g c sent source id_is pdu_is in_time fits = subst (λ (f : NodeFault). IsHeard sent (received_line c.args.id c.args.pdu.now source (Err f))) (sym c.fail_at.ensures.fault) tt

pub returns-in-Err-Faulted-clause-untouched : goal.returns-in-Err-Faulted-clause-untouched
returns-in-Err-Faulted-clause-untouched g c =
    subst (λ (f : NodeFault). IfLeftAlone (Err f) (state_in c.fail_at.new.self (g.C.Cells.state c.receive.new.cells) ≡ c.args.self.now)) (sym c.fail_at.ensures.fault) tt
