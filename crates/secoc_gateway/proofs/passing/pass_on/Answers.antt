use Rattle.std.specs.Prelude.{◌≡◌, None, Err}
use Rattle.std.proofs.Common.{◌∙◌, refl, ap, arith, take}
use Rattle.std.proofs.lemmas.Result.{IfErr-at_err}
use Rattle.cut_disk.proofs.CallerLemmas.{runs_join, runs_more}
use Rattle.bus_machine.specs.declared.lines.Line.TheVariants.{Sent, Accepted, FreshnessFailure, VerificationFailure, Refused}
use Rattle.bus_machine.specs.Steps.{sends, receives}
use Rattle.secoc_node.specs.declared.faults.NodeFault.{NodeFault}
use Rattle.secoc_node.specs.Lines.{refusal_of_fault}
use Rattle.secoc_node.specs.State.{NodeState}
use Rattle.secoc_gateway.proofs.Arriving.{ok_down, err_down, drop_rose, drop_same, refuse_rose, refuse_same, reason_of, brought_line, in_time, forwards_right, drops_not, refuses_not}
use Rattle.bus_world.proofs.CallerLemmas.{calm_turn, sends_no_cut, receives_no_cut, faults_told, alone_told, unmoved_by}
use Rattle.secoc_gateway.proofs.passing.pass_on.Goals as goal

-- ---- what was accepted departed

pub returns-in-Ok-clause-step : goal.returns-in-Ok-clause-step
returns-in-Ok-clause-step g c place = record {
  first = Accepted c.args.id c.in-Ok-Accepted.freshness (take c.in-Ok-Accepted.len c.args.pdu.now) None;
  between = c.receive.new.self.node;
  arrives = rw c.in-Ok-Accepted.field-0-is at (c.in-Ok-Accepted.ensures.step None);
  departs = (
    Sent c.args.second c.in-Ok.sent.freshness (take c.in-Ok.sent.len c.send.new.out),
    rw c.front-payload.ensures at c.in-Ok.ensures.step,
    refl,
  );
}

pub returns-in-Ok-clause-turn : goal.returns-in-Ok-clause-turn
returns-in-Ok-clause-turn g c place = record {
  first = Accepted c.args.id c.in-Ok-Accepted.freshness (take c.in-Ok-Accepted.len c.args.pdu.now) None;
  between = c.receive.new.self;
  arrives = calm_turn c.args.node.now c.receive.new.self (receives c.args.id c.args.pdu.now) _
      (rw c.in-Ok-Accepted.field-0-is at (c.in-Ok-Accepted.ensures.step None))
      (receives_no_cut c.args.id c.args.pdu.now) c.receive.ensures.serves.layout c.receive.ensures.serves.runs c.receive.ensures.serves.fits c.in-Ok-Accepted.ensures.serves.faults tt c.receive.ensures.serves.sound;
  departs = (
    Sent c.args.second c.in-Ok.sent.freshness (take c.in-Ok.sent.len c.send.new.out),
    calm_turn c.receive.new.self c.send.new.self (sends c.args.second (take c.in-Ok-Accepted.len c.args.pdu.now)) _
        (rw c.front-payload.ensures at c.in-Ok.ensures.step)
        (sends_no_cut c.args.second (take c.in-Ok-Accepted.len c.args.pdu.now)) c.send.ensures.serves.layout c.send.ensures.serves.runs c.send.ensures.serves.fits
        c.in-Ok.ensures.serves.faults
        tt c.send.ensures.serves.sound,
    refl,
  );
}

pub returns-in-Ok-clause-forwards : goal.returns-in-Ok-clause-forwards
returns-in-Ok-clause-forwards g c payload v can =
    forwards_right c.args.node.now.node c.receive.new.self.node c.send.new.self.node c.args.id c.args.second c.args.pdu.now (take c.in-Ok-Accepted.len c.args.pdu.now) payload
    c.in-Ok-Accepted.freshness c.in-Ok.sent.freshness v (take c.in-Ok.sent.len c.send.new.out) None c.requires.sends
    (rw c.in-Ok-Accepted.field-0-is at (c.in-Ok-Accepted.ensures.step None))
    (rw c.front-payload.ensures at c.in-Ok.ensures.step)
    (rw c.in-Ok-Accepted.field-0-is at
    (c.in-Ok-Accepted.ensures.honest (brought_line c.args.id c.args.pdu.now payload v) None refl refl
    (in_time c.args.node.now c.args.id c.args.second c.args.pdu.now payload v c.requires.receives can) can.accepted.0.fits))

pub returns-in-Ok-clause-arrival_covered : goal.returns-in-Ok-clause-arrival_covered
returns-in-Ok-clause-arrival_covered g c =
    c.send.ensures.others c.args.id c.in-Ok-Accepted.freshness (rw c.in-Ok-Accepted.field-0-is at c.in-Ok-Accepted.ensures.covered)

pub returns-in-Ok-clause-serves : goal.returns-in-Ok-clause-serves
returns-in-Ok-clause-serves g c =
    record {
      down = ok_down _ _ _ c.in-Ok-Accepted.ensures.serves.down;
      routed = λ none. cc;
      reason = tt;
      faulted = λ e. absurd e;
      faults = λ _. c.in-Ok.ensures.serves.faults ∙ c.in-Ok-Accepted.ensures.serves.faults;
      layout = c.send.ensures.serves.layout ∙ c.receive.ensures.serves.layout;
      runs = runs_join c.receive.ensures.serves.runs c.send.ensures.serves.runs;
      fits = λ fits. c.send.ensures.serves.fits (c.receive.ensures.serves.fits fits);
      sound = c.send.ensures.serves.sound;
    }

-- ---- it didn't

pub returns-in-Err-send-clause-arrival_covered : goal.returns-in-Err-send-clause-arrival_covered
returns-in-Err-send-clause-arrival_covered g c =
    c.send.ensures.others c.args.id c.in-Ok-Accepted.freshness (rw c.in-Ok-Accepted.field-0-is at c.in-Ok-Accepted.ensures.covered)

pub returns-in-Err-send-clause-step : goal.returns-in-Err-send-clause-step
returns-in-Err-send-clause-step g c place = record {
  first = Accepted c.args.id c.in-Ok-Accepted.freshness (take c.in-Ok-Accepted.len c.args.pdu.now) None;
  between = c.receive.new.self.node;
  arrives = rw c.in-Ok-Accepted.field-0-is at (c.in-Ok-Accepted.ensures.step None);
  departs = (Refused (refusal_of_fault c.in-Err-send.fault), rw c.front-payload.ensures at c.in-Err-send.ensures.step, refl);
}

pub returns-in-Err-send-clause-turn : goal.returns-in-Err-send-clause-turn
returns-in-Err-send-clause-turn g c place = record {
  first = Accepted c.args.id c.in-Ok-Accepted.freshness (take c.in-Ok-Accepted.len c.args.pdu.now) None;
  between = c.receive.new.self;
  arrives = calm_turn c.args.node.now c.receive.new.self (receives c.args.id c.args.pdu.now) _
      (rw c.in-Ok-Accepted.field-0-is at (c.in-Ok-Accepted.ensures.step None))
      (receives_no_cut c.args.id c.args.pdu.now) c.receive.ensures.serves.layout c.receive.ensures.serves.runs c.receive.ensures.serves.fits c.in-Ok-Accepted.ensures.serves.faults tt c.receive.ensures.serves.sound;
  departs = (
    Refused (refusal_of_fault c.in-Err-send.fault),
    calm_turn c.receive.new.self c.send.new.self (sends c.args.second (take c.in-Ok-Accepted.len c.args.pdu.now)) _
        (rw c.front-payload.ensures at c.in-Err-send.ensures.step)
        (sends_no_cut c.args.second (take c.in-Ok-Accepted.len c.args.pdu.now)) c.send.ensures.serves.layout c.send.ensures.serves.runs c.send.ensures.serves.fits
        (faults_told c.in-Err-send.fault c.receive.new.self c.send.new.self (λ e. c.in-Err-send.ensures.serves.faulted (ap Err e)) c.in-Err-send.ensures.untouched)
        (alone_told c.in-Err-send.fault c.receive.new.self c.send.new.self c.in-Err-send.ensures.untouched) c.send.ensures.serves.sound,
    refl,
  );
}

pub returns-in-Err-send-clause-forwards : goal.returns-in-Err-send-clause-forwards
returns-in-Err-send-clause-forwards g c payload v can =
    drops_not c.args.node.now c.receive.new.self c.send.new.self c.args.id c.args.second c.args.pdu.now (take c.in-Ok-Accepted.len c.args.pdu.now) payload
    c.in-Ok-Accepted.freshness v c.in-Err-send.fault None c.requires.sends
    (rw c.in-Ok-Accepted.field-0-is at (c.in-Ok-Accepted.ensures.step None))
    (rw c.front-payload.ensures at c.in-Err-send.ensures.step)
    c.receive.ensures.serves.runs c.send.ensures.serves.runs (λ e. c.in-Err-send.ensures.serves.faulted (ap Err e)) can

pub returns-in-Err-send-clause-serves : goal.returns-in-Err-send-clause-serves
returns-in-Err-send-clause-serves g c =
    record {
      down = ok_down _ _ _ c.in-Ok-Accepted.ensures.serves.down;
      routed = λ none. cc;
      reason =
          reason_of c.args.node.now.node c.receive.new.self.node c.args.id c.args.second c.args.pdu.now (take c.in-Ok-Accepted.len c.args.pdu.now) c.in-Ok-Accepted.freshness None
          (rw c.in-Ok-Accepted.field-0-is at (c.in-Ok-Accepted.ensures.step None)) c.requires.sends c.in-Err-send.fault c.send.new.self.node
          (rw c.front-payload.ensures at c.in-Err-send.ensures.step);
      faulted = drop_rose c.in-Ok-Accepted.freshness c.in-Err-send.fault c.args.node.now.store.disk.faults c.receive.new.self.store.disk.faults c.send.new.self.store.disk.faults c.in-Ok-Accepted.ensures.serves.faults
          (λ e. c.in-Err-send.ensures.serves.faulted (ap Err e));
      faults = drop_same c.in-Ok-Accepted.freshness c.in-Err-send.fault c.args.node.now.store.disk.faults c.receive.new.self.store.disk.faults c.send.new.self.store.disk.faults c.in-Ok-Accepted.ensures.serves.faults
          (λ apart. ap (λ (s : NodeState). s.store.disk.faults) (c.in-Err-send.ensures.untouched apart));
      layout = c.send.ensures.serves.layout ∙ c.receive.ensures.serves.layout;
      runs = runs_join c.receive.ensures.serves.runs c.send.ensures.serves.runs;
      fits = λ fits. c.send.ensures.serves.fits (c.receive.ensures.serves.fits fits);
      sound = c.send.ensures.serves.sound;
    }

-- ---- nothing was accepted

pub returns-in-Ok-FreshnessFailure-clause-step : goal.returns-in-Ok-FreshnessFailure-clause-step
returns-in-Ok-FreshnessFailure-clause-step g c place = record {
  first = FreshnessFailure;
  between = c.receive.new.self.node;
  arrives = rw c.in-Ok-FreshnessFailure.field-0-is at (c.in-Ok-FreshnessFailure.ensures.step None);
  departs = (refl, refl);
}

pub returns-in-Ok-FreshnessFailure-clause-turn : goal.returns-in-Ok-FreshnessFailure-clause-turn
returns-in-Ok-FreshnessFailure-clause-turn g c place = record {
  first = FreshnessFailure;
  between = c.receive.new.self;
  arrives = calm_turn c.args.node.now c.receive.new.self (receives c.args.id c.args.pdu.now) _
      (rw c.in-Ok-FreshnessFailure.field-0-is at (c.in-Ok-FreshnessFailure.ensures.step None))
      (receives_no_cut c.args.id c.args.pdu.now) c.receive.ensures.serves.layout c.receive.ensures.serves.runs c.receive.ensures.serves.fits c.in-Ok-FreshnessFailure.ensures.serves.faults
      (rw c.in-Ok-FreshnessFailure.field-0-is at c.in-Ok-FreshnessFailure.ensures.untouched) c.receive.ensures.serves.sound;
  departs = (refl, refl);
}

pub returns-in-Ok-FreshnessFailure-clause-forwards :
    goal.returns-in-Ok-FreshnessFailure-clause-forwards
returns-in-Ok-FreshnessFailure-clause-forwards g c payload v can =
    rw c.in-Ok-FreshnessFailure.field-0-is at
    (c.in-Ok-FreshnessFailure.ensures.honest (brought_line c.args.id c.args.pdu.now payload v) None refl refl
    (in_time c.args.node.now c.args.id c.args.second c.args.pdu.now payload v c.requires.receives can) can.accepted.0.fits)

pub returns-in-Ok-VerificationFailure-clause-step :
    goal.returns-in-Ok-VerificationFailure-clause-step
returns-in-Ok-VerificationFailure-clause-step g c place = record {
  first = VerificationFailure;
  between = c.receive.new.self.node;
  arrives = rw c.in-Ok-VerificationFailure.field-0-is at (c.in-Ok-VerificationFailure.ensures.step None);
  departs = (refl, refl);
}

pub returns-in-Ok-VerificationFailure-clause-turn : goal.returns-in-Ok-VerificationFailure-clause-turn
returns-in-Ok-VerificationFailure-clause-turn g c place = record {
  first = VerificationFailure;
  between = c.receive.new.self;
  arrives = calm_turn c.args.node.now c.receive.new.self (receives c.args.id c.args.pdu.now) _
      (rw c.in-Ok-VerificationFailure.field-0-is at (c.in-Ok-VerificationFailure.ensures.step None))
      (receives_no_cut c.args.id c.args.pdu.now) c.receive.ensures.serves.layout c.receive.ensures.serves.runs c.receive.ensures.serves.fits c.in-Ok-VerificationFailure.ensures.serves.faults
      (rw c.in-Ok-VerificationFailure.field-0-is at c.in-Ok-VerificationFailure.ensures.untouched) c.receive.ensures.serves.sound;
  departs = (refl, refl);
}

pub returns-in-Ok-VerificationFailure-clause-forwards :
    goal.returns-in-Ok-VerificationFailure-clause-forwards
returns-in-Ok-VerificationFailure-clause-forwards g c payload v can =
    rw c.in-Ok-VerificationFailure.field-0-is at
    (c.in-Ok-VerificationFailure.ensures.honest (brought_line c.args.id c.args.pdu.now payload v) None refl refl
    (in_time c.args.node.now c.args.id c.args.second c.args.pdu.now payload v c.requires.receives can) can.accepted.0.fits)

pub returns-in-Err-clause-step : goal.returns-in-Err-clause-step
returns-in-Err-clause-step g c place = record {
  first = Refused (refusal_of_fault c.in-Err.fault);
  between = c.receive.new.self.node;
  arrives = c.in-Err.ensures.step None;
  departs = (refl, refl);
}

pub returns-in-Err-clause-turn : goal.returns-in-Err-clause-turn
returns-in-Err-clause-turn g c place = record {
  first = Refused (refusal_of_fault c.in-Err.fault);
  between = c.receive.new.self;
  arrives = calm_turn c.args.node.now c.receive.new.self (receives c.args.id c.args.pdu.now) _
      (c.in-Err.ensures.step None)
      (receives_no_cut c.args.id c.args.pdu.now) c.receive.ensures.serves.layout c.receive.ensures.serves.runs c.receive.ensures.serves.fits
      (faults_told c.in-Err.fault c.args.node.now c.receive.new.self (λ e. c.in-Err.ensures.serves.faulted (ap Err e)) (unmoved_by c.in-Err.fault _ c.in-Err.ensures.untouched))
      (alone_told c.in-Err.fault c.args.node.now c.receive.new.self (unmoved_by c.in-Err.fault _ c.in-Err.ensures.untouched))
      c.receive.ensures.serves.sound;
  departs = (refl, refl);
}

pub returns-in-Err-clause-forwards : goal.returns-in-Err-clause-forwards
returns-in-Err-clause-forwards g c payload v can =
    refuses_not c.args.node.now c.receive.new.self c.args.id c.args.second c.args.pdu.now payload v c.in-Err.fault c.receive.ensures.serves.runs
    (λ e. c.in-Err.ensures.serves.faulted (ap Err e)) can
    (c.in-Err.ensures.honest (brought_line c.args.id c.args.pdu.now payload v) None refl refl
    (in_time c.args.node.now c.args.id c.args.second c.args.pdu.now payload v c.requires.receives can) can.accepted.0.fits)

pub returns-in-Ok-FreshnessFailure-clause-serves : goal.returns-in-Ok-FreshnessFailure-clause-serves
returns-in-Ok-FreshnessFailure-clause-serves g c =
    record {
      down = ok_down _ _ _ c.in-Ok-FreshnessFailure.ensures.serves.down;
      routed = λ none. cc;
      reason = tt;
      faulted = λ e. absurd e;
      faults = λ _. c.in-Ok-FreshnessFailure.ensures.serves.faults;
      layout = c.receive.ensures.serves.layout;
      runs = runs_more 12 (omega arith) c.receive.ensures.serves.runs;
      fits = c.receive.ensures.serves.fits;
      sound = c.receive.ensures.serves.sound;
    }

pub returns-in-Ok-VerificationFailure-clause-serves : goal.returns-in-Ok-VerificationFailure-clause-serves
returns-in-Ok-VerificationFailure-clause-serves g c =
    record {
      down = ok_down _ _ _ c.in-Ok-VerificationFailure.ensures.serves.down;
      routed = λ none. cc;
      reason = tt;
      faulted = λ e. absurd e;
      faults = λ _. c.in-Ok-VerificationFailure.ensures.serves.faults;
      layout = c.receive.ensures.serves.layout;
      runs = runs_more 12 (omega arith) c.receive.ensures.serves.runs;
      fits = c.receive.ensures.serves.fits;
      sound = c.receive.ensures.serves.sound;
    }

pub returns-in-Err-clause-serves : goal.returns-in-Err-clause-serves
returns-in-Err-clause-serves g c =
    record {
      down = err_down _ _ c.in-Err.ensures.serves.down;
      routed = λ none.
          let same = IfErr-at_err (λ (e : NodeFault). c.in-Err.fault ≡ e) none refl in
          (c.in-Err.ensures.no_route.0 (ap Err same)).1 c.requires.receives;
      reason = tt;
      faulted = refuse_rose c.in-Err.fault c.args.node.now.store.disk.faults c.receive.new.self.store.disk.faults (λ e. c.in-Err.ensures.serves.faulted (ap Err e));
      faults = refuse_same c.in-Err.fault c.args.node.now.store.disk.faults c.receive.new.self.store.disk.faults
          (λ apart. ap (λ (s : NodeState). s.store.disk.faults) (unmoved_by c.in-Err.fault _ c.in-Err.ensures.untouched apart));
      layout = c.receive.ensures.serves.layout;
      runs = runs_more 12 (omega arith) c.receive.ensures.serves.runs;
      fits = c.receive.ensures.serves.fits;
      sound = c.receive.ensures.serves.sound;
    }
