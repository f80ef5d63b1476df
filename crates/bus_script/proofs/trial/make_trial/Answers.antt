use Rattle.std.proofs.Common.{◌≤◌, List, All, length, sym, ap, subst, ◌∙◌}
use Rattle.std.proofs.lemmas.Result.{IfOk-weaker}
use Rattle.text_lines.specs.Readings.{most_lines}
use Rattle.bus_machine.specs.declared.events.Event.{Event}
use Rattle.bus_script.specs.ScriptEvents.{IsScriptEvent}
use Rattle.bus_script.proofs.TrialValues.{trial_events-value, length-trial_events}
use Rattle.bus_script.proofs.Trials.{trial_few}
use Rattle.bus_script.proofs.trial.make_trial.Goals as goal

pub returns-clause-are_events : goal.returns-clause-are_events
returns-clause-are_events c =
    IfOk-weaker c.events_in.result _ _ (λ events is.
    subst (λ (l : List Event). All (IsScriptEvent c.args.bus.now.nodes) l) (sym is)
    (trial_events-value c.args.bus.now c.args.count c.args.seed c.nodes-nodes.ensures.is_bus c.requires.1)) c.events_in.ensures

pub returns-clause-number : goal.returns-clause-number
returns-clause-number c =
    IfOk-weaker c.events_in.result _ _ (λ events is.
    ap (λ (l : List Event). length l) is ∙ length-trial_events c.args.bus.now.nodes c.args.count c.args.seed) c.events_in.ensures

pub returns-clause-few : goal.returns-clause-few
returns-clause-few c =
    IfOk-weaker c.events_in.result _ _ (λ events is.
    subst (λ (l : List Event). length l ≤ most_lines) (sym is)
    (trial_few c.args.bus.now c.args.count c.args.seed c.nodes-nodes.ensures.is_bus c.requires.1)) c.events_in.ensures
