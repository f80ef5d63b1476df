-- Where a pending change comes from, and the call that failed with it
use Rattle.std.specs.Prelude.{◌≡◌, ◌≢◌, ℕ, ◌⊎◌, None, Some, Option, [], ◌∷◌}
use Rattle.std.proofs.Common.{refl, sym, ◌∙◌, ap, subst, inl, inr}
use Rattle.std.proofs.lemmas.Bool.Decides.{eqb_tells}
use Rattle.machine_runs.specs.Run.{Run}
use Rattle.bus_machine.specs.declared.lines.Line.{Line}
use Rattle.bus_machine.specs.declared.lines.Line.TheVariants.{Sent, Accepted, FreshnessFailure, VerificationFailure, Keyed, Loaded, Boot, Up, Armed, NoFrame, Refused}
use Rattle.bus_machine.specs.declared.lines.Refusal.TheVariants.{MemoryFailure}
use Rattle.bus_machine.specs.Node.{Node, Change}
use Rattle.bus_machine.specs.Steps.{Act, sends, receives, loads, keys, boots, cuts, arms, hears_nothing, Makes, NodeStep}
use Rattle.bus_machine.specs.Bus.{World, node_of, Instant, Moments, act_of, Step, node_at}
use Rattle.bus_machine.specs.Skips.{FailedCall}
use Rattle.bus_laws.proofs.SoundSteps.{same_some}
use Rattle.bus_laws.proofs.BusSteps.{step_at, other_at}
use Rattle.bus_laws.proofs.Lists.{Each, All-Each}

pub None≢Some : {A : Type 0} (x : A) (o : Option A) → o ≡ None → o ≡ Some x → ⊥
None≢Some x o e f = cc

-- if a change is pending after a step, the step's act failed, or it was pending before and there was no power-up
pub pending_step : (node : Node) (act : Act) (line : Line) (after : Node) (c : Change) → NodeStep node act line after → after.pending ≡ Some c
    → ((line ≡ Refused MemoryFailure) × Makes node act c) ⊎ ((node.pending ≡ Some c) × (line ≢ Up))
pending_step node (sends id payload) (Sent told v pdu) after c step e = inr (sym (ap (λ n. n.pending) step.1.after_is) ∙ e, λ h. cc)
pending_step node (sends id payload) (Refused MemoryFailure) after c step e = inl (refl, subst (Makes node (sends id payload)) (same_some _ _ (sym (ap (λ n. n.pending) step.2) ∙ e)) step.1)
pending_step node (sends id payload) (Refused refusal) after c step e = inr (sym (ap (λ n. n.pending) step.1) ∙ e, λ h. cc)
pending_step node (receives id pdu) (Accepted told v payload source) after c step e = inr (sym (ap (λ n. n.pending) step.1.after_is) ∙ e, λ h. cc)
pending_step node (receives id pdu) FreshnessFailure after c step e = inr (sym (ap (λ n. n.pending) step.1) ∙ e, λ h. cc)
pending_step node (receives id pdu) VerificationFailure after c step e = inr (sym (ap (λ n. n.pending) step.1) ∙ e, λ h. cc)
pending_step node (receives id pdu) (Refused MemoryFailure) after c step e = inl (refl, subst (Makes node (receives id pdu)) (same_some _ _ (sym (ap (λ n. n.pending) step.2) ∙ e)) step.1)
pending_step node (receives id pdu) (Refused refusal) after c step e = inr (sym (ap (λ n. n.pending) step.1) ∙ e, λ h. cc)
pending_step node (loads request) (Loaded reply) after c step e = inr (sym (ap (λ n. n.pending) step.3) ∙ e, λ h. cc)
pending_step node (loads request) (Refused MemoryFailure) after c step e = inl (refl, subst (Makes node (loads request)) (same_some _ _ (sym (ap (λ n. n.pending) step.2) ∙ e)) step.1)
pending_step node (loads request) (Refused refusal) after c step e = inr (sym (ap (λ n. n.pending) step.1) ∙ e, λ h. cc)
pending_step node (keys update authkey) (Keyed told) after c step e = inr (sym (ap (λ n. n.pending) step.2.3) ∙ e, λ h. cc)
pending_step node (keys update authkey) (Refused MemoryFailure) after c step e = inl (refl, subst (Makes node (keys update authkey)) (same_some _ _ (sym (ap (λ n. n.pending) step.2) ∙ e)) step.1)
pending_step node (keys update authkey) (Refused refusal) after c step e = inr (sym (ap (λ n. n.pending) step.3) ∙ e, λ h. cc)
pending_step node (boots image) (Boot good) after c step e = inr (sym (ap (λ n. n.pending) step.after_is) ∙ e, λ h. cc)
pending_step node (boots image) (Refused refusal) after c step e = inr (sym (ap (λ n. n.pending) step.1) ∙ e, λ h. cc)
pending_step node cuts Up after c (inl s) e = absurd (None≢Some c after.pending (ap (λ n. n.pending) s) e)
pending_step node cuts Up after c (inr s) e = absurd (None≢Some c after.pending (ap (λ n. n.pending) s.2) e)
pending_step node cuts (Refused MemoryFailure) after c step e = inr (sym (ap (λ n. n.pending) step) ∙ e, λ h. cc)
pending_step node arms Armed after c step e = inr (sym (ap (λ n. n.pending) step) ∙ e, λ h. cc)
pending_step node hears_nothing NoFrame after c step e = inr (sym (ap (λ n. n.pending) step) ∙ e, λ h. cc)
pending_step node _ _ after c step e = absurd step

failed_earlier : (start : World) (m : Instant) (ms : Moments) (i : ℕ) (c : Change) → FailedCall m.after ms i c → FailedCall start (m ∷ ms) i c
failed_earlier start m ms i c f = record {
  done = m ∷ f.done;
  call = f.call;
  rest = f.rest;
  all = ap (λ xs. m ∷ xs) f.all;
  node_is = f.node_is;
  line_is = f.line_is;
  makes = f.makes;
  no_power = f.no_power;
}

-- what is pending is the change of the last call that failed, or was so from the start
pending_from : (start : World) (ms : Moments) (now : World) (i : ℕ) (c : Change) → Run Step start ms now → (node_at now i).pending ≡ Some c
    → FailedCall start ms i c ⊎ (((node_at start i).pending ≡ Some c) × Each (λ m. node_of m.command ≡ i → m.line ≢ Up) ms)
pending_from start [] now i c run e = inr (sym (ap (λ w. (node_at w i).pending) run) ∙ e, tt)
pending_from start (m ∷ ms) now i c run e = elim (pending_from m.after ms now i c run.1 e) [
  | inl f ↦ inl (failed_earlier start m ms i c f)
  | inr p ↦ elim (eqb_tells i (node_of m.command)) [
    | inr other ↦ inr (sym (ap (λ n. n.pending) (other_at start m.command m.line m.after run.0 i other.1)) ∙ p.0, (λ same. absurd (other.1 (sym same)), p.1))
    | inl same ↦
        let at = step_at start m.command m.line m.after run.0 in
        let here = subst (λ j. NodeStep (node_at start j) (act_of start m.command) m.line (node_at m.after j)) (sym same.1) at.step in
        elim (pending_step _ _ m.line _ c here p.0) [
          | inl f ↦ inl (record { done = []; call = m; rest = ms; all = refl; node_is = sym same.1; line_is = f.0; makes = f.1; no_power = All-Each _ ms p.1 })
          | inr q ↦ inr (q.0, (λ _. q.1, p.1))
        ]
  ]
]

pub failed_call : (start : World) (ms : Moments) (now : World) (i : ℕ) (c : Change) → (node_at start i).pending ≡ None → Run Step start ms now → (node_at now i).pending ≡ Some c → FailedCall start ms i c
failed_call start ms now i c calm run e = elim (pending_from start ms now i c run e) [
  | inl f ↦ f
  | inr p ↦ absurd (None≢Some c (node_at start i).pending calm p.0)
]
