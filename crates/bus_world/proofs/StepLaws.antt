-- Turns of a world as steps of the machine
use Rattle.std.specs.Prelude.{◌≡◌, ◌⊎◌, ℕ, suc, Some, List, [], ◌∷◌, map, set, slice_get}
use Rattle.std.proofs.Common.{sym, ap, ◌∙◌, subst, inl, inr, zero}
use Rattle.std.proofs.lemmas.List.{map-set}
use Rattle.std.proofs.lemmas.Option.{same_Some}
use Rattle.machine_runs.specs.Run.{Moment, Run, seen_as}
use Rattle.machine_runs.proofs.CallerLemmas.{Run-seen_as}
use Rattle.bus_machine.specs.declared.events.Event.{Event}
use Rattle.bus_machine.specs.declared.events.Event.TheVariants as event
use Rattle.bus_machine.specs.declared.lines.Line.{Line}
use Rattle.bus_machine.specs.Bus.{World, node_of, Step}
use Rattle.bus_machine.specs.Past.{mark_of}
use Rattle.store_keeping.proofs.CallerLemmas.{fits_store}
use Rattle.secoc_node.specs.Fits.{node_keeping}
use Rattle.secoc_node.specs.State.{NodeState, FitsNow, TellsFitting}
use Rattle.secoc_node.proofs.CallerLemmas.{told_before}
use Rattle.bus_world.specs.Turns.{IsCertain, duty_of, NodeTurn}
use Rattle.bus_world.specs.Worlds.{BusState, world_of, BusTurn, EachFits}

got_mapped : {X Y : Type 0} (f : X → Y) (xs : List X) (i : ℕ) (x : X) → slice_get xs i ≡ Some x → slice_get (map f xs) i ≡ Some (f x)
got_mapped f [] i x is = cc
got_mapped f (y ∷ ys) zero x is = ap (λ z. Some (f z)) (same_Some y x is)
got_mapped f (y ∷ ys) (suc i) x is = got_mapped f ys i x is

-- what stands in a list after a write is what was written, or stood there before
got_set : {X : Type 0} (xs : List X) (place i : ℕ) (y x : X) → slice_get (set xs place y) i ≡ Some x → (x ≡ y) ⊎ (slice_get xs i ≡ Some x)
got_set [] place i y x is = inr is
got_set (z ∷ zs) zero zero y x is = inl (sym (same_Some y x is))
got_set (z ∷ zs) zero (suc i) y x is = inr is
got_set (z ∷ zs) (suc place) zero y x is = inr is
got_set (z ∷ zs) (suc place) (suc i) y x is = got_set zs place i y x is

pub turn_is_step : (before : BusState) (e : Event) (line : Line) (after : BusState) → BusTurn before e line after
    → ((n : NodeState) → slice_get before.nodes (node_of e) ≡ Some n → IsCertain (mark_of e) n) → Step (world_of before) e line (world_of after)
turn_is_step before e line after turn certain = record {
  one = record {
    before = turn.one.before.node;
    after = turn.one.after.node;
    was = got_mapped (λ (n : NodeState). n.node) before.nodes (node_of e) turn.one.before turn.one.was;
    step = turn.one.step.step (certain turn.one.before turn.one.was);
    others = ap (map (λ (n : NodeState). n.node)) turn.one.others ∙ map-set (λ (n : NodeState). n.node) before.nodes (node_of e) turn.one.after;
  };
  source = turn.source;
  events = turn.events;
  sent = turn.sent;
}

-- a disk that tells its bytes and fits makes every event certain
pub certain_of : (e : Event) (n : NodeState) → TellsFitting n → IsCertain (mark_of e) n
certain_of (event.Send node id payload) n fits = tt
certain_of (event.Deliver node number) n fits = tt
certain_of (event.Inject node id pdu) n fits = tt
certain_of (event.Load node request) n fits = tt
certain_of (event.Key node update authkey) n fits = tt
certain_of (event.Boot node image) n fits = tt
certain_of (event.Cut node torn) n fits = fits
certain_of (event.Stop node calls) n fits = tt
certain_of (event.Fail node calls) n fits = tt

fits_now : (n : NodeState) → TellsFitting n → FitsNow n
fits_now n fits = fits_store (node_keeping n.node) n.store fits

pub turn_fits : (before : NodeState) (e : Event) (w : World) (line : Line) (after : NodeState) → NodeTurn before (duty_of w e) line after → TellsFitting before → TellsFitting after
turn_fits before e w line after turn fits =
    let tells = told_before after.store.disk.told before.store.disk.told (sym turn.runs.tells) fits.now fits.told in
    record { now = tells.0; told = tells.1; fits = turn.fits (fits_now before fits) tells.0 tells.1 }

pub turn_keeps_fits : (before : BusState) (e : Event) (line : Line) (after : BusState) → BusTurn before e line after → EachFits before → EachFits after
turn_keeps_fits before e line after turn fits = λ i n is.
    elim (got_set before.nodes (node_of e) i turn.one.after n (subst (λ nodes. slice_get nodes i ≡ Some n) turn.one.others is)) [
      | inl new ↦ subst TellsFitting (sym new) (turn_fits turn.one.before e (world_of before) line turn.one.after turn.one.step (fits (node_of e) turn.one.before turn.one.was))
      | inr old ↦ fits i n old
    ]

pub turns_keep_fits : (start : BusState) (moments : List (Moment Event Line BusState)) (now : BusState) → EachFits start → Run BusTurn start moments now → EachFits now
turns_keep_fits start [] now fits run = subst EachFits (sym run) fits
turns_keep_fits start (m ∷ ms) now fits run = turns_keep_fits m.after ms now (turn_keeps_fits start m.command m.line m.after run.0 fits) run.1

pub turns_are_runs : (start now : BusState) (moments : List (Moment Event Line BusState)) → EachFits start → Run BusTurn start moments now
    → Run Step (world_of start) (seen_as (λ e. e) world_of moments) (world_of now) × EachFits now
turns_are_runs start now moments fits run = (
  Run-seen_as BusTurn Step (λ e. e) world_of EachFits
      (λ s c l t holds turn. (turn_is_step s c l t turn (λ n was. certain_of c n (holds (node_of c) n was)), turn_keeps_fits s c l t turn holds))
      start moments now fits run,
  turns_keep_fits start moments now fits run,
)
