-- What a turn of a gateway keeps, from the turns of its node
use Rattle.std.specs.Prelude.{◌≡◌, ℕ, Option, None, Some, List, []}
use Rattle.std.proofs.Common.{refl, sym, ◌∙◌, ap, subst, arith}
use Rattle.machine_runs.specs.Run.{seen_as}
use Rattle.machine_runs.proofs.CallerLemmas.{Run-seen_as}
use Rattle.cut_disk.specs.declared.Mark.{Mark}
use Rattle.cut_disk.specs.declared.Mark.TheVariants as mark
use Rattle.cut_disk.specs.Calls.{Runs}
use Rattle.cut_disk.proofs.CallerLemmas.{runs_join, runs_more}
use Rattle.store_keeping.specs.DiskTurns.{CountsFailure, DiskTurn}
use Rattle.bus_machine.specs.declared.events.Event.{Event}
use Rattle.bus_machine.specs.declared.events.Event.TheVariants.{Inject}
use Rattle.bus_machine.specs.declared.lines.Line.{Line}
use Rattle.bus_machine.specs.declared.lines.Line.TheVariants as line
use Rattle.bus_machine.specs.declared.lines.Refusal.{Refusal}
use Rattle.bus_machine.specs.declared.lines.Refusal.TheVariants as refusal
use Rattle.bus_machine.specs.Past.{mark_of, cell_count}
use Rattle.bus_machine.specs.Sound.{Sound}
use Rattle.bus_machine.specs.Bus.{node_of, silent_world}
use Rattle.bus_world.specs.Turns.{IsCertain, TellsFaults, LeavesAlone, LeavesCut, StaysBehind, most_calls}
use Rattle.bus_world.proofs.CallerLemmas.{turn_fits}
use Rattle.secoc_node.specs.State.{NodeState, FitsNow, TellsFitting}
use Rattle.secoc_gateway.specs.declared.gateway_lines.GatewayLine.{GatewayLine}
use Rattle.secoc_gateway.specs.declared.gateway_lines.GatewayLine.TheVariants.{Forwarded, Dropped, OfNode}
use Rattle.secoc_gateway.specs.Gateway.{departs_under, TellsDeparture, Departs, PassesOn, OneStep, StepUnder, GatewayStep, EventStep}
use Rattle.secoc_gateway.specs.StepLaws.{GatewayStep-keeps}
use Rattle.secoc_gateway.specs.PartLaws.{GatewayRun-parts}
use Rattle.secoc_gateway.proofs.Forwarding.{arriving}
use Rattle.secoc_gateway.specs.State.{GatewayState, over}
use Rattle.secoc_gateway.specs.Turns.{EventTurn, GatewayTurn, tells_gateway_failure, calls_under}
use Rattle.secoc_gateway.specs.Laws.{TurnKeeps, GatewayTurnsAreOfTheNode}

-- ---- a step of the machine

-- over a disk that tells its bytes and fits, whatever its mark
pub certain_by_mark : (m : Option Mark) (s : NodeState) → TellsFitting s → IsCertain m s
certain_by_mark (Some (mark.Cut torn)) s fits = fits
certain_by_mark _ s fits = tt

certain_departs : (place out : ℕ) (first : Line) (between : NodeState) (told : GatewayLine) (after : NodeState)
    → Departs EventTurn place out first between told after → Departs EventStep place out first between.node told after.node
certain_departs place out (line.Accepted id v payload source) between told after d = (d.0, d.1.step tt, d.2)
certain_departs place out first between told after d = (d.0, ap (λ (s : NodeState). s.node) d.1)

certain_under : (o : Option ℕ) (before : NodeState) (event : Event) (told : GatewayLine) (after : NodeState) → IsCertain (mark_of event) before
    → StepUnder EventTurn o before event told after → StepUnder EventStep o before.node event told after.node
certain_under (Some out) before event told after certain step = record {
  first = step.first;
  between = step.between.node;
  arrives = step.arrives.step certain;
  departs = certain_departs (node_of event) out step.first step.between told after step.departs;
}
certain_under None before event told after certain step =
    record { told = step.told; step = step.step.step certain; line_is = step.line_is; from = step.from }

-- ---- what each part keeps

record Kept (before after : NodeState) : Type 0 where
  pub config : after.node.config ≡ before.node.config
  pub layout : after.store.layout ≡ before.store.layout
  pub fits : FitsNow before → FitsNow after
  pub fitting : TellsFitting before → TellsFitting after
  pub sound : Sound before.node → Sound after.node

kept_same : (s : NodeState) → Kept s s
kept_same s = record { config = refl; layout = refl; fits = λ f. f; fitting = λ f. f; sound = λ f. f }

kept_on : (s t u : NodeState) → Kept s t → Kept t u → Kept s u
kept_on s t u one two = record {
  config = two.config ∙ one.config;
  layout = two.layout ∙ one.layout;
  fits = λ f. two.fits (one.fits f);
  fitting = λ f. two.fitting (one.fitting f);
  sound = λ f. two.sound (one.sound f);
}

kept_by : (s : NodeState) (event : Event) (told : Line) (t : NodeState) → EventTurn s event told t → Kept s t
kept_by s event told t turn =
    record { config = turn.config; layout = turn.layout; fits = turn.fits; fitting = turn_fits s event silent_world told t turn; sound = turn.sound }

-- ---- what a line tells

refusal_counts : (r : Refusal) (before after : ℕ) → TellsFaults (line.Refused r) before after → CountsFailure (tells_gateway_failure (OfNode (line.Refused r))) before after
refusal_counts refusal.Down before after told = told
refusal_counts refusal.NoRoute before after told = told
refusal_counts refusal.BadLength before after told = told
refusal_counts (refusal.Key erc) before after told = told
refusal_counts refusal.Exhausted before after told = told
refusal_counts refusal.MemoryFailure before after told = told
refusal_counts refusal.NotFormatted before after told = told
refusal_counts (refusal.Damaged place) before after told = told
refusal_counts (refusal.BadSlot slot) before after told = told
refusal_counts (refusal.BadBound cell) before after told = told

line_counts : (l : Line) (before after : ℕ) → TellsFaults l before after → CountsFailure (tells_gateway_failure (OfNode l)) before after
line_counts (line.Sent id v pdu) before after told = told
line_counts (line.Accepted id v payload source) before after told = told
line_counts line.FreshnessFailure before after told = told
line_counts line.VerificationFailure before after told = told
line_counts (line.Keyed slot) before after told = told
line_counts (line.Loaded reply) before after told = told
line_counts (line.Boot good) before after told = told
line_counts line.Up before after told = told
line_counts line.Armed before after told = told
line_counts line.NoFrame before after told = told
line_counts (line.Refused r) before after told = refusal_counts r before after told

dropped_counts : (id v : ℕ) (r : Refusal) (before after : ℕ) → TellsFaults (line.Refused r) before after → CountsFailure (tells_gateway_failure (Dropped id v r)) before after
dropped_counts id v refusal.Down before after told = told
dropped_counts id v refusal.NoRoute before after told = told
dropped_counts id v refusal.BadLength before after told = told
dropped_counts id v (refusal.Key erc) before after told = told
dropped_counts id v refusal.Exhausted before after told = told
dropped_counts id v refusal.MemoryFailure before after told = told
dropped_counts id v refusal.NotFormatted before after told = told
dropped_counts id v (refusal.Damaged place) before after told = told
dropped_counts id v (refusal.BadSlot slot) before after told = told
dropped_counts id v (refusal.BadBound cell) before after told = told

departure_counts : (id v : ℕ) (second : Line) (told : GatewayLine) (before after : ℕ) → TellsFaults second before after → TellsDeparture id v second told
    → CountsFailure (tells_gateway_failure told) before after
departure_counts id v (line.Sent out w pdu) told before after faults is =
    subst (λ (l : GatewayLine). CountsFailure (tells_gateway_failure l) before after) (sym is) faults
departure_counts id v (line.Refused r) told before after faults is =
    subst (λ (l : GatewayLine). CountsFailure (tells_gateway_failure l) before after) (sym is) (dropped_counts id v r before after faults)
departure_counts id v second told before after faults is = absurd is

same_told : (a b : Line) → OfNode a ≡ OfNode b → a ≡ b
same_told a b same = cc

-- the line of a departure isn't one of the node
departure_told : (id v : ℕ) (second : Line) (told : GatewayLine) (l : Line) → TellsDeparture id v second told → told ≡ OfNode l → ⊥
departure_told id v (line.Sent out w pdu) told l is of = let no : Forwarded id v out w pdu ≡ OfNode l = sym is ∙ of in cc
departure_told id v (line.Refused r) told l is of = let no : Dropped id v r ≡ OfNode l = sym is ∙ of in cc
departure_told id v second told l is of = absurd is

-- ---- the disk

record OnDisk (m : Option Mark) (most : ℕ) (before : NodeState) (told : GatewayLine) (after : NodeState) : Type 0 where
  pub disk : DiskTurn m most (tells_gateway_failure told) before.store.disk after.store.disk
  pub untouched : (l : Line) → told ≡ OfNode l → LeavesAlone m l before after
  pub image : LeavesCut m before.store.disk after.store.disk
  pub stays : StaysBehind m before.store.disk after.store.disk

departs_on_disk : (place out : ℕ) (first : Line) (before between : NodeState) (told : GatewayLine) (after : NodeState)
    → Runs [] 6 before.store.disk between.store.disk → TellsFaults first before.store.disk.faults between.store.disk.faults → LeavesAlone None first before between
    → Departs EventTurn place out first between told after → OnDisk None 12 before told after
departs_on_disk place out (line.Accepted id v payload source) before between told after runs faults alone d = record {
  disk = record {
    runs = runs_join runs d.1.runs;
    counts = departure_counts id v d.0 told before.store.disk.faults after.store.disk.faults
        (subst (λ (n : ℕ). TellsFaults d.0 n after.store.disk.faults) faults d.1.faults) d.2;
  };
  untouched = λ l of. absurd (departure_told id v d.0 told l d.2 of);
  image = tt;
  stays = tt;
}
departs_on_disk place out first before between told after runs faults alone d =
    subst (λ (s : NodeState). OnDisk None 12 before told s) (sym d.1) (record {
      disk = record {
        runs = runs_more 12 (omega arith) runs;
        counts = subst (λ (l : GatewayLine). CountsFailure (tells_gateway_failure l) before.store.disk.faults between.store.disk.faults) (sym d.0)
            (line_counts first before.store.disk.faults between.store.disk.faults faults);
      };
      untouched = λ l of. subst (λ (m : Line). LeavesAlone None m before between) (same_told first l (sym d.0 ∙ of)) alone;
      image = tt;
      stays = tt;
    })

arrival_on_disk : (place id out : ℕ) (pdu : List ℕ) (before : NodeState) (told : GatewayLine) (after : NodeState) → PassesOn EventTurn out before (Inject place id pdu) told after
    → OnDisk None 12 before told after
arrival_on_disk place id out pdu before told after step =
    departs_on_disk place out step.first before step.between told after step.arrives.runs step.arrives.faults step.arrives.untouched step.departs

own_on_disk : (before : NodeState) (event : Event) (told : GatewayLine) (after : NodeState) → OneStep EventTurn before event told after
    → OnDisk (mark_of event) (most_calls (cell_count before.node) (mark_of event)) before told after
own_on_disk before event told after step = record {
  disk = record {
    runs = step.step.runs;
    counts = subst (λ (l : GatewayLine). CountsFailure (tells_gateway_failure l) before.store.disk.faults after.store.disk.faults) (sym step.line_is)
        (line_counts step.told before.store.disk.faults after.store.disk.faults step.step.faults);
  };
  untouched = λ l of. subst (λ (m : Line). LeavesAlone (mark_of event) m before after) (same_told step.told l (sym step.line_is ∙ of)) step.step.untouched;
  image = step.step.image;
  stays = step.step.stays;
}

on_disk_under : (pairs : List (ℕ × ℕ)) (o : Option ℕ) (before : NodeState) (event : Event) (told : GatewayLine) (after : NodeState) → departs_under pairs event ≡ o
    → StepUnder EventTurn o before event told after
    → OnDisk (mark_of event) (calls_under o (most_calls (cell_count before.node) (mark_of event))) before told after
on_disk_under pairs (Some out) before event told after is step =
    let a = arriving pairs event out is in
    subst (λ (e : Event). OnDisk (mark_of e) 12 before told after) (sym a.event_is)
    (arrival_on_disk (node_of event) a.id out a.pdu before told after (subst (λ (e : Event). PassesOn EventTurn out before e told after) a.event_is step))
on_disk_under pairs None before event told after is step = own_on_disk before event told after step

-- ---- each turn, and turns one after the other

pub turn_keeps : (before : GatewayState) (event : Event) (told : GatewayLine) (after : GatewayState) → GatewayTurn before event told after → TurnKeeps before event told after
turn_keeps before event told after turn =
    let kept = GatewayStep-keeps EventTurn Kept kept_same kept_on kept_by before.pairs (over before) event told (over after) turn.step in
    let disk = on_disk_under before.pairs (departs_under before.pairs event) (over before) event told (over after) refl turn.step in
    record {
      step = λ certain. certain_under (departs_under before.pairs event) (over before) event told (over after) certain turn.step;
      pairs = turn.pairs;
      config = kept.config;
      layout = kept.layout;
      disk = disk.disk;
      fits = kept.fits;
      fitting = kept.fitting;
      sound = kept.sound;
      untouched = disk.untouched;
      image = disk.image;
      stays = disk.stays;
    }

-- the turns as those of the machine with the pairs that they begin with
turn_steps : (pairs : List (ℕ × ℕ)) (before : GatewayState) (event : Event) (told : GatewayLine) (after : GatewayState) → before.pairs ≡ pairs → GatewayTurn before event told after
    → GatewayStep EventTurn pairs (over before) event told (over after) × (after.pairs ≡ pairs)
turn_steps pairs before event told after same turn =
    (subst (λ (ps : List (ℕ × ℕ)). GatewayStep EventTurn ps (over before) event told (over after)) same turn.step, turn.pairs ∙ same)

pub turns_are_of_the_node : GatewayTurnsAreOfTheNode
turns_are_of_the_node start moments now run =
    let all = GatewayRun-parts EventTurn start.pairs (over start) (seen_as (λ (e : Event). e) over moments) (over now)
    (Run-seen_as GatewayTurn (GatewayStep EventTurn start.pairs) (λ (e : Event). e) over (λ (g : GatewayState). g.pairs ≡ start.pairs) (turn_steps start.pairs)
    start moments now refl run) in
    (all.parts, all.run, all.are)
