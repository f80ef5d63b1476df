-- Over a disk that doesn't fail the first world and the events of an endpoint determine its lines
use Rattle.std.specs.Prelude.{◌≡◌, ◌≤◌, ℕ, Bool, true, false, List, [], ◌∷◌, get_or, All}
use Rattle.std.proofs.Common.{refl, sym, ap, subst, arith}
use Rattle.std.proofs.lemmas.List.{length-map, get_or-map}
use Rattle.std.proofs.lemmas.List.Elements.{All-nil, All-cons}
use Rattle.basics.specs.FaultCount.{Rose}
use Rattle.basics.proofs.CallerLemmas.{rose_then, rose_after}
use Rattle.machine_runs.specs.Run.{Run, commands_in, lines_in}
use Rattle.cut_disk.specs.Calls.{IsQuiet, StaysQuiet}
use Rattle.store_keeping.specs.DiskTurns.{CountsFailure, arms_later}
use Rattle.store_keeping.proofs.CallerLemmas.{turn_stays_quiet, still_quiet}
use Rattle.bus_machine.specs.declared.events.Event.{Event}
use Rattle.bus_machine.specs.declared.lines.Line.{Line}
use Rattle.bus_machine.specs.declared.lines.Line.TheVariants.{Refused}
use Rattle.bus_machine.specs.declared.lines.Refusal.TheVariants.{MemoryFailure}
use Rattle.bus_machine.specs.Bus.{Instant, Moments, Step}
use Rattle.bus_laws.specs.Laws.{IsFirst, EventsDetermineLines, NoFailure, NoCut, IsCalm}
use Rattle.bus_world.specs.NodeDisks.{mark_at, most_at, tells_failure, fails_at}
use Rattle.bus_world.specs.WorldRuns.{OneListOfLines}
use Rattle.endpoint_commands.proofs.AloneRun.{AloneState, alone_world, AloneStep, IsOfEndpoint, is_send, is_inject, is_load, is_boot, alone_disk}
use Rattle.endpoint_commands.proofs.LineRun.{AloneMoment, seen}

-- ---- the events neither cut the power nor arm the disk

cuts_nothing : (e : Event) → IsOfEndpoint e → NoCut e
cuts_nothing _ (is_send id payload) = tt
cuts_nothing _ (is_inject id pdu) = tt
cuts_nothing _ (is_load request) = tt
cuts_nothing _ (is_boot image) = tt

arms_nothing_later : (e : Event) → IsOfEndpoint e → arms_later (mark_at 0 e) ≡ false
arms_nothing_later _ (is_send id payload) = refl
arms_nothing_later _ (is_inject id pdu) = refl
arms_nothing_later _ (is_load request) = refl
arms_nothing_later _ (is_boot image) = refl

own_line_unfailed : (e : Event) (line : Line) → IsOfEndpoint e → fails_at 0 e line ≡ false → tells_failure line ≡ false
own_line_unfailed _ line (is_send id payload) none = none
own_line_unfailed _ line (is_inject id pdu) none = none
own_line_unfailed _ line (is_load request) none = none
own_line_unfailed _ line (is_boot image) none = none

unfailed_line : (line : Line) → tells_failure line ≡ false → NoFailure line
unfailed_line (Refused MemoryFailure) none = cc
unfailed_line _ none = tt

-- ---- so over a quiet disk a run is calm

events_cut_nothing : (s : AloneState) (ms : List AloneMoment) (t : AloneState) → Run AloneStep s ms t → All NoCut (commands_in (seen ms))
events_cut_nothing s [] t run = All-nil NoCut
events_cut_nothing s (m ∷ ms) t run =
    All-cons NoCut m.command (commands_in (seen ms)) (cuts_nothing m.command run.0.of_endpoint) (events_cut_nothing m.after ms t run.1)

pub no_line_fails : (s : AloneState) (ms : List AloneMoment) (t : AloneState) → IsQuiet s.node.store.disk → Run AloneStep s ms t
    → All (λ (m : Instant). tells_failure m.line ≡ false) (seen ms)
no_line_fails s [] t quiet run = All-nil (λ (m : Instant). tells_failure m.line ≡ false)
no_line_fails s (m ∷ ms) t quiet run =
    let e : Event = m.command in
    let turned : StaysQuiet s.node.store.disk m.after.node.store.disk × (fails_at 0 e m.line ≡ false) =
    turn_stays_quiet (mark_at 0 e) (most_at 0 (alone_world m.after) e) (fails_at 0 e m.line) s.node.store.disk m.after.node.store.disk
    (alone_disk s e m.line m.after run.0) quiet (arms_nothing_later e run.0.of_endpoint) in
    All-cons (λ (i : Instant). tells_failure i.line ≡ false) (record { command = e; line = m.line; after = alone_world m.after }) (seen ms)
    (own_line_unfailed e m.line run.0.of_endpoint turned.1)
    (no_line_fails m.after ms t (still_quiet s.node.store.disk m.after.node.store.disk quiet turned.0) run.1)

calm_moments : (ms : Moments) → All NoCut (commands_in ms) → All (λ (m : Instant). tells_failure m.line ≡ false) ms → IsCalm ms
calm_moments ms uncut unfailed = λ k d inside.
    let e : Event = (get_or ms k d).command in
    let same : get_or (commands_in ms) k e ≡ e = get_or-map (λ (m : Instant). m.command) ms k d e inside in (
      subst NoCut same (uncut k e (omega (arith, inside, length-map ms (λ (m : Instant). m.command)))),
      unfailed_line (get_or ms k d).line (unfailed k d inside),
    )

-- ---- and a run at whose end no count rose

-- the faults that the node's disk counted
abbrev faults_at : AloneState → ℕ
faults_at s = s.node.store.disk.faults

faults_later : (s : AloneState) (ms : List AloneMoment) (t : AloneState) → Run AloneStep s ms t → faults_at s ≤ faults_at t
faults_later s [] t run = omega (arith, ap faults_at run)
faults_later s (m ∷ ms) t run = omega (arith, (alone_disk s m.command m.line m.after run.0).runs.later, faults_later m.after ms t run.1)

tells_none : (fails : Bool) (before after : ℕ) → CountsFailure fails before after → ¬ Rose before after → fails ≡ false
tells_none false before after counts calm = refl
tells_none true before after counts calm = absurd (calm counts)

pub no_line_failed : (s : AloneState) (ms : List AloneMoment) (t : AloneState) → ¬ Rose (faults_at s) (faults_at t) → Run AloneStep s ms t
    → All (λ (m : Instant). tells_failure m.line ≡ false) (seen ms)
no_line_failed s [] t calm run = All-nil (λ (m : Instant). tells_failure m.line ≡ false)
no_line_failed s (m ∷ ms) t calm run =
    let e : Event = m.command in
    let turn = alone_disk s e m.line m.after run.0 in
    let rest : faults_at m.after ≤ faults_at t = faults_later m.after ms t run.1 in
    let here : ¬ Rose (faults_at s) (faults_at m.after) = λ rose. calm (rose_then (faults_at s) (faults_at m.after) (faults_at t) rose rest) in
    let there : ¬ Rose (faults_at m.after) (faults_at t) = λ rose. calm (rose_after (faults_at s) (faults_at m.after) (faults_at t) turn.runs.later rose) in
    All-cons (λ (i : Instant). tells_failure i.line ≡ false) (record { command = e; line = m.line; after = alone_world m.after }) (seen ms)
    (own_line_unfailed e m.line run.0.of_endpoint (tells_none (fails_at 0 e m.line) (faults_at s) (faults_at m.after) turn.counts here))
    (no_line_failed m.after ms t there run.1)

-- ---- so its lines are determined

pub one_list_alone : EventsDetermineLines → (s : AloneState) (ms : List AloneMoment) (t : AloneState) → IsFirst (alone_world s)
    → All (λ (m : Instant). tells_failure m.line ≡ false) (seen ms) → Run AloneStep s ms t → Run Step (alone_world s) (seen ms) (alone_world t)
    → OneListOfLines (alone_world s) (commands_in (seen ms)) (lines_in (seen ms))
one_list_alone determine s ms t is unfailed alone run =
    let uncut : All NoCut (commands_in (seen ms)) = events_cut_nothing s ms t alone in
    record {
      moments = seen ms;
      last = alone_world t;
      unfailed = record { run = run; of_events = refl; unfailed = unfailed };
      lines_are = refl;
      only = λ ns other u.
          ap (λ (xs : Moments). lines_in xs) (sym (determine (alone_world s) (seen ms) (alone_world t) is run ns other u.run (sym u.of_events)
          (calm_moments (seen ms) uncut unfailed)
          (calm_moments ns (subst (λ (es : List Event). All NoCut es) (sym u.of_events) uncut) u.unfailed)));
    }
