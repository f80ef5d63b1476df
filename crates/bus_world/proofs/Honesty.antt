-- Delivered PDUs are heard, and over quiet disks without cuts the events determine the lines
use Rattle.std.specs.Prelude.{◌≡◌, ℕ, zero, suc, ◌+◌, ◌<◌, ◌&&◌, ◌==◌, Bool, true, false, cond, Option, None, List, [], ◌∷◌, ◌++◌, count_by, length, take, get_or, All}
use Rattle.std.proofs.Common.{refl, sym, ap, ◌∙◌, subst, arith, inl, inr}
use Rattle.std.proofs.lemmas.Bool.Decides.{eqb_tells}
use Rattle.std.proofs.lemmas.List.{length-map, get_or-map}
use Rattle.std.proofs.lemmas.List.Elements.{All-tail}
use Rattle.std.proofs.lemmas.List.Sums.{sum_by-cons}
use Rattle.std.proofs.lemmas.Option.{slice_get_within}
use Rattle.machine_runs.specs.Run.{Run, commands_in, lines_in}
use Rattle.machine_runs.proofs.CallerLemmas.{Run-split, MemberSteps-length}
use Rattle.cut_disk.specs.declared.Mark.{Mark}
use Rattle.cut_disk.specs.State.{DiskState}
use Rattle.store_keeping.specs.DiskTurns.{arms_later, FailuresTold}
use Rattle.bus_machine.specs.declared.events.Event.{Event}
use Rattle.bus_machine.specs.declared.events.Event.TheVariants as event
use Rattle.bus_machine.specs.declared.lines.Line.{Line}
use Rattle.bus_machine.specs.declared.lines.Line.TheVariants.{Refused}
use Rattle.bus_machine.specs.declared.lines.Refusal.TheVariants.{MemoryFailure}
use Rattle.bus_machine.specs.Bus.{World, Instant, Moments, Step, state_after, node_of, node_at}
use Rattle.bus_machine.specs.Honest.{HonestDelivery}
use Rattle.bus_machine.specs.Past.{mark_of}
use Rattle.bus_config.specs.Buses.{NamedBus}
use Rattle.bus_laws.specs.Laws.{HonestIsHeard, EventsDetermineLines, NoFailure, NoCut, IsCalm}
use Rattle.bus_world.specs.NodeDisks.{AreQuiet, mark_at, tells_failure, fails_at}
use Rattle.bus_world.specs.WorldRuns.{IsFirstOf, EachIsHeard, KeepsPower, OneListOfLines, Honest}

pub state_at : (start : World) (ms : Moments) (now : World) → Run Step start ms now → now ≡ state_after start ms
state_at start [] now run = run
state_at start (m ∷ ms) now run = state_at m.after ms now run.1

-- ---- events that keep the power

no_mark : (e : Event) → KeepsPower e → mark_of e ≡ None
no_mark (event.Send node id payload) keeps = refl
no_mark (event.Deliver node number) keeps = refl
no_mark (event.Inject node id pdu) keeps = refl
no_mark (event.Load node request) keeps = refl
no_mark (event.Key node update authkey) keeps = refl
no_mark (event.Boot node image) keeps = refl
no_mark (event.Cut node torn) keeps = absurd keeps
no_mark (event.Stop node calls) keeps = absurd keeps
no_mark (event.Fail node calls) keeps = absurd keeps

no_cut : (e : Event) → KeepsPower e → NoCut e
no_cut (event.Send node id payload) keeps = tt
no_cut (event.Deliver node number) keeps = tt
no_cut (event.Inject node id pdu) keeps = tt
no_cut (event.Load node request) keeps = tt
no_cut (event.Key node update authkey) keeps = tt
no_cut (event.Boot node image) keeps = tt
no_cut (event.Cut node torn) keeps = keeps
no_cut (event.Stop node calls) keeps = absurd keeps
no_cut (event.Fail node calls) keeps = absurd keeps

either_way : (b : Bool) (mark : Option Mark) → cond b mark mark ≡ mark
either_way true mark = refl
either_way false mark = refl

-- such an event arms the disk of no node
arms_none : (i : ℕ) (e : Event) → KeepsPower e → arms_later (mark_at i e) ≡ false
arms_none i e keeps =
    ap (λ (m : Option Mark). arms_later m)
    (ap (λ (m : Option Mark). cond (node_of e == i) m None) (no_mark e keeps) ∙ either_way (node_of e == i) None)

abbrev armed_in : ℕ → Moments → ℕ
armed_in i ms = count_by (λ m. arms_later (mark_at i m.command)) ms

count_by-cons : (p : Instant → Bool) (m : Instant) (ms : Moments) → count_by p (m ∷ ms) ≡ cond (p m) 1 0 + count_by p ms
count_by-cons p m ms = sum_by-cons (λ n. cond (p n) 1 0) m ms

armed_cons : (i : ℕ) (m : Instant) (ms : Moments) → KeepsPower m.command → armed_in i (m ∷ ms) ≡ armed_in i ms
armed_cons i m ms keeps =
    count_by-cons (λ (n : Instant). arms_later (mark_at i n.command)) m ms
    ∙ ap (λ (b : Bool). cond b 1 0 + armed_in i ms) (arms_none i m.command keeps) ∙ omega arith

first_keeps : (m : Instant) (ms : Moments) → All KeepsPower (commands_in (m ∷ ms)) → KeepsPower m.command
first_keeps m ms keep = keep 0 m.command (omega arith)

none_armed : (i : ℕ) (front rest : Moments) (m : Instant) → All KeepsPower (commands_in (front ++ m ∷ rest)) → armed_in i (front ++ m ∷ []) ≡ 0
none_armed i [] rest m keep = armed_cons i m [] (first_keeps m rest keep)
none_armed i (x ∷ front) rest m keep =
    armed_cons i x (front ++ m ∷ []) (first_keeps x (front ++ m ∷ rest) keep)
    ∙ none_armed i front rest m (All-tail KeepsPower x.command (commands_in (front ++ m ∷ rest)) keep)

-- ---- no disk fails

split_at : (ms : Moments) (k : ℕ) (d : Instant) → k < length ms → (front : Moments) × (rest : Moments) × (ms ≡ front ++ get_or ms k d ∷ rest)
split_at [] k d inside = absurd (let no : ⊥ = omega (arith, inside) in no)
split_at (m ∷ ms) zero d inside = ([], ms, refl)
split_at (m ∷ ms) (suc k) d inside =
    let more = split_at ms k d (omega (arith, inside)) in
    (m ∷ more.0, more.1, ap (λ (xs : Moments). m ∷ xs) more.2)

as_many_in_world : (start : World) (ms : Moments) (now : World) → Run Step start ms now → length now.nodes ≡ length start.nodes
as_many_in_world start [] now run = ap (λ (w : World). length w.nodes) run
as_many_in_world start (m ∷ ms) now run = as_many_in_world m.after ms now run.1 ∙ MemberSteps-length run.0.one

-- each event of a run is of a node of its first world
node_inside : (first : World) (front rest : Moments) (m : Instant) (last : World) → Run Step first (front ++ m ∷ rest) last → node_of m.command < length first.nodes
node_inside first front rest m last run =
    let parts = Run-split Step first front (m ∷ rest) last run in
    omega (
      arith,
      slice_get_within parts.0.nodes (node_of m.command) parts.2.0.one.before parts.2.0.one.was,
      as_many_in_world first front parts.0 parts.1,
    )

own_failure : (i : ℕ) (e : Event) (l : Line) → node_of e ≡ i → fails_at i e l ≡ false → tells_failure l ≡ false
own_failure i e l same none = elim (eqb_tells (node_of e) i) [
  | inl at ↦ sym (ap (λ (b : Bool). b && tells_failure l) at.0) ∙ none
  | inr other ↦ absurd (other.1 same)
]

no_failure : (line : Line) → tells_failure line ≡ false → NoFailure line
no_failure (Refused MemoryFailure) is = cc
no_failure _ is = tt

is_calm : (ms : Moments) → All KeepsPower (commands_in ms) → All (λ (m : Instant). tells_failure m.line ≡ false) ms → IsCalm ms
is_calm ms keep unfailed = λ k d inside.
    let e : Event = (get_or ms k d).command in
    let same : get_or (commands_in ms) k e ≡ e = get_or-map (λ (m : Instant). m.command) ms k d e inside in (
      no_cut e (subst KeepsPower same (keep k e (omega (arith, inside, length-map ms (λ (m : Instant). m.command))))),
      no_failure (get_or ms k d).line (unfailed k d inside),
    )

-- ---- a run from a first world

module _ (bus : NamedBus) (before after : List DiskState) (events : List Event) (first : World) (ms : Moments) (last : World) (is : IsFirstOf bus first) (run : Run Step first ms last) where
  -- each PDU that is delivered in time is accepted
  each_heard : HonestIsHeard → EachIsHeard first ms
  each_heard hear = λ front rest m number s whole delivers honest.
      let i : ℕ = node_of m.command in
      let parts = Run-split Step first front (m ∷ rest) last (subst (λ (xs : Moments). Run Step first xs last) whole run) in
      let at : parts.0 ≡ state_after first front = state_at first front parts.0 parts.1 in
      hear first front parts.0 is.is_first parts.1 i number m.line m.after s
      (subst (λ (w : World). HonestDelivery w (node_at w i) number s) (sym at) honest)
      (subst (λ (e : Event). Step parts.0 e m.line m.after) delivers parts.2.0)

  -- no line tells a failure, if the disks were quiet and no event cuts, stops or fails
  none_fails : (d : DiskState) → ((i : ℕ) → i < length bus.nodes → FailuresTold (mark_at i) (fails_at i) ms (get_or before i d) (get_or after i d))
      → AreQuiet bus before → All KeepsPower (commands_in ms) → All (λ (m : Instant). tells_failure m.line ≡ false) ms
  none_fails d failures quiet keep = λ k x inside.
      let m : Instant = get_or ms k x in
      let i : ℕ = node_of m.command in
      let split = split_at ms k x inside in
      let at : i < length bus.nodes = omega (
        arith,
        node_inside first split.0 split.1 m last (subst (λ (xs : Moments). Run Step first xs last) split.2 run),
        is.count,
      ) in
      own_failure i m.command m.line refl
      ((failures i at).quiet (quiet i d at) split.0 split.1 m split.2
      (none_armed i split.0 split.1 m (subst (λ (xs : Moments). All KeepsPower (commands_in xs)) split.2 keep)))

  one_list : EventsDetermineLines → (d : DiskState) → ((i : ℕ) → i < length bus.nodes → FailuresTold (mark_at i) (fails_at i) ms (get_or before i d) (get_or after i d))
      → commands_in ms ≡ take (length ms) events → AreQuiet bus before → All KeepsPower (take (length ms) events)
      → OneListOfLines first (take (length ms) events) (lines_in ms)
  one_list determine d failures done quiet keep =
      let calm : All KeepsPower (commands_in ms) = subst (λ (es : List Event). All KeepsPower es) (sym done) keep in
      let unfailed = none_fails d failures quiet calm in
      record {
        moments = ms;
        last = last;
        unfailed = record { run = run; of_events = done; unfailed = unfailed };
        lines_are = refl;
        only = λ ns other u.
            ap (λ (xs : Moments). lines_in xs) (sym (determine first ms last is.is_first run ns other u.run (done ∙ sym u.of_events)
            (is_calm ms calm unfailed) (is_calm ns (subst (λ (es : List Event). All KeepsPower es) (sym u.of_events) keep) u.unfailed)));
      }

  pub honest : HonestIsHeard → EventsDetermineLines → (d : DiskState)
      → ((i : ℕ) → i < length bus.nodes → FailuresTold (mark_at i) (fails_at i) ms (get_or before i d) (get_or after i d))
      → commands_in ms ≡ take (length ms) events → Honest first bus before events ms
  honest hear determine d failures done = record {
    heard = each_heard hear;
    one_list = one_list determine d failures done;
  }
