-- What comes of the words: over the disk that they name, which tells its bytes, what was done is one run
use Rattle.std.specs.Prelude.{◌≡◌, ◌⊎◌, ◌≤◌, ℕ, Bool, true, false, ◌||◌, ◌==◌, if◌then◌else◌, Option, None, Some, List, [], ◌∷◌, ◌++◌, length, map, slice_get, Vec}
use Rattle.std.specs.declared.alloc.Global.{Global}
use Rattle.std.proofs.Common.{refl, sym, ap, ◌∙◌, subst, arith, inl, inr}
use Rattle.std.proofs.lemmas.Bool.Decides.{nat_tests}
use Rattle.std.proofs.lemmas.List.{append-nil}
use Rattle.bus_port.specs.Source.{SourceState}
use Rattle.cut_disk.specs.State.{DiskState}
use Rattle.file_disk.specs.NamedDisks.{TellsFirmBytes, IsOpenedBy, DisksAreNamed, OpenedByWords, with_opened}
use Rattle.program_edge.specs.Inputs.{Reading}
use Rattle.program_edge.specs.Endings.{EndsIn, EndsInRow}
use Rattle.can_logs.specs.LogRuns.{IsUnwritten, WatchEnding, on_errors}
use Rattle.bus_config.specs.Buses.{NamedBus}
use Rattle.bus_world.specs.StartAnswers.{DiskStates}
use Rattle.bus_world.specs.WorldTurns.{TellFirm}
use Rattle.bus_world.proofs.CallerLemmas.{same_known}
use Rattle.kept_starts.specs.KeepRows.{ComesKept}
use Rattle.kept_starts.proofs.CallerLemmas.{kept_status}
use Rattle.endpoint_commands.specs.declared.rules.FrameRule.{FrameRule}
use Rattle.endpoint_commands.specs.declared.run.EndpointForm.{EndpointForm}
use Rattle.endpoint_commands.specs.declared.run.EndpointForm.TheVariants.{Plain, Boots}
use Rattle.endpoint_commands.specs.Rows.{EndpointInputs, AsksEndpoint, AsksForm, SetsEndpoint, ComesBeforeLog}
use Rattle.endpoint_commands.specs.Promises.{opening_of, DidEndpoint, DoesEndpoint, not_started, did, DidLines, IsOneRun}
use Rattle.endpoint_commands.specs.Named.{word_of_form, FourSources, none_opened, one_opened, EndpointOverDisk, EndpointOfWords}
use Rattle.endpoint_commands.proofs.LogTells.{booted_tells}
use Rattle.endpoint_commands.proofs.Statuses.{ends_does, ends_refused, runs_endpoint}

-- ---- the word of the disk

none_test : (four five : Bool) (word : Option (List ℕ)) → (four ≡ true → ⊥) → (five ≡ true → ⊥) → (if four || five then word else None) ≡ None
none_test true five word not_four not_five = absurd (not_four refl)
none_test false true word not_four not_five = absurd (not_five refl)
none_test false false word not_four not_five = refl

pub word_of_none : (words : List (List ℕ)) (place : ℕ) → ¬ AsksEndpoint words → word_of_form words place ≡ None
unfolding word_of_form
word_of_none words place other =
    none_test (length words == 4) (length words == 5) (slice_get words place) (λ four. other (inl (grind (arith, nat_tests, four)))) (λ five. other (inr (grind (arith, nat_tests, five))))

pub word_of_some : (words : List (List ℕ)) (form : EndpointForm) (place : ℕ) → AsksForm words (Some form) → word_of_form words place ≡ slice_get words place
unfolding word_of_form
word_of_some words Plain place four = rw four refl
word_of_some words Boots place five = rw five refl

form_is : (words : List (List ℕ)) → AsksEndpoint words → (form : EndpointForm) × AsksForm words (Some form)
form_is words (inl four) = (Plain, four)
form_is words (inr five) = (Boots, five)

fourth : (words : List (List ℕ)) → 4 ≤ length words → (name : List ℕ) × (slice_get words 3 ≡ Some name)
fourth [] many = absurd (let no : ⊥ = omega (arith, many) in no)
fourth (a ∷ []) many = absurd (let no : ⊥ = omega (arith, many) in no)
fourth (a ∷ b ∷ []) many = absurd (let no : ⊥ = omega (arith, many) in no)
fourth (a ∷ b ∷ c ∷ []) many = absurd (let no : ⊥ = omega (arith, many) in no)
fourth (a ∷ b ∷ c ∷ d ∷ more) many = (d, refl)

disk_word : (words : List (List ℕ)) → AsksEndpoint words → (name : List ℕ) × (word_of_form words 3 ≡ Some name)
disk_word words asks =
    let form = form_is words asks in
    let name = fourth words (let many : 4 ≤ length words = omega (arith, asks) in many) in
    (name.0, word_of_some words form.0 3 form.1 ∙ name.1)

-- an argument that opens a disk makes its file
pub makes_opened : (opens : List ℕ → DiskState → Type 0) (before after made_before made_after : List (List ℕ)) (word : Option (List ℕ)) (disks : List DiskState)
    → DisksAreNamed opens before after word disks → made_after ≡ with_opened word made_before
    → (words : List (List ℕ)) × (after ≡ before ++ words) × (made_after ≡ made_before ++ words)
makes_opened opens before after made_before made_after None disks named made = ([], named.opened_once ∙ sym (append-nil before), made ∙ sym (append-nil made_before))
makes_opened opens before after made_before made_after (Some word) disks named made = (word ∷ [], named.opened_once, made)

-- ---- over the disk that is opened

one_tells : (bus : NamedBus) (disk : DiskState) → TellsFirmBytes disk → length bus.nodes ≡ 1 → TellFirm bus (disk ∷ [])
one_tells bus disk tells one i d inside =
    let first : i ≡ 0 = omega (arith, one, inside) in
    rw first (tells.bytes, tells.told)

module _ (i : EndpointInputs) (d : DiskStates) (e : WatchEnding) where
  is_one_run : (disk : DiskState) → d.before ≡ disk ∷ [] → TellsFirmBytes disk → DidLines i d e → IsOneRun i d e
  is_one_run disk one tells (bus, rules, image, sets, x) =
      (bus, rules, image, sets, (x, x.one_run (subst (TellFirm bus) (sym one) (one_tells bus disk tells sets.2))))

  opened_run : (opens : List ℕ → DiskState → Type 0) (before after : List (List ℕ)) → DisksAreNamed opens before after (word_of_form i.words 3) d.before → DidLines i d e → IsOneRun i d e
  opened_run opens before after named took =
      let name = disk_word i.words took.3.0 in
      let opened : IsOpenedBy opens name.0 d.before = named.one name.0 name.1 in
      is_one_run opened.disk opened.one opened.tells took

  -- without a disk no line was taken
  no_lines : d.before ≡ [] → DidLines i d e → ⊥
  no_lines none (bus, rules, image, sets, x) = omega (arith, x.ran.room.enough, x.ran.one, ap (λ (disks : List DiskState). length disks) none)

-- ---- the statuses of a run whose inputs were taken

-- of one that took lines
did_status : (bus : NamedBus) (rules : List FrameRule) (image : Option (List ℕ)) (log : Reading) (d : DiskStates) (e : WatchEnding) → DidEndpoint bus rules image log d e
    → (e.status ≡ 0) ⊎ (5 ≤ e.status)
did_status bus rules image log d e x = elim (booted_tells rules x.ran.booted (opening_of x.told) log e x.ran.now x.lines x.ends) [
  | inl done ↦ inl done.0
  | inr (inl failed) ↦ inr (omega (arith, failed.0))
  | inr (inr (inl long)) ↦ inr (omega (arith, long.0))
  | inr (inr (inr (inl stopped))) ↦ inr (omega (arith, stopped.0))
  | inr (inr (inr (inr sink))) ↦ inr (omega (arith, sink.0))
]

-- of one whose node wasn't started
unstarted_status : (same : Type 0) (bus : NamedBus) (d : DiskStates) (e : WatchEnding) → EndsInRow (ComesKept same bus d) (on_errors e)
    → (e.status ≡ 6) ⊎ (e.status ≡ 9) ⊎ (e.status ≡ 10) ⊎ (e.status ≡ 7)
unstarted_status same bus d e ends = elim ends.told [
  | inl (is, printed) ↦ inr (subst (λ (n : ℕ). (n ≡ 9) ⊎ (n ≡ 10) ⊎ (n ≡ 7)) (sym is) (kept_status same bus d ends.row ends.comes))
  | inr (six, rose, part) ↦ inl six
]

not_early : (same : Type 0) (bus : NamedBus) (rules : List FrameRule) (image : Option (List ℕ)) (log : Reading) (d : DiskStates) (e : WatchEnding) → DoesEndpoint same bus rules image log d e
    → (e.status ≡ 2) ⊎ (e.status ≡ 3) ⊎ (e.status ≡ 4) → ⊥
not_early same bus rules image log d e (not_started ends unwritten unread) early =
    let late = unstarted_status same bus d e ends in
    omega (arith, early, late)
not_early same bus rules image log d e (did x) early =
    let late = did_status bus rules image log d e x in
    omega (arith, early, late)

took_at_fault : (same : Type 0) (bus : NamedBus) (rules : List FrameRule) (image : Option (List ℕ)) (log : Reading) (d : DiskStates) (e : WatchEnding) → DoesEndpoint same bus rules image log d e
    → (e.status ≡ 5) ⊎ (e.status ≡ 8) → DidEndpoint bus rules image log d e
took_at_fault same bus rules image log d e (not_started ends unwritten unread) fault =
    let other = unstarted_status same bus d e ends in
    absurd (let no : ⊥ = omega (arith, fault, other) in no)
took_at_fault same bus rules image log d e (did x) fault = x

-- ---- with the disk, or without one

module _ {D : Type 0} (state : D → DiskState) (opens : List ℕ → DiskState → Type 0) (before after : List (List ℕ)) (i : EndpointInputs) (used : Vec D Global) (e : WatchEnding) where
  -- a row of the inputs was told, and no disk opened
  pub none_over : used.items ≡ [] → after ≡ before → EndsInRow (ComesBeforeLog i) (on_errors e) → IsUnwritten e.output → EndpointOverDisk state opens before after i used e
  none_over none still ends unwritten =
      let d : DiskStates = record { before = map state used.items; after = map state used.items } in
      let no_disks : map state used.items ≡ [] = ap (λ (ds : List D). map state ds) none in
      record {
        disks = used;
        disk = none_opened ends unwritten still no_disks;
        unopened = λ is. still;
        unopened_at_fault = λ is. inl still;
        runs = runs_endpoint (used ≡ used) i d e (λ same. refl) (ends_refused i e (used ≡ used) d refl ends unwritten);
        one_run = λ took. absurd (no_lines i d e no_disks took);
      }

  -- all inputs but the log were taken, and then the disk was opened
  pub one_over : (disks : Vec D Global) (word : Option (List ℕ)) (bus : NamedBus) (rules : List FrameRule) (image : Option (List ℕ)) → SetsEndpoint i bus rules image
      → word ≡ word_of_form i.words 3 → DisksAreNamed opens before after word (map state disks.items)
      → DoesEndpoint (used ≡ disks) bus rules image i.log (record { before = map state disks.items; after = map state used.items }) e
      → EndpointOverDisk state opens before after i used e
  one_over disks word bus rules image sets is named does =
      let d : DiskStates = record { before = map state disks.items; after = map state used.items } in
      let opened : DisksAreNamed opens before after (word_of_form i.words 3) (map state disks.items) =
      subst (λ (w : Option (List ℕ)). DisksAreNamed opens before after w (map state disks.items)) is named in
      record {
        disks = disks;
        disk = one_opened (bus, rules, image, sets, tt) opened;
        unopened = λ early. absurd (not_early (used ≡ disks) bus rules image i.log d e does early);
        unopened_at_fault = λ fault. inr (bus, rules, image, sets, took_at_fault (used ≡ disks) bus rules image i.log d e does fault);
        runs = runs_endpoint (used ≡ disks) i d e (λ same. same_known state disks used same) (ends_does (used ≡ disks) i d e bus rules image sets does);
        one_run = opened_run i d e opens before after opened;
      }

-- ---- malformed words

module _ {D : Type 0} (state : D → DiskState) (opens : List ℕ → SourceState → Type 0) (opens_disk : List ℕ → DiskState → Type 0) (o : OpenedByWords) (words : List (List ℕ)) (left : FourSources)
    (used : Vec D Global) (e : WatchEnding) (ran : EndpointOfWords state opens opens_disk o words left used e) where
  pub words_usage : e.status ≡ 2 → ¬ AsksEndpoint words
  words_usage two = subst (λ (ws : List (List ℕ)). ¬ AsksEndpoint ws) ran.words_are (ran.over.runs.inputs.usage two).0

  pub words_usage_only : ¬ AsksEndpoint words → EndsIn 2 (on_errors e)
  words_usage_only other = ran.over.runs.inputs.usage_only (subst (λ (ws : List (List ℕ)). ¬ AsksEndpoint ws) (sym ran.words_are) other)
