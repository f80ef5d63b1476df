-- What a key command promises, by how it ran
use Rattle.std.proofs.Common.{◌≡◌, ◌≢◌, ◌∙◌, ◌⊎◌, ℕ, ◌≤◌, List, [], Ok, Err, inl, inr, refl, subst, sym, arith}
use Rattle.program_edge.specs.declared.input.InputFault.TheVariants as input
use Rattle.memory_update.specs.declared.messages.Request.{Request}
use Rattle.program_edge.specs.Rows.{Row, memory_row}
use Rattle.std.specs.Prelude.{codes}
use Rattle.text_lines.specs.Readings.{Fault}
use Rattle.text_lines.specs.Texts.{fault_text_of}
use Rattle.program_edge.specs.Inputs.{CountsFault, CountsTooMuch, IsUnread, Lacks}
use Rattle.program_edge.proofs.CallerLemmas.{Lacks-unread, EndsInRow-at, EndsInRow-front, EndsInRow-rose, EndsInRow-may, EndsInRow-well, EndsInRow-more}
use Rattle.program_edge.specs.Endings.{CountsWriteFault, Ending, EndsIn, EndsInRow, MayEndIn, PrintsFront, PrintsWhole, SinkFailed}
use Rattle.key_commands.specs.Loads.{ComesInLoad, EndsLoad, IsRequestFault, LoadInputs, in_lines, in_row, no_requests_read, without_requests}
use Rattle.key_commands.specs.Promises.{AnswersNone, EndsAtOne, OffersEngine, OffersRequests, RefusesStore, RunsLoad, StopsAtOne}
use Rattle.key_commands.proofs.LoadPromises.{runs_load}
use Rattle.key_commands.specs.declared.subcommands.Subcommand.{Subcommand}
use Rattle.key_commands.specs.declared.subcommands.Subcommand.TheVariants as subcommand
use Rattle.key_commands.specs.declared.tasks.Task.{Task}
use Rattle.key_commands.specs.declared.tasks.Task.TheVariants.{Load}
use Rattle.key_commands.specs.declared.tasks.BadValue.{BadValue}
use Rattle.key_commands.specs.Tasks.{load_task, task_of}
use Rattle.key_commands.specs.Texts.{key_usage, value_text, Denies, PrintsDone}
use Rattle.key_commands.specs.Rows.{AskedComes, AsksFor, AsksLoad, AsksNoLoad, ComesOfWords, EndsAsked, EndsKey, IsAsBefore, IsNoLoad, IsRefused, KeyComes, KeyInputs, NamesSome, OverLoad, denied, done, load_inputs, no_memory, not_loaded, refused_words, without_disks, wrong_value}
use Rattle.key_commands.specs.Keys.{IsPlainCall, Keys}
use Rattle.key_commands.proofs.Complete.{plain_asks, plain_row, task_row}
use Rattle.key_commands.proofs.Named.{asks_one, asks_taken}
use Rattle.key_commands.proofs.Denied.{denied_row, refused_row, wrong_row}

abbrev Done : List (List ℕ) → Ending → Type 0
Done words e = (task : Task) × AsksFor words (Ok task) × ((text : List ℕ) × PrintsDone task text × PrintsWhole e text)

-- a row that comes has its status alone
at_0 : (words : List (List ℕ)) (e : Ending) (row : Row) → ComesOfWords words row → row.status ≡ 0 → PrintsWhole e row.text → Done words e
at_0 words e row comes is whole = grind arith

at_1 : (words : List (List ℕ)) (e : Ending) (row : Row) → ComesOfWords words row → row.status ≡ 1 → PrintsWhole e row.text
    → (task : Task) × AsksFor words (Ok task) × ((text : List ℕ) × Denies task text × PrintsWhole e text)
at_1 words e row comes is whole = grind arith

at_2 : (words : List (List ℕ)) (e : Ending) (row : Row) → ComesOfWords words row → row.status ≡ 2 → PrintsWhole e row.text
    → IsRefused words × PrintsWhole e key_usage
at_2 words e row comes is whole = grind arith

at_3 : (words : List (List ℕ)) (e : Ending) (row : Row) → ComesOfWords words row → row.status ≡ 3 → PrintsWhole e row.text
    → (bad : BadValue) × AsksFor words (Err bad) × PrintsWhole e (value_text bad.number)
at_3 words e row comes is whole = grind arith

at_7 : (words : List (List ℕ)) (e : Ending) (row : Row) → ComesOfWords words row → row.status ≡ 7 → PrintsWhole e row.text
    → NamesSome words × PrintsWhole e []
at_7 words e row comes is whole = grind arith

not_6 : (words : List (List ℕ)) (row : Row) → ComesOfWords words row → row.status ≡ 6 → ⊥
not_6 words row comes is = grind arith

-- a row of the arguments has one of these statuses
words_low : (words : List (List ℕ)) (row : Row) → ComesOfWords words row → (row.status ≤ 3) ⊎ (row.status ≡ 7)
words_low words row comes = grind arith

ends_low : (words : List (List ℕ)) (e : Ending) → EndsInRow (ComesOfWords words) e → (e.status ≤ 3) ⊎ (e.status ≡ 6) ⊎ (e.status ≡ 7)
ends_low words e ends = grind (arith, words_low)

-- how a key command ran: without the source of requests and the disks, or as a load
pub data RanKey {S D : Type 0} (i : KeyInputs S D) (e : Ending) : Type 0 where
  apart : EndsInRow (ComesOfWords i.words) e → IsAsBefore i.request → IsAsBefore i.disks → IsUnread i.reading → IsAsBefore i.known → RanKey i e
  loads : (uid : List ℕ) → AsksLoad i.words uid → EndsLoad (load_inputs i uid) e → RanKey i e

-- if a load is asked for, a row of the arguments is out of memory
words_of_load : {S D : Type 0} (i : KeyInputs S D) (uid : List ℕ) → AsksLoad i.words uid → IsUnread i.reading → IsAsBefore i.known
    → (row : Row) → ComesOfWords i.words row → ComesInLoad (load_inputs i uid) row
words_of_load i uid asks unread same row (refused_words refused) = absurd (asks_taken i.words _ asks refused)
words_of_load i uid asks unread same row (wrong_value bad wrongly) =
    let is : Err bad ≡ Ok (Load uid) = asks_one i.words (Err bad) (Ok (Load uid)) wrongly asks in
    cc is
words_of_load i uid asks unread same row (no_memory names) =
    without_requests memory_row (no_requests_read input.Memory (Lacks-unread i.reading unread)) same
words_of_load i uid asks unread same row (denied task text also denies) =
    let is : Ok task ≡ Ok (Load uid) = asks_one i.words (Ok task) (Ok (Load uid)) also asks in
    let task_is : task ≡ Load uid = cc is in
    absurd (subst (λ (k : Task). Denies k text) task_is denies)
words_of_load i uid asks unread same row (done task text also prints) =
    let is : Ok task ≡ Ok (Load uid) = asks_one i.words (Ok task) (Ok (Load uid)) also asks in
    let task_is : task ≡ Load uid = cc is in
    absurd (subst (λ (k : Task). PrintsDone k text) task_is prints)

-- the arguments ask for one load
one_load : (words : List (List ℕ)) (a b : List ℕ) → AsksLoad words a → AsksLoad words b → a ≡ b
one_load words a b left right =
    let is : Ok (Load a) ≡ Ok (Load b) = asks_one words (Ok (Load a)) (Ok (Load b)) left right in
    cc is

module _ {S D : Type 0} (i : KeyInputs S D) (e : Ending) where
  -- what a load promises, if one is asked for
  of_load : RanKey i e → (uid : List ℕ) → AsksLoad i.words uid → RunsLoad (load_inputs i uid) e
  of_load (apart ends unread untouched unasked same) uid asks =
      runs_load (load_inputs i uid) e (in_row (EndsInRow-more (words_of_load i uid asks unasked same) ends))
  of_load (loads other also ends) uid asks =
      subst (λ (u : List ℕ). RunsLoad (load_inputs i u) e) (one_load i.words other uid also asks) (runs_load (load_inputs i other) e ends)

  -- a status that no row of the arguments has is that of a load
  only_load : RanKey i e → (P : LoadInputs → Type 0) → (4 ≤ e.status) × (e.status ≢ 6) × (e.status ≢ 7)
      → ((uid : List ℕ) → RunsLoad (load_inputs i uid) e → P (load_inputs i uid)) → OverLoad i P
  only_load (apart ends unread untouched unasked same) P (high, not_6, not_7) of = elim (ends_low i.words e ends) [
    | inl low ↦ absurd (omega (arith, high, low))
    | inr more ↦ elim more [
      | inl six ↦ absurd (not_6 six)
      | inr seven ↦ absurd (not_7 seven)
    ]
  ]
  only_load (loads uid asks ends) P bounds of = (uid, asks, of uid (runs_load (load_inputs i uid) e ends))

  -- a load ends in 0 or above 3
  no_low : (uid : List ℕ) → EndsLoad (load_inputs i uid) e → (e.status ≡ 0) ⊎ (4 ≤ e.status)
  no_low uid ends =
      let among = (runs_load (load_inputs i uid) e ends).statuses in
      elim among [
        | inl zero ↦ inl zero
        | inr (least, most) ↦ inr least
      ]

  -- if it isn't that of a load, it is that of a row of the arguments
  not_load : {A : Type 0} → RanKey i e → (e.status ≡ 1) ⊎ (e.status ≡ 2) ⊎ (e.status ≡ 3) → (EndsInRow (ComesOfWords i.words) e → A) → A
  not_load (apart ends unread untouched unasked same) low of = of ends
  not_load (loads uid asks ends) low of = (let among = no_low uid ends in absurd (omega (arith, low, among)))

  ended : RanKey i e → EndsKey i e
  ended (apart ends unread untouched unasked same) = inl (EndsInRow-more (λ row comes. without_disks row comes unread untouched) ends)
  ended (loads uid asks (in_row ends)) = inl (EndsInRow-more (λ row comes. not_loaded row (uid, asks, comes)) ends)
  ended (loads uid asks (in_lines ends)) = inr (uid, asks, ends)

  as_asked : RanKey i e → (s : Subcommand) (values : List (List ℕ)) → IsPlainCall i.words s values → EndsAsked i (task_of s values) e
  as_asked (apart ends unread untouched unasked same) s values call = inl (EndsInRow-more (plain_row i.words s values call) ends)
  as_asked (loads uid asks ends) s values call =
      inr (uid, asks_one i.words (task_of s values) (Ok (Load uid)) (plain_asks i.words s values call) asks, ends)

  done_at_0 : RanKey i e → AsksNoLoad i.words → e.status ≡ 0 → Done i.words e
  done_at_0 (apart ends unread untouched unasked same) none = EndsInRow-at ends 0 refl (at_0 i.words e)
  done_at_0 (loads uid asks ends) none = absurd (none uid asks)

  denied_may : RanKey i e → (task : Task) (text : List ℕ) → AsksFor i.words (Ok task) → Denies task text → MayEndIn 1 e
  denied_may (apart ends unread untouched unasked same) task text asks denies = EndsInRow-may ends 1 (denied_row i.words task text asks denies)
  denied_may (loads uid also ends) task text asks denies =
      let is : Ok task ≡ Ok (Load uid) = asks_one i.words (Ok task) (Ok (Load uid)) asks also in
      let task_is : task ≡ Load uid = cc is in
      absurd (subst (λ (k : Task). Denies k text) task_is denies)

  usage_may : RanKey i e → IsRefused i.words → MayEndIn 2 e
  usage_may ran refused = grind (arith, EndsInRow-may, refused_row, asks_taken)

  wrong_may : RanKey i e → (bad : BadValue) → AsksFor i.words (Err bad) → MayEndIn 3 e
  wrong_may ran bad asks = grind (arith, EndsInRow-may, wrong_row, asks_one)

  faulted : RanKey i e → CountsFault i.reading → EndsIn 5 e
  faulted ran counts = grind (arith, runs_load)

  too_much : RanKey i e → CountsTooMuch i.reading → EndsIn 8 e
  too_much ran counts = grind (arith, runs_load)

  alone : RanKey i e → (e.status ≡ 4) ⊎ (e.status ≡ 5) ⊎ (8 ≤ e.status) → (uid : List ℕ) × AsksLoad i.words uid
  alone (apart ends unread untouched unasked same) high = (let low = ends_low i.words e ends in absurd (omega (arith, high, low)))
  alone (loads uid asks ends) high = (uid, asks)

  -- an early end of a load
  row_or_lines : (uid : List ℕ) → AsksLoad i.words uid → AnswersNone (load_inputs i uid) e ⊎ EndsAtOne (load_inputs i uid) e → e.status ≡ 6
      → PrintsFront (KeyComes i) e ⊎ OverLoad i (λ l. EndsAtOne l e)
  row_or_lines uid asks (inl (same, inl (six, (row, comes, part)))) is = inl (row, not_loaded row (uid, asks, comes), part)
  row_or_lines uid asks (inl (same, inr (seven, printed, calm))) is = absurd (omega (arith, is, seven))
  row_or_lines uid asks (inr one) is = inr (uid, asks, one)

  nothing_or_lines : (uid : List ℕ) → AsksLoad i.words uid → AnswersNone (load_inputs i uid) e ⊎ EndsAtOne (load_inputs i uid) e → e.status ≡ 7
      → PrintsWhole e [] ⊎ OverLoad i (λ l. EndsAtOne l e)
  nothing_or_lines uid asks comes is = grind arith

  front_at_6 : RanKey i e → e.status ≡ 6 → SinkFailed e × (PrintsFront (KeyComes i) e ⊎ OverLoad i (λ l. EndsAtOne l e))
  front_at_6 (apart ends unread untouched unasked same) six =
      let front = EndsInRow-front ends (not_6 i.words) six in
      (front.0, inl (front.1.0, without_disks front.1.0 front.1.1 unread untouched, front.1.2))
  front_at_6 (loads uid asks ends) six =
      let runs = runs_load (load_inputs i uid) e ends in
      (runs.write_fault six, row_or_lines uid asks (runs.load_early_ends (inl six)) six)

  counts_is_6 : RanKey i e → CountsWriteFault e → e.status ≡ 6
  counts_is_6 (apart ends unread untouched unasked same) counts = EndsInRow-rose ends counts
  counts_is_6 (loads uid asks ends) counts = (runs_load (load_inputs i uid) e ends).write_fault_only counts

  memory_at_7 : RanKey i e → e.status ≡ 7 → NamesSome i.words × (PrintsWhole e [] ⊎ OverLoad i (λ l. EndsAtOne l e))
  memory_at_7 (apart ends unread untouched unasked same) seven =
      let nothing = EndsInRow-at ends 7 refl (at_7 i.words e) seven in
      (nothing.0, inl nothing.1)
  memory_at_7 (loads uid asks ends) seven =
      let runs = runs_load (load_inputs i uid) e ends in
      ((asks.0, asks.1), nothing_or_lines uid asks (runs.load_early_ends (inr seven)) seven)

  completed : RanKey i e → (s : Subcommand) (values : List (List ℕ)) (task : Task) → IsPlainCall i.words s values → task_of s values ≡ Ok task
      → IsNoLoad task → ¬ SinkFailed e → (e.status ≡ 0) ⊎ (e.status ≡ 1) ⊎ (e.status ≡ 7)
  completed (apart ends unread untouched unasked same) s values task call asks other calm =
      let (row, comes, is, prints) = EndsInRow-well ends calm in
      subst (λ n. (n ≡ 0) ⊎ (n ≡ 1) ⊎ (n ≡ 7)) (sym is)
      (task_row task row (subst (λ asked. AskedComes asked row) asks (plain_row i.words s values call row comes)))
  completed (loads uid also ends) s values task call asks other calm =
      let is : Ok task ≡ Ok (Load uid) = sym asks ∙ asks_one i.words (task_of s values) (Ok (Load uid)) (plain_asks i.words s values call) also in
      let task_is : task ≡ Load uid = cc is in
      absurd (subst IsNoLoad task_is other)

  load_completed : RanKey i e → (values : List (List ℕ)) (uid : List ℕ) (requests : List Request) → IsPlainCall i.words subcommand.Load values
      → load_task values ≡ Ok (Load uid) → OffersRequests (load_inputs i uid) requests → OffersEngine (load_inputs i uid) → ¬ SinkFailed e
      → (e.status ≡ 0) ⊎ (e.status ≡ 7)
  load_completed ran values uid requests call is offers engine calm =
      (of_load ran uid (subst (AsksFor i.words) is (plain_asks i.words subcommand.Load values call))).complete requests offers engine calm

  source_same : RanKey i e → AsksNoLoad i.words ⊎ (e.status ≡ 2) ⊎ (e.status ≡ 3) → IsAsBefore i.request × IsAsBefore i.disks
  source_same (apart ends unread untouched unasked same) unused = (unread, untouched)
  source_same (loads uid asks ends) (inl none) = absurd (none uid asks)
  source_same (loads uid asks ends) (inr low) =
      (let among = no_low uid ends in absurd (omega (arith, low, among)))

  pub Keys-ran : RanKey i e → Keys i e
  Keys-ran ran = record {
    ends = ended ran;
    plain = as_asked ran;
    done = done_at_0 ran;
    denied = λ is. not_load ran (inl is) (λ ends. EndsInRow-at ends 1 refl (at_1 i.words e) is);
    denied_only = denied_may ran;
    usage = λ is. not_load ran (inr (inl is)) (λ ends. EndsInRow-at ends 2 refl (at_2 i.words e) is);
    usage_only = usage_may ran;
    wrong_value = λ is. not_load ran (inr (inr is)) (λ ends. EndsInRow-at ends 3 refl (at_3 i.words e) is);
    wrong_value_only = wrong_may ran;
    loaded = λ uid asks. (of_load ran uid asks).loaded;
    refused = λ is. only_load ran (λ l. (fault : Fault) × IsRequestFault l.request fault × PrintsWhole e (fault_text_of fault)) (omega (arith, is), (λ n. omega (arith, is, n)), (λ n. omega (arith, is, n))) (λ uid runs. runs.refused is);
    refused_only = λ uid text fault asks. (of_load ran uid asks).refused_only text fault;
    read_fault = λ is. only_load ran (λ l. Lacks l.request input.ReadFault × PrintsWhole e (codes "read fault\n")) (omega (arith, is), (λ n. omega (arith, is, n)), (λ n. omega (arith, is, n))) (λ uid runs. runs.read_fault is);
    read_fault_only = faulted ran;
    too_long = λ is. only_load ran (λ l. Lacks l.request input.TooLong × PrintsWhole e (codes "input too long\n")) (omega (arith, is), (λ n. omega (arith, is, n)), (λ n. omega (arith, is, n))) (λ uid runs. runs.too_long is);
    too_long_only = too_much ran;
    store_refused = λ is. only_load ran (λ l. RefusesStore l e) (omega (arith, is), (λ n. omega (arith, is, n)), (λ n. omega (arith, is, n))) (λ uid runs. runs.store_refused is);
    store_refused_only = λ uid requests asks. (of_load ran uid asks).store_refused_only requests;
    load_failed = λ is. only_load ran (λ l. StopsAtOne l e) (omega (arith, is), (λ n. omega (arith, is, n)), (λ n. omega (arith, is, n))) (λ uid runs. runs.load_failed is);
    images = λ uid asks. (of_load ran uid asks).images;
    load_early_ends = λ uid asks. (of_load ran uid asks).load_early_ends;
    load_alone = alone ran;
    write_fault = front_at_6 ran;
    write_fault_only = counts_is_6 ran;
    no_memory = memory_at_7 ran;
    complete = completed ran;
    load_complete = load_completed ran;
    source = λ unused. (source_same ran unused).0;
    disks = λ unused. (source_same ran unused).1;
    others = λ uid asks. (of_load ran uid asks).disks;
  }
