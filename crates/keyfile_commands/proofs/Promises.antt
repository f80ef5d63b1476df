-- What a run that ends in a row of the table promises
use Rattle.std.proofs.Common.{◌≡◌, ◌≢◌, ◌∙◌, ◌⊎◌, ℕ, List, [], inl, inr, refl, sym, ap, subst, arith}
use Rattle.std.specs.Prelude.{Some, None, Result, Ok, Err, codes}
use Rattle.program_edge.specs.Input.{input_limit, input_fault_status}
use Rattle.program_edge.specs.declared.input.InputFault.{InputFault}
use Rattle.program_edge.specs.declared.input.InputFault.TheVariants as input
use Rattle.program_edge.specs.Rows.{Row}
use Rattle.program_edge.specs.Inputs.{Reading, IsUnread, SourceFailed, CountsFault, GivesTooMuch, CountsTooMuch, Offers}
use Rattle.program_edge.proofs.CallerLemmas.{SourceTells, SourceTells-unread, SourceTells-whole, SourceTells-lacks, SourceTells-rose, SourceTells-beyond, SourceTells-within, SourceTells-fault, SourceTells-long}
use Rattle.program_edge.proofs.CallerLemmas.{Offers-is, Offers-whole, EndsInRow-at, EndsInRow-front, EndsInRow-rose, EndsInRow-only, EndsInRow-may, EndsInRow-well}
use Rattle.program_edge.specs.Endings.{Ending, PrintsWhole, EndsInRow, EndsIn, SinkFailed}
use Rattle.memory_update.proofs.CallerLemmas.{HasSlots-Carries}
use Rattle.key_commands.specs.declared.tasks.Task.{Task}
use Rattle.key_commands.specs.declared.tasks.Task.TheVariants.{Words, Load}
use Rattle.key_commands.specs.declared.tasks.WordTask.TheVariants as word_task
use Rattle.key_commands.specs.declared.tasks.BadValue.{BadValue}
use Rattle.key_commands.specs.Texts.{Denies, PrintsDone}
use Rattle.keyfile_commands.specs.declared.calls.KeyCall.{KeyCall}
use Rattle.keyfile_commands.specs.declared.calls.KeyCall.TheVariants.{Make, Read, Confirm, Bootmac}
use Rattle.keyfile_commands.specs.KeyFiles.{key_file_of}
use Rattle.keyfile_commands.specs.Calls.{call_of}
use Rattle.keyfile_commands.specs.Rows.{KeyFileInputs, AsksKeys, AsksKeysBy, HasFirst, HasNoKey, GivesKey, LacksFile, LacksKeyIn, LacksImageFile, ReadsImageFile, image_limit, no_key_text, ComesOfKeyFiles, no_form, no_file, no_key, no_image, wrong_value, no_memory, denied, done}
use Rattle.keyfile_commands.specs.KeyFilesRuns.{KeyFilesRuns, OffersBy, OffersCall, OffersKey, SecondTooLong, CountsLongImage, CountsSecondTooLong}
use Rattle.keyfile_commands.proofs.Offered.{asks_one, key_lacks, no_key_told, image_lacks, same_image}

tells_image : (r : Reading) (fault : InputFault) → LacksImageFile r fault → SourceTells image_limit r (input_fault_status fault)
tells_image r fault lacks = grind (arith, SourceTells-rose, SourceTells-beyond, SourceTells-within)

-- the arguments are no two calls
two_calls : (words : List (List ℕ)) (one other : KeyCall) → call_of words ≡ Some one → call_of words ≡ Some other → one ≡ other
two_calls words one other is also =
    let both : Some one ≡ Some other = sym is ∙ also in
    cc both

-- what is refused isn't done
not_both : (task : Task) (first second : List ℕ) → PrintsDone task first → Denies task second → ⊥
not_both (Words (word_task.Make update authkey)) first second prints denies = denies
not_both (Words (word_task.Read request authkey)) first second prints denies =
    elim denies [
      | inl no_slots ↦ no_slots.0 (HasSlots-Carries request authkey prints.0 prints.1)
      | inr wrong ↦ wrong.1 prints.1.padded.m3_is
    ]
not_both (Words (word_task.Confirm reply update)) first second prints denies = denies.0 prints.0
not_both (Words (word_task.Bootmac key image)) first second prints denies = denies
not_both (Load uid) first second prints denies = denies

module _ (i : KeyFileInputs) (e : Ending) where
  -- ---- rows by their status

  at_0 : (row : Row) → ComesOfKeyFiles i row → row.status ≡ 0 → PrintsWhole e row.text
      → (task : Task) × AsksKeys i (Ok task) × ((text : List ℕ) × PrintsDone task text × PrintsWhole e text)
  at_0 row (done task text asks prints_it) is prints = (task, asks, (text, prints_it, prints))
  at_0 row comes is prints = absurd (grind arith)

  at_4 : (row : Row) → ComesOfKeyFiles i row → row.status ≡ 4 → PrintsWhole e row.text
      → LacksKeyIn i × PrintsWhole e no_key_text
  at_4 row (no_key lacks) is prints = (lacks, prints)
  at_4 row comes is prints = absurd (grind arith)

  failed : LacksFile i input.ReadFault → SourceFailed i.first ⊎ SourceFailed i.second
  failed lacks = grind arith

  longer : LacksFile i input.TooLong → GivesTooMuch i.first ⊎ SecondTooLong i
  longer lacks = grind arith

  called : (call : KeyCall) → call_of i.words ≡ Some call → call_of i.words ≢ None
  called call is none = let both : Some call ≡ None = sym is ∙ none in cc both

  of_call : LacksFile i input.Memory → call_of i.words ≢ None
  of_call lacks = grind (arith, called)

  at_8 : (row : Row) → ComesOfKeyFiles i row → row.status ≡ 8 → PrintsWhole e row.text
      → (GivesTooMuch i.first ⊎ SecondTooLong i) × PrintsWhole e (codes "input too long\n")
  at_8 row comes is prints = grind (arith, longer)

  -- ---- which rows come

  -- no file is lacking but for memory if the files tell what is needed
  told_fault : (call : KeyCall) (asked : Result Task BadValue) (fault : InputFault) → call_of i.words ≡ Some call → OffersBy call i asked
      → LacksFile i fault → fault ≡ input.Memory
  told_fault Make asked fault is (key, auth, offers, offers_auth, asks) (inl (some, lacks, unread)) = key_lacks i.first key fault offers lacks
  told_fault Make asked fault is (key, auth, offers, offers_auth, asks) (inr (inl (has, lacks))) = key_lacks i.second auth fault offers_auth lacks
  told_fault Make asked fault is (key, auth, offers, offers_auth, asks) (inr (inr (has, lacks))) =
      let clash : Make ≡ Bootmac = two_calls i.words Make Bootmac is has.0 in cc clash
  told_fault Read asked fault is (auth, offers, asks) (inl (some, lacks, unread)) = key_lacks i.first auth fault offers lacks
  told_fault Read asked fault is offers (inr (inl (has, lacks))) = let clash : Read ≡ Make = two_calls i.words Read Make is has.0 in cc clash
  told_fault Read asked fault is offers (inr (inr (has, lacks))) = let clash : Read ≡ Bootmac = two_calls i.words Read Bootmac is has.0 in cc clash
  told_fault Confirm asked fault is (key, offers, asks) (inl (some, lacks, unread)) = key_lacks i.first key fault offers lacks
  told_fault Confirm asked fault is offers (inr (inl (has, lacks))) = let clash : Confirm ≡ Make = two_calls i.words Confirm Make is has.0 in cc clash
  told_fault Confirm asked fault is offers (inr (inr (has, lacks))) = let clash : Confirm ≡ Bootmac = two_calls i.words Confirm Bootmac is has.0 in cc clash
  told_fault Bootmac asked fault is (key, image, offers, offers_image, asks) (inl (some, lacks, unread)) = key_lacks i.first key fault offers lacks
  told_fault Bootmac asked fault is offers (inr (inl (has, lacks))) = let clash : Bootmac ≡ Make = two_calls i.words Bootmac Make is has.0 in cc clash
  told_fault Bootmac asked fault is (key, image, offers, offers_image, asks) (inr (inr (has, lacks))) = image_lacks i.second image fault offers_image lacks

  first_told : (call : KeyCall) (asked : Result Task BadValue) → OffersBy call i asked → (key : List ℕ) × OffersKey i.first key
  first_told call asked offers = grind arith

  second_told : (call : KeyCall) (asked : Result Task BadValue) → call_of i.words ≡ Some call → OffersBy call i asked → HasFirst i Make
      → ¬ HasNoKey i.second
  second_told call asked is offers has = λ none. grind (arith, no_key_told)

  image_told : (call : KeyCall) (asked : Result Task BadValue) → call_of i.words ≡ Some call → OffersBy call i asked → HasFirst i Bootmac
      → ¬ ReadsImageFile i.second []
  image_told call asked is offers has = λ empty. grind (arith, same_image)

  -- out of memory, or what the arguments ask for is done, refused or a wrong value
  abbrev Answers : Result Task BadValue → ℕ → Type 0
  Answers asked status = (status ≡ 7)
      ⊎ ((bad : BadValue) × (asked ≡ Err bad) × (status ≡ 3))
      ⊎ ((task : Task) × (text : List ℕ) × (asked ≡ Ok task) × Denies task text × (status ≡ 1))
      ⊎ ((task : Task) × (text : List ℕ) × (asked ≡ Ok task) × PrintsDone task text × (status ≡ 0))

  told : (asked : Result Task BadValue) → OffersCall i asked → (row : Row) → ComesOfKeyFiles i row → Answers asked row.status
  told asked (call, is, offers) row (no_form none first second) = absurd (called call is none)
  told asked (call, is, offers) row (no_file fault lacks) = inl (ap input_fault_status (told_fault call asked fault is offers lacks))
  told asked (call, is, offers) row (no_key (inl (some, none, unread))) =
      let first = first_told call asked offers in absurd (no_key_told i.first first.0 first.1 none)
  told asked (call, is, offers) row (no_key (inr (has, none))) = absurd (second_told call asked is offers has none)
  told asked (call, is, offers) row (no_image has empty) = absurd (image_told call asked is offers has empty)
  told asked offers row (wrong_value bad asks) = inr (inl (bad, sym (asks_one i asked (Err bad) offers asks), refl))
  told asked offers row (no_memory other asks) = inl refl
  told asked offers row (denied task text asks denies) =
      inr (inr (inl (task, text, sym (asks_one i asked (Ok task) offers asks), denies, refl)))
  told asked offers row (done task text asks prints) =
      inr (inr (inr (task, text, sym (asks_one i asked (Ok task) offers asks), prints, refl)))

  only_3 : (bad : BadValue) → OffersCall i (Err bad) → (row : Row) → ComesOfKeyFiles i row → (row.status ≡ 3) ⊎ (row.status ≡ 7)
  only_3 bad offers row comes = let answers : Answers (Err bad) row.status = told (Err bad) offers row comes in grind arith

  only_1 : (task : Task) (text : List ℕ) → OffersCall i (Ok task) → Denies task text → (row : Row) → ComesOfKeyFiles i row
      → (row.status ≡ 1) ⊎ (row.status ≡ 7)
  only_1 task text offers denies row comes = elim (told (Ok task) offers row comes) [
    | inl seven ↦ inr seven
    | inr (inl (bad, same, three)) ↦ cc same
    | inr (inr (inl (other, t, same, also, one))) ↦ inl one
    | inr (inr (inr (other, t, same, prints, zero))) ↦
        let is : other ≡ task = cc same in
        absurd (not_both task t text (subst (λ (k : Task). PrintsDone k t) is prints) denies)
  ]

  completes : (task : Task) → OffersCall i (Ok task) → (row : Row) → ComesOfKeyFiles i row
      → (row.status ≡ 0) ⊎ (row.status ≡ 1) ⊎ (row.status ≡ 7)
  completes task offers row comes = let answers : Answers (Ok task) row.status = told (Ok task) offers row comes in grind arith

  -- ---- what a source that failed, or gave too much, leaves

  asks_first : (call : KeyCall) (asked : Result Task BadValue) → AsksKeysBy call i asked → (key : List ℕ) × GivesKey i.first key
  asks_first call asked asks = grind arith

  only_4 : (call : KeyCall) (bytes : List ℕ) → call_of i.words ≡ Some call → Offers i.first bytes → key_file_of bytes ≡ None
      → (row : Row) → ComesOfKeyFiles i row → (row.status ≡ 4) ⊎ (row.status ≡ 7)
  only_4 call bytes is offers none row comes = go row comes
    where
      clash : (key : List ℕ) × GivesKey i.first key → ⊥
      clash (key, (read, whole, gives)) =
          let same : read ≡ bytes = Offers-whole i.first bytes read offers whole in
          let both : Some key ≡ None = sym gives ∙ ap key_file_of same ∙ none in
          cc both

      go : (row : Row) → ComesOfKeyFiles i row → (row.status ≡ 4) ⊎ (row.status ≡ 7)
      go row (no_form no_call first second) = absurd (called call is no_call)
      go row (no_file fault (inl (some, lacks, unread))) = inr (ap input_fault_status (Offers-is i.first bytes fault offers lacks))
      go row (no_file fault (inr (inl (has, lacks)))) = absurd (clash has.1)
      go row (no_file fault (inr (inr (has, lacks)))) = absurd (clash has.1)
      go row (no_key lacks) = inl refl
      go row (no_image has empty) = absurd (clash has.1)
      go row (wrong_value bad asks) = absurd (clash (asks_first asks.0 (Err bad) asks.2))
      go row (no_memory asked asks) = inr refl
      go row (denied task text asks denies) = absurd (clash (asks_first asks.0 (Ok task) asks.2))
      go row (done task text asks prints) = absurd (clash (asks_first asks.0 (Ok task) asks.2))

  first_read : (status : ℕ) → (key : List ℕ) × GivesKey i.first key → SourceTells input_limit i.first status
  first_read status (key, (read, whole, gives)) = SourceTells-whole input_limit i.first status read whole

  first_tells : (row : Row) → ComesOfKeyFiles i row → SourceTells input_limit i.first row.status
  first_tells row (no_form none first second) = SourceTells-unread input_limit i.first 2 first
  first_tells row (no_file fault (inl (some, lacks, unread))) = SourceTells-lacks i.first fault lacks
  first_tells row (no_file fault (inr (inl (has, lacks)))) = first_read (input_fault_status fault) has.1
  first_tells row (no_file fault (inr (inr (has, lacks)))) = first_read (input_fault_status fault) has.1
  first_tells row (no_key (inl (some, (read, whole, none), unread))) = SourceTells-whole input_limit i.first 4 read whole
  first_tells row (no_key (inr (has, none))) = first_read 4 has.1
  first_tells row (no_image has empty) = first_read 3 has.1
  first_tells row (wrong_value bad asks) = first_read 3 (asks_first asks.0 (Err bad) asks.2)
  first_tells row (no_memory asked asks) = first_read 7 (asks_first asks.0 asked asks.2)
  first_tells row (denied task text asks denies) = first_read 1 (asks_first asks.0 (Ok task) asks.2)
  first_tells row (done task text asks prints) = first_read 0 (asks_first asks.0 (Ok task) asks.2)

  -- the second file wasn't read, or is a key file, or an image
  abbrev SecondTells : ℕ → Type 0
  SecondTells status = IsUnread i.second
      ⊎ ((call_of i.words ≡ Some Make) × SourceTells input_limit i.second status)
      ⊎ ((call_of i.words ≡ Some Bootmac) × SourceTells image_limit i.second status)

  asks_second : (call : KeyCall) (asked : Result Task BadValue) (status : ℕ) → call_of i.words ≡ Some call → AsksKeysBy call i asked → SecondTells status
  asks_second call asked status is asks = grind (arith, SourceTells-whole)

  second_tells : (row : Row) → ComesOfKeyFiles i row → SecondTells row.status
  second_tells row (no_form none first second) = inl second
  second_tells row (no_file fault (inl (some, lacks, unread))) = inl unread
  second_tells row (no_file fault (inr (inl (has, lacks)))) = inr (inl (has.0, SourceTells-lacks i.second fault lacks))
  second_tells row (no_file fault (inr (inr (has, lacks)))) = inr (inr (has.0, tells_image i.second fault lacks))
  second_tells row (no_key (inl (some, none, unread))) = inl unread
  second_tells row (no_key (inr (has, (read, whole, none)))) = inr (inl (has.0, SourceTells-whole input_limit i.second 4 read whole))
  second_tells row (no_image has empty) = inr (inr (has.0, SourceTells-whole image_limit i.second 3 [] empty))
  second_tells row (wrong_value bad asks) = asks_second asks.0 (Err bad) 3 asks.1 asks.2
  second_tells row (no_memory asked asks) = asks_second asks.0 asked 7 asks.1 asks.2
  second_tells row (denied task text asks denies) = asks_second asks.0 (Ok task) 1 asks.1 asks.2
  second_tells row (done task text asks prints) = asks_second asks.0 (Ok task) 0 asks.1 asks.2

  second_faults : CountsFault i.second → (row : Row) → ComesOfKeyFiles i row → row.status ≡ 5
  second_faults counts row comes = grind (arith, second_tells, SourceTells-fault, SourceTells-unread)

  second_long : call_of i.words ≡ Some Make → CountsTooMuch i.second → (row : Row) → ComesOfKeyFiles i row → row.status ≡ 8
  second_long makes counts row comes = grind (arith, second_tells, SourceTells-long, SourceTells-unread)

  image_long : call_of i.words ≡ Some Bootmac → CountsLongImage i.second → (row : Row) → ComesOfKeyFiles i row → row.status ≡ 8
  image_long boots counts row comes = grind (arith, second_tells, SourceTells-long, SourceTells-unread)

  -- ---- the promises

  faults_end : EndsInRow (ComesOfKeyFiles i) e → CountsFault i.first ⊎ CountsFault i.second → EndsIn 5 e
  faults_end ends (inl counts) = EndsInRow-only ends 5 (λ row comes. SourceTells-fault input_limit i.first row.status (first_tells row comes) counts)
  faults_end ends (inr counts) = EndsInRow-only ends 5 (second_faults counts)

  long_ends : EndsInRow (ComesOfKeyFiles i) e → CountsTooMuch i.first ⊎ CountsSecondTooLong i → EndsIn 8 e
  long_ends ends counts = grind (arith, EndsInRow-only, SourceTells-long, first_tells, second_long, image_long)

  complete_ends : EndsInRow (ComesOfKeyFiles i) e → (task : Task) → OffersCall i (Ok task) → ¬ SinkFailed e
      → (e.status ≡ 0) ⊎ (e.status ≡ 1) ⊎ (e.status ≡ 7)
  complete_ends ends task offers well =
      let (row, comes, is, prints) = EndsInRow-well ends well in
      subst (λ (s : ℕ). (s ≡ 0) ⊎ (s ≡ 1) ⊎ (s ≡ 7)) (sym is) (completes task offers row comes)

  pub KeyFilesRuns-row : EndsInRow (ComesOfKeyFiles i) e → KeyFilesRuns i e
  KeyFilesRuns-row ends = record {
    ends = ends;
    done = EndsInRow-at ends 0 refl at_0;
    denied = EndsInRow-at ends 1 refl (λ row comes is prints. grind arith);
    denied_only = λ task text offers denies. EndsInRow-may ends 1 (only_1 task text offers denies);
    usage = EndsInRow-at ends 2 refl (λ row comes is prints. grind arith);
    usage_only = λ none. EndsInRow-only ends 2 (λ row comes. grind (arith, called));
    wrong_value = EndsInRow-at ends 3 refl (λ row comes is prints. grind arith);
    wrong_value_only = λ bad offers. EndsInRow-may ends 3 (only_3 bad offers);
    no_key = EndsInRow-at ends 4 refl at_4;
    no_key_only = λ call bytes is offers none. EndsInRow-may ends 4 (only_4 call bytes is offers none);
    read_fault = EndsInRow-at ends 5 refl (λ row comes is prints. grind (arith, failed));
    read_fault_only = faults_end ends;
    write_fault = EndsInRow-front ends (λ row comes is. grind arith);
    write_fault_only = EndsInRow-rose ends;
    no_memory = EndsInRow-at ends 7 refl (λ row comes is prints. grind (arith, of_call, called));
    too_long = EndsInRow-at ends 8 refl at_8;
    too_long_only = long_ends ends;
    complete = complete_ends ends;
  }
