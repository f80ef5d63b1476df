-- What a load promises, by how it ends
use Rattle.std.proofs.Common.{◌≡◌, ◌≢◌, ◌∙◌, ◌⊎◌, ℕ, ◌≤◌, List, [], ◌∷◌, ◌++◌, length, drop, get_or, refl, sym, ap, subst, inl, inr, arith}
use Rattle.std.specs.Prelude.{Ok, Err, Some, codes}
use Rattle.cut_disk.specs.State.{DiskState, Told}
use Rattle.cut_disk.specs.Calls.{IsDisk, Rose, Runs}
use Rattle.cut_disk.proofs.CallerLemmas.{runs_none, runs_more}
use Rattle.program_edge.specs.declared.input.InputFault.{InputFault}
use Rattle.program_edge.specs.declared.input.InputFault.TheVariants as input
use Rattle.memory_update.specs.declared.messages.Request.{Request}
use Rattle.secoc_words.specs.Frames.{loads_of}
use Rattle.text_lines.specs.Readings.{most_lines, Fault}
use Rattle.text_lines.specs.Texts.{fault_text_of}
use Rattle.program_edge.specs.Rows.{Row, input_row}
use Rattle.program_edge.specs.Inputs.{Reading, Lacks, Offers}
use Rattle.program_edge.specs.Input.{input_limit}
use Rattle.program_edge.proofs.CallerLemmas.{Offers-is, Offers-whole, SourceTells, SourceTells-lacks, SourceTells-whole, SourceTells-fault, SourceTells-long}
use Rattle.program_edge.specs.Endings.{Ending, EndsInRow, PrintsWhole, SinkFailed, CountsWriteFault}
use Rattle.program_edge.proofs.CallerLemmas.{EndsInRow-at, EndsInRow-front, EndsInRow-rose, EndsInRow-only, EndsInRow-may, EndsInRow-well}
use Rattle.key_commands.specs.declared.lines.LoadLine.{LoadLine}
use Rattle.key_commands.specs.Opening.{GivesNoEngine, LacksEngine, most_to_open, NoEngine, has_none, disk_failed}
use Rattle.key_commands.specs.Loads.{LoadInputs, LacksRequests, ReadsRequests, IsRequestFault, OnFirstDisk, ComesInLoad, EndsInLines, EndsLoad, LoadsInto, in_lines, in_row, no_requests_read, refused_request, without_disk, without_engine, without_requests}
use Rattle.key_commands.specs.declared.lines.LoadLine.TheVariants.{Failed}
use Rattle.key_commands.specs.LoadTexts.{load_text}
use Rattle.key_commands.specs.Loading.{WritesUpTo, load_texts}
use Rattle.key_commands.specs.Promises.{AnsweredAll, AnsweredUntilFailed, UpToOne, AnswersNone, HasEngine, HasNoEngine, LeavesImages, LoadsAll, OffersEngine, OffersRequests, RefusesStore, RunsLoad, SameBytes, SameCount, StopsAtOne, most_to_load}
use Rattle.key_commands.proofs.EngineLaws.{cause_in, engine_there}
use Rattle.key_commands.proofs.SourceLaws.{few_requests}
use Rattle.key_commands.proofs.AnsweredLaws.{EndsAnswered, ends_answered, ends_runs, engine_of}

-- ---- the rows

none_9 : (disk : DiskState) (row : Row) → NoEngine disk row → row.status ≡ 9
none_9 disk row comes = grind arith

lacks_9 : (before after : DiskState) (row : Row) → LacksEngine before after row → row.status ≡ 9
lacks_9 before after row (has_none _ none same) = none_9 before row none
lacks_9 before after row (disk_failed rose) = refl

gives_9_or_7 : (before after : DiskState) (row : Row) → GivesNoEngine most_to_open before after row → (row.status ≡ 9) ⊎ (row.status ≡ 7)
gives_9_or_7 before after row gives = grind (arith, lacks_9)

gives_lacks : (before after : DiskState) (row : Row) → GivesNoEngine most_to_open before after row → row.status ≡ 9 → LacksEngine before after row
gives_lacks before after row gives nine = grind arith

-- out of memory is told only if the disk didn't fail
gives_calm : (before after : DiskState) (row : Row) → GivesNoEngine most_to_open before after row → row.status ≡ 7 → after.faults ≡ before.faults
gives_calm before after row gives seven = grind (arith, lacks_9)

-- each row has one of these statuses
abbrev IsRowStatus : ℕ → Type 0
IsRowStatus n = (n ≡ 4) ⊎ (n ≡ 5) ⊎ (n ≡ 7) ⊎ (n ≡ 8) ⊎ (n ≡ 9)

row_status : (i : LoadInputs) (row : Row) → ComesInLoad i row → IsRowStatus row.status
row_status i row comes = grind (arith, gives_9_or_7)

at_4 : (i : LoadInputs) (e : Ending) (row : Row) → ComesInLoad i row → row.status ≡ 4 → PrintsWhole e row.text
    → (fault : Fault) × IsRequestFault i.request fault × PrintsWhole e (fault_text_of fault)
at_4 i e row (without_requests _ (no_requests_read input.ReadFault lacks) same) is whole = absurd (omega (arith, is))
at_4 i e row (without_requests _ (no_requests_read input.TooLong lacks) same) is whole = absurd (omega (arith, is))
at_4 i e row (without_requests _ (no_requests_read input.Memory lacks) same) is whole = absurd (omega (arith, is))
at_4 i e row (without_requests _ (refused_request fault refused) same) is whole = (fault, refused, whole)
at_4 i e row (without_disk requests reads none left) is whole = absurd (omega (arith, is))
at_4 i e row (without_engine requests _ reads first) is whole = absurd (omega (arith, is, gives_9_or_7 first.old first.new row first.holds))

at_5 : (i : LoadInputs) (e : Ending) (row : Row) → ComesInLoad i row → row.status ≡ 5 → PrintsWhole e row.text
    → Lacks i.request input.ReadFault × PrintsWhole e (codes "read fault\n")
at_5 i e row comes is whole = grind (arith, gives_9_or_7)

at_8 : (i : LoadInputs) (e : Ending) (row : Row) → ComesInLoad i row → row.status ≡ 8 → PrintsWhole e row.text
    → Lacks i.request input.TooLong × PrintsWhole e (codes "input too long\n")
at_8 i e row comes is whole = grind (arith, gives_9_or_7)

at_9 : (i : LoadInputs) (e : Ending) (row : Row) → ComesInLoad i row → row.status ≡ 9 → PrintsWhole e row.text → RefusesStore i e
at_9 i e row (without_requests _ (no_requests_read input.ReadFault lacks) same) is whole = absurd (omega (arith, is))
at_9 i e row (without_disk requests reads none left) is whole = inl (requests, reads, none, whole)
at_9 i e row (without_engine requests _ reads first) is whole = inr (
  requests,
  reads,
  record {
    old = first.old;
    new = first.new;
    others = first.others;
    is_disk = first.is_disk;
    before_is = first.before_is;
    after_is = first.after_is;
    holds = (row, gives_lacks first.old first.new row first.holds is, first.holds.read.told, whole);
  },
)
at_9 i e row comes is whole = absurd (omega arith)

at_7 : (i : LoadInputs) (e : Ending) (row : Row) → ComesInLoad i row → row.status ≡ 7 → PrintsWhole e row.text → PrintsWhole e []
at_7 i e row comes is whole = grind (arith, lacks_9)

-- ---- the disks

-- the first of two lists, by what is at their beginning
first_of : (P : DiskState → DiskState → Type 0) (before after others : List DiskState) (old new d : DiskState) → before ≡ old ∷ others → after ≡ new ∷ others
    → P old new → P (get_or before 0 d) (get_or after 0 d)
first_of P before after others old new d before_is after_is holds =
    subst (λ ds. P (get_or ds 0 d) (get_or after 0 d)) (sym before_is) (subst (λ ds. P old (get_or ds 0 d)) (sym after_is) holds)

row_bytes : (i : LoadInputs) (row : Row) → ComesInLoad i row → SameBytes i
row_bytes i row (without_requests _ lacks same) = λ d. ap (λ ds. (get_or ds 0 d).told) same
row_bytes i row (without_disk requests reads none left) = λ d. ap (λ ds. (get_or ds 0 d).told) (left ∙ sym none)
row_bytes i row (without_engine requests _ reads first) = λ d.
    first_of (λ old new. new.told ≡ old.told) i.before i.after first.others first.old first.new d first.before_is first.after_is first.holds.read.told

row_calm : (i : LoadInputs) (row : Row) → ComesInLoad i row → row.status ≡ 7 → SameCount i
row_calm i row (without_requests _ lacks same) seven = λ d. ap (λ ds. (get_or ds 0 d).faults) same
row_calm i row (without_disk requests reads none left) seven = λ d. ap (λ ds. (get_or ds 0 d).faults) (left ∙ sym none)
row_calm i row (without_engine requests _ reads first) seven = λ d.
    first_of (λ old new. new.faults ≡ old.faults) i.before i.after first.others first.old first.new d first.before_is first.after_is
    (gives_calm first.old first.new row first.holds seven)

row_unused : (i : LoadInputs) (row : Row) → ComesInLoad i row → (row.status ≡ 4) ⊎ (row.status ≡ 5) ⊎ (row.status ≡ 8) → i.after ≡ i.before
row_unused i row (without_requests _ lacks same) low = same
row_unused i row (without_disk requests reads none left) low = left ∙ sym none
row_unused i row (without_engine requests _ reads first) low = absurd (omega (arith, low, gives_9_or_7 first.old first.new row first.holds))

-- the lists are of one length, after their first the same, and no past got a mark
record KeepsOthers (before after : List DiskState) : Type 0 where
  pub count : length after ≡ length before
  pub others : drop 1 after ≡ drop 1 before
  pub no_mark : (d : DiskState) → Runs [] (most_to_load most_lines) (get_or before 0 d) (get_or after 0 d)

keeps_same : (before after : List DiskState) → after ≡ before → KeepsOthers before after
keeps_same before after same = subst (KeepsOthers before) (sym same) (record { count = refl; others = refl; no_mark = λ d. runs_more (most_to_load most_lines) (omega arith) (runs_none (get_or before 0 d)) })

keeps_first : (before after others : List DiskState) (old new : DiskState) → before ≡ old ∷ others → after ≡ new ∷ others → Runs [] (most_to_load most_lines) old new
    → KeepsOthers before after
keeps_first before after others old new before_is after_is runs = record {
  count = ap length after_is ∙ sym (ap length before_is);
  others = ap (drop 1) after_is ∙ sym (ap (drop 1) before_is);
  no_mark = λ d. first_of (Runs [] (most_to_load most_lines)) before after others old new d before_is after_is runs;
}

row_keeps : (i : LoadInputs) (row : Row) → ComesInLoad i row → KeepsOthers i.before i.after
row_keeps i row (without_requests _ lacks same) = keeps_same i.before i.after same
row_keeps i row (without_disk requests reads none left) = keeps_same i.before i.after (left ∙ sym none)
row_keeps i row (without_engine requests _ reads first) =
    keeps_first i.before i.after first.others first.old first.new first.before_is first.after_is (runs_more (most_to_load most_lines) (omega arith) first.holds.read.runs)

-- ---- the other direction

reads_offered : (r : Reading) (text : List ℕ) (requests : List Request) → Offers r text → ReadsRequests r requests → loads_of text ≡ Ok requests
reads_offered r text requests offers (read, whole, is) = ap loads_of (sym (Offers-whole r text read offers whole)) ∙ is

fault_offered : (r : Reading) (text : List ℕ) (fault : Fault) → Offers r text → IsRequestFault r fault → loads_of text ≡ Err fault
fault_offered r text fault offers (read, whole, is) = ap loads_of (sym (Offers-whole r text read offers whole)) ∙ is

not_both : (text : List ℕ) (requests : List Request) (fault : Fault) → loads_of text ≡ Ok requests → loads_of text ≡ Err fault → ⊥
not_both text requests fault ok err =
    let same : Ok requests ≡ Err fault = sym ok ∙ err in
    cc same

-- what a row says of the source of requests
source_tells : (i : LoadInputs) (row : Row) → ComesInLoad i row → SourceTells input_limit i.request row.status
source_tells i row comes = grind (arith, SourceTells-lacks, SourceTells-whole)

lacks_offered : (r : Reading) (text : List ℕ) (fault : InputFault) → Offers r text → Lacks r fault → (input_row fault).status ≡ 7
lacks_offered r text fault offers lacks = subst (λ (f : InputFault). (input_row f).status ≡ 7) (sym (Offers-is r text fault offers lacks)) refl

row_refused : (i : LoadInputs) (text : List ℕ) (fault : Fault) → Offers i.request text → loads_of text ≡ Err fault → (row : Row) → ComesInLoad i row
    → (row.status ≡ 4) ⊎ (row.status ≡ 7)
row_refused i text fault offers is row comes = grind (arith, lacks_offered, not_both, reads_offered)

row_valid : (i : LoadInputs) (requests : List Request) → OffersRequests i requests → (row : Row) → ComesInLoad i row → (row.status ≡ 9) ⊎ (row.status ≡ 7)
row_valid i requests offers row comes = grind (arith, lacks_offered, not_both, fault_offered, gives_9_or_7)

-- a first disk is one
one_first : (a b : DiskState) (more rest : List DiskState) (ds : List DiskState) → ds ≡ a ∷ more → ds ≡ b ∷ rest → a ≡ b
one_first a b more rest ds left right =
    let same : a ∷ more ≡ b ∷ rest = sym left ∙ right in
    cc same

no_first_disk : (a : DiskState) (more ds : List DiskState) → ds ≡ [] → ds ≡ a ∷ more → ⊥
no_first_disk a more ds none some =
    let same : [] ≡ a ∷ more = sym none ∙ some in
    cc same

-- a disk that has an engine, and whose count didn't rise, lacks none
lacks_none : (disk after : DiskState) (t : Told) (row : Row) → IsDisk disk → disk.told ≡ Some t → HasEngine disk → ¬ Rose disk.faults after.faults
    → LacksEngine disk after row → ⊥
lacks_none disk after t row is_disk told engine calm (has_none _ none same) = engine_there disk t told engine (cause_in disk t row is_disk told none)
lacks_none disk after t row is_disk told engine calm (disk_failed rose) = calm rose

source_not_9 : (r : Reading) (row : Row) → LacksRequests r row → row.status ≢ 9
source_not_9 r row comes nine = grind arith

-- so a row of 9 doesn't come then
row_complete : (i : LoadInputs) (requests : List Request) → OffersRequests i requests → OffersEngine i → (row : Row) → ComesInLoad i row → row.status ≡ 7
row_complete i requests offers engine row (without_requests _ lacks same) = elim (row_valid i requests offers row (without_requests row lacks same)) [
  | inl nine ↦ absurd (source_not_9 i.request row lacks nine)
  | inr seven ↦ seven
]
row_complete i requests offers engine row (without_disk other reads none left) = absurd (no_first_disk engine.disk engine.others i.before none engine.before_is)
row_complete i requests offers engine row (without_engine other _ reads first) =
    let same : engine.disk ≡ first.old = one_first engine.disk first.old engine.others first.others i.before engine.before_is first.before_is in
    elim first.holds.cause [
      | inl lacks ↦
          absurd (lacks_none first.old first.new engine.told row first.is_disk (ap (λ (d : DiskState). d.told) (sym same) ∙ engine.tells) (subst HasEngine same engine.engine)
          (subst (λ (d : DiskState). ¬ Rose d.faults first.new.faults) same (engine.calm first.new first.others first.after_is)) lacks)
      | inr memory ↦ ap (λ (r : Row). r.status) memory.0
    ]

-- if a cause applies, no engine opens
no_lines : (i : LoadInputs) (e : Ending) → HasNoEngine i → EndsInLines i e → ⊥
no_lines i e (inl none) (requests, reads, first) = no_first_disk first.old first.others i.before none first.before_is
no_lines i e (inr (disk, others, t, before_is, told, none)) (requests, reads, first) =
    engine_there first.old t (ap (λ (d : DiskState). d.told) same ∙ told) (engine_of first.old i.uid first.holds.opened first.holds.opens) none
  where
    same : first.old ≡ disk
    same = one_first first.old disk first.others others i.before first.before_is before_is

-- ---- a run that ends in a row

row_or_nothing : (i : LoadInputs) (e : Ending) → EndsInRow (ComesInLoad i) e → (e.status ≡ 6) ⊎ (e.status ≡ 7) → AnswersNone i e
row_or_nothing i e ends (inl six) = (
  row_bytes i ends.row ends.comes,
  inl (six, (EndsInRow-front ends (λ row comes is. absurd (omega (arith, is, row_status i row comes))) six).1),
)
row_or_nothing i e ends (inr seven) =
    let nothing : PrintsWhole e [] × SameCount i = EndsInRow-at ends 7 refl (λ row comes is whole. (at_7 i e row comes is whole, row_calm i row comes is)) seven in
    (row_bytes i ends.row ends.comes, inr (seven, nothing.0, nothing.1))

-- another status than those of the rows
no_row : (i : LoadInputs) (e : Ending) (A : Type 0) (n : ℕ) → EndsInRow (ComesInLoad i) e → e.status ≡ n → ¬ (IsRowStatus n) → n ≢ 6 → A
no_row i e A n ends is not_row not_6 = elim ends.told [
  | inl (same, well) ↦ absurd (not_row (subst IsRowStatus (sym same ∙ is) (row_status i ends.row ends.comes)))
  | inr (six, rose, part) ↦ absurd (not_6 (sym is ∙ six))
]

unused_row : (i : LoadInputs) (e : Ending) → EndsInRow (ComesInLoad i) e → (e.status ≡ 4) ⊎ (e.status ≡ 5) ⊎ (e.status ≡ 8) → i.after ≡ i.before
unused_row i e ends low = elim ends.told [
  | inl (same, well) ↦ row_unused i ends.row ends.comes (subst (λ n. (n ≡ 4) ⊎ (n ≡ 5) ⊎ (n ≡ 8)) same low)
  | inr (six, rose, part) ↦ absurd (omega (arith, low, six))
]

row_statuses : (i : LoadInputs) (e : Ending) → EndsInRow (ComesInLoad i) e → (e.status ≡ 0) ⊎ ((4 ≤ e.status) × (e.status ≤ 10))
row_statuses i e ends = elim ends.told [
  | inl (same, well) ↦
      let among = row_status i ends.row ends.comes in
      inr (omega (arith, same, among), omega (arith, same, among))
  | inr (six, rose, part) ↦ inr (omega (arith, six), omega (arith, six))
]

runs_row : (i : LoadInputs) (e : Ending) → EndsInRow (ComesInLoad i) e → RunsLoad i e
runs_row i e ends = record {
  loaded = λ zero. no_row i e (LoadsAll i e) 0 ends zero (λ is. omega (arith, is)) (λ is. omega (arith, is));
  load_failed = λ ten. no_row i e (StopsAtOne i e) 10 ends ten (λ is. omega (arith, is)) (λ is. omega (arith, is));
  images = λ is. elim is [
    | inl zero ↦ no_row i e (LeavesImages i e) 0 ends zero (λ n. omega (arith, n)) (λ n. omega (arith, n))
    | inr ten ↦ no_row i e (LeavesImages i e) 10 ends ten (λ n. omega (arith, n)) (λ n. omega (arith, n))
  ];
  load_early_ends = λ early. inl (row_or_nothing i e ends early);
  store_refused = EndsInRow-at ends 9 refl (at_9 i e);
  store_refused_only = λ requests offers none. EndsInRow-may ends 9 (row_valid i requests offers);
  refused = EndsInRow-at ends 4 refl (at_4 i e);
  refused_only = λ text fault offers is. EndsInRow-may ends 4 (row_refused i text fault offers is);
  read_fault = EndsInRow-at ends 5 refl (at_5 i e);
  read_fault_only = λ counts. EndsInRow-only ends 5 (λ row comes. SourceTells-fault input_limit i.request row.status (source_tells i row comes) counts);
  too_long = EndsInRow-at ends 8 refl (at_8 i e);
  too_long_only = λ counts. EndsInRow-only ends 8 (λ row comes. SourceTells-long input_limit i.request row.status (source_tells i row comes) counts);
  write_fault = λ six. (EndsInRow-front ends (λ row comes is. absurd (omega (arith, is, row_status i row comes))) six).0;
  write_fault_only = EndsInRow-rose ends;
  disks = let keeps = row_keeps i ends.row ends.comes in record {
    count = keeps.count;
    others = keeps.others;
    no_mark = keeps.no_mark;
    unused = unused_row i e ends;
    only_read = λ nine. row_bytes i ends.row ends.comes;
  };
  complete = λ requests offers engine well.
      let told = EndsInRow-well ends well in
      inr (told.2 ∙ row_complete i requests offers engine told.0 told.1);
  statuses = row_statuses i e ends;
}

-- ---- a run that ends in lines

module _ (i : LoadInputs) (e : Ending) (requests : List Request) (reads : ReadsRequests i.request requests)
    (first : OnFirstDisk i.before i.after (LoadsInto i.uid requests e)) (ends : EndsAnswered i.uid requests e first.old first.new) where
  on_it : (P : List Request → DiskState → DiskState → Type 0) → P requests first.old first.new
      → (rs : List Request) × ReadsRequests i.request rs × OnFirstDisk i.before i.after (P rs)
  on_it P holds = (
    requests,
    reads,
    record {
      old = first.old;
      new = first.new;
      others = first.others;
      is_disk = first.is_disk;
      before_is = first.before_is;
      after_is = first.after_is;
      holds = holds;
    },
  )

-- what it was that was answered, by the status
line_status : (uid : List ℕ) (requests : List Request) (e : Ending) (old new : DiskState) → EndsAnswered uid requests e old new
    → (e.status ≡ 0) ⊎ (e.status ≡ 6) ⊎ (e.status ≡ 7) ⊎ (e.status ≡ 10)
line_status uid requests e old new ends = grind arith

all_at_0 : (uid : List ℕ) (requests : List Request) (e : Ending) (old new : DiskState) → EndsAnswered uid requests e old new → e.status ≡ 0
    → (lines : List LoadLine) × AnsweredAll uid requests lines old new × PrintsWhole e (load_texts lines)
all_at_0 uid requests e old new ends is = grind arith

failed_at_10 : (uid : List ℕ) (requests : List Request) (e : Ending) (old new : DiskState) → EndsAnswered uid requests e old new → e.status ≡ 10
    → UpToOne requests (λ first request. (lines : List LoadLine) × AnsweredUntilFailed uid first lines request old new
    × PrintsWhole e (load_texts lines ++ load_text Failed))
failed_at_10 uid requests e old new ends is = grind arith

-- what is left at 0, and at 10
left_at_0 : (uid : List ℕ) (requests : List Request) (e : Ending) (old new : DiskState) → EndsAnswered uid requests e old new → e.status ≡ 0
    → (lines : List LoadLine) × AnsweredAll uid requests lines old new
left_at_0 uid requests e old new ends is = grind arith

left_at_10 : (uid : List ℕ) (requests : List Request) (e : Ending) (old new : DiskState) → EndsAnswered uid requests e old new → e.status ≡ 10
    → UpToOne requests (λ first request. (lines : List LoadLine) × AnsweredUntilFailed uid first lines request old new)
left_at_10 uid requests e old new ends is = grind arith

left_images : (uid : List ℕ) (requests : List Request) (e : Ending) (old new : DiskState) → EndsAnswered uid requests e old new
    → (e.status ≡ 0 → (lines : List LoadLine) × AnsweredAll uid requests lines old new)
    × (e.status ≡ 10 → UpToOne requests (λ first request. (lines : List LoadLine) × AnsweredUntilFailed uid first lines request old new))
left_images uid requests e old new ends = (left_at_0 uid requests e old new ends, left_at_10 uid requests e old new ends)

one_at_6_or_7 : (uid : List ℕ) (requests : List Request) (e : Ending) (old new : DiskState) → EndsAnswered uid requests e old new
    → (e.status ≡ 6) ⊎ (e.status ≡ 7) → UpToOne requests (λ first request.
    ((lines : List LoadLine) × (line : LoadLine) × AnsweredAll uid (first ++ request ∷ []) (lines ++ line ∷ []) old new × WritesUpTo e lines line)
    ⊎ ((lines : List LoadLine) × AnsweredUntilFailed uid first lines request old new × WritesUpTo e lines Failed))
one_at_6_or_7 uid requests e old new ends is = grind arith

sink_at_6 : (uid : List ℕ) (requests : List Request) (e : Ending) (old new : DiskState) → EndsAnswered uid requests e old new → e.status ≡ 6 → SinkFailed e
sink_at_6 uid requests e old new ends is = grind arith

counts_is_6 : (uid : List ℕ) (requests : List Request) (e : Ending) (old new : DiskState) → EndsAnswered uid requests e old new → CountsWriteFault e
    → e.status ≡ 6
counts_is_6 uid requests e old new ends counts = grind arith

calm_is_0_or_7 : (uid : List ℕ) (requests : List Request) (e : Ending) (old new : DiskState) → EndsAnswered uid requests e old new
    → ¬ Rose old.faults new.faults → ¬ SinkFailed e → (e.status ≡ 0) ⊎ (e.status ≡ 7)
calm_is_0_or_7 uid requests e old new ends calm well = grind arith

-- the disk of an engine that is offered doesn't fail
offered_calm : (i : LoadInputs) (old new : DiskState) (others : List DiskState) → OffersEngine i → i.before ≡ old ∷ others → i.after ≡ new ∷ others
    → ¬ Rose old.faults new.faults
offered_calm i old new others engine before_is after_is rose =
    let same = one_first old engine.disk others engine.others i.before before_is engine.before_is in
    engine.calm new others after_is (subst (λ (d : DiskState). Rose d.faults new.faults) same rose)

runs_lines : (i : LoadInputs) (e : Ending) → EndsInLines i e → RunsLoad i e
runs_lines i e (requests, reads, first) =
    let ends = ends_answered i.uid requests e first.old first.new first.holds in
    let among = line_status i.uid requests e first.old first.new ends in
    let on = on_it i e requests reads first ends in
    let keeps = keeps_first i.before i.after first.others first.old first.new first.before_is first.after_is
    (ends_runs i.uid requests e first.old first.new most_lines (few_requests reads.0 requests reads.2) first.holds) in
    record {
      loaded = λ is. on _ (all_at_0 i.uid requests e first.old first.new ends is);
      load_failed = λ is. on _ (failed_at_10 i.uid requests e first.old first.new ends is);
      images = λ is. on _ (left_images i.uid requests e first.old first.new ends);
      load_early_ends = λ is. inr (on _ (one_at_6_or_7 i.uid requests e first.old first.new ends is));
      store_refused = λ is. absurd (omega (arith, is, among));
      store_refused_only = λ rs offers none. absurd (no_lines i e none (requests, reads, first));
      refused = λ is. absurd (omega (arith, is, among));
      refused_only = λ text fault offers is. absurd (not_both text requests fault (reads_offered i.request text requests offers reads) is);
      read_fault = λ is. absurd (omega (arith, is, among));
      read_fault_only = λ counts. inl (SourceTells-fault input_limit i.request e.status (SourceTells-whole input_limit i.request e.status reads.0 reads.1) counts);
      too_long = λ is. absurd (omega (arith, is, among));
      too_long_only = λ counts. inl (SourceTells-long input_limit i.request e.status (SourceTells-whole input_limit i.request e.status reads.0 reads.1) counts);
      write_fault = sink_at_6 i.uid requests e first.old first.new ends;
      write_fault_only = counts_is_6 i.uid requests e first.old first.new ends;
      disks = record {
        count = keeps.count;
        others = keeps.others;
        no_mark = keeps.no_mark;
        unused = λ is. absurd (omega (arith, is, among));
        only_read = λ is. absurd (omega (arith, is, among));
      };
      complete = λ rs offers engine well.
          calm_is_0_or_7 i.uid requests e first.old first.new ends (offered_calm i first.old first.new first.others engine first.before_is first.after_is) well;
      statuses = elim among [
        | inl zero ↦ inl zero
        | inr more ↦ inr (omega (arith, more), omega (arith, more))
      ];
    }

pub runs_load : (i : LoadInputs) (e : Ending) → EndsLoad i e → RunsLoad i e
runs_load i e (in_row ends) = runs_row i e ends
runs_load i e (in_lines ends) = runs_lines i e ends
