-- What an engine that is open on a disk answers, and how loading into it ends
use Rattle.std.proofs.Common.{◌≡◌, ◌∙◌, ◌⊎◌, ℕ, ◌+◌, ◌*◌, ◌≤◌, List, [], ◌∷◌, ◌++◌, length, length-append, sym, ap, subst, inl, inr, arith}
use Rattle.std.specs.Prelude.{Some}
use Rattle.cut_disk.specs.State.{DiskState, Told}
use Rattle.cut_disk.specs.Images.{EachImage, Image, firm}
use Rattle.cut_disk.proofs.CallerLemmas.{image_of_firm, runs_join, runs_more}
use Rattle.cut_disk.specs.Calls.{Rose, Runs}
use Rattle.key_slots.specs.declared.memory.Slot.{Slot}
use Rattle.memory_update.specs.declared.messages.Request.{Request}
use Rattle.cell_store.specs.declared.kinds.Layout.{Layout}
use Rattle.cell_store.specs.Store.{SameBesides, Stands}
use Rattle.cell_store.specs.Cells.{LeavesBesides, Settled}
use Rattle.program_edge.specs.Endings.{Ending, PrintsWhole, SinkFailed, CountsWriteFault}
use Rattle.key_commands.specs.declared.lines.LoadLine.{LoadLine}
use Rattle.key_commands.specs.declared.lines.LoadLine.TheVariants.{Failed}
use Rattle.key_commands.specs.LoadTexts.{load_text}
use Rattle.key_commands.specs.Answers.{AnswersEach, Takes}
use Rattle.key_commands.specs.Loader.{LoaderState}
use Rattle.key_commands.specs.Opening.{OpensLoader, layout_of, most_to_open}
use Rattle.key_commands.specs.Loading.{AllLoaded, EndsLoading, LastFailed, StandsWithOrWithout, WritesUpTo, load_texts, with_slots, all_answered, disk_failed, cut_short, cut_and_failed}
use Rattle.key_commands.specs.Loads.{LoadsInto}
use Rattle.key_commands.specs.Promises.{AnsweredAll, AnsweredUntilFailed, HasEngine, UpToOne, most_to_load}
use Rattle.key_commands.proofs.LoadingLaws.{cells_are}

-- an engine that is open is that of the store that counts
abbrev pub engine_of : (old : DiskState) (uid : List ℕ) (loader : LoaderState) → OpensLoader most_to_open old uid loader → HasEngine old
engine_of old uid loader o = record {
  found = o.found;
  cells = loader.store.cells;
  slots = loader.slots;
  counts = o.counts;
  number = o.number;
  wide = let n = o.number in let w = o.wide in omega (arith, n, w);
  stands = o.stands;
  held = o.held;
}

module _ (uid : List ℕ) (old new : DiskState) (opened left : LoaderState) (opens : OpensLoader most_to_open old uid opened) (back : new ≡ left.store.disk) where
  -- what the loads leave beside the store, said of the disk before the engine was opened
  left_besides : (Settled opened.store → LeavesBesides opened.store left.store.disk.told) → (b : List ℕ) → old.told ≡ Some (firm b)
      → EachImage new.told (SameBesides (layout_of opens.found) (length opened.store.cells) b)
  left_besides leaves b told t tells x image =
      subst (λ (l : Layout). SameBesides l (length opened.store.cells) b x) opens.laid_out
      (leaves (opens.settled b told) b (opens.read.told ∙ told) t (sym (ap (λ (d : DiskState). d.told) back) ∙ tells) x image)

  -- all were answered
  module _ (requests : List Request) (lines : List LoadLine) (all : AllLoaded opened requests lines left) where
    cells_after : left.store.cells ≡ with_slots left.slots opened.store.cells
    cells_after = cells_are left.store.cells opened.store.cells left.slots (all.keeps.held opens.held.cells_are) all.keeps.beyond

    settled_image : (s : Settled left.store) (t : Told) (x : List ℕ) → new.told ≡ Some t → Image t x
        → Stands (layout_of opens.found) x (with_slots left.slots opened.store.cells)
    settled_image s t x tells image =
        let same : Some t ≡ Some (firm s.bytes) = sym tells ∙ ap (λ (d : DiskState). d.told) back ∙ s.told in
        let t_is : t ≡ firm s.bytes = cc same in
        let x_is : x ≡ s.bytes = image_of_firm (subst (λ (u : Told). Image u x) t_is image) in
        subst (λ y. Stands (layout_of opens.found) y (with_slots left.slots opened.store.cells)) (sym x_is)
        (subst (λ layout. Stands layout s.bytes (with_slots left.slots opened.store.cells)) (all.keeps.laid_out ∙ opens.laid_out)
        (subst (Stands left.store.layout s.bytes) cells_after s.stands))

    answered_calm : new.faults ≡ old.faults
    answered_calm = ap (λ (d : DiskState). d.faults) back ∙ all.keeps.calm ∙ opens.calm

    pub answered_runs : Runs [] (most_to_load (length requests)) old new
    answered_runs = subst (Runs [] (most_to_load (length requests)) old) (sym back) (runs_join opens.read.runs all.keeps.runs)

    pub answered : AnsweredAll uid requests lines old new
    answered = record {
      engine = engine_of old uid opened opens;
      after = left.slots;
      answers = subst (λ (u : List ℕ). AnswersEach u opened.slots requests lines left.slots) opens.uid_is all.answers;
      none_failed = all.none_failed;
      runs = answered_runs;
      calm = answered_calm;
      images = λ b told t tells x image. settled_image (all.keeps.settled (opens.settled b told)) t x tells image;
      besides = left_besides all.keeps.besides;
    }

  -- the last failed
  module _ (first : List Request) (lines : List LoadLine) (request : Request) (last : LastFailed opened first lines request left) where
    failed_rose : Rose last.mid.store.disk.faults new.faults
    failed_rose = subst (λ (d : DiskState). Rose last.mid.store.disk.faults d.faults) (sym back) last.failed.store.failed

    failed_put : Runs [] 6 last.mid.store.disk new
    failed_put = subst (Runs [] 6 last.mid.store.disk) (sym back) last.failed.store.runs

    failed_taken : Takes uid left.slots request last.failed.update
    failed_taken =
        subst (λ (slots : List Slot). Takes uid slots request last.failed.update) (sym last.failed.slots)
        (subst (λ (u : List ℕ). Takes u last.mid.slots request last.failed.update) (last.earlier.keeps.uid_is ∙ opens.uid_is) last.failed.taken)

    failed_images : (b : List ℕ) → old.told ≡ Some (firm b)
        → EachImage new.told (StandsWithOrWithout (layout_of opens.found) opened.store.cells left.slots last.failed.update)
    failed_images b told =
        subst (λ (d : DiskState). EachImage d.told (StandsWithOrWithout (layout_of opens.found) opened.store.cells left.slots last.failed.update)) (sym back)
        (subst (λ layout. EachImage left.store.disk.told (StandsWithOrWithout layout opened.store.cells left.slots last.failed.update)) opens.laid_out
        (last.images (opens.settled b told)))

    pub answered_until : AnsweredUntilFailed uid first lines request old new
    answered_until = record {
      engine = engine_of old uid opened opens;
      after = left.slots;
      answers = subst (λ (slots : List Slot). AnswersEach uid opened.slots first lines slots) (sym last.failed.slots)
          (subst (λ (u : List ℕ). AnswersEach u opened.slots first lines last.mid.slots) opens.uid_is last.earlier.answers);
      none_failed = last.earlier.none_failed;
      update = last.failed.update;
      taken = failed_taken;
      mid = last.mid.store.disk;
      earlier = runs_join opens.read.runs last.earlier.keeps.runs;
      calm = last.earlier.keeps.calm ∙ opens.calm;
      runs = failed_put;
      rose = failed_rose;
      images = failed_images;
      besides = left_besides last.besides;
    }

    pub failed_runs : Runs [] (most_to_open + (6 * length first + 6)) old new
    failed_runs = subst (Runs [] (most_to_open + (6 * length first + 6)) old) (sym back)
        (runs_join opens.read.runs (runs_join last.earlier.keeps.runs last.failed.store.runs))

-- how loading ends, by what was answered
pub data EndsAnswered (uid : List ℕ) (requests : List Request) (e : Ending) (old new : DiskState) : Type 0 where
  to_the_end : (lines : List LoadLine) → e.status ≡ 0 → AnsweredAll uid requests lines old new
      → PrintsWhole e (load_texts lines) → EndsAnswered uid requests e old new
  until_failed : e.status ≡ 10
      → UpToOne requests (λ first request. (lines : List LoadLine) × AnsweredUntilFailed uid first lines request old new
      × PrintsWhole e (load_texts lines ++ load_text Failed))
      → EndsAnswered uid requests e old new
  at_one : UpToOne requests (λ first request.
      ((lines : List LoadLine) × (line : LoadLine) × AnsweredAll uid (first ++ request ∷ []) (lines ++ line ∷ []) old new × WritesUpTo e lines line)
      ⊎ ((lines : List LoadLine) × AnsweredUntilFailed uid first lines request old new × WritesUpTo e lines Failed))
      → (e.status ≡ 6) × SinkFailed e ⊎ (e.status ≡ 7) × ¬ CountsWriteFault e
      → EndsAnswered uid requests e old new

-- if a line isn't written whole, the sink failed, or there was no memory
unwritten : (e : Ending) (lines : List LoadLine) (line : LoadLine) → WritesUpTo e lines line
    → (e.status ≡ 6) × SinkFailed e ⊎ (e.status ≡ 7) × ¬ CountsWriteFault e
unwritten e lines line (inl (six, rose, part)) = inl (six, rose)
unwritten e lines line (inr (seven, printed)) = inr (seven, λ counts. omega (arith, printed.0, counts))

pub ends_answered : (uid : List ℕ) (requests : List Request) (e : Ending) (old new : DiskState) → LoadsInto uid requests e old new
    → EndsAnswered uid requests e old new
ends_answered uid requests e old new l = by l.ends
  where
    by : EndsLoading l.opened requests l.left e → EndsAnswered uid requests e old new
    by (all_answered lines zero all printed) =
        to_the_end lines zero (answered uid old new l.opened l.left l.opens l.handed_back requests lines all) printed
    by (disk_failed first request rest lines ten is last printed) =
        until_failed ten (first, request, rest, is, (lines, answered_until uid old new l.opened l.left l.opens l.handed_back first lines request last, printed))
    by (cut_short first request rest lines line is all written) =
        at_one (first, request, rest, is, inl (lines, line, answered uid old new l.opened l.left l.opens l.handed_back (first ++ request ∷ []) (lines ++ line ∷ []) all, written))
        (unwritten e lines line written)
    by (cut_and_failed first request rest lines is last written) =
        at_one (first, request, rest, is, inr (lines, answered_until uid old new l.opened l.left l.opens l.handed_back first lines request last, written))
        (unwritten e lines Failed written)

-- no past gets a mark, and at most the calls of the most requests are made
more_calls : (n most : ℕ) → n ≤ most → most_to_load n ≤ most_to_load most
more_calls n most few =
    let more : most_to_open + 6 * n ≤ most_to_open + 6 * most = omega (arith, few) in
    more

one_more_calls : (n most : ℕ) → n + 1 ≤ most → most_to_open + (6 * n + 6) ≤ most_to_load most
one_more_calls n most few =
    let more : most_to_open + (6 * n + 6) ≤ most_to_open + 6 * most = omega (arith, few) in
    more

up_to_one : (requests first rest : List Request) (request : Request) → requests ≡ first ++ request ∷ rest → length first + 1 ≤ length requests
up_to_one requests first rest request is = omega (arith, ap length is, length-append first (request ∷ rest))

pub ends_runs : (uid : List ℕ) (requests : List Request) (e : Ending) (old new : DiskState) (most : ℕ) → length requests ≤ most
    → LoadsInto uid requests e old new → Runs [] (most_to_load most) old new
ends_runs uid requests e old new most few l = by l.ends
  where
    by : EndsLoading l.opened requests l.left e → Runs [] (most_to_load most) old new
    by (all_answered lines zero all printed) =
        runs_more (most_to_load most) (more_calls (length requests) most few) (answered_runs uid old new l.opened l.left l.opens l.handed_back requests lines all)
    by (disk_failed first request rest lines ten is last printed) =
        let one = up_to_one requests first rest request is in
        runs_more (most_to_load most) (one_more_calls (length first) most (omega (arith, few, one)))
        (failed_runs uid old new l.opened l.left l.opens l.handed_back first lines request last)
    by (cut_short first request rest lines line is all written) =
        let one = up_to_one requests first rest request is in
        let number = length-append first (request ∷ []) in
        runs_more (most_to_load most) (more_calls (length (first ++ request ∷ [])) most (omega (arith, few, one, number)))
        (answered_runs uid old new l.opened l.left l.opens l.handed_back (first ++ request ∷ []) (lines ++ line ∷ []) all)
    by (cut_and_failed first request rest lines is last written) =
        let one = up_to_one requests first rest request is in
        runs_more (most_to_load most) (one_more_calls (length first) most (omega (arith, few, one)))
        (failed_runs uid old new l.opened l.left l.opens l.handed_back first lines request last)
