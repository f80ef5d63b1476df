-- The lemmas that crates above cite.
use Rattle.std.specs.Prelude.{Option, None, Some, is_some, ◌≢◌, ◌⊎◌, ◌+◌, ◌<◌, ◌≤◌, Bool, not, cond, IfSome, [], ◌∷◌}
use Rattle.std.specs.Prelude.{◌++◌, count_by}
use Rattle.std.specs.Option.{option_to_list}
use Rattle.std.proofs.Common.{◌≡◌, ℕ, true, false, List, length, set, refl, sym, ap, subst, ◌∙◌, inl, inr, true≢false}
use Rattle.std.proofs.Common.{arith, append_assoc}
use Rattle.std.proofs.lemmas.Option.{same_Some, none-some}
use Rattle.std.proofs.lemmas.List.{length-append}
use Rattle.std.proofs.lemmas.List.Sums.{sum_by-cons}
use Rattle.cut_disk.specs.State.{Told, DiskState, Entry}
use Rattle.cut_disk.specs.Images.{Image, firm, CutsTo}
use Rattle.cut_disk.proofs.CallerLemmas.{image_is_read, image_of_firm, newest-append}
use Rattle.cell_store.specs.declared.kinds.Layout.{Layout}
use Rattle.cell_store.specs.Store.{Stands}
use Rattle.cell_store.specs.Cells.{CellsState, Settled, Puts, FailsPut, StandsNow, EachImageStands}
use Rattle.cell_store.proofs.CallerLemmas.{stands_once, settled_tells}
use Rattle.store_keeping.specs.Keeping.{Keeping, MayKeep, StandsForKept, Fits, put_failed, stays_down, FitsStore}
use Rattle.store_keeping.specs.Keeping.{TellsKept, HoldsKept}
use Rattle.basics.specs.FaultCount.{last_count}
use Rattle.machine_runs.specs.Run.{Moment, Run, seen_as}
use Rattle.machine_runs.specs.Past.{AddsTo}
use Rattle.cut_disk.specs.declared.Mark.{Mark}
use Rattle.cut_disk.specs.Calls.{IsQuiet, StaysQuiet, arms_nothing, marks_of, newest}
use Rattle.store_keeping.specs.DiskTurns.{CountsFailure, DiskTurn, OpenedDisk, TellsBytes, EndsAs, AddsTurn}
use Rattle.store_keeping.specs.DiskTurns.{TracedSince, arms_later, FailuresTold}

-- ---- laws of disks that fit what a store is to keep: of settled stores, of puts, and of power cuts

-- a disk told bytes before, if it tells them after
pub told_before : (old new : Option Told) → is_some new ≡ is_some old → (t : Told) → new ≡ Some t
    → (u : Told) × (old ≡ Some u)
told_before None new same t is = let e : true ≡ false = sym (ap is_some is) ∙ same in absurd (true≢false e)
told_before (Some u) new same t is = (u, refl)

-- ---- bytes of which none is loose

pub firm_fits : (layout : Layout) (keeping : Keeping) (told : Told) (bytes : List ℕ) → told ≡ firm bytes
    → StandsForKept layout keeping bytes → Fits layout keeping told
firm_fits layout keeping told bytes is stands = record {
  images = λ x image.
      subst (StandsForKept layout keeping) (sym (image_of_firm (subst (λ (t : Told). Image t x) is image))) stands;
  firm_up = λ up. is ∙ ap firm (sym (ap (λ (t : Told). t.bytes) is));
}

-- what the list that is kept stands for
pub kept_stands : (layout : Layout) (keeping : Keeping) (x : List ℕ) → Stands layout x keeping.cells
    → StandsForKept layout keeping x
kept_stands layout keeping x stands = record { cells = keeping.cells; kept = inl refl; stands = stands }

-- a settled store fits what it holds
pub fits_settled : (keeping : Keeping) (store : CellsState) → Settled store → store.cells ≡ keeping.cells
    → FitsStore keeping store
fits_settled keeping store settled cells told is =
    firm_fits store.layout keeping told settled.bytes (same_Some told (firm settled.bytes) (sym is ∙ settled.told))
    (kept_stands store.layout keeping settled.bytes
    (subst (λ (c : List (List ℕ)). Stands store.layout settled.bytes c) cells settled.stands))

-- a disk that tells bytes that fit fits
pub fits_store : (keeping : Keeping) (store : CellsState) → TellsKept keeping store → FitsStore keeping store
fits_store keeping store fits = λ told is.
    subst (λ (t : Told). Fits store.layout keeping t) (same_Some fits.now told (sym fits.told ∙ is)) fits.fits

-- and one that fits tells bytes that do, if it tells any
pub tells_kept : (keeping : Keeping) (store : CellsState) → FitsStore keeping store → (t : Told)
    → store.disk.told ≡ Some t → TellsKept keeping store
tells_kept keeping store fits t told = record { now = t; told = told; fits = fits t told }

-- a list that may be there is the one that is kept, if nothing is pending
pub only_kept : (keeping : Keeping) (cells : List (List ℕ)) → keeping.pending ≡ None → MayKeep keeping cells
    → cells ≡ keeping.cells
only_kept keeping cells none (inl same) = same
only_kept keeping cells none (inr pending) = absurd (none-some cells (sym none ∙ pending))

-- the store of an owner that is up is settled, if its disk tells and fits
pub settled_of : (keeping : Keeping) (store : CellsState) → FitsStore keeping store → keeping.up ≡ true
    → keeping.pending ≡ None
    → HoldsKept keeping store → (t : Told) → store.disk.told ≡ Some t → Settled store
settled_of keeping store fits up none holds t told =
    let f = fits t told in
    let found = f.images t.bytes (image_is_read t) in
    record {
      whole = holds.whole;
      bytes = t.bytes;
      told = told ∙ ap Some (f.firm_up up);
      stands = subst (λ (c : List (List ℕ)). Stands store.layout t.bytes c)
          (only_kept keeping found.cells none found.kept ∙ sym holds.cells) found.stands;
    }

-- ---- puts

module _ (keeping : Keeping) (old new : CellsState) (i : ℕ) (c : List ℕ)
    (fits : FitsStore keeping old) (up : keeping.up ≡ true) (none : keeping.pending ≡ None)
    (holds : HoldsKept keeping old) where
  -- a put that was done leaves a disk that fits what the store then holds
  pub fits_put : (later : Keeping) → Puts i c old new → new.cells ≡ later.cells → FitsStore later new
  fits_put later puts cells told is =
      let was = told_before old.disk.told new.disk.told puts.runs.tells told is in
      let settled = puts.settled (settled_tells old (settled_of keeping old fits up none holds was.0 was.1)) in
      fits_settled later new settled cells told is

  -- one that failed leaves a disk on which the change is pending
  pub fits_failed_put : (cells : List (List ℕ)) → FailsPut i c old new → cells ≡ set keeping.cells i c
      → FitsStore (put_failed cells keeping) new
  fits_failed_put cells fails made told is =
      let was = told_before old.disk.told new.disk.told fails.runs.tells told is in
      let settled = settled_of keeping old fits up none holds was.0 was.1 in
      record {
        images = λ x image. elim (fails.images settled told is x image) [
          | inl stands ↦ record {
            cells = keeping.cells;
            kept = inl refl;
            stands = subst (λ (layout : Layout). Stands layout x keeping.cells) (sym fails.layout)
                (subst (λ (c : List (List ℕ)). Stands old.layout x c) holds.cells stands);
          }
          | inr stands ↦ record {
            cells = cells;
            kept = inr refl;
            stands = subst (λ (layout : Layout). Stands layout x cells) (sym fails.layout)
                (subst (λ (l : List (List ℕ)). Stands old.layout x l)
                (ap (λ (l : List (List ℕ)). set l i c) holds.cells ∙ sym made) stands);
          }
        ];
        firm_up = λ up. absurd (true≢false (sym up));
      }

-- ---- power cuts

-- what is read anew after a cut is a list that may be there
pub found_kept : (keeping : Keeping) (old new : CellsState) → TellsKept keeping old → CutsTo old.disk.told new.disk.told
    → StandsNow new
    → new.layout ≡ old.layout → MayKeep keeping new.cells
found_kept keeping old new fitting cuts now layout =
    let left = cuts fitting.now fitting.told in
    let mine : Stands old.layout left.left new.cells =
    subst (λ (l : Layout). Stands l left.left new.cells) layout (now (firm left.left) left.now) in
    let found = fitting.fits.images left.left left.image in
    subst (MayKeep keeping) (stands_once old.layout left.left found.cells new.cells found.stands mine) found.kept

-- each image stands for a list of the store's number of cells, if each list that may be there has it
pub each_stands : (keeping : Keeping) (store : CellsState)
    → ((cells : List (List ℕ)) → MayKeep keeping cells → length cells ≡ length store.cells)
    → TellsKept keeping store → EachImageStands store
each_stands keeping store count fitting = record {
  told = fitting.now;
  is = fitting.told;
  each = λ x image. let found = fitting.fits.images x image in record {
    cells = found.cells;
    count = count found.cells found.kept;
    stands = found.stands;
  };
}

-- after a cut that was refused the disk fits what it fitted
pub fits_refused : (keeping : Keeping) (old new : CellsState) → FitsStore keeping old
    → CutsTo old.disk.told new.disk.told
    → is_some new.disk.told ≡ is_some old.disk.told → new.layout ≡ old.layout → FitsStore (stays_down keeping) new
fits_refused keeping old new fits cuts tells layout told is =
    let was = told_before old.disk.told new.disk.told tells told is in
    let left = cuts was.0 was.1 in
    let stands = (fits was.0 was.1).images left.left left.image in
    firm_fits new.layout (stays_down keeping) told left.left (same_Some told (firm left.left) (sym is ∙ left.now))
    (record {
      cells = stands.cells;
      kept = stands.kept;
      stands = subst (λ (l : Layout). Stands l left.left stands.cells) (sym layout) stands.stands;
    })

-- after one that was done it fits what was found
pub fits_up : (keeping : Keeping) (old new : CellsState) → CutsTo old.disk.told new.disk.told
    → is_some new.disk.told ≡ is_some old.disk.told
    → StandsNow new → new.cells ≡ keeping.cells → FitsStore keeping new
fits_up keeping old new cuts tells now cells told is =
    let was = told_before old.disk.told new.disk.told tells told is in
    let left = cuts was.0 was.1 in
    firm_fits new.layout keeping told left.left (same_Some told (firm left.left) (sym is ∙ left.now))
    (kept_stands new.layout keeping left.left
    (subst (λ (c : List (List ℕ)). Stands new.layout left.left c) cells (now (firm left.left) left.now)))

-- ---- laws of runs over one disk: what they add to its past is traced, and their failed lines are counted

-- ---- lists of entries, and counts over moments

longer_some : (xs ys : List Entry) → xs ≢ [] → xs ++ ys ≢ []
longer_some [] ys some = λ is. some refl
longer_some (x ∷ xs) ys some = λ is. cc

not_empty : (xs ys all : List Entry) → all ≡ xs ++ ys → length xs < length all → ys ≢ []
not_empty xs ys all whole more =
    λ none. absurd
    (let no : ⊥ = omega (
      arith,
      ap (λ (es : List Entry). length es) whole,
      length-append xs ys,
      ap (λ (es : List Entry). length es) none,
      more,
    ) in no)

newest_some : (told : Option Told) (xs : List Entry) → xs ≢ [] → newest None xs ≡ newest told xs
newest_some told [] some = absurd (some refl)
newest_some told (x ∷ xs) some = refl

if_some : {A : Type 0} (o : Option A) (x : A) (P : A → Type 0) → o ≡ Some x → P x → IfSome o P
if_some o x P is holds = subst (λ p. IfSome p P) (sym is) holds

count_by-cons : {X : Type 0} (p : X → Bool) (x : X) (xs : List X) → count_by p (x ∷ xs) ≡ cond (p x) 1 0 + count_by p xs
count_by-cons p x xs = sum_by-cons (λ y. cond (p y) 1 0) x xs

none_counted : (b : Bool) (n : ℕ) → cond b 1 0 + n ≡ 0 → (b ≡ false) × (n ≡ 0)
none_counted true n is = absurd (let no : ⊥ = omega (arith, is) in no)
none_counted false n is = (refl, omega (arith, is))

-- ---- counts of faults

count_later : (b : Bool) (before after : ℕ) → before ≤ after → CountsFailure b before after → (n : ℕ) (last : ℕ)
    → after ≤ last
    → (after + n ≤ last) ⊎ (last_count ≤ last) → (before + (cond b 1 0 + n) ≤ last) ⊎ (last_count ≤ last)
count_later b before after later counts n last more (inr top) = inr top
count_later false before after later counts n last more (inl most) = inl (omega (arith, counts, most))
count_later true before after later counts n last more (inl most) = elim counts [
  | inl rose ↦ inl (omega (arith, rose, most))
  | inr top ↦ inr (omega (arith, top, more))
]

quiet_fails_not : (b : Bool) (before after : ℕ) → before < last_count → after ≡ before → CountsFailure b before after
    → b ≡ false
quiet_fails_not false before after below same counts = refl
quiet_fails_not true before after below same counts = elim counts [
  | inl rose ↦ absurd (let no : ⊥ = omega (arith, rose, same) in no)
  | inr top ↦ absurd (let no : ⊥ = omega (arith, top, same, below) in no)
]

arms_not : (b : Bool) → not b ≡ false → b ≡ true
arms_not true is = refl
arms_not false is = cc

-- a step that arms nothing leaves a quiet disk quiet, and tells no failure
pub turn_stays_quiet : (mark : Option Mark) (most : ℕ) (fails : Bool) (before after : DiskState)
    → DiskTurn mark most fails before after
    → IsQuiet before → arms_later mark ≡ false → StaysQuiet before after × (fails ≡ false)
turn_stays_quiet mark most fails before after turn quiet calm =
    let stays = turn.runs.quiet (arms_not (arms_nothing (option_to_list mark)) calm) quiet in
    (stays, quiet_fails_not fails before.faults after.faults quiet.below stays.faults turn.counts)

pub still_quiet : (before after : DiskState) → IsQuiet before → StaysQuiet before after → IsQuiet after
still_quiet before after quiet stays = record { quiet = stays.quiet; below = omega (arith, stays.faults, quiet.below) }

pub stays_quiet_then : (a b c : DiskState) → StaysQuiet a b → StaysQuiet b c → StaysQuiet a c
stays_quiet_then a b c one two = record { quiet = two.quiet; faults = two.faults ∙ one.faults }

-- ---- runs

module _ {C L S T : Type 0} (steps : S → C → L → S → Type 0) (state : S → T) (disk : S → DiskState)
    (mark : C → Option Mark)
    (most : T → C → ℕ) (fails : C → L → Bool) (holds : S → Type 0)
    (each : (s : S) (c : C) (l : L) (t : S) → holds s → steps s c l t
    → DiskTurn (mark c) (most (state t) c) (fails c l) (disk s) (disk t) × holds t) where
  abbrev seen : List (Moment C L S) → List (Moment C L T)
  seen moments = seen_as (λ c. c) state moments

  abbrev seen_one : Moment C L S → Moment C L T
  seen_one m = record { command = m.command; line = m.line; after = state m.after }

  -- ---- failures

  abbrev failed_in : List (Moment C L T) → ℕ
  failed_in moments = count_by (λ m. fails m.command m.line) moments

  abbrev armed_in : List (Moment C L T) → ℕ
  armed_in moments = count_by (λ m. arms_later (mark m.command)) moments

  failed_cons : (m : Moment C L T) (ms : List (Moment C L T))
      → failed_in (m ∷ ms) ≡ cond (fails m.command m.line) 1 0 + failed_in ms
  failed_cons m ms = count_by-cons (λ (m : Moment C L T). fails m.command m.line) m ms

  armed_cons : (m : Moment C L T) (ms : List (Moment C L T))
      → armed_in (m ∷ ms) ≡ cond (arms_later (mark m.command)) 1 0 + armed_in ms
  armed_cons m ms = count_by-cons (λ (m : Moment C L T). arms_later (mark m.command)) m ms

  later_run : (s : S) (ms : List (Moment C L S)) (t : S) → holds s → Run steps s ms t
      → (disk s).faults ≤ (disk t).faults
  later_run s [] t good run = omega (arith, ap (λ (x : S). (disk x).faults) run)
  later_run s (m ∷ ms) t good run =
      let one = each s m.command m.line m.after good run.0 in
      omega (arith, one.0.runs.later, later_run m.after ms t one.1 run.1)

  within_run : (s : S) (ms : List (Moment C L S)) (t : S) → holds s → Run steps s ms t
      → ((disk s).faults + failed_in (seen ms) ≤ (disk t).faults) ⊎ (last_count ≤ (disk t).faults)
  within_run s [] t good run = inl (omega (arith, ap (λ (x : S). (disk x).faults) run))
  within_run s (m ∷ ms) t good run =
      let one = each s m.command m.line m.after good run.0 in
      subst (λ n. ((disk s).faults + n ≤ (disk t).faults) ⊎ (last_count ≤ (disk t).faults))
      (sym (failed_cons (seen_one m) (seen ms)))
      (count_later (fails m.command m.line) (disk s).faults (disk m.after).faults one.0.runs.later one.0.counts
      (failed_in (seen ms)) (disk t).faults
      (later_run m.after ms t one.1 run.1) (within_run m.after ms t one.1 run.1))

  quiet_run : (s : S) (ms : List (Moment C L S)) (t : S) → holds s → IsQuiet (disk s) → Run steps s ms t
      → (front rest : List (Moment C L T)) (m : Moment C L T) → seen ms ≡ front ++ m ∷ rest
      → armed_in (front ++ m ∷ []) ≡ 0
      → fails m.command m.line ≡ false
  quiet_run s [] t good quiet run [] rest m whole calm = absurd (let no : ⊥ = cc in no)
  quiet_run s [] t good quiet run (f ∷ front) rest m whole calm = absurd (let no : ⊥ = cc in no)
  quiet_run s (x ∷ xs) t good quiet run [] rest m whole calm =
      let same : m ≡ seen_one x = cc in
      let none = none_counted (arms_later (mark m.command)) 0 (sym (armed_cons m []) ∙ calm) in
      let one = each s x.command x.line x.after good run.0 in
      ap (λ (y : Moment C L T). fails y.command y.line) same
      ∙ (turn_stays_quiet (mark x.command) (most (state x.after) x.command) (fails x.command x.line) (disk s)
      (disk x.after) one.0 quiet
      (ap (λ (y : Moment C L T). arms_later (mark y.command)) (sym same) ∙ none.0)).1
  quiet_run s (x ∷ xs) t good quiet run (f ∷ front) rest m whole calm =
      let same : f ≡ seen_one x = cc in
      let others : seen xs ≡ front ++ m ∷ rest = cc in
      let none =
      none_counted (arms_later (mark f.command)) (armed_in (front ++ m ∷ []))
      (sym (armed_cons f (front ++ m ∷ [])) ∙ calm) in
      let one = each s x.command x.line x.after good run.0 in
      let stays =
      (turn_stays_quiet (mark x.command) (most (state x.after) x.command) (fails x.command x.line) (disk s)
      (disk x.after) one.0 quiet
      (ap (λ (y : Moment C L T). arms_later (mark y.command)) (sym same) ∙ none.0)).0 in
      quiet_run x.after xs t one.1 (still_quiet (disk s) (disk x.after) quiet stays) run.1 front rest m others none.1

  still_run : (s : S) (ms : List (Moment C L S)) (t : S) → holds s → IsQuiet (disk s) → Run steps s ms t
      → armed_in (seen ms) ≡ 0
      → StaysQuiet (disk s) (disk t)
  still_run s [] t good quiet run calm =
      subst (λ (x : S). StaysQuiet (disk s) (disk x)) (sym run) (record { quiet = quiet.quiet; faults = refl })
  still_run s (m ∷ ms) t good quiet run calm =
      let none =
      none_counted (arms_later (mark m.command)) (armed_in (seen ms))
      (sym (armed_cons (seen_one m) (seen ms)) ∙ calm) in
      let one = each s m.command m.line m.after good run.0 in
      let stays =
      (turn_stays_quiet (mark m.command) (most (state m.after) m.command) (fails m.command m.line) (disk s)
      (disk m.after) one.0 quiet none.0).0 in
      stays_quiet_then (disk s) (disk m.after) (disk t) stays
      (still_run m.after ms t one.1 (still_quiet (disk s) (disk m.after) quiet stays) run.1 none.1)

  -- the failed lines of a run over a disk that was opened before
  pub failures_told : (few : ℕ) (before : DiskState) (start : S) (ms : List (Moment C L S)) (now : S)
      → OpenedDisk few before (disk start)
      → holds start → Run steps start ms now → FailuresTold mark fails (seen ms) before (disk now)
  failures_told few before start ms now opened good run = record {
    later = omega (arith, opened.runs.later, later_run start ms now good run);
    within = subst (λ n. (n + failed_in (seen ms) ≤ (disk now).faults) ⊎ (last_count ≤ (disk now).faults)) opened.faults
        (within_run start ms now good run);
    quiet = λ quiet front rest m whole calm.
        quiet_run start ms now good
        (still_quiet before (disk start) quiet (opened.runs.quiet refl quiet)) run front rest m whole calm;
    still = λ quiet calm.
        let stays = opened.runs.quiet refl quiet in
        stays_quiet_then before (disk start) (disk now) stays
        (still_run start ms now good (still_quiet before (disk start) quiet stays) run calm);
  }

  -- ---- the past

  module _ (fits : T → Told → Type 0) (told : (s : S) → holds s → TellsBytes (fits (state s)) (disk s)) where
    -- of the past that the disk tells, it told `base` before, and `added` came since: it ends with the state now
    record Tracks (s : S) (base added : List Entry) : Type 0 where
      pub tells : (disk s).past ≡ Some (base ++ added)
      pub some : added ≢ []
      pub ends : newest None added ≡ (disk s).told

    ends_as : (s : S) (base added : List Entry) → holds s → Tracks s base added → EndsAs (fits (state s)) added
    ends_as s base added good tracks =
        let now = told s good in
        (tracks.some, if_some (newest None added) now.now (fits (state s)) (tracks.ends ∙ now.told) now.fit)

    -- if the last state of a run tells its past, so did the first
    told_first : (s : S) (ms : List (Moment C L S)) (t : S) (all : List Entry) → holds s → Run steps s ms t
        → (disk t).past ≡ Some all
        → (earlier : List Entry) × ((disk s).past ≡ Some earlier)
    told_first s [] t all good run tells = (all, subst (λ (x : S). (disk x).past ≡ Some all) run tells)
    told_first s (m ∷ ms) t all good run tells =
        let one = each s m.command m.line m.after good run.0 in
        let later = told_first m.after ms t all one.1 run.1 tells in
        let adds = one.0.runs.past later.0 later.1 in
        (adds.earlier, adds.was)

    -- the entries of one step
    record OnePart (m : Moment C L S) (base added part : List Entry) : Type 0 where
      pub marks : marks_of part ≡ option_to_list (mark m.command)
      pub few : length part ≤ most (state m.after) m.command
      pub tracks : Tracks m.after base (added ++ part)

    one_part : (s : S) (m : Moment C L S) (base added all : List Entry)
        → DiskTurn (mark m.command) (most (state m.after) m.command) (fails m.command m.line) (disk s) (disk m.after)
        → (disk m.after).past ≡ Some all → Tracks s base added → (part : List Entry) × OnePart m base added part
    one_part s m base added all turn tells tracks =
        let adds = turn.runs.past all tells in
        let same : adds.earlier ≡ base ++ added =
        same_Some adds.earlier (base ++ added) (sym adds.was ∙ tracks.tells) in (
          adds.added,
          record {
            marks = adds.marked;
            few = adds.few;
            tracks = record {
              tells = tells
                  ∙ ap Some
                  (adds.whole ∙ ap (λ (xs : List Entry). xs ++ adds.added) same ∙ append_assoc base added adds.added);
              some = longer_some added adds.added tracks.some;
              ends = newest-append None added adds.added ∙ ap (λ (t : Option Told). newest t adds.added) tracks.ends
                  ∙ sym adds.now;
            };
          },
        )

    abbrev RunAdds : List Entry → List Entry → List (Moment C L S) → List Entry → Type 0
    RunAdds base added ms all =
        (more : List Entry) × (all ≡ base ++ more) × AddsTo (AddsTurn mark most fits) added (seen ms) more

    run_adds : (s : S) (ms : List (Moment C L S)) (t : S) (base added all : List Entry) → holds s → Run steps s ms t
        → (disk t).past ≡ Some all
        → Tracks s base added → RunAdds base added ms all
    run_adds s [] t base added all good run tells tracks =
        (added, same_Some all (base ++ added) (sym tells ∙ ap (λ (x : S). (disk x).past) run ∙ tracks.tells), refl)
    run_adds s (m ∷ ms) t base added all good run tells tracks =
        let one = each s m.command m.line m.after good run.0 in
        let early = told_first m.after ms t all one.1 run.1 tells in
        let part = one_part s m base added early.0 one.0 early.1 tracks in
        let rest = run_adds m.after ms t base (added ++ part.0) all one.1 run.1 tells part.1.tracks in (
          rest.0,
          rest.1,
          (
            part.0,
            record {
              marks = part.1.marks;
              few = part.1.few;
              ends = ends_as m.after base (added ++ part.0) one.1 part.1.tracks;
            },
            rest.2,
          ),
        )

    -- the past that a run adds to a disk that was opened before
    pub traced_since : (few : ℕ) (before : DiskState) (start : S) (ms : List (Moment C L S)) (now : S)
        → OpenedDisk few before (disk start)
        → holds start → Run steps start ms now → (all : List Entry) → (disk now).past ≡ Some all
        → TracedSince mark most fits (state start) (seen ms) before all
    traced_since few before start ms now opened good run all tells =
        let early = told_first start ms now all good run tells in
        let adds = opened.runs.past early.0 early.1 in
        let grown = opened.grows.past early.0 early.1 in
        let same : grown.earlier ≡ adds.earlier = same_Some grown.earlier adds.earlier (sym grown.was ∙ adds.was) in
        let some : adds.added ≢ [] =
        not_empty adds.earlier adds.added early.0 adds.whole
        (subst (λ (xs : List Entry). length xs < length early.0) same grown.more) in
        let tracks : Tracks start adds.earlier adds.added = record {
          tells = early.1 ∙ ap Some adds.whole;
          some = some;
          ends = newest_some before.told adds.added some ∙ sym adds.now;
        } in
        let more = run_adds start ms now adds.earlier adds.added all good run tells tracks in
        record {
          earlier = adds.earlier;
          added = more.0;
          was = adds.was;
          whole = more.1;
          traced = record {
            first = adds.added;
            begun = (adds.marked, ends_as start adds.earlier adds.added good tracks);
            added = more.2;
          };
        }
