-- What a run of the loader leaves
use Rattle.std.proofs.Common.{◌≡◌, suc, ◌∙◌, ℕ, ◌+◌, ◌*◌, ◌<◌, List, [], ◌∷◌, ◌++◌, take, drop, map, length, refl, sym, ap, ap₂, subst, inl, inr, true, false, append_assoc, arith}
use Rattle.std.specs.Prelude.{Option, Some, set}
use Rattle.std.proofs.lemmas.Bool.{false≢true}
use Rattle.std.proofs.lemmas.List.{length-set, take-append-drop, drop-set-lt, map-set, map-append}
use Rattle.std.proofs.Math.Seq.{take-set-lt}
use Rattle.cut_disk.specs.State.{Told}
use Rattle.cut_disk.proofs.CallerLemmas.{runs_none, runs_join, runs_more, image_is_read, image_of_firm}
use Rattle.cut_disk.specs.Images.{EachImage, Image, firm}
use Rattle.key_slots.specs.declared.memory.Slot.{Slot}
use Rattle.memory_update.specs.declared.messages.Request.{Request}
use Rattle.memory_update.specs.Loading.{slot_of}
use Rattle.cell_store.specs.declared.kinds.Layout.{Layout}
use Rattle.cell_store.specs.Layout.{base}
use Rattle.cell_store.specs.Store.{SameBesides, Stands, size_from_base}
use Rattle.cell_store.specs.Cells.{CellsState, LeavesBesides, Settled, TellsCells}
use Rattle.cell_store.proofs.CallerLemmas.{SameOutside-after, SameOutside-refl}
use Rattle.slot_disk.specs.Cell.{slot_cell}
use Rattle.machine_runs.specs.Run.{Moment, Run, commands_in, lines_in}
use Rattle.machine_runs.proofs.CallerLemmas.{Run-split}
use Rattle.run_driver.specs.Printed.{texts}
use Rattle.key_commands.specs.declared.lines.LoadLine.{LoadLine}
use Rattle.key_commands.specs.declared.lines.LoadLine.TheVariants.{Loaded, Refused, Failed}
use Rattle.key_commands.specs.LoadTexts.{is_failed, load_text}
use Rattle.key_commands.specs.Answers.{AnswersRequest, AnswersEach, no_requests, one_more}
use Rattle.key_commands.specs.Loader.{LoaderState, Loads, FailsKey, HoldsAll}
use Rattle.key_commands.specs.Loading.{AllLoaded, KeepsStore, LastFailed, NoneFailed, StandsWithOrWithout, load_texts, with_slots}

-- the bytes before and after a store, over no put and over one put after others
besides_none : (s : CellsState) → LeavesBesides s s.disk.told
besides_none s b told t tells x image =
    let same : Some t ≡ Some (firm b) = sym tells ∙ told in
    let t_is : t ≡ firm b = cc same in
    let x_is : x ≡ b = image_of_firm (subst (λ (u : Told). Image u x) t_is image) in
    subst (λ (y : List ℕ). SameBesides s.layout (length s.cells) b y) (sym x_is)
    (SameOutside-refl (base s.layout.version) (size_from_base s.layout.kind (length s.cells)) b)

besides_join : (s mid : CellsState) (new : Option Told) → mid.layout ≡ s.layout → length mid.cells ≡ length s.cells → Settled mid
    → LeavesBesides s mid.disk.told → LeavesBesides mid new → LeavesBesides s new
besides_join s mid new laid number settled first second b told t tells x image =
    let one : SameBesides s.layout (length s.cells) b settled.bytes =
    first b told (firm settled.bytes) settled.told settled.bytes (image_is_read (firm settled.bytes)) in
    let two : SameBesides mid.layout (length mid.cells) settled.bytes x = second settled.bytes settled.told t tells x image in
    SameOutside-after (base s.layout.version) (size_from_base s.layout.kind (length s.cells)) b settled.bytes x one
    (subst (λ (l : Layout). SameBesides l (length s.cells) settled.bytes x) laid
    (subst (λ (n : ℕ). SameBesides mid.layout n settled.bytes x) number two))

-- one request that doesn't find the disk failing
tells_settled : (s : CellsState) → Settled s → TellsCells s
tells_settled s h = record { now = firm h.bytes; told = h.told; stands = h.stands }

pub keeps_none : (calls : ℕ) (s : LoaderState) → s.down ≡ false → KeepsStore calls s s
keeps_none calls s up = record {
  up = up;
  uid_is = refl;
  laid_out = refl;
  number = refl;
  beyond = refl;
  held = λ h. h;
  runs = runs_more calls (omega arith) (runs_none s.store.disk);
  calm = refl;
  settled = λ h. h;
  besides = λ _. besides_none s.store;
}

keeps_one : (s : LoaderState) (request : Request) (line : LoadLine) (t : LoaderState) → Loads s request line t → is_failed line ≡ false → KeepsStore 6 s t
keeps_one s request (Loaded reply) t (up, k) isnt =
    let low : k.update.id < 14 = k.taken.1.padded.is_update.id_fits in
    record {
      up = k.up;
      uid_is = k.same;
      laid_out = k.store.layout;
      number = ap length k.store.cells ∙ length-set s.store.cells k.update.id (slot_cell (slot_of k.update));
      beyond = ap (drop 14) k.store.cells ∙ drop-set-lt 14 s.store.cells k.update.id (slot_cell (slot_of k.update)) low;
      held = λ h.
          ap (take 14) k.store.cells
          ∙ take-set-lt 14 s.store.cells k.update.id (slot_cell (slot_of k.update)) low
          ∙ ap (λ cells. set cells k.update.id (slot_cell (slot_of k.update))) h
          ∙ sym (map-set slot_cell s.slots k.update.id (slot_of k.update))
          ∙ ap (map slot_cell) (sym k.slots);
      runs = k.store.runs;
      calm = k.store.faults;
      settled = λ h. k.store.settled (tells_settled s.store h);
      besides = λ _. k.store.besides;
    }
keeps_one s request (Refused refusal) t (up, allows, same) isnt = subst (KeepsStore 6 s) (sym same) (keeps_none 6 s up)
keeps_one s request Failed t wrong isnt = absurd (false≢true (sym isnt))

answers_one : (s : LoaderState) (request : Request) (line : LoadLine) (t : LoaderState) → Loads s request line t → is_failed line ≡ false
    → AnswersRequest s.uid s.slots request line t.slots
answers_one s request (Loaded reply) t (up, k) isnt = (k.update, k.taken, k.confirmed, k.slots)
answers_one s request (Refused refusal) t (up, allows, same) isnt = (allows, ap (λ (l : LoaderState). l.slots) same)
answers_one s request Failed t wrong isnt = absurd (false≢true (sym isnt))

keeps_join : {m n : ℕ} (a b c : LoaderState) → KeepsStore m a b → KeepsStore n b c → KeepsStore (m + n) a c
keeps_join a b c first second = record {
  up = second.up;
  uid_is = second.uid_is ∙ first.uid_is;
  laid_out = second.laid_out ∙ first.laid_out;
  number = second.number ∙ first.number;
  beyond = second.beyond ∙ first.beyond;
  held = λ h. second.held (first.held h);
  runs = runs_join first.runs second.runs;
  calm = second.calm ∙ first.calm;
  settled = λ h. second.settled (first.settled h);
  besides = λ h.
      let mid = first.settled h in
      besides_join a.store b.store c.store.disk.told first.laid_out first.number mid (first.besides h) (second.besides mid);
}

abbrev Moments : Type 0
Moments = List (Moment Request LoadLine LoaderState)

-- requests none of which finds it failing
pub all_loaded : (s : LoaderState) (ms : Moments) (t : LoaderState) → s.down ≡ false → Run Loads s ms t → NoneFailed (lines_in ms)
    → AllLoaded s (commands_in ms) (lines_in ms) t
all_loaded s [] t up run none =
    subst (AllLoaded s [] []) (sym run) (record { answers = no_requests s.slots; none_failed = none; keeps = keeps_none _ s up })
all_loaded s (m ∷ ms) t up (step, run) none =
    let this : is_failed m.line ≡ false = none 0 m.line (omega arith) in
    let later : NoneFailed (lines_in ms) = λ k d within. none (suc k) d (omega (arith, within)) in
    let keeps = keeps_one s m.command m.line m.after step this in
    let rest = all_loaded m.after ms t keeps.up run later in
    let six_more : 6 + 6 * length (commands_in ms) ≡ 6 * suc (length (commands_in ms)) = omega arith in
    record {
      answers = one_more s.slots m.after.slots t.slots m.command (commands_in ms) m.line (lines_in ms) (answers_one s m.command m.line m.after step this)
          (subst (λ (uid : List ℕ). AnswersEach uid m.after.slots (commands_in ms) (lines_in ms) t.slots) keeps.uid_is rest.answers);
      none_failed = none;
      keeps = subst (λ (n : ℕ). KeepsStore n s t) six_more (keeps_join s m.after t keeps rest.keeps);
    }

-- the cells of a store that holds these slots
pub cells_are : (cells old : List (List ℕ)) (slots : List Slot) → take 14 cells ≡ map slot_cell slots → drop 14 cells ≡ drop 14 old → cells ≡ with_slots slots old
cells_are cells old slots held beyond = sym (take-append-drop 14 cells) ∙ ap₂ (λ front back. front ++ back) held beyond

fails_key : (s : LoaderState) (request : Request) (line : LoadLine) (t : LoaderState) → Loads s request line t → s.down ≡ false → is_failed line ≡ true
    → FailsKey s request t
fails_key s request (Loaded reply) t step up is = absurd (false≢true is)
fails_key s request (Refused refusal) t step up is = absurd (false≢true is)
fails_key s request Failed t (inl (was_up, fails)) up is = fails
fails_key s request Failed t (inr (was_down, same)) up is = absurd (false≢true (sym up ∙ was_down))

-- a request that finds it failing, after others that didn't
module _ (s mid t : LoaderState) (request : Request) (held : HoldsAll s) (calls : ℕ) (keeps : KeepsStore calls s mid) (fails : FailsKey mid request t) where
  mid_first : take 14 mid.store.cells ≡ map slot_cell mid.slots
  mid_first = keeps.held held.cells_are

  without : mid.store.cells ≡ with_slots t.slots s.store.cells
  without =
      cells_are mid.store.cells s.store.cells mid.slots mid_first keeps.beyond
      ∙ ap (λ slots. with_slots slots s.store.cells) (sym fails.slots)

  low : fails.update.id < 14
  low = fails.taken.1.padded.is_update.id_fits

  abbrev cell : List ℕ
  cell = slot_cell (slot_of fails.update)

  with_change : set mid.store.cells fails.update.id cell ≡ with_slots (set t.slots fails.update.id (slot_of fails.update)) s.store.cells
  with_change =
      cells_are (set mid.store.cells fails.update.id cell) s.store.cells (set mid.slots fails.update.id (slot_of fails.update))
      (take-set-lt 14 mid.store.cells fails.update.id cell low
      ∙ ap (λ cells. set cells fails.update.id cell) mid_first
      ∙ sym (map-set slot_cell mid.slots fails.update.id (slot_of fails.update)))
      (drop-set-lt 14 mid.store.cells fails.update.id cell low ∙ keeps.beyond)
      ∙ ap (λ slots. with_slots (set slots fails.update.id (slot_of fails.update)) s.store.cells) (sym fails.slots)

  last_images : Settled s.store → EachImage t.store.disk.told (StandsWithOrWithout s.store.layout s.store.cells t.slots fails.update)
  last_images settled told tells x image =
      let stands = fails.store.images (keeps.settled settled) told tells x image in
      elim stands [
        | inl old ↦ inl (subst (λ layout. Stands layout x (with_slots t.slots s.store.cells)) keeps.laid_out (subst (Stands mid.store.layout x) without old))
        | inr new ↦ inr (subst (λ layout. Stands layout x (with_slots (set t.slots fails.update.id (slot_of fails.update)) s.store.cells)) keeps.laid_out
            (subst (Stands mid.store.layout x) with_change new))
      ]

  last_besides : Settled s.store → LeavesBesides s.store t.store.disk.told
  last_besides settled =
      besides_join s.store mid.store t.store.disk.told keeps.laid_out keeps.number (keeps.settled settled) (keeps.besides settled) fails.store.besides

pub last_failed : (s : LoaderState) (front : Moments) (m : Moment Request LoadLine LoaderState) (t : LoaderState) → s.down ≡ false → HoldsAll s
    → Run Loads s (front ++ m ∷ []) t → NoneFailed (lines_in front) → is_failed m.line ≡ true
    → LastFailed s (commands_in front) (lines_in front) m.command t
last_failed s front m t up held run none is =
    let (mid, first, (step, now)) = Run-split Loads s front (m ∷ []) t run in
    let earlier = all_loaded s front mid up first none in
    let fails : FailsKey mid m.command t = subst (FailsKey mid m.command) (sym now) (fails_key mid m.command m.line m.after step earlier.keeps.up is) in
    record {
      mid = mid;
      earlier = earlier;
      failed = fails;
      images = last_images s mid t m.command held _ earlier.keeps fails;
      besides = last_besides s mid t m.command held _ earlier.keeps fails;
    }

-- the printed texts
pub texts_is : (n : ℕ) (lines : List LoadLine) → texts (λ _ line. load_text line) n lines ≡ load_texts lines
texts_is n [] = refl
texts_is n (line ∷ lines) = ap (λ rest. load_text line ++ rest) (texts_is (n + 1) lines)

-- the requests that were done, and the rest
pub requests_are : (requests : List Request) (front : Moments) (m : Moment Request LoadLine LoaderState) (k : ℕ)
    → commands_in (front ++ m ∷ []) ≡ take k requests → requests ≡ commands_in front ++ m.command ∷ drop k requests
requests_are requests front m k first =
    sym (take-append-drop k requests)
    ∙ ap (λ done. done ++ drop k requests) (sym first ∙ map-append (λ (n : Moment Request LoadLine LoaderState). n.command) front (m ∷ []))
    ∙ append_assoc (commands_in front) (m.command ∷ []) (drop k requests)

pub lines_are : (front : Moments) (m : Moment Request LoadLine LoaderState) → lines_in (front ++ m ∷ []) ≡ lines_in front ++ m.line ∷ []
lines_are front m = map-append (λ (n : Moment Request LoadLine LoaderState). n.line) front (m ∷ [])

pub commands_are : (front : Moments) (m : Moment Request LoadLine LoaderState) → commands_in (front ++ m ∷ []) ≡ commands_in front ++ m.command ∷ []
commands_are front m = map-append (λ (n : Moment Request LoadLine LoaderState). n.command) front (m ∷ [])
