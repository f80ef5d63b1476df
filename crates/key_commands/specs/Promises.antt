-- What loading the requests of a source into the first disk's store promises
use Rattle.std.specs.Prelude.{◌≡◌, ◌⊎◌, ◌≤◌, ◌+◌, ◌*◌, ℕ, List, [], ◌∷◌, ◌++◌, length, drop, get_or, Some, Ok, Err}
use Rattle.std.specs.Prelude.{codes}
use Rattle.cut_disk.specs.State.{DiskState, Told}
use Rattle.cut_disk.specs.Images.{EachImage, firm}
use Rattle.cut_disk.specs.Calls.{Rose as RoseOfDisk, Runs}
use Rattle.program_edge.specs.declared.input.InputFault.TheVariants.{ReadFault, TooLong}
use Rattle.key_slots.specs.declared.memory.Slot.{Slot}
use Rattle.memory_update.specs.declared.messages.Request.{Request}
use Rattle.memory_update.specs.declared.messages.Update.{Update}
use Rattle.secoc_words.specs.Frames.{loads_of}
use Rattle.text_lines.specs.Readings.{most_lines, Fault}
use Rattle.text_lines.specs.Texts.{fault_text_of}
use Rattle.cell_store.specs.Store.{SameBesides, Stands}
use Rattle.slot_disk.specs.Cell.{HoldSlots}
use Rattle.program_edge.specs.Rows.{Row}
use Rattle.program_edge.specs.Inputs.{Lacks, CountsFault, CountsTooMuch, Offers}
use Rattle.program_edge.specs.Endings.{Ending, EndsIn, MayEndIn, PrintsWhole, PrintsFront, SinkFailed, CountsWriteFault}
use Rattle.any_cells.specs.declared.finding.CountingStore.{CountingStore}
use Rattle.key_commands.specs.declared.lines.LoadLine.{LoadLine}
use Rattle.key_commands.specs.declared.lines.LoadLine.TheVariants.{Failed}
use Rattle.key_commands.specs.LoadTexts.{load_text}
use Rattle.key_commands.specs.Answers.{AnswersEach, Takes}
use Rattle.key_commands.specs.Opening.{HasCounting, HasCells, NoEngineIn, LacksEngine, layout_of, most_to_open}
use Rattle.key_commands.specs.Loading.{NoneFailed, StandsWithOrWithout, WritesUpTo, load_texts, with_slots}
use Rattle.key_commands.specs.Loads.{LoadInputs, ReadsRequests, IsRequestFault, OnFirstDisk, ComesInLoad, no_disk_row}

-- the store that counts on a disk is good: it has at least 14 cells, and the first fourteen are these slots'
pub record HasEngine (disk : DiskState) : Type 0 where
  pub found : CountingStore
  pub cells : List (List ℕ)
  pub slots : List Slot
  pub counts : HasCounting disk found
  pub number : length cells ≡ found.cells
  pub wide : 14 ≤ found.cells
  pub stands : HasCells disk found cells
  pub held : HoldSlots cells slots

-- the most calls of a load of so many requests: the reads that open the engine, and six of each request
abbrev pub most_to_load : ℕ → ℕ
most_to_load requests = most_to_open + 6 * requests

-- These requests were answered so from the slots of the disk's store, and the disk didn't fail. If no byte was loose,
-- each image of the disk then stands for the cells after the lines. The bytes before and after the store are as they
-- were.
pub record AnsweredAll (uid : List ℕ) (requests : List Request) (lines : List LoadLine)
    (old new : DiskState) : Type 0 where
  pub engine : HasEngine old
  pub after : List Slot
  pub answers : AnswersEach uid engine.slots requests lines after
  pub none_failed : NoneFailed lines
  pub runs : Runs [] (most_to_load (length requests)) old new
  pub calm : new.faults ≡ old.faults
  pub images : (b : List ℕ) → old.told ≡ Some (firm b)
      → EachImage new.told (λ x. Stands (layout_of engine.found) x (with_slots after engine.cells))
  pub besides : (b : List ℕ) → old.told ≡ Some (firm b)
      → EachImage new.told (SameBesides (layout_of engine.found) (length engine.cells) b)

-- These requests were answered so, and the disk's count was as before them. Then it rose in the load of this request,
-- whose update is taken, in at most six calls. If no byte was loose, each image stands for the cells after the lines,
-- or for these with the change. The bytes before and after the store are as they were.
pub record AnsweredUntilFailed (uid : List ℕ) (requests : List Request) (lines : List LoadLine) (request : Request)
    (old new : DiskState) : Type 0 where
  pub engine : HasEngine old
  pub after : List Slot
  pub answers : AnswersEach uid engine.slots requests lines after
  pub none_failed : NoneFailed lines
  pub update : Update
  pub taken : Takes uid after request update
  -- the disk as this request found it, and what its load did to it
  pub mid : DiskState
  pub earlier : Runs [] (most_to_load (length requests)) old mid
  pub calm : mid.faults ≡ old.faults
  pub runs : Runs [] 6 mid new
  pub rose : RoseOfDisk mid.faults new.faults
  pub images : (b : List ℕ) → old.told ≡ Some (firm b)
      → EachImage new.told (StandsWithOrWithout (layout_of engine.found) engine.cells after update)
  pub besides : (b : List ℕ) → old.told ≡ Some (firm b)
      → EachImage new.told (SameBesides (layout_of engine.found) (length engine.cells) b)

-- the source was read whole, there is a first disk, and this holds of the requests and of its state before and after
abbrev pub OverRequests : LoadInputs → (List Request → DiskState → DiskState → Type 0) → Type 0
OverRequests i P =
    (requests : List Request) × ReadsRequests i.request requests × OnFirstDisk i.before i.after (P requests)

-- the requests are these, one more, and others, and this holds of the first and of the one
abbrev pub UpToOne : List Request → (List Request → Request → Type 0) → Type 0
UpToOne requests P =
    (first : List Request) × (request : Request) × (rest : List Request)
    × (requests ≡ first ++ request ∷ rest) × P first request

-- all requests were answered, and exactly the lines' texts were printed
abbrev pub LoadsAll : LoadInputs → Ending → Type 0
LoadsAll i e = OverRequests i (λ requests old new.
    (lines : List LoadLine) × AnsweredAll i.uid requests lines old new × PrintsWhole e (load_texts lines))

-- the disk failed at a request: the answers before it were printed, and then `refused MEMORY_FAILURE`
abbrev pub StopsAtOne : LoadInputs → Ending → Type 0
StopsAtOne i e = OverRequests i (λ requests old new. UpToOne requests (λ first request.
    (lines : List LoadLine) × AnsweredUntilFailed i.uid first lines request old new
    × PrintsWhole e (load_texts lines ++ load_text Failed)))

-- At 0 each image of the first disk stands for the cells after the lines of all requests. At 10 it stands for those
-- after the lines before the disk failed, with the change or without it. The bytes before and after the store are as
-- they were.
abbrev pub LeavesImages : LoadInputs → Ending → Type 0
LeavesImages i e = OverRequests i (λ requests old new.
    (e.status ≡ 0 → (lines : List LoadLine) × AnsweredAll i.uid requests lines old new)
    × (e.status ≡ 10 → UpToOne requests (λ first request.
    (lines : List LoadLine) × AnsweredUntilFailed i.uid first lines request old new)))

-- the first disk's bytes and loose marks are as before
abbrev pub SameBytes : LoadInputs → Type 0
SameBytes i = (d : DiskState) → (get_or i.after 0 d).told ≡ (get_or i.before 0 d).told

-- the first disk's count of faults is as before
abbrev pub SameCount : LoadInputs → Type 0
SameCount i = (d : DiskState) → (get_or i.after 0 d).faults ≡ (get_or i.before 0 d).faults

-- no request was answered: at 6 a prefix of a row that comes was written, and at 7 nothing, if the disk didn't fail
abbrev pub AnswersNone : LoadInputs → Ending → Type 0
AnswersNone i e = SameBytes i
    × ((e.status ≡ 6) × PrintsFront (ComesInLoad i) e ⊎ (e.status ≡ 7) × PrintsWhole e [] × SameCount i)

-- the requests up to one were answered, and the line of the last wasn't written whole
abbrev pub EndsAtOne : LoadInputs → Ending → Type 0
EndsAtOne i e = OverRequests i (λ requests old new. UpToOne requests (λ first request.
    ((lines : List LoadLine) × (line : LoadLine)
    × AnsweredAll i.uid (first ++ request ∷ []) (lines ++ line ∷ []) old new × WritesUpTo e lines line)
    ⊎ ((lines : List LoadLine) × AnsweredUntilFailed i.uid first lines request old new × WritesUpTo e lines Failed)))

-- the source was read whole, and there is no disk, or the first gives no engine: the first cause that applies is
-- printed, and the disk's bytes are as before
abbrev pub RefusesStore : LoadInputs → Ending → Type 0
RefusesStore i e =
    ((requests : List Request) × ReadsRequests i.request requests
    × (i.before ≡ []) × PrintsWhole e no_disk_row.text)
    ⊎ OverRequests i (λ requests old new.
    (row : Row) × LacksEngine old new row × (new.told ≡ old.told) × PrintsWhole e row.text)

-- there is no disk, or a cause applies to the told bytes of the first
abbrev pub HasNoEngine : LoadInputs → Type 0
HasNoEngine i = (i.before ≡ []) ⊎ ((disk : DiskState) × (others : List DiskState) × (t : Told)
    × (i.before ≡ disk ∷ others) × (disk.told ≡ Some t) × NoEngineIn t.bytes)

-- what a load leaves of the disks, at every status
pub record LeavesOthers (i : LoadInputs) (e : Ending) : Type 0 where
  -- As many as before, those past the first as before, and no past got a mark, nor more entries than the most calls.
  pub count : length i.after ≡ length i.before
  pub others : drop 1 i.after ≡ drop 1 i.before
  pub no_mark : (d : DiskState) → Runs [] (most_to_load most_lines) (get_or i.before 0 d) (get_or i.after 0 d)
  -- All as before at 4, 5 and 8; at 9 each byte and each loose mark of the first.
  pub unused : (e.status ≡ 4) ⊎ (e.status ≡ 5) ⊎ (e.status ≡ 8) → i.after ≡ i.before
  pub only_read : e.status ≡ 9 → SameBytes i

-- the source tells requests, and didn't fail
abbrev pub OffersRequests : LoadInputs → List Request → Type 0
OffersRequests i requests = (text : List ℕ) × Offers i.request text × (loads_of text ≡ Ok requests)

-- the first disk tells bytes whose store gives an engine, and its count didn't rise
pub record OffersEngine (i : LoadInputs) : Type 0 where
  pub disk : DiskState
  pub others : List DiskState
  pub told : Told
  pub before_is : i.before ≡ disk ∷ others
  pub tells : disk.told ≡ Some told
  pub engine : HasEngine disk
  pub calm : (new : DiskState) (rest : List DiskState) → i.after ≡ new ∷ rest → ¬ RoseOfDisk disk.faults new.faults

-- what a load promises that has these inputs and ends so, in the order of the table of answers
pub record RunsLoad (i : LoadInputs) (e : Ending) : Type 0 where
  -- 0: all requests of the whole input are answered, none failed, and exactly the answers were printed.
  pub loaded : e.status ≡ 0 → LoadsAll i e
  -- 10: the disk's count rose in the load of a request that is taken; the answers before it were printed, and its own.
  pub load_failed : e.status ≡ 10 → StopsAtOne i e
  -- At 0 and 10 each image of the first disk stands for the cells after the lines, at 10 with the last change or
  -- without it. The bytes before and after the store are as they were.
  pub images : (e.status ≡ 0) ⊎ (e.status ≡ 10) → LeavesImages i e
  -- 6 and 7: no request was answered, at 7 with the disk's count as before; or those up to one were, whose line wasn't
  -- written whole.
  pub load_early_ends : (e.status ≡ 6) ⊎ (e.status ≡ 7) → AnswersNone i e ⊎ EndsAtOne i e
  -- 9: the input was read whole, and there is no disk or no engine; the first cause is named. It comes if a cause
  -- applies to what the first disk tells.
  pub store_refused : e.status ≡ 9 → RefusesStore i e
  pub store_refused_only : (requests : List Request) → OffersRequests i requests → HasNoEngine i → MayEndIn 9 e
  -- 4: the input was read whole, and its first fault is printed.
  pub refused : e.status ≡ 4 → (fault : Fault) × IsRequestFault i.request fault × PrintsWhole e (fault_text_of fault)
  pub refused_only : (text : List ℕ) (fault : Fault) → Offers i.request text → loads_of text ≡ Err fault → MayEndIn 4 e
  -- 5: exactly if the source's count of faults rose.
  pub read_fault : e.status ≡ 5 → Lacks i.request ReadFault × PrintsWhole e (codes "read fault\n")
  pub read_fault_only : CountsFault i.request → EndsIn 5 e
  -- 8: exactly if one byte more than an input may have came from the source.
  pub too_long : e.status ≡ 8 → Lacks i.request TooLong × PrintsWhole e (codes "input too long\n")
  pub too_long_only : CountsTooMuch i.request → EndsIn 8 e
  -- 6: exactly if the sink's count of faults rose.
  pub write_fault : e.status ≡ 6 → SinkFailed e
  pub write_fault_only : CountsWriteFault e → e.status ≡ 6
  pub disks : LeavesOthers i e
  -- Valid requests over a good store are loaded, if no port failed and there was memory.
  pub complete : (requests : List Request) → OffersRequests i requests → OffersEngine i → ¬ SinkFailed e
      → (e.status ≡ 0) ⊎ (e.status ≡ 7)
  -- The statuses are 0 and 4 to 10.
  pub statuses : (e.status ≡ 0) ⊎ ((4 ≤ e.status) × (e.status ≤ 10))
