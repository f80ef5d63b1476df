-- What loading the requests of a source into the first disk's store comes to
use Rattle.std.specs.Prelude.{◌≡◌, ℕ, List, [], ◌∷◌, Result, Ok, Err, Vec, codes}
use Rattle.std.specs.declared.alloc.Global.{Global}
use Rattle.cut_disk.specs.State.{DiskState}
use Rattle.cut_disk.specs.Calls.{IsDisk}
use Rattle.program_edge.specs.declared.input.InputFault.{InputFault}
use Rattle.memory_update.specs.declared.messages.Request.{Request}
use Rattle.secoc_words.specs.Frames.{loads_of}
use Rattle.text_lines.specs.Readings.{Fault}
use Rattle.program_edge.specs.Rows.{Row, row_of, input_row}
use Rattle.program_edge.specs.Inputs.{Reading, Lacks, ReadsWhole}
use Rattle.program_edge.specs.Endings.{Ending, EndsInRow}
use Rattle.text_lines.specs.LineRows.{line_row}
use Rattle.key_commands.specs.Loader.{LoaderState}
use Rattle.key_commands.specs.Opening.{GivesNoEngine, OpensLoader, most_to_open, store_text}
use Rattle.key_commands.specs.Loading.{EndsLoading}

-- what goes into a load: the engine's identifier, the source of requests, and what was known of each disk
pub record LoadInputs : Type 0 where
  pub uid : List ℕ
  pub request : Reading
  pub before : List DiskState
  pub after : List DiskState

-- the source was read whole, and has these requests
abbrev pub ReadsRequests : Reading → List Request → Type 0
ReadsRequests reading requests = (text : List ℕ) × ReadsWhole reading text × (loads_of text ≡ Ok requests)

-- the source was read whole, and this is its first fault
abbrev pub IsRequestFault : Reading → Fault → Type 0
IsRequestFault reading fault = (text : List ℕ) × ReadsWhole reading text × (loads_of text ≡ Err fault)

-- why a source gives no requests
pub data LacksRequests (reading : Reading) : Row → Type 0 where
  no_requests_read : (fault : InputFault) → Lacks reading fault → LacksRequests reading (input_row fault)
  refused_request : (fault : Fault) → IsRequestFault reading fault → LacksRequests reading (line_row fault)

abbrev pub ReadsRequestSource : Reading → Result (Vec Request Global) Row → Type 0
ReadsRequestSource reading (Ok requests) = ReadsRequests reading requests.items
ReadsRequestSource reading (Err row) = LacksRequests reading row

abbrev pub no_disk_row : Row
no_disk_row = row_of 9 (store_text (codes "no disk"))

-- there is a first disk, of whose state before and after this holds, and the others are as before
pub record OnFirstDisk (before after : List DiskState) (Holds : DiskState → DiskState → Type 0) : Type 0 where
  pub old : DiskState
  pub new : DiskState
  pub others : List DiskState
  pub is_disk : IsDisk old
  pub before_is : before ≡ old ∷ others
  pub after_is : after ≡ new ∷ others
  pub holds : Holds old new

-- the table: when each row comes in place of loading
pub data ComesInLoad (i : LoadInputs) : Row → Type 0 where
  without_requests : (row : Row) → LacksRequests i.request row → i.after ≡ i.before → ComesInLoad i row
  without_disk : (requests : List Request) → ReadsRequests i.request requests → i.before ≡ [] → i.after ≡ []
      → ComesInLoad i no_disk_row
  without_engine : (requests : List Request) (row : Row) → ReadsRequests i.request requests
      → OnFirstDisk i.before i.after (λ old new. GivesNoEngine most_to_open old new row) → ComesInLoad i row

-- the engine of the first disk's store is open, and loading the requests into it ends so
pub record LoadsInto (uid : List ℕ) (requests : List Request) (e : Ending) (old new : DiskState) : Type 0 where
  pub opened : LoaderState
  pub left : LoaderState
  pub opens : OpensLoader most_to_open old uid opened
  pub ends : EndsLoading opened requests left e
  pub handed_back : new ≡ left.store.disk

-- how it ends over a disk: in a row, or in lines
pub data EndsOnDisk (uid : List ℕ) (requests : List Request) (e : Ending) (old new : DiskState) : Type 0 where
  not_open : EndsInRow (GivesNoEngine most_to_open old new) e → EndsOnDisk uid requests e old new
  loads_into : LoadsInto uid requests e old new → EndsOnDisk uid requests e old new

-- how it ends over these disks: in the row if there is none, or over the first
pub data EndsOverDisks (uid : List ℕ) (requests : List Request) (e : Ending)
    (before after : List DiskState) : Type 0 where
  no_first : before ≡ [] → after ≡ [] → EndsInRow (λ row. row ≡ no_disk_row) e
      → EndsOverDisks uid requests e before after
  on_first : OnFirstDisk before after (EndsOnDisk uid requests e) → EndsOverDisks uid requests e before after

-- requests were read, and loaded into the engine of the first disk's store
abbrev pub EndsInLines : LoadInputs → Ending → Type 0
EndsInLines i e = (requests : List Request) × ReadsRequests i.request requests
    × OnFirstDisk i.before i.after (LoadsInto i.uid requests e)

-- how it ends: in a row that comes, or in lines
pub data EndsLoad (i : LoadInputs) (e : Ending) : Type 0 where
  in_row : EndsInRow (ComesInLoad i) e → EndsLoad i e
  in_lines : EndsInLines i e → EndsLoad i e
