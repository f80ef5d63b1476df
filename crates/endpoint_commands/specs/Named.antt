-- What the words of an `endpoint` name
use Rattle.std.specs.Prelude.{◌≡◌, ◌⊎◌, ℕ, ◌==◌, ◌||◌, if◌then◌else◌, Option, None, List, [], length, map, slice_get, Vec}
use Rattle.std.specs.declared.alloc.Global.{Global}
use Rattle.bus_port.specs.Source.{SourceState}
use Rattle.cut_disk.specs.State.{DiskState}
use Rattle.file_disk.specs.NamedDisks.{DisksAreNamed, OpenedByWords}
use Rattle.program_edge.specs.Endings.{EndsInRow}
use Rattle.program_edge.specs.NamedSources.{Openings, IsNamed, behind}
use Rattle.can_logs.specs.LogRuns.{IsUnwritten, WatchEnding, on_errors}
use Rattle.endpoint_commands.specs.Rows.{EndpointInputs, OverEndpoint, ComesBeforeLog}
use Rattle.endpoint_commands.specs.Promises.{DidLines, IsOneRun}
use Rattle.endpoint_commands.specs.Table.{RunsEndpoint}

-- the word at a place, of words of the form `B MAP LOG DISK [IMAGE]`; none of others
unfoldable pub word_of_form : List (List ℕ) → ℕ → Option (List ℕ)
word_of_form words place = if (length words == 4) || (length words == 5) then slice_get words place else None

-- ---- the sources

-- what is known of the four sources, as they were opened or as a run left them
pub record FourSources : Type 0 where
  pub config : SourceState
  pub map : SourceState
  pub log : SourceState
  pub image : SourceState

abbrev pub sources_before : EndpointInputs → FourSources
sources_before i = record {
  config = i.config.before;
  map = i.map.before;
  log = i.log.before;
  image = i.image.before;
}

abbrev pub sources_after : EndpointInputs → FourSources
sources_after i = record {
  config = i.config.after;
  map = i.map.after;
  log = i.log.after;
  image = i.image.after;
}

-- what was opened before the map, the log and the image: each word once, in this order
abbrev pub opened_before_map : List (List ℕ) → Openings → Openings
opened_before_map words before = behind (word_of_form words 0) before

abbrev pub opened_before_log : List (List ℕ) → Openings → Openings
opened_before_log words before = behind (word_of_form words 1) (opened_before_map words before)

abbrev pub opened_before_image : List (List ℕ) → Openings → Openings
opened_before_image words before = behind (word_of_form words 2) (opened_before_log words before)

-- The sources are those that the words name: the bus file, the map, the log and the image. Each word was opened once,
-- in this order, and no other.
pub record SourcesNamed (opens : List ℕ → SourceState → Type 0) (before after : Openings) (words : List (List ℕ))
    (sources : FourSources) : Type 0 where
  pub config_named : IsNamed opens before (word_of_form words 0) sources.config
  pub map_named : IsNamed opens (opened_before_map words before) (word_of_form words 1) sources.map
  pub log_named : IsNamed opens (opened_before_log words before) (word_of_form words 2) sources.log
  pub image_named : IsNamed opens (opened_before_image words before) (word_of_form words 4) sources.image
  pub opened_once : after ≡ behind (word_of_form words 4) (opened_before_image words before)

-- ---- the disk

-- The disk of a run is opened last. None is, and so no file is made, if the words are malformed, if an input other than
-- the log fails or is refused, or if there is no memory: the row that says so is told. Else all inputs but the log were
-- read whole, and the fourth word opens the one disk, once.
pub data OpensDiskLast (opens : List ℕ → DiskState → Type 0) (before after : List (List ℕ)) (i : EndpointInputs)
    (disks : List DiskState) (e : WatchEnding) : Type 0 where
  none_opened : EndsInRow (ComesBeforeLog i) (on_errors e) → IsUnwritten e.output → after ≡ before → disks ≡ []
      → OpensDiskLast opens before after i disks e
  one_opened : OverEndpoint i (λ bus rules image. Unit {0})
      → DisksAreNamed opens before after (word_of_form i.words 3) disks → OpensDiskLast opens before after i disks e

-- All that a run promises over these sources, and over the disk that its fourth word opens, if it is opened, which is
-- handed back. The disk tells its bytes, and a power cut can take none of them away. So what was done is one run of the
-- machine.
pub record EndpointOverDisk {D : Type 0} (state : D → DiskState) (opens : List ℕ → DiskState → Type 0)
    (before after : List (List ℕ)) (i : EndpointInputs) (used : Vec D Global) (e : WatchEnding) : Type 0 where
  pub disks : Vec D Global
  pub disk : OpensDiskLast opens before after i (map state disks.items) e
  -- At 2, 3 and 4 no disk was opened. At 5 and 8 none was, either, unless it is the log that failed.
  pub unopened : (e.status ≡ 2) ⊎ (e.status ≡ 3) ⊎ (e.status ≡ 4) → after ≡ before
  pub unopened_at_fault : (e.status ≡ 5) ⊎ (e.status ≡ 8) → (after ≡ before)
      ⊎ DidLines i (record { before = map state disks.items; after = map state used.items }) e
  pub runs : RunsEndpoint (used ≡ disks) i
      (record { before = map state disks.items; after = map state used.items }) e
  pub one_run : DidLines i (record { before = map state disks.items; after = map state used.items }) e
      → IsOneRun i (record { before = map state disks.items; after = map state used.items }) e

-- ---- the words

-- That was had over the sources and the disk that the words name, which were left so.
pub record EndpointOfWords {D : Type 0} (state : D → DiskState) (opens : List ℕ → SourceState → Type 0)
    (opens_disk : List ℕ → DiskState → Type 0) (o : OpenedByWords) (words : List (List ℕ)) (left : FourSources)
    (used : Vec D Global) (e : WatchEnding) : Type 0 where
  pub inputs : EndpointInputs
  pub words_are : inputs.words ≡ words
  pub named : SourcesNamed opens o.before o.after words (sources_before inputs)
  pub left_are : sources_after inputs ≡ left
  pub over : EndpointOverDisk state opens_disk o.disks_before o.disks_after inputs used e
