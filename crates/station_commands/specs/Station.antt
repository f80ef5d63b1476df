-- What the arguments of `station` ask for, and what a run promises
use Rattle.std.specs.Prelude.{◌≡◌, ◌⊎◌, ℕ, Bool, true, List, Option, Some, None, if◌then◌else◌, ◌||◌, bytes_eq, codes}
use Rattle.std.specs.Prelude.{drop, map, option_map}
use Rattle.bus_port.specs.Source.{SourceState}
use Rattle.cut_disk.specs.State.{DiskState}
use Rattle.text_lines.specs.Readings.{nth_word}
use Rattle.text_lines.specs.Texts.{line}
use Rattle.file_disk.specs.NamedDisks.{OpenedByWords, OpensNothing}
use Rattle.program_edge.specs.declared.word_sources.WordSource.{WordSource}
use Rattle.program_edge.specs.Told.{EndingTold}
use Rattle.program_edge.specs.Endings.{Ending, EndsInRow}
use Rattle.program_edge.specs.NamedSources.{OverNamed, OverTwoNamed}
use Rattle.slot_commands.specs.SlotTasks.{file_asked}
use Rattle.slot_commands.specs.SlotReads.{ReadsUnitStore}
use Rattle.bus_store_commands.specs.BusWords.{asks_over_bus, file_over_bus}
use Rattle.bus_store_commands.specs.ChecksOverBus.{ChecksOverBus}
use Rattle.bus_store_commands.specs.GrowsOverBus.{GrowsOverBus}
use Rattle.bus_store_commands.specs.MakesUnitStore.{MakesUnitStore}
use Rattle.ledger_commands.specs.LedgerRows.{words_named}
use Rattle.ledger_commands.specs.LedgerReads.{ReadsLedgerFiles}
use Rattle.ledger_commands.specs.Named.{OverAllNamed}
use Rattle.adopt_commands.specs.AdoptTasks.{may_make}
use Rattle.adopt_commands.specs.AdoptsOver.{AdoptsOver}
use Rattle.keyfile_commands.specs.Calls.{first_file, second_file}
use Rattle.keyfile_commands.specs.KeyFilesRuns.{KeyFilesRuns}
use Rattle.derive_commands.specs.Derivation.{master_file, ComesOfDerivation}
use Rattle.station_commands.specs.declared.run.StationPart.{StationPart}
use Rattle.station_commands.specs.declared.run.StationPart.TheVariants.{Slots, BusCheck, Making, Growth, Ledger}
use Rattle.station_commands.specs.declared.run.StationPart.TheVariants.{Adoption, Key, Derivation}
use Rattle.station_commands.specs.declared.run.StationFiles.{StationFiles}
use Rattle.station_commands.specs.declared.run.StationFiles.TheVariants.{Store, StoreAndBus, Made, Grown, Ledgers}
use Rattle.station_commands.specs.declared.run.StationFiles.TheVariants.{Adopted, Keys, Master, Nothing}

-- the line that is printed if the first argument is none of the program's
abbrev pub station_usage : List ℕ
station_usage = line (codes "usage: station slots, ledger, key")

-- what arguments name after `slots`, of which this is the first
abbrev pub slot_part : List ℕ → Bool → StationPart
slot_part word checks_over_bus =
    if bytes_eq word (codes "make") then Making else if bytes_eq word (codes "grow") then Growth
    else if checks_over_bus then BusCheck else Slots

-- what a second argument names after `ledger`
abbrev pub ledger_part : List ℕ → StationPart
ledger_part word =
    if bytes_eq word (codes "adopt") || bytes_eq word (codes "import") || bytes_eq word (codes "merge")
    then Adoption else Ledger

-- what a second argument names after `key`
abbrev pub key_part : List ℕ → StationPart
key_part word = if bytes_eq word (codes "derive") then Derivation else Key

-- what the first two arguments name; after `slots` the check over a bus, if all of them ask for that
abbrev pub part_named : List ℕ → List ℕ → Bool → Option StationPart
part_named word next checks_over_bus =
    if bytes_eq word (codes "slots") then Some (slot_part next checks_over_bus)
    else if bytes_eq word (codes "ledger") then Some (ledger_part next)
    else if bytes_eq word (codes "key") then Some (key_part next)
    else None

abbrev pub part_of : List (List ℕ) → Option StationPart
part_of words = part_named (nth_word words 1) (nth_word words 2) (asks_over_bus (codes "check") (drop 1 words))

-- the arguments with which a file may be made: `slots make`, and `ledger adopt`, `import` and `merge` with `--new`
abbrev pub MayMakeFile : List (List ℕ) → Type 0
MayMakeFile words =
    (part_of words ≡ Some Making) ⊎ ((part_of words ≡ Some Adoption) × (may_make (drop 1 words) ≡ true))

-- What is promised of these arguments after the first, of a run that left such sources and disks: all that the part
-- promises, over the files and disks that they name, each opened once, and no other. For no part the usage line was
-- printed with 2, or at 6 a prefix of it, and nothing was opened.
abbrev pub RunsPart : {O I D : Type 0} → (List ℕ → SourceState → Type 0) → (List ℕ → DiskState → Type 0)
    → (WordSource O I → SourceState) → (D → DiskState) → List (List ℕ) → OpenedByWords → Option StationPart
    → StationFiles O I D → Ending → Type 0
RunsPart opens disk_opens state disk words o (Some Slots) (Store file) e =
    OverNamed opens o.before o.after (file_asked words) (state file)
    (λ it. ReadsUnitStore (record { words = words; file = it }) e)
    × (o.disks_after ≡ o.disks_before)
RunsPart opens disk_opens state disk words o (Some BusCheck) (StoreAndBus file bus) e =
    OverTwoNamed opens o.before o.after (file_over_bus (codes "check") words 1) (file_over_bus (codes "check") words 2)
    (state file) (state bus)
    (λ store wanted. ChecksOverBus (record { words = words; file = store; bus = wanted }) e)
    × (o.disks_after ≡ o.disks_before)
RunsPart opens disk_opens state disk words o (Some Making) (Made bus left) e =
    OverNamed opens o.before o.after (file_over_bus (codes "make") words 2) (state bus)
    (λ it. (opened : Option DiskState) × MakesUnitStore disk_opens
    (record {
      words = words;
      bus = it;
      disks_before = o.disks_before;
      disks_after = o.disks_after;
      opened = opened;
      left = option_map disk left;
    }) e)
RunsPart opens disk_opens state disk words o (Some Growth) (Grown bus left) e =
    OverNamed opens o.before o.after (file_over_bus (codes "grow") words 2) (state bus)
    (λ it. GrowsOverBus disk_opens o.disks_before o.disks_after (record { words = words; bus = it })
    (option_map disk left) e)
RunsPart opens disk_opens state disk words o (Some Ledger) (Ledgers files) e =
    OverAllNamed opens o.before o.after (words_named words) (map state files.items)
    (λ all. ReadsLedgerFiles (record { words = words; files = all }) e)
    × (o.disks_after ≡ o.disks_before)
RunsPart opens disk_opens state disk words o (Some Adoption) (Adopted files disks) e =
    AdoptsOver opens disk_opens o words (map state files.items) (map disk disks.items) e
RunsPart opens disk_opens state disk words o (Some Key) (Keys first second) e =
    OverTwoNamed opens o.before o.after (first_file words) (second_file words) (state first) (state second)
    (λ one other. KeyFilesRuns (record { words = words; first = one; second = other }) e)
    × (o.disks_after ≡ o.disks_before)
RunsPart opens disk_opens state disk words o (Some Derivation) (Master file) e =
    OverNamed opens o.before o.after (master_file words) (state file)
    (λ it. EndsInRow (ComesOfDerivation (record { words = words; file = it })) e)
    × (o.disks_after ≡ o.disks_before)
RunsPart opens disk_opens state disk words o None Nothing e =
    OpensNothing o × EndingTold e.before e.after station_usage 2 e.status
RunsPart opens disk_opens state disk words o part files e = ⊥

-- what a run promises of all its arguments
abbrev pub RunsStation : {O I D : Type 0} → (List ℕ → SourceState → Type 0) → (List ℕ → DiskState → Type 0)
    → (WordSource O I → SourceState) → (D → DiskState) → List (List ℕ) → OpenedByWords → StationFiles O I D → Ending
    → Type 0
RunsStation opens disk_opens state disk words o files e =
    RunsPart opens disk_opens state disk (drop 1 words) o (part_of words) files e
