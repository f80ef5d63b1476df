-- The phases of a run of `slots make FILE BUS`, put together
use Rattle.std.specs.Prelude.{◌≡◌, ◌≢◌, ℕ, false, Option, None, Some, List, [], ◌∷◌, ◌++◌, length, get_or, codes}
use Rattle.std.proofs.Common.{refl, sym, ap, ◌∙◌, subst, arith, inl, inr}
use Rattle.cut_disk.specs.State.{DiskState}
use Rattle.cell_store.specs.declared.kinds.Kind.{Kind}
use Rattle.cell_store.specs.declared.kinds.Version.{Version}
use Rattle.cell_store.specs.declared.faults.StoreFault.{StoreFault}
use Rattle.cell_store.specs.declared.faults.StoreFault.TheVariants as store
use Rattle.freshness_routes.specs.Config.{Config, IsConfig}
use Rattle.text_lines.specs.Written.{written}
use Rattle.program_edge.specs.Rows.{Row, row_of, memory_row}
use Rattle.program_edge.specs.Inputs.{Reading, IsUnread}
use Rattle.program_edge.specs.Endings.{Ending, EndsInRow}
use Rattle.program_edge.proofs.CallerLemmas.{EndsInRow-more}
use Rattle.bus_config.specs.declared.node_lines.NodeLine.{NodeLine}
use Rattle.bus_config.specs.Buses.{NamedBus, IsNamedBus}
use Rattle.bus_script.specs.EventForms.{no_node, node_line_at}
use Rattle.bus_world.specs.TakingUp.{cells_in}
use Rattle.key_commands.specs.Opening.{TellsStoreFault}
use Rattle.slot_commands.specs.StoreWords.{store_line_words}
use Rattle.bus_store_commands.specs.declared.making.MakeFault.{MakeFault}
use Rattle.bus_store_commands.specs.declared.making.MakeFault.TheVariants as fault
use Rattle.bus_store_commands.specs.BusWords.{asks_over_bus}
use Rattle.bus_store_commands.specs.NodeBuses.{ReadsNodeBus, LacksNodeBus}
use Rattle.bus_store_commands.specs.NodeStores.{StoreMade, StoreUnmade}
use Rattle.bus_store_commands.specs.MakeRows.{MakeInputs, AsksMake, OpensNoDisk, ComesOfMake, no_form, no_room, unmade}
use Rattle.bus_store_commands.specs.MakeRows.{make_usage, made_text, node_config, IsMakeRow}
use Rattle.bus_store_commands.specs.MakeRows as rows
use Rattle.bus_store_commands.specs.MakeSteps.{LacksMakeJob, malformed, lacks_node, lacks_room, ComesOverDisk, of_made, of_unmade, EndsMake, no_disk, over_disk}
use Rattle.bus_store_commands.specs.MakesUnitStore.{MakesUnitStore}
use Rattle.bus_store_commands.proofs.MakePromises.{makes_row}

-- what was known, with this disk before, if one was opened
abbrev inputs : List (List ℕ) → Reading → List (List ℕ) → List (List ℕ) → Option DiskState → Option DiskState → MakeInputs
inputs words bus before after opened left =
    record { words = words; bus = bus; disks_before = before; disks_after = after; opened = opened; left = left }

lacking : (opens : List ℕ → DiskState → Type 0) (i : MakeInputs) (row : Row) → OpensNoDisk i → LacksMakeJob i.words i.bus row → ComesOfMake opens i row
lacking opens i row opened (malformed none unread) = no_form none unread opened
lacking opens i row opened (lacks_node _ asks lacks) = rows.no_node row asks lacks opened
lacking opens i row opened (lacks_room bus asks reads) = no_room bus asks reads opened

-- nothing was asked of a disk
pub job_lacking : (opens : List ℕ → DiskState → Type 0) (words : List (List ℕ)) (bus : Reading) (disks : List (List ℕ)) (left : Option DiskState) (row : Row)
    (e : Ending) → left ≡ None → LacksMakeJob words bus row → EndsInRow (λ other. other ≡ row) e
    → (opened : Option DiskState) × MakesUnitStore opens (inputs words bus disks disks opened left) e
job_lacking opens words bus disks left row e none lacks ends =
    let i = inputs words bus disks disks None left in (
      None,
      makes_row opens i e (EndsInRow-more (λ other is. subst (ComesOfMake opens i) (sym is) (lacking opens i row (refl, refl, none) lacks)) ends),
    )

-- the row of a disk that was opened
over : (opens : List ℕ → DiskState → Type 0) (i : MakeInputs) (bus : NamedBus) (disk end : DiskState) → AsksMake i.words → ReadsNodeBus i.bus bus
    → rows.OpensStoreDisk opens i disk end → (row : Row) → ComesOverDisk bus disk end row → ComesOfMake opens i row
over opens i bus disk end asks reads opened row (of_made stands) = rows.made bus disk end asks reads opened stands
over opens i bus disk end asks reads opened row (of_unmade cause _ good un is) = unmade bus disk end cause row asks reads good opened un is

pub job_done : (opens : List ℕ → DiskState → Type 0) (words : List (List ℕ)) (source : Reading) (before after : List (List ℕ)) (file : List ℕ)
    (bus : NamedBus) (left : Option DiskState) (e : Ending) → file ≡ rows.make_file words → AsksMake words → ReadsNodeBus source bus
    → EndsMake opens before after file bus left e → (opened : Option DiskState) × MakesUnitStore opens (inputs words source before after opened left) e
job_done opens words source before after file bus left e is asks reads (no_disk same none ends) =
    let i = inputs words source before after None left in (
      None,
      makes_row opens i e
          (EndsInRow-more (λ row memory. subst (ComesOfMake opens i) (sym memory) (no_room bus asks reads (same, refl, none))) ends),
    )
job_done opens words source before after file bus left e is asks reads (over_disk disk end named once ended ends) =
    let i = inputs words source before after (Some disk) left in (
      Some disk,
      makes_row opens i e
          (EndsInRow-more (over opens i bus disk end asks reads (record {
            named = subst (λ (f : List ℕ). rows.IsFileDisk opens f disk) is named;
            opened = refl;
            once = subst (λ (f : List ℕ). rows.AddsFile before f after) is once;
            left = ended;
          })) ends),
    )

-- ---- the first phase

pub make_words_refused : (words : List (List ℕ)) (bus : Reading) (row : Row) → asks_over_bus (codes "make") words ≡ false → IsUnread bus
    → row ≡ row_of 2 make_usage → LacksMakeJob words bus row
make_words_refused words bus row none unread is = subst (LacksMakeJob words bus) (sym is) (malformed none unread)

pub make_node_lacking : (words : List (List ℕ)) (bus : Reading) (cause row : Row) → AsksMake words → LacksNodeBus bus cause → row ≡ cause
    → LacksMakeJob words bus row
make_node_lacking words bus cause row asks lacks is = subst (LacksMakeJob words bus) (sym is) (lacks_node cause asks lacks)

pub make_room_lacking : (words : List (List ℕ)) (bus : Reading) (found : NamedBus) (row : Row) → AsksMake words → ReadsNodeBus bus found
    → row ≡ memory_row → LacksMakeJob words bus row
make_room_lacking words bus found row asks reads is = subst (LacksMakeJob words bus) (sym is) (lacks_room found asks reads)

-- the text of the store that is made
pub line_made : (bus : NamedBus) (kind : Kind) (version : Version) (cells : ℕ) (config : Config) (old text : List ℕ) → old ≡ [] → kind ≡ bus.kind
    → version ≡ bus.version → cells ≡ cells_in config → config ≡ node_config bus
    → text ≡ old ++ written (store_line_words (codes "made") kind version cells) → text ≡ made_text bus
line_made bus kind version cells config old text none kind_is version_is cells_are config_is is =
    is ∙ ap (λ (l : List ℕ). l ++ written (store_line_words (codes "made") kind version cells)) none
    ∙ ap (λ (k : Kind). written (store_line_words (codes "made") k version cells)) kind_is
    ∙ ap (λ (v : Version). written (store_line_words (codes "made") bus.kind v cells)) version_is
    ∙ ap (λ (n : ℕ). written (store_line_words (codes "made") bus.kind bus.version n)) (cells_are ∙ ap cells_in config_is)

-- ---- over a disk

module _ (bus : NamedBus) (kind : Kind) (version : Version) (config : Config) (kind_is : kind ≡ bus.kind) (version_is : version ≡ bus.version)
    (config_is : config ≡ node_config bus) (disk after : DiskState) where
  pub row_made : (shown items : List ℕ) → shown ≡ items → items ≡ made_text bus → StoreMade kind version config disk after
      → ComesOverDisk bus disk after (row_of 0 shown)
  row_made shown items is text stands =
      subst (λ (t : List ℕ). ComesOverDisk bus disk after (row_of 0 t)) (sym (is ∙ text))
      (of_made (subst (λ (c : Config). StoreMade bus.kind bus.version c disk after) config_is
      (subst (λ (v : Version). StoreMade bus.kind v config disk after) version_is
      (subst (λ (k : Kind). StoreMade k version config disk after) kind_is stands))))

  pub row_unmade : (cause : MakeFault) (row : Row) → IsConfig config → StoreUnmade kind version config disk after cause → IsMakeRow cause row
      → ComesOverDisk bus disk after row
  row_unmade cause row good un is =
      of_unmade cause row (subst IsConfig config_is good) (subst (λ (c : Config). StoreUnmade bus.kind bus.version c disk after cause) config_is
      (subst (λ (v : Version). StoreUnmade bus.kind v config disk after cause) version_is
      (subst (λ (k : Kind). StoreUnmade k version config disk after cause) kind_is un))) is

-- the configuration of the one node
pub one_config : (nodes all : List NodeLine) (n : NodeLine) → nodes ≡ all → length all ≡ 1 → n ≡ get_or nodes 0 n → n.config ≡ (node_line_at all 0).config
one_config nodes [] n same one is = absurd (let no : ⊥ = omega (arith, one) in no)
one_config nodes (x ∷ xs) n same one is = ap (λ (l : NodeLine). l.config) (is ∙ ap (λ (ns : List NodeLine). get_or ns 0 n) same)

pub one_is_config : (bus : NamedBus) (config : Config) → IsNamedBus bus → config ≡ node_config bus → IsConfig config
one_is_config bus config is config_is = subst IsConfig (sym config_is) (is.are_nodes 0 no_node (let some = is.least in omega (arith, some))).config

-- ---- the row of a fault

-- as slot_commands tells a store's fault: 9 for each but memory
pub told_fault_row : (cause : StoreFault) (row : Row) → TellsStoreFault cause row → cause ≢ store.DiskFailed → IsMakeRow (fault.Store cause) row
told_fault_row store.DiskFailed row is not = absurd (not refl)
told_fault_row store.NotFormatted row is not = inl is
told_fault_row (store.Damaged place) row (inl is) not = inl is
told_fault_row (store.Damaged place) row (inr memory) not = inr (tt, memory)
told_fault_row store.TooSmall row is not = inl is
told_fault_row store.Memory row is not = inl is
