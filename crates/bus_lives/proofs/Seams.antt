-- What a life leaves: its disks stand for what its nodes may keep, so that each node is started over them
use Rattle.std.specs.Prelude.{◌≡◌, ◌⊎◌, ℕ, ◌<◌, Option, None, Some, List, [], ◌∷◌, length, option_map, get_or, All}
use Rattle.std.proofs.Common.{refl, sym, ◌∙◌, ap, subst, arith, inl, inr}
use Rattle.std.proofs.lemmas.List.{length-map, get_or-map}
use Rattle.std.proofs.lemmas.List.Elements.{All-head}
use Rattle.std.proofs.lemmas.Option.{same_Some, none-some}
use Rattle.cut_disk.specs.State.{DiskState, Told}
use Rattle.cut_disk.specs.Images.{Image, firm}
use Rattle.cut_disk.proofs.CallerLemmas.{image_is_read}
use Rattle.cell_store.specs.declared.kinds.Kind.{Kind}
use Rattle.cell_store.specs.declared.kinds.Layout.{Layout}
use Rattle.cell_store.specs.declared.kinds.Version.{Version}
use Rattle.cell_store.specs.declared.kinds.Version.TheVariants.{One, Two}
use Rattle.cell_store.specs.Layout.{layout}
use Rattle.cell_store.specs.Store.{HasHeader, Stands}
use Rattle.cell_store.specs.Moving.{CountsAs, StandsAsCounted}
use Rattle.cell_store.proofs.CallerLemmas.{header-not_blank}
use Rattle.any_cells.specs.declared.looking.Found.{Found}
use Rattle.any_cells.specs.declared.looking.Found.TheVariants.{Blank, Standing, Older, Foreign}
use Rattle.any_cells.specs.Looking.{IsBlank, IsFound}
use Rattle.any_cells.proofs.CallerLemmas.{found-once}
use Rattle.freshness_routes.specs.Config.{Config, IsConfig}
use Rattle.bus_machine.specs.Node.{Node, Kept, Change, changed, powered}
use Rattle.bus_machine.specs.Sound.{Sound}
use Rattle.bus_machine.specs.Steps.{PowersUp}
use Rattle.bus_machine.specs.Bus.{World, First, node_at, no_config, SoundBus}
use Rattle.bus_config.specs.declared.node_lines.NodeLine.{NodeLine}
use Rattle.bus_config.specs.Buses.{NamedBus, IsNodeLine, IsNamedBus, configs_of}
use Rattle.bus_laws.proofs.CallerLemmas.{pending_forward, first_at, Grows-run, Sound-run, as_many_run}
use Rattle.secoc_node.specs.Cells.{CellsOf}
use Rattle.secoc_node.specs.Fits.{StandsForNode, FitsNode}
use Rattle.secoc_node.proofs.CallerLemmas.{length-CellsOf, kept_of_sound, kept_changed, kept_once, FoundCells}
use Rattle.bus_world.proofs.CallerLemmas.{standing_not_blank, standing_not_older, standing_not_foreign, older_not_blank, older_not_foreign, blank_not_foreign, older_one, counted_once, no_disk, no_line, start_leaves}
use Rattle.bus_world.specs.declared.start.Start.TheVariants.{Attach}
use Rattle.bus_world.specs.TakingUp.{cells_in, HasNodeStore, KeptOn, FailedOver, LeavesDisk}
use Rattle.bus_world.specs.Starts.{StartsOver}
use Rattle.bus_world.specs.StartRows.{CanStart}
use Rattle.bus_lives.specs.Lives.{Life, IsLife, LeftToNext, NoNewer, IsFirstLife, LeavesNodes, OutlastsRefusals}

-- ---- what is found if a list of cells stands in the bus's version

pub one_not_two : One ≡ Two → ⊥
one_not_two e = cc

-- if bytes are found to be anything but foreign, they have no newer store than the bus
no_newer_found : (kind : Kind) (version : Version) (n : ℕ) (x : List ℕ) (found : Found) → (found ≡ Foreign → ⊥)
    → IsFound kind version n x found → NoNewer kind version n x
no_newer_found kind One n x found never is = elim is [
  | inl foreign ↦ absurd (never foreign.1)
  | inr more ↦ more.0
]
no_newer_found kind Two n x found never is = tt

-- so it is if a node keeps something that is started over them
pub kept_no_newer : (kind : Kind) (version : Version) (config : Config) (x : List ℕ) (kept : Kept)
    → KeptOn Attach kind version config x kept → NoNewer kind version (cells_in config) x
kept_no_newer kind version config x kept k = elim k.kept_as [
  | inl blank ↦ no_newer_found kind version (cells_in config) x Blank blank_not_foreign blank.0
  | inr stood ↦ elim stood.0 [
    | inl standing ↦ no_newer_found kind version (cells_in config) x Standing standing_not_foreign standing
    | inr older ↦ no_newer_found kind version (cells_in config) x Older older_not_foreign older
  ]
]

one_not_blank : (n : ℕ) (x : List ℕ) (kind : Kind) → HasHeader (layout kind One) n x → IsBlank One x → ⊥
one_not_blank n x kind head blank = header-not_blank (layout kind One) n (sym head ∙ blank)

sized_head : (kind : Kind) (version : Version) (n : ℕ) (x : List ℕ) (cells : List (List ℕ)) → length cells ≡ n
    → Stands (layout kind version) x cells → HasHeader (layout kind version) n x
sized_head kind version n x cells size stands =
    subst (λ (k : ℕ). HasHeader (layout kind version) k x) size stands.head

-- a list that stands is found to stand, if there is no newer store
found_standing : (kind : Kind) (version : Version) (n : ℕ) (x : List ℕ) (cells : List (List ℕ)) → length cells ≡ n
    → Stands (layout kind version) x cells → NoNewer kind version n x → IsFound kind version n x Standing
found_standing kind One n x cells size stands none =
    let head : HasHeader (layout kind One) n x = sized_head kind One n x cells size stands in
    inr (none, inr (one_not_blank n x kind head, inl (head, refl)))
found_standing kind Two n x cells size stands none = inl (sized_head kind Two n x cells size stands, refl)

pub as_counted : (kind : Kind) (version : Version) (n : ℕ) (x : List ℕ) (cells : List (List ℕ)) → length cells ≡ n
    → Stands (layout kind version) x cells → NoNewer kind version n x → StandsAsCounted kind cells x
as_counted kind One n x cells size stands none = record {
  version = One;
  counting = λ newer. none (subst (λ (k : ℕ). HasHeader (layout kind Two) k x) size newer);
  stands = stands;
}
as_counted kind Two n x cells size stands none = record { version = Two; counting = stands.head; stands = stands }

-- a store of version 1 without a newer one is found to be older by a bus in version 2
pub found_older : (kind : Kind) (n : ℕ) (x : List ℕ) (cells : List (List ℕ)) → length cells ≡ n
    → Stands (layout kind One) x cells → NoNewer kind One n x → IsFound kind Two n x Older
found_older kind n x cells size stands none = inr (none, inl (sized_head kind One n x cells size stands, refl))

-- a list that stands in the version that counts is found by a bus in each version that has no newer store
has_store_in : (kind : Kind) (next version : Version) (n : ℕ) (x : List ℕ) (cells : List (List ℕ)) → length cells ≡ n
    → CountsAs kind (length cells) x version → Stands (layout kind version) x cells → NoNewer kind next n x
    → HasNodeStore kind next n x
has_store_in kind One One n x cells size counts stands none = inl (found_standing kind One n x cells size stands none)
has_store_in kind Two Two n x cells size counts stands none = inl (found_standing kind Two n x cells size stands none)
has_store_in kind One Two n x cells size counts stands none =
    absurd (none (sized_head kind Two n x cells size stands))
has_store_in kind Two One n x cells size counts stands none =
    inr (found_older kind n x cells size stands
    (λ newer. counts (subst (λ (k : ℕ). HasHeader (layout kind Two) k x) (sym size) newer)))

has_store : (kind : Kind) (next : Version) (n : ℕ) (x : List ℕ) (cells : List (List ℕ)) → length cells ≡ n
    → StandsAsCounted kind cells x → NoNewer kind next n x → HasNodeStore kind next n x
has_store kind next n x cells size counted none =
    has_store_in kind next counted.version n x cells size counted.counting counted.stands none

-- ---- what isn't found if a header stands

-- blank bytes have no header of a store, of either version
blank_headless : (kind : Kind) (version head : Version) (n : ℕ) (x : List ℕ) → IsFound kind version n x Blank
    → HasHeader (layout kind head) n x → ⊥
blank_headless kind One One n x found has = elim found [
  | inl foreign ↦ blank_not_foreign foreign.1
  | inr more ↦ elim more.1 [
    | inl blank ↦ one_not_blank n x kind has blank.0
    | inr rest ↦ elim rest.1 [
      | inl this ↦ standing_not_blank (sym this.1)
      | inr none ↦ blank_not_foreign none.1
    ]
  ]
]
blank_headless kind One Two n x found has = elim found [
  | inl foreign ↦ blank_not_foreign foreign.1
  | inr more ↦ more.0 has
]
blank_headless kind Two One n x found has = elim found [
  | inl standing ↦ standing_not_blank (sym standing.1)
  | inr more ↦ elim more.1 [
    | inl older ↦ older_not_blank (sym older.1)
    | inr rest ↦ rest.0 has
  ]
]
blank_headless kind Two Two n x found has = elim found [
  | inl standing ↦ standing_not_blank (sym standing.1)
  | inr more ↦ more.0 has
]

pub counted_not_blank : (kind : Kind) (version : Version) (n : ℕ) (x : List ℕ) (cells : List (List ℕ))
    → length cells ≡ n → StandsAsCounted kind cells x → IsFound kind version n x Blank → ⊥
counted_not_blank kind version n x cells size counted blank =
    blank_headless kind version counted.version n x blank
    (sized_head kind counted.version n x cells size counted.stands)

-- if the header of a bus's own version stands, nothing older is found
older_headless : (kind : Kind) (version : Version) (n : ℕ) (x : List ℕ) → IsFound kind version n x Older
    → HasHeader (layout kind version) n x → ⊥
older_headless kind One n x found has = elim found [
  | inl foreign ↦ older_not_foreign foreign.1
  | inr more ↦ elim more.1 [
    | inl blank ↦ older_not_blank blank.1
    | inr rest ↦ elim rest.1 [
      | inl this ↦ standing_not_older (sym this.1)
      | inr none ↦ older_not_foreign none.1
    ]
  ]
]
older_headless kind Two n x found has = (older_one kind Two n x found).0 has

-- ---- one node

mapped : {A B : Type 0} (f : A → B) (o : Option A) (y : B) → option_map f o ≡ Some y → (x : A) × (o ≡ Some x) × (y ≡ f x)
mapped f None y is = absurd (none-some y is)
mapped f (Some x) y is = (x, refl, same_Some y (f x) (sym is))

-- bytes that stand for a node stand for cells that may be found of it
pub may_find : (layout : Layout) (node : Node) (x : List ℕ) → (stood : StandsForNode layout node x) → FoundCells node stood.cells
may_find layout node x stood = elim stood.kept [
  | inl as_before ↦ inl as_before
  | inr made ↦ inr (mapped (λ (change : Change). CellsOf node.config (changed change node.kept)) node.pending stood.cells made)
]

pub found_size : (node : Node) (cells : List (List ℕ)) → Sound node → FoundCells node cells → length cells ≡ cells_in node.config
found_size node cells s (inl as_before) = ap (λ (l : List (List ℕ)). length l) as_before ∙ length-CellsOf node.config node.kept (kept_of_sound node s)
found_size node cells s (inr made) =
    ap (λ (l : List (List ℕ)). length l) made.2
    ∙ length-CellsOf node.config (changed made.0 node.kept) (kept_changed node made.0 s (pending_forward node made.0 s made.1))

-- what is kept on bytes that stand for these cells has them
kept_cells : (kind : Kind) (next : Version) (config : Config) (x : List ℕ) (cells : List (List ℕ)) (kept : Kept)
    → length cells ≡ cells_in config → StandsAsCounted kind cells x
    → KeptOn Attach kind next config x kept → CellsOf config kept ≡ cells
kept_cells kind next config x cells kept size counted k = elim k.kept_as [
  | inl blank ↦ absurd (counted_not_blank kind next (cells_in config) x cells size counted blank.0)
  | inr stood ↦
      counted_once kind (cells_in config) x (CellsOf config kept) cells (length-CellsOf config kept k.is_kept) size
      stood.1 counted
]

-- the same for cells that stand in the version of the bus
pub kept_stands : (kind : Kind) (version : Version) (config : Config) (x : List ℕ) (cells : List (List ℕ)) (kept : Kept)
    → length cells ≡ cells_in config → Stands (layout kind version) x cells
    → KeptOn Attach kind version config x kept → CellsOf config kept ≡ cells
kept_stands kind version config x cells kept size stands k =
    kept_cells kind version config x cells kept size
    (as_counted kind version (cells_in config) x cells size stands (kept_no_newer kind version config x kept k)) k

-- and so a node is started over bytes that stand for what is found of a node
pub can_start : (kind : Kind) (next : Version) (node : Node) (cells : List (List ℕ)) (x : List ℕ) → Sound node
    → FoundCells node cells → StandsAsCounted kind cells x → NoNewer kind next (cells_in node.config) x
    → CanStart Attach kind next node.config x
can_start kind next node cells x s may counted none =
    let has = has_store kind next (cells_in node.config) x cells (found_size node cells s may) counted none in
    elim may [
      | inl as_before ↦ (
        node.kept,
        record {
          is_kept = kept_of_sound node s;
          kept_as = inr (has, subst (λ (list : List (List ℕ)). StandsAsCounted kind list x) as_before counted);
        },
      )
      | inr made ↦ (
        changed made.0 node.kept,
        record {
          is_kept = kept_changed node made.0 s (pending_forward node made.0 s made.1);
          kept_as = inr (has, subst (λ (list : List (List ℕ)). StandsAsCounted kind list x) made.2 counted);
        },
      )
    ]

-- the node of the next life powered up
found_powers : (node after : Node) (kept : Kept) (cells : List (List ℕ)) (kind : Kind) (version : Version) (x : List ℕ) → Sound node → KeptOn Attach kind version node.config x kept
    → after ≡ powered node.config kept → CellsOf node.config kept ≡ cells → FoundCells node cells → PowersUp node after
found_powers node after kept cells kind version x s k is same (inl as_before) =
    inl (is ∙ ap (powered node.config) (kept_once node.config kept node.kept s.config k.is_kept (kept_of_sound node s) (same ∙ as_before)))
found_powers node after kept cells kind version x s k is same (inr made) =
    let mine = kept_changed node made.0 s (pending_forward node made.0 s made.1) in
    inr (made.0, made.1, is ∙ ap (powered node.config) (kept_once node.config kept (changed made.0 node.kept) s.config k.is_kept mine (same ∙ made.2)))

-- a node that is started over bytes that stand for what is found of it
pub node_powers : (kind : Kind) (next : Version) (node after : Node) (cells : List (List ℕ)) (x : List ℕ) (kept : Kept)
    → Sound node → FoundCells node cells → StandsAsCounted kind cells x
    → KeptOn Attach kind next node.config x kept → after ≡ powered node.config kept → PowersUp node after
node_powers kind next node after cells x kept s may counted k is =
    found_powers node after kept cells kind next x s k is
    (kept_cells kind next node.config x cells kept (found_size node cells s may) counted k) may

-- ---- the bus

-- the configuration of the one node of a bus
pub config_of_node : (bus : NamedBus) (node : NodeLine) → IsNamedBus bus → bus.nodes ≡ node ∷ [] → IsConfig node.config
config_of_node bus node is one =
    (All-head IsNodeLine node [] (subst (λ (nodes : List NodeLine). All IsNodeLine nodes) one is.are_nodes)).config

-- each node has the configuration of its line
abbrev pub HasConfigs : NamedBus → World → Type 0
HasConfigs bus world = (i : ℕ) (l : NodeLine) → i < length bus.nodes → (node_at world i).config ≡ (get_or bus.nodes i l).config

pub over_configs : (bus : NamedBus) (before : List DiskState) (world : World) → StartsOver bus before world → HasConfigs bus world
over_configs bus before world starts = λ i l inside. ap (λ (n : Node). n.config) (starts.nodes i l no_disk inside).just_powered

first_configs : (bus : NamedBus) (world : World) → world ≡ First (configs_of bus) → HasConfigs bus world
first_configs bus world is = λ i l inside.
    ap (λ (w : World). (node_at w i).config) is
    ∙ ap (λ (n : Node). n.config) (first_at (configs_of bus) i (omega (arith, inside, length-map bus.nodes (λ (x : NodeLine). x.config))))
    ∙ get_or-map (λ (x : NodeLine). x.config) bus.nodes i l no_config inside

pub life_configs : (life : Life) → IsFirstLife life → HasConfigs life.bus life.first
life_configs life (inl first) = first_configs life.bus life.first first
life_configs life (inr over) = over_configs life.bus life.before life.first over

-- what the next life reads is an image of what was left
pub record FindsImage (told : Told) (found : DiskState) : Type 0 where
  pub now : Told
  pub tells : found.told ≡ Some now
  pub image : Image told now.bytes

pub finds_image : (left found : DiskState) (told : Told) → left.told ≡ Some told → LeftToNext left found → FindsImage told found
finds_image left found told is (inl same) = record { now = told; tells = same ∙ is; image = image_is_read told }
finds_image left found told is (inr cuts) =
    let l = cuts told is in
    record { now = firm l.left; tells = l.now; image = l.image }

-- ---- what a life leaves

-- if a version has no newer store, the same one and version 2 have none
none_in_next : (kind : Kind) (version next : Version) (n : ℕ) (x : List ℕ) → (next ≡ version) ⊎ (next ≡ Two)
    → NoNewer kind version n x → NoNewer kind next n x
none_in_next kind version next n x (inl same) none = subst (λ (v : Version). NoNewer kind v n x) (sym same) none
none_in_next kind version next n x (inr two) none = subst (λ (v : Version). NoNewer kind v n x) (sym two) tt

-- what a disk that failed in a start leaves of a store of the start's own version
failed_stays : (kind : Kind) (version : Version) (n : ℕ) (before after : DiskState) (t : Told)
    → HasHeader (layout kind version) n t.bytes → FailedOver kind version n before after t
    → (found : Found) → IsFound kind version n t.bytes found → after.told ≡ Some t
failed_stays kind version n before after t has failed Blank is =
    absurd (blank_headless kind version version n t.bytes is has)
failed_stays kind version n before after t has failed Standing is = failed.standing is
failed_stays kind version n before after t has failed Older is =
    absurd (older_headless kind version n t.bytes is has)
failed_stays kind version n before after t has failed Foreign is = failed.foreign is

-- a start leaves the bytes as they were in which a store of its own version stands, whatever stands beside it
own_stays : (kind : Kind) (version : Version) (config : Config) (before after : DiskState) (t : Told)
    → before.told ≡ Some t → HasHeader (layout kind version) (cells_in config) t.bytes
    → LeavesDisk Attach kind version config before after → after.told ≡ before.told
own_stays kind version config before after t told has leaves = elim (leaves t told) [
  | inl taken ↦ elim taken.0 [
    | inl same ↦ same ∙ sym told
    | inr (inl blank) ↦ absurd (blank_headless kind version version (cells_in config) t.bytes blank.0 has)
    | inr (inr older) ↦ absurd (older_headless kind version (cells_in config) t.bytes older.0 has)
  ]
  | inr failed ↦
      let once = found-once kind version (cells_in config) t.bytes in
      failed_stays kind version (cells_in config) before after t has failed.failed once.0 once.1 ∙ sym told
]

-- the bytes x stand, in the version of the life, for cells that its node i may keep
pub record OwnStands (life : Life) (i : ℕ) (x : List ℕ) : Type 0 where
  pub cells : List (List ℕ)
  pub may : FoundCells (node_at life.last i) cells
  pub size : length cells ≡ cells_in (node_at life.last i).config
  pub stands : Stands (layout life.bus.kind life.bus.version) x cells

module _ (life : Life) (has : HasConfigs life.bus life.first) (run : IsLife life) where
  sound_last : SoundBus life.last
  sound_last = Sound-run life.first life.moments life.last run.begins.is_first.sound run.is_a_run

  pub as_many_last : length life.last.nodes ≡ length life.bus.nodes
  as_many_last = as_many_run life.first life.moments life.last run.is_a_run ∙ run.begins.count

  pub sound_at : (i : ℕ) → i < length life.bus.nodes → Sound (node_at life.last i)
  sound_at i inside = sound_last i (omega (arith, inside, as_many_last))

  pub config_last : (i : ℕ) (l : NodeLine) → i < length life.bus.nodes
      → (node_at life.last i).config ≡ (get_or life.bus.nodes i l).config
  config_last i l inside =
      (Grows-run life.first life.moments life.last i run.begins.is_first.sound (omega (arith, inside, run.begins.count))
      run.is_a_run).config_is
      ∙ has i l inside

  -- it fits its node
  fits_last : (i : ℕ) (d : DiskState) (t : Told) → i < length life.bus.nodes → (get_or life.after i d).told ≡ Some t
      → FitsNode (layout life.bus.kind life.bus.version) (node_at life.last i) t
  fits_last i d t inside told =
      let fit = run.fit i d inside in
      subst (λ (u : Told). FitsNode (layout life.bus.kind life.bus.version) (node_at life.last i) u)
      (same_Some fit.now t (sym fit.told ∙ told)) fit.fit

  -- whatever a power cut may leave of it stands for cells that the node may keep
  pub own_stands : (i : ℕ) (d : DiskState) (t : Told) (x : List ℕ) → i < length life.bus.nodes
      → (get_or life.after i d).told ≡ Some t → Image t x → OwnStands life i x
  own_stands i d t x inside told image =
      let found = (fits_last i d t inside told).images x image in
      let may : FoundCells (node_at life.last i) found.cells =
      may_find (layout life.bus.kind life.bus.version) (node_at life.last i) x found in
      record {
        cells = found.cells;
        may = may;
        size = found_size (node_at life.last i) found.cells (sound_at i inside) may;
        stands = found.stands;
      }

  pub leaves_nodes : LeavesNodes life
  leaves_nodes = λ i l d t x next inside told image none goes.
      let node : Node = node_at life.last i in
      let same : (get_or life.bus.nodes i l).config ≡ node.config = sym (config_last i l inside) in
      let own = own_stands i d t x inside told image in
      let alone : NoNewer life.bus.kind life.bus.version (cells_in node.config) x =
      subst (λ (c : Config). NoNewer life.bus.kind life.bus.version (cells_in c) x) same none in
      subst (λ (c : Config). CanStart Attach life.bus.kind next c x) (sym same)
      (can_start life.bus.kind next node own.cells x (sound_at i inside) own.may
      (as_counted life.bus.kind life.bus.version (cells_in node.config) x own.cells own.size own.stands alone)
      (none_in_next life.bus.kind life.bus.version next (cells_in node.config) x goes alone))

  -- a start in the version of the life leaves the bytes of its disk as they were
  pub own_start_stays : (i : ℕ) (d before after : DiskState) → i < length life.bus.nodes
      → LeftToNext (get_or life.after i d) before
      → LeavesDisk Attach life.bus.kind life.bus.version (node_at life.last i).config before after
      → after.told ≡ before.told
  own_start_stays i d before after inside left leaves =
      let fit = run.fit i d inside in
      let found = finds_image (get_or life.after i d) before fit.now fit.told left in
      let own = own_stands i d fit.now found.now.bytes inside fit.told found.image in
      own_stays life.bus.kind life.bus.version (node_at life.last i).config before after found.now found.tells
      (sized_head life.bus.kind life.bus.version (cells_in (node_at life.last i).config) found.now.bytes own.cells own.size
      own.stands) leaves

  pub outlasts_refusals : OutlastsRefusals life
  outlasts_refusals = λ before after fault left refused i d inside.
      let leaves = (start_leaves Attach life.bus before after fault refused).leaves i no_line d inside in
      own_start_stays i d (get_or before i d) (get_or after i d) inside (left i d inside)
      (subst
      (λ (c : Config). LeavesDisk Attach life.bus.kind life.bus.version c (get_or before i d) (get_or after i d))
      (sym (config_last i no_line inside)) leaves)
