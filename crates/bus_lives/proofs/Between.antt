-- What is found after starts between two lives that weren't finished, and that each node of the next life powers up
use Rattle.std.specs.Prelude.{◌≡◌, ◌⊎◌, ℕ, ◌-◌, ◌<◌, Option, Some, List, [], ◌∷◌, length, get_or}
use Rattle.std.proofs.Common.{refl, sym, ◌∙◌, ap, subst, arith, inl, inr}
use Rattle.std.proofs.lemmas.Option.{same_Some}
use Rattle.cut_disk.specs.State.{DiskState, Told}
use Rattle.cut_disk.specs.Images.{Image, EachImage, firm, LeavesImage, CutsTo}
use Rattle.cut_disk.proofs.CallerLemmas.{image_is_read, image_of_firm}
use Rattle.cell_store.specs.declared.kinds.Kind.{Kind}
use Rattle.cell_store.specs.declared.kinds.Version.{Version}
use Rattle.cell_store.specs.declared.kinds.Version.TheVariants.{One, Two}
use Rattle.cell_store.specs.declared.faults.Reread.TheVariants as reread
use Rattle.cell_store.specs.Layout.{layout}
use Rattle.cell_store.specs.Store.{Stands}
use Rattle.cell_store.specs.Moving.{StandsAsCounted}
use Rattle.any_cells.specs.declared.looking.Found.{Found}
use Rattle.any_cells.specs.declared.looking.Found.TheVariants.{Blank, Standing, Older, Foreign}
use Rattle.any_cells.specs.Looking.{IsFound}
use Rattle.any_cells.specs.Migrating.{StandsInTwo, Migrated}
use Rattle.any_cells.proofs.CallerLemmas.{found-once}
use Rattle.freshness_routes.specs.Config.{Config}
use Rattle.bus_machine.specs.Node.{Node, Kept, powered}
use Rattle.bus_machine.specs.Steps.{PowersUp}
use Rattle.bus_machine.specs.Bus.{node_at}
use Rattle.bus_config.specs.declared.node_lines.NodeLine.{NodeLine}
use Rattle.bus_config.specs.Buses.{NamedBus}
use Rattle.secoc_node.proofs.CallerLemmas.{FoundCells, told_before}
use Rattle.bus_world.proofs.CallerLemmas.{counted_once, no_disk, no_line, start_leaves}
use Rattle.bus_world.specs.declared.start.Start.TheVariants.{Attach}
use Rattle.bus_world.specs.declared.start.StartFault.{StartFault}
use Rattle.bus_world.specs.declared.start.StartFault.TheVariants as start_fault
use Rattle.bus_world.specs.TakingUp.{cells_in, KeptOn, FailedOver, LeavesDisk}
use Rattle.bus_world.specs.Starts.{NotStarted, OfNumber}
use Rattle.bus_world.specs.StartRows.{CanStart, LeavesEach}
use Rattle.bus_lives.specs.Lives.{Life, IsLife, LeftToNext, NoNewer, NoneNewer, UnfinishedStart, WasInTwo, GoesOnAs}
use Rattle.bus_lives.specs.Lives.{IsUnfinished, LeftBehindStarts, Follows, StartsLeaveNodes, BlamesNoBytes}
use Rattle.bus_lives.specs.Lives.{NextBlamesNoBytes}
use Rattle.bus_lives.proofs.Stages.{Restarts}
use Rattle.bus_lives.proofs.Seams.{HasConfigs, one_not_two, as_counted, found_older, counted_not_blank, found_size}
use Rattle.bus_lives.proofs.Seams.{kept_no_newer, can_start, node_powers, finds_image, as_many_last, sound_at}
use Rattle.bus_lives.proofs.Seams.{config_last, own_stands, own_start_stays}

-- ---- what is left of one disk

-- what a power cut may leave of what one may have left
cut_twice : (t : Told) (mid new : Option Told) → LeavesImage t mid → CutsTo mid new → LeavesImage t new
cut_twice t mid new one cuts =
    let two = cuts (firm one.left) one.now in
    let same : two.left ≡ one.left = image_of_firm two.image in
    record { left = one.left; image = one.image; now = two.now ∙ ap (λ (b : List ℕ). Some (firm b)) same }

pub left_joins : (a b c : DiskState) → LeftToNext a b → LeftToNext b c → LeftToNext a c
left_joins a b c (inl same) (inl again) = inl (again ∙ same)
left_joins a b c (inl same) (inr cuts) = inr (subst (λ (o : Option Told). CutsTo o c.told) same cuts)
left_joins a b c (inr cuts) (inl again) = inr (subst (λ (o : Option Told). CutsTo a.told o) (sym again) cuts)
left_joins a b c (inr cuts) (inr more) = inr (λ t told. cut_twice t b.told c.told (cuts t told) more)

-- of bytes of which none is loose there is one image
firm_images : (told : Option Told) (b : List ℕ) (P : List ℕ → Type 0) → told ≡ Some (firm b) → P b → EachImage told P
firm_images told b P is holds = λ t now x image.
    let firm_is : t ≡ firm b = same_Some t (firm b) (sym now ∙ is) in
    let same : x ≡ b = image_of_firm (subst (λ (u : Told). Image u x) firm_is image) in
    subst P (sym same) holds

-- the disk tells its bytes. Whatever a power cut may leave of them stands, in the version that counts, for one list of
-- cells, which its node may keep
record StandsFound (kind : Kind) (node : Node) (disk : DiskState) : Type 0 where
  pub now : Told
  pub tells : disk.told ≡ Some now
  pub cells : List (List ℕ)
  pub may : FoundCells node cells
  pub images : EachImage disk.told (StandsAsCounted kind cells)

next_found : (kind : Kind) (node : Node) (left found : DiskState) → LeftToNext left found
    → StandsFound kind node left → StandsFound kind node found
next_found kind node left found (inl same) s = record {
  now = s.now;
  tells = same ∙ s.tells;
  cells = s.cells;
  may = s.may;
  images = subst (λ (o : Option Told). EachImage o (StandsAsCounted kind s.cells)) (sym same) s.images;
}
next_found kind node left found (inr cuts) s =
    let cut = cuts s.now s.tells in
    record {
      now = firm cut.left;
      tells = cut.now;
      cells = s.cells;
      may = s.may;
      images =
          firm_images found.told cut.left (StandsAsCounted kind s.cells) cut.now
          (s.images s.now s.tells cut.left cut.image);
    }

-- ---- what a start leaves of it

-- a store that was moved stands in version 2 for the same cells
moved_images : (kind : Kind) (n : ℕ) (t : Told) (new : Option Told) (cells : List (List ℕ)) → length cells ≡ n
    → StandsAsCounted kind cells t.bytes → t ≡ firm t.bytes → Migrated kind n t new
    → EachImage new (StandsAsCounted kind cells)
moved_images kind n t new cells size counted firm_is m = λ u now x image.
    let same : m.cells ≡ cells = counted_once kind n t.bytes m.cells cells m.count size m.moved.before counted in
    let two : StandsInTwo kind cells x =
    subst (λ (list : List (List ℕ)). StandsInTwo kind list x) same (m.images firm_is u now x image) in
    record { version = Two; counting = two.counting; stands = two.stands }

-- and if its disk failed, in the version that counts
failed_images : (kind : Kind) (version : Version) (n : ℕ) (before after : DiskState) (t : Told)
    (cells : List (List ℕ)) → length cells ≡ n → before.told ≡ Some t
    → EachImage before.told (StandsAsCounted kind cells)
    → (IsFound kind version n t.bytes Older → t ≡ firm t.bytes) → FailedOver kind version n before after t
    → (found : Found) → IsFound kind version n t.bytes found → EachImage after.told (StandsAsCounted kind cells)
failed_images kind version n before after t cells size told images older_firm failed Blank is =
    absurd (counted_not_blank kind version n t.bytes cells size (images t told t.bytes (image_is_read t)) is)
failed_images kind version n before after t cells size told images older_firm failed Standing is =
    subst (λ (o : Option Told). EachImage o (StandsAsCounted kind cells)) (told ∙ sym (failed.standing is)) images
failed_images kind version n before after t cells size told images older_firm failed Older is =
    failed.older is t.bytes cells (told ∙ ap Some (older_firm is)) size (images t told t.bytes (image_is_read t))
failed_images kind version n before after t cells size told images older_firm failed Foreign is =
    subst (λ (o : Option Told). EachImage o (StandsAsCounted kind cells)) (told ∙ sym (failed.foreign is)) images

-- a start of either version leaves each image standing for the same cells
start_leaves_images : (kind : Kind) (version : Version) (config : Config) (before after : DiskState) (t : Told)
    (cells : List (List ℕ)) → length cells ≡ cells_in config → before.told ≡ Some t
    → EachImage before.told (StandsAsCounted kind cells)
    → (IsFound kind version (cells_in config) t.bytes Older → t ≡ firm t.bytes)
    → LeavesDisk Attach kind version config before after → EachImage after.told (StandsAsCounted kind cells)
start_leaves_images kind version config before after t cells size told images older_firm leaves =
    let counted : StandsAsCounted kind cells t.bytes = images t told t.bytes (image_is_read t) in
    elim (leaves t told) [
      | inl taken ↦ elim taken.0 [
        | inl same ↦
            subst (λ (o : Option Told). EachImage o (StandsAsCounted kind cells)) (told ∙ sym same) images
        | inr (inl blank) ↦
            absurd (counted_not_blank kind version (cells_in config) t.bytes cells size counted blank.0)
        | inr (inr older) ↦
            moved_images kind (cells_in config) t after.told cells size counted (older_firm older.0) older.1
      ]
      | inr failed ↦
          let once = found-once kind version (cells_in config) t.bytes in
          failed_images kind version (cells_in config) before after t cells size told images older_firm failed.failed
          once.0 once.1
    ]

one_or_two : (version : Version) → (version ≡ One) ⊎ (version ≡ Two)
one_or_two One = inl refl
one_or_two Two = inr refl

-- ---- after a life

-- the disk tells bytes that stand, in the version that counts, for cells that its node may keep
record FoundNow (kind : Kind) (node : Node) (disk : DiskState) : Type 0 where
  pub now : Told
  pub tells : disk.told ≡ Some now
  pub cells : List (List ℕ)
  pub may : FoundCells node cells
  pub counted : StandsAsCounted kind cells now.bytes

module _ (life : Life) (has : HasConfigs life.bus life.first) (run : IsLife life) where
  -- the disk of node i is as the life left it, or as a power cut may leave it, and none of the starts was to move it
  abbrev AsLeft : List UnfinishedStart → ℕ → DiskState → DiskState → Type 0
  AsLeft starts i d disk = LeftToNext (get_or life.after i d) disk × (WasInTwo starts → life.bus.version ≡ Two)

  -- or it stands for one list of cells
  abbrev IsBehind : List UnfinishedStart → ℕ → DiskState → DiskState → Type 0
  IsBehind starts i d disk = AsLeft starts i d disk ⊎ StandsFound life.bus.kind (node_at life.last i) disk

  same_many : (bus : NamedBus) (i : ℕ) → bus.nodes ≡ life.bus.nodes → i < length life.bus.nodes → i < length bus.nodes
  same_many bus i same inside = omega (arith, inside, ap (λ (nodes : List NodeLine). length nodes) same)

  config_as : (bus : NamedBus) (i : ℕ) (l : NodeLine) → bus.nodes ≡ life.bus.nodes → i < length life.bus.nodes
      → (get_or bus.nodes i l).config ≡ (node_at life.last i).config
  config_as bus i l same inside =
      ap (λ (nodes : List NodeLine). (get_or nodes i l).config) same ∙ sym (config_last life has run i l inside)

  -- no newer store than the life's, by the configuration of its node
  none_at : (found : List DiskState) (i : ℕ) (d : DiskState) (t : Told) → i < length life.bus.nodes
      → (get_or found i d).told ≡ Some t → NoneNewer life.bus found
      → NoNewer life.bus.kind life.bus.version (cells_in (node_at life.last i).config) t.bytes
  none_at found i d t inside told none =
      subst (λ (c : Config). NoNewer life.bus.kind life.bus.version (cells_in c) t.bytes)
      (sym (config_last life has run i no_line inside)) (none i no_line d t inside told)

  -- ---- one start

  module _ (start : UnfinishedStart) (earlier : List UnfinishedStart)
      (as_bus : GoesOnAs life.bus earlier start.bus start.before) (unfinished : IsUnfinished start)
      (i : ℕ) (d : DiskState) (inside : i < length life.bus.nodes) where
    abbrev old : DiskState
    old = get_or start.before i d

    abbrev new : DiskState
    new = get_or start.after i d

    within : i < length start.bus.nodes
    within = same_many start.bus i as_bus.same_nodes inside

    same_config : (get_or start.bus.nodes i no_line).config ≡ (node_at life.last i).config
    same_config = config_as start.bus i no_line as_bus.same_nodes inside

    leaves_all : LeavesEach Attach start.bus start.before start.after
    leaves_all = start_leaves Attach start.bus start.before start.after start.fault unfinished.not_started

    leaves_it : LeavesDisk Attach life.bus.kind start.bus.version (node_at life.last i).config old new
    leaves_it =
        subst (λ (c : Config). LeavesDisk Attach life.bus.kind start.bus.version c old new) same_config
        (subst
        (λ (k : Kind). LeavesDisk Attach k start.bus.version (get_or start.bus.nodes i no_line).config old new)
        as_bus.same_kind (leaves_all.leaves i no_line d within))

    older_firm : (t : Told) → old.told ≡ Some t
        → IsFound life.bus.kind start.bus.version (cells_in (node_at life.last i).config) t.bytes Older
        → t ≡ firm t.bytes
    older_firm t told older =
        unfinished.older_is_firm i no_line d t within told
        (subst
        (λ (k : Kind). IsFound k start.bus.version (cells_in (get_or start.bus.nodes i no_line).config) t.bytes Older)
        (sym as_bus.same_kind)
        (subst (λ (c : Config). IsFound life.bus.kind start.bus.version (cells_in c) t.bytes Older) (sym same_config)
        older))

    start_stands : StandsFound life.bus.kind (node_at life.last i) old
        → StandsFound life.bus.kind (node_at life.last i) new
    start_stands s =
        let told = told_before new.told old.told (sym (leaves_all.each i no_line d within).0.tells) s.now s.tells in
        record {
          now = told.0;
          tells = told.1;
          cells = s.cells;
          may = s.may;
          images =
              start_leaves_images life.bus.kind start.bus.version (node_at life.last i).config old new s.now s.cells
              (found_size (node_at life.last i) s.cells (sound_at life has run i inside) s.may) s.tells s.images
              (older_firm s.now s.tells) leaves_it;
        }

    -- it was in the version of the life: it has changed nothing
    own_start : (found : DiskState) → start.bus.version ≡ life.bus.version → AsLeft earlier i d old
        → LeftToNext new found → AsLeft (start ∷ earlier) i d found
    own_start found same left next =
        let stays : new.told ≡ old.told =
        own_start_stays life has run i d old new inside left.0
        (subst (λ (v : Version). LeavesDisk Attach life.bus.kind v (node_at life.last i).config old new) same leaves_it)
        in (
          left_joins (get_or life.after i d) new found
              (left_joins (get_or life.after i d) old new left.0 (inl stays)) next,
          λ was. elim was [
            | inl two ↦ sym same ∙ two
            | inr before ↦ left.1 before
          ],
        )

    -- it was the first in version 2 after a life in version 1: what it found stands for one list of cells
    found_to_move : life.bus.version ≡ One → start.bus.version ≡ Two → NoneNewer life.bus start.before
        → LeftToNext (get_or life.after i d) old → StandsFound life.bus.kind (node_at life.last i) old
    found_to_move one two none left =
        let fit = run.fit i d inside in
        let found = finds_image (get_or life.after i d) old fit.now fit.told left in
        let x : List ℕ = found.now.bytes in
        let n : ℕ = cells_in (node_at life.last i).config in
        let own = own_stands life has run i d fit.now x inside fit.told found.image in
        let stands : Stands (layout life.bus.kind One) x own.cells =
        subst (λ (v : Version). Stands (layout life.bus.kind v) x own.cells) one own.stands in
        let alone : NoNewer life.bus.kind One n x =
        subst (λ (v : Version). NoNewer life.bus.kind v n x) one
        (none_at start.before i d found.now inside found.tells none) in
        let older : IsFound life.bus.kind start.bus.version n x Older =
        subst (λ (v : Version). IsFound life.bus.kind v n x Older) (sym two)
        (found_older life.bus.kind n x own.cells own.size stands alone) in
        record {
          now = found.now;
          tells = found.tells;
          cells = own.cells;
          may = own.may;
          images =
              firm_images old.told x (StandsAsCounted life.bus.kind own.cells)
              (found.tells ∙ ap Some (older_firm found.now found.tells older))
              (as_counted life.bus.kind One n x own.cells own.size stands alone);
        }

    one_more : (found : DiskState) → IsBehind earlier i d old → LeftToNext new found
        → IsBehind (start ∷ earlier) i d found
    one_more found (inr s) next =
        inr (next_found life.bus.kind (node_at life.last i) new found next (start_stands s))
    one_more found (inl left) next = elim as_bus.version [
      | inl same ↦ inl (own_start found same left next)
      | inr moves ↦ elim (one_or_two life.bus.version) [
        | inl one ↦ elim moves.1 [
          | inl was ↦ absurd (one_not_two (sym one ∙ left.1 was))
          | inr none ↦
              inr (next_found life.bus.kind (node_at life.last i) new found next
              (start_stands (found_to_move one moves.0 none left.0)))
        ]
        | inr two ↦ inl (own_start found (moves.0 ∙ sym two) left next)
      ]
    ]

  -- ---- all starts

  behind : (starts : List UnfinishedStart) (found : List DiskState) (i : ℕ) (d : DiskState)
      → i < length life.bus.nodes → LeftBehindStarts life starts found → IsBehind starts i d (get_or found i d)
  behind [] found i d inside left = inl (left i d inside, λ never. absurd never)
  behind (start ∷ earlier) found i d inside left =
      one_more start earlier left.1 left.2 i d inside (get_or found i d) (behind earlier start.before i d inside left.0)
      (left.3 i d inside)

  left_now : (starts : List UnfinishedStart) (next : NamedBus) (found : List DiskState) (i : ℕ) (d : DiskState)
      → i < length life.bus.nodes → GoesOnAs life.bus starts next found
      → ((t : Told) → (get_or found i d).told ≡ Some t
      → NoNewer life.bus.kind next.version (cells_in (node_at life.last i).config) t.bytes)
      → AsLeft starts i d (get_or found i d) → FoundNow life.bus.kind (node_at life.last i) (get_or found i d)
  left_now starts next found i d inside as_bus none left =
      let fit = run.fit i d inside in
      let image = finds_image (get_or life.after i d) (get_or found i d) fit.now fit.told left.0 in
      let x : List ℕ = image.now.bytes in
      let n : ℕ = cells_in (node_at life.last i).config in
      let own = own_stands life has run i d fit.now x inside fit.told image.image in
      let alone : NoNewer life.bus.kind life.bus.version n x = elim as_bus.version [
        | inl same ↦ subst (λ (v : Version). NoNewer life.bus.kind v n x) same (none image.now image.tells)
        | inr moves ↦ elim moves.1 [
          | inl was ↦ subst (λ (v : Version). NoNewer life.bus.kind v n x) (sym (left.1 was)) tt
          | inr older ↦ none_at found i d image.now inside image.tells older
        ]
      ] in
      record {
        now = image.now;
        tells = image.tells;
        cells = own.cells;
        may = own.may;
        counted = as_counted life.bus.kind life.bus.version n x own.cells own.size own.stands alone;
      }

  found_now : (starts : List UnfinishedStart) (next : NamedBus) (found : List DiskState) (i : ℕ) (d : DiskState)
      → i < length life.bus.nodes → LeftBehindStarts life starts found → GoesOnAs life.bus starts next found
      → ((t : Told) → (get_or found i d).told ≡ Some t
      → NoNewer life.bus.kind next.version (cells_in (node_at life.last i).config) t.bytes)
      → FoundNow life.bus.kind (node_at life.last i) (get_or found i d)
  found_now starts next found i d inside left as_bus none = elim (behind starts found i d inside left) [
    | inl as_left ↦ left_now starts next found i d inside as_bus none as_left
    | inr s ↦ record {
      now = s.now;
      tells = s.tells;
      cells = s.cells;
      may = s.may;
      counted = s.images s.now s.tells s.now.bytes (image_is_read s.now);
    }
  ]

  pub starts_leave_nodes : StartsLeaveNodes life
  starts_leave_nodes = λ starts next found left as_bus none i l d inside.
      let node : Node = node_at life.last i in
      let within : i < length life.bus.nodes =
      omega (arith, inside, ap (λ (nodes : List NodeLine). length nodes) as_bus.same_nodes) in
      let config : (get_or next.nodes i l).config ≡ node.config = config_as next i l as_bus.same_nodes within in
      let alone : (t : Told) → (get_or found i d).told ≡ Some t
      → NoNewer life.bus.kind next.version (cells_in node.config) t.bytes = λ t told.
      subst (λ (c : Config). NoNewer life.bus.kind next.version (cells_in c) t.bytes) config
      (subst (λ (k : Kind). NoNewer k next.version (cells_in (get_or next.nodes i l).config) t.bytes) as_bus.same_kind
      (none i l d t inside told)) in
      let now = found_now starts next found i d within left as_bus alone in
      let able : CanStart Attach life.bus.kind next.version node.config now.now.bytes =
      can_start life.bus.kind next.version node now.cells now.now.bytes (sound_at life has run i within) now.may
      now.counted (alone now.now now.tells) in (
        now.now,
        now.tells,
        subst (λ (c : Config). CanStart Attach next.kind next.version c now.now.bytes) (sym config)
            (subst (λ (k : Kind). CanStart Attach k next.version node.config now.now.bytes) (sym as_bus.same_kind) able),
      )

  -- no node of it is refused for its bytes, if that says that nothing could be started over them
  not_refused : {P : Config → DiskState → DiskState → Type 0} (starts : List UnfinishedStart) (next : NamedBus)
      (before after : List DiskState) (number : ℕ) → LeftBehindStarts life starts before
      → GoesOnAs life.bus starts next before → NoneNewer next before → OfNumber Attach next before after number P
      → ((config : Config) (old new : DiskState) (t : Told) (kept : Kept) → P config old new → old.told ≡ Some t
      → KeptOn Attach next.kind next.version config t.bytes kept → ⊥) → ⊥
  not_refused starts next before after number left as_bus none of refuses =
      let k : ℕ = number - 1 in
      let inside : k < length next.nodes = omega (arith, of.least, of.most) in
      let able = starts_leave_nodes starts next before left as_bus none k no_line no_disk inside in
      refuses (get_or next.nodes k no_line).config (get_or before k no_disk) (get_or after k no_disk) able.0 able.2.0
      (of.disk no_line no_disk) able.1 able.2.1

  blames : (starts : List UnfinishedStart) (next : NamedBus) (before after : List DiskState) (fault : StartFault)
      → LeftBehindStarts life starts before → GoesOnAs life.bus starts next before → NoneNewer next before
      → NotStarted Attach next before after fault → BlamesNoBytes fault
  blames starts next before after start_fault.TooFew left as_bus none refused = tt
  blames starts next before after (start_fault.TooSmall node) left as_bus none refused = tt
  blames starts next before after (start_fault.Store node reread.DiskFailed) left as_bus none refused = tt
  blames starts next before after (start_fault.Store node reread.NotFormatted) left as_bus none refused =
      not_refused starts next before after node left as_bus none refused.cause
      (λ config old new t kept p told k. (p.0 t told).none kept k)
  blames starts next before after (start_fault.Store node (reread.Damaged place)) left as_bus none refused =
      not_refused starts next before after node left as_bus none refused.cause
      (λ config old new t kept p told k. (p.0 t told).none kept k)
  blames starts next before after (start_fault.BadSlot node slot) left as_bus none refused =
      not_refused starts next before after node left as_bus none refused.cause
      (λ config old new t kept p told k. (p.0 t told).none kept k)
  blames starts next before after (start_fault.BadBound node cell) left as_bus none refused =
      not_refused starts next before after node left as_bus none refused.cause
      (λ config old new t kept p told k. (p.0 t told).none kept k)
  blames starts next before after start_fault.Memory left as_bus none refused = tt

  pub next_blames_no_bytes : NextBlamesNoBytes life
  next_blames_no_bytes = blames

-- ---- the life that follows

module _ (life next : Life) (has : HasConfigs life.bus life.first) (run : IsLife life)
    (follows : Follows life next) where
  pub as_many : length next.bus.nodes ≡ length life.bus.nodes
  as_many = ap (λ (nodes : List NodeLine). length nodes) follows.as_bus.same_nodes

  config_next : (i : ℕ) → i < length life.bus.nodes
      → (get_or next.bus.nodes i no_line).config ≡ (node_at life.last i).config
  config_next i inside = config_as life has run next.bus i no_line follows.as_bus.same_nodes inside

  -- what the node of the next life keeps, by the configuration that it had
  kept_next : (i : ℕ) (t : Told) → i < length life.bus.nodes → (get_or next.before i no_disk).told ≡ Some t
      → KeptOn Attach life.bus.kind next.bus.version (node_at life.last i).config t.bytes (node_at next.first i).kept
  kept_next i t inside tells =
      let kept : Kept = (node_at next.first i).kept in
      let goes = follows.goes_on.nodes i no_line no_disk (omega (arith, inside, as_many)) in
      subst (λ (c : Config). KeptOn Attach life.bus.kind next.bus.version c t.bytes kept) (config_next i inside)
      (subst (λ (k : Kind). KeptOn Attach k next.bus.version (get_or next.bus.nodes i no_line).config t.bytes kept)
      follows.as_bus.same_kind (goes.kept t tells))

  powers_at : (i : ℕ) → i < length life.last.nodes → PowersUp (node_at life.last i) (node_at next.first i)
  powers_at i inside =
      let within : i < length life.bus.nodes = omega (arith, inside, as_many_last life has run) in
      let node : Node = node_at life.last i in
      let kept : Kept = (node_at next.first i).kept in
      let now = found_now life has run follows.starts next.bus next.before i no_disk within follows.disks follows.as_bus
      (λ t told. kept_no_newer life.bus.kind next.bus.version node.config t.bytes kept (kept_next i t within told)) in
      let goes = follows.goes_on.nodes i no_line no_disk (omega (arith, within, as_many)) in
      node_powers life.bus.kind next.bus.version node (node_at next.first i) now.cells now.now.bytes kept
      (sound_at life has run i within) now.may now.counted (kept_next i now.now within now.tells)
      (subst (λ (c : Config). node_at next.first i ≡ powered c kept) (config_next i within) goes.just_powered)

  pub restarts : Restarts life.last next.first
  restarts = record {
    count = follows.goes_on.count ∙ as_many ∙ sym (as_many_last life has run);
    power_up = powers_at;
  }
