-- A start over bytes that may be kept keeps each store that stands there
use Rattle.std.specs.Prelude.{◌≡◌, ◌⊎◌, ℕ, ◌<◌, ◌≤◌, ◌+◌, ◌*◌, ◌/◌, ◌%◌, ◌^◌, Option, Some, List, ◌∷◌, length, get_or}
use Rattle.std.proofs.Common.{suc, zero, refl, sym, ap, ◌∙◌, subst, arith, inl, inr}
use Rattle.std.proofs.lemmas.List.{get_or-take}
use Rattle.std.proofs.lemmas.Option.{same_Some}
use Rattle.basics.specs.Numbers.{bytes_of}
use Rattle.basics.proofs.CallerLemmas.{length-bytes_of}
use Rattle.cut_disk.specs.State.{DiskState, Told}
use Rattle.cut_disk.specs.Images.{firm, EachImage}
use Rattle.cut_disk.proofs.CallerLemmas.{get_or-splice_before}
use Rattle.cell_store.specs.declared.kinds.Kind.{Kind}
use Rattle.cell_store.specs.declared.kinds.Kind.TheVariants.{Twin, Log}
use Rattle.cell_store.specs.declared.kinds.Version.{Version}
use Rattle.cell_store.specs.declared.kinds.Version.TheVariants.{One, Two}
use Rattle.cell_store.specs.Layout.{layout, header, part, kind_byte}
use Rattle.cell_store.specs.Store.{HasHeader, Stands}
use Rattle.cell_store.specs.Moving.{StandsAsCounted, KeepsCounted}
use Rattle.cell_store.proofs.CallerLemmas.{kept-same, header-not_blank}
use Rattle.store_plan.specs.Growing.{with_number}
use Rattle.any_cells.specs.declared.looking.Found.{Found}
use Rattle.any_cells.specs.declared.looking.Found.TheVariants.{Blank, Standing, Older, Foreign}
use Rattle.any_cells.specs.Looking.{IsBlank, IsFound}
use Rattle.any_cells.specs.Migrating.{Migrated, StandsInTwo}
use Rattle.any_cells.proofs.CallerLemmas.{found-once}
use Rattle.store_growing.specs.declared.headers.StoreHeader.{StoreHeader}
use Rattle.store_growing.specs.StoreHeaders.{cells_counted, HasFirstHead, HasVersionTwo, HeaderStands, store_header, in_second, in_first}
use Rattle.disk_looks.specs.Looks.{AllZeros, IsWanted, CanKeep}
use Rattle.disk_looks.proofs.CallerLemmas.{one_not_two, zeros_headless, first_room, first_begins}
use Rattle.program_edge.specs.Rows.{Row}
use Rattle.bus_config.specs.declared.node_lines.NodeLine.{NodeLine}
use Rattle.bus_config.specs.Buses.{NamedBus}
use Rattle.bus_script.specs.EventForms.{node_line_at}
use Rattle.freshness_routes.specs.Config.{Config}
use Rattle.secoc_node.specs.State.{NodeState}
use Rattle.bus_world.specs.declared.start.Start.TheVariants.{Attach}
use Rattle.bus_world.specs.TakingUp.{new_cells, TakenOver, FailedOver, LeavesDisk}
use Rattle.bus_world.specs.Starts.{HasRoom, Opened}
use Rattle.bus_world.specs.StartAnswers.{ComesOfStart}
use Rattle.bus_world.proofs.CallerLemmas.{counted_once, older_one, no_disk, no_line, Comes-leaves}
use Rattle.kept_starts.specs.LookedAt.{cells_in_bus, config_in_bus, KeepsInBus, UnfinishedInBus, LookedAt}
use Rattle.kept_starts.proofs.LookLaws.{first_line, look_keeps, same_told}
use Rattle.kept_starts.proofs.UnfinishedLaws.{unfinished_not_older, unfinished_stands_none}
use Rattle.kept_starts.specs.KeptStores.{untouched, moved, unused, unfinished, KeepsStores, FirstTells, StartsKeepStores, RefusedLooksWriteNothing}

-- ---- headers

-- the number of a header of version 1 is the one that is counted
number_of_header : (kind : Kind) (n : ℕ) (head : List ℕ) → n < 2 ^ 16 → head ≡ header (layout kind One) n → 256 * get_or head 10 0 + get_or head 11 0 ≡ n
unfolding header bytes_of
number_of_header kind n head small e =
    let high : get_or head 10 0 ≡ n / 256 ^ 1 % 256 = ap (λ (l : List ℕ). get_or l 10 0) e in
    let low : get_or head 11 0 ≡ n / 256 ^ 0 % 256 = ap (λ (l : List ℕ). get_or l 11 0) e in
    omega arith

pub counted_of : (kind : Kind) (n : ℕ) (x : List ℕ) → n < 2 ^ 16 → HasHeader (layout kind One) n x → cells_counted x ≡ n
counted_of kind n x small head =
    let high : get_or (part 0 32 x) 10 0 ≡ get_or x 10 0 = get_or-take 32 x 10 0 (omega arith) in
    let low : get_or (part 0 32 x) 11 0 ≡ get_or x 11 0 = get_or-take 32 x 11 0 (omega arith) in
    omega (arith, high, low, number_of_header kind n (part 0 32 x) small head)

kind_byte_once : (a b : Kind) → kind_byte a ≡ kind_byte b → a ≡ b
kind_byte_once Twin Twin e = refl
kind_byte_once Twin Log e = absurd (let no : ⊥ = omega (arith, e) in no)
kind_byte_once Log Twin e = absurd (let no : ⊥ = omega (arith, e) in no)
kind_byte_once Log Log e = refl

-- the ninth byte of a header of version 1 says the kind
kind_of_header : (kind : Kind) (n : ℕ) (bytes : List ℕ) → bytes ≡ header (layout kind One) n → kind_byte kind ≡ get_or bytes 8 0
unfolding header
kind_of_header kind n bytes e = sym (ap (λ l. get_or l 8 0) e)

-- bytes that begin as stores of two kinds of version 1 are of one
kind_at : (kind : Kind) (n : ℕ) (x : List ℕ) → HasHeader (layout kind One) n x → get_or x 8 0 ≡ kind_byte kind
kind_at kind n x head = sym (get_or-take 32 x 8 0 (omega arith)) ∙ sym (kind_of_header kind n (part 0 32 x) head)

kept_byte : (x : List ℕ) → 32 ≤ length x → get_or (with_number 0 x) 8 0 ≡ get_or x 8 0
kept_byte x room = get_or-splice_before 10 (bytes_of 2 0) x 8 0 (omega (arith, room, length-bytes_of 2 0)) (omega arith)

one_kind_stands : (kind other : Kind) (n : ℕ) (x : List ℕ) → HasHeader (layout kind One) n x → HasFirstHead other x → kind ≡ other
one_kind_stands kind other n x head heads =
    let room : 32 ≤ length x = first_room other x heads in
    kind_byte_once kind other
    (sym (kind_at kind n x head) ∙ (sym (kept_byte x room) ∙ kind_at other 0 (with_number 0 x) (heads 0)))

-- what a header that stands says
pub first_alone : (x : List ℕ) (there : StoreHeader) → HeaderStands x (Some there) → there.layout.version ≡ One
    → (¬ HasVersionTwo x) × HasFirstHead there.layout.kind x × (there.cells ≡ cells_counted x)
first_alone x _ (in_second kind n few head) one = absurd (one_not_two (sym one))
first_alone x _ (in_first kind none heads) one = (none, heads, refl)

pub second_there : (x : List ℕ) (there : StoreHeader) → HeaderStands x (Some there) → there.layout.version ≡ Two → HasHeader (layout there.layout.kind Two) there.cells x
second_there x _ (in_second kind n few head) two = head
second_there x _ (in_first kind none heads) two = absurd (one_not_two two)

-- ---- the store that stands

-- zeros stand for no cells
zeros_stand_none : (kind : Kind) (cells : List (List ℕ)) (x : List ℕ) → AllZeros x → StandsAsCounted kind cells x → ⊥
zeros_stand_none kind cells x zeros s = zeros_headless (layout kind s.version) (length cells) x zeros s.stands.head

-- if the header of version 1 stands alone, only its store counts
alone_counts : (kind that : Kind) (n : ℕ) (x : List ℕ) (cells : List (List ℕ)) (version : Version) → HeaderStands x (Some (store_header kind One n))
    → Stands (layout that version) x cells → (that ≡ kind) × (length cells ≡ n)
alone_counts kind that n x cells Two alone stands = absurd ((first_alone x (store_header kind One n) alone refl).0 (that, length cells, stands.few, stands.head))
alone_counts kind that n x cells One alone stands =
    let says = first_alone x (store_header kind One n) alone refl in
    let most = stands.few.most in (
      one_kind_stands that kind (length cells) x stands.head says.1,
      sym (says.2 ∙ counted_of that (length cells) x (omega (arith, most)) stands.head),
    )

-- of bytes that may be kept, an older store is the one whose header stands
older_alone : (kind : Kind) (version : Version) (n : ℕ) (x : List ℕ) → CanKeep kind version n x → IsFound kind version n x Older → HeaderStands x (Some (store_header kind One n))
older_alone kind version n x (inl zeros) older = absurd (zeros_headless (layout kind One) n x zeros (older_one kind version n x older).1)
older_alone kind One n x (inr (there, stands, inl is)) older = subst (λ (h : StoreHeader). HeaderStands x (Some h)) is stands
older_alone kind Two n x (inr (there, stands, inl is)) older =
    absurd ((older_one kind Two n x older).0
    (second_there x (store_header kind Two n) (subst (λ (h : StoreHeader). HeaderStands x (Some h)) is stands) refl))
older_alone kind version n x (inr (there, stands, inr (two, is))) older = subst (λ (h : StoreHeader). HeaderStands x (Some h)) is stands

-- blank bytes that may be kept are zeros
blank_head : (kind : Kind) (version : Version) (n : ℕ) (x : List ℕ) → IsFound kind version n x Blank → IsBlank version x
blank_head kind One n x (inl (high, is)) = absurd (let no : ⊥ = cc in no)
blank_head kind One n x (inr (none, inl (blank, is))) = blank
blank_head kind One n x (inr (none, inr (neither, inl (low, is)))) = absurd (let no : ⊥ = cc in no)
blank_head kind One n x (inr (none, inr (neither, inr (other, is)))) = absurd (let no : ⊥ = cc in no)
blank_head kind Two n x (inl (high, is)) = absurd (let no : ⊥ = cc in no)
blank_head kind Two n x (inr (none, inl (low, is))) = absurd (let no : ⊥ = cc in no)
blank_head kind Two n x (inr (none, inr (neither, inl (blank, is)))) = blank.1
blank_head kind Two n x (inr (none, inr (neither, inr (other, is)))) = absurd (let no : ⊥ = cc in no)

-- and the head of version 1 is blank, too
pub blank_low : (kind : Kind) (version : Version) (n : ℕ) (x : List ℕ) → IsFound kind version n x Blank → IsBlank One x
blank_low kind One n x blank = blank_head kind One n x blank
blank_low kind Two n x (inl (high, is)) = absurd (let no : ⊥ = cc in no)
blank_low kind Two n x (inr (none, inl (low, is))) = absurd (let no : ⊥ = cc in no)
blank_low kind Two n x (inr (none, inr (neither, inl (blank, is)))) = blank.0
blank_low kind Two n x (inr (none, inr (neither, inr (other, is)))) = absurd (let no : ⊥ = cc in no)

pub first_not_blank : (kind : Kind) (x : List ℕ) → HasFirstHead kind x → IsBlank One x → ⊥
first_not_blank kind x heads blank =
    let zero : get_or x 0 0 ≡ 0 = sym (get_or-take 32 x 0 0 (omega arith)) ∙ ap (λ (l : List ℕ). get_or l 0 0) blank in
    omega (arith, zero, first_begins kind x heads)

stands_not_blank : (kind : Kind) (version : Version) (n : ℕ) (x : List ℕ) (there : StoreHeader) → HeaderStands x (Some there) → IsWanted kind version n there
    → IsFound kind version n x Blank → ⊥
stands_not_blank kind One n x there stands (inl is) blank =
    first_not_blank kind x (first_alone x (store_header kind One n) (subst (λ (h : StoreHeader). HeaderStands x (Some h)) is stands) refl).1 (blank_low kind One n x blank)
stands_not_blank kind Two n x there stands (inl is) blank =
    header-not_blank (layout kind Two) n
    (sym (second_there x (store_header kind Two n) (subst (λ (h : StoreHeader). HeaderStands x (Some h)) is stands) refl) ∙ blank_head kind Two n x blank)
stands_not_blank kind version n x there stands (inr (two, is)) blank =
    first_not_blank kind x (first_alone x (store_header kind One n) (subst (λ (h : StoreHeader). HeaderStands x (Some h)) is stands) refl).1 (blank_low kind version n x blank)

blank_can : (kind : Kind) (version : Version) (n : ℕ) (x : List ℕ) → CanKeep kind version n x → IsFound kind version n x Blank → AllZeros x
blank_can kind version n x (inl zeros) blank = zeros
blank_can kind version n x (inr (there, stands, wanted)) blank = absurd (stands_not_blank kind version n x there stands wanted blank)

-- of all bytes that are kept
module _ (bus : NamedBus) (x : List ℕ) where
  pub blank_zeros : KeepsInBus bus x → IsFound bus.kind bus.version (cells_in_bus bus) x Blank → AllZeros x ⊎ UnfinishedInBus bus x
  blank_zeros (inl can) blank = inl (blank_can bus.kind bus.version (cells_in_bus bus) x can blank)
  blank_zeros (inr begun) blank = inr begun

  kept_alone : KeepsInBus bus x → IsFound bus.kind bus.version (cells_in_bus bus) x Older → HeaderStands x (Some (store_header bus.kind One (cells_in_bus bus)))
  kept_alone (inl can) older = older_alone bus.kind bus.version (cells_in_bus bus) x can older
  kept_alone (inr u) older =
      absurd (unfinished_not_older bus.kind bus.version (new_cells (config_in_bus bus)) x u bus.kind bus.version (cells_in_bus bus) older)

-- ---- what is kept

keeps_same : (bus : NamedBus) (t : Told) (new : Option Told) → new ≡ Some t → KeepsStores bus t new
keeps_same bus t new same = record { stays = untouched same; cells = λ kind n. kept-same kind n (Some t) new same }

firm_of : (t : Told) (b : List ℕ) → Some t ≡ Some (firm b) → t ≡ firm b
firm_of t b is = same_Some t (firm b) is

keeps_unused : (bus : NamedBus) (t : Told) (new : Option Told) → AllZeros t.bytes ⊎ UnfinishedInBus bus t.bytes → KeepsStores bus t new
keeps_unused bus t new (inl zeros) = record {
  stays = unused zeros;
  cells = λ kind n b cells is count stands.
      absurd (zeros_stand_none kind cells b (subst (λ (u : Told). AllZeros u.bytes) (firm_of t b is) zeros) stands);
}
keeps_unused bus t new (inr begun) = record {
  stays = unfinished begun;
  cells = λ kind n b cells is count stands.
      absurd (unfinished_stands_none bus.kind bus.version (new_cells (config_in_bus bus)) b
      (subst (λ (u : Told). UnfinishedInBus bus u.bytes) (firm_of t b is) begun) kind cells stands);
}

-- all images of one store's cells
module _ (bus : NamedBus) (n : ℕ) (t : Told) (new : Option Told) (alone : HeaderStands t.bytes (Some (store_header bus.kind One n)))
    (keeps : KeepsCounted bus.kind n (Some t) new) where
  each_keeps : (that : Kind) (m : ℕ) → KeepsCounted that m (Some t) new
  each_keeps that m b cells is count stands =
      let same : t ≡ firm b = firm_of t b is in
      let one = alone_counts bus.kind that n b cells stands.version (subst (λ (u : Told). HeaderStands u.bytes (Some (store_header bus.kind One n))) same alone) stands.stands in
      subst (λ (k : Kind). EachImage new (StandsAsCounted k cells)) (sym one.0)
      (keeps b cells is one.1 (subst (λ (k : Kind). StandsAsCounted k cells b) one.0 stands))

  keeps_moved : KeepsStores bus t new
  keeps_moved = record { stays = moved bus.kind n alone; cells = each_keeps }

-- a store that was moved stands in version 2 for the same cells
migrated_keeps : (kind : Kind) (n : ℕ) (t : Told) (new : Option Told) → Migrated kind n t new → KeepsCounted kind n (Some t) new
migrated_keeps kind n t new m b cells is count stands u now x image =
    let same : t ≡ firm b = firm_of t b is in
    let counted : StandsAsCounted kind cells t.bytes = subst (λ (v : Told). StandsAsCounted kind cells v.bytes) (sym same) stands in
    let list : m.cells ≡ cells = counted_once kind n t.bytes m.cells cells m.count count m.moved.before counted in
    let firm_is : t ≡ firm t.bytes = same ∙ ap firm (ap (λ (v : Told). v.bytes) (sym same)) in
    let two : StandsInTwo kind cells x = subst (λ (l : List (List ℕ)). StandsInTwo kind l x) list (m.images firm_is u now x image) in
    record { version = Two; counting = two.counting; stands = two.stands }

module _ (bus : NamedBus) (before : DiskState) (t : Told) (told : before.told ≡ Some t) (can : KeepsInBus bus t.bytes) where
  taken_keeps : (new : Option Told) → TakenOver bus.kind bus.version (config_in_bus bus) t new → KeepsStores bus t new
  taken_keeps new (inl same) = keeps_same bus t new same
  taken_keeps new (inr (inl (blank, fresh))) = keeps_unused bus t new (blank_zeros bus t.bytes can blank)
  taken_keeps new (inr (inr (older, migrated))) =
      keeps_moved bus (cells_in_bus bus) t new (kept_alone bus t.bytes can older) (migrated_keeps bus.kind (cells_in_bus bus) t new migrated)

  failed_keeps : (after : DiskState) → FailedOver bus.kind bus.version (cells_in_bus bus) before after t → (found : Found)
      → IsFound bus.kind bus.version (cells_in_bus bus) t.bytes found → KeepsStores bus t after.told
  failed_keeps after failed Blank is = keeps_unused bus t after.told (blank_zeros bus t.bytes can is)
  failed_keeps after failed Standing is = keeps_same bus t after.told (failed.standing is)
  failed_keeps after failed Foreign is = keeps_same bus t after.told (failed.foreign is)
  failed_keeps after failed Older is =
      keeps_moved bus (cells_in_bus bus) t after.told (kept_alone bus t.bytes can is)
      (subst (λ (o : Option Told). KeepsCounted bus.kind (cells_in_bus bus) o after.told) told (failed.older is))

  opened_keeps : (n : NodeState) → Opened Attach bus.kind bus.version (config_in_bus bus) before n → KeepsStores bus t n.store.disk.told
  opened_keeps n opened = taken_keeps n.store.disk.told (opened.leaves t told)

  left_keeps : (after : DiskState) → LeavesDisk Attach bus.kind bus.version (config_in_bus bus) before after → KeepsStores bus t after.told
  left_keeps after leaves = elim (leaves t told) [
    | inl (taken, calm) ↦ taken_keeps after.told taken
    | inr failed ↦
        let once = found-once bus.kind bus.version (cells_in_bus bus) t.bytes in
        failed_keeps after failed.failed once.0 once.1
  ]

-- ---- at the first disk of a bus

module _ (bus : NamedBus) (before seen : List DiskState) (t : Told) (one : length bus.nodes ≡ 1) (look : LookedAt bus before seen) (room : HasRoom bus before)
    (tells : FirstTells before t) where
  pub still : (d : DiskState) → (get_or seen 0 d).told ≡ Some t
  still d = same_told bus before seen look 0 d ∙ tells d

  pub can : KeepsInBus bus t.bytes
  can = look_keeps bus before seen look room no_disk t (tells no_disk)

  bus_opened : (d : DiskState) (n : NodeState) → Opened Attach bus.kind bus.version (config_in_bus bus) (get_or seen 0 d) n → KeepsStores bus t n.store.disk.told
  bus_opened d n opened = opened_keeps bus (get_or seen 0 d) t (still d) can n opened

  bus_left : (after : List DiskState) (row : Row) → ComesOfStart Attach bus (record { before = seen; after = after }) row → (d : DiskState) → KeepsStores bus t (get_or after 0 d).told
  bus_left after row comes d =
      let inside : 0 < length bus.nodes = omega (arith, one) in
      let left = (Comes-leaves Attach bus (record { before = seen; after = after }) row comes).leaves 0 no_line d inside in
      left_keeps bus (get_or seen 0 d) t (still d) can (get_or after 0 d)
      (subst (λ (n : NodeLine). LeavesDisk Attach bus.kind bus.version n.config (get_or seen 0 d) (get_or after 0 d)) (first_line bus.nodes 0 no_line one inside) left)

pub starts_keep : StartsKeepStores
starts_keep bus before seen t one look room tells = (bus_opened bus before seen t one look room tells, bus_left bus before seen t one look room tells)

at_first_told : (disk seen : DiskState) (rest : List DiskState) (i : ℕ) (d : DiskState) → seen.told ≡ disk.told
    → (get_or (seen ∷ rest) i d).told ≡ (get_or (disk ∷ rest) i d).told
at_first_told disk seen rest zero d same = same
at_first_told disk seen rest (suc i) d same = refl

pub refused_writes_nothing : RefusedLooksWriteNothing
refused_writes_nothing bus before after fault not i d =
    ap (λ (disks : List DiskState). (get_or disks i d).told) not.after_is
    ∙ (at_first_told not.disk not.seen not.rest i d not.fails.told ∙ ap (λ (disks : List DiskState). (get_or disks i d).told) (sym not.before_is))
