-- What `keytool load` does to the store of a node is what the machine's loads of the node do
use Rattle.std.specs.Prelude.{◌≡◌, ℕ, ◌+◌, Some, List, [], ◌∷◌, ◌++◌, length, map, take, drop, set, get_or}
use Rattle.std.proofs.Common.{refl, sym, ap, ap₂, ◌∙◌, subst, inl, inr}
use Rattle.std.proofs.lemmas.Bool.{false≢true}
use Rattle.std.proofs.lemmas.List.{length-map, map-append, take-append-drop}
use Rattle.std.proofs.Math.Seq.{drop-append_seam}
use Rattle.program_edge.specs.Endings.{Ending}
use Rattle.cell_store.specs.declared.kinds.Layout.{Layout}
use Rattle.cell_store.specs.Layout.{layout}
use Rattle.cell_store.specs.Store.{Stands}
use Rattle.cell_store.specs.Cells.{Settled}
use Rattle.slot_disk.specs.Cell.{slot_cell}
use Rattle.machine_runs.specs.Run.{Run}
use Rattle.machine_runs.proofs.CallerLemmas.{Run-more}
use Rattle.memory_update.specs.declared.messages.Request.{Request}
use Rattle.memory_update.specs.declared.messages.Update.{Update}
use Rattle.memory_update.specs.Loading.{slot_of}
use Rattle.bus_machine.specs.declared.events.Event.TheVariants as event
use Rattle.bus_machine.specs.Node.{Node, Kept, Change, slot_to, powered, failed}
use Rattle.bus_machine.specs.Bus.{World, Instant, Moments, Step, node_at}
use Rattle.secoc_node.specs.Cells.{bound_cells, CellsOf, IsKept}
use Rattle.bus_world.specs.declared.start.Start.TheVariants.{Attach}
use Rattle.bus_world.specs.TakingUp.{cells_in, KeptOn}
use Rattle.bus_world.proofs.CallerLemmas.{no_disk}
use Rattle.bus_lives.specs.Lives.{Slot, DiskState, firm, NodeLine, NamedBus, TellsNode}
use Rattle.bus_lives.proofs.CallerLemmas.{config_of_node, image_of_firm, kept_once, kept_stands, told_before}
use Rattle.any_cells.specs.declared.finding.CountingStore.{CountingStore}
use Rattle.key_commands.specs.declared.lines.LoadLine.{LoadLine}
use Rattle.key_commands.specs.declared.lines.LoadLine.TheVariants.{Failed}
use Rattle.key_commands.specs.Answers.{Takes, AnswersEach}
use Rattle.any_cells.specs.Counting.{counting_store}
use Rattle.key_commands.specs.Loader.{LoaderState}
use Rattle.key_commands.specs.Loading.{with_slots, AllLoaded, LastFailed, EndsLoading, all_answered, disk_failed, cut_short, cut_and_failed}
use Rattle.key_commands.specs.Loads.{OnFirstDisk, LoadsInto}
use Rattle.key_commands.specs.Opening.{layout_of}
use Rattle.program_lives.specs.ProgramRuns.{LoadsNode, machine_line, AreLoads, AreLoadsOf}
use Rattle.program_lives.proofs.LoadSteps.{alone, keeps, LoadsRun, loads_run, fails_step}

-- ---- the cells of a node whose slots were loaded

drop_behind : (xs ys : List (List ℕ)) → length xs ≡ 14 → drop 14 (xs ++ ys) ≡ ys
drop_behind xs ys size = ap (λ (n : ℕ). drop n (xs ++ ys)) (sym size) ∙ drop-append_seam xs ys

-- other slots beside the same bounds
slots_beside : (l : NodeLine) (kept : Kept) (slots : List Slot) → length kept.slots ≡ 14
    → with_slots slots (CellsOf l.config kept) ≡ CellsOf l.config (keeps slots kept.bounds)
unfolding CellsOf
slots_beside l kept slots size =
    ap (λ (rest : List (List ℕ)). map slot_cell slots ++ rest)
    (drop_behind (map slot_cell kept.slots) (bound_cells l.config.routes kept.bounds)
    (length-map kept.slots slot_cell ∙ size))

-- cells of which the first fourteen are those of slots, and the rest is as it was
cells_with : (cells old : List (List ℕ)) (slots : List Slot) → take 14 cells ≡ map slot_cell slots
    → drop 14 cells ≡ drop 14 old → cells ≡ with_slots slots old
cells_with cells old slots held beyond =
    sym (take-append-drop 14 cells) ∙ ap₂ (λ (front back : List (List ℕ)). front ++ back) held beyond

-- the disk tells bytes, none of them loose, that stand for what a node that is up keeps
firm_tells : (bus : NamedBus) (node : Node) (disk : DiskState) (bytes : List ℕ) → disk.told ≡ Some (firm bytes)
    → Stands (layout bus.kind bus.version) bytes (CellsOf node.config node.kept) → TellsNode bus node disk
firm_tells bus node disk bytes told stands = record {
  now = firm bytes;
  told = told;
  fit = record {
    images = λ x image. record {
      cells = CellsOf node.config node.kept;
      kept = inl refl;
      stands =
          subst (λ (y : List ℕ). Stands (layout bus.kind bus.version) y (CellsOf node.config node.kept))
          (sym (image_of_firm image)) stands;
    };
    firm_up = λ up. refl;
  };
}

-- what loading left of the node that is alone on its bus, and which requests were done
pub record LoadedNode (bus : NamedBus) (first : World) (left : DiskState) : Type 0 where
  pub moments : Moments
  pub node : Node
  pub count : ℕ
  pub run : Run Step first moments (alone node count)
  pub no_boot : node.boot ≡ (node_at first 0).boot
  pub bounds : node.kept.bounds ≡ (node_at first 0).kept.bounds
  pub tells : TellsNode bus node left

module _ (bus : NamedBus) (uid : List ℕ) (before after : List DiskState) (is : LoadsNode bus uid before)
    (requests : List Request) (e : Ending) (on : OnFirstDisk before after (LoadsInto uid requests e)) (kept : Kept)
    (k : KeptOn Attach bus.kind bus.version is.node.config is.bytes kept) where
  abbrev l : NodeLine
  l = is.node

  abbrev opened : LoaderState
  opened = on.holds.opened

  abbrev left : LoaderState
  left = on.holds.left

  abbrev laid : Layout
  laid = layout bus.kind bus.version

  old_told : on.old.told ≡ Some (firm is.bytes)
  old_told = sym (ap (λ (ds : List DiskState). (get_or ds 0 no_disk).told) on.before_is) ∙ is.tells no_disk

  found_is : on.holds.opens.found ≡ counting_store bus.kind bus.version (cells_in l.config)
  found_is = is.counts on.holds.opens.found (on.holds.opens.counts (firm is.bytes) old_told)

  laid_out : opened.store.layout ≡ laid
  laid_out = on.holds.opens.laid_out ∙ ap layout_of found_is

  size : length opened.store.cells ≡ cells_in l.config
  size = on.holds.opens.number ∙ ap (λ (f : CountingStore). f.cells) found_is

  settled : Settled opened.store
  settled = on.holds.opens.settled is.bytes old_told

  stood : Stands laid is.bytes opened.store.cells
  stood =
      subst (λ (f : CountingStore). Stands (layout_of f) is.bytes opened.store.cells) found_is
      (on.holds.opens.stands (firm is.bytes) old_told)

  kept_cells_are : CellsOf l.config kept ≡ opened.store.cells
  kept_cells_are = kept_stands bus.kind bus.version l.config is.bytes opened.store.cells kept size stood k

  -- what the node keeps, with the slots that the loader found
  abbrev mine : Kept
  mine = keeps opened.slots kept.bounds

  -- cells whose rest is that of the cells as they were opened
  beside : (cells : List (List ℕ)) (slots : List Slot) → take 14 cells ≡ map slot_cell slots
      → drop 14 cells ≡ drop 14 opened.store.cells → cells ≡ CellsOf l.config (keeps slots kept.bounds)
  beside cells slots held beyond =
      cells_with cells opened.store.cells slots held beyond
      ∙ ap (λ (old : List (List ℕ)). with_slots slots old) (sym kept_cells_are)
      ∙ slots_beside l kept slots k.is_kept.slots.size

  is_mine : IsKept l.config mine
  is_mine = record { slots = on.holds.opens.held.are_slots; bounds = k.is_kept.bounds; fit = k.is_kept.fit }

  kept_is : kept ≡ mine
  kept_is =
      kept_once l.config kept mine (config_of_node bus l is.is_bus is.one) k.is_kept is_mine
      (kept_cells_are ∙ beside opened.store.cells opened.slots on.holds.opens.held.cells_are refl)

  pub kept_on : KeptOn Attach bus.kind bus.version l.config is.bytes mine
  kept_on = subst (λ (x : Kept). KeptOn Attach bus.kind bus.version l.config is.bytes x) kept_is k

  uid_same : opened.uid ≡ l.config.uid
  uid_same = on.holds.opens.uid_is ∙ sym is.engine

  abbrev first : World
  first = alone (powered l.config mine) 0

  -- ---- requests of which none finds the disk failing

  module _ (done : List Request) (lines : List LoadLine) (mid : LoaderState)
      (all : AllLoaded opened done lines mid) where
    loaded : LoadsRun l opened.slots mid.slots kept.bounds done lines 0
    loaded =
        loads_run l opened.slots mid.slots kept.bounds done lines 0 all.none_failed
        (subst (λ (u : List ℕ). AnswersEach u opened.slots done lines mid.slots) uid_same all.answers)

    mid_cells : mid.store.cells ≡ CellsOf l.config (keeps mid.slots kept.bounds)
    mid_cells = beside mid.store.cells mid.slots (all.keeps.held on.holds.opens.held.cells_are) all.keeps.beyond

    mid_settled : Settled mid.store
    mid_settled = all.keeps.settled settled

    mid_tells : (disk : DiskState) → disk.told ≡ mid.store.disk.told
        → TellsNode bus (powered l.config (keeps mid.slots kept.bounds)) disk
    mid_tells disk same =
        firm_tells bus (powered l.config (keeps mid.slots kept.bounds)) disk mid_settled.bytes
        (same ∙ mid_settled.told)
        (subst (λ (x : Layout). Stands x mid_settled.bytes (CellsOf l.config (keeps mid.slots kept.bounds)))
        (all.keeps.laid_out ∙ laid_out)
        (subst (λ (cells : List (List ℕ)). Stands mid.store.layout mid_settled.bytes cells) mid_cells
        mid_settled.stands))

    pub all_done : (disk : DiskState) → disk ≡ mid.store.disk
        → (ran : LoadedNode bus first disk) × AreLoads done lines ran.moments
    all_done disk back = (
      record {
        moments = loaded.moments;
        node = powered l.config (keeps mid.slots kept.bounds);
        count = loaded.count;
        run = loaded.run;
        no_boot = refl;
        bounds = refl;
        tells = mid_tells disk (ap (λ (d : DiskState). d.told) back);
      },
      loaded.are,
    )

  -- ---- the last of which finds it failing

  module _ (done : List Request) (lines : List LoadLine) (request : Request) (last : LoaderState)
      (fails : LastFailed opened done lines request last) where
    abbrev mid : LoaderState
    mid = fails.mid

    abbrev update : Update
    update = fails.failed.update

    abbrev before_it : Node
    before_it = powered l.config (keeps mid.slots kept.bounds)

    abbrev change : Change
    change = slot_to update.id (slot_of update)

    abbrev down : Node
    down = failed change before_it

    taken : Takes l.config.uid mid.slots request update
    taken =
        subst (λ (u : List ℕ). Takes u mid.slots request update) (fails.earlier.keeps.uid_is ∙ uid_same)
        fails.failed.taken

    abbrev earlier : LoadsRun l opened.slots mid.slots kept.bounds done lines 0
    earlier = loaded done lines mid fails.earlier

    abbrev moment : Instant
    moment = record {
      command = event.Load 0 request;
      line = machine_line Failed;
      after = alone down (earlier.count + 1);
    }

    run_down : Run Step first (earlier.moments ++ moment ∷ []) (alone down (earlier.count + 1))
    run_down =
        Run-more Step first earlier.moments (alone before_it earlier.count) moment earlier.run
        (fails_step l mid.slots kept.bounds earlier.count request update taken)

    are_down : AreLoads (done ++ request ∷ []) (lines ++ Failed ∷ []) (earlier.moments ++ moment ∷ [])
    are_down = record {
      of_requests =
          map-append (λ (m : Instant). m.command) earlier.moments (moment ∷ [])
          ∙ ap (λ es. es ++ event.Load 0 request ∷ []) earlier.are.of_requests
          ∙ sym (map-append (λ (r : Request). event.Load 0 r) done (request ∷ []));
      of_lines =
          map-append (λ (m : Instant). m.line) earlier.moments (moment ∷ [])
          ∙ ap (λ ls. ls ++ machine_line Failed ∷ []) earlier.are.of_lines
          ∙ sym (map-append machine_line lines (Failed ∷ []));
    }

    -- slots beside the cells as they were opened are those of a node that keeps them
    as_opened : (slots : List Slot) → with_slots slots opened.store.cells ≡ CellsOf l.config (keeps slots kept.bounds)
    as_opened slots =
        ap (λ (old : List (List ℕ)). with_slots slots old) (sym kept_cells_are)
        ∙ slots_beside l kept slots k.is_kept.slots.size

    stands_with : (x : List ℕ) (slots other : List Slot) → slots ≡ other
        → Stands opened.store.layout x (with_slots slots opened.store.cells)
        → Stands laid x (CellsOf l.config (keeps other kept.bounds))
    stands_with x slots other same stands =
        subst (λ (s : List Slot). Stands laid x (CellsOf l.config (keeps s kept.bounds))) same
        (subst (λ (cells : List (List ℕ)). Stands laid x cells) (as_opened slots)
        (subst (λ (y : Layout). Stands y x (with_slots slots opened.store.cells)) laid_out stands))

    tells_down : (disk : DiskState) → disk.told ≡ last.store.disk.told → TellsNode bus down disk
    tells_down disk same =
        let was : Settled mid.store = fails.earlier.keeps.settled settled in
        let still = told_before last.store.disk.told mid.store.disk.told (sym fails.failed.store.runs.tells)
        (firm was.bytes) was.told in
        record {
          now = still.0;
          told = same ∙ still.1;
          fit = record {
            images = λ x image. elim (fails.images settled still.0 still.1 x image) [
              | inl stands ↦ record {
                cells = CellsOf l.config (keeps mid.slots kept.bounds);
                kept = inl refl;
                stands = stands_with x last.slots mid.slots fails.failed.slots stands;
              }
              | inr stands ↦ record {
                cells = CellsOf l.config (keeps (set mid.slots update.id (slot_of update)) kept.bounds);
                kept = inr refl;
                stands =
                    stands_with x (set last.slots update.id (slot_of update))
                    (set mid.slots update.id (slot_of update))
                    (ap (λ (s : List Slot). set s update.id (slot_of update)) fails.failed.slots) stands;
              }
            ];
            firm_up = λ up. absurd (false≢true up);
          };
        }

    pub last_done : (disk : DiskState) → disk ≡ last.store.disk
        → (ran : LoadedNode bus first disk) × AreLoads (done ++ request ∷ []) (lines ++ Failed ∷ []) ran.moments
    last_done disk back = (
      record {
        moments = earlier.moments ++ moment ∷ [];
        node = down;
        count = earlier.count + 1;
        run = run_down;
        no_boot = refl;
        bounds = refl;
        tells = tells_down disk (ap (λ (d : DiskState). d.told) back);
      },
      are_down,
    )

  -- ---- however loading ended

  ended : (disk : DiskState) → disk ≡ left.store.disk → (ends : EndsLoading opened requests left e)
      → (ran : LoadedNode bus first disk) × AreLoadsOf opened requests left e ends ran.moments
  ended disk back (all_answered lines status did prints) = all_done requests lines left did disk back
  ended disk back (disk_failed done request rest lines status whole fails prints) =
      last_done done lines request left fails disk back
  ended disk back (cut_short done request rest lines told whole did writes) =
      all_done (done ++ request ∷ []) (lines ++ told ∷ []) left did disk back
  ended disk back (cut_and_failed done request rest lines whole fails writes) =
      last_done done lines request left fails disk back

  pub load_done : (ran : LoadedNode bus first on.new) × AreLoadsOf opened requests left e on.holds.ends ran.moments
  load_done = ended on.new on.holds.handed_back on.holds.ends
