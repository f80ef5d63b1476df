-- A node that is opened over what a look found on its disk
use Rattle.std.specs.Prelude.{◌≡◌, ◌⊎◌, ℕ, ◌≤◌, Option, Some, List, length}
use Rattle.std.proofs.Common.{sym, ap, ◌∙◌, subst, arith, inl, inr}
use Rattle.std.proofs.lemmas.Option.{same_Some}
use Rattle.cut_disk.specs.State.{DiskState, Told}
use Rattle.cut_disk.specs.Images.{EachImage}
use Rattle.cut_disk.specs.Calls.{Rose}
use Rattle.cut_disk.proofs.CallerLemmas.{runs_more, runs_join, grows_after}
use Rattle.cell_store.specs.declared.kinds.Kind.{Kind}
use Rattle.cell_store.specs.declared.kinds.Kind.TheVariants.{Twin, Log}
use Rattle.cell_store.specs.declared.kinds.Version.{Version}
use Rattle.cell_store.specs.declared.kinds.Version.TheVariants.{One, Two}
use Rattle.cell_store.specs.declared.faults.Reread.TheVariants as reread
use Rattle.cell_store.specs.Reading.{ReadOnly, ReadFailed}
use Rattle.cell_store.specs.Store.{HasHeader}
use Rattle.cell_store.specs.Formats.{FreshOn, Unformed, LeavesUnformed}
use Rattle.cell_store.specs.Moving.{CountsAs, AfterMove, KeepsCounted, LeavesBelow, move_calls}
use Rattle.cell_store.proofs.CallerLemmas.{fresh_images, kept-same, below-same, stays_join}
use Rattle.any_cells.specs.declared.looking.Found.{Found}
use Rattle.any_cells.specs.declared.looking.Found.TheVariants.{Blank, Standing, Older, Foreign}
use Rattle.any_cells.specs.Either.{layout, format_calls}
use Rattle.any_cells.specs.Looking.{IsFound}
use Rattle.any_cells.specs.Migrating.{Migrated, StandsInTwo}
use Rattle.any_cells.proofs.CallerLemmas.{in-two, unformed-same, only-image}
use Rattle.freshness_routes.specs.Config.{Config, IsConfig}
use Rattle.secoc_node.specs.Cells.{CellsOf}
use Rattle.secoc_node.specs.State.{NodeState}
use Rattle.secoc_node.proofs.CallerLemmas.{length-CellsOf}
use Rattle.bus_world.specs.declared.opening.OpenFault.{OpenFault}
use Rattle.bus_world.specs.declared.opening.OpenFault.TheVariants as open_fault
use Rattle.bus_world.specs.declared.start.Start.TheVariants.{Format, Attach}
use Rattle.bus_world.specs.TakingUp.{cells_in, new_cells, start_calls, TakenOver, SameOrRose, MovedOver, TakingFailed, LeftTaken, LeftOver, LeavesDisk, StaysFound, OpenCause, MovedFirst, CountsRefusal}
use Rattle.bus_world.specs.Opening.{AttachedTo, NotAttachedTo, MovedTo, NotMovedTo}
use Rattle.bus_world.specs.Starts.{Opened, NotOpened}
use Rattle.bus_world.proofs.AttachLaws.{kept_powered}
use Rattle.bus_world.proofs.OpenLaws.{none_some}
use Rattle.bus_world.proofs.FoundLaws.{same_found, standing_not_blank, standing_not_older, older_not_blank, older_not_foreign, blank_not_foreign, older_one, standing_header, standing_counts, standing_damaged, no_node}

-- ---- what is left of told bytes

-- a store that was moved stands in version 2 in every image
moved_images : (kind : Kind) (cells : List (List ℕ)) (t : Told) (new : Option Told) (version : Version) → CountsAs kind (length cells) t.bytes version
    → (HasHeader (layout kind Two) (length cells) t.bytes → ⊥) → AfterMove kind cells t new version → EachImage new (StandsInTwo kind cells)
moved_images kind cells t new One counting none after = in-two kind cells after.bytes new after.told after.stands
moved_images kind cells t new Two counting none after = absurd (none counting)

moved_over : (kind : Kind) (version : Version) (n : ℕ) (t : Told) (new : Option Told) → IsFound kind version n t.bytes Older → Migrated kind n t new → MovedOver kind version n t new
moved_over kind version n t new older m = record {
  older = older;
  cells = m.cells;
  stood = m.moved.before;
  images = moved_images kind m.cells t new m.moved.before.version m.moved.before.counting
      (λ head. (older_one kind version n t.bytes older).0 (subst (λ k. HasHeader (layout kind Two) k t.bytes) m.count head)) m.moved.after;
}

left_taken : (kind : Kind) (version : Version) (config : Config) (before after : DiskState) (t : Told) → TakenOver kind version config t after.told → after.faults ≡ before.faults
    → LeftTaken kind version config before after t
left_taken kind version config before after t taken faults = elim taken [
  | inl same ↦ inl (same, faults)
  | inr more ↦ elim more [
    | inl blank ↦ inr (inl (
      blank.0,
      λ u told x image.
          fresh_images (layout kind version) (new_cells config) t u (subst (λ o. FreshOn (layout kind version) (new_cells config) t o) told blank.1) x image,
    ))
    | inr older ↦ inr (inr (inl (moved_over kind version (cells_in config) t after.told older.0 older.1)))
  ]
]

-- what is left byte by byte tells what is left
pub left_of_leaves : (kind : Kind) (version : Version) (config : Config) (before after : DiskState) → SameOrRose before after → LeavesDisk Attach kind version config before after
    → LeftOver Attach kind version config before after
left_of_leaves kind version config before after count leaves = (
  count,
  λ t told. elim (leaves t told) [
    | inl taken ↦ left_taken kind version config before after t taken.0 taken.1
    | inr failed ↦ inr (inr (inr failed.failed))
  ],
)

same_or_rose : (before after : DiskState) (fault : OpenFault) → CountsRefusal fault before.faults after.faults → SameOrRose before after
same_or_rose before after (open_fault.Store reread.DiskFailed) counts = inr counts
same_or_rose before after (open_fault.Store reread.NotFormatted) counts = inl counts
same_or_rose before after (open_fault.Store (reread.Damaged i)) counts = inl counts
same_or_rose before after (open_fault.BadSlot slot) counts = inl counts
same_or_rose before after (open_fault.BadBound place) counts = inl counts
same_or_rose before after open_fault.TooSmall counts = inl counts
same_or_rose before after open_fault.Memory counts = inl counts

-- if nothing has changed
unformed_same : (kind : Kind) (version : Version) (config : Config) (old new : Option Told) → new ≡ old → LeavesUnformed (layout kind version) (new_cells config) old new
unformed_same kind version config old new same b is t told x image =
    only-image (Unformed (layout kind version) (new_cells config) b) b t x (same_Some _ _ (sym told ∙ (same ∙ is))) (unformed-same (layout kind version) (new_cells config) b) image

failed_same : (kind : Kind) (version : Version) (config : Config) (before after : DiskState) (t : Told) → before.told ≡ Some t → after.told ≡ before.told → Rose before.faults after.faults
    → TakingFailed kind version config before after t
failed_same kind version config before after t told same rose = record {
  failed = record {
    rose = rose;
    standing = λ _. same ∙ told;
    foreign = λ _. same ∙ told;
    older = λ _. kept-same kind (cells_in config) before.told after.told same;
  };
  blank = λ _. inr (unformed_same kind version config before.told after.told same);
  besides = λ _. below-same kind (cells_in config) before.told after.told same;
}

same_leaves : (kind : Kind) (version : Version) (config : Config) (before after : DiskState) (fault : OpenFault) → after.told ≡ before.told → CountsRefusal fault before.faults after.faults
    → LeavesDisk Attach kind version config before after
same_leaves kind version config before after fault same counts = λ t told. elim (same_or_rose before after fault counts) [
  | inl faults ↦ inl (inl (same ∙ told), faults)
  | inr rose ↦ inr (failed_same kind version config before after t told same rose)
]

-- ---- over what a look found

format_few : (kind : Kind) (n : ℕ) → format_calls kind n ≤ move_calls kind n
format_few Twin n = omega arith
format_few Log n = omega arith

-- the disk failed while it was looked at
pub look_failed : (kind : Kind) (version : Version) (config : Config) (before after : DiskState) → ReadFailed 2 before after
    → NotOpened Attach kind version config before after (open_fault.Store reread.DiskFailed)
look_failed kind version config before after h =
    let leaves = same_leaves kind version config before after (open_fault.Store reread.DiskFailed) h.told h.rose in
    record {
      runs = runs_more (start_calls Attach kind config) (omega arith) h.runs;
      left = left_of_leaves kind version config before after (inr h.rose) leaves;
      cause = h.rose;
      leaves = leaves;
      stays = λ t told found. h.stays;
      moved = tt;
      counts = h.rose;
      at_fault = tt;
    }

module _ (kind : Kind) (version : Version) (config : Config) (good : IsConfig config) (before mid : DiskState) (read : ReadOnly 2 before mid) where
  -- something foreign
  pub foreign_refused : ((t : Told) → before.told ≡ Some t → IsFound kind version (cells_in config) t.bytes Foreign)
      → NotOpened Attach kind version config before mid (open_fault.Store reread.NotFormatted)
  foreign_refused look =
      let leaves = same_leaves kind version config before mid (open_fault.Store reread.NotFormatted) read.told read.faults in
      record {
        runs = runs_more (start_calls Attach kind config) (omega arith) read.runs;
        left = left_of_leaves kind version config before mid (inl read.faults) leaves;
        cause = λ t told. no_node kind version config t.bytes (open_fault.Store reread.NotFormatted) good (look t told);
        leaves = leaves;
        stays = λ t told found. read.stays;
        moved = tt;
        counts = read.faults;
        at_fault = tt;
      }

  -- ---- a store that stands

  module _ (look : (t : Told) → before.told ≡ Some t → IsFound kind version (cells_in config) t.bytes Standing) where
    pub standing_opened : (n : NodeState) → AttachedTo kind version config mid n → Opened Attach kind version config before n
    standing_opened n a =
        let mine = kept_powered config n.node a.just_powered a.sound in
        record {
          just_powered = a.just_powered;
          sound = a.sound;
          layout_is = a.layout_is;
          kept = λ t told. record {
            is_kept = mine;
            kept_as = inr (
              inl (look t told),
              standing_counts kind version (cells_in config) t.bytes (CellsOf config n.node.kept) (look t told) (length-CellsOf config n.node.kept mine) (a.stands t (read.told ∙ told)),
            );
          };
          fits = λ b told. a.fits b (read.told ∙ told);
          runs = runs_more (start_calls Attach kind config) (omega arith) (runs_join read.runs a.runs);
          grows = grows_after read.runs a.grows;
          faults = a.faults ∙ read.faults;
          leaves = λ t told. inl (a.told ∙ (read.told ∙ told));
          stays = λ t told found. stays_join read.runs read.told read.stays a.runs a.stays;
        }

    standing_cause : (after : DiskState) (fault : OpenFault) → NotAttachedTo kind version config mid after fault → OpenCause Attach kind version config before after fault
    standing_cause after (open_fault.Store reread.DiskFailed) a = subst (λ k. Rose k after.faults) read.faults a.cause
    standing_cause after (open_fault.Store reread.NotFormatted) a =
        λ t told. absurd (a.cause t (read.told ∙ told) (standing_header kind version (cells_in config) t.bytes (look t told)))
    standing_cause after (open_fault.Store (reread.Damaged i)) a = λ t told.
        let c = a.cause t (read.told ∙ told) in
        no_node kind version config t.bytes (open_fault.Store (reread.Damaged i)) good
        (inl (look t told), standing_damaged kind version (cells_in config) i t.bytes (look t told) c.0 c.1)
    standing_cause after (open_fault.BadSlot slot) a = λ t told.
        let c = a.cause t (read.told ∙ told) in
        no_node kind version config t.bytes (open_fault.BadSlot slot) good
        (inl (look t told), record { cells = c.cells; count = c.count; stands = standing_counts kind version (cells_in config) t.bytes c.cells (look t told) c.count c.stands; such = c.such })
    standing_cause after (open_fault.BadBound place) a = λ t told.
        let c = a.cause t (read.told ∙ told) in
        no_node kind version config t.bytes (open_fault.BadBound place) good
        (inl (look t told), record { cells = c.cells; count = c.count; stands = standing_counts kind version (cells_in config) t.bytes c.cells (look t told) c.count c.stands; such = c.such })
    standing_cause after open_fault.TooSmall a = a.cause
    standing_cause after open_fault.Memory a = tt

    standing_moved : (after : DiskState) (fault : OpenFault) → MovedFirst kind version config before.told after.told fault
    standing_moved after (open_fault.Store cause) = tt
    standing_moved after (open_fault.BadSlot slot) = λ t told older.
        absurd (standing_not_older (same_found kind version (cells_in config) t.bytes Standing Older (look t told) older))
    standing_moved after (open_fault.BadBound place) = λ t told older.
        absurd (standing_not_older (same_found kind version (cells_in config) t.bytes Standing Older (look t told) older))
    standing_moved after open_fault.TooSmall = tt
    standing_moved after open_fault.Memory = tt

    pub standing_refused : (after : DiskState) (fault : OpenFault) → NotAttachedTo kind version config mid after fault → NotOpened Attach kind version config before after fault
    standing_refused after fault a =
        let counts : CountsRefusal fault before.faults after.faults = subst (λ k. CountsRefusal fault k after.faults) read.faults a.counts in
        let leaves = same_leaves kind version config before after fault (a.told ∙ read.told) counts in
        record {
          runs = runs_more (start_calls Attach kind config) (omega arith) (runs_join read.runs a.runs);
          left = left_of_leaves kind version config before after (same_or_rose before after fault counts) leaves;
          cause = standing_cause after fault a;
          leaves = leaves;
          stays = λ t told found. stays_join read.runs read.told read.stays a.runs a.stays;
          moved = standing_moved after fault;
          counts = counts;
          at_fault = a.at_fault;
        }

  -- ---- a blank disk

  module _ (look : (t : Told) → before.told ≡ Some t → IsFound kind version (cells_in config) t.bytes Blank) where
    blank_stays : (after : DiskState) → StaysFound Attach kind version config before after
    blank_stays after = λ t told found. elim found [
      | inl other ↦ absurd (standing_not_blank (same_found kind version (cells_in config) t.bytes Standing Blank other (look t told)))
      | inr other ↦ absurd (blank_not_foreign (same_found kind version (cells_in config) t.bytes Blank Foreign (look t told) other))
    ]

    pub blank_opened : (n : NodeState) → Opened Format kind version config mid n → Opened Attach kind version config before n
    blank_opened n o = record {
      just_powered = o.just_powered;
      sound = o.sound;
      layout_is = o.layout_is;
      kept = λ t told. let k = o.kept t (read.told ∙ told) in record { is_kept = k.is_kept; kept_as = inl (look t told, k.kept_as) };
      fits = λ b told. o.fits;
      runs = runs_more (start_calls Attach kind config) (omega (arith, format_few kind (cells_in config))) (runs_join read.runs o.runs);
      grows = grows_after read.runs o.grows;
      faults = o.faults ∙ read.faults;
      leaves = λ t told. inr (inl (look t told, o.leaves t (read.told ∙ told)));
      stays = blank_stays n.store.disk;
    }

    module _ (after : DiskState) (t : Told) (told : before.told ≡ Some t) where
      -- what is left of blank bytes, if the disk failed
      blank_failed : Rose before.faults after.faults
          → FreshOn (layout kind version) (new_cells config) t after.told ⊎ LeavesUnformed (layout kind version) (new_cells config) before.told after.told
          → TakingFailed kind version config before after t
      blank_failed rose left = record {
        failed = record {
          rose = rose;
          standing = λ other. absurd (standing_not_blank (same_found kind version (cells_in config) t.bytes Standing Blank other (look t told)));
          foreign = λ other. absurd (blank_not_foreign (same_found kind version (cells_in config) t.bytes Blank Foreign (look t told) other));
          older = λ other. absurd (older_not_blank (same_found kind version (cells_in config) t.bytes Older Blank other (look t told)));
        };
        blank = λ _. left;
        besides = λ other. absurd (older_not_blank (same_found kind version (cells_in config) t.bytes Older Blank other (look t told)));
      }

      blank_left : LeavesDisk Format kind version config mid after
          → FreshOn (layout kind version) (new_cells config) t after.told ⊎ LeavesUnformed (layout kind version) (new_cells config) before.told after.told
      blank_left leaves = elim leaves [
        | inl same ↦ inr (unformed_same kind version config before.told after.told (ap (λ (d : DiskState). d.told) same ∙ read.told))
        | inr more ↦ elim more [
          | inl fresh ↦ inl (fresh t (read.told ∙ told))
          | inr failed ↦ inr (subst (λ o. LeavesUnformed (layout kind version) (new_cells config) o after.told) read.told failed.unformed)
        ]
      ]

      blank_calm : LeavesDisk Format kind version config mid after → after.faults ≡ before.faults
          → (TakenOver kind version config t after.told × (after.faults ≡ before.faults)) ⊎ TakingFailed kind version config before after t
      blank_calm leaves faults = elim leaves [
        | inl same ↦ inl (inl (ap (λ (d : DiskState). d.told) same ∙ (read.told ∙ told)), faults)
        | inr more ↦ elim more [
          | inl fresh ↦ inl (inr (inl (look t told, fresh t (read.told ∙ told))), faults)
          | inr failed ↦ inr (blank_failed (subst (λ k. Rose k after.faults) read.faults failed.rose)
              (inr (subst (λ o. LeavesUnformed (layout kind version) (new_cells config) o after.told) read.told failed.unformed)))
        ]
      ]

    blank_leaves : (after : DiskState) (fault : OpenFault) → LeavesDisk Format kind version config mid after → CountsRefusal fault before.faults after.faults
        → LeavesDisk Attach kind version config before after
    blank_leaves after fault leaves counts = λ t told. elim (same_or_rose before after fault counts) [
      | inl faults ↦ blank_calm after t told leaves faults
      | inr rose ↦ inr (blank_failed after t told rose (blank_left after t told leaves))
    ]

    blank_cause : (after : DiskState) (fault : OpenFault) → OpenCause Format kind version config mid after fault → OpenCause Attach kind version config before after fault
    blank_cause after (open_fault.Store reread.DiskFailed) cause = subst (λ k. Rose k after.faults) read.faults cause
    blank_cause after (open_fault.Store reread.NotFormatted) cause = λ t told. absurd (none_some mid.told t cause (read.told ∙ told))
    blank_cause after (open_fault.Store (reread.Damaged i)) cause = λ t told. absurd (none_some mid.told t cause (read.told ∙ told))
    blank_cause after (open_fault.BadSlot slot) cause = λ t told. absurd (none_some mid.told t cause (read.told ∙ told))
    blank_cause after (open_fault.BadBound place) cause = λ t told. absurd (none_some mid.told t cause (read.told ∙ told))
    blank_cause after open_fault.TooSmall cause = cause
    blank_cause after open_fault.Memory cause = tt

    blank_moved : (after : DiskState) (fault : OpenFault) → MovedFirst kind version config before.told after.told fault
    blank_moved after (open_fault.Store cause) = tt
    blank_moved after (open_fault.BadSlot slot) = λ t told older.
        absurd (older_not_blank (same_found kind version (cells_in config) t.bytes Older Blank older (look t told)))
    blank_moved after (open_fault.BadBound place) = λ t told older.
        absurd (older_not_blank (same_found kind version (cells_in config) t.bytes Older Blank older (look t told)))
    blank_moved after open_fault.TooSmall = tt
    blank_moved after open_fault.Memory = tt

    pub blank_refused : (after : DiskState) (fault : OpenFault) → NotOpened Format kind version config mid after fault → NotOpened Attach kind version config before after fault
    blank_refused after fault o =
        let counts : CountsRefusal fault before.faults after.faults = subst (λ k. CountsRefusal fault k after.faults) read.faults o.counts in
        let leaves = blank_leaves after fault o.leaves counts in
        record {
          runs = runs_more (start_calls Attach kind config) (omega (arith, format_few kind (cells_in config))) (runs_join read.runs o.runs);
          left = left_of_leaves kind version config before after (same_or_rose before after fault counts) leaves;
          cause = blank_cause after fault o.cause;
          leaves = leaves;
          stays = blank_stays after;
          moved = blank_moved after fault;
          counts = counts;
          at_fault = o.at_fault;
        }

-- ---- an older store

module _ (kind : Kind) (config : Config) (good : IsConfig config) (before mid : DiskState) (read : ReadOnly 2 before mid)
    (look : (t : Told) → before.told ≡ Some t → IsFound kind Two (cells_in config) t.bytes Older) where
  older_stays : (after : DiskState) → StaysFound Attach kind Two config before after
  older_stays after = λ t told found. elim found [
    | inl other ↦ absurd (standing_not_older (same_found kind Two (cells_in config) t.bytes Standing Older other (look t told)))
    | inr other ↦ absurd (older_not_foreign (same_found kind Two (cells_in config) t.bytes Older Foreign (look t told) other))
  ]

  pub older_opened : (n : NodeState) → MovedTo kind config mid n → Opened Attach kind Two config before n
  older_opened n m = record {
    just_powered = m.just_powered;
    sound = m.sound;
    layout_is = m.layout_is;
    kept = λ t told. record {
      is_kept = kept_powered config n.node m.just_powered m.sound;
      kept_as = inr (inr (look t told), m.stood t (read.told ∙ told));
    };
    fits = λ b told. m.fits b (read.told ∙ told);
    runs = runs_join read.runs m.runs;
    grows = grows_after read.runs m.grows;
    faults = m.faults ∙ read.faults;
    leaves = λ t told. inr (inr (look t told, m.moved t (read.told ∙ told)));
    stays = older_stays n.store.disk;
  }

  older_cause : (after : DiskState) (fault : OpenFault) → NotMovedTo kind config mid after fault → OpenCause Attach kind Two config before after fault
  older_cause after (open_fault.Store reread.DiskFailed) m = subst (λ k. Rose k after.faults) read.faults m.cause
  older_cause after (open_fault.Store reread.NotFormatted) m = λ t told. absurd (m.cause t (read.told ∙ told) (older_one kind Two (cells_in config) t.bytes (look t told)).1)
  older_cause after (open_fault.Store (reread.Damaged i)) m = λ t told.
      no_node kind Two config t.bytes (open_fault.Store (reread.Damaged i)) good (inr (look t told), m.cause t (read.told ∙ told))
  older_cause after (open_fault.BadSlot slot) m = λ t told.
      no_node kind Two config t.bytes (open_fault.BadSlot slot) good (inr (look t told), m.cause t (read.told ∙ told))
  older_cause after (open_fault.BadBound place) m = λ t told.
      no_node kind Two config t.bytes (open_fault.BadBound place) good (inr (look t told), m.cause t (read.told ∙ told))
  older_cause after open_fault.TooSmall m = m.cause
  older_cause after open_fault.Memory m = tt

  older_failed : (after : DiskState) (fault : OpenFault) → NotMovedTo kind config mid after fault → (t : Told) → before.told ≡ Some t → Rose before.faults after.faults
      → TakingFailed kind Two config before after t
  older_failed after fault m t told rose = record {
    failed = record {
      rose = rose;
      standing = λ other. absurd (standing_not_older (same_found kind Two (cells_in config) t.bytes Standing Older other (look t told)));
      foreign = λ other. absurd (older_not_foreign (same_found kind Two (cells_in config) t.bytes Older Foreign (look t told) other));
      older = λ _. subst (λ o. KeepsCounted kind (cells_in config) o after.told) read.told m.keeps;
    };
    blank = λ other. absurd (older_not_blank (same_found kind Two (cells_in config) t.bytes Older Blank (look t told) other));
    besides = λ _. subst (λ o. LeavesBelow kind (cells_in config) o after.told) read.told m.besides;
  }

  older_calm : (after : DiskState) (t : Told) → before.told ≡ Some t → (after.told ≡ Some t) ⊎ Migrated kind (cells_in config) t after.told → TakenOver kind Two config t after.told
  older_calm after t told left = elim left [
    | inl same ↦ inl same
    | inr moved ↦ inr (inr (look t told, moved))
  ]

  older_leaves : (after : DiskState) (fault : OpenFault) → NotMovedTo kind config mid after fault → CountsRefusal fault before.faults after.faults → LeavesDisk Attach kind Two config before after
  older_leaves after (open_fault.Store reread.DiskFailed) m counts = λ t told. inr (older_failed after (open_fault.Store reread.DiskFailed) m t told counts)
  older_leaves after (open_fault.Store reread.NotFormatted) m counts = λ t told. inl (older_calm after t told (m.leaves t (read.told ∙ told)), counts)
  older_leaves after (open_fault.Store (reread.Damaged i)) m counts = λ t told. inl (older_calm after t told (m.leaves t (read.told ∙ told)), counts)
  older_leaves after (open_fault.BadSlot slot) m counts = λ t told. inl (older_calm after t told (inr (m.leaves t (read.told ∙ told))), counts)
  older_leaves after (open_fault.BadBound place) m counts = λ t told. inl (older_calm after t told (inr (m.leaves t (read.told ∙ told))), counts)
  older_leaves after open_fault.TooSmall m counts = λ t told. inl (older_calm after t told (m.leaves t (read.told ∙ told)), counts)
  older_leaves after open_fault.Memory m counts = λ t told. inl (older_calm after t told (m.leaves t (read.told ∙ told)), counts)

  older_moved : (after : DiskState) (fault : OpenFault) → NotMovedTo kind config mid after fault → MovedFirst kind Two config before.told after.told fault
  older_moved after (open_fault.Store cause) m = tt
  older_moved after (open_fault.BadSlot slot) m = λ t told older. m.leaves t (read.told ∙ told)
  older_moved after (open_fault.BadBound place) m = λ t told older. m.leaves t (read.told ∙ told)
  older_moved after open_fault.TooSmall m = tt
  older_moved after open_fault.Memory m = tt

  pub older_refused : (after : DiskState) (fault : OpenFault) → NotMovedTo kind config mid after fault → NotOpened Attach kind Two config before after fault
  older_refused after fault m =
      let counts : CountsRefusal fault before.faults after.faults = subst (λ k. CountsRefusal fault k after.faults) read.faults m.counts in
      let leaves = older_leaves after fault m counts in
      record {
        runs = runs_join read.runs m.runs;
        left = left_of_leaves kind Two config before after (same_or_rose before after fault counts) leaves;
        cause = older_cause after fault m;
        leaves = leaves;
        stays = older_stays after;
        moved = older_moved after fault m;
        counts = counts;
        at_fault = m.at_fault;
      }

-- what a look found, under other names
pub look_at : (kind : Kind) (version : Version) (n m : ℕ) (before : DiskState) (f g : Found) → f ≡ g → n ≡ m → ((t : Told) → before.told ≡ Some t → IsFound kind version n t.bytes f)
    → (t : Told) → before.told ≡ Some t → IsFound kind version m t.bytes g
look_at kind version n m before f g found count look t told = subst (IsFound kind version m t.bytes) found (subst (λ k. IsFound kind version k t.bytes f) count (look t told))
