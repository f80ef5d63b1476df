-- What follows from what a look finds
use Rattle.std.specs.Prelude.{◌≡◌, ℕ, List, length}
use Rattle.std.proofs.Common.{sym, ◌∙◌, subst, inl, inr}
use Rattle.cell_store.specs.declared.kinds.Kind.{Kind}
use Rattle.cell_store.specs.declared.kinds.Version.{Version}
use Rattle.cell_store.specs.declared.kinds.Version.TheVariants.{One, Two}
use Rattle.cell_store.specs.Store.{Stands, HasHeader, FirstDamaged}
use Rattle.cell_store.specs.Moving.{CountsAs, StandsAsCounted, DamagedAsCounted}
use Rattle.cell_store.proofs.CallerLemmas.{stands_once, stands-whole}
use Rattle.cell_store.specs.declared.faults.Reread.TheVariants as reread
use Rattle.slot_disk.specs.Cell.{FirstBadSlot}
use Rattle.freshness_routes.specs.Config.{Config, IsConfig}
use Rattle.bus_machine.specs.Node.{Kept}
use Rattle.secoc_node.specs.Cells.{CellsOf, SlotsButNoBound}
use Rattle.secoc_node.proofs.CallerLemmas.{length-CellsOf, no_bad_slot, no_bad_bound}
use Rattle.bus_world.specs.declared.opening.OpenFault.{OpenFault}
use Rattle.bus_world.specs.declared.opening.OpenFault.TheVariants as open_fault
use Rattle.bus_world.specs.declared.start.Start.TheVariants.{Attach}
use Rattle.bus_world.specs.TakingUp.{cells_in, HasNodeStore, KeptOn, NoNodes, NoNodeOn}
use Rattle.any_cells.specs.declared.looking.Found.{Found}
use Rattle.any_cells.specs.declared.looking.Found.TheVariants.{Blank, Standing, Older, Foreign}
use Rattle.any_cells.specs.Either.{layout}
use Rattle.any_cells.specs.Looking.{IsFound}
use Rattle.any_cells.proofs.CallerLemmas.{found-once}

-- bytes are found to be one thing
pub same_found : (kind : Kind) (version : Version) (n : ℕ) (x : List ℕ) (one other : Found) → IsFound kind version n x one → IsFound kind version n x other → one ≡ other
same_found kind version n x one other a b = let once = found-once kind version n x in once.2 one a ∙ sym (once.2 other b)

pub standing_not_blank : Standing ≡ Blank → ⊥
standing_not_blank e = cc

pub standing_not_older : Standing ≡ Older → ⊥
standing_not_older e = cc

pub standing_not_foreign : Standing ≡ Foreign → ⊥
standing_not_foreign e = cc

pub older_not_blank : Older ≡ Blank → ⊥
older_not_blank e = cc

pub older_not_foreign : Older ≡ Foreign → ⊥
older_not_foreign e = cc

pub blank_not_foreign : Blank ≡ Foreign → ⊥
blank_not_foreign e = cc

-- the header of version 1 stands, and that of version 2 doesn't
abbrev OnlyOne : Kind → ℕ → List ℕ → Type 0
OnlyOne kind n x = (HasHeader (layout kind Two) n x → ⊥) × HasHeader (layout kind One) n x

standing_one : (kind : Kind) (n : ℕ) (x : List ℕ) → IsFound kind One n x Standing → OnlyOne kind n x
standing_one kind n x found = elim found [
  | inl foreign ↦ absurd (standing_not_foreign foreign.1)
  | inr more ↦ elim more.1 [
    | inl blank ↦ absurd (standing_not_blank blank.1)
    | inr rest ↦ elim rest.1 [
      | inl this ↦ (more.0, this.0)
      | inr none ↦ absurd (standing_not_foreign none.1)
    ]
  ]
]

standing_two : (kind : Kind) (n : ℕ) (x : List ℕ) → IsFound kind Two n x Standing → HasHeader (layout kind Two) n x
standing_two kind n x found = elim found [
  | inl this ↦ this.0
  | inr more ↦ elim more.1 [
    | inl older ↦ absurd (standing_not_older older.1)
    | inr rest ↦ elim rest.1 [
      | inl blank ↦ absurd (standing_not_blank blank.1)
      | inr none ↦ absurd (standing_not_foreign none.1)
    ]
  ]
]

-- an older store has the header of version 1 alone
pub older_one : (kind : Kind) (version : Version) (n : ℕ) (x : List ℕ) → IsFound kind version n x Older → OnlyOne kind n x
older_one kind One n x found = elim found [
  | inl foreign ↦ absurd (older_not_foreign foreign.1)
  | inr more ↦ elim more.1 [
    | inl blank ↦ absurd (older_not_blank blank.1)
    | inr rest ↦ elim rest.1 [
      | inl this ↦ absurd (standing_not_older (sym this.1))
      | inr none ↦ absurd (older_not_foreign none.1)
    ]
  ]
]
older_one kind Two n x found = elim found [
  | inl this ↦ absurd (standing_not_older (sym this.1))
  | inr more ↦ elim more.1 [
    | inl older ↦ (more.0, older.0)
    | inr rest ↦ elim rest.1 [
      | inl blank ↦ absurd (older_not_blank blank.1)
      | inr none ↦ absurd (older_not_foreign none.1)
    ]
  ]
]

-- the header of a store that stands
pub standing_header : (kind : Kind) (version : Version) (n : ℕ) (x : List ℕ) → IsFound kind version n x Standing → HasHeader (layout kind version) n x
standing_header kind One n x found = (standing_one kind n x found).1
standing_header kind Two n x found = standing_two kind n x found

-- a store that stands is the one that counts
pub standing_counts : (kind : Kind) (version : Version) (n : ℕ) (x : List ℕ) (cells : List (List ℕ)) → IsFound kind version n x Standing → length cells ≡ n
    → Stands (layout kind version) x cells → StandsAsCounted kind cells x
standing_counts kind One n x cells found count stands = record {
  version = One;
  counting = λ head. (standing_one kind n x found).0 (subst (λ m. HasHeader (layout kind Two) m x) count head);
  stands = stands;
}
standing_counts kind Two n x cells found count stands = record { version = Two; counting = stands.head; stands = stands }

pub standing_damaged : (kind : Kind) (version : Version) (n i : ℕ) (x : List ℕ) → IsFound kind version n x Standing → HasHeader (layout kind version) n x
    → FirstDamaged (layout kind version) x n i → DamagedAsCounted kind n i x
standing_damaged kind One n i x found head damaged = record { version = One; counting = (standing_one kind n x found).0; head = head; damaged = damaged }
standing_damaged kind Two n i x found head damaged = record { version = Two; counting = head; head = head; damaged = damaged }

-- ---- the store that counts

-- bytes stand for one list of n cells in the version that counts
stands_for_one : (kind : Kind) (n : ℕ) (x : List ℕ) (one other : List (List ℕ)) (v w : Version) → length one ≡ n → length other ≡ n → CountsAs kind (length one) x v → CountsAs kind (length other) x w
    → Stands (layout kind v) x one → Stands (layout kind w) x other → one ≡ other
stands_for_one kind n x one other One One a b c d s t = stands_once (layout kind One) x one other s t
stands_for_one kind n x one other Two Two a b c d s t = stands_once (layout kind Two) x one other s t
stands_for_one kind n x one other One Two a b c d s t = absurd (c (subst (λ k. HasHeader (layout kind Two) k x) (b ∙ sym a) d))
stands_for_one kind n x one other Two One a b c d s t = absurd (d (subst (λ k. HasHeader (layout kind Two) k x) (a ∙ sym b) c))

pub counted_once : (kind : Kind) (n : ℕ) (x : List ℕ) (one other : List (List ℕ)) → length one ≡ n → length other ≡ n → StandsAsCounted kind one x → StandsAsCounted kind other x → one ≡ other
counted_once kind n x one other a b s t = stands_for_one kind n x one other s.version t.version a b s.counting t.counting s.stands t.stands

-- and then it isn't damaged
whole_counted : (kind : Kind) (n i : ℕ) (x : List ℕ) (cells : List (List ℕ)) (v w : Version) → length cells ≡ n → CountsAs kind (length cells) x v → CountsAs kind n x w
    → Stands (layout kind v) x cells → FirstDamaged (layout kind w) x n i → ⊥
whole_counted kind n i x cells One One count c d s damaged = stands-whole (layout kind One) x cells n i s count damaged
whole_counted kind n i x cells Two Two count c d s damaged = stands-whole (layout kind Two) x cells n i s count damaged
whole_counted kind n i x cells One Two count c d s damaged = c (subst (λ k. HasHeader (layout kind Two) k x) (sym count) d)
whole_counted kind n i x cells Two One count c d s damaged = d (subst (λ k. HasHeader (layout kind Two) k x) count c)

pub counted_whole : (kind : Kind) (n i : ℕ) (x : List ℕ) (cells : List (List ℕ)) → length cells ≡ n → StandsAsCounted kind cells x → DamagedAsCounted kind n i x → ⊥
counted_whole kind n i x cells count s d = whole_counted kind n i x cells s.version d.version count s.counting d.counting s.stands d.damaged

-- ---- bytes that are no node's

-- a store isn't blank, nor foreign
pub store_is : (kind : Kind) (version : Version) (n : ℕ) (x : List ℕ) (found : Found) → HasNodeStore kind version n x → IsFound kind version n x found
    → (Standing ≡ found → ⊥) → (Older ≡ found → ⊥) → ⊥
store_is kind version n x found store is no_standing no_older = elim store [
  | inl standing ↦ no_standing (same_found kind version n x Standing found standing is)
  | inr older ↦ no_older (same_found kind version n x Older found older is)
]

module _ (kind : Kind) (version : Version) (config : Config) (x : List ℕ) (kept : Kept) (good : IsConfig config) (k : KeptOn Attach kind version config x kept) where
  size : length (CellsOf config kept) ≡ cells_in config
  size = length-CellsOf config kept k.is_kept

  -- if they have a store, it stands for the cells of what is kept
  stands_kept : HasNodeStore kind version (cells_in config) x → StandsAsCounted kind (CellsOf config kept) x
  stands_kept store = elim k.kept_as [
    | inl blank ↦ absurd (store_is kind version (cells_in config) x Blank store blank.0 standing_not_blank older_not_blank)
    | inr stands ↦ stands.1
  ]

  not_foreign : IsFound kind version (cells_in config) x Foreign → ⊥
  not_foreign foreign = elim k.kept_as [
    | inl blank ↦ blank_not_foreign (same_found kind version (cells_in config) x Blank Foreign blank.0 foreign)
    | inr stands ↦ store_is kind version (cells_in config) x Foreign stands.0 foreign standing_not_foreign older_not_foreign
  ]

  pub kept_or_not : (fault : OpenFault) → NoNodes kind version config x fault → ⊥
  kept_or_not (open_fault.Store reread.DiskFailed) why = why
  kept_or_not (open_fault.Store reread.NotFormatted) why = not_foreign why
  kept_or_not (open_fault.Store (reread.Damaged i)) why = counted_whole kind (cells_in config) i x (CellsOf config kept) size (stands_kept why.0) why.1
  kept_or_not (open_fault.BadSlot slot) why =
      no_bad_slot config kept slot k.is_kept
      (subst (λ xs. FirstBadSlot xs slot) (counted_once kind (cells_in config) x why.1.cells (CellsOf config kept) why.1.count size why.1.stands (stands_kept why.0)) why.1.such)
  kept_or_not (open_fault.BadBound place) why =
      no_bad_bound config kept place good k.is_kept
      (subst (λ xs. SlotsButNoBound config.routes xs place) (counted_once kind (cells_in config) x why.1.cells (CellsOf config kept) why.1.count size why.1.stands (stands_kept why.0)) why.1.such)
  kept_or_not open_fault.TooSmall why = why
  kept_or_not open_fault.Memory why = why

pub no_node : (kind : Kind) (version : Version) (config : Config) (x : List ℕ) (fault : OpenFault) → IsConfig config → NoNodes kind version config x fault
    → NoNodeOn kind version config x fault
no_node kind version config x fault good why = record { why = why; none = λ kept k. kept_or_not kind version config x kept good k fault why }
