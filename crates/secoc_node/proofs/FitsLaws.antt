-- When a disk fits a node, and what puts and power cuts leave of it: the laws of disks that fit what a store keeps, for
-- a node
use Rattle.std.proofs.Common.{◌≡◌, ℕ, true, List, length, set, refl, sym, ap, subst, ◌∙◌, inl, inr}
use Rattle.std.specs.Prelude.{Option, None, Some, is_some, ◌⊎◌, option_map}
use Rattle.std.proofs.lemmas.Option.{same_Some, none-some}
use Rattle.cut_disk.specs.Images.{CutsTo}
use Rattle.cell_store.specs.Cells.{CellsState, Settled, Puts, FailsPut, StandsNow, EachImageStands}
pub use Rattle.store_keeping.proofs.CallerLemmas.{told_before}
use Rattle.store_keeping.specs.Keeping.{MayKeep, FitsStore}
use Rattle.store_keeping.proofs.CallerLemmas as kept
use Rattle.bus_machine.specs.Node.{Node, Change, changed, failed, refused_up}
use Rattle.secoc_node.specs.Cells.{CellsOf}
use Rattle.secoc_node.specs.Fits.{node_keeping}
use Rattle.secoc_node.specs.State.{NodeState, FitsNow, TellsFitting}
use Rattle.secoc_node.specs.Keeping.{KeepsNode}

-- a settled store fits the node whose cells it has
pub fits_settled : (s : NodeState) → Settled s.store → KeepsNode s.node s.store → FitsNow s
fits_settled s settled keeps = kept.fits_settled (node_keeping s.node) s.store settled keeps.cells

none_pending : (node : Node) → node.pending ≡ None → (node_keeping node).pending ≡ None
none_pending node none = ap (option_map (λ change. CellsOf node.config (changed change node.kept))) none

-- ---- puts

module _ (old new : NodeState) (i : ℕ) (c : List ℕ) (fits : FitsNow old) (up : old.node.up ≡ true) (none : old.node.pending ≡ None) (keeps : KeepsNode old.node old.store) where
  pub fits_put : Puts i c old.store new.store → KeepsNode new.node new.store → FitsNow new
  fits_put puts keeps_new =
      kept.fits_put (node_keeping old.node) old.store new.store i c fits up (none_pending old.node none) keeps (node_keeping new.node) puts keeps_new.cells

  pub fits_failed_put : (change : Change) → FailsPut i c old.store new.store → new.node ≡ failed change old.node
      → CellsOf old.node.config (changed change old.node.kept) ≡ set (CellsOf old.node.config old.node.kept) i c → FitsNow new
  fits_failed_put change fails node_is made =
      subst (λ (node : Node). FitsStore (node_keeping node) new.store) (sym node_is)
      (kept.fits_failed_put (node_keeping old.node) old.store new.store i c fits up (none_pending old.node none) keeps
      (CellsOf old.node.config (changed change old.node.kept)) fails made)

-- ---- power cuts

-- what the cells are that were read anew from one of the images
abbrev pub FoundCells : Node → List (List ℕ) → Type 0
FoundCells node cells = (cells ≡ CellsOf node.config node.kept) ⊎ ((change : Change) × (node.pending ≡ Some change) × (cells ≡ CellsOf node.config (changed change node.kept)))

mapped : {A B : Type 0} (f : A → B) (o : Option A) (y : B) → option_map f o ≡ Some y → (x : A) × (o ≡ Some x) × (y ≡ f x)
mapped f None y is = absurd (none-some y is)
mapped f (Some x) y is = (x, refl, same_Some y (f x) (sym is))

found_of : (node : Node) (cells : List (List ℕ)) → MayKeep (node_keeping node) cells → FoundCells node cells
found_of node cells (inl as_before) = inl as_before
found_of node cells (inr made) = inr (mapped (λ (change : Change). CellsOf node.config (changed change node.kept)) node.pending cells made)

pub found_cells : (s : NodeState) (new : CellsState) → TellsFitting s → CutsTo s.store.disk.told new.disk.told → StandsNow new → new.layout ≡ s.store.layout → FoundCells s.node new.cells
found_cells s new fitting cuts now layout = found_of s.node new.cells (kept.found_kept (node_keeping s.node) s.store new fitting cuts now layout)

-- each image stands for a list of the store's number of cells
pub each_stands : (s : NodeState) (n : ℕ) → length s.store.cells ≡ n → length (CellsOf s.node.config s.node.kept) ≡ n
    → ((change : Change) → s.node.pending ≡ Some change → length (CellsOf s.node.config (changed change s.node.kept)) ≡ n) → TellsFitting s → EachImageStands s.store
each_stands s n count sized made fitting =
    kept.each_stands (node_keeping s.node) s.store
    (λ cells may. elim (found_of s.node cells may) [
      | inl same ↦ ap (λ (l : List (List ℕ)). length l) same ∙ sized ∙ sym count
      | inr change ↦ ap (λ (l : List (List ℕ)). length l) change.2 ∙ made change.0 change.1 ∙ sym count
    ])
    fitting

-- after a cut that wasn't read as a node's, the disk fits the node that it fitted
pub fits_refused : (s : NodeState) (new : CellsState) → FitsNow s → CutsTo s.store.disk.told new.disk.told → is_some new.disk.told ≡ is_some s.store.disk.told → new.layout ≡ s.store.layout
    → FitsNow (record { node = refused_up s.node; store = new })
fits_refused s new fits cuts tells layout = kept.fits_refused (node_keeping s.node) s.store new fits cuts tells layout

-- after a cut that was, it fits the node that came up
pub fits_up : (s : NodeState) (old : CellsState) → CutsTo old.disk.told s.store.disk.told → is_some s.store.disk.told ≡ is_some old.disk.told → StandsNow s.store → KeepsNode s.node s.store → FitsNow s
fits_up s old cuts tells now keeps = kept.fits_up (node_keeping s.node) old s.store cuts tells now keeps.cells
