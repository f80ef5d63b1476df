-- What a settled store and a formatted disk say of every image, without the bytes of a store.
use Rattle.std.proofs.Common.{◌≡◌, ℕ, Some, List, sym, subst, ◌∙◌}
use Rattle.std.proofs.lemmas.Option.{same_Some}
use Rattle.cut_disk.specs.State.{Told}
use Rattle.cut_disk.specs.Images.{firm, Image, EachImage}
use Rattle.cut_disk.proofs.CallerLemmas.{image_of_firm}
use Rattle.cell_store.specs.declared.kinds.Layout.{Layout}
use Rattle.cell_store.specs.Store.{Stands}
use Rattle.cell_store.specs.Cells.{CellsState, Settled, TellsCells}
use Rattle.cell_store.specs.Formats.{FreshOn}
use Rattle.cell_store.proofs.StoreLaws.{stands_once}

-- bytes of which none is loose have one image
pub firm_images : (bytes : List ℕ) (t : Told) (P : List ℕ → Type 0) → P bytes → t ≡ firm bytes → (x : List ℕ) → Image t x → P x
firm_images bytes t P p e x image = subst P (sym (image_of_firm (subst (λ (s : Told). Image s x) e image))) p

-- a settled store tells bytes that stand for its list
pub settled_tells : (s : CellsState) → Settled s → TellsCells s
settled_tells s settled = record { now = firm settled.bytes; told = settled.told; stands = settled.stands }

-- whatever a power cut leaves of a settled store stands for its list
pub settled_images : (s : CellsState) → Settled s → EachImage s.disk.told (λ x. Stands s.layout x s.cells)
settled_images s settled t told x image =
    firm_images settled.bytes t (λ y. Stands s.layout y s.cells) settled.stands (same_Some _ _ (sym told ∙ settled.told)) x image

-- whatever a power cut leaves of a disk that was formatted stands for the cells
pub fresh_images : (layout : Layout) (cells : List (List ℕ)) (t now : Told) → FreshOn layout cells t (Some now) → (x : List ℕ) → Image now x → Stands layout x cells
fresh_images layout cells t now fresh x image =
    firm_images fresh.bytes now (λ y. Stands layout y cells) fresh.stands (same_Some _ _ fresh.told) x image

-- a settled store has the one list that its bytes stand for
pub settled_once : (s : CellsState) (settled : Settled s) (cells : List (List ℕ)) → Stands s.layout settled.bytes cells → s.cells ≡ cells
settled_once s settled cells stands = stands_once s.layout settled.bytes s.cells cells settled.stands stands
