-- What an image keeps of a route or of a slot, it keeps once.
use Rattle.std.proofs.Common.{◌≡◌, ℕ, ◌^◌, ◌<◌, Some, List, length, refl, sym, subst, ◌∙◌, arith}
use Rattle.std.proofs.lemmas.Option.{same_Some}
use Rattle.cell_store.specs.Twin.{cell_at}
use Rattle.key_slots.specs.declared.memory.Slot.{Slot}
use Rattle.slot_disk.specs.Cell.{HoldsSlot}
use Rattle.slot_disk.proofs.CallerLemmas.{one_slot}
use Rattle.freshness_routes.specs.declared.routes.Direction.{Direction}
use Rattle.freshness_routes.specs.declared.routes.Direction.TheVariants.{Sends, Receives}
use Rattle.freshness_store.specs.Bound.{direction_number, bound_cell, HoldsBound}
use Rattle.freshness_store.proofs.CallerLemmas.{one_bound}
use Rattle.rathonsi_c.specs.declared.route.RathonsiRoute.{RathonsiRoute}
use Rattle.rathonsi_c.specs.Images.{ImageBound, ImageSlot}
use Rattle.rathonsi_c.specs.Routes.{InRanges}

pub bound_once : (image : List ℕ) (place id : ℕ) (direction : Direction) (a b : ℕ) → ImageBound image place id direction a → ImageBound image place id direction b → a ≡ b
bound_once image place id direction a b h k =
    let e : h.bytes ≡ k.bytes = same_Some _ _ (sym h.is ∙ k.is) in
    (one_bound k.bytes id id direction direction a b (subst (λ (c : List ℕ). HoldsBound c id direction a) e h.holds) k.holds).2

-- whatever its direction
pub bound_alone : (image : List ℕ) (place id : ℕ) (d e : Direction) (a b : ℕ) → ImageBound image place id d a → ImageBound image place id e b → a ≡ b
bound_alone image place id d e a b h k =
    let same : h.bytes ≡ k.bytes = same_Some _ _ (sym h.is ∙ k.is) in
    (one_bound k.bytes id id d e a b (subst (λ (c : List ℕ). HoldsBound c id d a) same h.holds) k.holds).2

pub slot_once : (image : List ℕ) (place : ℕ) (a b : Slot) → ImageSlot image place a → ImageSlot image place b → a ≡ b
slot_once image place a b h k =
    let e : h.bytes ≡ k.bytes = same_Some _ _ (sym h.is ∙ k.is) in
    one_slot k.bytes a b (subst (λ (c : List ℕ). HoldsSlot c a) e h.holds) k.holds

pub same_direction : (d e : Direction) → direction_number d ≡ direction_number e → d ≡ e
same_direction Sends Sends h = refl
same_direction Sends Receives h = absurd (omega arith)
same_direction Receives Sends h = absurd (omega arith)
same_direction Receives Receives h = refl

-- a route has one direction
pub one_direction : (r : RathonsiRoute) (d e : Direction) → InRanges r d → InRanges r e → d ≡ e
one_direction r d e h k = same_direction d e (sym h.direction_is ∙ k.direction_is)

-- the same bound in another image
pub moved_bound : (x y : List ℕ) (place id : ℕ) (d : Direction) (bound : ℕ) → length y ≡ length x → cell_at y place ≡ cell_at x place → ImageBound x place id d bound → ImageBound y place id d bound
moved_bound x y place id d bound l e h = record { room = (let r = h.room in omega arith); bytes = h.bytes; is = e ∙ h.is; holds = h.holds }

-- a new bound in another image
pub renewed_bound : (x y : List ℕ) (place id : ℕ) (d : Direction) (bound to : ℕ) → length y ≡ length x → to < 2 ^ 64 → cell_at y place ≡ Some (bound_cell id d to) → ImageBound x place id d bound → ImageBound y place id d to
renewed_bound x y place id d bound to l fits e h = record {
  room = (let r = h.room in omega arith);
  bytes = bound_cell id d to;
  is = e;
  holds = record { id_fits = h.holds.id_fits; bound_fits = fits; cell_is = refl };
}

pub moved_slot : (x y : List ℕ) (place : ℕ) (slot : Slot) → length y ≡ length x → cell_at y place ≡ cell_at x place → ImageSlot x place slot → ImageSlot y place slot
moved_slot x y place slot l e h = record { room = (let r = h.room in omega arith); bytes = h.bytes; is = e ∙ h.is; holds = h.holds }
