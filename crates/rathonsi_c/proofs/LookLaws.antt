-- What the look at a cell finds.
use Rattle.std.proofs.Common.{◌≡◌, ℕ, ◌∷◌, [], List, true, Option, Some, None, get_or, refl, sym, ap, subst, ◌∙◌, arith}
use Rattle.std.specs.Option.{MatchOption, is_some}
use Rattle.std.proofs.lemmas.Bool.{false≢true}
use Rattle.basics.specs.Numbers.{number_of, bytes_of}
use Rattle.basics.proofs.CallerLemmas.{number_of-bytes_of-lt}
use Rattle.key_slots.specs.declared.memory.Slot.{Slot}
use Rattle.slot_disk.specs.Cell.{HoldsSlot}
use Rattle.freshness_routes.specs.declared.routes.Direction.{Direction}
use Rattle.freshness_routes.specs.declared.routes.Direction.TheVariants.{Sends, Receives}
use Rattle.freshness_store.specs.Bound.{bound_cell, HoldsBound, HoldsNoBound}
use Rattle.rathonsi_c.specs.Images.{IsBoundCell}

id_bytes : (cell : List ℕ) (id : ℕ) (direction : Direction) (bound : ℕ) → cell ≡ bound_cell id direction bound → get_or cell 2 0 ∷ get_or cell 3 0 ∷ [] ≡ bytes_of 2 id
unfolding bound_cell bytes_of
id_bytes cell id direction bound e = rw e refl

-- two bytes of a bound's cell, as a number, are its Data ID
pub bound_id : (cell : List ℕ) (id : ℕ) (direction : Direction) (bound : ℕ) → HoldsBound cell id direction bound → number_of (get_or cell 2 0 ∷ get_or cell 3 0 ∷ []) ≡ id
bound_id cell id direction bound h =
    ap number_of (id_bytes cell id direction bound h.cell_is) ∙ number_of-bytes_of-lt 2 id (omega (arith, h.id_fits))

-- a cell that holds no bound in either direction, of the Data ID that its bytes have, is none of a bound
pub no_bound : (cell : List ℕ) (id : ℕ) → id ≡ number_of (get_or cell 2 0 ∷ get_or cell 3 0 ∷ []) → HoldsNoBound cell id Sends → HoldsNoBound cell id Receives → IsBoundCell cell → ⊥
no_bound cell id is none_sent none_received (other, (Sends, (bound, h))) = none_sent bound (subst (λ i. HoldsBound cell i Sends bound) (sym (is ∙ bound_id cell other Sends bound h)) h)
no_bound cell id is none_sent none_received (other, (Receives, (bound, h))) = none_received bound (subst (λ i. HoldsBound cell i Receives bound) (sym (is ∙ bound_id cell other Receives bound h)) h)

-- a slot that was found in a cell
pub found_slot : (found : Option Slot) (cell : List ℕ) → MatchOption found ((slot : Slot) → ¬ HoldsSlot cell slot) (HoldsSlot cell) → is_some found ≡ true → (slot : Slot) × HoldsSlot cell slot
found_slot (Some slot) cell held e = (slot, held)
found_slot None cell held e = absurd (false≢true e)
