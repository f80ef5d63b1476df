-- What a cell tells of its bound.
use Rattle.std.proofs.Common.{◌≡◌, ℕ, ◌<◌, List, [], ◌∷◌, ◌++◌, get_or, take, drop, replicate, All, refl, sym, ap, ◌∙◌, arith, length-append, lit<}
use Rattle.std.proofs.lemmas.List.Elements.{All-cons, All-append, All-replicate}
use Rattle.basics.specs.Bytes.{IsBytes}
use Rattle.basics.specs.Numbers.{number_of, bytes_of}
use Rattle.basics.proofs.CallerLemmas.{IsBytes-bytes_of, number_of-bytes_of-lt}
use Rattle.key_slots.specs.declared.memory.Slot.{Slot}
use Rattle.key_slots.specs.declared.memory.Slot.TheVariants.{Empty, Filled}
use Rattle.slot_disk.specs.Cell.{slot_cell, HoldsSlot}
use Rattle.freshness_routes.specs.declared.routes.Direction.{Direction}
use Rattle.freshness_routes.specs.declared.routes.Direction.TheVariants.{Sends, Receives}
use Rattle.freshness_store.specs.Bound.{direction_number, bound_cell, HoldsBound}

first_is : (cell : List ℕ) (id : ℕ) (direction : Direction) (bound : ℕ) → cell ≡ bound_cell id direction bound → get_or cell 0 0 ≡ 2
unfolding bound_cell
first_is cell id direction bound e = rw e refl

direction_is : (cell : List ℕ) (id : ℕ) (direction : Direction) (bound : ℕ) → cell ≡ bound_cell id direction bound → get_or cell 1 0 ≡ direction_number direction
unfolding bound_cell
direction_is cell id direction bound e = rw e refl

id_bytes : (cell : List ℕ) (id : ℕ) (direction : Direction) (bound : ℕ) → cell ≡ bound_cell id direction bound → take 2 (drop 2 cell) ≡ bytes_of 2 id
unfolding bound_cell bytes_of
id_bytes cell id direction bound e = rw e refl

pub bound_bytes_are : (cell : List ℕ) (id : ℕ) (direction : Direction) (bound : ℕ) → cell ≡ bound_cell id direction bound
    → get_or cell 4 0 ∷ get_or cell 5 0 ∷ get_or cell 6 0 ∷ get_or cell 7 0 ∷ get_or cell 8 0 ∷ get_or cell 9 0 ∷ get_or cell 10 0 ∷ get_or cell 11 0 ∷ [] ≡ bytes_of 8 bound
unfolding bound_cell bytes_of
bound_bytes_are cell id direction bound e = rw e refl

-- eight bytes of a cell, as a number, are its bound
pub bound_is : (cell : List ℕ) (id : ℕ) (direction : Direction) (bound : ℕ) → HoldsBound cell id direction bound
    → number_of (get_or cell 4 0 ∷ get_or cell 5 0 ∷ get_or cell 6 0 ∷ get_or cell 7 0 ∷ get_or cell 8 0 ∷ get_or cell 9 0 ∷ get_or cell 10 0 ∷ get_or cell 11 0 ∷ []) ≡ bound
bound_is cell id direction bound h =
    ap number_of (bound_bytes_are cell id direction bound h.cell_is) ∙ number_of-bytes_of-lt 8 bound (omega (arith, h.bound_fits))

id_is : (cell : List ℕ) (id : ℕ) (direction : Direction) (bound : ℕ) → HoldsBound cell id direction bound → number_of (take 2 (drop 2 cell)) ≡ id
id_is cell id direction bound h = ap number_of (id_bytes cell id direction bound h.cell_is) ∙ number_of-bytes_of-lt 2 id (omega (arith, h.id_fits))

same_direction : (direction other : Direction) → direction_number direction ≡ direction_number other → direction ≡ other
same_direction Sends Sends e = refl
same_direction Sends Receives e = cc
same_direction Receives Sends e = cc
same_direction Receives Receives e = refl

pub one_bound : (cell : List ℕ) (id other_id : ℕ) (direction other : Direction) (bound other_bound : ℕ) → HoldsBound cell id direction bound → HoldsBound cell other_id other other_bound
    → (id ≡ other_id) × (direction ≡ other) × (bound ≡ other_bound)
one_bound cell id other_id direction other bound other_bound h k = (
  sym (id_is _ _ _ _ h) ∙ id_is _ _ _ _ k,
  same_direction direction other (sym (direction_is _ _ _ _ h.cell_is) ∙ direction_is _ _ _ _ k.cell_is),
  sym (bound_is _ _ _ _ h) ∙ bound_is _ _ _ _ k,
)

slot_begins : (slot : Slot) → get_or (slot_cell slot) 0 0 < 2
unfolding slot_cell
slot_begins Empty = lit< tt
slot_begins (Filled key counter flags) = lit< tt

pub no_slot : (cell : List ℕ) (slot : Slot) (id : ℕ) (direction : Direction) (bound : ℕ) → HoldsSlot cell slot → HoldsBound cell id direction bound → ⊥
no_slot cell slot id direction bound h k =
    let first : get_or cell 0 0 ≡ get_or (slot_cell slot) 0 0 = ap (λ c. get_or c 0 0) h.cell_is in
    omega (arith, first_is _ _ _ _ k.cell_is, slot_begins slot, first)

direction_below : (direction : Direction) → direction_number direction < 256
direction_below Sends = lit< tt
direction_below Receives = lit< tt

pub cell_bytes : (id : ℕ) (direction : Direction) (bound : ℕ) → IsBytes 32 (bound_cell id direction bound)
unfolding bound_cell
cell_bytes id direction bound =
    let B : ℕ → Type 0 = λ b. b < 256 in
    let ids = IsBytes-bytes_of 2 id in
    let bounds = IsBytes-bytes_of 8 bound in
    let zeros : List ℕ = replicate 20 0 in
    let front : All B (bytes_of 2 id ++ bytes_of 8 bound) = All-append B (bytes_of 2 id) (bytes_of 8 bound) ids.bytes bounds.bytes in
    let rest : All B (bytes_of 2 id ++ bytes_of 8 bound ++ replicate 20 0) = All-append B (bytes_of 2 id ++ bytes_of 8 bound) zeros front (All-replicate B 20 0 (lit< tt)) in
    record {
      size = omega (arith, length-append (bytes_of 2 id ++ bytes_of 8 bound) zeros, length-append (bytes_of 2 id) (bytes_of 8 bound), ids.size, bounds.size);
      bytes = All-cons B 2 (direction_number direction ∷ (bytes_of 2 id ++ bytes_of 8 bound ++ replicate 20 0)) (lit< tt) (All-cons B (direction_number direction) (bytes_of 2 id ++ bytes_of 8 bound ++ replicate 20 0) (direction_below direction) rest);
    }
