use Rattle.std.proofs.Common.{List, [], ◌∷◌, ◌∙◌}
use Rattle.std.proofs.lemmas.List.{length-set}
use Rattle.std.proofs.lemmas.List.Elements.{All-set}
use denote.Laws.{Is}
use denote.Enum.Declared.{row}
use mir.Val.{Val}
use Rattle.key_slots.specs.Slots.{IsSlot}
use Rattle.key_slots.specs.declared.memory.Slot.{Slot}
use Rattle.key_slots.specs.declared.memory.Slot.TheVariants.{Empty, Filled}
use Rattle.key_slots.specs.contracts.memory.Slot.{the_type}
use Rattle.key_slots.proofs.memory.Slots.set.Goals as goal

-- a slot that is passed: its key and its counter are in their ranges
is_slot : (slot : Slot) (v : Val) → Is (row the_type) slot (v ∷ []) → IsSlot slot
is_slot Empty v is = tt
is_slot (Filled key counter flags) v is =
    let fields = is.1.1.1.1 in
    (fields.0.1.0.1, fields.1.0.1.0.1)

pub invariant_of-self : goal.invariant_of-self
invariant_of-self c =
    let slots : List Slot = c.self.inside.slots in
    record {
      size = length-set slots c.from.result c.args.slot ∙ c.self.invariant.size;
      slots_are = All-set IsSlot slots c.from.result c.args.slot (is_slot c.args.slot c.well_formed.1.1.0.0 c.well_formed.1.1.0.1) c.self.invariant.slots_are;
    }
