-- A boot that is decided
use Rattle.std.proofs.Common.{◌≡◌, ℕ, ◌∙◌, sym, subst, List, Bool, Some, Ok}
use Rattle.std.specs.Prelude.{IsTrue, ◌↔◌, bytes_eq, slice_get}
use Rattle.std.proofs.lemmas.Option.{get_or_from_slice_get}
use Rattle.std.proofs.lemmas.Slice.Eq.{bytes_eq-Decides}
use Rattle.key_slots.specs.declared.memory.Flags.{Flags}
use Rattle.key_slots.specs.declared.memory.Slot.{Slot}
use Rattle.key_slots.specs.declared.memory.Slot.TheVariants.{Empty, Filled}
use Rattle.key_slots.specs.Slots.{slot_at}
use Rattle.secure_boot.specs.Booting.{bootmac, Boots}

-- the slot of a number, as it was got
pub slot_got : (slots : List Slot) (id number : ℕ) (got held : Slot) → slice_get slots id ≡ Some got → id ≡ number → got ≡ held → slot_at slots number ≡ held
slot_got slots id number got held at is holds = subst (λ n. slot_at slots n ≡ held) is (get_or_from_slice_get slots id got Empty at ∙ holds)

same_as : (a b c : List ℕ) (good : Bool) → good ≡ bytes_eq a b → b ≡ c → IsTrue good ↔ (a ≡ c)
same_as a b c good is same =
    (λ yes. (bytes_eq-Decides a b).0 (sym is ∙ yes) ∙ same, λ e. is ∙ (bytes_eq-Decides a b).1 (e ∙ sym same))

-- by what the slots hold, and how the MAC that was made compares with the one that is kept
pub Boots-filled : (slots : List Slot) (image key mac made : List ℕ) (c d : ℕ) (f g : Flags) (good : Bool)
    → slot_at slots 2 ≡ Filled key c f → slot_at slots 3 ≡ Filled mac d g → good ≡ bytes_eq mac made → made ≡ bootmac key image → Boots slots image (Ok good)
Boots-filled slots image key mac made c d f g good first second compared is =
    rw (first, second) (same_as mac made (bootmac key image) good compared is)
