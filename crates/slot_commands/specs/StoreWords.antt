-- The words in which `slots` says what a store holds; no key is among them (own; slots, counters and flags are those of
-- the SHE specification, Data IDs and freshness those of AUTOSAR SecOC)
use Rattle.std.specs.Prelude.{ℕ, Bool, true, false, List, [], ◌∷◌, ◌++◌, codes}
use Rattle.std.specs.Fmt.{decimal}
use Rattle.hex.specs.Hex.{encode_lower}
use Rattle.basics.specs.Numbers.{bytes_of}
use Rattle.cell_store.specs.declared.kinds.Kind.{Kind}
use Rattle.cell_store.specs.declared.kinds.Kind.TheVariants.{Twin, Log}
use Rattle.cell_store.specs.declared.kinds.Version.{Version}
use Rattle.cell_store.specs.declared.kinds.Version.TheVariants.{One, Two}
use Rattle.key_slots.specs.declared.memory.Flags.{Flags}
use Rattle.key_slots.specs.declared.memory.Slot.{Slot}
use Rattle.key_slots.specs.declared.memory.Slot.TheVariants.{Empty, Filled}
use Rattle.freshness_routes.specs.declared.routes.Direction.{Direction}
use Rattle.freshness_routes.specs.declared.routes.Direction.TheVariants.{Sends, Receives}

abbrev pub kind_word : Kind → List ℕ
kind_word Twin = codes "twin"
kind_word Log = codes "log"

abbrev pub version_number : Version → ℕ
version_number One = 1
version_number Two = 2

-- `NAME KIND VERSION CELLS`
abbrev pub store_line_words : List ℕ → Kind → Version → ℕ → List (List ℕ)
store_line_words name kind version cells =
    name ∷ kind_word kind ∷ decimal (version_number version) ∷ decimal cells ∷ []

-- `store KIND VERSION CELLS`
abbrev pub store_words : Kind → Version → ℕ → List (List ℕ)
store_words kind version cells = store_line_words (codes "store") kind version cells

-- the name if the flag is set
abbrev pub named_if : Bool → List ℕ → List (List ℕ)
named_if true name = name ∷ []
named_if false name = []

-- the names of the flags that are set, in the order of the SHE specification
abbrev pub flag_names : Flags → List (List ℕ)
flag_names flags =
    named_if flags.write (codes "WRITE_PROTECTION") ++ (named_if flags.boot (codes "BOOT_PROTECTION")
    ++ (named_if flags.debugger (codes "DEBUGGER_PROTECTION") ++ (named_if flags.usage (codes "KEY_USAGE")
    ++ named_if flags.wildcard (codes "WILDCARD"))))

-- `empty`, or `filled COUNTER FLAG..`: of a key nothing but that it is there
abbrev pub slot_state_words : Slot → List (List ℕ)
slot_state_words Empty = codes "empty" ∷ []
slot_state_words (Filled key counter flags) = codes "filled" ∷ decimal counter ∷ flag_names flags

-- `slot N empty`, or `slot N filled COUNTER FLAG..`
abbrev pub slot_words : ℕ → Slot → List (List ℕ)
slot_words id slot = codes "slot" ∷ decimal id ∷ slot_state_words slot

abbrev pub direction_word : Direction → List ℕ
direction_word Sends = codes "sends"
direction_word Receives = codes "receives"

-- `bound CELL DATAID DIRECTION BOUND`: the Data ID in four hexadecimal digits, the bound in 16
abbrev pub bound_words : ℕ → ℕ → Direction → ℕ → List (List ℕ)
bound_words cell id direction bound =
    codes "bound" ∷ decimal cell ∷ encode_lower (bytes_of 2 id) ∷ direction_word direction
    ∷ encode_lower (bytes_of 8 bound) ∷ []

-- `cell CELL CAUSE`
abbrev pub cell_words : ℕ → List ℕ → List (List ℕ)
cell_words cell cause = codes "cell" ∷ decimal cell ∷ cause ∷ []

-- `place PLACE Damaged`: of a log store, 0 if no bank counts, and P if its record P - 1 is damaged
abbrev pub damaged_place_words : ℕ → List (List ℕ)
damaged_place_words place = codes "place" ∷ decimal place ∷ codes "Damaged" ∷ []
