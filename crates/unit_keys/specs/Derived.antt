-- A unit's key from a master key: NIST SP 800-108, key derivation in counter mode, with CMAC over AES-128
use Rattle.std.specs.Prelude.{ℕ, List, [], ◌∷◌, ◌++◌}
use Rattle.basics.specs.Numbers.{bytes_of}
use Rattle.she_cmac.specs.Cmac.{cmac}

-- what the one block of a key of 128 bits is the CMAC of: the counter 1, a label, a zero byte, a context, and the
-- length of the key in bits
unfoldable pub derivation_input : List ℕ → List ℕ → List ℕ
derivation_input label context = bytes_of 4 1 ++ label ++ (0 ∷ context) ++ bytes_of 4 128

-- `Rathonsi unit key`
abbrev pub unit_label : List ℕ
unit_label =
    0x52 ∷ 0x61 ∷ 0x74 ∷ 0x68 ∷ 0x6f ∷ 0x6e ∷ 0x73 ∷ 0x69 ∷ 0x20 ∷ 0x75 ∷ 0x6e ∷ 0x69 ∷ 0x74 ∷ 0x20 ∷ 0x6b ∷ 0x65 ∷ 0x79 ∷ []

-- the input for a slot of a unit: the context is the UID and the slot's number
unfoldable pub unit_input : List ℕ → ℕ → List ℕ
unit_input uid slot = derivation_input unit_label (uid ++ slot ∷ [])

unfoldable pub unit_key : List ℕ → List ℕ → ℕ → List ℕ
unit_key master uid slot = cmac master (unit_input uid slot)
