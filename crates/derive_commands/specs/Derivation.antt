-- What `station key derive` asks for, and its table of answers (own; the key is that of SP 800-108)
use Rattle.std.specs.Prelude.{◌≡◌, ◌≢◌, ℕ, Bool, List, [], string_bytes, String, codes, if◌then◌else◌}
use Rattle.std.specs.Prelude.{Option, Some, None, Result, Ok, Err}
use Rattle.std.specs.Option.{ok_or}
use Rattle.std.specs.declared.alloc.Global.{Global}
use Rattle.hex.specs.Hex.{encode_lower}
use Rattle.text_lines.specs.Readings.{◌>>=◌}
use Rattle.text_lines.specs.Texts.{line}
use Rattle.secoc_words.specs.KeyForms.{engine_uid_form, slot_form}
use Rattle.program_edge.specs.Inputs.{Reading, IsUnread}
use Rattle.program_edge.specs.Rows.{Row, row_of, memory_row}
use Rattle.key_commands.specs.Texts.{value_text}
use Rattle.keyfile_commands.specs.Calls.{argument, is_call}
use Rattle.keyfile_commands.specs.Rows.{GivesKey}
use Rattle.keyfile_commands.specs.Steps.{LacksKey}
use Rattle.unit_keys.specs.Derived.{unit_key}

-- what goes into a run: its arguments, and what was known of the source of the master key's file
pub record DeriveInputs : Type 0 where
  pub words : List (List ℕ)
  pub file : Reading

-- `derive --key FILE UID SLOT`
abbrev pub is_derivation_call : List (List ℕ) → Bool
is_derivation_call words = is_call words 5 (codes "derive") 1 (codes "--key")

-- FILE
abbrev pub master_file : List (List ℕ) → Option (List ℕ)
master_file words = if is_derivation_call words then Some (argument words 2) else None

-- the unit and the slot, or the number of the first value that isn't of its form; the key is value 1
abbrev pub derived_for : List ℕ → List ℕ → Result (List ℕ × ℕ) ℕ
derived_for uid slot = do
  unit ← ok_or (engine_uid_form uid) 2
  id ← ok_or (slot_form slot) 3
  Ok (unit, id)

-- the arguments are a derivation under this master key, for this unit and slot, or with this wrong value
pub record AsksUnitKey (i : DeriveInputs) (master : List ℕ) (asked : Result (List ℕ × ℕ) ℕ) : Type 0 where
  pub call : master_file i.words ≢ None
  pub key : GivesKey i.file master
  pub values : derived_for (argument i.words 3) (argument i.words 4) ≡ asked

abbrev pub derive_usage : List ℕ
derive_usage = line (codes "usage: station key derive --key FILE UID SLOT")

-- the table: when each row comes, with its status and text
pub data ComesOfDerivation (i : DeriveInputs) : Row → Type 0 where
  malformed : master_file i.words ≡ None → IsUnread i.file → ComesOfDerivation i (row_of 2 derive_usage)
  no_master : (row : Row) → master_file i.words ≢ None → LacksKey i.file row → ComesOfDerivation i row
  wrong_value : (master : List ℕ) (number : ℕ) → AsksUnitKey i master (Err number)
      → ComesOfDerivation i (row_of 3 (value_text number))
  no_memory : (master uid : List ℕ) (slot : ℕ) → AsksUnitKey i master (Ok (uid, slot)) → ComesOfDerivation i memory_row
  derived : (master uid : List ℕ) (slot : ℕ) → AsksUnitKey i master (Ok (uid, slot))
      → ComesOfDerivation i (row_of 0 (line (encode_lower (unit_key master uid slot))))

-- ---- what the phases say to one another

-- the unit and the slot, or the row of the first wrong value
abbrev pub GivesUnitSlot : Result (List ℕ × ℕ) ℕ → Result (List ℕ × ℕ) Row → Type 0
GivesUnitSlot asked (Ok both) = asked ≡ Ok both
GivesUnitSlot asked (Err row) = (number : ℕ) × (asked ≡ Err number) × (row ≡ row_of 3 (value_text number))

-- a text that is printed, or another row
abbrev pub TellsDerivation : DeriveInputs → Result (String Global) Row → Type 0
TellsDerivation i (Ok text) = ComesOfDerivation i (row_of 0 (string_bytes text))
TellsDerivation i (Err row) = ComesOfDerivation i row
