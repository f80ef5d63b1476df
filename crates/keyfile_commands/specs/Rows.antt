-- The table of answers of the key commands with keys from files: its rows, and when each comes
use Rattle.std.specs.Prelude.{◌≡◌, ◌≢◌, ◌⊎◌, ℕ, ◌≤◌, List, [], Some, None, Result, Ok, Err, length, codes}
use Rattle.bus_port.specs.Whole.{ReadsAll, ReadsPart}
use Rattle.bus_port.specs.declared.whole_streams.ReadAll.TheVariants as read
use Rattle.text_lines.specs.Texts.{line}
use Rattle.program_edge.specs.declared.input.InputFault.{InputFault}
use Rattle.program_edge.specs.declared.input.InputFault.TheVariants.{ReadFault, TooLong, Memory}
use Rattle.program_edge.specs.Rows.{Row, row_of, input_row, memory_row}
use Rattle.program_edge.specs.Inputs.{Reading, IsUnread, ReadsWhole, Lacks}
use Rattle.key_commands.specs.declared.tasks.Task.{Task}
use Rattle.key_commands.specs.declared.tasks.Task.TheVariants.{Words}
use Rattle.key_commands.specs.declared.tasks.WordTask.TheVariants as word_task
use Rattle.key_commands.specs.declared.tasks.BadValue.{BadValue}
use Rattle.key_commands.specs.Tasks.{make_of, read_of, confirm_of}
use Rattle.key_commands.specs.Texts.{value_text, Denies, PrintsDone}
use Rattle.keyfile_commands.specs.declared.calls.KeyCall.{KeyCall}
use Rattle.keyfile_commands.specs.declared.calls.KeyCall.TheVariants.{Make, Read, Confirm, Bootmac}
use Rattle.keyfile_commands.specs.KeyFiles.{key_file_of}
use Rattle.keyfile_commands.specs.Calls.{call_of}
use Rattle.keyfile_commands.specs.Values.{make_values, read_values, confirm_values}

-- what goes into a run: its arguments, and what was known of the sources of the first file and of the second
pub record KeyFileInputs : Type 0 where
  pub words : List (List ℕ)
  pub first : Reading
  pub second : Reading

-- the line that is printed if the arguments are malformed
abbrev pub keyfile_usage : List ℕ
keyfile_usage = line (codes "usage: station key make, read, confirm, bootmac, derive")

-- ---- files

-- the file was read whole, and this is its key
abbrev pub GivesKey : Reading → List ℕ → Type 0
GivesKey file key = (bytes : List ℕ) × ReadsWhole file bytes × (key_file_of bytes ≡ Some key)

-- the file was read whole, and isn't a key file
abbrev pub HasNoKey : Reading → Type 0
HasNoKey file = (bytes : List ℕ) × ReadsWhole file bytes × (key_file_of bytes ≡ None)

abbrev pub no_key_text : List ℕ
no_key_text = line (codes "key: not 16 bytes")

-- the most bytes of an image
abbrev pub image_limit : ℕ
image_limit = 16777216

-- these bytes were read, all of the file, at most 16,777,216
abbrev pub ReadsImageFile : Reading → List ℕ → Type 0
ReadsImageFile file bytes = ReadsAll file.before file.after image_limit bytes

-- the image was read whole, and isn't empty
abbrev pub GivesBootImage : Reading → List ℕ → Type 0
GivesBootImage file image = ReadsImageFile file image × (1 ≤ length image)

abbrev pub no_image_text : List ℕ
no_image_text = line (codes "image: length")

-- there is no image, and this is why: at most 16,777,216 bytes came, or one more
abbrev pub LacksImageFile : Reading → InputFault → Type 0
LacksImageFile file ReadFault = ReadsPart file.before file.after image_limit read.Failed
LacksImageFile file TooLong = ReadsPart file.before file.after image_limit read.TooLong
LacksImageFile file Memory = ReadsPart file.before file.after image_limit read.Memory

-- ---- what is asked for

-- the files give what this call needs, and with it the values ask keytool for this
abbrev pub AsksKeysBy : KeyCall → KeyFileInputs → Result Task BadValue → Type 0
AsksKeysBy Make i asked = (key auth : List ℕ) × GivesKey i.first key × GivesKey i.second auth
    × (asked ≡ make_of (make_values i.words key auth))
AsksKeysBy Read i asked = (auth : List ℕ) × GivesKey i.first auth × IsUnread i.second
    × (asked ≡ read_of (read_values i.words auth))
AsksKeysBy Confirm i asked = (key : List ℕ) × GivesKey i.first key × IsUnread i.second
    × (asked ≡ confirm_of (confirm_values i.words key))
AsksKeysBy Bootmac i asked = (key image : List ℕ) × GivesKey i.first key × GivesBootImage i.second image
    × (asked ≡ Ok (Words (word_task.Bootmac key image)))

-- the arguments are one of the calls, and with the keys of the files that they name they ask keytool for this
abbrev pub AsksKeys : KeyFileInputs → Result Task BadValue → Type 0
AsksKeys i asked = (call : KeyCall) × (call_of i.words ≡ Some call) × AsksKeysBy call i asked

-- the arguments are this call, and the first file has a key
abbrev pub HasFirst : KeyFileInputs → KeyCall → Type 0
HasFirst i call = (call_of i.words ≡ Some call) × ((key : List ℕ) × GivesKey i.first key)

-- one of the files gives no bytes, and this is why; a second file isn't read if the first gives no key
abbrev pub LacksFile : KeyFileInputs → InputFault → Type 0
LacksFile i fault =
    ((call_of i.words ≢ None) × Lacks i.first fault × IsUnread i.second)
    ⊎ (HasFirst i Make × Lacks i.second fault)
    ⊎ (HasFirst i Bootmac × LacksImageFile i.second fault)

-- one of the key files was read whole, and has no key
abbrev pub LacksKeyIn : KeyFileInputs → Type 0
LacksKeyIn i =
    ((call_of i.words ≢ None) × HasNoKey i.first × IsUnread i.second)
    ⊎ (HasFirst i Make × HasNoKey i.second)

-- the table: when each row comes, with its status and text
pub data ComesOfKeyFiles (i : KeyFileInputs) : Row → Type 0 where
  no_form : call_of i.words ≡ None → IsUnread i.first → IsUnread i.second → ComesOfKeyFiles i (row_of 2 keyfile_usage)
  no_file : (fault : InputFault) → LacksFile i fault → ComesOfKeyFiles i (input_row fault)
  no_key : LacksKeyIn i → ComesOfKeyFiles i (row_of 4 no_key_text)
  no_image : HasFirst i Bootmac → ReadsImageFile i.second [] → ComesOfKeyFiles i (row_of 3 no_image_text)
  wrong_value : (bad : BadValue) → AsksKeys i (Err bad) → ComesOfKeyFiles i (row_of 3 (value_text bad.number))
  no_memory : (asked : Result Task BadValue) → AsksKeys i asked → ComesOfKeyFiles i memory_row
  denied : (task : Task) (text : List ℕ) → AsksKeys i (Ok task) → Denies task text → ComesOfKeyFiles i (row_of 1 text)
  done : (task : Task) (text : List ℕ) → AsksKeys i (Ok task) → PrintsDone task text → ComesOfKeyFiles i (row_of 0 text)
