-- What the values of a subcommand ask for, or the first value that isn't of its form.
use Rattle.std.specs.Prelude.{ℕ, List, Option, Result, Ok, false}
use Rattle.std.specs.Option.{ok_or}
use Rattle.key_slots.specs.declared.memory.Flags.{Flags}
use Rattle.secoc_words.specs.Forms.{key_form, two_form}
use Rattle.text_lines.specs.Forms.{hex_bytes_form}
use Rattle.secoc_words.specs.KeyForms.{uid_form, engine_uid_form, slot_form, counter_form, flags_form}
use Rattle.text_lines.specs.Readings.{◌>>=◌, nth_word}
use Rattle.key_commands.specs.declared.tasks.Task.{Task}
use Rattle.key_commands.specs.declared.tasks.Task.TheVariants as task
use Rattle.key_commands.specs.declared.tasks.WordTask.TheVariants as asked
use Rattle.key_commands.specs.declared.tasks.BadValue.{BadValue}
use Rattle.key_commands.specs.declared.subcommands.Subcommand.{Subcommand}
use Rattle.key_commands.specs.declared.subcommands.Subcommand.TheVariants.{Make, Read, Confirm, Bootmac, Load}

-- the value with this number, counted from 1, which is to be of a form
abbrev pub value_at : {A : Type 0} → ℕ → Option A → Result A BadValue
value_at n value = ok_or value (record { number = n })

-- no flag is set: the flags have no part in a confirmation
abbrev pub no_flags : Flags
no_flags = record { write = false; boot = false; debugger = false; usage = false; wildcard = false }

-- UID ID AUTH COUNTER FLAGS NEWKEY AUTHKEY
unfoldable pub make_of : List (List ℕ) → Result Task BadValue
make_of values = do
  uid ← value_at 1 (uid_form (nth_word values 1))
  id ← value_at 2 (slot_form (nth_word values 2))
  auth ← value_at 3 (slot_form (nth_word values 3))
  counter ← value_at 4 (counter_form (nth_word values 4))
  flags ← value_at 5 (flags_form (nth_word values 5))
  key ← value_at 6 (key_form (nth_word values 6))
  authkey ← value_at 7 (key_form (nth_word values 7))
  Ok (task.Words (asked.Make (record { uid = uid; id = id; auth = auth; counter = counter; flags = flags; key = key })
      authkey))

-- AUTHKEY M1 M2 M3
unfoldable pub read_of : List (List ℕ) → Result Task BadValue
read_of values = do
  authkey ← value_at 1 (key_form (nth_word values 1))
  m1 ← value_at 2 (key_form (nth_word values 2))
  m2 ← value_at 3 (two_form (nth_word values 3))
  m3 ← value_at 4 (key_form (nth_word values 4))
  Ok (task.Words (asked.Read (record { m1 = m1; m2 = m2; m3 = m3 }) authkey))

-- UID ID AUTH COUNTER NEWKEY M4 M5
unfoldable pub confirm_of : List (List ℕ) → Result Task BadValue
confirm_of values = do
  uid ← value_at 1 (engine_uid_form (nth_word values 1))
  id ← value_at 2 (slot_form (nth_word values 2))
  auth ← value_at 3 (slot_form (nth_word values 3))
  counter ← value_at 4 (counter_form (nth_word values 4))
  key ← value_at 5 (key_form (nth_word values 5))
  m4 ← value_at 6 (two_form (nth_word values 6))
  m5 ← value_at 7 (key_form (nth_word values 7))
  Ok (task.Words (asked.Confirm (record { m4 = m4; m5 = m5 })
      (record { uid = uid; id = id; auth = auth; counter = counter; flags = no_flags; key = key })))

-- the boot MAC of these two values
unfoldable pub boot_task : Option (List ℕ) → Option (List ℕ) → Result Task BadValue
boot_task key_value image_value = do
  key ← value_at 1 key_value
  image ← value_at 2 image_value
  Ok (task.Words (asked.Bootmac key image))

-- KEY IMAGE, an image of 1 to 65,536 bytes
unfoldable pub bootmac_of : List (List ℕ) → Result Task BadValue
bootmac_of values = boot_task (key_form (nth_word values 1)) (hex_bytes_form 1 65536 (nth_word values 2))

-- FILE UID; FILE may be any text
unfoldable pub load_task : List (List ℕ) → Result Task BadValue
load_task values = do
  uid ← value_at 2 (engine_uid_form (nth_word values 2))
  Ok (task.Load uid)

-- what the values of a subcommand ask for
abbrev pub task_of : Subcommand → List (List ℕ) → Result Task BadValue
task_of Make values = make_of values
task_of Read values = read_of values
task_of Confirm values = confirm_of values
task_of Bootmac values = bootmac_of values
task_of Load values = load_task values
