-- What a key command with keys from files promises
use Rattle.std.specs.Prelude.{◌≡◌, ◌≢◌, ◌⊎◌, ℕ, ◌+◌, ◌<◌, ◌≤◌, List, [], Some, None, Result, Ok, Err, length, codes}
use Rattle.bus_port.specs.Fault.{last_count}
use Rattle.bus_port.specs.Whole.{CameBeyond}
use Rattle.program_edge.specs.Inputs.{Reading, IsUnread, SourceFailed, CountsFault, GivesTooMuch, CountsTooMuch, Offers}
use Rattle.program_edge.specs.Endings.{Ending, EndsIn, MayEndIn, EndsInRow, PrintsWhole, PrintsFront}
use Rattle.program_edge.specs.Endings.{SinkFailed, CountsWriteFault}
use Rattle.key_commands.specs.declared.tasks.Task.{Task}
use Rattle.key_commands.specs.declared.tasks.Task.TheVariants.{Words}
use Rattle.key_commands.specs.declared.tasks.WordTask.TheVariants as word_task
use Rattle.key_commands.specs.declared.tasks.BadValue.{BadValue}
use Rattle.key_commands.specs.Tasks.{make_of, read_of, confirm_of}
use Rattle.key_commands.specs.Texts.{value_text, Denies, PrintsDone}
use Rattle.keyfile_commands.specs.declared.calls.KeyCall.{KeyCall}
use Rattle.keyfile_commands.specs.declared.calls.KeyCall.TheVariants.{Make, Read, Confirm, Bootmac}
use Rattle.keyfile_commands.specs.KeyFiles.{key_file_of}
use Rattle.keyfile_commands.specs.Calls.{call_of}
use Rattle.keyfile_commands.specs.Values.{make_values, read_values, confirm_values}
use Rattle.keyfile_commands.specs.Rows.{KeyFileInputs, AsksKeys, HasFirst, LacksKeyIn, ReadsImageFile, ComesOfKeyFiles}
use Rattle.keyfile_commands.specs.Rows.{keyfile_usage, no_key_text, no_image_text, image_limit}

-- the source tells the bytes of a file with this key, and didn't fail
abbrev pub OffersKey : Reading → List ℕ → Type 0
OffersKey file key = (bytes : List ℕ) × Offers file bytes × (key_file_of bytes ≡ Some key)

-- it tells this image, and didn't fail
abbrev pub OffersBootImage : Reading → List ℕ → Type 0
OffersBootImage file image = (file.before.told ≡ Some image) × (1 ≤ length image) × (length image ≤ image_limit)
    × (¬ SourceFailed file)

-- the files tell what this call needs, and with it the values ask keytool for this
abbrev pub OffersBy : KeyCall → KeyFileInputs → Result Task BadValue → Type 0
OffersBy Make i asked = (key auth : List ℕ) × OffersKey i.first key × OffersKey i.second auth
    × (asked ≡ make_of (make_values i.words key auth))
OffersBy Read i asked = (auth : List ℕ) × OffersKey i.first auth × (asked ≡ read_of (read_values i.words auth))
OffersBy Confirm i asked = (key : List ℕ) × OffersKey i.first key
    × (asked ≡ confirm_of (confirm_values i.words key))
OffersBy Bootmac i asked = (key image : List ℕ) × OffersKey i.first key × OffersBootImage i.second image
    × (asked ≡ Ok (Words (word_task.Bootmac key image)))

-- the arguments are one of the calls, whose files tell this
abbrev pub OffersCall : KeyFileInputs → Result Task BadValue → Type 0
OffersCall i asked = (call : KeyCall) × (call_of i.words ≡ Some call) × OffersBy call i asked

-- one byte more than a second file may have came: of a key 1,048,576, of an image 16,777,216
abbrev pub SecondTooLong : KeyFileInputs → Type 0
SecondTooLong i = ((call_of i.words ≡ Some Make) × GivesTooMuch i.second)
    ⊎ ((call_of i.words ≡ Some Bootmac) × CameBeyond i.second.before i.second.after image_limit)

abbrev pub CountsLongImage : Reading → Type 0
CountsLongImage file =
    (file.before.taken + image_limit < last_count) × (file.before.taken + image_limit < file.after.taken)

abbrev pub CountsSecondTooLong : KeyFileInputs → Type 0
CountsSecondTooLong i = ((call_of i.words ≡ Some Make) × CountsTooMuch i.second)
    ⊎ ((call_of i.words ≡ Some Bootmac) × CountsLongImage i.second)

-- what a run promises that has these inputs and ends so, in the order of the table of answers
pub record KeyFilesRuns (i : KeyFileInputs) (e : Ending) : Type 0 where
  -- The program prints a row of the table and ends with its status, or at 6 a prefix of one.
  pub ends : EndsInRow (ComesOfKeyFiles i) e
  -- 0: exactly the request that is built was printed, the update that is carried, that the reply confirms, or the MAC.
  pub done : e.status ≡ 0 → (task : Task) × AsksKeys i (Ok task)
      × ((text : List ℕ) × PrintsDone task text × PrintsWhole e text)
  -- 1: exactly if ID or AuthID is no slot's, M3 is wrong, or the reply doesn't confirm, with the line that says so.
  pub denied : e.status ≡ 1 → (task : Task) × AsksKeys i (Ok task)
      × ((text : List ℕ) × Denies task text × PrintsWhole e text)
  pub denied_only : (task : Task) (text : List ℕ) → OffersCall i (Ok task) → Denies task text → MayEndIn 1 e
  -- 2: exactly if the arguments are malformed; nothing was read.
  pub usage : e.status ≡ 2 → (call_of i.words ≡ None) × IsUnread i.first × IsUnread i.second
      × PrintsWhole e keyfile_usage
  pub usage_only : call_of i.words ≡ None → EndsIn 2 e
  -- 3: a value isn't of its form, and the first is named; or the image is empty.
  pub wrong_value : e.status ≡ 3 →
      ((bad : BadValue) × AsksKeys i (Err bad) × PrintsWhole e (value_text bad.number))
      ⊎ (HasFirst i Bootmac × ReadsImageFile i.second [] × PrintsWhole e no_image_text)
  pub wrong_value_only : (bad : BadValue) → OffersCall i (Err bad) → MayEndIn 3 e
  -- 4: a file was read whole, and has no key.
  pub no_key : e.status ≡ 4 → LacksKeyIn i × PrintsWhole e no_key_text
  pub no_key_only : (call : KeyCall) (bytes : List ℕ) → call_of i.words ≡ Some call → Offers i.first bytes
      → key_file_of bytes ≡ None → MayEndIn 4 e
  -- 5: exactly if a source's count of faults rose.
  pub read_fault : e.status ≡ 5 → (SourceFailed i.first ⊎ SourceFailed i.second) × PrintsWhole e (codes "read fault\n")
  pub read_fault_only : CountsFault i.first ⊎ CountsFault i.second → EndsIn 5 e
  -- 6: exactly if the sink's count of faults rose; a prefix was written of a row that comes.
  pub write_fault : e.status ≡ 6 → SinkFailed e × PrintsFront (ComesOfKeyFiles i) e
  pub write_fault_only : CountsWriteFault e → e.status ≡ 6
  -- 7: only if the arguments are a call; nothing was written.
  pub no_memory : e.status ≡ 7 → (call_of i.words ≢ None) × PrintsWhole e []
  -- 8: exactly if one byte more than a file may have came.
  pub too_long : e.status ≡ 8 → (GivesTooMuch i.first ⊎ SecondTooLong i) × PrintsWhole e (codes "input too long\n")
  pub too_long_only : CountsTooMuch i.first ⊎ CountsSecondTooLong i → EndsIn 8 e
  -- What is of its form is done, or refused by its messages, if no port failed and there was memory.
  pub complete : (task : Task) → OffersCall i (Ok task) → ¬ SinkFailed e
      → (e.status ≡ 0) ⊎ (e.status ≡ 1) ⊎ (e.status ≡ 7)
