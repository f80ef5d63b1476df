-- The texts that are printed, in lower-case digits, each line with its line feed.
use Rattle.std.specs.Prelude.{◌≡◌, ◌≢◌, ◌⊎◌, ℕ, List, [], ◌∷◌, ◌++◌, codes}
use Rattle.std.specs.List.{flat_map}
use Rattle.std.specs.Fmt.{decimal}
use Rattle.hex.specs.Hex.{encode_lower}
use Rattle.memory_update.specs.declared.messages.Request.{Request}
use Rattle.memory_update.specs.declared.messages.Update.{Update}
use Rattle.memory_update.specs.Messages.{Builds, Carries, Confirms, HasSlots, request_mac}
use Rattle.secure_boot.specs.Booting.{bootmac}
use Rattle.text_lines.specs.Texts.{line}
use Rattle.secoc_words.specs.Written.{flags_text}
use Rattle.key_commands.specs.declared.tasks.Task.{Task}
use Rattle.key_commands.specs.declared.tasks.Task.TheVariants.{Words, Load}
use Rattle.key_commands.specs.declared.tasks.WordTask.TheVariants.{Make, Read, Confirm, Bootmac}

-- the line that is printed if the arguments are malformed
abbrev pub key_usage : List ℕ
key_usage = line (codes "usage: make, read, confirm, bootmac, load")

-- the line that names the first value that isn't of its form
abbrev pub value_text : ℕ → List ℕ
value_text number = codes "value " ++ (decimal number ++ 10 ∷ [])

-- M1, M2 and M3, a line each
abbrev pub request_text : Request → List ℕ
request_text r =
    encode_lower r.m1 ++ (10 ∷ (flat_map encode_lower r.m2 ++ (10 ∷ (encode_lower r.m3 ++ 10 ∷ []))))

-- a MAC, on a line
abbrev pub mac_text : List ℕ → List ℕ
mac_text mac = encode_lower mac ++ 10 ∷ []

-- a line of a name, a space, which is 32, and a text, before other lines
abbrev pub row : List ℕ → List ℕ → List ℕ → List ℕ
row name text lines = name ++ (32 ∷ (text ++ (10 ∷ lines)))

-- the lines of whom an update is for, before other lines
abbrev pub target_rows : Update → List ℕ → List ℕ
target_rows u lines =
    row (codes "uid") (encode_lower u.uid) (row (codes "id") (decimal u.id) (row (codes "auth") (decimal u.auth) lines))

-- the lines of what it puts there
abbrev pub content_rows : Update → List ℕ
content_rows u =
    row (codes "counter") (decimal u.counter)
    (row (codes "flags") (flags_text u.flags) (row (codes "key") (encode_lower u.key) []))

-- the six values of an update, a line each
abbrev pub update_text : Update → List ℕ
update_text u = target_rows u (content_rows u)

-- what is printed if a task is done: the request that is built, the update that is carried, the confirmation, or the
-- boot MAC; a load has lines, and rows of its own
abbrev pub PrintsDone : Task → List ℕ → Type 0
PrintsDone (Words (Make update authkey)) text =
    (request : Request) × Builds request authkey update × (text ≡ request_text request)
PrintsDone (Words (Read request authkey)) text =
    (update : Update) × Carries request authkey update × (text ≡ update_text update)
PrintsDone (Words (Confirm reply update)) text =
    Confirms reply update update.uid × (text ≡ line (codes "confirmed"))
PrintsDone (Words (Bootmac key image)) text = text ≡ mac_text (bootmac key image)
PrintsDone (Load uid) text = ⊥

-- what is printed if the messages are refused: ID or AuthID is no slot's, M3 is wrong, or M4 and M5 are not the
-- update's
abbrev pub Denies : Task → List ℕ → Type 0
Denies (Words (Make update authkey)) text = ⊥
Denies (Words (Read request authkey)) text =
    (¬ HasSlots request.m1 × (text ≡ line (codes "BadId")))
    ⊎ (HasSlots request.m1 × (request.m3 ≢ request_mac authkey request.m1 request.m2) × (text ≡ line (codes "BadMac")))
Denies (Words (Confirm reply update)) text =
    ¬ Confirms reply update update.uid × (text ≡ line (codes "not confirmed"))
Denies (Words (Bootmac key image)) text = ⊥
Denies (Load uid) text = ⊥
