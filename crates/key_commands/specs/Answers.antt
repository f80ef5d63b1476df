-- What an engine answers to requests, over its slots alone
use Rattle.std.specs.Prelude.{◌≡◌, ℕ, false, Ok, Err, List, [], ◌∷◌, set}
use Rattle.key_slots.specs.declared.memory.Slot.{Slot}
use Rattle.memory_update.specs.declared.messages.Request.{Request}
use Rattle.memory_update.specs.declared.messages.Update.{Update}
use Rattle.memory_update.specs.Messages.{Confirms}
use Rattle.memory_update.specs.Loading.{Allows, slot_of}
use Rattle.key_commands.specs.declared.lines.LoadLine.{LoadLine}
use Rattle.key_commands.specs.declared.lines.LoadLine.TheVariants.{Loaded, Refused, Failed}

-- the engine with this identifier, which made no boot, takes the update that the request carries
abbrev pub Takes : List ℕ → List Slot → Request → Update → Type 0
Takes uid slots request update = Allows slots false uid request (Ok update)

-- What the engine with this identifier answers to a request over these slots, and the slots that it has then: an update
-- that it takes stands in its slot and is confirmed, or the disk failed and the slots stay; else the first refusal that
-- applies.
abbrev pub AnswersRequest : List ℕ → List Slot → Request → LoadLine → List Slot → Type 0
AnswersRequest uid slots request (Loaded reply) after =
    (update : Update) × Takes uid slots request update × Confirms reply update uid
    × (after ≡ set slots update.id (slot_of update))
AnswersRequest uid slots request (Refused refusal) after =
    Allows slots false uid request (Err refusal) × (after ≡ slots)
AnswersRequest uid slots request Failed after = ((update : Update) × Takes uid slots request update) × (after ≡ slots)

-- what it answers to requests, one after another, and the slots that it has then
pub data AnswersEach (uid : List ℕ) : List Slot → List Request → List LoadLine → List Slot → Type 0 where
  no_requests : (slots : List Slot) → AnswersEach uid slots [] [] slots
  one_more : (slots mid after : List Slot) (request : Request) (requests : List Request) (line : LoadLine)
      (lines : List LoadLine)
      → AnswersRequest uid slots request line mid → AnswersEach uid mid requests lines after
      → AnswersEach uid slots (request ∷ requests) (line ∷ lines) after
