-- No acknowledged update of a slot is undone but by a later one
use Rattle.std.specs.Prelude.{◌≡◌, ℕ, ◌<◌, ◌≤◌, ◌⊎◌, true, None, ◌∷◌, ◌++◌, length}
use Rattle.key_slots.specs.declared.memory.Slot.{Slot}
use Rattle.key_slots.specs.Slots.{slot_at, counter_of, is_empty}
use Rattle.bus_machine.specs.declared.lines.Line.{Line}
use Rattle.bus_machine.specs.declared.lines.Line.TheVariants.{Keyed, Loaded, Refused}
use Rattle.bus_machine.specs.declared.lines.Refusal.TheVariants.{MemoryFailure}
use Rattle.bus_machine.specs.Node.{slot_to}
use Rattle.bus_machine.specs.Steps.{Makes}
use Rattle.bus_machine.specs.Bus.{World, Instant, Moments, node_of, node_at, act_of, state_after, AtSome}

-- what slot t of node i holds
abbrev pub slot_in : World → ℕ → ℕ → Slot
slot_in world i t = slot_at (node_at world i).kept.slots t

-- the moment's event is an update of slot t of node i to this content
abbrev pub IsUpdateOf : ℕ → ℕ → Slot → World → Instant → Type 0
IsUpdateOf i t slot before m =
    (node_of m.command ≡ i) × Makes (node_at before i) (act_of before m.command) (slot_to t slot)

abbrev pub IsTaken : Line → Type 0
IsTaken (Keyed slot) = Unit {0}
IsTaken (Loaded reply) = Unit {0}
IsTaken _ = ⊥

-- the update is acknowledged: its line is loaded or keyed
abbrev pub Acknowledges : ℕ → ℕ → Slot → World → Instant → Type 0
Acknowledges i t slot before m = IsTaken m.line × IsUpdateOf i t slot before m

-- the disk failed while the update was made
abbrev pub FailsUpdate : ℕ → ℕ → Slot → World → Instant → Type 0
FailsUpdate i t slot before m = (m.line ≡ Refused MemoryFailure) × IsUpdateOf i t slot before m

-- what slot t of node i holds after the moments `since` an update to `slot`: that, or the whole update of one of them
-- that failed
abbrev pub HoldsUpdate : ℕ → ℕ → Slot → World → Moments → Type 0
HoldsUpdate i t slot world since =
    let now = slot_in (state_after world since) i t in
    (now ≡ slot) ⊎ AtSome (FailsUpdate i t now) world since

-- after each acknowledged update, as long as no later one of the slot is acknowledged
abbrev pub UpdatesHold : World → Moments → Type 0
UpdatesHold start ms =
    (done : Moments) (m : Instant) (since later : Moments) (i t : ℕ) (slot : Slot)
    → ms ≡ done ++ m ∷ since ++ later
    → Acknowledges i t slot (state_after start done) m
    → ((other : Slot) → ¬ AtSome (Acknowledges i t other) m.after since)
    → HoldsUpdate i t slot m.after since

-- a slot's counter doesn't fall, and a slot that is filled doesn't become empty
pub record GoesOn (old new : Slot) : Type 0 where
  pub counter : counter_of old ≤ counter_of new
  pub filled : is_empty new ≡ true → is_empty old ≡ true

abbrev pub SlotsGoOn : World → Moments → Type 0
SlotsGoOn start ms =
    (done since later : Moments) (i t : ℕ) → ms ≡ done ++ since ++ later → i < length start.nodes
    → GoesOn (slot_in (state_after start done) i t) (slot_in (state_after start (done ++ since)) i t)

pub record KeysKept (start : World) (ms : Moments) : Type 0 where
  pub updates_hold : UpdatesHold start ms
  pub slots_go_on : SlotsGoOn start ms

-- ---- what a power-up settled

-- nothing was pending at first. After the moments `since` slot t of node i holds what it held then, or an update of one
-- of them that was acknowledged or failed
abbrev pub StaysOrRenews : ℕ → ℕ → World → Moments → Type 0
StaysOrRenews i t world since =
    let now = slot_in (state_after world since) i t in
    (now ≡ slot_in world i t) ⊎ (AtSome (Acknowledges i t now) world since ⊎ AtSome (FailsUpdate i t now) world since)

-- so an update that failed, and that a power-up then dropped, is gone for good
abbrev pub SettledSlotsStay : World → Moments → Type 0
SettledSlotsStay start ms =
    (done since later : Moments) (i t : ℕ)
    → ms ≡ done ++ since ++ later
    → (node_at (state_after start done) i).pending ≡ None
    → StaysOrRenews i t (state_after start done) since
