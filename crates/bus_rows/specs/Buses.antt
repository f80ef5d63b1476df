-- The buses of the worked runs, and what is loaded, sent and received on them
use Rattle.std.specs.Prelude.{ℕ, true, false, List, [], ◌∷◌, ◌++◌, replicate}
use Rattle.key_slots.specs.declared.memory.Flags.{Flags}
use Rattle.memory_update.specs.declared.messages.Update.{Update}
use Rattle.freshness_routes.specs.declared.routes.Direction.TheVariants.{Sends, Receives}
use Rattle.freshness_routes.specs.Config.{Config}

-- the identifier of fifteen bytes whose last one is n
abbrev pub numbered_uid : ℕ → List ℕ
numbered_uid n = replicate 14 0 ++ n ∷ []

abbrev pub zero_uid : List ℕ
zero_uid = numbered_uid 0

-- a node with one route, which sends from this bound on with a reserve of 4
abbrev pub sending_from : ℕ → Config
sending_from start = record {
  uid = numbered_uid 1;
  routes = record { id = 0x6bc1; direction = Sends; slot = 4; reserve = 4; window = 256; start = start } ∷ [];
}

-- a node with one route, which receives from this bound on
abbrev pub receiving_from : ℕ → Config
receiving_from start = record {
  uid = numbered_uid 2;
  routes = record { id = 0x6bc1; direction = Receives; slot = 4; reserve = 1; window = 256; start = start } ∷ [];
}

abbrev pub bus_a : List Config
bus_a = sending_from 0xe93d7e1173931729 ∷ receiving_from 0xe93d7e1173931729 ∷ []

-- the same bus with one freshness left to the sender
abbrev pub last_bus : List Config
last_bus = sending_from 0xfffffffffffffffe ∷ receiving_from 0xe93d7e1173931729 ∷ []

-- a bus whose receiver has this reserve and this window
abbrev pub receiving_with : ℕ → ℕ → Config
receiving_with reserve window = record {
  uid = numbered_uid 2;
  routes =
      record {
        id = 0x6bc1;
        direction = Receives;
        slot = 4;
        reserve = reserve;
        window = window;
        start = 0xe93d7e1173931729;
      } ∷ [];
}

abbrev pub bus_with : ℕ → ℕ → List Config
bus_with reserve window = sending_from 0xe93d7e1173931729 ∷ receiving_with reserve window ∷ []

-- a bus whose receiver has accepted the greatest freshness
abbrev pub ended_bus : List Config
ended_bus = sending_from 0xe93d7e1173931729 ∷ receiving_from 0xffffffffffffffff ∷ []

-- ---- keys and updates

-- the authorising key of an empty slot
abbrev pub all_ones : List ℕ
all_ones = replicate 16 255

-- 000102030405060708090a0b0c0d0e0f
abbrev pub master_key : List ℕ
master_key = 0 ∷ 1 ∷ 2 ∷ 3 ∷ 4 ∷ 5 ∷ 6 ∷ 7 ∷ 8 ∷ 9 ∷ 10 ∷ 11 ∷ 12 ∷ 13 ∷ 14 ∷ 15 ∷ []

-- 2b7e151628aed2a6abf7158809cf4f3c
abbrev pub bus_key : List ℕ
bus_key =
    0x2b ∷ 0x7e ∷ 0x15 ∷ 0x16 ∷ 0x28 ∷ 0xae ∷ 0xd2 ∷ 0xa6 ∷ 0xab ∷ 0xf7 ∷ 0x15 ∷ 0x88 ∷ 0x09 ∷ 0xcf ∷ 0x4f ∷ 0x3c ∷ []

abbrev pub clear_flags : Flags
clear_flags = record { write = false; boot = false; debugger = false; usage = false; wildcard = false }

abbrev pub for_macs : Flags
for_macs = record clear_flags { usage = true }

abbrev pub for_macs_after_boot : Flags
for_macs_after_boot = record for_macs { boot = true }

abbrev pub write_protected : Flags
write_protected = record clear_flags { write = true }

abbrev pub no_wildcard : Flags
no_wildcard = record clear_flags { wildcard = true }

-- UID, slot, authorising slot, counter, flags and key
abbrev pub update_of : List ℕ → ℕ → ℕ → ℕ → Flags → List ℕ → Update
update_of uid id auth counter flags key =
    record { uid = uid; id = id; auth = auth; counter = counter; flags = flags; key = key }

-- ---- frames

abbrev pub bus_payload : List ℕ
bus_payload = 0xbe ∷ 0xe2 ∷ 0x2e ∷ 0x40 ∷ 0x9f ∷ 0x96 ∷ []

-- the payload with freshness e93d7e117393172a
abbrev pub first_frame : List ℕ
first_frame = bus_payload ++ 0x2a ∷ 0x07 ∷ 0x0a ∷ 0x16 ∷ []

-- with e93d7e117393172e
abbrev pub later_frame : List ℕ
later_frame = bus_payload ++ 0x2e ∷ 0x56 ∷ 0x7e ∷ 0x86 ∷ []

-- with ffffffffffffffff
abbrev pub last_frame : List ℕ
last_frame = bus_payload ++ 0xff ∷ 0x9a ∷ 0x7f ∷ 0x8d ∷ []

abbrev pub altered_payload : List ℕ
altered_payload = 0xbe ∷ 0xe2 ∷ 0x2e ∷ 0x40 ∷ 0x9f ∷ 0x97 ∷ []

-- the first frame with another payload
abbrev pub altered_frame : List ℕ
altered_frame = altered_payload ++ 0x2a ∷ 0x07 ∷ 0x0a ∷ 0x16 ∷ []
