-- A worked run with the messages of the SHE specification's example, written out
use Rattle.std.specs.Prelude.{List, [], ◌∷◌}
use Rattle.key_slots.specs.declared.refusals.Erc.TheVariants.{KeyInvalid, KeyEmpty, KeyUpdateError}
use Rattle.memory_update.specs.declared.messages.Request.{Request}
use Rattle.memory_update.specs.declared.messages.Reply.{Reply}
use Rattle.memory_update.specs.declared.messages.Update.{Update}
use Rattle.bus_machine.specs.declared.events.Event.{Event}
use Rattle.bus_machine.specs.declared.events.Event.TheVariants.{Load, Key}
use Rattle.bus_machine.specs.declared.lines.Line.{Line}
use Rattle.bus_machine.specs.declared.lines.Line.TheVariants.{Keyed, Loaded, Refused}
use Rattle.bus_machine.specs.declared.lines.Refusal.TheVariants as why
use Rattle.bus_rows.specs.Buses.{numbered_uid, all_ones, bus_key, clear_flags, update_of}
use Rattle.bus_rows.specs.Rows.{master_loaded}

-- M1, M2 and M3 of the example
abbrev pub example_request : Request
example_request = record {
  m1 = 0x00 ∷ 0x00 ∷ 0x00 ∷ 0x00 ∷ 0x00 ∷ 0x00 ∷ 0x00 ∷ 0x00 ∷ 0x00 ∷ 0x00 ∷ 0x00 ∷ 0x00 ∷ 0x00 ∷ 0x00 ∷ 0x01 ∷ 0x41
      ∷ [];
  m2 = (0x2b ∷ 0x11 ∷ 0x1e ∷ 0x2d ∷ 0x93 ∷ 0xf4 ∷ 0x86 ∷ 0x56 ∷ 0x6b ∷ 0xcb ∷ 0xba ∷ 0x1d ∷ 0x7f ∷ 0x7a ∷ 0x97 ∷ 0x97
      ∷ []) ∷ (0xc9 ∷ 0x46 ∷ 0x43 ∷ 0xb0 ∷ 0x50 ∷ 0xfc ∷ 0x5d ∷ 0x4d ∷ 0x7d ∷ 0xe1 ∷ 0x4c ∷ 0xff ∷ 0x68 ∷ 0x22 ∷ 0x03
      ∷ 0xc3 ∷ []) ∷ [];
  m3 = 0xb9 ∷ 0xd7 ∷ 0x45 ∷ 0xe5 ∷ 0xac ∷ 0xe7 ∷ 0xd4 ∷ 0x18 ∷ 0x60 ∷ 0xbc ∷ 0x63 ∷ 0xc2 ∷ 0xb9 ∷ 0xf5 ∷ 0xbb ∷ 0x46
      ∷ [];
}

-- M4 and M5
abbrev pub example_reply : Reply
example_reply = record {
  m4 = (0x00 ∷ 0x00 ∷ 0x00 ∷ 0x00 ∷ 0x00 ∷ 0x00 ∷ 0x00 ∷ 0x00 ∷ 0x00 ∷ 0x00 ∷ 0x00 ∷ 0x00 ∷ 0x00 ∷ 0x00 ∷ 0x01 ∷ 0x41
      ∷ []) ∷ (0xb4 ∷ 0x72 ∷ 0xe8 ∷ 0xd8 ∷ 0x72 ∷ 0x7d ∷ 0x70 ∷ 0xd5 ∷ 0x72 ∷ 0x95 ∷ 0xe7 ∷ 0x48 ∷ 0x49 ∷ 0xa2 ∷ 0x79
      ∷ 0x17 ∷ []) ∷ [];
  m5 = 0x82 ∷ 0x0d ∷ 0x8d ∷ 0x95 ∷ 0xdc ∷ 0x11 ∷ 0xb4 ∷ 0x66 ∷ 0x88 ∷ 0x78 ∷ 0x16 ∷ 0x0c ∷ 0xb2 ∷ 0xa4 ∷ 0xe2 ∷ 0x3e
      ∷ [];
}

-- the same request for slot 14, which is none
abbrev pub request_for_14 : Request
request_for_14 = record {
  m1 = 0x00 ∷ 0x00 ∷ 0x00 ∷ 0x00 ∷ 0x00 ∷ 0x00 ∷ 0x00 ∷ 0x00 ∷ 0x00 ∷ 0x00 ∷ 0x00 ∷ 0x00 ∷ 0x00 ∷ 0x00 ∷ 0x01 ∷ 0xe1
      ∷ [];
  m2 = example_request.m2;
  m3 = example_request.m3;
}

-- slot 4 updated with the bus key by slot 1, under this authorising key
abbrev pub other_update : Update
other_update = update_of (numbered_uid 1) 4 1 2 clear_flags bus_key

abbrev pub example_loaded : List (Event × Line)
example_loaded =
    (master_loaded 0 1, Keyed 1)
    ∷ (Load 0 example_request, Loaded example_reply)
    ∷ (Load 0 example_request, Refused (why.Key KeyUpdateError))
    ∷ (Key 0 (update_of (numbered_uid 1) 5 4 1 clear_flags bus_key) bus_key, Refused (why.Key KeyInvalid))
    ∷ (Key 0 (update_of (numbered_uid 1) 3 2 1 clear_flags bus_key) all_ones, Refused (why.Key KeyEmpty))
    ∷ (Key 0 other_update bus_key, Refused (why.Key KeyUpdateError))
    ∷ (Load 0 request_for_14, Refused (why.Key KeyInvalid)) ∷ []
