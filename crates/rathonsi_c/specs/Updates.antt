-- The structs of a key update, as the memory update protocol of SHE has them
use Rattle.std.specs.Prelude.{ℕ, ◌<◌, ◌≤◌, ◌^◌}
use Rattle.key_slots.specs.Flags.{flags_from}
use Rattle.memory_update.specs.declared.messages.Update.{Update}
use Rattle.memory_update.specs.declared.messages.Request.{Request}
use Rattle.memory_update.specs.declared.messages.Reply.{Reply}
use Rattle.rathonsi_c.specs.declared.she.RathonsiUpdate.{RathonsiUpdate}
use Rattle.rathonsi_c.specs.declared.she.RathonsiRequest.{RathonsiRequest}
use Rattle.rathonsi_c.specs.declared.she.RathonsiReply.{RathonsiReply}

-- its numbers are within what the messages carry: slots 0 to 13, a counter of 28 bits, five flags
pub record IsSendable (u : RathonsiUpdate) : Type 0 where
  pub id_fits : u.id < 14
  pub auth_fits : u.auth < 14
  pub counter_fits : u.counter < 2 ^ 28
  pub flags_fit : u.flags < 32

-- the update that a struct is
abbrev pub as_update : RathonsiUpdate → Update
as_update u =
    record { uid = u.uid; id = u.id; auth = u.auth; counter = u.counter; flags = flags_from u.flags; key = u.key }

-- M1, M2 and M3
abbrev pub as_request : RathonsiRequest → Request
as_request r = record { m1 = r.m1; m2 = r.m2; m3 = r.m3 }

-- M4 and M5
abbrev pub as_reply : RathonsiReply → Reply
as_reply r = record { m4 = r.m4; m5 = r.m5 }

-- KEY_UPDATE_ENC_C is 1, and KEY_UPDATE_MAC_C is 2
abbrev pub IsConstant : ℕ → Type 0
IsConstant constant = (1 ≤ constant) × (constant ≤ 2)
