-- Which lines the code's type has
use Rattle.std.specs.Prelude.{ℕ, ◌≡◌, ◌<◌, ◌≤◌, ◌^◌, IfSome, List, length, All}
use Rattle.basics.specs.Bytes.{IsBytes}
use Rattle.memory_update.specs.declared.messages.Reply.{Reply}
use Rattle.bus_machine.specs.declared.lines.Line.{Line}
use Rattle.bus_machine.specs.declared.lines.Line.TheVariants.{Sent, Accepted, Keyed, Loaded, Refused}
use Rattle.bus_machine.specs.declared.lines.Refusal.{Refusal}
use Rattle.bus_machine.specs.declared.lines.Refusal.TheVariants.{Damaged, BadSlot, BadBound}

-- at most 64 bytes
pub record IsPdu (bytes : List ℕ) : Type 0 where
  pub short : length bytes ≤ 64
  pub are_bytes : IsBytes (length bytes) bytes

-- M4 of two blocks, and M5 of one
pub record IsReply (reply : Reply) : Type 0 where
  pub two : length reply.m4 ≡ 2
  pub m4 : All (IsBytes 16) reply.m4
  pub m5 : IsBytes 16 reply.m5

abbrev pub IsRefusal : Refusal → Type 0
IsRefusal (Damaged place) = place < 2 ^ 16
IsRefusal (BadSlot slot) = slot < 14
IsRefusal (BadBound cell) = cell < 2 ^ 16
IsRefusal _ = Unit {0}

-- numbers that fit, and bytes
abbrev pub IsLine : Line → Type 0
IsLine (Sent id v pdu) = (id < 2 ^ 16) × (v < 2 ^ 64) × IsPdu pdu
IsLine (Accepted id v payload source) =
    (id < 2 ^ 16) × (v < 2 ^ 64) × IsPdu payload × IfSome source (λ event. event < 2 ^ 32)
IsLine (Keyed slot) = slot < 14
IsLine (Loaded reply) = IsReply reply
IsLine (Refused refusal) = IsRefusal refusal
IsLine _ = Unit {0}
