-- Lines of `frame`, `judge` and `load`, and flags, as they are written in lower-case digits.
use Rattle.std.specs.Prelude.{◌≡◌, ℕ, ◌<◌, ◌≤◌, ◌^◌, List, [], ◌∷◌, ◌++◌, length, All}
use Rattle.std.specs.List.{flat_map}
use Rattle.std.specs.Fmt.{decimal}
use Rattle.basics.specs.Bytes.{IsBytes}
use Rattle.basics.specs.Numbers.{bytes_of}
use Rattle.hex.specs.Hex.{encode_lower}
use Rattle.key_slots.specs.Flags.{bit}
use Rattle.key_slots.specs.declared.memory.Flags.{Flags}
use Rattle.memory_update.specs.declared.messages.Request.{Request}
use Rattle.secoc_words.specs.declared.frames.FrameLine.{FrameLine}
use Rattle.secoc_words.specs.declared.judges.JudgeLine.{JudgeLine}
use Rattle.text_lines.specs.Written.{bytes_word}

-- the words of a line of `frame`
abbrev pub frame_words : FrameLine → List (List ℕ)
frame_words line =
    encode_lower line.key ∷ encode_lower (bytes_of 2 line.id) ∷ encode_lower (bytes_of 8 line.freshness)
    ∷ encode_lower line.payload ∷ []

-- the words of a line of `judge`
abbrev pub judge_words : JudgeLine → List (List ℕ)
judge_words line =
    encode_lower line.key ∷ encode_lower (bytes_of 2 line.id) ∷ encode_lower (bytes_of 8 line.counter)
    ∷ bytes_word line.pdu ∷ []

-- the words of a line of `load`
abbrev pub load_words : Request → List (List ℕ)
load_words request = encode_lower request.m1 ∷ flat_map encode_lower request.m2 ∷ encode_lower request.m3 ∷ []

-- five digits 0 or 1, in the order WRITE_PROTECTION, BOOT_PROTECTION, DEBUGGER_PROTECTION, KEY_USAGE, WILDCARD
abbrev pub flags_text : Flags → List ℕ
flags_text f =
    decimal (bit f.write)
    ++ (decimal (bit f.boot) ++ (decimal (bit f.debugger) ++ (decimal (bit f.usage) ++ decimal (bit f.wildcard))))

-- a line of `frame`: a key of 16 bytes, numbers that fit their types, and a payload of 1 to 60 bytes
pub record IsFrameLine (line : FrameLine) : Type 0 where
  pub key : IsBytes 16 line.key
  pub id_fits : line.id < 2 ^ 16
  pub freshness_fits : line.freshness < 2 ^ 64
  pub some : 0 < length line.payload
  pub short : length line.payload ≤ 60
  pub payload_bytes : IsBytes (length line.payload) line.payload

-- a line of `judge`: a key of 16 bytes, numbers that fit their types, and bytes of any number
pub record IsJudgeLine (line : JudgeLine) : Type 0 where
  pub key : IsBytes 16 line.key
  pub id_fits : line.id < 2 ^ 16
  pub counter_fits : line.counter < 2 ^ 64
  pub pdu_bytes : IsBytes (length line.pdu) line.pdu

-- a line of `load`: four blocks
pub record IsLoad (request : Request) : Type 0 where
  pub m1 : IsBytes 16 request.m1
  pub two : length request.m2 ≡ 2
  pub m2 : All (IsBytes 16) request.m2
  pub m3 : IsBytes 16 request.m3
