-- The printed text of a reason
use Rattle.std.specs.Prelude.{ℕ, ◌-◌, ◌*◌, ◌^◌, nat_le, if◌then◌else◌, List, [], ◌++◌, codes, decimal}
use Rattle.text_lines.specs.Texts.{line}
use Rattle.can_logs.specs.Findings.{front_text}
use Rattle.explain_commands.specs.declared.kinds.Reason.{Reason}
use Rattle.explain_commands.specs.declared.kinds.Reason.TheVariants as reason
use Rattle.explain_commands.specs.declared.kinds.Explained.{Explained}

-- a text and a number
abbrev pub text_with_number : List ℕ → ℕ → List ℕ
text_with_number text number = text ++ decimal number

-- so many frames fewer missed before it, and the frame would have been accepted
abbrev pub beyond_text : ℕ → List ℕ
beyond_text missed = text_with_number (codes ", ") missed ++ codes " frames were missed beyond it"

abbrev pub ahead_text : ℕ → ℕ → List ℕ
ahead_text steps window =
    decimal steps ++ text_with_number (codes " ahead: the window is ") window ++ beyond_text (steps - window)

abbrev pub flipped_text : ℕ → ℕ → List ℕ
flipped_text byte bit = codes "bit " ++ decimal bit ++ codes " of byte " ++ decimal byte ++ codes " is flipped"

abbrev pub reason_text : Reason → List ℕ
reason_text (reason.Replay number) = text_with_number (codes "replay of line ") number
reason_text (reason.UsedAgain number) = text_with_number (codes "freshness used again: that of line ") number
reason_text (reason.Behind steps) = decimal steps ++ codes " behind the last freshness"
reason_text (reason.FarAhead steps window) = ahead_text steps window
reason_text (reason.OtherLength size) = text_with_number (codes "verifies with a payload of ") size
reason_text (reason.OtherLine number) = text_with_number (codes "verifies as line ") number
reason_text (reason.OtherKey number) = text_with_number (codes "verifies with the key of line ") number
reason_text (reason.OtherId number) = text_with_number (codes "verifies with the Data ID of line ") number
reason_text reason.SwappedId = codes "verifies with the Data ID's bytes in the other order"
reason_text reason.SwappedFreshness = codes "verifies with the freshness's bytes in the other order"
reason_text reason.NoId = codes "verifies without the Data ID"
reason_text reason.ShortFreshness = codes "verifies with a freshness of 32 bits"
reason_text reason.LastBytes = codes "authenticator is the CMAC's last bytes"
reason_text reason.ReversedTag = codes "authenticator's bytes are in the other order"
reason_text reason.ReversedKey = codes "verifies with the key's bytes in the other order"
reason_text reason.TrailerFirst = codes "verifies with freshness and authenticator before the payload"
reason_text (reason.OtherCover size) = text_with_number (codes "authenticated length of the payload is ") size
reason_text (reason.OtherLow steps) = text_with_number (codes "freshness byte is another: ahead by ") steps
reason_text (reason.FlippedBit byte bit) = flipped_text byte bit
reason_text reason.CanAsId = codes "verifies with the CAN identifier as Data ID"
reason_text (reason.TooShort size) = text_with_number (codes "too short for a payload of ") size
reason_text reason.NoReason = codes "no reason found: key, or contents"

-- three bytes agree by accident once in 2^24 tries. After so many tries that this happens more than once in a thousand
-- frames, a reason is only a guess
abbrev pub hedge : Reason → ℕ → List ℕ
hedge (reason.TooShort size) tries = []
hedge reason.NoReason tries = []
hedge _ tries = if nat_le (1000 * tries) (2 ^ 24) then [] else codes "perhaps "

-- a reason, and how many authenticators were computed to find it
abbrev pub explained_text : Explained → List ℕ
explained_text e = hedge e.reason e.tries ++ reason_text e.reason ++ text_with_number (codes ", tries ") e.tries

-- the line of a frame that fails: the number of its line in the log, what is printed of the map's line, and why
abbrev pub explained_line : ℕ → List ℕ → Explained → List ℕ
explained_line number head e = line (front_text number head ++ explained_text e)
