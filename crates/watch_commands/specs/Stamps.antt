-- The time and the channel of a line of a log, and how they stand before an answer
use Rattle.std.specs.Prelude.{ℕ, ◌-◌, ◌==◌, ◌&&◌, nat_le, not, Bool, if◌then◌else◌, List, [], ◌∷◌, ◌++◌, length, take, drop, codes}
use Rattle.std.specs.List.{flat_map}
use Rattle.hex.specs.Hex.{encode_lower}
use Rattle.text_lines.specs.Readings.{nth_word}
use Rattle.can_logs.specs.Findings.{channel_of}
use Rattle.watch_commands.specs.declared.options.WatchOptions.{WatchOptions}

-- the first two words of a line: the time with its parentheses, and the channel
pub record LineStamp : Type 0 where
  pub time : List ℕ
  pub channel : List ℕ

abbrev pub stamp_of : List (List ℕ) → LineStamp
stamp_of words = record { time = nth_word words 1; channel = channel_of words }

-- a word without its first and its last byte
abbrev pub within_ends : List ℕ → List ℕ
within_ends word = take (length word - 2) (drop 1 word)

-- a printed character of ASCII, except for `"` and `\`, which are 34 and 92
abbrev pub is_plain_ascii : ℕ → Bool
is_plain_ascii byte = nat_le 32 byte && nat_le byte 126 && not (byte == 34) && not (byte == 92)

-- bytes as a string of JSON has them: such a character as it is, and any other byte as the character of its number
abbrev pub escaped_byte : ℕ → List ℕ
escaped_byte byte = if is_plain_ascii byte then byte ∷ [] else codes "\\u00" ++ encode_lower (byte ∷ [])

abbrev pub escaped : List ℕ → List ℕ
escaped bytes = flat_map escaped_byte bytes

-- both with a space after them; and as members of an object of JSON, behind its kind
abbrev pub stamp_words : LineStamp → List ℕ
stamp_words stamp = stamp.time ++ codes " " ++ stamp.channel ++ codes " "

abbrev pub stamp_object : LineStamp → List ℕ
stamp_object stamp =
    codes "{\"kind\":\"frame\",\"time\":\"" ++ escaped (within_ends stamp.time)
    ++ codes "\",\"channel\":\"" ++ escaped stamp.channel ++ codes "\","

-- what stands before an answer: the time and the channel if they are asked for, and of an object its
-- bracket and kind
abbrev pub lead_text : WatchOptions → LineStamp → List ℕ
lead_text options stamp =
    if options.time then (if options.json then stamp_object stamp else stamp_words stamp)
    else if options.json then codes "{\"kind\":\"frame\","
    else []
