-- The lines of a script of pairs: its head, and then arrivals, or PDUs to be made.
use Rattle.std.specs.Prelude.{◌≡◌, ℕ, ◌+◌, nat_le, if◌then◌else◌, List, [], ◌∷◌, map, codes}
use Rattle.std.specs.Prelude.{Option, None, Some, option_and_then, Result, Ok, Err}
use Rattle.std.specs.Str.{bytes_eq}
use Rattle.text_lines.specs.declared.fault.Cause.{Cause}
use Rattle.text_lines.specs.declared.fault.Cause.TheVariants as cause
use Rattle.secoc_words.specs.Forms.{key_form, data_id_form, fresh_form}
use Rattle.text_lines.specs.Forms.{number_form, bytes_form}
use Rattle.text_lines.specs.Readings.{Fault, ◌>>=◌, nth_word, field, with_count, read_all, most_lines}
use Rattle.pdu_collection.specs.Collection.{Place}
use Rattle.pdu_collection.specs.declared.pair_lines.Head.{Head}
use Rattle.pdu_collection.specs.declared.pair_lines.Entry.{Entry}
use Rattle.pdu_collection.specs.declared.pair_lines.Entry.TheVariants.{Authentic, Cryptographic, Secured}
use Rattle.pdu_collection.specs.declared.pair_lines.PairLine.{PairLine}
use Rattle.pdu_collection.specs.declared.pair_lines.PairLine.TheVariants as line

-- AT: the place of the link's first byte in a payload
abbrev pub at_form : List ℕ → Option ℕ
at_form word = number_form 0 59 word

-- LEN: how many bytes the link has, which end within a payload of 60 bytes; so the place of the link
unfoldable pub place_form : ℕ → List ℕ → Option Place
place_form at word =
    option_and_then (λ size. if nat_le (at + size) 60 then Some (record { at = at; size = size }) else None)
    (number_form 1 4 word)

-- `pair KEY ID FRESH AT LEN`, where FRESH is the receiver's counter
unfoldable pub head_of : List (List ℕ) → Result Head Cause
head_of words = if bytes_eq (nth_word words 1) (codes "pair") then with_count 6 words (do
  key ← field 2 (key_form (nth_word words 2))
  id ← field 3 (data_id_form (nth_word words 3))
  counter ← field 4 (fresh_form (nth_word words 4))
  at ← field 5 (at_form (nth_word words 5))
  place ← field 6 (place_form at (nth_word words 6))
  Ok (record { key = key; id = id; counter = counter; place = place }))
    else Err cause.Event

-- `a BYTES`: an authentic PDU arrives
unfoldable pub authentic_of : List (List ℕ) → Result Entry Cause
authentic_of words = with_count 2 words (do
  pdu ← field 2 (bytes_form (nth_word words 2))
  Ok (Authentic pdu))

-- `c BYTES`: a cryptographic PDU arrives
unfoldable pub cryptographic_of : List (List ℕ) → Result Entry Cause
cryptographic_of words = with_count 2 words (do
  pdu ← field 2 (bytes_form (nth_word words 2))
  Ok (Cryptographic pdu))

-- `s FRESH BYTES`: the two PDUs of a payload and a freshness are asked for
unfoldable pub secured_of : List (List ℕ) → Result Entry Cause
secured_of words = with_count 3 words (do
  freshness ← field 2 (fresh_form (nth_word words 2))
  payload ← field 3 (bytes_form (nth_word words 3))
  Ok (Secured freshness payload))

-- a line after the head
unfoldable pub pair_entry_of : List (List ℕ) → Result Entry Cause
pair_entry_of words =
    if bytes_eq (nth_word words 1) (codes "a") then authentic_of words
    else if bytes_eq (nth_word words 1) (codes "c") then cryptographic_of words
    else if bytes_eq (nth_word words 1) (codes "s") then secured_of words
    else Err cause.Event

-- the first line is the head, and no other one
abbrev pub pair_line_of : List PairLine → List (List ℕ) → Result PairLine Cause
pair_line_of [] words = do
  head ← head_of words
  Ok (line.Head head)
pair_line_of (_ ∷ _) words = do
  entry ← pair_entry_of words
  Ok (line.Entry entry)

-- the lines of a script of pairs, or its first fault
unfoldable pub pairs_of : List ℕ → Result (List PairLine) Fault
pairs_of text = read_all pair_line_of most_lines text

-- the lines are a head and entries after it
abbrev pub IsScript : List PairLine → Head → List Entry → Type 0
IsScript lines head entries = lines ≡ line.Head head ∷ map line.Entry entries
