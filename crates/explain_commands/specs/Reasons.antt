-- Why a frame fails: the reasons in the order in which they are looked for, and the first that holds
use Rattle.std.specs.Prelude.{ℕ, ◌+◌, ◌-◌, ◌*◌, ◌/◌, ◌%◌, ◌^◌, ◌==◌, ◌&&◌, not, nat_lt, Bool, true, false, if◌then◌else◌, List, [], ◌∷◌, length, reverse, filter, find, slice_get, slice_index, slice_set, bit_xor, Option, None, Some, option_map, unwrap_or}
use Rattle.std.specs.List.{fold, range_with_len}
use Rattle.can_logs.specs.declared.map_lines.MapLine.{MapLine}
use Rattle.explain_commands.specs.declared.trials.Making.TheVariants as making
use Rattle.explain_commands.specs.declared.trials.Comparison.{Comparison}
use Rattle.explain_commands.specs.declared.trials.Comparison.TheVariants as compared
use Rattle.explain_commands.specs.declared.trials.KnownReceiver.{KnownReceiver}
use Rattle.explain_commands.specs.declared.kinds.ReasonKind.{ReasonKind}
use Rattle.explain_commands.specs.declared.kinds.ReasonKind.TheVariants as kind
use Rattle.explain_commands.specs.declared.recent.Accepted.{Accepted}
use Rattle.explain_commands.specs.declared.kinds.Reason.{Reason}
use Rattle.explain_commands.specs.declared.kinds.Reason.TheVariants as reason
use Rattle.explain_commands.specs.declared.kinds.Explained.{Explained}
use Rattle.explain_commands.specs.Trials.{trial_with, trial_within, trial_behind, trial_unlike, carries_tag, trial_covering, trial_turned, agrees, is_computed}

-- a frame that failed, and what is known before it: the lines of the map, the number of each in the map's text, and
-- their counters; the frames that were accepted, the latest first; the place of the line that hears the frame, what a
-- receiver of that line knows, and the data of the frame
pub record Failing : Type 0 where
  pub lines : List MapLine
  pub numbers : List ℕ
  pub counters : List ℕ
  pub recent : List Accepted
  pub place : ℕ
  pub receiver : KnownReceiver
  pub bytes : List ℕ

-- what a receiver of a line of the map knows
abbrev pub receiver_of : MapLine → ℕ → KnownReceiver
receiver_of entry counter =
    record { key = entry.key; id = entry.id; counter = counter; window = entry.window; size = entry.size }

-- ---- the tries of each kind, counted from 0

-- a receiver with another length of the payload, another key, or another Data ID
abbrev pub with_size : ℕ → KnownReceiver → KnownReceiver
with_size size r = record r { size = size }

abbrev pub with_key : List ℕ → KnownReceiver → KnownReceiver
with_key key r = record r { key = key }

abbrev pub with_id : ℕ → KnownReceiver → KnownReceiver
with_id id r = record r { id = id }

-- a line of the map other than the frame's own
abbrev pub over_other : Failing → ℕ → (MapLine → Comparison) → Comparison
over_other f place test =
    if place == f.place then compared.Skipped
    else unwrap_or (option_map test (slice_get f.lines place)) compared.Skipped

-- a test passes, or it doesn't
abbrev pub passes_or_not : Bool → Bool → Bool
passes_or_not true test = test
passes_or_not false test = not test

-- the freshness of a frame that the same line of the map accepted, and that has the same authenticator, or another
abbrev pub again_trial : Bool → Failing → Accepted → Comparison
again_trial same f a =
    if a.place == f.place && passes_or_not same (carries_tag f.receiver f.bytes a.tag)
    then trial_with f.receiver f.bytes a.freshness
    else compared.Skipped

abbrev pub again_at : Bool → Failing → ℕ → Comparison
again_at same f i = unwrap_or (option_map (again_trial same f) (slice_get f.recent i)) compared.Skipped

-- how far ahead of the counter the first freshness beyond the window is
abbrev pub beyond : KnownReceiver → ℕ
beyond r = r.window + 1

-- the bytes with one bit flipped. Bits are counted from the first byte on, and in a byte from the lowest
abbrev pub flipped : ℕ → List ℕ → List ℕ
flipped bit bytes = slice_set bytes (bit / 8) (bit_xor (slice_index bytes (bit / 8)) (2 ^ (bit % 8)))

-- the low 16 bits of hexadecimal digits: a decimal digit is 48 more than its value, and a letter in lower case 87
abbrev pub digit_number : ℕ → ℕ
digit_number digit = if nat_lt 57 digit then digit - 87 else digit - 48

abbrev pub low_16_bits : List ℕ → ℕ
low_16_bits digits = fold (λ sum digit. (sum * 16 + digit_number digit) % 65536) 0 digits

-- these of the CAN identifier as the Data ID, if they aren't the map's
abbrev pub can_trial : Failing → MapLine → Comparison
can_trial f l =
    if low_16_bits l.can == f.receiver.id then compared.Skipped
    else trial_within making.Standard (with_id (low_16_bits l.can) f.receiver) f.bytes

abbrev pub trial_of : Failing → ReasonKind → ℕ → Comparison
trial_of f kind.Replay i = again_at true f i
trial_of f kind.UsedAgain i = again_at false f i
trial_of f kind.Behind i = trial_behind f.receiver f.bytes i
trial_of f kind.FarAhead i = trial_with f.receiver f.bytes (f.receiver.counter + (beyond f.receiver + i))
trial_of f kind.OtherLength i =
    if i + 1 == f.receiver.size then compared.Skipped
    else trial_within making.Standard (with_size (i + 1) f.receiver) f.bytes
trial_of f kind.OtherLine i =
    over_other f i (λ l. trial_within making.Standard (receiver_of l (slice_index f.counters i)) f.bytes)
trial_of f kind.OtherKey i = over_other f i (λ l. trial_within making.Standard (with_key l.key f.receiver) f.bytes)
trial_of f kind.OtherId i = over_other f i (λ l. trial_within making.Standard (with_id l.id f.receiver) f.bytes)
trial_of f kind.SwappedId i = trial_within making.SwappedId f.receiver f.bytes
trial_of f kind.SwappedFreshness i = trial_within making.SwappedFreshness f.receiver f.bytes
trial_of f kind.NoId i = trial_within making.NoId f.receiver f.bytes
trial_of f kind.ShortFreshness i = trial_within making.ShortFreshness f.receiver f.bytes
trial_of f kind.LastBytes i = trial_within making.LastBytes f.receiver f.bytes
trial_of f kind.ReversedTag i = trial_within making.ReversedTag f.receiver f.bytes
trial_of f kind.ReversedKey i =
    trial_within making.Standard (with_key (reverse f.receiver.key) f.receiver) f.bytes
trial_of f kind.TrailerFirst i = trial_turned f.receiver f.bytes
trial_of f kind.OtherCover i =
    if i + 1 == f.receiver.size then compared.Skipped else trial_covering f.receiver (i + 1) f.bytes
trial_of f kind.OtherLow i = trial_unlike f.receiver f.bytes (f.receiver.counter + (i + 1))
trial_of f kind.FlippedBit i = trial_within making.Standard f.receiver (flipped i f.bytes)
trial_of f kind.CanAsId i = unwrap_or (option_map (can_trial f) (slice_get f.lines f.place)) compared.Skipped

-- how many tries there are: each accepted frame that is kept; the 2^16 values of freshness behind the counter, or
-- beyond the window; each length; each line of the map; one; each value within the window; each bit of the PDU
abbrev pub number_of_tries : Failing → ReasonKind → ℕ
number_of_tries f kind.Replay = length f.recent
number_of_tries f kind.UsedAgain = length f.recent
number_of_tries f kind.Behind = 65536
number_of_tries f kind.FarAhead = 65536
number_of_tries f kind.OtherLength = 60
number_of_tries f kind.OtherLine = length f.lines
number_of_tries f kind.OtherKey = length f.lines
number_of_tries f kind.OtherId = length f.lines
number_of_tries f kind.SwappedId = 1
number_of_tries f kind.SwappedFreshness = 1
number_of_tries f kind.NoId = 1
number_of_tries f kind.ShortFreshness = 1
number_of_tries f kind.LastBytes = 1
number_of_tries f kind.ReversedTag = 1
number_of_tries f kind.ReversedKey = 1
number_of_tries f kind.TrailerFirst = 1
number_of_tries f kind.OtherCover = 60
number_of_tries f kind.OtherLow = f.receiver.window
number_of_tries f kind.FlippedBit = 8 * (f.receiver.size + 4)
number_of_tries f kind.CanAsId = 1

-- the number of the log's line of an accepted frame
abbrev pub number_at : Failing → ℕ → ℕ
number_at f i = unwrap_or (option_map (λ a. a.number) (slice_get f.recent i)) 0

-- the reason that a try gives if it agrees
abbrev pub reason_at : Failing → ReasonKind → ℕ → Reason
reason_at f kind.Replay i = reason.Replay (number_at f i)
reason_at f kind.UsedAgain i = reason.UsedAgain (number_at f i)
reason_at f kind.Behind i = reason.Behind i
reason_at f kind.FarAhead i = reason.FarAhead (beyond f.receiver + i) f.receiver.window
reason_at f kind.OtherLength i = reason.OtherLength (i + 1)
reason_at f kind.OtherLine i = reason.OtherLine (slice_index f.numbers i)
reason_at f kind.OtherKey i = reason.OtherKey (slice_index f.numbers i)
reason_at f kind.OtherId i = reason.OtherId (slice_index f.numbers i)
reason_at f kind.SwappedId i = reason.SwappedId
reason_at f kind.SwappedFreshness i = reason.SwappedFreshness
reason_at f kind.NoId i = reason.NoId
reason_at f kind.ShortFreshness i = reason.ShortFreshness
reason_at f kind.LastBytes i = reason.LastBytes
reason_at f kind.ReversedTag i = reason.ReversedTag
reason_at f kind.ReversedKey i = reason.ReversedKey
reason_at f kind.TrailerFirst i = reason.TrailerFirst
reason_at f kind.OtherCover i = reason.OtherCover (i + 1)
reason_at f kind.OtherLow i = reason.OtherLow (i + 1)
reason_at f kind.FlippedBit i = reason.FlippedBit (i / 8) (i % 8)
reason_at f kind.CanAsId i = reason.CanAsId

-- ---- the first that holds

-- the first try of a kind that agrees
abbrev pub first_agreeing : Failing → ReasonKind → Option ℕ
first_agreeing f k = find (λ i. agrees (trial_of f k i)) (range_with_len 0 (number_of_tries f k))

-- how many authenticators the first tries of a kind compute
abbrev pub computed_in : Failing → ReasonKind → ℕ → ℕ
computed_in f k n = length (filter (λ i. is_computed (trial_of f k i)) (range_with_len 0 n))

-- how many tries of a kind are looked at: up to the first that agrees, or all
abbrev pub looked_at : Option ℕ → ℕ → ℕ
looked_at None count = count
looked_at (Some i) count = i + 1

-- the authenticators of the tries of a kind that are looked at
abbrev pub tries_for : Failing → ReasonKind → ℕ
tries_for f k = computed_in f k (looked_at (first_agreeing f k) (number_of_tries f k))

-- the first try that agrees gives the reason; else the kinds behind this one do
abbrev pub reason_or : Failing → ReasonKind → Option ℕ → Reason → Reason
reason_or f k None later = later
reason_or f k (Some i) later = reason_at f k i

-- the reason if no try agrees: a frame may have too few bytes for the payload and 4 more
abbrev pub last_reason : Failing → Reason
last_reason f = if nat_lt (length f.bytes) (f.receiver.size + 4) then reason.TooShort f.receiver.size else reason.NoReason

unfoldable pub first_reason : Failing → List ReasonKind → Reason
first_reason f [] = last_reason f
first_reason f (k ∷ ks) = reason_or f k (first_agreeing f k) (first_reason f ks)

-- the authenticators of the kinds behind this one are computed only if no try of it agrees
abbrev pub tries_behind : Option ℕ → ℕ → ℕ
tries_behind None later = later
tries_behind (Some i) later = 0

-- how many authenticators are computed until the reason is found
unfoldable pub all_tries : Failing → List ReasonKind → ℕ
all_tries f [] = 0
all_tries f (k ∷ ks) = tries_for f k + tries_behind (first_agreeing f k) (all_tries f ks)

-- the kinds in their order
abbrev pub all_kinds : List ReasonKind
all_kinds = kind.Replay ∷ kind.UsedAgain ∷ kind.Behind ∷ kind.FarAhead ∷ kind.OtherLength ∷ kind.OtherLine
    ∷ kind.OtherKey ∷ kind.OtherId ∷ kind.SwappedId ∷ kind.SwappedFreshness ∷ kind.NoId ∷ kind.ShortFreshness
    ∷ kind.LastBytes ∷ kind.ReversedTag ∷ kind.ReversedKey ∷ kind.TrailerFirst ∷ kind.OtherCover ∷ kind.OtherLow
    ∷ kind.FlippedBit ∷ kind.CanAsId ∷ []

-- why a frame fails, and how many authenticators were computed to find it
abbrev pub explained : Failing → Explained
explained f = record { reason = first_reason f all_kinds; tries = all_tries f all_kinds }
