-- A frame that is tried as a Secured I-PDU of a receiver
use Rattle.std.specs.Prelude.{ℕ, ◌+◌, ◌-◌, ◌%◌, ◌^◌, ◌==◌, ◌&&◌, nat_le, nat_lt, Bool, true, false, if◌then◌else◌, List, ◌++◌, length, take, drop, reverse, replicate, slice_index, slice_range, find, bytes_eq, Option, None, Some}
use Rattle.std.specs.List.{range_with_len}
use Rattle.std.specs.Int.{w16, w64, swap_bytes}
use Rattle.basics.specs.Numbers.{bytes_of}
use Rattle.she_cmac.specs.Cmac.{cmac}
use Rattle.secured_pdu.specs.Frame.{authenticated_input}
use Rattle.explain_commands.specs.declared.trials.Making.{Making}
use Rattle.explain_commands.specs.declared.trials.Making.TheVariants as making
use Rattle.explain_commands.specs.declared.trials.Comparison.{Comparison}
use Rattle.explain_commands.specs.declared.trials.Comparison.TheVariants as compared
use Rattle.explain_commands.specs.declared.trials.KnownReceiver.{KnownReceiver}

-- what the authenticator covers without the Data ID, or with a freshness of 32 bits
abbrev pub input_without_id : List ℕ → ℕ → List ℕ
input_without_id payload v = payload ++ bytes_of 8 v

abbrev pub input_with_32_bits : ℕ → List ℕ → ℕ → List ℕ
input_with_32_bits id payload v = bytes_of 2 id ++ payload ++ bytes_of 4 (v % 2 ^ 32)

-- the three bytes of its CMAC that a PDU carries which was made in this way: the first three of that of the
-- authenticated input; with the bytes of the Data ID, or of the freshness, in the other order; without the Data ID; with
-- a freshness of 32 bits; the last three; or the first three from the last on
unfoldable pub tag_by : Making → KnownReceiver → List ℕ → ℕ → List ℕ
tag_by making.Standard r payload v = take 3 (cmac r.key (authenticated_input r.id payload v))
tag_by making.SwappedId r payload v = take 3 (cmac r.key (authenticated_input (swap_bytes w16 r.id) payload v))
tag_by making.SwappedFreshness r payload v = take 3 (cmac r.key (authenticated_input r.id payload (swap_bytes w64 v)))
tag_by making.NoId r payload v = take 3 (cmac r.key (input_without_id payload v))
tag_by making.ShortFreshness r payload v = take 3 (cmac r.key (input_with_32_bits r.id payload v))
tag_by making.LastBytes r payload v = drop 13 (cmac r.key (authenticated_input r.id payload v))
tag_by making.ReversedTag r payload v = reverse (take 3 (cmac r.key (authenticated_input r.id payload v)))

-- a payload has 1 to 60 bytes, and these bytes are enough for the PDU
abbrev pub has_room : ℕ → List ℕ → Bool
has_room size bytes = nat_le 1 size && nat_le size 60 && nat_le (size + 4) (length bytes)

-- a freshness of 64 bits that has this low byte
abbrev pub has_low : ℕ → ℕ → Bool
has_low low v = v % 256 == low && nat_lt v (2 ^ 64)

-- the low byte of the freshness that a PDU carries
abbrev pub low_carried : KnownReceiver → List ℕ → ℕ
low_carried r bytes = slice_index bytes r.size

-- the authenticator of a payload is computed and compared with the one that the bytes carry
abbrev pub payload_trial : Making → KnownReceiver → List ℕ → List ℕ → ℕ → Comparison
payload_trial how r payload bytes v =
    if bytes_eq (slice_range bytes (r.size + 1) (r.size + 4)) (tag_by how r payload v)
    then compared.Agrees else compared.Differs

abbrev pub tag_trial : Making → KnownReceiver → List ℕ → ℕ → Comparison
tag_trial how r bytes v = payload_trial how r (take r.size bytes) bytes v

-- the first bytes as the PDU with this freshness. Nothing is computed if it doesn't have the low byte that they carry
unfoldable pub trial_with : KnownReceiver → List ℕ → ℕ → Comparison
trial_with r bytes v =
    if has_room r.size bytes && has_low (low_carried r bytes) v then tag_trial making.Standard r bytes v
    else compared.Skipped

-- the same with a freshness so far behind a counter, if there is one
unfoldable pub trial_behind : KnownReceiver → List ℕ → ℕ → Comparison
trial_behind r bytes steps =
    if nat_le steps r.counter then trial_with r bytes (r.counter - steps) else compared.Skipped

-- the first bytes with this freshness, whatever low byte they carry
unfoldable pub trial_unlike : KnownReceiver → List ℕ → ℕ → Comparison
trial_unlike r bytes v =
    if has_room r.size bytes && nat_lt v (2 ^ 64) then tag_trial making.Standard r bytes v else compared.Skipped

-- the authenticator that the first bytes carry is this one
abbrev pub carries_tag : KnownReceiver → List ℕ → List ℕ → Bool
carries_tag r bytes tag = has_room r.size bytes && bytes_eq (slice_range bytes (r.size + 1) (r.size + 4)) tag

-- the authenticator that they carry; zeros if they are too short
abbrev pub carried_tag : KnownReceiver → List ℕ → List ℕ
carried_tag r bytes =
    if has_room r.size bytes then slice_range bytes (r.size + 1) (r.size + 4) else replicate 3 0

-- the freshness within the window above a counter that has this low byte
abbrev pub candidate : ℕ → ℕ → ℕ → Option ℕ
candidate counter window low = find (has_low low) (range_with_len (counter + 1) window)

abbrev pub candidate_trial : Making → KnownReceiver → List ℕ → Option ℕ → Comparison
candidate_trial how r bytes None = compared.Skipped
candidate_trial how r bytes (Some v) = tag_trial how r bytes v

-- the first bytes as a PDU that was made in this way, with a freshness within the window
unfoldable pub trial_within : Making → KnownReceiver → List ℕ → Comparison
trial_within how r bytes =
    if has_room r.size bytes then candidate_trial how r bytes (candidate r.counter r.window (low_carried r bytes))
    else compared.Skipped

-- the same, if the authenticator covers so many bytes: fewer than the payload has, or zeros behind it
abbrev pub covered : ℕ → ℕ → List ℕ → List ℕ
covered size count bytes = take count (take size bytes ++ replicate (60 - size) 0)

abbrev pub covered_trial : KnownReceiver → ℕ → List ℕ → Option ℕ → Comparison
covered_trial r count bytes None = compared.Skipped
covered_trial r count bytes (Some v) = payload_trial making.Standard r (covered r.size count bytes) bytes v

unfoldable pub trial_covering : KnownReceiver → ℕ → List ℕ → Comparison
trial_covering r count bytes =
    if has_room r.size bytes
    then covered_trial r count bytes (candidate r.counter r.window (low_carried r bytes))
    else compared.Skipped

-- the same, if the freshness and the authenticator stand before the payload
unfoldable pub trial_turned : KnownReceiver → List ℕ → Comparison
trial_turned r bytes =
    if has_room r.size bytes
    then trial_within making.Standard r (drop 4 (take (r.size + 4) bytes) ++ take 4 (take (r.size + 4) bytes))
    else compared.Skipped

abbrev pub agrees : Comparison → Bool
agrees compared.Skipped = false
agrees compared.Differs = false
agrees compared.Agrees = true

-- an authenticator was computed for it
abbrev pub is_computed : Comparison → Bool
is_computed compared.Skipped = false
is_computed compared.Differs = true
is_computed compared.Agrees = true

-- ---- a frame that is accepted

abbrev pub accepted_candidate : KnownReceiver → List ℕ → Option ℕ → Option ℕ
accepted_candidate r bytes None = None
accepted_candidate r bytes (Some v) = if agrees (tag_trial making.Standard r bytes v) then Some v else None

-- the freshness with which a receiver accepts a frame: the one within the window with which its first bytes verify
unfoldable pub accepted_freshness : KnownReceiver → List ℕ → Option ℕ
accepted_freshness r bytes =
    if has_room r.size bytes then accepted_candidate r bytes (candidate r.counter r.window (low_carried r bytes))
    else None
