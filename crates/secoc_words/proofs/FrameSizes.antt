-- How many bytes the payloads of frames have.
use Rattle.std.proofs.Common.{◌≡◌, ℕ, ◌<◌, ◌≤◌, List, [], length, Result, Ok, Err, arith}
use Rattle.std.specs.Prelude.{All, IfOk, ◌==◌, Vec}
use Rattle.std.specs.declared.alloc.Global.{Global}
use Rattle.std.proofs.lemmas.List.Elements.{All-nil}
use Rattle.text_lines.specs.declared.fault.ScriptFault.{ScriptFault}
use Rattle.secoc_words.specs.declared.frames.FrameLine.{FrameLine}
use Rattle.secoc_words.specs.Forms.{key_form, data_id_form, fresh_form}
use Rattle.text_lines.specs.Forms.{hex_bytes_form}
use Rattle.secoc_words.specs.Frames.{frame_of, frames_of}
use Rattle.text_lines.specs.Readings.{most_lines, nth_word, field, Gives}
use Rattle.text_lines.specs.Lines.{lines_of}
use Rattle.text_lines.proofs.CallerLemmas.{bind_ok, field_ok, counted_ok, hex_bytes_form-sizes, All-read_from}

-- 1 to 60 bytes
abbrev pub IsSized : FrameLine → Type 0
IsSized line = (0 < length line.payload) × (length line.payload ≤ 60)

-- a frame line's payload
frame_of-sizes : (words : List (List ℕ)) (line : FrameLine) → frame_of words ≡ Ok line → IsSized line
unfolding frame_of
frame_of-sizes words line h =
    let fields = counted_ok (length words == 4) _ line h in
    let key = bind_ok (field 1 (key_form (nth_word words 1))) _ line fields in
    let id = bind_ok (field 2 (data_id_form (nth_word words 2))) _ line key.2 in
    let fresh = bind_ok (field 3 (fresh_form (nth_word words 3))) _ line id.2 in
    let payload = bind_ok (field 4 (hex_bytes_form 1 60 (nth_word words 4))) _ line fresh.2 in
    let same : payload.0 ≡ line.payload = cc payload.2 in
    let sizes = hex_bytes_form-sizes 1 60 (nth_word words 4) payload.0 (field_ok 4 (hex_bytes_form 1 60 (nth_word words 4)) payload.0 payload.1) in
    rw (← same) (omega arith, sizes.1)

-- the payloads of the frames that a text has
frames_of-sizes : (text : List ℕ) (lines : List FrameLine) → frames_of text ≡ Ok lines → All IsSized lines
unfolding frames_of
frames_of-sizes text lines h =
    All-read_from IsSized (λ _ words. frame_of words) (λ seen words x e. frame_of-sizes words x e) most_lines [] (lines_of text) lines (All-nil IsSized) h

-- and of the answer that gives them
pub sizes_from_gives : (text : List ℕ) (r : Result (Vec FrameLine Global) ScriptFault) → Gives (frames_of text) r → IfOk r (λ v. All IsSized v.items)
sizes_from_gives text (Ok v) h = frames_of-sizes text v.items h
sizes_from_gives text (Err fault) h = tt
