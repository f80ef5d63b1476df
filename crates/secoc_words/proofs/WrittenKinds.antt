-- Lines of `frame`, `judge` and `load` that are written: every list of them has a text that is read as that list.
use Rattle.std.proofs.Common.{◌≡◌, ℕ, ◌<◌, ◌≤◌, ◌^◌, true, List, [], ◌∷◌, ◌++◌, length, take, drop, map, All, Some, Ok, refl, sym, ◌∙◌, ap, arith, lit<, append-nil, length-append}
use Rattle.std.specs.Prelude.{◌==◌, not, slice_index, option_map}
use Rattle.std.specs.List.{list_all, flat_map}
use Rattle.std.proofs.Math.Seq.{take-append_seam, drop-append_seam}
use Rattle.std.proofs.lemmas.List.Elements.{All-head, All-tail}
use Rattle.basics.specs.Bytes.{IsBytes}
use Rattle.basics.specs.Numbers.{number_of, bytes_of}
use Rattle.basics.proofs.CallerLemmas.{IsBytes-bytes_of, number_of-bytes_of-lt}
use Rattle.hex.specs.Hex.{encode_lower, lower_digits}
use Rattle.hex.proofs.HexLemmas.{length-encode_with}
use Rattle.memory_update.specs.declared.messages.Request.{Request}
use Rattle.secoc_words.specs.declared.frames.FrameLine.{FrameLine}
use Rattle.secoc_words.specs.declared.judges.JudgeLine.{JudgeLine}
use Rattle.secoc_words.specs.Forms.{key_form, two_form, data_id_form, fresh_form}
use Rattle.secoc_words.specs.Frames.{frame_of, judge_of, load_of, frames_of, judges_of, loads_of}
use Rattle.text_lines.specs.Readings.{most_lines}
use Rattle.text_lines.specs.Lines.{lines_of}
use Rattle.secoc_words.specs.Written.{frame_words, judge_words, load_words, IsFrameLine, IsJudgeLine, IsLoad}
use Rattle.text_lines.specs.Written.{written, is_word_byte, is_plain_word, is_writable}
use Rattle.text_lines.proofs.CallerLemmas.{words-written, digits_of, sized_encode, hex_bytes_form-encode, bytes_form-word, digits_plain, first_digit, plain_word, bytes_word-plain, list_all-both, all_writable, read_from-words}

pub key_form-encode : (bytes : List ℕ) → IsBytes 16 bytes → key_form (encode_lower bytes) ≡ Some bytes
unfolding key_form
key_form-encode bytes block = sized_encode 16 bytes block

pub data_id_form-encode : (id : ℕ) → id < 2 ^ 16 → data_id_form (encode_lower (bytes_of 2 id)) ≡ Some id
unfolding data_id_form
data_id_form-encode id fits =
    ap (option_map number_of) (sized_encode 2 (bytes_of 2 id) (IsBytes-bytes_of 2 id))
    ∙ ap (λ (n : ℕ). Some n) (number_of-bytes_of-lt 2 id fits)

fresh_form-encode : (v : ℕ) → v < 2 ^ 64 → fresh_form (encode_lower (bytes_of 8 v)) ≡ Some v
unfolding fresh_form
fresh_form-encode v fits =
    ap (option_map number_of) (sized_encode 8 (bytes_of 8 v) (IsBytes-bytes_of 8 v))
    ∙ ap (λ (n : ℕ). Some n) (number_of-bytes_of-lt 8 v fits)

-- a written line of `frame` is read as it was
frame_of-words : (line : FrameLine) → IsFrameLine line → frame_of (frame_words line) ≡ Ok line
unfolding frame_of
frame_of-words line h =
    rw (
      key_form-encode line.key h.key,
      data_id_form-encode line.id h.id_fits,
      fresh_form-encode line.freshness h.freshness_fits,
      hex_bytes_form-encode 1 60 line.payload (let some = h.some in omega arith) h.short h.payload_bytes,
    ) refl

-- a written line of `judge` is read as it was
judge_of-words : (line : JudgeLine) → IsJudgeLine line → judge_of (judge_words line) ≡ Ok line
unfolding judge_of
judge_of-words line h =
    rw (
      key_form-encode line.key h.key,
      data_id_form-encode line.id h.id_fits,
      fresh_form-encode line.counter h.counter_fits,
      bytes_form-word line.pdu h.pdu_bytes,
    ) refl

-- two blocks, written one after the other
two_form-encode : (first second : List ℕ) → IsBytes 16 first → IsBytes 16 second
    → two_form (encode_lower first ++ (encode_lower second ++ [])) ≡ Some (first ∷ second ∷ [])
unfolding two_form
two_form-encode first second one two =
    let front : length (encode_lower first) ≡ 32 = let size = one.size in omega (arith, length-encode_with lower_digits first) in
    let back : length (encode_lower second ++ []) ≡ 32 =
    ap length (append-nil (encode_lower second)) ∙ (let size = two.size in omega (arith, length-encode_with lower_digits second)) in
    let whole : length (encode_lower first ++ (encode_lower second ++ [])) ≡ 64 = length-append (encode_lower first) (encode_lower second ++ []) ∙ omega arith in
    let before : take 32 (encode_lower first ++ (encode_lower second ++ [])) ≡ encode_lower first =
    ap (λ (n : ℕ). take n (encode_lower first ++ (encode_lower second ++ []))) (sym front) ∙ take-append_seam (encode_lower first) (encode_lower second ++ []) in
    let behind : drop 32 (encode_lower first ++ (encode_lower second ++ [])) ≡ encode_lower second ++ [] =
    ap (λ (n : ℕ). drop n (encode_lower first ++ (encode_lower second ++ []))) (sym front) ∙ drop-append_seam (encode_lower first) (encode_lower second ++ []) in
    rw (
      whole,
      before,
      behind,
      append-nil (encode_lower second),
      key_form-encode first one,
      key_form-encode second two,
    ) refl

pub pair_encode : (blocks : List (List ℕ)) → length blocks ≡ 2 → All (IsBytes 16) blocks → two_form (flat_map encode_lower blocks) ≡ Some blocks
pair_encode [] size are = absurd (omega arith)
pair_encode (first ∷ []) size are = absurd (omega arith)
pair_encode (first ∷ second ∷ []) size are =
    let rest = All-tail (IsBytes 16) first (second ∷ []) are in
    two_form-encode first second (All-head (IsBytes 16) first (second ∷ []) are) (All-head (IsBytes 16) second [] rest)
pair_encode (first ∷ second ∷ third ∷ blocks) size are = absurd (omega arith)

-- a written line of `load` is read as it was
load_of-words : (request : Request) → IsLoad request → load_of (load_words request) ≡ Ok request
unfolding load_of
load_of-words request h =
    rw (key_form-encode request.m1 h.m1, pair_encode request.m2 h.two h.m2, key_form-encode request.m3 h.m3) refl

-- such lines may be written
key_first : (key : List ℕ) → IsBytes 16 key → not (slice_index (encode_lower key) 0 == 35) ≡ true
key_first key block = first_digit key (let size = block.size in omega arith) (digits_of 16 key block)

frame_writable : (line : FrameLine) → IsFrameLine line → is_writable (frame_words line) ≡ true
frame_writable line h =
    rw (
      key_first line.key h.key,
      plain_word 16 line.key (lit< tt) h.key,
      plain_word 2 (bytes_of 2 line.id) (lit< tt) (IsBytes-bytes_of 2 line.id),
      plain_word 8 (bytes_of 8 line.freshness) (lit< tt) (IsBytes-bytes_of 8 line.freshness),
      plain_word (length line.payload) line.payload h.some h.payload_bytes,
    ) refl

judge_writable : (line : JudgeLine) → IsJudgeLine line → is_writable (judge_words line) ≡ true
judge_writable line h =
    rw (
      key_first line.key h.key,
      plain_word 16 line.key (lit< tt) h.key,
      plain_word 2 (bytes_of 2 line.id) (lit< tt) (IsBytes-bytes_of 2 line.id),
      plain_word 8 (bytes_of 8 line.counter) (lit< tt) (IsBytes-bytes_of 8 line.counter),
      bytes_word-plain line.pdu h.pdu_bytes,
    ) refl

blocks_plain : (blocks : List (List ℕ)) → All (IsBytes 16) blocks → list_all is_word_byte (flat_map encode_lower blocks) ≡ true
blocks_plain [] are = refl
blocks_plain (block ∷ blocks) are =
    list_all-both (encode_lower block) (flat_map encode_lower blocks) (digits_plain block (digits_of 16 block (All-head (IsBytes 16) block blocks are)))
    (blocks_plain blocks (All-tail (IsBytes 16) block blocks are))

blocks_some : (blocks : List (List ℕ)) → 0 < length blocks → All (IsBytes 16) blocks → 0 < length (flat_map encode_lower blocks)
blocks_some [] some are = absurd (omega arith)
blocks_some (block ∷ blocks) some are =
    let size = (All-head (IsBytes 16) block blocks are).size in
    omega (arith, length-append (encode_lower block) (flat_map encode_lower blocks), length-encode_with lower_digits block)

pub blocks_word : (blocks : List (List ℕ)) → length blocks ≡ 2 → All (IsBytes 16) blocks → is_plain_word (flat_map encode_lower blocks) ≡ true
blocks_word blocks two are =
    let plain = blocks_plain blocks are in
    rw plain (let more = blocks_some blocks (omega arith) are in grind arith)

load_writable : (request : Request) → IsLoad request → is_writable (load_words request) ≡ true
load_writable request h =
    rw (key_first request.m1 h.m1, plain_word 16 request.m1 (lit< tt) h.m1, blocks_word request.m2 h.two h.m2, plain_word 16 request.m3 (lit< tt) h.m3) refl

-- every list of at most 65,536 lines of a kind has a text that is read as that list
pub frames_of-written : (lines : List FrameLine) → All IsFrameLine lines → length lines ≤ most_lines → frames_of (flat_map written (map frame_words lines)) ≡ Ok lines
unfolding frames_of
frames_of-written lines h few =
    read_from-words IsFrameLine frame_of frame_words frame_of-words most_lines [] (lines_of (flat_map written (map frame_words lines))) lines
    (words-written (map frame_words lines) (all_writable IsFrameLine frame_words frame_writable lines h)) h (omega arith)

pub judges_of-written : (lines : List JudgeLine) → All IsJudgeLine lines → length lines ≤ most_lines → judges_of (flat_map written (map judge_words lines)) ≡ Ok lines
unfolding judges_of
judges_of-written lines h few =
    read_from-words IsJudgeLine judge_of judge_words judge_of-words most_lines [] (lines_of (flat_map written (map judge_words lines))) lines
    (words-written (map judge_words lines) (all_writable IsJudgeLine judge_words judge_writable lines h)) h (omega arith)

pub loads_of-written : (requests : List Request) → All IsLoad requests → length requests ≤ most_lines → loads_of (flat_map written (map load_words requests)) ≡ Ok requests
unfolding loads_of
loads_of-written requests h few =
    read_from-words IsLoad load_of load_words load_of-words most_lines [] (lines_of (flat_map written (map load_words requests))) requests
    (words-written (map load_words requests) (all_writable IsLoad load_words load_writable requests h)) h (omega arith)
