-- What the parts of a line's bytes are.
use Rattle.std.proofs.Common.{◌≡◌, ℕ, ◌+◌, ◌-◌, ◌<◌, ◌≤◌, List, [], ◌∷◌, length, get_or, take, drop, refl, sym, ap, ◌∙◌, arith}
use Rattle.std.specs.Int.{w16, w32, w64, from_be_bytes}
use Rattle.std.proofs.lemmas.List.{get_or-take, take_all, take-take, drop-take}
use Rattle.std.proofs.lemmas.List.{length-take-le, length-drop}
use Rattle.std.proofs.lemmas.List.Elements.{All-take, All-drop, All-from_get_or}
use Rattle.basics.specs.Bytes.{IsBytes}
use Rattle.basics.specs.Numbers.{number_of, bytes_of}
use Rattle.basics.proofs.CallerLemmas.{number_of-bytes_of-lt, from_be_bytes-16, from_be_bytes-32, from_be_bytes-64, length-bytes_of}
use Rattle.flash_places.specs.declared.FlashLine.{FlashLine}
use Rattle.flash_places.specs.declared.FlashLine.TheVariants.{Head, Entry}
use Rattle.flash_lines.specs.declared.sizes.FlashSizes.{FlashSizes}
use Rattle.flash_lines.specs.Lines.{sizes_bytes, line_body, HoldsLine, TellsSizes}
use Rattle.flash_lines.proofs.LineLaws.{holds_body, told_line}

-- the tag of a line
abbrev pub line_tag : FlashLine → ℕ
line_tag (Head generation) = 0x5a
line_tag (Entry cell payload) = 0xa5

body_byte : (bytes : List ℕ) (line : FlashLine) (i : ℕ) → i < 35 → (h : HoldsLine bytes line)
    → get_or bytes i 0 ≡ get_or (line_body h.told line) i 0
body_byte bytes line i below h = sym (get_or-take 35 bytes i 0 below) ∙ ap (λ b. get_or b i 0) (holds_body bytes line h)

pub tag_is : (bytes : List ℕ) (line : FlashLine) → HoldsLine bytes line → get_or bytes 0 0 ≡ line_tag line
unfolding line_body
tag_is bytes (Head generation) h = body_byte bytes (Head generation) 0 (omega arith) h
tag_is bytes (Entry cell payload) h = body_byte bytes (Entry cell payload) 0 (omega arith) h

-- a part of the body in the bytes
body_part : (bytes : List ℕ) (line : FlashLine) (at n : ℕ) → at + n ≤ 35 → (h : HoldsLine bytes line)
    → take n (drop at bytes) ≡ take n (drop at (line_body h.told line))
body_part bytes line at n inside h =
    let rest : ℕ = 35 - at in
    let whole : at + rest ≡ 35 = omega arith in
    sym (take-take n rest (drop at bytes) (omega arith))
    ∙ ap (take n) (sym (drop-take at rest bytes))
    ∙ ap (λ k. take n (drop at (take k bytes))) whole
    ∙ ap (λ b. take n (drop at b)) (holds_body bytes line h)

-- the generation of a head
pub generation_is : (bytes : List ℕ) (generation : ℕ) → HoldsLine bytes (Head generation)
    → from_be_bytes w64 (take 8 (drop 1 bytes)) ≡ generation
unfolding line_body bytes_of sizes_bytes
generation_is bytes generation h =
    ap (from_be_bytes w64) (body_part bytes (Head generation) 1 8 (omega arith) h)
    ∙ from_be_bytes-64 (bytes_of 8 generation) (length-bytes_of 8 generation)
    ∙ number_of-bytes_of-lt 8 generation (omega (arith, h.is_line))

-- the cell of an entry
two_are : (bytes payload : List ℕ) (cell : ℕ) → HoldsLine bytes (Entry cell payload)
    → get_or bytes 1 0 ∷ get_or bytes 2 0 ∷ [] ≡ bytes_of 2 cell
unfolding line_body bytes_of
two_are bytes payload cell h =
    rw (body_byte bytes (Entry cell payload) 1 (omega arith) h, body_byte bytes (Entry cell payload) 2 (omega arith) h) refl

pub cell_is : (bytes payload : List ℕ) (cell : ℕ) → HoldsLine bytes (Entry cell payload)
    → from_be_bytes w16 (get_or bytes 1 0 ∷ get_or bytes 2 0 ∷ []) ≡ cell
cell_is bytes payload cell h =
    from_be_bytes-16 (get_or bytes 1 0 ∷ get_or bytes 2 0 ∷ []) refl
    ∙ ap number_of (two_are bytes payload cell h)
    ∙ number_of-bytes_of-lt 2 cell (omega (arith, h.is_line.0))

-- the payload of an entry
pub payload_is : (bytes payload : List ℕ) (cell : ℕ) → HoldsLine bytes (Entry cell payload) → take 32 (drop 3 bytes) ≡ payload
unfolding line_body bytes_of
payload_is bytes payload cell h =
    body_part bytes (Entry cell payload) 3 32 (omega arith) h ∙ take_all 32 payload (omega (arith, h.is_line.1.size))

-- ---- the sizes that a head tells

head_byte : (bytes : List ℕ) (told : FlashSizes) (t : TellsSizes bytes told) (i : ℕ) → i < 35
    → get_or bytes i 0 ≡ get_or (line_body told (Head t.generation)) i 0
head_byte bytes told t i below = body_byte bytes (Head t.generation) i below (told_line bytes told t)

pub unit_told : (bytes : List ℕ) (told : FlashSizes) → TellsSizes bytes told
    → from_be_bytes w16 (get_or bytes 9 0 ∷ get_or bytes 10 0 ∷ []) ≡ told.unit
unfolding line_body bytes_of sizes_bytes
unit_told bytes told t =
    let are : get_or bytes 9 0 ∷ get_or bytes 10 0 ∷ [] ≡ bytes_of 2 told.unit =
    rw (head_byte bytes told t 9 (omega arith), head_byte bytes told t 10 (omega arith)) refl in
    from_be_bytes-16 (get_or bytes 9 0 ∷ get_or bytes 10 0 ∷ []) refl ∙ ap number_of are
    ∙ number_of-bytes_of-lt 2 told.unit (omega (arith, t.sized.0))

pub banks_told : (bytes : List ℕ) (told : FlashSizes) → TellsSizes bytes told → get_or bytes 11 0 ≡ told.banks
unfolding line_body bytes_of sizes_bytes
banks_told bytes told t = head_byte bytes told t 11 (omega arith)

pub bank_size_told : (bytes : List ℕ) (told : FlashSizes) → TellsSizes bytes told
    → from_be_bytes w32 (get_or bytes 12 0 ∷ get_or bytes 13 0 ∷ get_or bytes 14 0 ∷ get_or bytes 15 0 ∷ []) ≡ told.bank_size
unfolding line_body bytes_of sizes_bytes
bank_size_told bytes told t =
    let are : get_or bytes 12 0 ∷ get_or bytes 13 0 ∷ get_or bytes 14 0 ∷ get_or bytes 15 0 ∷ [] ≡ bytes_of 4 told.bank_size =
    rw (head_byte bytes told t 12 (omega arith), head_byte bytes told t 13 (omega arith), head_byte bytes told t 14 (omega arith), head_byte bytes told t 15 (omega arith)) refl in
    from_be_bytes-32 (get_or bytes 12 0 ∷ get_or bytes 13 0 ∷ get_or bytes 14 0 ∷ get_or bytes 15 0 ∷ []) refl ∙ ap number_of are
    ∙ number_of-bytes_of-lt 4 told.bank_size (omega (arith, t.sized.1.1.0))

pub cells_told : (bytes : List ℕ) (told : FlashSizes) → TellsSizes bytes told
    → from_be_bytes w16 (get_or bytes 16 0 ∷ get_or bytes 17 0 ∷ []) ≡ told.cells
unfolding line_body bytes_of sizes_bytes
cells_told bytes told t =
    let are : get_or bytes 16 0 ∷ get_or bytes 17 0 ∷ [] ≡ bytes_of 2 told.cells =
    rw (head_byte bytes told t 16 (omega arith), head_byte bytes told t 17 (omega arith)) refl in
    from_be_bytes-16 (get_or bytes 16 0 ∷ get_or bytes 17 0 ∷ []) refl ∙ ap number_of are
    ∙ number_of-bytes_of-lt 2 told.cells (omega (arith, t.sized.1.1.1))

-- bytes of a list of bytes
pub part_is_bytes : (bytes : List ℕ) (at n : ℕ) → ((i : ℕ) → get_or bytes i 0 < 256) → at + n ≤ length bytes → IsBytes n (take n (drop at bytes))
part_is_bytes bytes at n below inside = record {
  size = length-take-le n (drop at bytes) (omega (arith, length-drop at bytes));
  bytes = All-take (λ b. b < 256) n (drop at bytes) (All-drop (λ b. b < 256) at bytes (All-from_get_or (λ b. b < 256) bytes 0 (λ i h. below i)));
}
