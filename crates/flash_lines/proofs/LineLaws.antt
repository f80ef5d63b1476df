-- Bytes are at most one line, and what a line's first and last bytes are.
use Rattle.std.proofs.Common.{◌≡◌, ℕ, ◌+◌, ◌-◌, ◌<◌, ◌≤◌, List, [], ◌∷◌, ◌++◌, length, get_or, take, drop, replicate, refl, sym, ap, ◌∙◌, arith}
use Rattle.std.proofs.lemmas.List.{length-append, length-replicate, take-append-le, take-take, take_all, get_or-drop, get_or-replicate, get_or_at}
use Rattle.basics.specs.Numbers.{bytes_of}
use Rattle.basics.proofs.CallerLemmas.{same_number, length-bytes_of}
use Rattle.flash_places.specs.declared.FlashLine.{FlashLine}
use Rattle.flash_places.specs.declared.FlashLine.TheVariants.{Head, Entry}
use Rattle.flash_lines.specs.declared.sizes.FlashSizes.{FlashSizes}
use Rattle.flash_lines.specs.Crc.{crc64}
use Rattle.flash_lines.specs.Lines.{sizes_bytes, line_body, line_bytes, line_mark, IsFlashLine, IsSizes, HoldsLine, TellsSizes}

pub length-line_body : (told : FlashSizes) (line : FlashLine) → IsFlashLine line → length (line_body told line) ≡ 35
unfolding line_body bytes_of sizes_bytes
length-line_body told (Head generation) is = refl
length-line_body told (Entry cell payload) is = omega (arith, is.1.size)

pub body_of : (size : ℕ) (told : FlashSizes) (line : FlashLine) → IsFlashLine line → take 35 (line_bytes size told line) ≡ line_body told line
unfolding line_bytes
body_of size told line is =
    let body : List ℕ = line_body told line in
    let check : List ℕ = bytes_of 8 (crc64 body) in
    let zeros : List ℕ = replicate (size - 44) 0 in
    let long : 35 ≤ length body = omega (arith, length-line_body told line is) in
    take-append-le 35 (body ++ check ++ zeros) (line_mark ∷ []) (omega (arith, long, length-append (body ++ check) zeros, length-append body check))
    ∙ take-append-le 35 (body ++ check) zeros (omega (arith, long, length-append body check))
    ∙ take-append-le 35 body check long
    ∙ take_all 35 body (omega (arith, length-line_body told line is))

-- lines of one body are one line
pub same_body : (told told' : FlashSizes) (line other : FlashLine) → IsFlashLine line → IsFlashLine other
    → line_body told line ≡ line_body told' other → line ≡ other
unfolding line_body bytes_of sizes_bytes
same_body told told' (Head g) (Head h) is is' e =
    let same : bytes_of 8 g ≡ bytes_of 8 h = ap (λ b. take 8 (drop 1 b)) e in
    ap Head (same_number 8 g h (omega arith) (omega arith) same)
same_body told told' (Head g) (Entry cell payload) is is' e = absurd (let tags : 0x5a ≡ 0xa5 = ap (λ b. get_or b 0 0) e in omega (arith, tags))
same_body told told' (Entry cell payload) (Head g) is is' e = absurd (let tags : 0xa5 ≡ 0x5a = ap (λ b. get_or b 0 0) e in omega (arith, tags))
same_body told told' (Entry cell payload) (Entry cell' payload') is is' e =
    let numbers : bytes_of 2 cell ≡ bytes_of 2 cell' = ap (λ b. take 2 (drop 1 b)) e in
    let cells : cell ≡ cell' = same_number 2 cell cell' (omega (arith, is.0)) (omega (arith, is'.0)) numbers in
    let payloads : payload ≡ payload' = ap (λ b. drop 3 b) e in
    rw (cells, payloads) refl

-- and heads of one body tell the same
pub same_sizes : (a b : FlashSizes) → a.unit ≡ b.unit → a.banks ≡ b.banks → a.bank_size ≡ b.bank_size → a.cells ≡ b.cells → a ≡ b
same_sizes a b units banks sizes cells =
    ap (λ u. record { unit = u; banks = a.banks; bank_size = a.bank_size; cells = a.cells }) units
    ∙ ap (λ k. record { unit = b.unit; banks = k; bank_size = a.bank_size; cells = a.cells }) banks
    ∙ ap (λ k. record { unit = b.unit; banks = b.banks; bank_size = k; cells = a.cells }) sizes
    ∙ ap (λ k. record { unit = b.unit; banks = b.banks; bank_size = b.bank_size; cells = k }) cells

pub same_told : (told other : FlashSizes) (g h : ℕ) → IsSizes told → IsSizes other → line_body told (Head g) ≡ line_body other (Head h)
    → told ≡ other
unfolding line_body bytes_of sizes_bytes
same_told told other g h is is' e =
    let units : bytes_of 2 told.unit ≡ bytes_of 2 other.unit = ap (λ b. take 2 (drop 9 b)) e in
    let banks : told.banks ≡ other.banks = ap (λ b. get_or b 11 0) e in
    let sizes : bytes_of 4 told.bank_size ≡ bytes_of 4 other.bank_size = ap (λ b. take 4 (drop 12 b)) e in
    let cells : bytes_of 2 told.cells ≡ bytes_of 2 other.cells = ap (λ b. take 2 (drop 16 b)) e in
    same_sizes told other
    (same_number 2 told.unit other.unit (omega (arith, is.0)) (omega (arith, is'.0)) units)
    banks
    (same_number 4 told.bank_size other.bank_size (omega (arith, is.1.1.0)) (omega (arith, is'.1.1.0)) sizes)
    (same_number 2 told.cells other.cells (omega (arith, is.1.1.1)) (omega (arith, is'.1.1.1)) cells)

-- the sizes that a line tells matter to a head alone
pub entry_bytes : (size cell : ℕ) (payload : List ℕ) (told other : FlashSizes)
    → line_bytes size told (Entry cell payload) ≡ line_bytes size other (Entry cell payload)
unfolding line_bytes line_body
entry_bytes size cell payload told other = refl

-- a head that tells sizes is a line
abbrev pub told_line : (bytes : List ℕ) (told : FlashSizes) (t : TellsSizes bytes told) → HoldsLine bytes (Head t.generation)
told_line bytes told t = record { is_line = t.is_head; told = told; sized = t.sized; bytes_are = t.bytes_are }

pub one_line : (bytes : List ℕ) (line other : FlashLine) → HoldsLine bytes line → HoldsLine bytes other → line ≡ other
one_line bytes line other h k =
    same_body h.told k.told line other h.is_line k.is_line
    (sym (body_of (length bytes) h.told line h.is_line) ∙ ap (take 35) (sym h.bytes_are ∙ k.bytes_are)
    ∙ body_of (length bytes) k.told other k.is_line)

pub one_told : (bytes : List ℕ) (told other : FlashSizes) → TellsSizes bytes told → TellsSizes bytes other → told ≡ other
one_told bytes told other t u =
    same_told told other t.generation u.generation t.sized u.sized
    (sym (body_of (length bytes) told (Head t.generation) t.is_head) ∙ ap (take 35) (sym t.bytes_are ∙ u.bytes_are)
    ∙ body_of (length bytes) other (Head u.generation) u.is_head)

-- ---- the body and the last byte of a line

-- the body in the bytes
pub holds_body : (bytes : List ℕ) (line : FlashLine) (h : HoldsLine bytes line) → take 35 bytes ≡ line_body h.told line
holds_body bytes line h = ap (take 35) h.bytes_are ∙ body_of (length bytes) h.told line h.is_line

-- what stands before the mark
abbrev pub line_front : ℕ → FlashSizes → FlashLine → List ℕ
line_front size told line = line_body told line ++ bytes_of 8 (crc64 (line_body told line)) ++ replicate (size - 44) 0

length-zeros : (n : ℕ) → length {A = ℕ} (replicate n 0) ≡ n
length-zeros n = length-replicate n 0

length-line_front : (size : ℕ) (told : FlashSizes) (line : FlashLine) → IsFlashLine line
    → length (line_front size told line) ≡ 43 + (size - 44)
length-line_front size told line is =
    let body : List ℕ = line_body told line in
    let check : List ℕ = bytes_of 8 (crc64 body) in
    let zeros : List ℕ = replicate (size - 44) 0 in
    omega (arith, length-append (body ++ check) zeros, length-append body check, length-line_body told line is, length-bytes_of 8 (crc64 body), length-zeros (size - 44))

-- the last of these bytes is the mark
pub holds_mark : (bytes : List ℕ) (line : FlashLine) → HoldsLine bytes line → get_or bytes (length bytes - 1) 0 ≡ line_mark
unfolding line_bytes
holds_mark bytes line h =
    let front = line_front (length bytes) h.told line in
    let count = length-line_front (length bytes) h.told line h.is_line in
    let whole : length bytes ≡ length front + 1 = ap length h.bytes_are ∙ length-append front (line_mark ∷ []) in
    let last : length front ≡ length bytes - 1 = omega (arith, whole) in
    ap (λ b. get_or b (length bytes - 1) 0) h.bytes_are ∙ get_or_at front line_mark [] 0 (length bytes - 1) last

-- ---- torn lines

-- after a place that is erased to the end, no line ends
pub erased_is_none : (bytes : List ℕ) (line : FlashLine) (from erased : ℕ) → drop from bytes ≡ replicate (length bytes - from) erased
    → from < length bytes → HoldsLine bytes line → erased ≡ line_mark
erased_is_none bytes line from erased behind inside h =
    let k : ℕ = length bytes - from - 1 in
    let whole : from + k ≡ length bytes - 1 = omega arith in
    sym (get_or-replicate (length bytes - from) k erased 0 (omega arith))
    ∙ ap (λ b. get_or b k 0) (sym behind)
    ∙ get_or-drop from bytes k 0
    ∙ ap (λ i. get_or bytes i 0) whole
    ∙ holds_mark bytes line h

-- bytes with the body of a line are no other line, and tell nothing else
pub body_tells : (bytes : List ℕ) (told : FlashSizes) (line other : FlashLine) (n : ℕ) → 35 ≤ n → IsFlashLine line
    → take n bytes ≡ take n (line_bytes (length bytes) told line) → (h : HoldsLine bytes other)
    → line_body told line ≡ line_body h.told other
body_tells bytes told line other n long is before h =
    sym (body_of (length bytes) told line is)
    ∙ sym (take-take 35 n (line_bytes (length bytes) told line) long)
    ∙ ap (take 35) (sym before)
    ∙ take-take 35 n bytes long
    ∙ holds_body bytes other h

-- a body that is that of a head tells what the head tells
pub told_by_body : (told other : FlashSizes) (line : FlashLine) (h : ℕ) → IsSizes told → IsSizes other
    → line_body told line ≡ line_body other (Head h) → told ≡ other
unfolding line_body bytes_of sizes_bytes
told_by_body told other (Head g) h is is' e = same_told told other g h is is' e
told_by_body told other (Entry cell payload) h is is' e =
    absurd (let tags : 0xa5 ≡ 0x5a = ap (λ b. get_or b 0 0) e in omega (arith, tags))
