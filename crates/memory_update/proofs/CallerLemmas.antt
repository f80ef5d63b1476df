-- The lemmas that crates above cite.
use Rattle.std.specs.List.{All, concat}
use Rattle.std.specs.Prelude.{Option, Some, None, Result, Ok, Err}
use Rattle.std.specs.Str.{bytes_eq}
use Rattle.std.proofs.Common.{◌≡◌, ℕ, ◌+◌, ◌*◌, ◌/◌, ◌%◌, ◌^◌, ◌<◌, List, [], ◌∷◌, ◌++◌, length, get_or, take, drop}
use Rattle.std.proofs.Common.{min, refl, sym, ap, ◌∙◌, subst, arith, ◌≢◌, Bool, true, false, not, ◌&&◌, ◌||◌, nat_lt}
use Rattle.std.proofs.Common.{replicate}
use Rattle.std.proofs.Math.Seq.{take-append_seam, drop-append_seam, take-length}
use Rattle.std.proofs.lemmas.List.{append-nil, take_more, length-take}
use Rattle.std.proofs.lemmas.List.Elements.{All-nil, All-cons, All-head, All-tail, All-take, All-get_or, All-replicate}
use Rattle.std.proofs.lemmas.Bool.{and_from, and_parts, not-false, lt-ltb, ltb-true, false_from_ne_true}
use Rattle.std.proofs.lemmas.Slice.Eq.{bytes_eq-Decides}
use Rattle.basics.specs.Numbers.{number_of, bytes_of}
use Rattle.basics.proofs.CallerLemmas.{IsBytes-bytes_of, number_of-lt, number_of-bytes_of-lt, bytes_of-number_of}
use Rattle.basics.proofs.CallerLemmas.{number_of-append, bytes_of-append}
use Rattle.key_slots.specs.declared.memory.Flags.{Flags}
use Rattle.key_slots.specs.Flags.{flags_number, flags_from}
use Rattle.key_slots.proofs.CallerLemmas.{flags_number-lt, flags_from-number, flags_number-from, slots_of_pair}
use Rattle.basics.specs.Blocks.{IsBlock, zero_block}
use Rattle.she_aes.proofs.CallerLemmas.{IsBlock-zero_block, length-cbc, All-cbc, length-cbc_inverse, All-cbc_inverse}
use Rattle.she_aes.specs.Modes.{cbc, cbc_inverse}
use Rattle.she_aes.proofs.CallerLemmas.{cbc_inverse-cbc, cbc-cbc_inverse}
use Rattle.she_kdf.specs.Derivation.{kdf}
use Rattle.she_kdf.proofs.CallerLemmas.{IsBlock-kdf}
use Rattle.she_kdf.specs.declared.Constant.TheVariants.{Enc, Mac}
use Rattle.she_cmac.specs.Cmac.{cmac}
use Rattle.she_cmac.proofs.CallerLemmas.{IsBlock-cmac}
use Rattle.memory_update.specs.Messages.{two_blocks, head_number, plain, request_mac, Carries, Builds, Confirms, id_of}
use Rattle.memory_update.specs.Messages.{auth_of, HasSlots, HeadOf, head_in, text_in, update_in, IsUid, IsRequest}
use Rattle.memory_update.specs.Messages.{IsUpdate}
use Rattle.memory_update.specs.declared.messages.Head.{Head}
use Rattle.memory_update.specs.declared.messages.Update.{Update}
use Rattle.memory_update.specs.declared.messages.Request.{Request}
use Rattle.memory_update.specs.declared.messages.Reply.{Reply}
use Rattle.key_slots.specs.declared.memory.Slot.{Slot}
use Rattle.key_slots.specs.declared.memory.Slot.TheVariants.{Empty, Filled}
use Rattle.key_slots.specs.declared.refusals.Erc.{Erc}
use Rattle.key_slots.specs.declared.refusals.Erc.TheVariants.{KeyUpdateError}
use Rattle.key_slots.specs.Authority.{is_pair}
use Rattle.key_slots.specs.Slots.{slot_at, flags_of, counter_of, IsSlot, IsSlots}
use Rattle.key_slots.proofs.CallerLemmas.{IsSlot-slot_at, none_of_first, none_of_append, first_applying-append}
use Rattle.key_slots.specs.Usage.{first_applying}
use Rattle.memory_update.specs.Loading.{slot_of, key_in, is_meant, is_fit, head_refusals, load_refusals}
use Rattle.memory_update.specs.Loading.{authorising_key, NoneRefuses, Allows}

-- ---- laws of the messages of a key update

-- ---- a number of 256 bits as two blocks

-- a list of two, from its items
pub list_of_two : (bs : List (List ℕ)) (x y : List ℕ) → length bs ≡ 2 → bs ≡ get_or bs 0 x ∷ get_or bs 1 y ∷ []
list_of_two (a ∷ b ∷ []) x y h = refl
list_of_two bs x y h = absurd (omega arith)

length-two_blocks : (n : ℕ) → length (two_blocks n) ≡ 2
unfolding two_blocks
length-two_blocks n = refl

pub IsBlock-request_mac : (authkey m1 : List ℕ) (m2 : List (List ℕ)) → IsBlock authkey
    → IsBlock (request_mac authkey m1 m2)
unfolding request_mac
IsBlock-request_mac authkey m1 m2 is_authkey =
    IsBlock-cmac (kdf authkey Mac) (m1 ++ concat m2) (IsBlock-kdf authkey Mac is_authkey)

-- two blocks are those of the number of their bytes
pub two_blocks-join : (x y : List ℕ) → IsBlock x → IsBlock y
    → two_blocks (number_of x * 2 ^ 128 + number_of y) ≡ x ∷ y ∷ []
unfolding two_blocks
two_blocks-join x y is_x is_y =
    let joined : bytes_of 32 (number_of x * 2 ^ 128 + number_of y) ≡ x ++ y =
    bytes_of-append 16 16 (number_of x) (number_of y) (number_of-lt 16 y is_y)
    ∙ ap (λ l. l ++ bytes_of 16 (number_of y)) (bytes_of-number_of 16 x is_x)
    ∙ ap (λ l. x ++ l) (bytes_of-number_of 16 y is_y) in
    let front : take 16 (x ++ y) ≡ x = ap (λ n. take n (x ++ y)) (sym is_x.size) ∙ take-append_seam x y in
    let back : drop 16 (x ++ y) ≡ y = ap (λ n. drop n (x ++ y)) (sym is_x.size) ∙ drop-append_seam x y in
    ap (λ bs. take 16 bs ∷ drop 16 bs ∷ []) joined ∙ ap (λ a. a ∷ drop 16 (x ++ y) ∷ []) front
    ∙ ap (λ b. x ∷ b ∷ []) back

-- the same, if the upper half is given as a number
pub two_blocks-pair : (a : ℕ) (low : List ℕ) → a < 2 ^ 128 → IsBlock low
    → two_blocks (a * 2 ^ 128 + number_of low) ≡ bytes_of 16 a ∷ low ∷ []
two_blocks-pair a low fits is_low =
    ap (λ h. two_blocks (h * 2 ^ 128 + number_of low)) (sym (number_of-bytes_of-lt 16 a fits))
    ∙ two_blocks-join (bytes_of 16 a) low (IsBytes-bytes_of 16 a) is_low

-- the number of two blocks
pub number_of-two : (x y : List ℕ) → IsBlock y → number_of (concat (x ∷ y ∷ [])) ≡ number_of x * 2 ^ 128 + number_of y
number_of-two x y is_y =
    ap (λ l. number_of (x ++ l)) (append-nil y) ∙ number_of-append x y
    ∙ ap (λ n. number_of x * 256 ^ n + number_of y) is_y.size

-- ---- M1

uid-lt : (uid : List ℕ) → IsUid uid → number_of uid < 2 ^ 120
uid-lt uid u = number_of-lt 15 uid u

pub head_number-lt : (uid : List ℕ) (id auth : ℕ) → IsUid uid → id < 14 → auth < 14 → head_number uid id auth < 2 ^ 128
head_number-lt uid id auth u i a = omega (arith, uid-lt uid u)

one_byte : (n : ℕ) → n < 256 → bytes_of 1 n ≡ n ∷ []
unfolding bytes_of
one_byte n fits = ap (λ x. x ∷ []) (let e : n / 256 ^ 0 % 256 ≡ n = omega arith in e)

-- UID, ID and AuthID as bytes: the UID's, and one for both numbers
pub head_bytes : (uid : List ℕ) (id auth : ℕ) → IsUid uid → id < 14 → auth < 14
    → bytes_of 16 (head_number uid id auth) ≡ uid ++ (id * 16 + auth) ∷ []
head_bytes uid id auth is_uid i a =
    let last : ℕ = id * 16 + auth in
    let small : last < 256 = omega arith in
    let sum : head_number uid id auth ≡ number_of uid * 2 ^ 8 + last = omega arith in
    ap (bytes_of 16) sum ∙ bytes_of-append 15 1 (number_of uid) last small
    ∙ ap (λ x. x ++ bytes_of 1 last) (bytes_of-number_of 15 uid is_uid) ∙ ap (λ y. uid ++ y) (one_byte last small)

number_of-head : (m1 : List ℕ) (h : Head) → HeadOf m1 h → number_of m1 ≡ head_number h.uid h.id h.auth
number_of-head m1 h of =
    ap number_of of.m1_is
    ∙ number_of-bytes_of-lt 16 (head_number h.uid h.id h.auth)
    (head_number-lt h.uid h.id h.auth of.is_head.is_uid of.is_head.id_fits of.is_head.auth_fits)

pub uid_of-head : (m1 : List ℕ) (h : Head) → HeadOf m1 h → take 15 m1 ≡ h.uid
uid_of-head m1 h of =
    let last : List ℕ = (h.id * 16 + h.auth) ∷ [] in
    ap (take 15) (of.m1_is ∙ head_bytes h.uid h.id h.auth of.is_head.is_uid of.is_head.id_fits of.is_head.auth_fits)
    ∙ ap (λ n. take n (h.uid ++ last)) (sym of.is_head.is_uid.size) ∙ take-append_seam h.uid last

pub id_of-head : (m1 : List ℕ) (h : Head) → HeadOf m1 h → id_of m1 ≡ h.id
id_of-head m1 h of =
    ap (λ n. n / 2 ^ 4 % 2 ^ 4) (number_of-head m1 h of) ∙ omega (arith, of.is_head.id_fits, of.is_head.auth_fits)

pub auth_of-head : (m1 : List ℕ) (h : Head) → HeadOf m1 h → auth_of m1 ≡ h.auth
auth_of-head m1 h of =
    ap (λ n. n % 2 ^ 4) (number_of-head m1 h of) ∙ omega (arith, of.is_head.id_fits, of.is_head.auth_fits)

pub HasSlots-head : (m1 : List ℕ) (h : Head) → HeadOf m1 h → HasSlots m1
HasSlots-head m1 h of =
    (omega (arith, id_of-head m1 h of, of.is_head.id_fits), omega (arith, auth_of-head m1 h of, of.is_head.auth_fits))

-- an M1 has one head
pub same_head : (m1 : List ℕ) (h : Head) → HeadOf m1 h → head_in m1 ≡ h
same_head m1 h of =
    let Make : List ℕ → ℕ → ℕ → Head = λ x i a. record { uid = x; id = i; auth = a } in
    ap (λ x. Make x (id_of m1) (auth_of m1)) (uid_of-head m1 h of)
    ∙ ap (λ i. Make h.uid i (auth_of m1)) (id_of-head m1 h of) ∙ ap (λ a. Make h.uid h.id a) (auth_of-head m1 h of)

last_byte : (n b : ℕ) → n * 256 ^ length (b ∷ []) + number_of (b ∷ []) ≡ n * 256 + b
unfolding number_of
last_byte n b = omega arith

-- an M1 is the UID's bytes and one more
in_m1 : (m1 : List ℕ) → IsBlock m1
    → IsUid (take 15 m1) × (get_or m1 15 0 < 256) × (number_of m1 ≡ number_of (take 15 m1) * 256 + get_or m1 15 0)
in_m1 m1 is_m1 =
    let P : ℕ → Type 0 = λ b. b < 256 in
    let last : ℕ = get_or m1 15 0 in
    let uid : List ℕ = take 15 m1 in
    let within : 15 < length m1 = omega (arith, is_m1.size) in
    let whole : m1 ≡ uid ++ last ∷ [] =
    sym (take-length m1) ∙ ap (λ n. take n m1) is_m1.size ∙ take_more m1 15 0 within in (
      record { size = length-take 15 m1 ∙ ap (min 15) is_m1.size; bytes = All-take P 15 m1 is_m1.bytes },
      All-get_or P m1 15 0 within is_m1.bytes,
      ap number_of whole ∙ number_of-append uid (last ∷ []) ∙ last_byte (number_of uid) last,
    )

-- ID and AuthID stand in the last byte
pub id_of-last : (m1 : List ℕ) → IsBlock m1 → id_of m1 ≡ get_or m1 15 0 / 16
id_of-last m1 is_m1 = let parts = in_m1 m1 is_m1 in omega (arith, parts.2, parts.1)

pub auth_of-last : (m1 : List ℕ) → IsBlock m1 → auth_of m1 ≡ get_or m1 15 0 % 16
auth_of-last m1 is_m1 = let parts = in_m1 m1 is_m1 in omega (arith, parts.2, parts.1)

pub HeadOf-head_in : (m1 : List ℕ) → IsBlock m1 → HasSlots m1 → HeadOf m1 (head_in m1)
HeadOf-head_in m1 is_m1 slots =
    let parts = in_m1 m1 is_m1 in
    let number : number_of m1 ≡ head_number (take 15 m1) (id_of m1) (auth_of m1) = omega (arith, parts.2, parts.1) in
    record {
      is_head = record { is_uid = parts.0; id_fits = slots.0; auth_fits = slots.1 };
      m1_is = sym (bytes_of-number_of 16 m1 is_m1) ∙ ap (bytes_of 16) number;
    }

-- ---- the text of M2

-- the upper half of the text: counter, flags and padding
upper-lt : (u : Update) (pad : ℕ) → u.counter < 2 ^ 28 → pad < 2 ^ 95
    → u.counter * 2 ^ 100 + flags_number u.flags * 2 ^ 95 + pad < 2 ^ 128
upper-lt u pad counter_fits pad_fits = omega (arith, flags_number-lt u.flags)

plain_halves : (u : Update) (pad : ℕ)
    → plain u pad ≡ (u.counter * 2 ^ 100 + flags_number u.flags * 2 ^ 95 + pad) * 2 ^ 128 + number_of u.key
plain_halves u pad = omega arith

pub plain_blocks : (u : Update) (pad : ℕ) → u.counter < 2 ^ 28 → pad < 2 ^ 95 → IsBlock u.key
    → two_blocks (plain u pad) ≡ bytes_of 16 (u.counter * 2 ^ 100 + flags_number u.flags * 2 ^ 95 + pad) ∷ u.key ∷ []
plain_blocks u pad counter_fits pad_fits is_key =
    ap two_blocks (plain_halves u pad)
    ∙ two_blocks-pair (u.counter * 2 ^ 100 + flags_number u.flags * 2 ^ 95 + pad) u.key
    (upper-lt u pad counter_fits pad_fits) is_key

All-two : (x y : List ℕ) → IsBlock x → IsBlock y → All IsBlock (x ∷ y ∷ [])
All-two x y is_x is_y = All-cons IsBlock x (y ∷ []) is_x (All-cons IsBlock y [] is_y (All-nil IsBlock))

-- the text in an M2 that carries an update is the number of what it carries
text_in-carried : (m2 : List (List ℕ)) (authkey : List ℕ) (u : Update) (pad : ℕ) → IsBlock authkey → u.counter < 2 ^ 28
    → pad < 2 ^ 95 → IsBlock u.key → m2 ≡ cbc (kdf authkey Enc) zero_block (two_blocks (plain u pad))
    → text_in authkey m2 ≡ plain u pad
unfolding text_in
text_in-carried m2 authkey u pad is_authkey counter_fits pad_fits is_key sealed =
    let k : List ℕ = kdf authkey Enc in
    let upper : ℕ = u.counter * 2 ^ 100 + flags_number u.flags * 2 ^ 95 + pad in
    let high : List ℕ = bytes_of 16 upper in
    let text : two_blocks (plain u pad) ≡ high ∷ u.key ∷ [] = plain_blocks u pad counter_fits pad_fits is_key in
    let opened : cbc_inverse k zero_block m2 ≡ high ∷ u.key ∷ [] =
    ap (λ m. cbc_inverse k zero_block m) (sealed ∙ ap (cbc k zero_block) text)
    ∙ cbc_inverse-cbc k zero_block (high ∷ u.key ∷ []) (IsBlock-kdf authkey Enc is_authkey) IsBlock-zero_block
    (All-two high u.key (IsBytes-bytes_of 16 upper) is_key) in
    ap (λ bs. number_of (concat bs)) opened ∙ number_of-two high u.key is_key
    ∙ ap (λ n. n * 2 ^ 128 + number_of u.key)
    (number_of-bytes_of-lt 16 upper (upper-lt u pad counter_fits pad_fits)) ∙ sym (plain_halves u pad)

-- a request has no update but the one that stands in M1 and M2
pub update_in-carried : (request : Request) (authkey : List ℕ) (u : Update) → IsBlock authkey
    → Carries request authkey u → update_in authkey request ≡ u
unfolding update_in
update_in-carried request authkey u is_authkey x =
    let is_u = x.padded.is_update in
    let h : Head = record { uid = u.uid; id = u.id; auth = u.auth } in
    let of : HeadOf request.m1 h =
    record {
      is_head = record { is_uid = is_u.is_uid; id_fits = is_u.id_fits; auth_fits = is_u.auth_fits };
      m1_is = x.padded.m1_is;
    } in
    let text : text_in authkey request.m2 ≡ plain u x.pad =
    text_in-carried request.m2 authkey u x.pad is_authkey is_u.counter_fits x.pad_fits is_u.is_key x.padded.m2_is in
    let halves = plain_halves u x.pad in
    let key_fits : number_of u.key < 2 ^ 128 = number_of-lt 16 u.key is_u.is_key in
    let flags_fit : flags_number u.flags < 32 = flags_number-lt u.flags in
    let counter : text_in authkey request.m2 / 2 ^ 228 ≡ u.counter =
    ap (λ n. n / 2 ^ 228) text ∙ omega (arith, x.pad_fits) in
    let flags : text_in authkey request.m2 / 2 ^ 223 % 2 ^ 5 ≡ flags_number u.flags =
    ap (λ n. n / 2 ^ 223 % 2 ^ 5) text ∙ omega (arith, x.pad_fits) in
    let key : text_in authkey request.m2 % 2 ^ 128 ≡ number_of u.key =
    ap (λ n. n % 2 ^ 128) text ∙ omega (arith, x.pad_fits) in
    let Make : List ℕ → ℕ → ℕ → ℕ → Flags → List ℕ → Update =
    λ d i a c f y. record { uid = d; id = i; auth = a; counter = c; flags = f; key = y } in
    let m1 : List ℕ = request.m1 in
    let all : Make (take 15 m1) (id_of m1) (auth_of m1) (text_in authkey request.m2 / 2 ^ 228)
    (flags_from (text_in authkey request.m2 / 2 ^ 223 % 2 ^ 5)) (bytes_of 16 (text_in authkey request.m2 % 2 ^ 128))
    ≡ Make u.uid u.id u.auth u.counter u.flags u.key =
    cc (
      uid_of-head m1 h of,
      id_of-head m1 h of,
      auth_of-head m1 h of,
      counter,
      ap flags_from flags
          ∙ flags_from-number u.flags,
      ap (bytes_of 16) key ∙ bytes_of-number_of 16 u.key is_u.is_key,
    ) in
    all

-- a request carries at most one update under one authorising key
pub same_update : (request : Request) (authkey : List ℕ) (u v : Update) → IsBlock authkey → Carries request authkey u
    → Carries request authkey v → u ≡ v
same_update request authkey u v is_authkey x y =
    sym (update_in-carried request authkey u is_authkey x) ∙ update_in-carried request authkey v is_authkey y

-- ---- the update that stands in a request

-- what M2 decrypts to are two blocks, and its text is their number
opened_at : (m2 : List (List ℕ)) (authkey x y : List ℕ) → IsBlock authkey → All IsBlock m2
    → cbc_inverse (kdf authkey Enc) zero_block m2 ≡ x ∷ y ∷ []
    → IsBlock x × IsBlock y × (text_in authkey m2 ≡ number_of x * 2 ^ 128 + number_of y)
unfolding text_in
opened_at m2 authkey x y is_authkey is_m2 is =
    let all : All IsBlock (x ∷ y ∷ []) =
    subst (All IsBlock) is
    (All-cbc_inverse (kdf authkey Enc) zero_block m2 (IsBlock-kdf authkey Enc is_authkey) IsBlock-zero_block is_m2)
    in
    let is_y = All-head IsBlock y [] (All-tail IsBlock x (y ∷ []) all) in
    (All-head IsBlock x (y ∷ []) all, is_y, ap (λ bs. number_of (concat bs)) is ∙ number_of-two x y is_y)

-- M2 is what its text is encrypted to
sealed_again : (m2 : List (List ℕ)) (authkey x y : List ℕ) (n : ℕ) → IsBlock authkey → All IsBlock m2
    → cbc_inverse (kdf authkey Enc) zero_block m2 ≡ x ∷ y ∷ [] → n ≡ text_in authkey m2
    → m2 ≡ cbc (kdf authkey Enc) zero_block (two_blocks n)
sealed_again m2 authkey x y n is_authkey is_m2 is same =
    let o = opened_at m2 authkey x y is_authkey is_m2 is in
    let k : List ℕ = kdf authkey Enc in
    let text : two_blocks n ≡ cbc_inverse k zero_block m2 =
    ap two_blocks (same ∙ o.2) ∙ two_blocks-join x y o.0 o.1 ∙ sym is in
    sym (cbc-cbc_inverse k zero_block m2 (IsBlock-kdf authkey Enc is_authkey) is_m2) ∙ ap (cbc k zero_block) (sym text)

-- the fields of a number of 256 bits make it up again
made_up : (t f k : ℕ) → t < 2 ^ 256 → f ≡ t / 2 ^ 223 % 2 ^ 5 → k ≡ t % 2 ^ 128
    → t / 2 ^ 228 * 2 ^ 228 + f * 2 ^ 223 + t / 2 ^ 128 % 2 ^ 95 * 2 ^ 128 + k ≡ t
made_up t f k fits flags key = omega arith

carries_opened : (request : Request) (authkey x y : List ℕ) → IsBlock authkey → IsRequest request → HasSlots request.m1
    → cbc_inverse (kdf authkey Enc) zero_block request.m2 ≡ x ∷ y ∷ []
    → request.m3 ≡ request_mac authkey request.m1 request.m2 → Carries request authkey (update_in authkey request)
unfolding update_in
carries_opened request authkey x y is_authkey is_request slots is mac =
    let o = opened_at request.m2 authkey x y is_authkey is_request.m2_is is in
    let t : ℕ = text_in authkey request.m2 in
    let m1 : List ℕ = request.m1 in
    let of = HeadOf-head_in m1 is_request.m1_is slots in
    let fits : t < 2 ^ 256 = omega (arith, o.2, number_of-lt 16 x o.0, number_of-lt 16 y o.1) in
    let f : ℕ = t / 2 ^ 223 % 2 ^ 5 in
    let pad : ℕ = t / 2 ^ 128 % 2 ^ 95 in
    let flags : flags_number (flags_from f) ≡ f = flags_number-from f (omega arith) in
    let key : number_of (bytes_of 16 (t % 2 ^ 128)) ≡ t % 2 ^ 128 =
    number_of-bytes_of-lt 16 (t % 2 ^ 128) (omega arith) in
    record {
      pad = pad;
      pad_fits = omega arith;
      padded = record {
        is_update =
            record {
              is_uid = of.is_head.is_uid;
              id_fits = slots.0;
              auth_fits = slots.1;
              counter_fits = omega (arith, fits);
              is_key = IsBytes-bytes_of 16 (t % 2 ^ 128);
            };
        m1_is = of.m1_is;
        m2_is = sealed_again request.m2 authkey x y _ is_authkey is_request.m2_is is
            (made_up t (flags_number (flags_from f)) (number_of (bytes_of 16 (t % 2 ^ 128))) fits flags key);
        m3_is = mac;
      };
    }

-- a request whose ID and AuthID are slots' and whose M3 is right carries the update that stands in it
pub Carries-update_in : (request : Request) (authkey : List ℕ) → IsBlock authkey → IsRequest request
    → HasSlots request.m1 → request.m3 ≡ request_mac authkey request.m1 request.m2
    → Carries request authkey (update_in authkey request)
Carries-update_in request authkey is_authkey is_request slots mac =
    let text : List (List ℕ) = cbc_inverse (kdf authkey Enc) zero_block request.m2 in
    let two : length text ≡ 2 = length-cbc_inverse (kdf authkey Enc) zero_block request.m2 ∙ is_request.m2_has_2 in
    let x : List ℕ = get_or text 0 [] in
    let y : List ℕ = get_or text 1 [] in
    carries_opened request authkey x y is_authkey is_request slots (list_of_two text [] [] two) mac

-- the head of a request that carries an update
pub HeadOf-Carries : (request : Request) (authkey : List ℕ) (u : Update) → Carries request authkey u
    → HeadOf request.m1 (record { uid = u.uid; id = u.id; auth = u.auth })
HeadOf-Carries request authkey u x =
    let is_u = x.padded.is_update in
    record {
      is_head = record { is_uid = is_u.is_uid; id_fits = is_u.id_fits; auth_fits = is_u.auth_fits };
      m1_is = x.padded.m1_is;
    }

pub HasSlots-Carries : (request : Request) (authkey : List ℕ) (u : Update) → Carries request authkey u
    → HasSlots request.m1
HasSlots-Carries request authkey u x =
    HasSlots-head request.m1 (record { uid = u.uid; id = u.id; auth = u.auth }) (HeadOf-Carries request authkey u x)

-- what carries an update is a request
pub IsRequest-Carries : (request : Request) (authkey : List ℕ) (u : Update) → IsBlock authkey
    → Carries request authkey u → IsRequest request
IsRequest-Carries request authkey u is_authkey x =
    let k : List ℕ = kdf authkey Enc in
    let text : List (List ℕ) = two_blocks (plain u x.pad) in
    record {
      m1_is = subst IsBlock (sym x.padded.m1_is) (IsBytes-bytes_of 16 (head_number u.uid u.id u.auth));
      m2_has_2 = ap length x.padded.m2_is ∙ length-cbc k zero_block text ∙ length-two_blocks (plain u x.pad);
      m2_is = subst (All IsBlock) (sym x.padded.m2_is) (All-cbc k zero_block text (IsBlock-kdf authkey Enc is_authkey));
      m3_is = subst IsBlock (sym x.padded.m3_is) (IsBlock-request_mac authkey request.m1 request.m2 is_authkey);
    }

-- a request that is built carries its update
pub Carries-Builds : (request : Request) (authkey : List ℕ) (u : Update) → Builds request authkey u
    → Carries request authkey u
Carries-Builds request authkey u b = record { pad = 0; pad_fits = omega arith; padded = b }

-- one request is built for an update
pub same_request : (request other : Request) (authkey : List ℕ) (u : Update) → Builds request authkey u
    → Builds other authkey u → request ≡ other
same_request r s authkey u x y =
    let m1s : r.m1 ≡ s.m1 = x.m1_is ∙ sym y.m1_is in
    let m2s : r.m2 ≡ s.m2 = x.m2_is ∙ sym y.m2_is in
    let m3s : r.m3 ≡ s.m3 =
    x.m3_is ∙ ap (λ a. request_mac authkey a r.m2) m1s ∙ ap (request_mac authkey s.m1) m2s ∙ sym y.m3_is in
    let Make : List ℕ → List (List ℕ) → List ℕ → Request = λ a b c. record { m1 = a; m2 = b; m3 = c } in
    ap (λ a. Make a r.m2 r.m3) m1s ∙ ap (λ b. Make s.m1 b r.m3) m2s ∙ ap (Make s.m1 s.m2) m3s

-- ---- the answer

-- one reply confirms an update
pub same_reply : (r s : Reply) (u : Update) (uid : List ℕ) → Confirms r u uid → Confirms s u uid → r ≡ s
same_reply r s u uid x y =
    let m4s : r.m4 ≡ s.m4 = x.m4_is ∙ sym y.m4_is in
    let m5s : r.m5 ≡ s.m5 = x.m5_is ∙ ap (λ m. cmac (kdf u.key Mac) (concat m)) m4s ∙ sym y.m5_is in
    let Make : List (List ℕ) → List ℕ → Reply = λ a b. record { m4 = a; m5 = b } in
    ap (λ a. Make a r.m5) m4s ∙ ap (Make s.m4) m5s

-- ---- laws of loading: an answer holds, and at most one; and what an update that is taken has

-- ---- the slot that an update makes, and the key of a slot

pub IsSlot-slot_of : (u : Update) → IsUpdate u → IsSlot (slot_of u)
IsSlot-slot_of u is_u = (is_u.is_key, is_u.counter_fits)

pub IsBlock-key_in : (slot : Slot) → IsSlot slot → IsBlock (key_in slot)
IsBlock-key_in Empty is_slot = record { size = refl; bytes = All-replicate (λ b. b < 256) 16 255 (omega arith) }
IsBlock-key_in (Filled key counter flags) is_slot = is_slot.0

pub IsBlock-authorising_key : (slots : List Slot) (request : Request) → IsSlots slots
    → IsBlock (authorising_key slots request)
IsBlock-authorising_key slots request is_slots =
    IsBlock-key_in (slot_at slots (auth_of request.m1)) (IsSlot-slot_at slots (auth_of request.m1) is_slots.slots_are)

-- ---- if no refusal applies

pub none_refuses : (slots : List Slot) (good : Bool) (uid : List ℕ) (request : Request)
    → first_applying (load_refusals slots good uid request) ≡ None → NoneRefuses slots good uid request
none_refuses slots good uid request none =
    let id : ℕ = id_of request.m1 in
    let auth : ℕ = auth_of request.m1 in
    let key : List ℕ = authorising_key slots request in
    let target : Slot = slot_at slots id in
    let u : Update = update_in key request in
    let test : Bool = not (is_fit uid target key request) in
    let both = none_of_append (head_refusals slots good id auth) ((test, KeyUpdateError) ∷ []) none in
    let pair = (none_of_first (not (is_pair id auth)) _ _ both.0).0 in
    let fit : is_fit uid target key request ≡ true = not-false _ (none_of_first test KeyUpdateError [] both.1).0 in
    let parts =
    and_parts (bytes_eq request.m3 (request_mac key request.m1 request.m2) && is_meant uid target u.uid)
    (nat_lt (counter_of target) u.counter) fit in
    let front =
    and_parts (bytes_eq request.m3 (request_mac key request.m1 request.m2)) (is_meant uid target u.uid) parts.0 in
    record {
      pair = not-false _ pair;
      head = both.0;
      mac = (bytes_eq-Decides request.m3 (request_mac key request.m1 request.m2)).0 front.0;
      meant = front.1;
      greater = ltb-true (counter_of target) u.counter parts.1;
    }

-- ---- an answer holds, and at most one

pub same_from_Allows : (slots : List Slot) (good : Bool) (uid : List ℕ) (request : Request)
    (answer other : Result Update Erc) → IsSlots slots → Allows slots good uid request answer
    → Allows slots good uid request other → answer ≡ other
same_from_Allows slots good uid request (Ok u) (Ok v) is_slots x y =
    ap Ok (same_update request (authorising_key slots request) u v
    (IsBlock-authorising_key slots request is_slots) x.1 y.1)
same_from_Allows slots good uid request (Ok u) (Err e) is_slots x y = let different = sym x.0 ∙ y in cc
same_from_Allows slots good uid request (Err e) (Ok v) is_slots x y = let different = sym x ∙ y.0 in cc
same_from_Allows slots good uid request (Err e) (Err f) is_slots x y = let same = sym x ∙ y in cc

allowed : (slots : List Slot) (good : Bool) (uid : List ℕ) (request : Request) (first : Option Erc) → IsSlots slots
    → IsRequest request → first_applying (load_refusals slots good uid request) ≡ first
    → (answer : Result Update Erc) × Allows slots good uid request answer
allowed slots good uid request (Some refusal) is_slots is_request is = (Err refusal, is)
allowed slots good uid request None is_slots is_request is =
    let facts = none_refuses slots good uid request is in
    let key : List ℕ = authorising_key slots request in
    let slots_there : HasSlots request.m1 = slots_of_pair (id_of request.m1) (auth_of request.m1) facts.pair in (
      Ok (update_in key request),
      (
        is,
        Carries-update_in request key
            (IsBlock-authorising_key slots request is_slots) is_request slots_there facts.mac,
      ),
    )

pub Allows-some : (slots : List Slot) (good : Bool) (uid : List ℕ) (request : Request) → IsSlots slots
    → IsRequest request → (answer : Result Update Erc) × Allows slots good uid request answer
Allows-some slots good uid request is_slots is_request = allowed slots good uid request _ is_slots is_request refl

-- ---- an update that is taken

-- it is for the slots that M1 names
pub id_of-Allows : (slots : List Slot) (good : Bool) (uid : List ℕ) (request : Request) (u : Update)
    → Allows slots good uid request (Ok u) → (id_of request.m1 ≡ u.id) × (auth_of request.m1 ≡ u.auth)
id_of-Allows slots good uid request u x =
    let of = HeadOf-Carries request (authorising_key slots request) u x.1 in
    (id_of-head request.m1 _ of, auth_of-head request.m1 _ of)

-- its counter is greater than the target's
pub counter_of-Allows : (slots : List Slot) (good : Bool) (uid : List ℕ) (request : Request) (u : Update)
    → IsSlots slots → Allows slots good uid request (Ok u) → counter_of (slot_at slots u.id) < u.counter
counter_of-Allows slots good uid request u is_slots x =
    let facts = none_refuses slots good uid request x.0 in
    let key : List ℕ = authorising_key slots request in
    let same : update_in key request ≡ u =
    update_in-carried request key u (IsBlock-authorising_key slots request is_slots) x.1 in
    let With : ℕ → ℕ → Type 0 = λ i c. counter_of (slot_at slots i) < c in
    let At : ℕ → Type 0 = λ i. With i u.counter in
    let Than : Update → Type 0 = λ v. With (id_of request.m1) v.counter in
    subst At (id_of-Allows slots good uid request u x).0 (subst Than same facts.greater)

-- ---- the test of the last refusal, if a request carries an update

pub is_fit-carried : (uid : List ℕ) (target : Slot) (authkey : List ℕ) (request : Request) (u : Update)
    → IsBlock authkey → Carries request authkey u
    → is_fit uid target authkey request ≡ (is_meant uid target u.uid && nat_lt (counter_of target) u.counter)
is_fit-carried uid target authkey request u is_authkey x =
    let mac : bytes_eq request.m3 (request_mac authkey request.m1 request.m2) ≡ true =
    (bytes_eq-Decides request.m3 (request_mac authkey request.m1 request.m2)).1 x.padded.m3_is in
    let same = update_in-carried request authkey u is_authkey x in
    ap (λ m. m && is_meant uid target (update_in authkey request).uid
    && nat_lt (counter_of target) (update_in authkey request).counter) mac
    ∙ ap (λ (v : Update). is_meant uid target v.uid && nat_lt (counter_of target) v.counter) same

pub is_fit-other_mac : (uid : List ℕ) (target : Slot) (authkey : List ℕ) (request : Request)
    → request.m3 ≢ request_mac authkey request.m1 request.m2 → is_fit uid target authkey request ≡ false
is_fit-other_mac uid target authkey request differs =
    let mac : bytes_eq request.m3 (request_mac authkey request.m1 request.m2) ≡ false =
    false_from_ne_true _
    (λ e. differs ((bytes_eq-Decides request.m3 (request_mac authkey request.m1 request.m2)).0 e)) in
    ap (λ m. m && is_meant uid target (update_in authkey request).uid
    && nat_lt (counter_of target) (update_in authkey request).counter) mac

-- an update for this engine, whose UID isn't zero, is meant for it
is_meant-own : (uid : List ℕ) (target : Slot) → uid ≢ replicate 15 0 → is_meant uid target uid ≡ true
is_meant-own uid target not_zero =
    let for_all : bytes_eq uid (replicate 15 0) ≡ false =
    false_from_ne_true _ (λ e. not_zero ((bytes_eq-Decides uid (replicate 15 0)).0 e)) in
    let own : bytes_eq uid uid ≡ true = (bytes_eq-Decides uid uid).1 refl in
    ap (λ z. (bytes_eq uid uid || z) && not (z && (flags_of target).wildcard)) for_all
    ∙ ap (λ o. (o || false) && not (false && (flags_of target).wildcard)) own

-- a request that is built is taken on three conditions: the first four refusals don't apply, the authorising key is the
-- given one, and the target's counter is lower
pub Allows-Builds : (slots : List Slot) (good : Bool) (uid : List ℕ) (request : Request) (authkey : List ℕ) (u : Update)
    → IsBlock authkey → Builds request authkey u → key_in (slot_at slots u.auth) ≡ authkey
    → first_applying (head_refusals slots good u.id u.auth) ≡ None → u.uid ≡ uid → uid ≢ replicate 15 0
    → counter_of (slot_at slots u.id) < u.counter → Allows slots good uid request (Ok u)
Allows-Builds slots good uid request authkey u is_authkey b key_is head uid_is not_zero greater =
    let x = Carries-Builds request authkey u b in
    let of = HeadOf-Carries request authkey u x in
    let ids : id_of request.m1 ≡ u.id = id_of-head request.m1 _ of in
    let auths : auth_of request.m1 ≡ u.auth = auth_of-head request.m1 _ of in
    let key : authorising_key slots request ≡ authkey = ap (λ a. key_in (slot_at slots a)) auths ∙ key_is in
    let target : Slot = slot_at slots (id_of request.m1) in
    let less : counter_of target < u.counter =
    subst (λ (i : ℕ). counter_of (slot_at slots i) < u.counter) (sym ids) greater in
    let fit : is_fit uid target authkey request ≡ true = is_fit-carried uid target authkey request u is_authkey x
    ∙ and_from (is_meant uid target u.uid) (nat_lt (counter_of target) u.counter)
    (ap (is_meant uid target) uid_is ∙ is_meant-own uid target not_zero) (lt-ltb (counter_of target) u.counter less) in
    let first : first_applying (head_refusals slots good (id_of request.m1) (auth_of request.m1)) ≡ None =
    ap (λ i. first_applying (head_refusals slots good i (auth_of request.m1))) ids
    ∙ ap (λ a. first_applying (head_refusals slots good u.id a)) auths ∙ head in
    let last : first_applying ((not (is_fit uid target (authorising_key slots request) request), KeyUpdateError) ∷ [])
    ≡ None =
    ap (λ k. first_applying ((not (is_fit uid target k request), KeyUpdateError) ∷ [])) key
    ∙ ap (λ t. first_applying ((not t, KeyUpdateError) ∷ [])) fit in (
      first_applying-append (head_refusals slots good (id_of request.m1) (auth_of request.m1)) _ first ∙ last,
      subst (λ (k : List ℕ). Carries request k u) (sym key) x,
    )
