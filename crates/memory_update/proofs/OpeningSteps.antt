-- What `unseal` reads from a request
use Rattle.std.proofs.Common.{◌≡◌, ℕ, ◌+◌, ◌*◌, ◌/◌, ◌%◌, ◌^◌, ◌<◌, List, [], ◌∷◌, length, get_or, take, sym, ap, ◌∙◌, subst, arith}
use Rattle.std.specs.List.{All, concat}
use Rattle.std.proofs.lemmas.List.Elements.{All-head, All-tail}
use Rattle.basics.specs.Numbers.{number_of, bytes_of}
use Rattle.basics.proofs.CallerLemmas.{number_of-lt, bytes_of-number_of}
use Rattle.basics.specs.Blocks.{IsBlock, zero_block}
use Rattle.she_aes.specs.Modes.{cbc_inverse}
use Rattle.she_aes.proofs.CallerLemmas.{length-cbc_inverse}
use Rattle.she_kdf.specs.Derivation.{kdf}
use Rattle.she_kdf.specs.declared.Constant.TheVariants.{Enc}
use Rattle.key_slots.specs.declared.memory.Flags.{Flags}
use Rattle.key_slots.specs.Flags.{flags_number, flags_from}
use Rattle.key_slots.proofs.CallerLemmas.{flags_from-number}
use Rattle.memory_update.specs.Fields.{bit_field}
use Rattle.memory_update.specs.Messages.{request_mac, text_in, update_in, Carries, HasSlots, HeadOf, id_of, auth_of, IsRequest}
use Rattle.memory_update.proofs.CallerLemmas.{list_of_two, number_of-two, uid_of-head, id_of-head, auth_of-head, IsBlock-request_mac, Carries-update_in}
use Rattle.memory_update.specs.declared.messages.Head.{Head}
use Rattle.memory_update.specs.declared.messages.Request.{Request}
use Rattle.memory_update.specs.declared.messages.Update.{Update}

-- a text of two blocks, and the numbers that are read from it
record TextOf (m2 : List (List ℕ)) (authkey first last : List ℕ) : Type 0 where
  is_first : IsBlock first
  is_last : IsBlock last
  number : text_in authkey m2 ≡ number_of first * 2 ^ 128 + number_of last

text_of : (m2 text : List (List ℕ)) (authkey k z x y : List ℕ) → text ≡ cbc_inverse k z m2 → k ≡ kdf authkey Enc → z ≡ zero_block → length m2 ≡ 2 → All IsBlock text → TextOf m2 authkey (get_or text 0 x) (get_or text 1 y)
unfolding text_in
text_of m2 text authkey k z x y decrypted key zero two all =
    let whole : text ≡ cbc_inverse (kdf authkey Enc) zero_block m2 = decrypted ∙ ap (λ a. cbc_inverse a z m2) key ∙ ap (λ b. cbc_inverse (kdf authkey Enc) b m2) zero in
    let pair : text ≡ get_or text 0 x ∷ get_or text 1 y ∷ [] = list_of_two text x y (ap length whole ∙ length-cbc_inverse (kdf authkey Enc) zero_block m2 ∙ two) in
    let both : All IsBlock (get_or text 0 x ∷ get_or text 1 y ∷ []) = subst (All IsBlock) pair all in
    let is_last = All-head IsBlock (get_or text 1 y) [] (All-tail IsBlock (get_or text 0 x) (get_or text 1 y ∷ []) both) in
    record {
      is_first = All-head IsBlock (get_or text 0 x) (get_or text 1 y ∷ []) both;
      is_last = is_last;
      number = ap (λ bs. number_of (concat bs)) (sym whole ∙ pair) ∙ number_of-two (get_or text 0 x) (get_or text 1 y) is_last;
    }

-- what is read from M1 and from the two blocks is the update in the request
read_update : (request : Request) (h : Head) (authkey first last : List ℕ) (c : ℕ) (f : Flags) → HeadOf request.m1 h → TextOf request.m2 authkey first last → c ≡ bit_field 28 0 (number_of first) → flags_number f ≡ bit_field 5 28 (number_of first) → record { uid = h.uid; id = h.id; auth = h.auth; counter = c; flags = f; key = last } ≡ update_in authkey request
unfolding update_in
read_update request h authkey first last c f of t counter_is flags_is =
    let n : ℕ = text_in authkey request.m2 in
    let m1 : List ℕ = request.m1 in
    let first_fits : number_of first < 2 ^ 128 = number_of-lt 16 first t.is_first in
    let last_fits : number_of last < 2 ^ 128 = number_of-lt 16 last t.is_last in
    let counter : n / 2 ^ 228 ≡ c = omega (arith, t.number) in
    let flags : n / 2 ^ 223 % 2 ^ 5 ≡ flags_number f = omega (arith, t.number) in
    let key : n % 2 ^ 128 ≡ number_of last = omega (arith, t.number) in
    let Make : List ℕ → ℕ → ℕ → ℕ → Flags → List ℕ → Update = λ d i a c f y. record { uid = d; id = i; auth = a; counter = c; flags = f; key = y } in
    let all : Make h.uid h.id h.auth c f last ≡ Make (take 15 m1) (id_of m1) (auth_of m1) (n / 2 ^ 228) (flags_from (n / 2 ^ 223 % 2 ^ 5)) (bytes_of 16 (n % 2 ^ 128)) =
    cc (uid_of-head m1 h of, id_of-head m1 h of, auth_of-head m1 h of, counter, ap flags_from flags ∙ flags_from-number f, ap (bytes_of 16) key ∙ bytes_of-number_of 16 last t.is_last) in
    all

pub opened_is : (request : Request) (h : Head) (authkey k z x y : List ℕ) (text : List (List ℕ)) (word c : ℕ) (f : Flags) → HeadOf request.m1 h → text ≡ cbc_inverse k z request.m2 → k ≡ kdf authkey Enc → z ≡ zero_block → length request.m2 ≡ 2 → All IsBlock text → word ≡ number_of (get_or text 0 x) → c ≡ bit_field 28 0 word → flags_number f ≡ bit_field 5 28 word → record { uid = h.uid; id = h.id; auth = h.auth; counter = c; flags = f; key = get_or text 1 y } ≡ update_in authkey request
opened_is request h authkey k z x y text word c f of decrypted key zero two all word_is counter_is flags_is =
    read_update request h authkey (get_or text 0 x) (get_or text 1 y) c f of (text_of request.m2 text authkey k z x y decrypted key zero two all) (counter_is ∙ ap (bit_field 28 0) word_is) (flags_is ∙ ap (bit_field 5 28) word_is)

-- the update in a request with the right M3 is carried
pub unsealed : (request : Request) (authkey : List ℕ) (u : Update) → IsBlock authkey → IsBlock request.m1 → All IsBlock request.m2 → length request.m2 ≡ 2 → HasSlots request.m1 → request.m3 ≡ request_mac authkey request.m1 request.m2 → u ≡ update_in authkey request → Carries request authkey u
unsealed request authkey u is_authkey m1_is m2_is two slots mac same =
    let is_request : IsRequest request = record { m1_is = m1_is; m2_has_2 = two; m2_is = m2_is; m3_is = subst IsBlock (sym mac) (IsBlock-request_mac authkey request.m1 request.m2 is_authkey) } in
    subst (λ (v : Update). Carries request authkey v) (sym same) (Carries-update_in request authkey is_authkey is_request slots mac)
