-- What a reply confirms
use Rattle.std.proofs.Common.{◌≡◌, ℕ, ◌+◌, ◌*◌, ◌^◌, ◌<◌, List, [], ◌∷◌, refl, sym, ap, ◌∙◌, arith}
use Rattle.std.specs.List.{concat}
use Rattle.basics.specs.Numbers.{number_of, bytes_of}
use Rattle.basics.proofs.CallerLemmas.{IsBytes-bytes_of, same_number}
use Rattle.she_aes.specs.Cipher.{IsBlock, enc, dec}
use Rattle.she_aes.proofs.CallerLemmas.{IsBlock-enc, dec-enc}
use Rattle.she_kdf.specs.Derivation.{kdf}
use Rattle.she_kdf.proofs.CallerLemmas.{IsBlock-kdf}
use Rattle.she_kdf.specs.declared.Constant.TheVariants.{Enc, Mac}
use Rattle.she_cmac.specs.Cmac.{cmac}
use Rattle.memory_update.specs.Messages.{two_blocks, head_number, Confirms, HeadOf, sealed_counter, SameConfirmed, IsUid, IsUpdate}
use Rattle.memory_update.proofs.CallerLemmas.{two_blocks-pair, head_number-lt, uid_of-head, id_of-head, auth_of-head}
use Rattle.memory_update.specs.declared.messages.Head.{Head}
use Rattle.memory_update.specs.declared.messages.Update.{Update}
use Rattle.memory_update.specs.declared.messages.Reply.{Reply}

-- a reply has nothing of the flags, nor of the UID in the update
pub Confirms-same : (r : Reply) (u v : Update) (uid : List ℕ) → u.id ≡ v.id → u.auth ≡ v.auth → u.counter ≡ v.counter → u.key ≡ v.key → Confirms r u uid → Confirms r v uid
Confirms-same r u v uid ids auths counters keys x =
    let M4 : ℕ → ℕ → ℕ → List ℕ → List (List ℕ) = λ i a c k. two_blocks (number_of uid * 2 ^ 136 + i * 2 ^ 132 + a * 2 ^ 128 + number_of (enc (kdf k Enc) (bytes_of 16 (c * 2 ^ 100 + 2 ^ 99)))) in
    record {
      m4_is = x.m4_is ∙ ap (λ i. M4 i u.auth u.counter u.key) ids ∙ ap (λ a. M4 v.id a u.counter u.key) auths ∙ ap (λ c. M4 v.id v.auth c u.key) counters ∙ ap (M4 v.id v.auth v.counter) keys;
      m5_is = x.m5_is ∙ ap (λ k. cmac (kdf k Mac) (concat r.m4)) keys;
    }

-- the two blocks of M4
pub answer_blocks : (uid : List ℕ) (u : Update) → IsUid uid → u.id < 14 → u.auth < 14 → IsBlock u.key → bytes_of 16 (head_number uid u.id u.auth) ∷ sealed_counter u ∷ [] ≡ two_blocks (number_of uid * 2 ^ 136 + u.id * 2 ^ 132 + u.auth * 2 ^ 128 + number_of (sealed_counter u))
answer_blocks uid u is_uid id_fits auth_fits is_key =
    let last : List ℕ = sealed_counter u in
    let is_last : IsBlock last = IsBlock-enc (kdf u.key Enc) (bytes_of 16 (u.counter * 2 ^ 100 + 2 ^ 99)) (IsBlock-kdf u.key Enc is_key) in
    let sum : head_number uid u.id u.auth * 2 ^ 128 + number_of last ≡ number_of uid * 2 ^ 136 + u.id * 2 ^ 132 + u.auth * 2 ^ 128 + number_of last = omega arith in
    sym (two_blocks-pair (head_number uid u.id u.auth) last (head_number-lt uid u.id u.auth is_uid id_fits auth_fits) is_last) ∙ ap two_blocks sum

same_counter : (u v : Update) → IsUpdate u → IsUpdate v → sealed_counter u ≡ sealed_counter v → u.key ≡ v.key → u.counter ≡ v.counter
same_counter u v is_u is_v sealed keys =
    let k : List ℕ = kdf v.key Enc in
    let is_k = IsBlock-kdf v.key Enc is_v.is_key in
    let cu : List ℕ = bytes_of 16 (u.counter * 2 ^ 100 + 2 ^ 99) in
    let cv : List ℕ = bytes_of 16 (v.counter * 2 ^ 100 + 2 ^ 99) in
    let same_sealed : enc k cu ≡ enc k cv = ap (λ y. enc (kdf y Enc) cu) (sym keys) ∙ sealed in
    let blocks : cu ≡ cv = sym (dec-enc k cu is_k (IsBytes-bytes_of 16 (u.counter * 2 ^ 100 + 2 ^ 99))) ∙ ap (dec k) same_sealed ∙ dec-enc k cv is_k (IsBytes-bytes_of 16 (v.counter * 2 ^ 100 + 2 ^ 99)) in
    let numbers : u.counter * 2 ^ 100 + 2 ^ 99 ≡ v.counter * 2 ^ 100 + 2 ^ 99 = same_number 16 (u.counter * 2 ^ 100 + 2 ^ 99) (v.counter * 2 ^ 100 + 2 ^ 99) (omega (arith, is_u.counter_fits)) (omega (arith, is_v.counter_fits)) blocks in
    omega arith

-- one reply confirms at most one update of a unit under one key, except for its flags and its UID
pub same_confirmed : (r : Reply) (u v : Update) (uid other : List ℕ) → IsUpdate u → IsUpdate v → IsUid uid → IsUid other → Confirms r u uid → Confirms r v other → SameConfirmed uid other u v
same_confirmed r u v uid other is_u is_v is_uid is_other x y =
    let m1 : List ℕ = bytes_of 16 (head_number uid u.id u.auth) in
    let blocks : m1 ∷ sealed_counter u ∷ [] ≡ bytes_of 16 (head_number other v.id v.auth) ∷ sealed_counter v ∷ [] =
    answer_blocks uid u is_uid is_u.id_fits is_u.auth_fits is_u.is_key ∙ sym x.m4_is ∙ y.m4_is ∙ sym (answer_blocks other v is_other is_v.id_fits is_v.auth_fits is_v.is_key) in
    let fronts : m1 ≡ bytes_of 16 (head_number other v.id v.auth) = cc in
    let sealed : sealed_counter u ≡ sealed_counter v = cc in
    let h : Head = record { uid = uid; id = u.id; auth = u.auth } in
    let k : Head = record { uid = other; id = v.id; auth = v.auth } in
    let of_h : HeadOf m1 h = record { is_head = record { is_uid = is_uid; id_fits = is_u.id_fits; auth_fits = is_u.auth_fits }; m1_is = refl } in
    let of_k : HeadOf m1 k = record { is_head = record { is_uid = is_other; id_fits = is_v.id_fits; auth_fits = is_v.auth_fits }; m1_is = fronts } in
    record {
      uid_is = sym (uid_of-head m1 h of_h) ∙ uid_of-head m1 k of_k;
      id_is = sym (id_of-head m1 h of_h) ∙ id_of-head m1 k of_k;
      auth_is = sym (auth_of-head m1 h of_h) ∙ auth_of-head m1 k of_k;
      counter_is = same_counter u v is_u is_v sealed;
    }
