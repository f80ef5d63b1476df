-- The messages of a key update (SHE specification, memory update protocol)
use Rattle.std.specs.Prelude.{◌≡◌, ℕ, ◌+◌, ◌*◌, ◌/◌, ◌%◌, ◌^◌, ◌<◌, List, [], ◌∷◌, ◌++◌, length, take, drop, All}
use Rattle.std.specs.List.{concat}
use Rattle.basics.specs.Numbers.{number_of, bytes_of}
use Rattle.she_aes.specs.Cipher.{IsBlock, zero_block, enc}
use Rattle.she_aes.specs.Modes.{cbc, cbc_inverse}
use Rattle.she_kdf.specs.Derivation.{kdf}
use Rattle.she_kdf.specs.declared.Constant.TheVariants.{Enc, Mac}
use Rattle.she_cmac.specs.Cmac.{cmac}
use Rattle.key_slots.specs.Flags.{flags_number, flags_from}
pub use Rattle.memory_update.specs.Identifier.{IsUid}
use Rattle.memory_update.specs.declared.messages.Head.{Head}
use Rattle.memory_update.specs.declared.messages.Update.{Update}
use Rattle.memory_update.specs.declared.messages.Request.{Request}
use Rattle.memory_update.specs.declared.messages.Reply.{Reply}

-- a number below 2^256 as two blocks
unfoldable pub two_blocks : ℕ → List (List ℕ)
two_blocks n = take 16 (bytes_of 32 n) ∷ drop 16 (bytes_of 32 n) ∷ []

-- ---- which values the types of the code have

pub record IsHead (h : Head) : Type 0 where
  pub is_uid : IsUid h.uid
  pub id_fits : h.id < 14
  pub auth_fits : h.auth < 14

pub record IsUpdate (u : Update) : Type 0 where
  pub is_uid : IsUid u.uid
  pub id_fits : u.id < 14
  pub auth_fits : u.auth < 14
  pub counter_fits : u.counter < 2 ^ 28
  pub is_key : IsBlock u.key

pub record IsRequest (request : Request) : Type 0 where
  pub m1_is : IsBlock request.m1
  pub m2_has_2 : length request.m2 ≡ 2
  pub m2_is : All IsBlock request.m2
  pub m3_is : IsBlock request.m3

-- ---- the request

-- a UID of 120 bits, then ID and AuthID of 4 bits each: the number of M1
abbrev pub head_number : List ℕ → ℕ → ℕ → ℕ
head_number uid id auth = number_of uid * 2 ^ 8 + id * 2 ^ 4 + auth

-- counter (28 bits), flags (5), padding (95) and new key (128): the number of the plain text of M2
abbrev pub plain : Update → ℕ → ℕ
plain u pad = u.counter * 2 ^ 228 + flags_number u.flags * 2 ^ 223 + pad * 2 ^ 128 + number_of u.key

-- M3, under the key that is derived from the authorising key
unfoldable pub request_mac : List ℕ → List ℕ → List (List ℕ) → List ℕ
request_mac authkey m1 m2 = cmac (kdf authkey Mac) (m1 ++ concat m2)

-- the three messages of an update under an authorising key, with this padding
pub record CarriesPadded (pad : ℕ) (request : Request) (authkey : List ℕ) (u : Update) : Type 0 where
  pub is_update : IsUpdate u
  pub m1_is : request.m1 ≡ bytes_of 16 (head_number u.uid u.id u.auth)
  pub m2_is : request.m2 ≡ cbc (kdf authkey Enc) zero_block (two_blocks (plain u pad))
  pub m3_is : request.m3 ≡ request_mac authkey request.m1 request.m2

-- the request carries the update under the authorising key, with any padding
pub record Carries (request : Request) (authkey : List ℕ) (u : Update) : Type 0 where
  pub pad : ℕ
  pub pad_fits : pad < 2 ^ 95
  pub padded : CarriesPadded pad request authkey u

-- the request is the one that a loading station makes: its padding is zero
abbrev pub Builds : Request → List ℕ → Update → Type 0
Builds = CarriesPadded 0

-- ---- what M1 says in the clear

abbrev pub id_of : List ℕ → ℕ
id_of m1 = number_of m1 / 2 ^ 4 % 2 ^ 4

abbrev pub auth_of : List ℕ → ℕ
auth_of m1 = number_of m1 % 2 ^ 4

-- both are numbers of slots
abbrev pub HasSlots : List ℕ → Type 0
HasSlots m1 = (id_of m1 < 14) × (auth_of m1 < 14)

-- M1 has this UID, ID and AuthID
pub record HeadOf (m1 : List ℕ) (h : Head) : Type 0 where
  pub is_head : IsHead h
  pub m1_is : m1 ≡ bytes_of 16 (head_number h.uid h.id h.auth)

-- what M1 says, if it names slots
abbrev pub head_in : List ℕ → Head
head_in m1 = record { uid = take 15 m1; id = id_of m1; auth = auth_of m1 }

-- ---- the update in M1 and M2, whether M3 is right or not

-- the plain text of M2 under an authorising key, as one number of 256 bits
unfoldable pub text_in : List ℕ → List (List ℕ) → ℕ
text_in authkey m2 = number_of (concat (cbc_inverse (kdf authkey Enc) zero_block m2))

-- what M1 says in the clear, and M2 under an authorising key, whatever the padding
unfoldable pub update_in : List ℕ → Request → Update
update_in authkey request =
    let text = text_in authkey request.m2 in
    record {
      uid = take 15 request.m1;
      id = id_of request.m1;
      auth = auth_of request.m1;
      counter = text / 2 ^ 228;
      flags = flags_from (text / 2 ^ 223 % 2 ^ 5);
      key = bytes_of 16 (text % 2 ^ 128);
    }

-- ---- the answer

-- the second block of M4: the counter and a 1, encrypted under the key that is derived from the new key
abbrev pub sealed_counter : Update → List ℕ
sealed_counter u = enc (kdf u.key Enc) (bytes_of 16 (u.counter * 2 ^ 100 + 2 ^ 99))

-- M4 and M5 confirm the update to the engine's UID
pub record Confirms (reply : Reply) (u : Update) (uid : List ℕ) : Type 0 where
  pub m4_is : reply.m4
      ≡ two_blocks (number_of uid * 2 ^ 136 + u.id * 2 ^ 132 + u.auth * 2 ^ 128 + number_of (sealed_counter u))
  pub m5_is : reply.m5 ≡ cmac (kdf u.key Mac) (concat reply.m4)

-- two confirmed updates are the same as far as a reply tells: the engine's UID, the slots, and under one key the
-- counter
pub record SameConfirmed (uid other : List ℕ) (u v : Update) : Type 0 where
  pub uid_is : uid ≡ other
  pub id_is : u.id ≡ v.id
  pub auth_is : u.auth ≡ v.auth
  pub counter_is : u.key ≡ v.key → u.counter ≡ v.counter
