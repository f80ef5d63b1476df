-- What the value of a word is, if it is of its form.
use Rattle.std.proofs.Common.{◌≡◌, ℕ, suc, ◌<◌, ◌≤◌, ◌^◌, Bool, true, false, cond, List, [], ◌∷◌, length, take, drop, All, Option, Some, None, Ok, refl, sym, ◌∙◌, subst, arith}
use Rattle.std.specs.Prelude.{◌==◌, slice_index, codes, option_map}
use Rattle.std.specs.Result.{result_ok}
use Rattle.std.specs.Str.{bytes_eq}
use Rattle.std.proofs.lemmas.List.Elements.{All-nil, All-cons}
use Rattle.basics.specs.Bytes.{IsBytes}
use Rattle.basics.specs.Numbers.{number_of}
use Rattle.basics.proofs.CallerLemmas.{number_of-lt}
use Rattle.hex.specs.Hex as hex
use Rattle.hex.specs.Hex.{decode_of, decode_sized}
use Rattle.hex.proofs.HexLemmas.{decode_of-ok, decode_sized-ok, decode_sized-twice}
use Rattle.cut_disk.specs.declared.Torn.{Torn}
use Rattle.cut_disk.specs.declared.Torn.TheVariants.{Keep, Old, Half, Fill}
use Rattle.memory_update.specs.Identifier.{IsUid}
use Rattle.secoc_words.specs.DiskForms.{torn_form}
use Rattle.secoc_words.specs.Forms.{key_form, both, two_form, data_id_form}
use Rattle.text_lines.specs.Forms.{hex_bytes_form, bytes_form}
use Rattle.secoc_words.specs.KeyForms.{uid_form}
use Rattle.text_lines.proofs.CallerLemmas.{ok_some, chosen_some, hex_bytes_form-sizes}
use Rattle.bus_script.specs.EventForms.{event_uid_form}
use Rattle.bus_script.specs.ScriptEvents.{AreBytes, IsTorn}

-- bytes, read at any place, are bytes
all_bytes : (bytes : List ℕ) → hex.IsBytes bytes → All (λ b. b < 256) bytes
all_bytes [] h = All-nil (λ b. b < 256)
all_bytes (b ∷ bytes) h = All-cons (λ b. b < 256) b bytes (h 0) (all_bytes bytes (λ i. h (suc i)))

-- what decodes is bytes
decoded : (word bytes : List ℕ) → decode_of word ≡ Ok bytes → AreBytes bytes
decoded word bytes h = record { size = refl; bytes = all_bytes bytes (decode_of-ok word bytes h).3 }

-- and as many as there is room for
decoded_sized : (n : ℕ) (word bytes : List ℕ) → decode_sized word n ≡ Ok bytes → IsBytes n bytes
decoded_sized n word bytes h =
    let len = decode_sized-ok word n bytes h in
    let ok = decode_of-ok word bytes (sym (decode_sized-twice word n len) ∙ h) in
    let twice = ok.2 in
    record { size = omega arith; bytes = all_bytes bytes ok.3 }

sized_value : (n : ℕ) (word bytes : List ℕ) → result_ok (decode_sized word n) ≡ Some bytes → IsBytes n bytes
sized_value n word bytes h = decoded_sized n word bytes (ok_some (decode_sized word n) bytes h)

pub key_form-value : (word key : List ℕ) → key_form word ≡ Some key → IsBytes 16 key
unfolding key_form
key_form-value word key h = sized_value 16 word key h

-- two blocks, if each was one
both_blocks : (first second : Option (List ℕ)) (blocks : List (List ℕ)) → ((b : List ℕ) → first ≡ Some b → IsBytes 16 b) → ((b : List ℕ) → second ≡ Some b → IsBytes 16 b)
    → both first second ≡ Some blocks → (length blocks ≡ 2) × All (IsBytes 16) blocks
both_blocks (Some a) (Some b) blocks p q h =
    let same : a ∷ b ∷ [] ≡ blocks = cc h in
    subst (λ l. (length l ≡ 2) × All (IsBytes 16) l) same
    (refl, All-cons (IsBytes 16) a (b ∷ []) (p a refl) (All-cons (IsBytes 16) b [] (q b refl) (All-nil (IsBytes 16))))
both_blocks (Some a) None blocks p q h = cc h
both_blocks None second blocks p q h = cc h

pub two_form-value : (word : List ℕ) (blocks : List (List ℕ)) → two_form word ≡ Some blocks → (length blocks ≡ 2) × All (IsBytes 16) blocks
unfolding two_form
two_form-value word blocks h =
    let chosen = chosen_some (length word == 64) (both (key_form (take 32 word)) (key_form (drop 32 word))) blocks h in
    both_blocks (key_form (take 32 word)) (key_form (drop 32 word)) blocks
    (λ b e. key_form-value (take 32 word) b e) (λ b e. key_form-value (drop 32 word) b e) chosen.1

-- the value after a step on an option
mapped : {A B : Type 0} (f : A → B) (o : Option A) (y : B) → option_map f o ≡ Some y → (x : A) × (o ≡ Some x) × (f x ≡ y)
mapped f (Some x) y h = (x, refl, cc h)
mapped f None y h = cc h

pub data_id_form-value : (word : List ℕ) (id : ℕ) → data_id_form word ≡ Some id → id < 2 ^ 16
unfolding data_id_form
data_id_form-value word id h =
    let bytes = mapped number_of (result_ok (decode_sized word 2)) id h in
    rw (← bytes.2) (number_of-lt 2 bytes.0 (sized_value 2 word bytes.0 bytes.1))

pub bytes_form-value : (word bytes : List ℕ) → bytes_form word ≡ Some bytes → AreBytes bytes
unfolding bytes_form
bytes_form-value [] bytes h = cc h
bytes_form-value (c ∷ []) bytes h =
    let none : [] ≡ bytes = cc (chosen_some (c == 45) (Some []) bytes h).1 in
    rw (← none) (record { size = refl; bytes = All-nil (λ b. b < 256) })
bytes_form-value (c ∷ d ∷ rest) bytes h = decoded (c ∷ d ∷ rest) bytes (ok_some (decode_of (c ∷ d ∷ rest)) bytes h)

pub hex_bytes_form-value : (least most : ℕ) (word bytes : List ℕ) → hex_bytes_form least most word ≡ Some bytes
    → (least ≤ length bytes) × (length bytes ≤ most) × AreBytes bytes
unfolding hex_bytes_form
hex_bytes_form-value least most word bytes h =
    let sizes = hex_bytes_form-sizes least most word bytes h in
    (sizes.0, sizes.1, decoded word bytes (ok_some (decode_of word) bytes (chosen_some _ (result_ok (decode_of word)) bytes h).1))

-- what is left after a value that is given under a test
otherwise : {A : Type 0} (test : Bool) (x : A) (o : Option A) (y : A) (P : A → Type 0) → P x → (o ≡ Some y → P y) → cond test (Some x) o ≡ Some y → P y
otherwise true x o y P p q h = let same : x ≡ y = cc h in subst P same p
otherwise false x o y P p q h = q h

pub event_uid_form-value : (own word uid : List ℕ) → IsUid own → event_uid_form own word ≡ Some uid → IsUid uid
unfolding event_uid_form uid_form
event_uid_form-value own word uid is h =
    otherwise (bytes_eq word (codes "-")) own (result_ok (decode_sized word 15)) uid IsUid is (λ e. sized_value 15 word uid e) h

pub torn_form-value : (word : List ℕ) (torn : Torn) → torn_form word ≡ Some torn → IsTorn torn
unfolding torn_form
torn_form-value word torn h =
    otherwise (bytes_eq word (codes "keep")) Keep _ torn IsTorn tt
    (otherwise (bytes_eq word (codes "old")) Old _ torn IsTorn tt
    (otherwise (bytes_eq word (codes "half")) Half _ torn IsTorn tt
    (λ e.
    let bytes = mapped (λ bytes. Fill (slice_index bytes 0)) (result_ok (decode_sized word 1)) torn e in
    subst IsTorn bytes.2 (first_byte bytes.0 (sized_value 1 word bytes.0 bytes.1))))) h
  where
    first_byte : (bytes : List ℕ) → IsBytes 1 bytes → slice_index bytes 0 < 256
    first_byte bytes is = is.bytes 0 0 (let size = is.size in omega arith)
