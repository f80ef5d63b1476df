-- What is read as the identifier of a unit is one, and one that is written is read again
use Rattle.std.proofs.Common.{◌≡◌, ℕ, suc, ◌<◌, ◌∷◌, true, false, cond, List, [], length, All, Option, None, Some, refl, sym, ap, ◌∙◌, subst, inl, inr, arith}
use Rattle.std.specs.Prelude.{replicate}
use Rattle.std.specs.Option.{option_and_then}
use Rattle.std.specs.Result.{result_ok}
use Rattle.std.specs.Str.{bytes_eq}
use Rattle.std.proofs.lemmas.List.Elements.{All-nil, All-cons}
use Rattle.std.proofs.lemmas.Slice.Eq.{bytes_eq-Decides}
use Rattle.std.proofs.lemmas.Bool.{cases_Bool}
use Rattle.secoc_words.specs.KeyForms.{uid_form, unless_zero, engine_uid_form}
use Rattle.text_lines.proofs.CallerLemmas.{ok_some, sized_encode}
use Rattle.hex.specs.Hex as hex
use Rattle.hex.specs.Hex.{decode_sized, encode_lower}
use Rattle.hex.proofs.HexLemmas.{decode_of-ok, decode_sized-ok, decode_sized-twice}
use Rattle.memory_update.specs.Identifier.{IsUid}
use Rattle.key_campaign.specs.Entries.{IsUnit}

-- bytes, read at any place, are bytes
each_byte : (bytes : List ℕ) → hex.IsBytes bytes → All (λ b. b < 256) bytes
each_byte [] h = All-nil (λ b. b < 256)
each_byte (b ∷ bytes) h = All-cons (λ b. b < 256) b bytes (h 0) (each_byte bytes (λ i. h (suc i)))

-- what decodes to 15 bytes is an identifier
decodes_to_uid : (word bytes : List ℕ) → result_ok (decode_sized word 15) ≡ Some bytes → IsUid bytes
decodes_to_uid word bytes h =
    let is = ok_some (decode_sized word 15) bytes h in
    let len = decode_sized-ok word 15 bytes is in
    let ok = decode_of-ok word bytes (sym (decode_sized-twice word 15 len) ∙ is) in
    let twice = ok.2 in
    record { size = omega arith; bytes = each_byte bytes ok.3 }

-- an identifier that isn't zero
some_unit : (o : Option (List ℕ)) (uid : List ℕ) → ((u : List ℕ) → o ≡ Some u → IsUid u) → option_and_then unless_zero o ≡ Some uid → IsUnit uid
some_unit None uid bytes h = cc h
some_unit (Some u) uid bytes h = elim (cases_Bool (bytes_eq u (replicate 15 0))) [
  | inl zero ↦ absurd (let no : None ≡ Some uid = sym (ap (λ b. cond b None (Some u)) zero) ∙ h in cc)
  | inr not ↦
      let same : u ≡ uid = let some : Some u ≡ Some uid = sym (ap (λ b. cond b None (Some u)) not) ∙ h in cc in
      subst IsUnit same (
        bytes u refl,
        λ is. let yes = (bytes_eq-Decides u (replicate 15 0)).1 is in
            let no : true ≡ false = sym yes ∙ not in cc,
      )
]

pub unit_of : (word uid : List ℕ) → engine_uid_form word ≡ Some uid → IsUnit uid
unfolding engine_uid_form uid_form
unit_of word uid h = some_unit (result_ok (decode_sized word 15)) uid (λ u is. decodes_to_uid word u is) h

-- the other direction
pub unit_written : (uid : List ℕ) → IsUnit uid → engine_uid_form (encode_lower uid) ≡ Some uid
unfolding engine_uid_form uid_form
unit_written uid is =
    let other : bytes_eq uid (replicate 15 0) ≡ false = elim (cases_Bool (bytes_eq uid (replicate 15 0))) [
      | inl zero ↦ absurd (is.1 ((bytes_eq-Decides uid (replicate 15 0)).0 zero))
      | inr not ↦ not
    ] in
    ap (option_and_then unless_zero) (sized_encode 15 uid is.0) ∙ ap (λ b. cond b None (Some uid)) other
