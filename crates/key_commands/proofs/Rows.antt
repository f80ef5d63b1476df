-- Printed texts, piece by piece.
use Rattle.std.proofs.Common.{◌≡◌, ◌∙◌, ℕ, List, [], ◌++◌, ap, sym, refl, length, get_or, append-nil, append_assoc}
use Rattle.std.specs.Prelude.{codes}
use Rattle.std.specs.List.{flat_map}
use Rattle.std.specs.Fmt.{decimal}
use Rattle.hex.specs.Hex.{encode_lower}
use Rattle.memory_update.proofs.CallerLemmas.{list_of_two}
use Rattle.memory_update.specs.declared.messages.Update.{Update}
use Rattle.secoc_words.specs.Written.{flags_text}
use Rattle.key_commands.specs.Texts.{row, target_rows, content_rows, update_text}

pub two_digits : (blocks : List (List ℕ)) (x y front back : List ℕ) → length blocks ≡ 2
    → front ≡ encode_lower (get_or blocks 0 x) → back ≡ encode_lower (get_or blocks 1 y) → front ++ back ≡ flat_map encode_lower blocks
two_digits blocks x y front back two front_is back_is =
    ap (λ a. a ++ back) front_is ∙ ap (λ b. encode_lower (get_or blocks 0 x) ++ b) (back_is ∙ sym (append-nil (encode_lower (get_or blocks 1 y))))
    ∙ ap (flat_map encode_lower) (sym (list_of_two blocks x y two))

target_more : (u : Update) (lines : List ℕ) → target_rows u [] ++ lines ≡ target_rows u lines
target_more u lines = simp append_assoc

-- the lines of whom the update is for, and then those of what is put there
pub both_parts : (u : Update) (target content : List ℕ) → target ≡ target_rows u [] → content ≡ content_rows u → target ++ content ≡ update_text u
both_parts u target content target_is content_is =
    ap (λ t. t ++ content) target_is ∙ ap (λ c. target_rows u [] ++ c) content_is ∙ target_more u (content_rows u)

pub target_is : (u : Update) (uid : List ℕ) (id auth : ℕ) → uid ≡ encode_lower u.uid → id ≡ u.id → auth ≡ u.auth
    → row (codes "uid") uid (row (codes "id") (decimal id) (row (codes "auth") (decimal auth) [])) ≡ target_rows u []
target_is u uid id auth uid_is id_is auth_is = rw (uid_is, id_is, auth_is) refl

pub content_is : (u : Update) (counter : ℕ) (flags key : List ℕ) → counter ≡ u.counter → flags ≡ flags_text u.flags → key ≡ encode_lower u.key
    → row (codes "counter") (decimal counter) (row (codes "flags") flags (row (codes "key") key [])) ≡ content_rows u
content_is u counter flags key counter_is flags_is key_is = rw (counter_is, flags_is, key_is) refl
