-- The input of a derivation is that of one unit and one slot
use Rattle.std.proofs.Common.{◌≡◌, ℕ, List, [], ◌∷◌, ◌++◌, length, take, drop, slice_index, sym, ap, ◌∙◌, refl}
use Rattle.std.proofs.lemmas.List.{take_at, drop_at, append_assoc}
use Rattle.memory_update.specs.Identifier.{IsUid}
use Rattle.basics.specs.Numbers.{bytes_of}
use Rattle.unit_keys.specs.Derived.{derivation_input, unit_label, unit_input}

-- what stands before the UID
abbrev before : List ℕ
before = bytes_of 4 1 ++ unit_label ++ 0 ∷ []

-- an input is this, the UID, the slot's number, and the length
pub input_is : (uid : List ℕ) (slot : ℕ) → unit_input uid slot ≡ before ++ (uid ++ slot ∷ bytes_of 4 128)
unfolding unit_input derivation_input bytes_of
input_is uid slot = append_assoc (bytes_of 4 1 ++ unit_label) (0 ∷ uid ++ slot ∷ []) (bytes_of 4 128) ∙ ap (λ l. before ++ l) (append_assoc uid (slot ∷ []) (bytes_of 4 128))

pub of_one_unit : (uid other : List ℕ) (slot number : ℕ) → IsUid uid → IsUid other → unit_input uid slot ≡ unit_input other number → (uid ≡ other) × (slot ≡ number)
of_one_unit uid other slot number u v e =
    let rest : uid ++ slot ∷ bytes_of 4 128 ≡ other ++ number ∷ bytes_of 4 128 =
    sym (drop_at before (uid ++ slot ∷ bytes_of 4 128) (length before) refl)
    ∙ ap (drop (length before)) (sym (input_is uid slot) ∙ e ∙ input_is other number)
    ∙ drop_at before (other ++ number ∷ bytes_of 4 128) (length before) refl in
    let uids : uid ≡ other = sym (take_at uid _ 15 u.size) ∙ ap (take 15) rest ∙ take_at other _ 15 v.size in
    let tails : slot ∷ bytes_of 4 128 ≡ number ∷ bytes_of 4 128 = sym (drop_at uid _ 15 u.size) ∙ ap (drop 15) rest ∙ drop_at other _ 15 v.size in
    (uids, ap (λ l. slice_index l 0) tails)
