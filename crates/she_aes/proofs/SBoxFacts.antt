-- The S-box and its inverse undo each other.
use Rattle.std.proofs.Common.{◌≡◌, ℕ, ◌<◌, true, refl, sym, ap, ◌∙◌}
use Rattle.std.specs.Prelude.{◌==◌}
use Rattle.std.proofs.lemmas.Bool.{agree_below}
use Rattle.she_aes.specs.Field.{inv, affine, sub_byte, inv_affine, inv_sub_byte}
use Rattle.she_aes.specs.FieldFacts.{inv-lt, inv_affine-lt}
use Rattle.she_aes.proofs.SBoxTable.{same_at_bytes, s_box, s_box_is}

there : agree_below (λ b. inv_affine (affine b) == b) (λ _. true) 256 ≡ true
unfolding affine inv_affine
there = refl

inv_affine-affine : (b : ℕ) → b < 256 → inv_affine (affine b) ≡ b
inv_affine-affine = same_at_bytes (λ b. inv_affine (affine b)) (λ b. b) there

back : agree_below (λ b. affine (inv_affine b) == b) (λ _. true) 256 ≡ true
unfolding affine inv_affine
back = refl

affine-inv_affine : (b : ℕ) → b < 256 → affine (inv_affine b) ≡ b
affine-inv_affine = same_at_bytes (λ b. affine (inv_affine b)) (λ b. b) back

-- ---- the inverse by the table of the S-box

abbrev pub inv_of : ℕ → ℕ
inv_of b = inv_affine (s_box b)

pub inv_of_is : (b : ℕ) → b < 256 → inv_of b ≡ inv b
unfolding sub_byte
inv_of_is b lt = ap inv_affine (s_box_is b lt) ∙ inv_affine-affine (inv b) (inv-lt b)

twice : agree_below (λ b. inv_of (inv_of b) == b) (λ _. true) 256 ≡ true
unfolding inv_affine
twice = refl

inv-inv : (b : ℕ) → b < 256 → inv (inv b) ≡ b
inv-inv b lt =
    sym (inv_of_is (inv b) (inv-lt b)) ∙ ap inv_of (sym (inv_of_is b lt)) ∙ same_at_bytes (λ b. inv_of (inv_of b)) (λ b. b) twice b lt

pub inv_sub_byte-sub_byte : (b : ℕ) → b < 256 → inv_sub_byte (sub_byte b) ≡ b
unfolding sub_byte inv_sub_byte
inv_sub_byte-sub_byte b lt = ap inv (inv_affine-affine (inv b) (inv-lt b)) ∙ inv-inv b lt

pub sub_byte-inv_sub_byte : (b : ℕ) → b < 256 → sub_byte (inv_sub_byte b) ≡ b
unfolding sub_byte inv_sub_byte
sub_byte-inv_sub_byte b lt = ap affine (inv-inv (inv_affine b) (inv_affine-lt b)) ∙ affine-inv_affine b lt
