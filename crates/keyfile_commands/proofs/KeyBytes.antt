-- What the bytes of a key file are, by their number
use Rattle.std.proofs.Common.{◌≡◌, ◌≢◌, ◌∙◌, ℕ, ◌<◌, ◌-◌, Bool, true, false, List, length, take, drop, Some, None, sym, ap, arith}
use Rattle.std.specs.Prelude.{◌==◌, if◌then◌else◌}
use Rattle.std.proofs.lemmas.Bool.Decides.{nat_tests}
use Rattle.std.proofs.lemmas.List.{drop_all, take_all, length-drop}
use Rattle.secoc_words.specs.Forms.{key_form}
use Rattle.keyfile_commands.specs.KeyFiles.{is_key_end, key_file_of}

-- what stands after the first 32 bytes, up to the end
pub rest_is : (x : List ℕ) → take (length x - 32) (drop 32 x) ≡ drop 32 x
rest_is x = take_all (length x - 32) (drop 32 x) (omega (arith, length-drop 32 x))

not_16 : (n : ℕ) → n ≢ 16 → (n == 16) ≡ false
not_16 n other = grind (arith, nat_tests, other)

other_file : (x : List ℕ) → length x ≢ 16 → key_file_of x ≡ (if is_key_end (drop 32 x) then key_form (take 32 x) else None)
other_file x other = ap (λ (b : Bool). if b then Some x else (if is_key_end (drop 32 x) then key_form (take 32 x) else None)) (not_16 (length x) other)

pub short_file : (x : List ℕ) → length x ≢ 16 → length x < 32 → key_form x ≡ key_file_of x
short_file x other short =
    sym (other_file x other
    ∙ ap (λ (d : List ℕ). if is_key_end d then key_form (take 32 x) else None) (drop_all 32 x (omega (arith, short)))
    ∙ ap key_form (take_all 32 x (omega (arith, short))))

pub long_file : (x : List ℕ) → length x ≢ 16 → is_key_end (drop 32 x) ≡ true → key_form (take 32 x) ≡ key_file_of x
long_file x other ends = sym (other_file x other ∙ ap (λ (b : Bool). if b then key_form (take 32 x) else None) ends)

pub no_key_file : (x : List ℕ) → length x ≢ 16 → is_key_end (drop 32 x) ≡ false → None ≡ key_file_of x
no_key_file x other ends = sym (other_file x other ∙ ap (λ (b : Bool). if b then key_form (take 32 x) else None) ends)
