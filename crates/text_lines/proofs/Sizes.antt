-- How many bytes a form of hexadecimal digits gives.
use Rattle.std.proofs.Common.{◌≡◌, ℕ, ◌+◌, ◌*◌, ◌≤◌, true, List, [], ◌∷◌, ◌++◌, length, Some, Result, Ok, Err, refl, ap, subst, arith}
use Rattle.std.specs.Prelude.{All, ◌/◌, ◌%◌, ◌==◌, ◌&&◌, nat_le}
use Rattle.std.specs.Result.{result_ok}
use Rattle.std.proofs.lemmas.Bool.{and_parts}
use Rattle.std.proofs.lemmas.List.Elements.{All-push}
use Rattle.hex.specs.Hex.{decode_of, decode_pairs, pair_value}
use Rattle.hex.specs.Hex as hex
use Rattle.hex.specs.declared.error.FromHexError.{FromHexError}
use Rattle.hex.specs.declared.error.FromHexError.TheVariants.{OddLength}
use Rattle.text_lines.specs.declared.fault.Cause.{Cause}
use Rattle.text_lines.specs.Forms.{hex_bytes_form}
use Rattle.text_lines.specs.Readings.{at_line, limited, read_from}
use Rattle.text_lines.specs.Lines.{TextLine}
use Rattle.text_lines.proofs.Results.{bind_ok, ok_some, chosen_ok, chosen_some, at_line_ok, limited_ok}

-- what an `Ok` after a step of `hex` shows
hex_ok : {A B : Type 0} (r : Result A FromHexError) (f : A → Result B FromHexError) (y : B) → hex.◌>>=◌ r f ≡ Ok y → (x : A) × (r ≡ Ok x) × (f x ≡ Ok y)
hex_ok (Ok x) f y h = (x, refl, h)
hex_ok (Err e) f y h = cc h

-- two digits a byte
length-decode_pairs : (i : ℕ) (s bytes : List ℕ) → decode_pairs i s ≡ Ok bytes → 2 * length bytes ≡ length s
unfolding decode_pairs
length-decode_pairs i [] bytes h = let none : [] ≡ bytes = cc h in omega (arith, ap length none)
length-decode_pairs i (digit ∷ []) bytes h = cc h
length-decode_pairs i (high ∷ low ∷ rest) bytes h =
    let first = hex_ok (pair_value high low i) _ bytes h in
    let others = hex_ok (decode_pairs (i + 2) rest) _ bytes first.2 in
    let all : first.0 ∷ others.0 ≡ bytes = cc others.2 in
    omega (arith, ap length all, length-decode_pairs (i + 2) rest others.0 others.1)

-- the form of bytes bounds their number
within_bounds : (least most digits count : ℕ) → (nat_le least (digits / 2) && nat_le (digits / 2) most) ≡ true → 2 * count ≡ digits
    → (least ≤ count) × (count ≤ most)
within_bounds least most digits count h twice =
    let bounds = and_parts (nat_le least (digits / 2)) (nat_le (digits / 2) most) h in
    (grind arith, grind arith)

pub hex_bytes_form-sizes : (least most : ℕ) (word bytes : List ℕ) → hex_bytes_form least most word ≡ Some bytes → (least ≤ length bytes) × (length bytes ≤ most)
unfolding hex_bytes_form
hex_bytes_form-sizes least most word bytes h =
    let chosen = chosen_some (nat_le least (length word / 2) && nat_le (length word / 2) most) (result_ok (decode_of word)) bytes h in
    let pairs = length-decode_pairs 0 word bytes (chosen_ok (length word % 2 == 1) OddLength (decode_pairs 0 word) bytes (ok_some (decode_of word) bytes chosen.1)).1 in
    within_bounds least most (length word) (length bytes) chosen.0 pairs

-- what holds of each line's value holds of all that is read
pub All-read_from : {A : Type 0} (P : A → Type 0) (means : List A → List (List ℕ) → Result A Cause)
    → ((seen : List A) (words : List (List ℕ)) (x : A) → means seen words ≡ Ok x → P x)
    → (most : ℕ) (seen : List A) (lines : List TextLine) (xs : List A) → All P seen → read_from means most seen lines ≡ Ok xs → All P xs
unfolding read_from
All-read_from P means holds most seen [] xs before h = let same : seen ≡ xs = cc h in subst (All P) same before
All-read_from P means holds most seen (line ∷ lines) xs before h =
    let first = bind_ok (at_line line.number (limited most (length seen) (means seen line.words))) _ xs h in
    let value = first.0 in
    let one = limited_ok most (length seen) (means seen line.words) value (at_line_ok line.number _ value first.1) in
    All-read_from P means holds most (seen ++ value ∷ []) lines xs (All-push P seen value before (holds seen line.words value one.1)) first.2
