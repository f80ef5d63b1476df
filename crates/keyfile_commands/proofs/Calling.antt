-- The arguments of keytool that were made are those of a call
use Rattle.std.proofs.Common.{◌≡◌, ℕ, Bool, true, false, List, [], ◌∷◌, refl, ap₂}
use Rattle.std.specs.Prelude.{◌&&◌, if◌then◌else◌, codes}
use Rattle.std.specs.List.{list_all}
use Rattle.hex.specs.Hex.{encode_lower}
use Rattle.key_commands.specs.Parsing.{is_plain}
use Rattle.key_commands.specs.declared.subcommands.Subcommand.TheVariants as subcommand
use Rattle.keyfile_commands.specs.Calls.{argument}
use Rattle.keyfile_commands.specs.Values.{plain_value, plain_values, make_values, read_values, confirm_values}
use Rattle.keyfile_commands.specs.Steps.{IsKeytoolCall}

plain_is : (word : List ℕ) → is_plain (plain_value word) ≡ true
plain_is word = go (is_plain word) refl
  where
    go : (b : Bool) → is_plain word ≡ b → is_plain (if b then word else []) ≡ true
    go true e = e
    go false e = refl

all_plain : (words : List (List ℕ)) → list_all is_plain (plain_values words) ≡ true
all_plain [] = refl
all_plain (word ∷ words) = ap₂ (λ (a b : Bool). a && b) (plain_is word) (all_plain words)

pub make_call : (words : List (List ℕ)) (key auth : List ℕ) (all : List (List ℕ)) (uid id slot counter flags k a : List ℕ)
    → all ≡ plain_values (codes "keytool" ∷ codes "make" ∷ uid ∷ id ∷ slot ∷ counter ∷ flags ∷ k ∷ a ∷ [])
    → uid ≡ argument words 1 → id ≡ argument words 2 → slot ≡ argument words 3 → counter ≡ argument words 4 → flags ≡ argument words 5
    → k ≡ encode_lower key → a ≡ encode_lower auth → IsKeytoolCall subcommand.Make (make_values words key auth) all
make_call words key auth all uid id slot counter flags k a is e1 e2 e3 e4 e5 ek ea =
    rw is (rw (e1, e2, e3, e4, e5, ek, ea) (refl, refl, all_plain (argument words 1 ∷ argument words 2 ∷ argument words 3 ∷ argument words 4 ∷ argument words 5 ∷ encode_lower key ∷ encode_lower auth ∷ [])))

pub read_call : (words : List (List ℕ)) (auth : List ℕ) (all : List (List ℕ)) (a m1 m2 m3 : List ℕ)
    → all ≡ plain_values (codes "keytool" ∷ codes "read" ∷ a ∷ m1 ∷ m2 ∷ m3 ∷ [])
    → a ≡ encode_lower auth → m1 ≡ argument words 3 → m2 ≡ argument words 4 → m3 ≡ argument words 5
    → IsKeytoolCall subcommand.Read (read_values words auth) all
read_call words auth all a m1 m2 m3 is ea e3 e4 e5 = rw is (rw (ea, e3, e4, e5) (refl, refl, all_plain (encode_lower auth ∷ argument words 3 ∷ argument words 4 ∷ argument words 5 ∷ [])))

pub confirm_call : (words : List (List ℕ)) (key : List ℕ) (all : List (List ℕ)) (uid id slot counter k m4 m5 : List ℕ)
    → all ≡ plain_values (codes "keytool" ∷ codes "confirm" ∷ uid ∷ id ∷ slot ∷ counter ∷ k ∷ m4 ∷ m5 ∷ [])
    → uid ≡ argument words 1 → id ≡ argument words 2 → slot ≡ argument words 3 → counter ≡ argument words 4
    → k ≡ encode_lower key → m4 ≡ argument words 7 → m5 ≡ argument words 8
    → IsKeytoolCall subcommand.Confirm (confirm_values words key) all
confirm_call words key all uid id slot counter k m4 m5 is e1 e2 e3 e4 ek e7 e8 =
    rw is (rw (e1, e2, e3, e4, ek, e7, e8) (refl, refl, all_plain (argument words 1 ∷ argument words 2 ∷ argument words 3 ∷ argument words 4 ∷ encode_lower key ∷ argument words 7 ∷ argument words 8 ∷ [])))
