-- The texts of two, three and four words, and words of another number
use Rattle.std.proofs.Common.{◌≡◌, ◌<◌, ◌≤◌, List, [], ◌∷◌, length, map, get_or, String, Global, arith}
use Rattle.std.specs.Prelude.{string_bytes}
use Rattle.bus_commands.specs.Words.{AsksNothing}

pub two_texts : (words : List (String Global)) (a b : String Global) → length words ≡ 2
    → a ≡ get_or words 0 a → b ≡ get_or words 1 b
    → map string_bytes words ≡ string_bytes a ∷ string_bytes b ∷ []
two_texts [] a b count first second = absurd (let no : ⊥ = omega (arith, count) in no)
two_texts (w ∷ []) a b count first second = absurd (let no : ⊥ = omega (arith, count) in no)
two_texts (w ∷ x ∷ []) a b count first second = cc (first, second)
two_texts (w ∷ x ∷ y ∷ more) a b count first second = absurd (let no : ⊥ = omega (arith, count) in no)

pub three_texts : (words : List (String Global)) (a b c : String Global) → length words ≡ 3
    → a ≡ get_or words 0 a → b ≡ get_or words 1 b → c ≡ get_or words 2 c
    → map string_bytes words ≡ string_bytes a ∷ string_bytes b ∷ string_bytes c ∷ []
three_texts [] a b c count first second third = absurd (let no : ⊥ = omega (arith, count) in no)
three_texts (w ∷ []) a b c count first second third = absurd (let no : ⊥ = omega (arith, count) in no)
three_texts (w ∷ x ∷ []) a b c count first second third = absurd (let no : ⊥ = omega (arith, count) in no)
three_texts (w ∷ x ∷ y ∷ []) a b c count first second third = cc (first, second, third)
three_texts (w ∷ x ∷ y ∷ z ∷ more) a b c count first second third = absurd (let no : ⊥ = omega (arith, count) in no)

pub four_texts : (words : List (String Global)) (a b c d : String Global) → length words ≡ 4
    → a ≡ get_or words 0 a → b ≡ get_or words 1 b → c ≡ get_or words 2 c → d ≡ get_or words 3 d
    → map string_bytes words ≡ string_bytes a ∷ string_bytes b ∷ string_bytes c ∷ string_bytes d ∷ []
four_texts [] a b c d count first second third fourth = absurd (let no : ⊥ = omega (arith, count) in no)
four_texts (w ∷ []) a b c d count first second third fourth = absurd (let no : ⊥ = omega (arith, count) in no)
four_texts (w ∷ x ∷ []) a b c d count first second third fourth = absurd (let no : ⊥ = omega (arith, count) in no)
four_texts (w ∷ x ∷ y ∷ []) a b c d count first second third fourth = absurd (let no : ⊥ = omega (arith, count) in no)
four_texts (w ∷ x ∷ y ∷ z ∷ []) a b c d count first second third fourth = cc (first, second, third, fourth)
four_texts (w ∷ x ∷ y ∷ z ∷ v ∷ more) a b c d count first second third fourth = absurd (let no : ⊥ = omega (arith, count) in no)

-- one word, and more than four, ask for nothing
pub one_asks_nothing : (words : List (String Global)) → 1 ≤ length words → length words < 2
    → AsksNothing (map string_bytes words)
one_asks_nothing [] some few command asks = omega (arith, some)
one_asks_nothing (w ∷ []) some few command asks = asks
one_asks_nothing (w ∷ x ∷ more) some few command asks = omega (arith, few)

pub many_ask_nothing : (words : List (String Global)) → 4 < length words → AsksNothing (map string_bytes words)
many_ask_nothing [] many command asks = omega (arith, many)
many_ask_nothing (w ∷ []) many command asks = asks
many_ask_nothing (w ∷ x ∷ []) many command asks = omega (arith, many)
many_ask_nothing (w ∷ x ∷ y ∷ []) many command asks = omega (arith, many)
many_ask_nothing (w ∷ x ∷ y ∷ z ∷ []) many command asks = omega (arith, many)
many_ask_nothing (w ∷ x ∷ y ∷ z ∷ v ∷ more) many command asks = asks
