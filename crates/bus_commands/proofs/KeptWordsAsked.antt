-- The words of `node --keep`: the texts of five words, and what they ask for beside those of other commands
use Rattle.std.proofs.Common.{◌≡◌, ◌<◌, ℕ, List, [], ◌∷◌, length, map, get_or, String, Global, refl, arith}
use Rattle.std.specs.Prelude.{string_bytes, codes}
use Rattle.bus_world.specs.declared.start.Start.TheVariants.{Attach}
use Rattle.bus_commands.specs.declared.words.Command.{Command}
use Rattle.bus_commands.specs.declared.words.Command.TheVariants.{World}
use Rattle.bus_commands.specs.declared.words.WorldCommand.TheVariants.{Replay}
use Rattle.bus_commands.specs.Words.{Asks}
use Rattle.bus_commands.specs.Keeping.{KeepsAs, AsksToKeep}

pub five_texts : (words : List (String Global)) (a b c d f : String Global) → length words ≡ 5
    → a ≡ get_or words 0 a → b ≡ get_or words 1 b → c ≡ get_or words 2 c → d ≡ get_or words 3 d → f ≡ get_or words 4 f
    → map string_bytes words ≡ string_bytes a ∷ string_bytes b ∷ string_bytes c ∷ string_bytes d ∷ string_bytes f ∷ []
five_texts [] a b c d f count first second third fourth fifth = absurd (let no : ⊥ = omega (arith, count) in no)
five_texts (w ∷ []) a b c d f count first second third fourth fifth = absurd (let no : ⊥ = omega (arith, count) in no)
five_texts (w ∷ x ∷ []) a b c d f count first second third fourth fifth = absurd (let no : ⊥ = omega (arith, count) in no)
five_texts (w ∷ x ∷ y ∷ []) a b c d f count first second third fourth fifth = absurd (let no : ⊥ = omega (arith, count) in no)
five_texts (w ∷ x ∷ y ∷ z ∷ []) a b c d f count first second third fourth fifth = absurd (let no : ⊥ = omega (arith, count) in no)
five_texts (w ∷ x ∷ y ∷ z ∷ v ∷ []) a b c d f count first second third fourth fifth = cc (first, second, third, fourth, fifth)
five_texts (w ∷ x ∷ y ∷ z ∷ v ∷ u ∷ more) a b c d f count first second third fourth fifth = absurd (let no : ⊥ = omega (arith, count) in no)

-- words of another number don't ask to keep
pub few_keep_nothing : (words : List (String Global)) → length words < 5 → ¬ AsksToKeep (map string_bytes words)
few_keep_nothing [] few asks = asks.1
few_keep_nothing (w ∷ []) few asks = asks.1
few_keep_nothing (w ∷ x ∷ []) few asks = asks.1
few_keep_nothing (w ∷ x ∷ y ∷ []) few asks = asks.1
few_keep_nothing (w ∷ x ∷ y ∷ z ∷ []) few asks = asks.1
few_keep_nothing (w ∷ x ∷ y ∷ z ∷ v ∷ more) few asks = absurd (let no : ⊥ = omega (arith, few) in no)

pub many_keep_nothing : (words : List (String Global)) → 5 < length words → ¬ AsksToKeep (map string_bytes words)
many_keep_nothing [] many asks = asks.1
many_keep_nothing (w ∷ []) many asks = asks.1
many_keep_nothing (w ∷ x ∷ []) many asks = asks.1
many_keep_nothing (w ∷ x ∷ y ∷ []) many asks = asks.1
many_keep_nothing (w ∷ x ∷ y ∷ z ∷ []) many asks = asks.1
many_keep_nothing (w ∷ x ∷ y ∷ z ∷ v ∷ []) many asks = absurd (let no : ⊥ = omega (arith, many) in no)
many_keep_nothing (w ∷ x ∷ y ∷ z ∷ v ∷ u ∷ more) many asks = asks.1

-- the plain arguments are determined
pub one_plain : (words one other : List (List ℕ)) → KeepsAs words one → KeepsAs words other → one ≡ other
one_plain (word ∷ keep ∷ bus ∷ file ∷ disk ∷ []) one other keeps also = cc (keeps.2, also.2)
one_plain words one other keeps also = absurd (grind arith)
