-- Which pairs words give, word by word
use Rattle.std.specs.Prelude.{◌≡◌, ℕ, suc, ◌+◌, ◌-◌, ◌<◌, ◌≤◌, Option, None, Some, true, false, List, [], ◌∷◌, length, map, take, drop, get_or, set}
use Rattle.std.proofs.Common.{refl, sym, ap, ◌∙◌, subst, arith, inl, inr}
use Rattle.std.proofs.lemmas.Bool.{cases_lt}
use Rattle.std.proofs.lemmas.List.{length-map, length-take-le, get_or-map, get_or-set_same, get_or-set_other}
use Rattle.secoc_gateway.specs.Pairs.{pair_in}
use Rattle.gateway_commands.specs.Words.{pair_form, AsksGateway, AsksNoGateway}
use Rattle.gateway_commands.specs.Steps.{HasPairs}

-- words that are each a pair's are those of the pairs at the beginning of the room
pub front_pairs : (given : List (List ℕ)) (room : List (ℕ × ℕ)) → length given ≤ length room → HasPairs given room true
    → map pair_form given ≡ map Some (take (length given) room)
front_pairs [] room fits has = refl
front_pairs (word ∷ words) [] fits has = absurd (let no : ⊥ = omega (arith, fits) in no)
front_pairs (word ∷ words) (pair ∷ pairs) fits has =
    ap (λ (o : Option (ℕ × ℕ)). o ∷ map pair_form words) (has 0 (omega arith))
    ∙ ap (λ (os : List (Option (ℕ × ℕ))). Some pair ∷ os)
    (front_pairs words pairs (omega (arith, fits)) (λ k inside. has (suc k) (omega (arith, inside))))

None_not_Some : (o : Option (ℕ × ℕ)) (p : ℕ × ℕ) → o ≡ None → o ≡ Some p → ⊥
None_not_Some o p none some = cc

-- if one of them is of another form they are those of no pairs
pub no_pairs : (given : List (List ℕ)) (room pairs : List (ℕ × ℕ)) → HasPairs given room false → map pair_form given ≡ map Some pairs → ⊥
no_pairs given room pairs (k, inside, none) same =
    let long : length given ≡ length pairs =
    sym (length-map given pair_form) ∙ ap (λ (os : List (Option (ℕ × ℕ))). length os) same ∙ length-map pairs (λ (p : ℕ × ℕ). Some p) in
    None_not_Some (get_or (map pair_form given) k None) (get_or pairs k (0, 0))
    (get_or-map pair_form given k [] None inside ∙ none)
    (ap (λ (os : List (Option (ℕ × ℕ))). get_or os k None) same ∙ get_or-map (λ (p : ℕ × ℕ). Some p) pairs k (0, 0) None (omega (arith, inside, long)))

-- ---- after the names of the bus file and of the script

pub asks_few : {A : Type 0} (f : A → List ℕ) (words : List A) → length words < 2 → AsksNoGateway (map f words)
asks_few f [] few = λ pairs no. no
asks_few f (bus ∷ []) few = λ pairs no. no
asks_few f (bus ∷ script ∷ given) few = absurd (let no : ⊥ = omega (arith, few) in no)

pub asks_pairs : {A : Type 0} (f : A → List ℕ) (words given : List A) (pairs : List (ℕ × ℕ)) → 2 ≤ length words → given ≡ drop 2 words
    → map pair_form (map f given) ≡ map Some pairs → 1 ≤ length pairs → length pairs ≤ 32 → AsksGateway (map f words) pairs
asks_pairs f [] given pairs two is same some few = absurd (let no : ⊥ = omega (arith, two) in no)
asks_pairs f (bus ∷ []) given pairs two is same some few = absurd (let no : ⊥ = omega (arith, two) in no)
asks_pairs f (bus ∷ script ∷ rest) given pairs two is same some few =
    (subst (λ ws. map pair_form (map f ws) ≡ map Some pairs) is same, some, few)

pub asks_none : {A : Type 0} (f : A → List ℕ) (words given : List A) → 2 ≤ length words → given ≡ drop 2 words
    → ((pairs : List (ℕ × ℕ)) → map pair_form (map f given) ≡ map Some pairs → 1 ≤ length pairs → length pairs ≤ 32 → ⊥) → AsksNoGateway (map f words)
asks_none f [] given two is none = absurd (let no : ⊥ = omega (arith, two) in no)
asks_none f (bus ∷ []) given two is none = absurd (let no : ⊥ = omega (arith, two) in no)
asks_none f (bus ∷ script ∷ rest) given two is none = λ pairs asks.
    none pairs (subst (λ ws. map pair_form (map f ws) ≡ map Some pairs) (sym is) asks.0) asks.1 asks.2

-- as many pairs as arguments
pub as_many : (given : List (List ℕ)) (pairs : List (ℕ × ℕ)) → map pair_form given ≡ map Some pairs → length pairs ≡ length given
as_many given pairs same =
    sym (length-map pairs (λ (p : ℕ × ℕ). Some p)) ∙ ap (λ (os : List (Option (ℕ × ℕ))). length os) (sym same) ∙ length-map given pair_form

-- the arguments are three to thirty-four
pub asks_count : (words : List (List ℕ)) (pairs : List (ℕ × ℕ)) → AsksGateway words pairs → (3 ≤ length words) × (length words ≤ 34)
asks_count [] pairs asks = absurd asks
asks_count (bus ∷ []) pairs asks = absurd asks
asks_count (bus ∷ script ∷ given) pairs asks =
    let many = as_many given pairs asks.0 in (omega (arith, many, asks.1), omega (arith, many, asks.2))

-- a pair was put into its place
pub room_more : (given : List (List ℕ)) (room : List (ℕ × ℕ)) (place : ℕ) (pair : ℕ × ℕ) → place < length room
    → ((k : ℕ) → k < place → pair_form (get_or given k []) ≡ Some (pair_in room k)) → pair_form (get_or given place []) ≡ Some pair
    → (k : ℕ) → k < place + 1 → pair_form (get_or given k []) ≡ Some (pair_in (set room place pair) k)
room_more given room place pair inside before now k below = elim (cases_lt k place) [
  | inl less ↦
      before k less ∙ ap (λ (p : ℕ × ℕ). Some p) (sym (get_or-set_other room place k pair (0, 0) (λ is. absurd (let no : ⊥ = omega (arith, less, is) in no))))
  | inr past ↦
      let same : place ≡ k = omega (arith, below, past) in
      subst (λ (j : ℕ). pair_form (get_or given j []) ≡ Some (pair_in (set room place pair) j)) same
      (now ∙ ap (λ (p : ℕ × ℕ). Some p) (sym (get_or-set_same room place pair (0, 0) inside)))
]

all_taken : {A : Type 0} (xs : List A) → take (length xs) xs ≡ xs
all_taken [] = refl
all_taken {A} (x ∷ xs) = ap (λ (l : List A). x ∷ l) (all_taken xs)

two_less : (n : ℕ) → suc (suc n) - 2 ≡ n
two_less n = omega arith

-- the arguments after the first two
abbrev pub behind : {A : Type 0} → List A → List A
behind words = take (length words - 2) (drop 2 words)

behind_two : {A : Type 0} (bus script : A) (given : List A) → behind (bus ∷ script ∷ given) ≡ given
behind_two {A} bus script given = ap (λ (n : ℕ). take n given) (two_less (length given)) ∙ all_taken given

-- if each of them is a pair's
pub read_asks : {A : Type 0} (f : A → List ℕ) (words : List A) (room : List (ℕ × ℕ)) → 3 ≤ length words → length words ≤ 34 → length room ≡ 32
    → HasPairs (map f (behind words)) room true → (length (behind words) ≤ 32) × AsksGateway (map f words) (take (length (behind words)) room)
read_asks f [] room least most long has = absurd (let no : ⊥ = omega (arith, least) in no)
read_asks f (bus ∷ []) room least most long has = absurd (let no : ⊥ = omega (arith, least) in no)
read_asks {A} f (bus ∷ script ∷ given) room least most long has =
    let pairs_are : HasPairs (map f given) room true = subst (λ (gs : List A). HasPairs (map f gs) room true) (behind_two bus script given) has in
    let same : map pair_form (map f given) ≡ map Some (take (length given) room) =
    subst (λ (n : ℕ). map pair_form (map f given) ≡ map Some (take n room)) (length-map given f)
    (front_pairs (map f given) room (omega (arith, length-map given f, most, long)) pairs_are) in
    let taken : length (take (length given) room) ≡ length given = length-take-le (length given) room (omega (arith, most, long)) in
    subst (λ (gs : List A). (length gs ≤ 32) × AsksGateway (f bus ∷ f script ∷ map f given) (take (length gs) room)) (sym (behind_two bus script given))
    (omega (arith, most), (same, omega (arith, least, taken), omega (arith, most, taken)))

-- if one of them is of another form
pub read_none : {A : Type 0} (f : A → List ℕ) (words : List A) (room : List (ℕ × ℕ)) → 3 ≤ length words → HasPairs (map f (behind words)) room false
    → AsksNoGateway (map f words)
read_none f [] room least has = absurd (let no : ⊥ = omega (arith, least) in no)
read_none f (bus ∷ []) room least has = absurd (let no : ⊥ = omega (arith, least) in no)
read_none {A} f (bus ∷ script ∷ given) room least has = λ pairs asks.
    no_pairs (map f given) room pairs (subst (λ (gs : List A). HasPairs (map f gs) room false) (behind_two bus script given) has) asks.0
