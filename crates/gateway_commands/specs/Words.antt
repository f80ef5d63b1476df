-- The arguments of the command line, and which pairs they give
use Rattle.std.specs.Prelude.{◌≡◌, ℕ, ◌≤◌, ◌==◌, ◌&&◌, if◌then◌else◌, Option, None, Some, List, [], ◌∷◌, length, map}
use Rattle.std.specs.Prelude.{take, drop, slice_index}
use Rattle.secoc_words.specs.Forms.{data_id_form}

-- two Data IDs, if each is one
abbrev pub both_ids : Option ℕ → Option ℕ → Option (ℕ × ℕ)
both_ids (Some first) (Some second) = Some (first, second)
both_ids (Some first) None = None
both_ids None _ = None

-- IN=OUT: two Data IDs of four hexadecimal digits each, with `=`, which is 61, between them
unfoldable pub pair_form : List ℕ → Option (ℕ × ℕ)
pair_form word =
    if length word == 9 && slice_index word 4 == 61
    then both_ids (data_id_form (take 4 word)) (data_id_form (drop 5 word))
    else None

-- after the names of the bus file and of the script the arguments are those of these pairs, 1 to 32
abbrev pub AsksGateway : List (List ℕ) → List (ℕ × ℕ) → Type 0
AsksGateway [] pairs = ⊥
AsksGateway (bus ∷ []) pairs = ⊥
AsksGateway (bus ∷ script ∷ given) pairs =
    (map pair_form given ≡ map Some pairs) × (1 ≤ length pairs) × (length pairs ≤ 32)

-- the arguments are of the form
abbrev pub AsksSomeGateway : List (List ℕ) → Type 0
AsksSomeGateway words = (pairs : List (ℕ × ℕ)) × AsksGateway words pairs

-- the arguments are of another form
abbrev pub AsksNoGateway : List (List ℕ) → Type 0
AsksNoGateway words = (pairs : List (ℕ × ℕ)) → ¬ AsksGateway words pairs
