-- Which slot's key may authorise an update of which slot (SHE specification, memory update)
use Rattle.std.specs.Prelude.{◌≡◌, ◌≢◌, ◌⊎◌, ℕ, ◌≤◌, List, [], ◌∷◌, Bool, ◌&&◌, ◌==◌}
use Rattle.std.specs.List.{list_any}

-- the pairs of a target slot and a slot whose key may authorise its update
abbrev pub pairs : List (ℕ × ℕ)
pairs =
    (1, 1) ∷ (2, 1) ∷ (2, 2) ∷ (3, 1) ∷ (3, 2) ∷ (4, 1) ∷ (4, 4) ∷ (5, 1) ∷ (5, 5) ∷ (6, 1) ∷ (6, 6) ∷ (7, 1) ∷ (7, 7)
    ∷ (8, 1) ∷ (8, 8) ∷ (9, 1) ∷ (9, 9) ∷ (10, 1) ∷ (10, 10) ∷ (11, 1) ∷ (11, 11) ∷ (12, 1) ∷ (12, 12) ∷ (13, 1)
    ∷ (13, 13) ∷ []

-- the same by their rule: a target of 1 to 13. Its authority is slot 1, or slot 2 for target 3, or the target itself if
-- that isn't 3
abbrev pub Authorises : ℕ → ℕ → Type 0
Authorises target auth =
    (1 ≤ target) × (target ≤ 13) × ((auth ≡ 1) ⊎ ((target ≡ 3) × (auth ≡ 2)) ⊎ ((target ≢ 3) × (auth ≡ target)))

abbrev pub same_pair : ℕ × ℕ → ℕ × ℕ → Bool
same_pair p q = (p.0 == q.0) && (p.1 == q.1)

-- the same as a test: the key of the second slot may authorise an update of the first
unfoldable pub is_pair : ℕ → ℕ → Bool
is_pair target auth = list_any (same_pair (target, auth)) pairs
