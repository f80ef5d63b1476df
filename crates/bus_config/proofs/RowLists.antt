-- The rows of an array as a list
use Rattle.std.proofs.Common.{◌≡◌, ℕ, ◌+◌, ◌<◌, List, [], ◌∷◌, length, drop, get_or, map, refl, ap, ◌∙◌}
use Rattle.std.proofs.lemmas.List.{drop_more}
use Rattle.toml.specs.Data.{Data}
use Rattle.toml.specs.declared.value.Value.{Value}
use Rattle.toml.specs.View.{view, items_of, items_view}
use Rattle.bus_config.specs.Values.{items_list}

listed : (ds : List Data) → items_list (items_of ds) ≡ ds
listed [] = refl
listed (d ∷ ds) = ap (λ (l : List Data). d ∷ l) (listed ds)

pub items_listed : (vs : List Value) → items_list (items_view vs) ≡ map view vs
items_listed vs = listed (map view vs)

-- the rows from a place on
pub rows_left : (rows : List Value) (i : ℕ) (row : Value) → i < length rows → get_or rows i row ≡ row → map view (drop i rows) ≡ view row ∷ map view (drop (i + 1) rows)
rows_left rows i row inside here = ap (map view) (drop_more rows i row inside) ∙ ap (λ r. view r ∷ map view (drop (i + 1) rows)) here
