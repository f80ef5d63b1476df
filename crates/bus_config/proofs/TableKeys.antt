-- The keys of a table that was read
use Rattle.std.proofs.Common.{◌≡◌, ℕ, Bool, ◌||◌, List, [], ◌∷◌, map, string_bytes, refl, ap, ◌∙◌, sym}
use Rattle.std.specs.Prelude.{bytes_eq}
use Rattle.std.specs.List.{list_all, list_any}
use Rattle.std.specs.Map.{keys_of}
use Rattle.std.proofs.lemmas.List.Folds.{list_all-map}
use Rattle.toml.specs.View.{members_view}
use Rattle.toml.proofs.Views.{Entry}
use Rattle.bus_config.specs.Rows.{keys_in, has_only}

pub list_any-map : {X Y : Type 0} (p : X → Bool) (h : Y → X) (ys : List Y) → list_any p (map h ys) ≡ list_any (λ y. p (h y)) ys
list_any-map p h [] = refl
list_any-map p h (y ∷ ys) = ap (λ b. p (h y) || b) (list_any-map p h ys)

keys_of_view : (es : List Entry) → keys_in (members_view es) ≡ map string_bytes (keys_of es)
keys_of_view [] = refl
keys_of_view (e ∷ es) = ap (λ (l : List (List ℕ)). string_bytes e.0 ∷ l) (keys_of_view es)

pub only_known : (known : List (List ℕ)) (es : List Entry) → list_all (λ k. list_any (bytes_eq (string_bytes k)) known) (keys_of es) ≡ has_only known (members_view es)
only_known known es =
    sym (list_all-map (λ key. list_any (bytes_eq key) known) string_bytes (keys_of es))
    ∙ sym (ap (list_all (λ key. list_any (bytes_eq key) known)) (keys_of_view es))
