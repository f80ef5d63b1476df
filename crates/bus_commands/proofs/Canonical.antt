-- The canonical lines of events, one more event at a time.
use Rattle.std.proofs.Common.{◌≡◌, ℕ, ◌+◌, ◌<◌, List, [], ◌∷◌, ◌++◌, length, take, get_or, sym, ◌∙◌, ap, append_assoc, append-nil}
use Rattle.std.specs.List.{flat_map}
use Rattle.std.proofs.lemmas.List.{take_more}
use Rattle.bus_config.specs.declared.node_lines.NodeLine.{NodeLine}
use Rattle.bus_machine.specs.declared.events.Event.{Event}
use Rattle.bus_script.specs.Canon.{canon}

flat_map-push : {A B : Type 0} (f : A → List B) (xs : List A) (x : A) → flat_map f (xs ++ x ∷ []) ≡ flat_map f xs ++ f x
flat_map-push f [] x = append-nil (f x)
flat_map-push {A} {B} f (y ∷ xs) x = ap (λ (l : List B). f y ++ l) (flat_map-push f xs x) ∙ sym (append_assoc (f y) (flat_map f xs) (f x))

pub canonical_more : (nodes : List NodeLine) (events : List Event) (i : ℕ) (e : Event) (old new : List ℕ)
    → i < length events → e ≡ get_or events i e → old ≡ flat_map (canon nodes) (take i events) → new ≡ old ++ canon nodes e
    → new ≡ flat_map (canon nodes) (take (i + 1) events)
canonical_more nodes events i e old new within is so_far added =
    added
    ∙ ap (λ (l : List ℕ). l ++ canon nodes e) so_far
    ∙ sym (flat_map-push (canon nodes) (take i events) e)
    ∙ ap (λ (x : Event). flat_map (canon nodes) (take i events ++ x ∷ [])) is
    ∙ ap (flat_map (canon nodes)) (sym (take_more events i e within))
