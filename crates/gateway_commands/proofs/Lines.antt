-- Words that are added to a line in two parts
use Rattle.std.specs.Prelude.{◌≡◌, ℕ, List, [], ◌∷◌, ◌++◌}
use Rattle.std.proofs.Common.{refl, sym, ap, ◌∙◌, append_assoc}
use Rattle.text_lines.specs.Spaced.{spaced}

spaced-append : (xs ys : List (List ℕ)) → spaced (xs ++ ys) ≡ spaced xs ++ spaced ys
spaced-append [] ys = refl
spaced-append (x ∷ xs) ys =
    ap (λ (t : List ℕ). (32 ∷ x) ++ t) (spaced-append xs ys) ∙ sym (append_assoc (32 ∷ x) (spaced xs) (spaced ys))

pub two_parts : (old mid new : List ℕ) (xs ys : List (List ℕ)) → mid ≡ old ++ spaced xs → new ≡ mid ++ spaced ys → new ≡ old ++ spaced (xs ++ ys)
two_parts old mid new xs ys first second =
    second ∙ ap (λ (t : List ℕ). t ++ spaced ys) first ∙ append_assoc old (spaced xs) (spaced ys) ∙ ap (λ (t : List ℕ). old ++ t) (sym (spaced-append xs ys))
