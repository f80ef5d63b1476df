-- The answers of lines, one after the other, go on by the answer of one more line.
use Rattle.std.proofs.Common.{◌≡◌, ℕ, List, [], ◌∷◌, ◌++◌, refl, ap, sym, ◌∙◌, append_assoc, append-nil, ◌<◌, ◌+◌, length, get_or, take, subst}
use Rattle.std.proofs.lemmas.List.{take_more}
use Rattle.bus_commands.specs.Texts.{TellsEach}
use Rattle.bus_commands.specs.Steps.{Adds}

pub TellsEach-more : {A : Type 0} (Tells : A → List ℕ → Type 0) (lines : List A) (l : A) (old new : List ℕ)
    → TellsEach Tells lines old → Adds old new (Tells l) → TellsEach Tells (lines ++ l ∷ []) new
TellsEach-more Tells [] l old new each adds =
    (adds.0, [], adds.1, refl, adds.2 ∙ ap (λ t. t ++ adds.0) each ∙ sym (append-nil adds.0))
TellsEach-more Tells (x ∷ xs) l old new each adds = (
  each.0,
  each.1 ++ adds.0,
  each.2,
  TellsEach-more Tells xs l each.1 (each.1 ++ adds.0) each.3 (adds.0, adds.1, refl),
  adds.2 ∙ ap (λ t. t ++ adds.0) each.4 ∙ append_assoc each.0 each.1 adds.0,
)

-- the loop over lines, at the line at an index
pub TellsEach-at : {A : Type 0} (Tells : A → List ℕ → Type 0) (lines : List A) (i : ℕ) (l : A) (old new : List ℕ)
    → i < length lines → l ≡ get_or lines i l → TellsEach Tells (take i lines) old → Adds old new (Tells l)
    → TellsEach Tells (take (i + 1) lines) new
TellsEach-at Tells lines i l old new within is each adds =
    let next : take (i + 1) lines ≡ take i lines ++ l ∷ [] = take_more lines i l within ∙ ap (λ x. take i lines ++ x ∷ []) (sym is) in
    subst (λ xs. TellsEach Tells xs new) (sym next) (TellsEach-more Tells (take i lines) l old new each adds)
