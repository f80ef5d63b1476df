-- Words that are added one after the other.
use Rattle.std.proofs.Common.{ℕ, List, [], ◌∷◌, ◌++◌, ◌∙◌, sym, ap, append_assoc, append-nil}
use Rattle.bus_script.specs.WordsAdded.{AddsWord, AddsWords}

pub two_words : (old first second mid new : List ℕ) → AddsWord old mid first → AddsWord mid new second → AddsWords old new (first ∷ second ∷ [])
two_words old first second mid new one two =
    two
    ∙ ap (λ (l : List ℕ). l ++ 32 ∷ second) one
    ∙ append_assoc old (32 ∷ first) (32 ∷ second)
    ∙ ap (λ (l : List ℕ). old ++ 32 ∷ (first ++ 32 ∷ l)) (sym (append-nil second))
