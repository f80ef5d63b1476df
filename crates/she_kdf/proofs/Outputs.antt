-- The outputs of the compression, block by block.
use Rattle.std.proofs.Common.{◌≡◌, ◌+◌, ◌<◌, ℕ, List, [], ◌∷◌, length, take, get_or, sym, ap, ◌∙◌}
use Rattle.std.proofs.lemmas.List.{take_more}
use Rattle.std.proofs.lemmas.Grind.{fold-append}
use Rattle.basics.specs.Blocks.{zero_block}
use Rattle.she_kdf.specs.Derivation.{next_out, miyaguchi_preneel}

-- one more block
pub output_more : (blocks : List (List ℕ)) (i : ℕ) (d out next : List ℕ) → i < length blocks → out ≡ miyaguchi_preneel (take i blocks) → next ≡ next_out out (get_or blocks i d) → next ≡ miyaguchi_preneel (take (i + 1) blocks)
unfolding miyaguchi_preneel
output_more blocks i d out next within so_far step =
    step
    ∙ ap (λ o. next_out o (get_or blocks i d)) so_far
    ∙ sym (fold-append next_out zero_block (take i blocks) (get_or blocks i d ∷ []))
    ∙ ap miyaguchi_preneel (sym (take_more blocks i d within))
