use Rattle.std.proofs.Common.{ℕ, List, [], ◌∷◌, slice_index_or, ap, ◌∙◌}
use Rattle.std.specs.Int.{w32}
use Rattle.basics.specs.Numbers.{bytes_of}
use Rattle.basics.proofs.CallerLemmas.{to_be_bytes-is}
use Rattle.rathonsi_c.proofs.opened.check_bytes.Goals as goal

-- the last three of four bytes
pub returns : goal.returns
unfolding bytes_of
returns c =
    ap (λ (l : List ℕ). slice_index_or l 1 0 ∷ slice_index_or l 2 0 ∷ slice_index_or l 3 0 ∷ []) (c.to_be_bytes.ensures ∙ to_be_bytes-is w32 c.number_of.result)
    ∙ ap (bytes_of 3) c.number_of.ensures.value
