use Rattle.std.proofs.Common.{refl, ◌∙◌}
use Rattle.std.specs.Int.{w16, w64}
use Rattle.basics.specs.Numbers.{bytes_of}
use Rattle.basics.proofs.CallerLemmas.{to_be_bytes-is}
use Rattle.freshness_store.specs.Bound.{bound_cell}
use Rattle.freshness_store.proofs.cell.bound_bytes.Goals as goal

pub returns : goal.returns
unfolding bound_cell bytes_of
returns c =
    rw (c.copy_from_slice-2.ensures.after, c.copy_from_slice.ensures.after, c.to_be_bytes-2.ensures ∙ to_be_bytes-is w64 c.args.bound, c.to_be_bytes.ensures ∙ to_be_bytes-is w16 c.args.id, c.direction_byte.ensures) refl
