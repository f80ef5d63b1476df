use Rattle.std.proofs.Common.{◌≡◌, ◌∙◌, ℕ, nat_eq, slice_index_or, ap, sym}
use Rattle.cell_store.specs.Layout.{part}
use Rattle.cell_store.specs.Twin.{first_at, is_live}
use Rattle.store_growing.proofs.OneCell.{gate_at}
use Rattle.store_growing.proofs.looking.is_open.Goals as goal

pub returns : goal.returns
returns c =
    let same : nat_eq (slice_index_or c.args.image.now c.pair_place.result 0) 167 ≡ is_live (part (first_at c.args.cell) 34 c.args.image.now) =
    ap (λ (k : ℕ). nat_eq (slice_index_or c.args.image.now k 0) 167) c.pair_place.ensures ∙ sym (gate_at (first_at c.args.cell) c.args.image.now) in
    (λ gate. sym same ∙ gate, λ live. same ∙ live)
