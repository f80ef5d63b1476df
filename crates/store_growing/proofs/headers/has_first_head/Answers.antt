use Rattle.store_growing.proofs.HeaderFacts.{first_head_test}
use Rattle.store_growing.proofs.headers.has_first_head.Goals as goal

pub returns : goal.returns
returns c =
    first_head_test c.args.kind c.args.front.now c.copy_from_slice.new.self c.copy_from_slice-2.new.self c.is_header.result c.requires
    c.copy_from_slice.ensures.after c.copy_from_slice-2.ensures.after c.is_header.ensures
