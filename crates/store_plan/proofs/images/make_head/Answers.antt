use Rattle.std.proofs.Common.{length, sym, ap, ◌∙◌, length-take-le}
use Rattle.cell_store.specs.declared.kinds.Version.TheVariants.{One}
use Rattle.cell_store.specs.Layout.{header, twin_layout}
use Rattle.cell_store.proofs.CallerLemmas.{length-header}
use Rattle.store_plan.proofs.MakingLaws.{head_made}
use Rattle.store_plan.proofs.images.make_head.Goals as goal

pub copy_from_slice-requires : goal.copy_from_slice-requires
copy_from_slice-requires c =
    length-take-le 32 c.args.image.now c.requires ∙ sym (ap length c.header.ensures ∙ length-header (twin_layout One) c.args.cells)

pub returns : goal.returns
returns c =
    head_made (header (twin_layout One) c.args.cells) c.args.image.now c.copy_from_slice.new.self (length-header (twin_layout One) c.args.cells) (c.copy_from_slice.ensures.after ∙ c.header.ensures)
