use Rattle.std.proofs.Common.{drop, ◌∙◌, arith, length-drop}
use Rattle.std.proofs.lemmas.List.{take_all}
use Rattle.cell_store.proofs.log_reading.content_of.Goals as goal

pub returns : goal.returns
returns c = c.copy_from_slice.ensures.after ∙ take_all 32 (drop 3 c.args.bytes.now) (let l = length-drop 3 c.args.bytes.now in omega arith)
