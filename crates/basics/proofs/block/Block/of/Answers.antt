use Rattle.std.proofs.Common.{w8, ◌<◌}
use Rattle.std.proofs.lemmas.List.Elements.{All-from_get_or}
use borrow.Author.Rules.{elem_Fits}
use Rattle.basics.specs.Blocks.{IsBlock}
use Rattle.basics.proofs.block.Block.of.Goals as goal

-- an array of 16 numbers of eight bits
is_block : (c : goal.Start) → IsBlock c.args.bytes
is_block c =
    let p = c.well_formed.0.1 in
    record { size = p.0.1; bytes = All-from_get_or (λ b. b < 256) c.args.bytes 0 (λ i h. (elem_Fits w8 w8 c.args.bytes c.well_formed.0.0 i p.1 tt).fits) }

pub invariant_of-result : goal.invariant_of-result
invariant_of-result c = is_block c

pub returns-clause-is_block : goal.returns-clause-is_block
returns-clause-is_block c = is_block c
