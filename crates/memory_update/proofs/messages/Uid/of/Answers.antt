use Rattle.std.proofs.Common.{w8, ◌<◌}
use Rattle.std.proofs.lemmas.List.Elements.{All-from_get_or}
use borrow.Author.Rules.{elem_Fits}
use Rattle.memory_update.specs.Identifier.{IsUid}
use Rattle.memory_update.proofs.messages.Uid.of.Goals as goal

-- an array of 15 numbers of eight bits
is_uid : (c : goal.Start) → IsUid c.args.bytes
is_uid c =
    let p = c.well_formed.0.1 in
    record { size = p.0.1; bytes = All-from_get_or (λ b. b < 256) c.args.bytes 0 (λ i h. (elem_Fits w8 w8 c.args.bytes c.well_formed.0.0 i p.1 tt).fits) }

pub invariant_of-result : goal.invariant_of-result
invariant_of-result c = is_uid c

pub returns-clause-is_uid : goal.returns-clause-is_uid
returns-clause-is_uid c = is_uid c
