use Rattle.std.proofs.Common.{sym, subst}
use Rattle.she_aes.specs.Cipher.{IsBlock}
use Rattle.she_aes.proofs.expand.Goals as goal
use Rattle.she_aes.proofs.expand.Goals.{After-bytes-bytes}

-- the bytes of the key are 16
are_block : (c : After-bytes-bytes) → IsBlock c.bytes-bytes.result.now
are_block c = subst IsBlock (sym c.bytes-bytes.ensures.value) c.bytes-bytes.ensures.is_block

pub invariant_of-result : goal.invariant_of-result
invariant_of-result c =
    let block = are_block (goal.at.invariant_of-result c).After-bytes-bytes in
    record { of_key = c.keys_of.ensures block; key_is_block = block }

pub returns : goal.returns
returns c = record { value = c.bytes-bytes.ensures.value; is_block = are_block (goal.at.returns c).After-bytes-bytes }
