use Rattle.std.proofs.Common.{◌≡◌, ◌+◌, ◌<◌, ◌≤◌, [], ◌∷◌, ◌++◌, length, take, length-take, arith}
use Rattle.she_cmac.specs.Cmac.{front_blocks, last_piece}
use Rattle.she_cmac.proofs.LastPiece.{took_more, took_full}
use Rattle.she_cmac.proofs.pieces.Mac.take.Goals as goal

-- the bytes come into the last piece
pub returns-then-self-lt16-clause-took : goal.returns-then-self-lt16-clause-took
returns-then-self-lt16-clause-took c = λ key message took.
    let front = take c.keep.result c.args.bytes.now in
    let room : length (last_piece message) + length front ≤ 16 = omega (arith, took.filled_is, length-take c.keep.result c.args.bytes.now, c.keep.ensures.count) in
    took_more key message front c.keep.new.self room (c.keep.ensures.kept key (last_piece message) (front_blocks message) took)

-- the last piece is a complete block, which is chained
pub returns-clause-took : goal.returns-clause-took
returns-clause-took c = λ key message took.
    let front = take c.keep-2.result c.args.bytes.now in
    let long = length-take c.keep-2.result c.args.bytes.now in
    let full : length (last_piece message) ≡ 16 = omega (arith, took.filled_is) in
    let some : 0 < length front = omega (arith, long, c.keep-2.ensures.count, c.chain_block.ensures.empty) in
    let most : length front ≤ 16 = omega (arith, long, c.keep-2.ensures.count) in
    let chained = c.chain_block.ensures.chained key (last_piece message) (front_blocks message) took in
    took_full key message front c.keep-2.new.self full some most (c.keep-2.ensures.kept key [] (front_blocks message ++ last_piece message ∷ []) chained)
