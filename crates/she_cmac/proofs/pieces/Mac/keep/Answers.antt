use Rattle.std.proofs.Common.{◌≡◌, ◌+◌, ◌≤◌, length, take, length-take, sym, ap, ◌∙◌, arith}
use Rattle.std.proofs.lemmas.List.{length-append}
use Rattle.she_cmac.proofs.LastPiece.{written_is}
use Rattle.she_cmac.proofs.pieces.Mac.keep.Goals as goal

pub returns-clause-kept : goal.returns-clause-kept
returns-clause-kept c = λ key piece blocks holds.
    let count = c.min-count.result in
    let front = take count c.args.bytes.now in
    let block = c.args.self.now.block in
    let all : length front ≡ count = omega (arith, length-take count c.args.bytes.now) in
    let room : length piece + length front ≤ 16 = omega (arith, holds.filled_is) in
    record {
      key_is = holds.key_is;
      chain_is = holds.chain_is;
      block_is = written_is piece front block c.copy_from_slice.new.self c.args.self.now.filled count holds.block_is holds.filled_is all c.copy_from_slice.ensures.after room;
      filled_is = ap (λ n. n + count) holds.filled_is ∙ ap (λ n. length piece + n) (sym all) ∙ sym (length-append piece front);
    }
