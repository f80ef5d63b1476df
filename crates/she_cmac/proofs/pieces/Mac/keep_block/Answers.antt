use Rattle.std.proofs.Common.{◌≡◌, ◌-◌, ◌++◌, length, take, length-take, replicate, sym, ap, ◌∙◌, arith}
use Rattle.std.proofs.lemmas.List.{append-nil}
use Rattle.she_cmac.proofs.pieces.Mac.keep_block.Goals as goal

pub returns : goal.returns
returns c = λ key blocks holds.
    let front = take 16 c.args.bytes.now in
    let all : length front ≡ 16 = omega (arith, length-take 16 c.args.bytes.now, c.requires) in
    record {
      key_is = holds.key_is;
      chain_is = holds.chain_is;
      block_is = c.copy_from_slice.ensures.after ∙ sym (ap (λ n. front ++ replicate (16 - n) 0) all ∙ append-nil front);
      filled_is = sym all;
    }
