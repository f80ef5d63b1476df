use Rattle.std.proofs.Common.{◌≡◌, length, rules}
use Rattle.memory_update.proofs.OpeningSteps.{opened_is}
use Rattle.memory_update.proofs.requests.opened.Goals as goal

pub returns : goal.returns
returns c =
    let two : length c.args.request.now.m2 ≡ 2 = search rules in
    opened_is c.args.request.now c.args.head.now c.args.authkey.now c.derived-key.result c.zero.result c.index-cbc_decrypt-0.result c.index-cbc_decrypt-1.result c.cbc_decrypt.result c.word_of-word.result c.counter_in.result c.flags_in.result c.requires c.cbc_decrypt.ensures.value c.derived-key.ensures.schedule c.zero.ensures.value two c.cbc_decrypt.ensures.are_blocks c.word_of-word.ensures c.counter_in.ensures.value c.flags_in.ensures
