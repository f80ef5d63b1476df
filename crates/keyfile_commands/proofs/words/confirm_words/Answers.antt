use Rattle.std.proofs.Common.{◌≡◌, map}
use Rattle.std.specs.Prelude.{string_bytes}
use Rattle.std.proofs.lemmas.Result.{IfOk-weaker}
use Rattle.hex.specs.Hex.{encode_lower}
use Rattle.keyfile_commands.proofs.Calling.{confirm_call}
use Rattle.keyfile_commands.proofs.words.confirm_words.Goals as goal

pub returns : goal.returns
returns c =
    let key_is : c.as_str-key.result.now ≡ encode_lower c.args.key.now = cc (c.as_str-key.ensures.value, c.in_ok-key.ensures, c.as_slice.ensures.value) in
    IfOk-weaker c.plain_words.result _ _
    (λ made is.
    confirm_call (map string_bytes c.args.words.now) c.args.key.now (map string_bytes made.items) c.argument-uid.result.now c.argument-id.result.now
    c.argument-slot.result.now c.argument-counter.result.now c.as_str-key.result.now c.argument-m4.result.now c.argument-m5.result.now is c.argument-uid.ensures
    c.argument-id.ensures c.argument-slot.ensures c.argument-counter.ensures key_is c.argument-m4.ensures c.argument-m5.ensures) c.plain_words.ensures
