use Rattle.std.proofs.Common.{◌≡◌, ◌≢◌, ◌∙◌, ap, sym, true, false, length, drop, rules}
use Rattle.keyfile_commands.specs.KeyFiles.{is_key_end}
use Rattle.keyfile_commands.proofs.KeyBytes.{short_file, long_file, no_key_file, rest_is}
use Rattle.keyfile_commands.proofs.files.key_in.Goals as goal

pub returns-then-bytes-lt32 : goal.returns-then-bytes-lt32
returns-then-bytes-lt32 c =
    let other : length c.args.bytes.now ≢ 16 = search rules in
    c.key.ensures ∙ short_file c.args.bytes.now other c.if-bytes-lt32.true

pub returns-then-not-is_key_end : goal.returns-then-not-is_key_end
returns-then-not-is_key_end c =
    let other : length c.args.bytes.now ≢ 16 = search rules in
    let ends : is_key_end (drop 32 c.args.bytes.now) ≡ false =
    ap is_key_end (sym (rest_is c.args.bytes.now)) ∙ sym c.is_key_end.ensures ∙ c.if-not-is_key_end.true in
    no_key_file c.args.bytes.now other ends

pub returns : goal.returns
returns c =
    let other : length c.args.bytes.now ≢ 16 = search rules in
    let ends : is_key_end (drop 32 c.args.bytes.now) ≡ true =
    ap is_key_end (sym (rest_is c.args.bytes.now)) ∙ sym c.is_key_end.ensures ∙ c.if-not-is_key_end.false in
    c.key-2.ensures ∙ long_file c.args.bytes.now other ends
