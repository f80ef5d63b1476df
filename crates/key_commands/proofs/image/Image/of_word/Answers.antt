use Rattle.text_lines.proofs.CallerLemmas.{hex_bytes_form-sizes}
use Rattle.key_commands.proofs.image.Image.of_word.Goals as goal

pub invariant_of-result : goal.invariant_of-result
invariant_of-result c =
    hex_bytes_form-sizes 1 65536 c.args.word.now c.in-Ok-Some.bytes (cc (c.in-Ok-Some.ensures, c.in-Ok-Some.field-0-is))
