use Rattle.std.proofs.Common.{◌≡◌, ◌<◌, length, rules, ap, ◌∙◌}
use Rattle.std.proofs.lemmas.List.Elements.{All-from_get_or}
use Rattle.basics.specs.Numbers.{bytes_of}
use Rattle.basics.proofs.CallerLemmas.{from_be_bytes-64, bytes_of-number_of}
use Rattle.unit_keys.proofs.wrapping.half_of.Goals as goal

pub returns : goal.returns
returns c =
    let text = c.args.text.now in
    let size : length text ≡ 8 = search rules in
    ap (bytes_of 8) (c.from_be_bytes.ensures ∙ from_be_bytes-64 text size)
    ∙ bytes_of-number_of 8 text (record { size = size; bytes = All-from_get_or (λ b. b < 256) text 0 (λ i _. c.fits-text i) })
