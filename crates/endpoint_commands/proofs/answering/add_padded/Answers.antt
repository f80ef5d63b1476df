use Rattle.std.proofs.Common.{◌≡◌, ◌++◌, List, ℕ, length, take, ap, ◌∙◌, subst}
use Rattle.std.specs.Prelude.{OnOk}
use Rattle.hex.specs.Hex.{encode_upper}
use Rattle.endpoint_commands.specs.Lines.{fd_length, padded}
use Rattle.endpoint_commands.proofs.Padding.{padded_front}
use Rattle.endpoint_commands.proofs.answering.add_padded.Goals as goal

pub returns-clause-digits : goal.returns-clause-digits
returns-clause-digits c =
    let bytes : List ℕ = c.args.bytes.now in
    let front : take c.padded_length.result c.filled_up-room.result ≡ padded bytes =
    ap (λ (n : ℕ). take n c.filled_up-room.result) c.padded_length.ensures.next ∙ ap (take (fd_length (length bytes))) c.filled_up-room.ensures ∙ padded_front bytes c.requires in
    subst (λ (bs : List ℕ). OnOk c.add_upper.result (c.add_upper.new.text.items ≡ c.args.text.now.items ++ encode_upper bs)) front c.add_upper.ensures.digits
