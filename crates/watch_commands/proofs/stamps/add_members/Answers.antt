use Rattle.std.proofs.Common.{◌++◌, List, ℕ, ap, ◌∙◌}
use Rattle.std.specs.Prelude.{codes}
use Rattle.watch_commands.specs.Stamps.{within_ends, escaped}
use Rattle.watch_commands.proofs.Parts.{five_parts}
use Rattle.watch_commands.proofs.stamps.add_members.Goals as goal

pub returns-clause-members : goal.returns-clause-members
returns-clause-members c =
    five_parts c.args.text.now.items (codes "{\"kind\":\"frame\",\"time\":\"") (escaped (within_ends c.args.time.now)) (codes "\",\"channel\":\"") (escaped c.args.channel.now) (codes "\",")
    _ _ _ _ _ c.add_bytes.ensures.bytes
    (c.add_escaped.ensures.escaped ∙ ap (λ (w : List ℕ). c.add_bytes.new.text.items ++ escaped w) c.inside_ends.ensures.value)
    c.add_bytes-2.ensures.bytes c.add_escaped-2.ensures.escaped c.add_bytes-3.ensures.bytes
