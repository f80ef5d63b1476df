use Rattle.std.proofs.Common.{◌∷◌, List, take, ap, ◌∙◌}
use Rattle.circular_buffer.specs.Buffer.{Buffer}
use Rattle.explain_commands.specs.declared.recent.Accepted.{Accepted}
use Rattle.explain_commands.proofs.recent.Recent.note.Goals as goal

pub returns : goal.returns
returns c =
    ap (λ (b : Buffer Accepted). b.items) c.push_front.ensures.items
    ∙ ap (λ n. take n (c.args.accepted ∷ c.self.inside.ring.items)) c.self.invariant.0
    ∙ ap (λ (kept : List Accepted). take 65536 (c.args.accepted ∷ kept)) c.self.view_is
