use Rattle.std.proofs.Common.{ℕ, List, ◌++◌, length, drop, ap, ◌∙◌}
use Rattle.std.specs.Prelude.{replicate}
use Rattle.std.proofs.lemmas.List.{drop-replicate}
use Rattle.endpoint_commands.proofs.answering.filled_up.Goals as goal

pub returns : goal.returns
returns c =
    ap (λ (l : List ℕ). l ++ drop (length c.args.bytes.now) (replicate 64 0)) c.copy_from_slice.ensures.after
    ∙ ap (λ (l : List ℕ). c.args.bytes.now ++ l) (drop-replicate (length c.args.bytes.now) 64 0)
