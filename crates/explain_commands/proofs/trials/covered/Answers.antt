use Rattle.std.proofs.Common.{◌≡◌, ℕ, List, ◌++◌, take, drop, ap, ◌∙◌, arith}
use Rattle.std.specs.Prelude.{replicate}
use Rattle.std.proofs.lemmas.Grind.{common_steps}
use Rattle.std.proofs.lemmas.List.{drop-replicate}
use Rattle.explain_commands.proofs.trials.covered.Goals as goal

pub returns : goal.returns
returns c =
    let size : ℕ = c.args.size in
    let copied : c.copy_from_slice.new.self ≡ take size c.args.bytes.now = c.copy_from_slice.ensures.after ∙ grind (arith, common_steps) in
    ap (λ (s : List ℕ). s ++ drop size (replicate 60 0)) copied
    ∙ ap (λ (zeros : List ℕ). take size c.args.bytes.now ++ zeros) (drop-replicate size 60 0)
