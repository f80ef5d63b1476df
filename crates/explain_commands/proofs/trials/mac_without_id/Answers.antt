use Rattle.std.proofs.Common.{ℕ, List, ◌++◌, ap, ◌∙◌, append-nil}
use Rattle.std.specs.Int.{w64}
use Rattle.basics.proofs.CallerLemmas.{to_be_bytes-is}
use Rattle.she_cmac.specs.Cmac.{cmac}
use Rattle.explain_commands.proofs.trials.mac_without_id.Goals as goal

pub returns : goal.returns
returns c =
    let key : List ℕ = c.args.schedule.now in
    let payload : List ℕ = c.args.payload.now in
    c.cmac_of_parts.ensures.value
    ∙ ap (λ b. cmac key (payload ++ b)) (append-nil c.to_be_bytes.result ∙ c.to_be_bytes.ensures ∙ to_be_bytes-is w64 c.args.freshness)
