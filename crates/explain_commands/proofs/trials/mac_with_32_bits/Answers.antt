use Rattle.std.proofs.Common.{ℕ, ◌%◌, ◌^◌, List, [], ◌++◌, sym, ap, ◌∙◌, append_assoc, append-nil}
use Rattle.std.specs.Int.{w16, w32}
use Rattle.basics.specs.Numbers.{bytes_of}
use Rattle.basics.proofs.CallerLemmas.{to_be_bytes-is}
use Rattle.she_cmac.specs.Cmac.{cmac}
use Rattle.explain_commands.proofs.trials.mac_with_32_bits.Goals as goal

pub returns : goal.returns
returns c =
    let key : List ℕ = c.args.schedule.now in
    let payload : List ℕ = c.args.payload.now in
    let id : List ℕ = bytes_of 2 c.args.id in
    let low : ℕ = c.args.freshness % 2 ^ 32 in
    c.cmac_of_parts.ensures.value
    ∙ ap (λ b. cmac key (b ++ (payload ++ (c.to_be_bytes-2.result ++ [])))) (c.to_be_bytes.ensures ∙ to_be_bytes-is w16 c.args.id)
    ∙ ap (λ b. cmac key (id ++ (payload ++ b))) (append-nil c.to_be_bytes-2.result ∙ c.to_be_bytes-2.ensures ∙ to_be_bytes-is w32 low)
    ∙ ap (cmac key) (sym (append_assoc id payload (bytes_of 4 low)))
