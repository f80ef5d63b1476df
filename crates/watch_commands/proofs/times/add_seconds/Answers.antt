use Rattle.std.proofs.Common.{◌≡◌, ◌+◌, ◌%◌, ◌<◌, ℕ, List, length, sym, subst, ◌∙◌, arith}
use Rattle.std.specs.Fmt.{decimal}
use Rattle.std.proofs.lemmas.Fmt.{decimal_nonempty}
use Rattle.watch_commands.proofs.times.add_seconds.Goals as goal

pub behind_first-requires : goal.behind_first-requires
behind_first-requires c =
    let digits : c.as_bytes-2.result.now ≡ decimal (1000000 + c.args.micros % 1000000) = c.as_bytes-2.ensures.value ∙ c.format-2.ensures.text in
    subst (λ (t : List ℕ). 0 < length t) (sym digits) (decimal_nonempty (1000000 + c.args.micros % 1000000) (omega arith))
