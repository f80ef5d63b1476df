use Rattle.std.proofs.Common.{ap, arith, refl, sym, get_or, [], ◌∷◌, ◌∙◌}
use Rattle.basics.specs.Numbers.{number_of}
use Rattle.basics.proofs.CallerLemmas.{from_be_bytes-16}
use Rattle.cell_store.proofs.LogReadingLaws.{part-two}
use Rattle.cell_store.proofs.log_reading.number_of.Goals as goal

pub returns : goal.returns
returns c =
    c.from_be_bytes.ensures ∙ from_be_bytes-16 (get_or c.args.bytes.now 1 0 ∷ get_or c.args.bytes.now 2 0 ∷ []) refl
    ∙ ap number_of (sym (part-two c.args.bytes.now (omega arith)))
