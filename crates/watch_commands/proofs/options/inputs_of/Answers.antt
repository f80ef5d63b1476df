use Rattle.std.proofs.Common.{◌-◌, ℕ, length, drop, map, sym, ap, ◌∙◌, arith, take_all}
use Rattle.std.proofs.lemmas.List.{drop-map, length-drop}
use Rattle.std.specs.Prelude.{string_bytes}
use Rattle.watch_commands.specs.OptionWords.{AskedWords}
use Rattle.watch_commands.proofs.options.inputs_of.Goals as goal

pub returns : goal.returns
returns c =
    let words = c.args.words.now in
    let count : ℕ = c.read_words-count.result.1 in
    ap (map string_bytes) (take_all (length words - count) (drop count words) (omega (arith, length-drop count words)))
    ∙ sym (drop-map string_bytes count words)
    ∙ sym (ap (λ (w : AskedWords). w.inputs) c.read_words-count.ensures.asked)
