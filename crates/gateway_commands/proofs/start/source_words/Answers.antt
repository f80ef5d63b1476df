use Rattle.std.proofs.Common.{refl, ap, sym, ◌∙◌, inl, inr}
use Rattle.std.specs.Prelude.{string_bytes}
use Rattle.std.proofs.lemmas.List.{take-map}
use Rattle.program_edge.specs.NamedSources.{first_of_two, second_of_two}
use Rattle.gateway_commands.proofs.start.source_words.Goals as goal

pub returns-then-is_asked : goal.returns-then-is_asked
returns-then-is_asked c =
    let two = sym (take-map string_bytes 2 c.args.words.now) in
    inl (c.requires.asked c.if-is_asked.true, c.two_words.ensures.first ∙ ap first_of_two two, c.two_words.ensures.second ∙ ap second_of_two two)

pub returns : goal.returns
returns c = inr (c.requires.other (λ said. cc), refl, refl)
