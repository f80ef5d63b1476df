use Rattle.std.proofs.Common.{◌∙◌, [], ◌∷◌, ◌++◌, ap}
use Rattle.program_edge.specs.OpenedWords.{words_noted}
use Rattle.program_edge.proofs.Noted.{noted_last}
use Rattle.program_edge.proofs.opened.OpenedWords.and.Goals as goal

pub returns : goal.returns
returns c =
    ap words_noted c.of.ensures ∙ noted_last c.args.word.now c.self.inside.words.numbers ∙ ap (λ words. words ++ c.args.word.now ∷ []) c.self.view_is
