use Rattle.std.proofs.Common.{◌∙◌, sym, subst, map}
use Rattle.std.specs.Prelude.{string_bytes}
use Rattle.endpoint_commands.specs.Rows.{AsksForm}
use Rattle.endpoint_commands.proofs.OfWords.{word_of_none, word_of_some}
use Rattle.endpoint_commands.proofs.start.word_at.Goals as goal

pub returns-in-Some : goal.returns-in-Some
returns-in-Some c = c.word_in.ensures ∙ sym (word_of_some (map string_bytes c.args.words.now) _ c.args.place (subst (AsksForm (map string_bytes c.args.words.now)) c.in-Some.is c.requires))

pub returns-in-None : goal.returns-in-None
returns-in-None c = sym (word_of_none (map string_bytes c.args.words.now) c.args.place (subst (AsksForm (map string_bytes c.args.words.now)) c.in-None.is c.requires))
