use Rattle.std.proofs.Common.{map}
use Rattle.std.specs.Prelude.{string_bytes}
use Rattle.clap.specs.Words.{app_of}
use Rattle.key_commands.proofs.Commands.{found_values, refused_words, taken_words}
use Rattle.key_commands.proofs.parsing.parse.Goals as goal

pub returns-in-Err-try_get_matches_from-clause-refused : goal.returns-in-Err-try_get_matches_from-clause-refused
returns-in-Err-try_get_matches_from-clause-refused c =
    refused_words c.args.subcommand (app_of c.in-Ok.command) (map string_bytes c.args.words.now) c.in-Err-try_get_matches_from.error c.kind.result c.refusal_of.result
    c.in-Ok.ensures c.in-Err-try_get_matches_from.ensures.kinds c.kind.ensures c.refusal_of.ensures

pub returns-clause-taken : goal.returns-clause-taken
returns-clause-taken c =
    taken_words c.args.subcommand (app_of c.in-Ok.command) (map string_bytes c.args.words.now) c.in-Ok.ensures c.in-Ok-try_get_matches_from.ensures.kinds

pub returns-clause-values : goal.returns-clause-values
returns-clause-values c =
    found_values c.args.subcommand (app_of c.in-Ok.command) (map string_bytes c.args.words.now) _ c.in-Ok.ensures c.in-Ok-try_get_matches_from.ensures.matches
