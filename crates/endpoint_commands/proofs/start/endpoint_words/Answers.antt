use Rattle.std.proofs.Common.{refl, map}
use Rattle.std.specs.Prelude.{string_bytes}
use Rattle.program_edge.specs.NamedSources.{word_source}
use Rattle.endpoint_commands.proofs.OfWords.{words_usage, words_usage_only}
use Rattle.endpoint_commands.proofs.start.endpoint_words.Goals as goal

pub returns-clause-named : goal.returns-clause-named
returns-clause-named g c =
    let state = word_source g.O.Opened.Source.state g.I.Source.state in
    record {
      inputs = record {
        words = map string_bytes c.args.words.now;
        config = record { before = state c.open_sources-sources.result.config; after = state c.run_named-status.new.config };
        map = record { before = state c.open_sources-sources.result.map; after = state c.run_named-status.new.map };
        image = record { before = state c.open_sources-sources.result.image; after = state c.run_named-status.new.image };
        log = record { before = state c.open_sources-sources.result.log; after = state c.run_named-status.new.log };
      };
      words_are = refl;
      named = c.open_sources-sources.ensures;
      left_are = refl;
      over = c.run_named-status.ensures.runs;
    }

pub returns-clause-usage : goal.returns-clause-usage
returns-clause-usage g c = words_usage _ _ _ _ _ _ _ _ (returns-clause-named g c)

pub returns-clause-usage_only : goal.returns-clause-usage_only
returns-clause-usage_only g c = words_usage_only _ _ _ _ _ _ _ _ (returns-clause-named g c)
