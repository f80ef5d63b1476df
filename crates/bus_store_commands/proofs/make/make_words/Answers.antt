use Rattle.std.proofs.Common.{[], refl, sym}
use Rattle.std.proofs.lemmas.List.{append-nil}
use Rattle.program_edge.specs.NamedSources.{word_source}
use Rattle.bus_store_commands.proofs.MakePhases.{job_lacking, job_done}
use Rattle.bus_store_commands.proofs.make.make_words.Goals as goal

pub make_named-status-requires : goal.make_named-status-requires
make_named-status-requires g c = record { one = c.in-Ok.ensures.1.1; text = c.in-Ok.ensures.2 }

pub returns-in-Ok-clause-promises : goal.returns-in-Ok-clause-promises
returns-in-Ok-clause-promises g c =
    let state = word_source g.O.Opened.Source.state g.I.Source.state in record {
      source = record { before = state c.open_word-bus.result; after = state c.prepare.new.bus };
      named = rw c.file_over_bus.ensures at c.open_word-bus.ensures.named;
      opened_once = rw c.file_over_bus.ensures at c.open_word-bus.ensures.left;
      left_is = refl;
      has = job_done _ _ _ _ _ _ _ _ _ c.argument_at-file.ensures c.in-Ok.ensures.0 c.in-Ok.ensures.1 c.make_named-status.ensures.ends;
    }

pub returns-in-Err-clause-makes : goal.returns-in-Err-clause-makes
returns-in-Err-clause-makes g c = ([], sym (append-nil _), sym (append-nil _))

pub returns-in-Err-clause-promises : goal.returns-in-Err-clause-promises
returns-in-Err-clause-promises g c =
    let state = word_source g.O.Opened.Source.state g.I.Source.state in record {
      source = record { before = state c.open_word-bus.result; after = state c.prepare.new.bus };
      named = rw c.file_over_bus.ensures at c.open_word-bus.ensures.named;
      opened_once = rw c.file_over_bus.ensures at c.open_word-bus.ensures.left;
      left_is = refl;
      has = job_lacking _ _ _ _ _ c.in-Err.refusal _ refl c.in-Err.ensures (record { row = c.in-Err.refusal; comes = refl; told = c.tell_refusal.ensures });
    }
