use Rattle.std.proofs.Common.{List, map, sym, ap, subst}
use Rattle.std.specs.Prelude.{string_bytes, option_map}
use Rattle.bus_port.specs.Source.{SourceState}
use Rattle.program_edge.specs.Endings.{Ending}
use Rattle.program_edge.specs.NamedSources.{openings, word_source}
use Rattle.ledger_commands.specs.ReadSteps.{EndsReading}
use Rattle.ledger_commands.proofs.Endings.{ends_found, ends_lacking, ends_unroomed}
use Rattle.ledger_commands.proofs.run.read_words.Goals as goal

pub returns-in-Err : goal.returns-in-Err
returns-in-Err g c =
    let o = openings (g.O.Opener.opened c.args.opener.now) (option_map g.I.Source.state c.args.input.now) in
    let words = map string_bytes c.args.words.now in
    let e : Ending = record { before = g.K.Sink.state c.args.sink.now; after = g.K.Sink.state c.tell_refusal.new.sink; status = c.tell_refusal.result } in
    subst (λ (left : List SourceState). EndsReading (g.O.Opener.opens c.args.opener.now) o o c.args.task.now words left e)
    (sym (ap (map (word_source g.O.Opened.Source.state g.I.Source.state)) c.new-unopened.ensures.items))
    (ends_unroomed (g.O.Opener.opens c.args.opener.now) o c.args.task.now words e c.no_memory-refusal.result c.no_memory-refusal.ensures c.tell_refusal.ensures)

pub returns-in-Ok-push_ledgers : goal.returns-in-Ok-push_ledgers
returns-in-Ok-push_ledgers g c =
    let pushed = rw c.ledgers_in-ledgers.ensures at c.in-Ok-push_ledgers.ensures in
    ends_found _ _ _ _ _ _ _ c.push_ledgers.new.text.items c.in-Ok-push_ledgers.found pushed (rw (c.as_slice.ensures.value, c.status_of.ensures) at c.tell-status.ensures)

pub returns : goal.returns
returns g c =
    let pushed = rw c.ledgers_in-ledgers.ensures at c.in-Err-push_ledgers.ensures in
    ends_lacking _ _ _ _ _ _ _ c.push_ledgers.new.text.items c.in-Err-push_ledgers.refusal pushed c.tell_refusal-in-Err-push_ledgers.ensures
