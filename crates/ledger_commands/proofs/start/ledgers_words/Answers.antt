use Rattle.std.proofs.Common.{List, map, sym, ap, subst}
use Rattle.std.specs.Prelude.{string_bytes, option_map}
use Rattle.bus_port.specs.Source.{SourceState}
use Rattle.program_edge.specs.NamedSources.{openings, word_source}
use Rattle.program_edge.specs.Endings.{Ending}
use Rattle.ledger_commands.specs.LedgerReads.{ReadsLedgerFiles}
use Rattle.ledger_commands.specs.LedgerRows.{words_named}
use Rattle.ledger_commands.specs.Named.{OverAllNamed}
use Rattle.ledger_commands.proofs.Endings.{over_reading, over_refused}
use Rattle.ledger_commands.proofs.start.ledgers_words.Goals as goal

pub returns-in-Ok : goal.returns-in-Ok
returns-in-Ok g c = over_reading _ _ _ c.in-Ok.task _ _ _ c.in-Ok.ensures.task c.read_words.ensures

pub returns-in-Err : goal.returns-in-Err
returns-in-Err g c =
    let o = openings (g.O.Opener.opened c.args.opener.now) (option_map g.I.Source.state c.args.input.now) in
    let words = map string_bytes c.args.words.now in
    let e : Ending = record { before = g.K.Sink.state c.args.sink.now; after = g.K.Sink.state c.tell_refusal.new.sink; status = c.tell_refusal.result } in
    subst (λ (left : List SourceState). OverAllNamed (g.O.Opener.opens c.args.opener.now) o o (words_named words) left (λ files. ReadsLedgerFiles (record { words = words; files = files }) e))
    (sym (ap (map (word_source g.O.Opened.Source.state g.I.Source.state)) c.new-unopened.ensures.items))
    (over_refused (g.O.Opener.opens c.args.opener.now) o words e c.in-Err.refusal c.in-Err.ensures.refused c.tell_refusal.ensures)
