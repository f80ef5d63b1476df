use Rattle.std.proofs.Common.{◌+◌, refl, map, sym, ap, subst, ◌∙◌, ◌++◌, ◌∷◌, []}
use Rattle.std.specs.Prelude.{string_bytes}
use Rattle.text_lines.specs.Readings.{nth_word}
use Rattle.program_edge.specs.Inputs.{Reading}
use Rattle.program_edge.specs.NamedSources.{word_source}
use Rattle.adopt_commands.specs.declared.tasks.AdoptTask.TheVariants.{All}
use Rattle.adopt_commands.specs.AdoptRows.{LacksEntries, unroomed, no_other}
use Rattle.adopt_commands.specs.AdoptFiles.{in_row, with_entries}
use Rattle.adopt_commands.proofs.Naming.{over_none_named, over_one_named, makes_nothing}
use Rattle.adopt_commands.proofs.start.adopt_file.Goals as goal

pub returns-in-Err-clause-ends : goal.returns-in-Err-clause-ends
returns-in-Err-clause-ends g c =
    over_none_named _ _ _ _ _ _ refl (ap (map (word_source g.O.Opened.Source.state g.I.Source.state)) c.new-unopened.ensures.items)
    (in_row (record {
      row = c.no_memory-refusal.result;
      comes = subst (LacksEntries (All c.args.kind) []) (sym c.no_memory-refusal.ensures) (unroomed refl);
      told = c.tell_refusal.ensures;
    }) refl (ap (map g.P.Opened.Disk.state) c.new-no_disk.ensures.items))

pub returns-in-Ok-entries-clause-ends : goal.returns-in-Ok-entries-clause-ends
returns-in-Ok-entries-clause-ends g c =
    let state = word_source g.O.Opened.Source.state g.I.Source.state in
    let r : Reading = record { before = state c.open_word-file.result; after = state c.entries_of-entries.new.file } in
    over_one_named _ _ _ c.word_at-name.result.now _ _ _ r (c.word_at-name.ensures ∙ ap (λ n. nth_word (map string_bytes c.args.words.now) (n + 1)) c.ledger_place-place.ensures.place)
    c.open_word-file.ensures.named c.open_word-file.ensures.left
    (ap (map state) (c.push_reserved.ensures.items ∙ ap (λ l. l ++ c.entries_of-entries.new.file ∷ []) c.in-Ok.ensures.items))
    (with_entries c.in-Ok-entries.entries.items (r, refl, c.in-Ok-entries.ensures.gives)
    (rw (c.as_slice-entries.ensures.value, c.word_at-ledger.ensures, c.ledger_place-place.ensures.place, c.may_make-may.ensures) at
    c.adopt_into-status.ensures.ends))

pub returns-in-Err-entries-clause-ends : goal.returns-in-Err-entries-clause-ends
returns-in-Err-entries-clause-ends g c =
    let state = word_source g.O.Opened.Source.state g.I.Source.state in
    let r : Reading = record { before = state c.open_word-file.result; after = state c.entries_of-entries.new.file } in
    over_one_named _ _ _ c.word_at-name.result.now _ _ _ r (c.word_at-name.ensures ∙ ap (λ n. nth_word (map string_bytes c.args.words.now) (n + 1)) c.ledger_place-place.ensures.place)
    c.open_word-file.ensures.named c.open_word-file.ensures.left
    (ap (map state) (c.push_reserved.ensures.items ∙ ap (λ l. l ++ c.entries_of-entries.new.file ∷ []) c.in-Ok.ensures.items))
    (in_row (record { row = c.in-Err-entries.refusal; comes = no_other c.args.kind r c.in-Err-entries.refusal refl refl c.in-Err-entries.ensures.refused; told = c.tell_refusal-in-Err-entries.ensures })
    refl (ap (map g.P.Opened.Disk.state) c.new-no_disk-in-Err-entries.ensures.items))

pub returns-in-Err-clause-makes : goal.returns-in-Err-clause-makes
returns-in-Err-clause-makes g c = makes_nothing _ _ _

pub returns-in-Ok-entries-clause-makes : goal.returns-in-Ok-entries-clause-makes
returns-in-Ok-entries-clause-makes g c = rw c.may_make-may.ensures at c.adopt_into-status.ensures.makes

pub returns-in-Err-entries-clause-makes : goal.returns-in-Err-entries-clause-makes
returns-in-Err-entries-clause-makes g c = makes_nothing _ _ _
