use Rattle.std.proofs.Common.{sym, ◌∙◌}
use Rattle.text_lines.proofs.CallerLemmas.{number_in_range}
use Rattle.ledger_backups.proofs.CallerLemmas.{unit_of}
use Rattle.adopt_commands.proofs.tasks.one_in.Goals as goal

pub returns-clause-one : goal.returns-clause-one
returns-clause-one c =
    let slot = number_in_range 1 13 c.as_bytes-2.result.now c.in-Some-entry_slot.id (sym c.entry_slot.ensures ∙ c.in-Some-entry_slot.is) in
    let last = number_in_range 1 268435455 c.as_bytes-3.result.now c.in-Some-entry_counter.counter (sym c.entry_counter.ensures ∙ c.in-Some-entry_counter.is) in
    record {
      is_unit = unit_of c.as_bytes.result.now c.in-Some.uid (sym c.engine_uid.ensures ∙ c.in-Some.is);
      id_from_1 = slot.0;
      id_to_13 = slot.1;
      counter_from_1 = last.0;
      counter_fits = last.1;
    }
