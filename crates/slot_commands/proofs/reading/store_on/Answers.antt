use Rattle.slot_commands.proofs.ReadingLaws.{still_after, told_counts, not_looked, none_found}
use Rattle.slot_commands.proofs.reading.store_on.Goals as goal

pub store_that_fits-requires : goal.store_that_fits-requires
store_that_fits-requires c = record {
  counts = told_counts _ _ _ c.requires (rw c.in-Ok-Some.field-0-is at c.in-Ok-Some.ensures.found);
  few = rw c.in-Ok-Some.field-0-is at c.in-Ok-Some.ensures.few;
  still = still_after _ _ _ c.requires c.in-Ok-Some.ensures.as_before;
}

pub returns-in-Ok-None-clause-refused : goal.returns-in-Ok-None-clause-refused
returns-in-Ok-None-clause-refused c =
    none_found _ _ _ c.requires c.in-Ok-None.ensures.room (told_counts _ _ _ c.requires (rw c.in-Ok-None.field-0-is at c.in-Ok-None.ensures.found))
    c.store_refusal.ensures

pub returns-in-Err-clause-refused : goal.returns-in-Err-clause-refused
returns-in-Err-clause-refused c = not_looked _ _ _ c.in-Err.fault _ c.requires c.in-Err.ensures.refused c.store_refusal-in-Err.ensures
