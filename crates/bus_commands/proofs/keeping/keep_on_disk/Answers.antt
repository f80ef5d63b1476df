use Rattle.std.proofs.Common.{◌∙◌, [], ◌∷◌, ap, length, refl, sym, rules}
use Rattle.std.proofs.lemmas.List.{append-nil, length-map}
use Rattle.bus_commands.specs.Keeping.{kept_over_disk, kept_no_disk}
use Rattle.bus_commands.proofs.keeping.keep_on_disk.Goals as goal

pub keep_and_replay-status-requires : goal.keep_and_replay-status-requires
keep_and_replay-status-requires g c = record {
  is_bus = c.requires.0;
  are_events = rw c.as_slice.ensures.value c.requires.1;
  one = sym (length-map c.in-Ok.disks.items g.P.Opened.Disk.state) ∙ ap length c.in-Ok.ensures.disk.one;
}

pub returns-in-Ok-clause-does : goal.returns-in-Ok-clause-does
returns-in-Ok-clause-does g c = kept_over_disk c.in-Ok.disks c.in-Ok.ensures.disk c.in-Ok.ensures.noted (rw (← c.as_slice.ensures.value) c.keep_and_replay-status.ensures)

pub returns-in-Ok-clause-makes : goal.returns-in-Ok-clause-makes
returns-in-Ok-clause-makes g c = (c.args.path.now ∷ [], c.in-Ok.ensures.noted, search rules)

pub returns-in-Err-clause-does : goal.returns-in-Err-clause-does
returns-in-Err-clause-does g c = kept_no_disk c.in-Err.ensures.unopened c.new.ensures.items refl refl

pub returns-in-Err-clause-makes : goal.returns-in-Err-clause-makes
returns-in-Err-clause-makes g c = ([], c.in-Err.ensures.unopened ∙ sym (append-nil _), c.in-Err.ensures.unmade ∙ sym (append-nil _))
