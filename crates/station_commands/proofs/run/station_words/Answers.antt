use Rattle.std.proofs.Common.{◌≡◌, ◌∙◌, [], Some, None, map, drop, refl, sym, ap, inl, inr, rules}
use Rattle.std.proofs.lemmas.List.{append-nil}
use Rattle.std.proofs.lemmas.Bool.{cases_Bool}
use Rattle.std.specs.Prelude.{string_bytes, option_map}
use Rattle.program_edge.specs.NamedSources.{word_source, openings}
use Rattle.station_commands.specs.declared.run.StationPart.TheVariants.{Slots, BusCheck, Making, Growth, Ledger, Adoption, Key, Derivation}
use Rattle.station_commands.specs.declared.run.StationFiles.TheVariants.{Store, StoreAndBus, Made, Grown, Ledgers, Adopted, Keys, Master, Nothing}
use Rattle.adopt_commands.specs.AdoptTasks.{may_make}
use Rattle.station_commands.specs.Station.{part_of}
use Rattle.station_commands.proofs.Parts.{of_part, no_growth, adoption_makes}
use Rattle.station_commands.proofs.run.station_words.Goals as goal

pub returns-in_default-clause-promises : goal.returns-in_default-clause-promises
returns-in_default-clause-promises g c =
    let part_is : None ≡ part_of (map string_bytes c.args.words.now) = search rules in
    of_part (g.O.Opener.opens c.args.opener.now) (g.P.DiskOpener.opens c.args.disk_opener.now) (word_source g.O.Opened.Source.state g.I.Source.state)
    g.P.Opened.Disk.state (map string_bytes c.args.words.now) (map string_bytes c.after_part-rest.result.now)
    (record {
      before = openings (g.O.Opener.opened c.args.opener.now) (option_map g.I.Source.state c.args.input.now);
      after = openings (g.O.Opener.opened c.args.opener.now) (option_map g.I.Source.state c.args.input.now);
      disks_before = g.P.DiskOpener.opened c.args.disk_opener.now;
      disks_after = g.P.DiskOpener.opened c.args.disk_opener.now;
    })
    None Nothing
    (record { before = g.K.Sink.state c.args.sink.now; after = g.K.Sink.state c.tell_usage-status.new.sink; status = c.tell_usage-status.result })
    part_is c.after_part-rest.ensures (record { sources = refl; disks = refl }, c.tell_usage-status.ensures)

pub returns-in-Slots-clause-promises : goal.returns-in-Slots-clause-promises
returns-in-Slots-clause-promises g c =
    let part_is : Some Slots ≡ part_of (map string_bytes c.args.words.now) = cc (c.in-Some.ensures, c.in-Slots.is) in
    of_part (g.O.Opener.opens c.args.opener.now) (g.P.DiskOpener.opens c.args.disk_opener.now) (word_source g.O.Opened.Source.state g.I.Source.state)
    g.P.Opened.Disk.state (map string_bytes c.args.words.now) (map string_bytes c.after_part-rest.result.now)
    (record {
      before = openings (g.O.Opener.opened c.args.opener.now) (option_map g.I.Source.state c.args.input.now);
      after = openings (g.O.Opener.opened c.slots_words-status.new.opener) (option_map g.I.Source.state c.slots_words-status.new.input);
      disks_before = g.P.DiskOpener.opened c.args.disk_opener.now;
      disks_after = g.P.DiskOpener.opened c.args.disk_opener.now;
    })
    (Some Slots) (Store c.slots_words-status.result.1)
    (record { before = g.K.Sink.state c.args.sink.now; after = g.K.Sink.state c.slots_words-status.new.sink; status = c.slots_words-status.result.0 })
    part_is c.after_part-rest.ensures (c.slots_words-status.ensures, refl)

pub returns-in-BusCheck-clause-promises : goal.returns-in-BusCheck-clause-promises
returns-in-BusCheck-clause-promises g c =
    let part_is : Some BusCheck ≡ part_of (map string_bytes c.args.words.now) = cc (c.in-Some.ensures, c.in-BusCheck.is) in
    of_part (g.O.Opener.opens c.args.opener.now) (g.P.DiskOpener.opens c.args.disk_opener.now) (word_source g.O.Opened.Source.state g.I.Source.state)
    g.P.Opened.Disk.state (map string_bytes c.args.words.now) (map string_bytes c.after_part-rest.result.now)
    (record {
      before = openings (g.O.Opener.opened c.args.opener.now) (option_map g.I.Source.state c.args.input.now);
      after = openings (g.O.Opener.opened c.bus_check_words-status.new.opener) (option_map g.I.Source.state c.bus_check_words-status.new.input);
      disks_before = g.P.DiskOpener.opened c.args.disk_opener.now;
      disks_after = g.P.DiskOpener.opened c.args.disk_opener.now;
    })
    (Some BusCheck) (StoreAndBus c.bus_check_words-status.result.1 c.bus_check_words-status.result.2)
    (record { before = g.K.Sink.state c.args.sink.now; after = g.K.Sink.state c.bus_check_words-status.new.sink; status = c.bus_check_words-status.result.0 })
    part_is c.after_part-rest.ensures (c.bus_check_words-status.ensures, refl)

pub returns-in-Making-clause-promises : goal.returns-in-Making-clause-promises
returns-in-Making-clause-promises g c =
    let part_is : Some Making ≡ part_of (map string_bytes c.args.words.now) = cc (c.in-Some.ensures, c.in-Making.is) in
    of_part (g.O.Opener.opens c.args.opener.now) (g.P.DiskOpener.opens c.args.disk_opener.now) (word_source g.O.Opened.Source.state g.I.Source.state)
    g.P.Opened.Disk.state (map string_bytes c.args.words.now) (map string_bytes c.after_part-rest.result.now)
    (record {
      before = openings (g.O.Opener.opened c.args.opener.now) (option_map g.I.Source.state c.args.input.now);
      after = openings (g.O.Opener.opened c.make_words-status.new.opener) (option_map g.I.Source.state c.make_words-status.new.input);
      disks_before = g.P.DiskOpener.opened c.args.disk_opener.now;
      disks_after = g.P.DiskOpener.opened c.make_words-status.new.disk_opener;
    })
    (Some Making) (Made c.make_words-status.result.1 c.make_words-status.result.2)
    (record { before = g.K.Sink.state c.args.sink.now; after = g.K.Sink.state c.make_words-status.new.sink; status = c.make_words-status.result.0 })
    part_is c.after_part-rest.ensures c.make_words-status.ensures.promises

pub returns-in-Growth-clause-promises : goal.returns-in-Growth-clause-promises
returns-in-Growth-clause-promises g c =
    let part_is : Some Growth ≡ part_of (map string_bytes c.args.words.now) = cc (c.in-Some.ensures, c.in-Growth.is) in
    of_part (g.O.Opener.opens c.args.opener.now) (g.P.DiskOpener.opens c.args.disk_opener.now) (word_source g.O.Opened.Source.state g.I.Source.state)
    g.P.Opened.Disk.state (map string_bytes c.args.words.now) (map string_bytes c.after_part-rest.result.now)
    (record {
      before = openings (g.O.Opener.opened c.args.opener.now) (option_map g.I.Source.state c.args.input.now);
      after = openings (g.O.Opener.opened c.grow_words-status.new.opener) (option_map g.I.Source.state c.grow_words-status.new.input);
      disks_before = g.P.DiskOpener.opened c.args.disk_opener.now;
      disks_after = g.P.DiskOpener.opened c.grow_words-status.new.disk_opener;
    })
    (Some Growth) (Grown c.grow_words-status.result.1 c.grow_words-status.result.2)
    (record { before = g.K.Sink.state c.args.sink.now; after = g.K.Sink.state c.grow_words-status.new.sink; status = c.grow_words-status.result.0 })
    part_is c.after_part-rest.ensures c.grow_words-status.ensures.grows

pub returns-in-Ledger-clause-promises : goal.returns-in-Ledger-clause-promises
returns-in-Ledger-clause-promises g c =
    let part_is : Some Ledger ≡ part_of (map string_bytes c.args.words.now) = cc (c.in-Some.ensures, c.in-Ledger.is) in
    of_part (g.O.Opener.opens c.args.opener.now) (g.P.DiskOpener.opens c.args.disk_opener.now) (word_source g.O.Opened.Source.state g.I.Source.state)
    g.P.Opened.Disk.state (map string_bytes c.args.words.now) (map string_bytes c.after_part-rest.result.now)
    (record {
      before = openings (g.O.Opener.opened c.args.opener.now) (option_map g.I.Source.state c.args.input.now);
      after = openings (g.O.Opener.opened c.ledgers_words-status.new.opener) (option_map g.I.Source.state c.ledgers_words-status.new.input);
      disks_before = g.P.DiskOpener.opened c.args.disk_opener.now;
      disks_after = g.P.DiskOpener.opened c.args.disk_opener.now;
    })
    (Some Ledger) (Ledgers c.ledgers_words-status.result.1)
    (record { before = g.K.Sink.state c.args.sink.now; after = g.K.Sink.state c.ledgers_words-status.new.sink; status = c.ledgers_words-status.result.0 })
    part_is c.after_part-rest.ensures (c.ledgers_words-status.ensures, refl)

pub returns-in-Adoption-clause-promises : goal.returns-in-Adoption-clause-promises
returns-in-Adoption-clause-promises g c =
    let part_is : Some Adoption ≡ part_of (map string_bytes c.args.words.now) = cc (c.in-Some.ensures, c.in-Adoption.is) in
    of_part (g.O.Opener.opens c.args.opener.now) (g.P.DiskOpener.opens c.args.disk_opener.now) (word_source g.O.Opened.Source.state g.I.Source.state)
    g.P.Opened.Disk.state (map string_bytes c.args.words.now) (map string_bytes c.after_part-rest.result.now)
    (record {
      before = openings (g.O.Opener.opened c.args.opener.now) (option_map g.I.Source.state c.args.input.now);
      after = openings (g.O.Opener.opened c.adopts_words-status.new.opener) (option_map g.I.Source.state c.adopts_words-status.new.input);
      disks_before = g.P.DiskOpener.opened c.args.disk_opener.now;
      disks_after = g.P.DiskOpener.opened c.adopts_words-status.new.disk_opener;
    })
    (Some Adoption) (Adopted c.adopts_words-status.result.1 c.adopts_words-status.result.2)
    (record { before = g.K.Sink.state c.args.sink.now; after = g.K.Sink.state c.adopts_words-status.new.sink; status = c.adopts_words-status.result.0 })
    part_is c.after_part-rest.ensures c.adopts_words-status.ensures.promises

pub returns-in-Key-clause-promises : goal.returns-in-Key-clause-promises
returns-in-Key-clause-promises g c =
    let part_is : Some Key ≡ part_of (map string_bytes c.args.words.now) = cc (c.in-Some.ensures, c.in-Key.is) in
    of_part (g.O.Opener.opens c.args.opener.now) (g.P.DiskOpener.opens c.args.disk_opener.now) (word_source g.O.Opened.Source.state g.I.Source.state)
    g.P.Opened.Disk.state (map string_bytes c.args.words.now) (map string_bytes c.after_part-rest.result.now)
    (record {
      before = openings (g.O.Opener.opened c.args.opener.now) (option_map g.I.Source.state c.args.input.now);
      after = openings (g.O.Opener.opened c.keyfile_words-status.new.opener) (option_map g.I.Source.state c.keyfile_words-status.new.input);
      disks_before = g.P.DiskOpener.opened c.args.disk_opener.now;
      disks_after = g.P.DiskOpener.opened c.args.disk_opener.now;
    })
    (Some Key) (Keys c.keyfile_words-status.result.1 c.keyfile_words-status.result.2)
    (record { before = g.K.Sink.state c.args.sink.now; after = g.K.Sink.state c.keyfile_words-status.new.sink; status = c.keyfile_words-status.result.0 })
    part_is c.after_part-rest.ensures (c.keyfile_words-status.ensures, refl)

pub returns-in-Derivation-clause-promises : goal.returns-in-Derivation-clause-promises
returns-in-Derivation-clause-promises g c =
    let part_is : Some Derivation ≡ part_of (map string_bytes c.args.words.now) = cc (c.in-Some.ensures, c.in-Derivation.is) in
    of_part (g.O.Opener.opens c.args.opener.now) (g.P.DiskOpener.opens c.args.disk_opener.now) (word_source g.O.Opened.Source.state g.I.Source.state)
    g.P.Opened.Disk.state (map string_bytes c.args.words.now) (map string_bytes c.after_part-rest.result.now)
    (record {
      before = openings (g.O.Opener.opened c.args.opener.now) (option_map g.I.Source.state c.args.input.now);
      after = openings (g.O.Opener.opened c.derive_words-status.new.opener) (option_map g.I.Source.state c.derive_words-status.new.input);
      disks_before = g.P.DiskOpener.opened c.args.disk_opener.now;
      disks_after = g.P.DiskOpener.opened c.args.disk_opener.now;
    })
    (Some Derivation) (Master c.derive_words-status.result.1)
    (record { before = g.K.Sink.state c.args.sink.now; after = g.K.Sink.state c.derive_words-status.new.sink; status = c.derive_words-status.result.0 })
    part_is c.after_part-rest.ensures (c.derive_words-status.ensures, refl)

-- ---- no file is made but by `slots make` and with `--new`

pub returns-in-Making-clause-none_made : goal.returns-in-Making-clause-none_made
returns-in-Making-clause-none_made g c not =
    let part_is : part_of (map string_bytes c.args.words.now) ≡ Some Making = cc (c.in-Some.ensures, c.in-Making.is) in
    absurd (not (inl part_is))

pub returns-in-Growth-clause-none_made : goal.returns-in-Growth-clause-none_made
returns-in-Growth-clause-none_made g c not = c.grow_words-status.ensures.none_made

pub returns-in-Adoption-clause-none_made : goal.returns-in-Adoption-clause-none_made
returns-in-Adoption-clause-none_made g c not =
    let part_is : part_of (map string_bytes c.args.words.now) ≡ Some Adoption = cc (c.in-Some.ensures, c.in-Adoption.is) in
    elim (cases_Bool (may_make (drop 1 (map string_bytes c.args.words.now)))) [
      | inl may ↦ absurd (not (inr (part_is, may)))
      | inr none ↦ c.adopts_words-status.ensures.none_made (ap may_make c.after_part-rest.ensures ∙ none)
    ]

-- ---- with these a missing file is made

pub returns-in_default-clause-makes : goal.returns-in_default-clause-makes
returns-in_default-clause-makes g c may = ([], sym (append-nil _), sym (append-nil _))

pub returns-in-Slots-clause-makes : goal.returns-in-Slots-clause-makes
returns-in-Slots-clause-makes g c may = ([], sym (append-nil _), sym (append-nil _))

pub returns-in-BusCheck-clause-makes : goal.returns-in-BusCheck-clause-makes
returns-in-BusCheck-clause-makes g c may = ([], sym (append-nil _), sym (append-nil _))

pub returns-in-Ledger-clause-makes : goal.returns-in-Ledger-clause-makes
returns-in-Ledger-clause-makes g c may = ([], sym (append-nil _), sym (append-nil _))

pub returns-in-Key-clause-makes : goal.returns-in-Key-clause-makes
returns-in-Key-clause-makes g c may = ([], sym (append-nil _), sym (append-nil _))

pub returns-in-Derivation-clause-makes : goal.returns-in-Derivation-clause-makes
returns-in-Derivation-clause-makes g c may = ([], sym (append-nil _), sym (append-nil _))

pub returns-in-Making-clause-makes : goal.returns-in-Making-clause-makes
returns-in-Making-clause-makes g c may = c.make_words-status.ensures.makes

pub returns-in-Growth-clause-makes : goal.returns-in-Growth-clause-makes
returns-in-Growth-clause-makes g c may =
    let part_is : part_of (map string_bytes c.args.words.now) ≡ Some Growth = cc (c.in-Some.ensures, c.in-Growth.is) in
    absurd (no_growth (map string_bytes c.args.words.now) part_is may)

pub returns-in-Adoption-clause-makes : goal.returns-in-Adoption-clause-makes
returns-in-Adoption-clause-makes g c may =
    let part_is : part_of (map string_bytes c.args.words.now) ≡ Some Adoption = cc (c.in-Some.ensures, c.in-Adoption.is) in
    adoption_makes (map string_bytes c.args.words.now) _ _ _ _ _ part_is may c.after_part-rest.ensures c.adopts_words-status.ensures.makes
