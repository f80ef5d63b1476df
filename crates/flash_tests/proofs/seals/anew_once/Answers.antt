use Rattle.std.proofs.Common.{Err, sym, ap, ◌∙◌}
use Rattle.seal_parts.specs.MemPart.{memory_part}
use Rattle.seal_laws.specs.Lives.{makes_anew, cuts_anew}
use Rattle.seal_store.specs.declared.store.SealPutFault.{SealPutFault}
use Rattle.seal_store.specs.Store.{machine_at}
use Rattle.seal_store.proofs.CallerLemmas.{stands_after, stands_same, ready_stage}
use Rattle.flash_tests.proofs.seals.anew_once.Goals as goal

pub make_anew-requires-clause-may : goal.make_anew-requires-clause-may
make_anew-requires-clause-may c = λ ready count fits.
    let x = c.requires.stands in
    let store = c.args.store.now in
    let cells = c.args.cells.now in
    let machine = machine_at (memory_part c.args.part.now).flash store cells in
    let law = c.a_unit_is_programmed_once_on_a_part_of_blanks.ensures in
    law.moves store.sizes x.lived.events x.lived.cells cells c.args.made.now x.lived.first machine store.point x.lived.formatted x.lived.lives (ready_stage store cells ready) fits count

pub returns-in-Ok-clause-stands : goal.returns-in-Ok-clause-stands
returns-in-Ok-clause-stands c =
    let x = c.requires.stands in
    let p = memory_part c.args.part.now in
    let q = memory_part c.make_anew.new.part in
    let store = c.args.store.now in
    stands_after (makes_anew c.args.made.now) p q store.sizes c.make_anew.new.self c.make_anew.new.cells (machine_at p.flash store c.args.cells.now) x.class x.banks x.places c.make_anew.ensures.runs c.make_anew.ensures.sizes
    (c.make_anew.auto.cells ∙ x.alike) x.lived c.in-Ok.ensures.done

pub returns-in-Err-Failed-clause-stands : goal.returns-in-Err-Failed-clause-stands
returns-in-Err-Failed-clause-stands c =
    let x = c.requires.stands in
    let p = memory_part c.args.part.now in
    let q = memory_part c.make_anew.new.part in
    let store = c.args.store.now in
    stands_after (cuts_anew c.args.made.now) p q store.sizes c.make_anew.new.self c.make_anew.new.cells (machine_at p.flash store c.args.cells.now) x.class x.banks x.places c.make_anew.ensures.runs c.make_anew.ensures.sizes
    (c.make_anew.auto.cells ∙ x.alike) x.lived (c.make_anew.ensures.cut (c.in-Err-Failed.is ∙ ap (λ (z : SealPutFault). Err z) c.in-Err-Failed.field-0-is))

pub returns-in-Err-Exhausted-clause-stands : goal.returns-in-Err-Exhausted-clause-stands
returns-in-Err-Exhausted-clause-stands c =
    let same = c.in-Err-Exhausted.ensures.untouched (λ e. absurd (let is = sym c.in-Err-Exhausted.field-0-is ∙ e in cc)) in
    stands_same (memory_part c.args.part.now) (memory_part c.make_anew.new.part) c.args.store.now c.make_anew.new.self c.args.cells.now c.make_anew.new.cells same.0 same.1.0 same.1.1 c.requires.stands

pub returns-in-Err-NoCell-clause-stands : goal.returns-in-Err-NoCell-clause-stands
returns-in-Err-NoCell-clause-stands c =
    let same = c.in-Err-NoCell.ensures.untouched (λ e. absurd (let is = sym c.in-Err-NoCell.field-0-is ∙ e in cc)) in
    stands_same (memory_part c.args.part.now) (memory_part c.make_anew.new.part) c.args.store.now c.make_anew.new.self c.args.cells.now c.make_anew.new.cells same.0 same.1.0 same.1.1 c.requires.stands

pub returns-in-Err-NotReady-clause-stands : goal.returns-in-Err-NotReady-clause-stands
returns-in-Err-NotReady-clause-stands c =
    let same = c.in-Err-NotReady.ensures.untouched (λ e. absurd (let is = sym c.in-Err-NotReady.field-0-is ∙ e in cc)) in
    stands_same (memory_part c.args.part.now) (memory_part c.make_anew.new.part) c.args.store.now c.make_anew.new.self c.args.cells.now c.make_anew.new.cells same.0 same.1.0 same.1.1 c.requires.stands
