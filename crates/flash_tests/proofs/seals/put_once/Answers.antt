use Rattle.std.proofs.Common.{set, Err, sym, ap, ◌∙◌}
use Rattle.std.proofs.lemmas.List.{length-set}
use Rattle.seal_parts.specs.MemPart.{memory_part}
use Rattle.seal_laws.specs.Lives.{puts_cell, cuts_puts}
use Rattle.seal_store.specs.declared.store.SealPutFault.{SealPutFault}
use Rattle.seal_store.specs.Store.{machine_at}
use Rattle.seal_store.proofs.CallerLemmas.{stands_after, stands_same, ready_stage}
use Rattle.flash_tests.proofs.seals.put_once.Goals as goal

pub put-requires-clause-may : goal.put-requires-clause-may
put-requires-clause-may c = λ ready below.
    let x = c.requires.stands in
    let store = c.args.store.now in
    let cells = c.args.cells.now in
    let machine = machine_at (memory_part c.args.part.now).flash store cells in
    let law = c.a_unit_is_programmed_once_on_a_part_of_blanks.ensures in
    record {
      next = λ fits. law.put store.sizes x.lived.events x.lived.cells cells x.lived.first machine store.point c.args.cell c.args.payload.now x.lived.formatted x.lived.lives (ready_stage store cells ready) fits;
      moves = λ full fits. law.moves store.sizes x.lived.events x.lived.cells cells (set cells c.args.cell c.args.payload.now) x.lived.first machine store.point x.lived.formatted x.lived.lives (ready_stage store cells ready) fits (length-set _ _ _);
    }

pub returns-in-Ok-clause-stands : goal.returns-in-Ok-clause-stands
returns-in-Ok-clause-stands c =
    let x = c.requires.stands in
    let p = memory_part c.args.part.now in
    let q = memory_part c.put.new.part in
    let store = c.args.store.now in
    stands_after (puts_cell c.args.cell c.args.payload.now) p q store.sizes c.put.new.self c.put.new.cells (machine_at p.flash store c.args.cells.now) x.class x.banks x.places c.put.ensures.runs c.put.ensures.sizes
    (c.put.auto.cells ∙ x.alike) x.lived c.in-Ok.ensures.done

pub returns-in-Err-Failed-clause-stands : goal.returns-in-Err-Failed-clause-stands
returns-in-Err-Failed-clause-stands c =
    let x = c.requires.stands in
    let p = memory_part c.args.part.now in
    let q = memory_part c.put.new.part in
    let store = c.args.store.now in
    stands_after (cuts_puts c.args.cell c.args.payload.now) p q store.sizes c.put.new.self c.put.new.cells (machine_at p.flash store c.args.cells.now) x.class x.banks x.places c.put.ensures.runs c.put.ensures.sizes
    (c.put.auto.cells ∙ x.alike) x.lived (c.put.ensures.cut (c.in-Err-Failed.is ∙ ap (λ (z : SealPutFault). Err z) c.in-Err-Failed.field-0-is))

pub returns-in-Err-Exhausted-clause-stands : goal.returns-in-Err-Exhausted-clause-stands
returns-in-Err-Exhausted-clause-stands c =
    let same = c.in-Err-Exhausted.ensures.untouched (λ e. absurd (let is = sym c.in-Err-Exhausted.field-0-is ∙ e in cc)) in
    stands_same (memory_part c.args.part.now) (memory_part c.put.new.part) c.args.store.now c.put.new.self c.args.cells.now c.put.new.cells same.0 same.1.0 same.1.1 c.requires.stands

pub returns-in-Err-NoCell-clause-stands : goal.returns-in-Err-NoCell-clause-stands
returns-in-Err-NoCell-clause-stands c =
    let same = c.in-Err-NoCell.ensures.untouched (λ e. absurd (let is = sym c.in-Err-NoCell.field-0-is ∙ e in cc)) in
    stands_same (memory_part c.args.part.now) (memory_part c.put.new.part) c.args.store.now c.put.new.self c.args.cells.now c.put.new.cells same.0 same.1.0 same.1.1 c.requires.stands

pub returns-in-Err-NotReady-clause-stands : goal.returns-in-Err-NotReady-clause-stands
returns-in-Err-NotReady-clause-stands c =
    let same = c.in-Err-NotReady.ensures.untouched (λ e. absurd (let is = sym c.in-Err-NotReady.field-0-is ∙ e in cc)) in
    stands_same (memory_part c.args.part.now) (memory_part c.put.new.part) c.args.store.now c.put.new.self c.args.cells.now c.put.new.cells same.0 same.1.0 same.1.1 c.requires.stands
