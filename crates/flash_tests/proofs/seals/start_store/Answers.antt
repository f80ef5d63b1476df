use Rattle.std.proofs.Common.{Err, sym, ap, subst, ◌∙◌}
use Rattle.seal_parts.specs.MemPart.{memory_part}
use Rattle.seal_parts.specs.State.{PartState}
use Rattle.seal_logs.specs.declared.starting.StartEnd.TheVariants.{NoStore, Damaged, Exhausted}
use Rattle.seal_laws.specs.Lives.{starts, cuts_start}
use Rattle.seal_store.specs.declared.starting.SealStartFault.{SealStartFault}
use Rattle.seal_store.specs.Store.{off_at}
use Rattle.seal_store.specs.Lived.{HasSealStore}
use Rattle.seal_store.proofs.CallerLemmas.{stands_after, store_after, found_off}
use Rattle.flash_tests.specs.declared.seals.TheConstants.{SIZES}
use Rattle.flash_tests.proofs.seals.start_store.Goals as goal

pub start-requires-clause-may : goal.start-requires-clause-may
start-requires-clause-may c = λ class found cells after finds.
    let x = c.requires.has.lived in
    c.a_unit_is_programmed_once_on_a_part_of_blanks.ensures.start SIZES x.events x.cells cells x.first (off_at (memory_part c.args.part.now).flash) found after x.formatted x.lives finds

pub returns-in-Ok-clause-ready : goal.returns-in-Ok-clause-ready
returns-in-Ok-clause-ready c =
    let has = c.requires.has in
    let p = memory_part c.args.part.now in
    let q = memory_part c.start.new.part in
    stands_after starts p q SIZES c.in-Ok.store c.start.new.cells (off_at p.flash) has.class has.banks has.places c.start.ensures.runs c.in-Ok.ensures.sizes (c.start.auto.cells ∙ c.requires.alike) has.lived c.in-Ok.ensures.ready

pub returns-in-Err-Failed-clause-off : goal.returns-in-Err-Failed-clause-off
returns-in-Err-Failed-clause-off c =
    let has = c.requires.has in
    let p = memory_part c.args.part.now in
    let q = memory_part c.start.new.part in
    store_after SIZES cuts_start p q (off_at p.flash) has.class has.banks has.places c.start.ensures.runs has.lived
    (c.start.ensures.cut (c.in-Err-Failed.is ∙ ap (λ (z : SealStartFault). Err z) c.in-Err-Failed.field-0-is))

pub returns-in-Err-Unserved-clause-off : goal.returns-in-Err-Unserved-clause-off
returns-in-Err-Unserved-clause-off c =
    subst (λ (z : PartState). HasSealStore z SIZES) (sym (c.start.ensures.untouched (c.in-Err-Unserved.is ∙ ap (λ (z : SealStartFault). Err z) c.in-Err-Unserved.field-0-is))) c.requires.has

pub returns-in-Err-NoStore-clause-off : goal.returns-in-Err-NoStore-clause-off
returns-in-Err-NoStore-clause-off c =
    let has = c.requires.has in
    let p = memory_part c.args.part.now in
    let q = memory_part c.start.new.part in
    store_after SIZES cuts_start p q (off_at p.flash) has.class has.banks has.places c.start.ensures.runs has.lived
    (found_off SIZES p.flash q.flash NoStore c.start.new.cells (c.start.ensures.no_store (c.in-Err-NoStore.is ∙ ap (λ (z : SealStartFault). Err z) c.in-Err-NoStore.field-0-is)))

pub returns-in-Err-Damaged-clause-off : goal.returns-in-Err-Damaged-clause-off
returns-in-Err-Damaged-clause-off c =
    let has = c.requires.has in
    let p = memory_part c.args.part.now in
    let q = memory_part c.start.new.part in
    store_after SIZES cuts_start p q (off_at p.flash) has.class has.banks has.places c.start.ensures.runs has.lived
    (found_off SIZES p.flash q.flash Damaged c.start.new.cells (c.start.ensures.damaged (c.in-Err-Damaged.is ∙ ap (λ (z : SealStartFault). Err z) c.in-Err-Damaged.field-0-is)))

pub returns-in-Err-Exhausted-clause-off : goal.returns-in-Err-Exhausted-clause-off
returns-in-Err-Exhausted-clause-off c =
    let has = c.requires.has in
    let p = memory_part c.args.part.now in
    let q = memory_part c.start.new.part in
    store_after SIZES cuts_start p q (off_at p.flash) has.class has.banks has.places c.start.ensures.runs has.lived
    (found_off SIZES p.flash q.flash Exhausted c.start.new.cells (c.start.ensures.exhausted (c.in-Err-Exhausted.is ∙ ap (λ (z : SealStartFault). Err z) c.in-Err-Exhausted.field-0-is)))
