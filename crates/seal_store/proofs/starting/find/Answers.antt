use Rattle.std.proofs.Common.{refl, ◌∙◌, arith}
use Rattle.seal_logs.specs.declared.starting.StartEnd.TheVariants.{NoStore, Damaged, Exhausted, Found}
use Rattle.seal_store.proofs.StartReads.{finds_then, reads_cut}
use Rattle.seal_store.proofs.starting.find.Goals as goal

pub returns-in-Err-clause-cut : goal.returns-in-Err-clause-cut
returns-in-Err-clause-cut g c = λ is.
    let f = g.P.SealPart.state c.args.part.now in
    let h = g.P.SealPart.state c.read_all.new.part in
    reads_cut f.flash h.flash c.read_all.ensures.same c.args.sizes

pub returns-in-Found-clause-found : goal.returns-in-Found-clause-found
returns-in-Found-clause-found g c =
    let s = c.args.sizes.log in
    let f = g.P.SealPart.state c.args.part.now in
    let h = g.P.SealPart.state c.read_all.new.part in
    let part = g.met.P.SealPart.is_part c.args.part.now in
    let places = c.requires.places in
    let banks = c.requires.banks in
    finds_then s f.flash c.read_all.new.reads (c.read_all.auto.reads ∙ c.requires.fits) (λ b k kind far. part.behind b k kind (omega (arith, far, places))) (λ b k kind far. part.beyond b k kind (omega (arith, far, banks)))
    c.in-Ok.ensures.reads h.flash c.read_all.ensures.same c.args.sizes (Found c.in-Found.found) c.find_start.new.cells refl c.requires.room c.in-Found.ensures.finds

pub returns-in-NoStore-clause-no_store : goal.returns-in-NoStore-clause-no_store
returns-in-NoStore-clause-no_store g c = λ is.
    let s = c.args.sizes.log in
    let f = g.P.SealPart.state c.args.part.now in
    let h = g.P.SealPart.state c.read_all.new.part in
    let part = g.met.P.SealPart.is_part c.args.part.now in
    let places = c.requires.places in
    let banks = c.requires.banks in
    finds_then s f.flash c.read_all.new.reads (c.read_all.auto.reads ∙ c.requires.fits) (λ b k kind far. part.behind b k kind (omega (arith, far, places))) (λ b k kind far. part.beyond b k kind (omega (arith, far, banks)))
    c.in-Ok.ensures.reads h.flash c.read_all.ensures.same c.args.sizes NoStore c.find_start.new.cells refl c.requires.room c.in-NoStore.ensures.finds

pub returns-in-Damaged-clause-damaged : goal.returns-in-Damaged-clause-damaged
returns-in-Damaged-clause-damaged g c = λ is.
    let s = c.args.sizes.log in
    let f = g.P.SealPart.state c.args.part.now in
    let h = g.P.SealPart.state c.read_all.new.part in
    let part = g.met.P.SealPart.is_part c.args.part.now in
    let places = c.requires.places in
    let banks = c.requires.banks in
    finds_then s f.flash c.read_all.new.reads (c.read_all.auto.reads ∙ c.requires.fits) (λ b k kind far. part.behind b k kind (omega (arith, far, places))) (λ b k kind far. part.beyond b k kind (omega (arith, far, banks)))
    c.in-Ok.ensures.reads h.flash c.read_all.ensures.same c.args.sizes Damaged c.find_start.new.cells refl c.requires.room c.in-Damaged.ensures.finds

pub returns-in-Exhausted-clause-exhausted : goal.returns-in-Exhausted-clause-exhausted
returns-in-Exhausted-clause-exhausted g c = λ is.
    let s = c.args.sizes.log in
    let f = g.P.SealPart.state c.args.part.now in
    let h = g.P.SealPart.state c.read_all.new.part in
    let part = g.met.P.SealPart.is_part c.args.part.now in
    let places = c.requires.places in
    let banks = c.requires.banks in
    finds_then s f.flash c.read_all.new.reads (c.read_all.auto.reads ∙ c.requires.fits) (λ b k kind far. part.behind b k kind (omega (arith, far, places))) (λ b k kind far. part.beyond b k kind (omega (arith, far, banks)))
    c.in-Ok.ensures.reads h.flash c.read_all.ensures.same c.args.sizes Exhausted c.find_start.new.cells refl c.requires.room c.in-Exhausted.ensures.finds
