use Rattle.std.proofs.Common.{List, refl, sym, subst}
use Rattle.seal_parts.specs.declared.PartClass.TheVariants.{Blanks}
use Rattle.seal_parts.specs.Designs.{PartWrite, DoesPartWrites, CutsPartWrites, MayDoPartWrites}
use Rattle.seal_store.proofs.WriteLaws.{ok_then, err_then}
use Rattle.seal_store.proofs.StartWrites.{closed_home, opened_home}
use Rattle.seal_store.proofs.starting.open_home.Goals as goal

pub returns-then-sizes-found-clause-does : goal.returns-then-sizes-found-clause-does
returns-then-sizes-found-clause-does g c =
    let f = g.P.SealPart.state c.args.part.now in
    let found = c.args.found.now in
    subst (λ (ws : List PartWrite). DoesPartWrites Blanks ws f.flash f.flash) (sym (closed_home c.args.sizes found found.latest.deed.body c.if-sizes-found.true)) refl

pub write_deed-requires-clause-may : goal.write_deed-requires-clause-may
write_deed-requires-clause-may g c =
    let f = g.P.SealPart.state c.args.part.now in
    let found = c.args.found.now in
    subst (λ (ws : List PartWrite). MayDoPartWrites Blanks ws f.flash) (opened_home c.args.sizes found found.latest.deed.body c.line_of-line.result c.requires.moved c.if-sizes-found.false c.line_of-line.ensures) c.requires.may

pub returns-clause-does : goal.returns-clause-does
returns-clause-does g c =
    let f = g.P.SealPart.state c.args.part.now in
    let h = g.P.SealPart.state c.write_deed.new.part in
    let found = c.args.found.now in
    ok_then c.write_deed.result (λ d. subst (λ (ws : List PartWrite). DoesPartWrites Blanks ws f.flash h.flash)
    (sym (opened_home c.args.sizes found found.latest.deed.body c.line_of-line.result c.requires.moved c.if-sizes-found.false c.line_of-line.ensures)) d) c.write_deed.ensures.does

pub returns-clause-cuts : goal.returns-clause-cuts
returns-clause-cuts g c =
    let f = g.P.SealPart.state c.args.part.now in
    let h = g.P.SealPart.state c.write_deed.new.part in
    let found = c.args.found.now in
    err_then c.write_deed.result (λ d. subst (λ (ws : List PartWrite). CutsPartWrites Blanks ws f.flash h.flash)
    (sym (opened_home c.args.sizes found found.latest.deed.body c.line_of-line.result c.requires.moved c.if-sizes-found.false c.line_of-line.ensures)) d) c.write_deed.ensures.cuts
