use Rattle.std.proofs.Common.{List, refl, sym, subst}
use Rattle.seal_parts.specs.declared.PartClass.TheVariants.{Blanks}
use Rattle.seal_parts.specs.Designs.{PartWrite, DoesPartWrites, CutsPartWrites, MayDoPartWrites}
use Rattle.seal_store.proofs.WriteLaws.{ok_then, err_then}
use Rattle.seal_store.proofs.StartWrites.{clean_writes, restated}
use Rattle.seal_store.proofs.starting.restate.Goals as goal

pub returns-then-found-clause-does : goal.returns-then-found-clause-does
returns-then-found-clause-does g c =
    let f = g.P.SealPart.state c.args.part.now in
    subst (λ (ws : List PartWrite). DoesPartWrites Blanks ws f.flash f.flash) (sym (clean_writes c.args.found.now c.if-found.true)) refl

pub write_deed-requires-clause-may : goal.write_deed-requires-clause-may
write_deed-requires-clause-may g c =
    let f = g.P.SealPart.state c.args.part.now in
    subst (λ (ws : List PartWrite). MayDoPartWrites Blanks ws f.flash) (restated c.args.found.now c.line_of-line.result c.if-found.false c.line_of-line.ensures) c.requires.may

pub returns-clause-does : goal.returns-clause-does
returns-clause-does g c =
    let f = g.P.SealPart.state c.args.part.now in
    let h = g.P.SealPart.state c.write_deed.new.part in
    ok_then c.write_deed.result (λ d. subst (λ (ws : List PartWrite). DoesPartWrites Blanks ws f.flash h.flash) (sym (restated c.args.found.now c.line_of-line.result c.if-found.false c.line_of-line.ensures)) d) c.write_deed.ensures.does

pub returns-clause-cuts : goal.returns-clause-cuts
returns-clause-cuts g c =
    let f = g.P.SealPart.state c.args.part.now in
    let h = g.P.SealPart.state c.write_deed.new.part in
    err_then c.write_deed.result (λ d. subst (λ (ws : List PartWrite). CutsPartWrites Blanks ws f.flash h.flash) (sym (restated c.args.found.now c.line_of-line.result c.if-found.false c.line_of-line.ensures)) d) c.write_deed.ensures.cuts
