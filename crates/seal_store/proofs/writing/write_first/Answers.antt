use Rattle.std.proofs.Common.{◌+◌, arith}
use Rattle.seal_store.proofs.WriteLaws.{ok_then}
use Rattle.seal_store.proofs.MoveLaws.{first_deed_may, second_deed_may, third_deed_may, first_does}
use Rattle.seal_store.proofs.writing.write_first.Goals as goal

pub write_deed-requires-clause-may : goal.write_deed-requires-clause-may
write_deed-requires-clause-may g c =
    let n = c.args.first in
    let f = g.P.SealPart.state c.args.part.now in
    first_deed_may n (n + 1) (n + 2) c.args.cells.now c.line_of-one.result c.line_of-two.result c.line_of-three.result (omega arith) (omega arith) c.line_of-one.ensures c.line_of-two.ensures c.line_of-three.ensures
    f.flash c.requires.may

pub write_deed-requires-2-clause-may : goal.write_deed-requires-2-clause-may
write_deed-requires-2-clause-may g c =
    let n = c.args.first in
    let f = g.P.SealPart.state c.args.part.now in
    let a = g.P.SealPart.state c.write_deed.new.part in
    second_deed_may n (n + 1) (n + 2) c.args.cells.now c.line_of-one.result c.line_of-two.result c.line_of-three.result (omega arith) (omega arith) c.line_of-one.ensures c.line_of-two.ensures c.line_of-three.ensures
    f.flash a.flash a.flash a.flash a.flash c.requires.may c.in_ok-write_deed.ensures.does

pub write_deed-requires-3-clause-may : goal.write_deed-requires-3-clause-may
write_deed-requires-3-clause-may g c =
    let n = c.args.first in
    let f = g.P.SealPart.state c.args.part.now in
    let a = g.P.SealPart.state c.write_deed.new.part in
    let b = g.P.SealPart.state c.write_deed-2.new.part in
    let d = g.P.SealPart.state c.write_copy.new.part in
    third_deed_may n (n + 1) (n + 2) c.args.cells.now c.line_of-one.result c.line_of-two.result c.line_of-three.result (omega arith) (omega arith) c.line_of-one.ensures c.line_of-two.ensures c.line_of-three.ensures
    f.flash a.flash b.flash d.flash d.flash c.requires.may c.in_ok-write_deed.ensures.does c.in_ok-write_deed-2.ensures.does c.in_ok-write_copy.ensures.does

pub returns-clause-does : goal.returns-clause-does
returns-clause-does g c =
    let n = c.args.first in
    let f = g.P.SealPart.state c.args.part.now in
    let a = g.P.SealPart.state c.write_deed.new.part in
    let b = g.P.SealPart.state c.write_deed-2.new.part in
    let d = g.P.SealPart.state c.write_copy.new.part in
    let h = g.P.SealPart.state c.write_deed-3.new.part in
    ok_then c.write_deed-3.result
    (first_does n (n + 1) (n + 2) c.args.cells.now c.line_of-one.result c.line_of-two.result c.line_of-three.result (omega arith) (omega arith) c.line_of-one.ensures c.line_of-two.ensures c.line_of-three.ensures
    f.flash a.flash b.flash d.flash h.flash c.requires.may c.in_ok-write_deed.ensures.does c.in_ok-write_deed-2.ensures.does c.in_ok-write_copy.ensures.does) c.write_deed-3.ensures.does
