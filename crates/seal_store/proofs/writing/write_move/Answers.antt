use Rattle.std.proofs.Common.{◌+◌, arith}
use Rattle.seal_store.proofs.WriteLaws.{ok_then, err_then, err_any}
use Rattle.seal_store.proofs.MoveLaws.{move_opens, copy_cut, move_deed_may, deed_cut, move_does, opens_cut}
use Rattle.seal_store.proofs.writing.write_move.Goals as goal

pub write_openings-requires-clause-may : goal.write_openings-requires-clause-may
write_openings-requires-clause-may g c =
    let p = c.args.point in
    move_opens c.args.sizes p c.args.cells.now c.bank_after-to.result (p.generation + 1) c.last_opened-last.result c.line_of-line.result c.bank_after-to.ensures.is (omega arith) c.last_opened-last.ensures c.line_of-line.ensures
    (g.P.SealPart.state c.args.part.now).flash c.requires.may

pub write_deed-requires-clause-may : goal.write_deed-requires-clause-may
write_deed-requires-clause-may g c =
    let p = c.args.point in
    let f = g.P.SealPart.state c.args.part.now in
    let a = g.P.SealPart.state c.write_openings.new.part in
    let b = g.P.SealPart.state c.write_copy.new.part in
    move_deed_may c.args.sizes p c.args.cells.now c.bank_after-to.result (p.generation + 1) c.last_opened-last.result c.line_of-line.result c.bank_after-to.ensures.is (omega arith) c.last_opened-last.ensures c.line_of-line.ensures
    f.flash a.flash b.flash b.flash c.in_ok-write_openings.ensures.does c.requires.may c.in_ok-write_copy.ensures.does

pub returns-in_err-write_openings-clause-cuts : goal.returns-in_err-write_openings-clause-cuts
returns-in_err-write_openings-clause-cuts g c =
    let p = c.args.point in
    let f = g.P.SealPart.state c.args.part.now in
    let a = g.P.SealPart.state c.write_openings.new.part in
    err_any c.from_residual.result
    (opens_cut c.args.sizes p c.args.cells.now c.bank_after-to.result (p.generation + 1) c.last_opened-last.result c.line_of-line.result c.bank_after-to.ensures.is (omega arith) c.last_opened-last.ensures c.line_of-line.ensures
    f.flash a.flash c.in_err-write_openings.ensures.cuts)

pub returns-in_err-write_copy-clause-cuts : goal.returns-in_err-write_copy-clause-cuts
returns-in_err-write_copy-clause-cuts g c =
    let p = c.args.point in
    let f = g.P.SealPart.state c.args.part.now in
    let a = g.P.SealPart.state c.write_openings.new.part in
    let b = g.P.SealPart.state c.write_copy.new.part in
    err_any c.from_residual-in_err-write_copy.result
    (copy_cut c.args.sizes p c.args.cells.now c.bank_after-to.result (p.generation + 1) c.last_opened-last.result c.line_of-line.result c.bank_after-to.ensures.is (omega arith) c.last_opened-last.ensures c.line_of-line.ensures
    f.flash a.flash b.flash b.flash c.in_ok-write_openings.ensures.does c.in_err-write_copy.ensures.cuts)

pub returns-clause-does : goal.returns-clause-does
returns-clause-does g c =
    let p = c.args.point in
    let f = g.P.SealPart.state c.args.part.now in
    let a = g.P.SealPart.state c.write_openings.new.part in
    let b = g.P.SealPart.state c.write_copy.new.part in
    let h = g.P.SealPart.state c.write_deed.new.part in
    ok_then c.write_deed.result
    (move_does c.args.sizes p c.args.cells.now c.bank_after-to.result (p.generation + 1) c.last_opened-last.result c.line_of-line.result c.bank_after-to.ensures.is (omega arith) c.last_opened-last.ensures c.line_of-line.ensures
    f.flash a.flash b.flash h.flash c.in_ok-write_openings.ensures.does c.in_ok-write_copy.ensures.does) c.write_deed.ensures.does

pub returns-clause-cuts : goal.returns-clause-cuts
returns-clause-cuts g c =
    let p = c.args.point in
    let f = g.P.SealPart.state c.args.part.now in
    let a = g.P.SealPart.state c.write_openings.new.part in
    let b = g.P.SealPart.state c.write_copy.new.part in
    let h = g.P.SealPart.state c.write_deed.new.part in
    err_then c.write_deed.result
    (deed_cut c.args.sizes p c.args.cells.now c.bank_after-to.result (p.generation + 1) c.last_opened-last.result c.line_of-line.result c.bank_after-to.ensures.is (omega arith) c.last_opened-last.ensures c.line_of-line.ensures
    f.flash a.flash b.flash h.flash c.in_ok-write_openings.ensures.does c.in_ok-write_copy.ensures.does) c.write_deed.ensures.cuts
