use Rattle.std.proofs.Common.{refl}
use Rattle.seal_store.proofs.WriteLaws.{ok_then, err_then, err_any}
use Rattle.seal_store.proofs.StartWrites.{restate_may, restate_cuts, open_may, start_does, start_cuts, start_stays}
use Rattle.seal_store.proofs.starting.write_start.Goals as goal

pub restate-requires-clause-may : goal.restate-requires-clause-may
restate-requires-clause-may g c = restate_may c.args.sizes c.args.found.now (g.P.SealPart.state c.args.part.now).flash c.requires.may

pub returns-in_err-restate-clause-cuts : goal.returns-in_err-restate-clause-cuts
returns-in_err-restate-clause-cuts g c =
    let f = g.P.SealPart.state c.args.part.now in
    let a = g.P.SealPart.state c.restate.new.part in
    err_any c.from_residual.result (restate_cuts c.args.sizes c.args.found.now f.flash a.flash c.in_err-restate.ensures.cuts)

pub open_home-requires-clause-may : goal.open_home-requires-clause-may
open_home-requires-clause-may g c =
    let f = g.P.SealPart.state c.args.part.now in
    let a = g.P.SealPart.state c.restate.new.part in
    open_may c.args.sizes c.args.found.now f.flash a.flash a.flash c.in_ok-restate.ensures.does c.requires.may

pub returns-then-is_move-clause-does : goal.returns-then-is_move-clause-does
returns-then-is_move-clause-does g c =
    let f = g.P.SealPart.state c.args.part.now in
    let a = g.P.SealPart.state c.restate.new.part in
    let h = g.P.SealPart.state c.open_home.new.part in
    ok_then c.open_home.result (start_does c.args.sizes c.args.found.now f.flash a.flash h.flash c.in_ok-restate.ensures.does) c.open_home.ensures.does

pub returns-then-is_move-clause-cuts : goal.returns-then-is_move-clause-cuts
returns-then-is_move-clause-cuts g c =
    let f = g.P.SealPart.state c.args.part.now in
    let a = g.P.SealPart.state c.restate.new.part in
    let h = g.P.SealPart.state c.open_home.new.part in
    err_then c.open_home.result (start_cuts c.args.sizes c.args.found.now f.flash a.flash h.flash c.in_ok-restate.ensures.does) c.open_home.ensures.cuts

pub returns-clause-does : goal.returns-clause-does
returns-clause-does g c =
    let f = g.P.SealPart.state c.args.part.now in
    let a = g.P.SealPart.state c.restate.new.part in
    start_stays c.args.sizes c.args.found.now f.flash a.flash a.flash c.in_ok-restate.ensures.does (c.is_move.ensures.isnt c.if-is_move.false) refl
