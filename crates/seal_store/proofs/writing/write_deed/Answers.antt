use Rattle.std.proofs.Common.{refl, arith}
use Rattle.seal_parts.specs.declared.UnitKind.TheVariants.{Line}
use Rattle.seal_parts.specs.declared.UnitContent.TheVariants.{Holds}
use Rattle.seal_store.proofs.WriteLaws.{ok_then, err_then, err_any}
use Rattle.seal_store.proofs.DeedLaws.{may_be, may_confirm, may_second, line_cuts, confirm_cuts, second_cuts, deed_does}
use Rattle.seal_store.proofs.writing.write_deed.Goals as goal

pub program-requires-clause-may : goal.program-requires-clause-may
program-requires-clause-may g c =
    let a = g.P.SealPart.state c.args.part.now in
    may_be a.class c.requires.class c.args.bank c.args.place Line (Holds c.args.line) a.flash a.flash c.requires.may.0.0

pub program-requires-2-clause-may : goal.program-requires-2-clause-may
program-requires-2-clause-may g c =
    let a = g.P.SealPart.state c.args.part.now in
    let b = g.P.SealPart.state c.program.new.self in
    may_confirm c.args.bank c.args.place c.args.line a b b b c.requires.class c.in_ok-program.ensures.runs (record { class = refl; banks = refl; places = refl; later = omega arith }) c.requires.may c.in_ok-program.ensures.done

pub program-requires-3-clause-may : goal.program-requires-3-clause-may
program-requires-3-clause-may g c =
    let a = g.P.SealPart.state c.args.part.now in
    let b = g.P.SealPart.state c.program.new.self in
    let d = g.P.SealPart.state c.program-2.new.self in
    may_second c.args.bank c.args.place c.args.line a b d d c.requires.class c.in_ok-program.ensures.runs c.in_ok-program-2.ensures.runs c.requires.may c.in_ok-program.ensures.done c.in_ok-program-2.ensures.done

pub returns-in_err-program-clause-cuts : goal.returns-in_err-program-clause-cuts
returns-in_err-program-clause-cuts g c =
    let a = g.P.SealPart.state c.args.part.now in
    let b = g.P.SealPart.state c.program.new.self in
    err_any c.from_residual.result (line_cuts c.args.bank c.args.place c.args.line a b b b c.requires.class c.program.ensures.runs (record { class = refl; banks = refl; places = refl; later = omega arith }) c.in_err-program.ensures.cut)

pub returns-in_err-program-2-clause-cuts : goal.returns-in_err-program-2-clause-cuts
returns-in_err-program-2-clause-cuts g c =
    let a = g.P.SealPart.state c.args.part.now in
    let b = g.P.SealPart.state c.program.new.self in
    let d = g.P.SealPart.state c.program-2.new.self in
    err_any c.from_residual-in_err-program-2.result
    (confirm_cuts c.args.bank c.args.place c.args.line a b d d c.requires.class c.in_ok-program.ensures.runs c.program-2.ensures.runs c.in_ok-program.ensures.done c.in_err-program-2.ensures.cut)

pub returns-clause-does : goal.returns-clause-does
returns-clause-does g c =
    let s = g.P.SealPart.state in
    ok_then c.program-3.result
    (deed_does c.args.bank c.args.place c.args.line (s c.args.part.now) (s c.program.new.self) (s c.program-2.new.self) (s c.program-3.new.self) c.requires.class c.in_ok-program.ensures.runs c.in_ok-program-2.ensures.runs
    c.in_ok-program.ensures.done c.in_ok-program-2.ensures.done)
    c.program-3.ensures.done

pub returns-clause-cuts : goal.returns-clause-cuts
returns-clause-cuts g c =
    let s = g.P.SealPart.state in
    err_then c.program-3.result
    (second_cuts c.args.bank c.args.place c.args.line (s c.args.part.now) (s c.program.new.self) (s c.program-2.new.self) (s c.program-3.new.self) c.requires.class c.in_ok-program.ensures.runs c.in_ok-program-2.ensures.runs
    c.in_ok-program.ensures.done c.in_ok-program-2.ensures.done)
    c.program-3.ensures.cut
