use Rattle.std.proofs.Common.{◌∙◌}
use Rattle.seal_store.proofs.UnitReads.{part_same, confirm_same, last_same, place_read}
use Rattle.seal_store.proofs.reading.read_place.Goals as goal

pub returns-in_err-last-clause-same : goal.returns-in_err-last-clause-same
returns-in_err-last-clause-same g c =
    let a = g.P.SealPart.state c.args.part.now in
    let b = g.P.SealPart.state c.read.new.self in
    let d = g.P.SealPart.state c.read-2.new.self in
    let h = g.P.SealPart.state c.read-3.new.self in
    part_same d.flash h.flash c.in_err-last.ensures.same
    ∙ confirm_same a b d h c.args.bank c.args.place c.in_ok-line.line c.in_ok-confirm.confirm c.in_ok-confirm.confirm c.requires.class c.in_ok-line.ensures.runs c.in_ok-confirm.ensures.runs c.in_ok-line.ensures.reads c.in_ok-confirm.ensures.reads

pub returns-clause-same : goal.returns-clause-same
returns-clause-same g c =
    let a = g.P.SealPart.state c.args.part.now in
    let b = g.P.SealPart.state c.read.new.self in
    let d = g.P.SealPart.state c.read-2.new.self in
    let h = g.P.SealPart.state c.read-3.new.self in
    last_same a b d h c.args.bank c.args.place c.in_ok-line.line c.in_ok-confirm.confirm c.in_ok-last.last c.requires.class c.in_ok-line.ensures.runs c.in_ok-confirm.ensures.runs c.in_ok-line.ensures.reads c.in_ok-confirm.ensures.reads
    c.in_ok-last.ensures.reads

pub returns-clause-reads : goal.returns-clause-reads
returns-clause-reads g c =
    let a = g.P.SealPart.state c.args.part.now in
    let b = g.P.SealPart.state c.read.new.self in
    let d = g.P.SealPart.state c.read-2.new.self in
    let h = g.P.SealPart.state c.read-3.new.self in
    place_read a b d h c.args.bank c.args.place c.in_ok-line.line c.in_ok-confirm.confirm c.in_ok-last.last c.requires.class c.in_ok-line.ensures.runs c.in_ok-confirm.ensures.runs c.in_ok-line.ensures.reads c.in_ok-confirm.ensures.reads
    c.in_ok-last.ensures.reads c.kept_of.result c.kept_of.ensures
