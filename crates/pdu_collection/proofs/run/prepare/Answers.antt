use Rattle.std.proofs.Common.{subst, sym, refl, map, rules}
use Rattle.std.specs.Prelude.{string_bytes}
use Rattle.pdu_collection.specs.Rows.{NamesInput, ComesInPairing, no_form, no_input}
use Rattle.pdu_collection.specs.Steps.{ReadsPairs}
use Rattle.pdu_collection.proofs.Phases.{Prepares-over}
use Rattle.pdu_collection.proofs.run.prepare.Goals as goal

pub returns-then-not-names_input : goal.returns-then-not-names_input
returns-then-not-names_input g c =
    let other : ¬ NamesInput (map string_bytes c.args.words.now) = search rules in
    subst (ComesInPairing _) (sym c.fixed.ensures) (no_form other refl)

pub returns-in-Err : goal.returns-in-Err
returns-in-Err g c =
    subst (ComesInPairing _) (sym c.from.ensures)
    (no_input c.in-Err.fault (c.names_input.ensures.0 c.if-not-names_input.false) c.in-Err.ensures.refused)

pub returns : goal.returns
returns g c =
    let of : ReadsPairs c.in-Ok.input.items c.lines_of.result = rw (← c.as_slice.ensures.value) c.lines_of.ensures in
    Prepares-over _ c.in-Ok.input.items c.lines_of.result (c.names_input.ensures.0 c.if-not-names_input.false) c.in-Ok.ensures.ok of
