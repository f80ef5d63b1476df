use Rattle.std.proofs.Common.{ℕ, List, map, refl, sym, ◌∙◌, subst}
use Rattle.std.proofs.lemmas.Result.{err_from_is_err_and}
use Rattle.std.specs.Prelude.{string_bytes}
use Rattle.can_logs.specs.MapFaults.{NoMapLines}
use Rattle.can_logs.specs.WatchMaps.{watch_map_of, IsMapOf}
use Rattle.locate_commands.specs.Locating.{zeroed}
use Rattle.locate_commands.specs.LocateRows.{AsksLocate, LocateOnErrors, no_form, no_map, no_log}
use Rattle.locate_commands.proofs.LocatePhases.{Comes-no_lines}
use Rattle.locate_commands.proofs.run.prepare.Goals as goal

pub returns-in_default : goal.returns-in_default
returns-in_default g c = subst (LocateOnErrors _) (sym c.fixed.ensures) (no_form (sym c.asked.ensures ∙ c.in_default.is) refl refl)

pub returns-in-Err : goal.returns-in-Err
returns-in-Err g c =
    let asks : AsksLocate (map string_bytes c.args.words.now) = (c.in-Some.asked, sym c.asked.ensures ∙ c.in-Some.is) in
    subst (LocateOnErrors _) (sym c.map_input_refusal.ensures) (no_map c.in-Err.fault asks c.in-Err.ensures.refused refl)

pub returns-in_err-map : goal.returns-in_err-map
returns-in_err-map g c =
    let asks : AsksLocate (map string_bytes c.args.words.now) = (c.in-Some.asked, sym c.asked.ensures ∙ c.in-Some.is) in
    let p = err_from_is_err_and c.from_residual.result c.from_residual.ensures.1 in
    let lacks : NoMapLines (watch_map_of (zeroed c.in-Ok.text.items)) c.in_err-map.field-0.0 =
    subst (λ (t : List ℕ). NoMapLines (watch_map_of (zeroed t)) c.in_err-map.field-0.0) c.as_slice.ensures.value c.in_err-map.ensures.err in
    rw (p.1, p.2) (Comes-no_lines _ c.in-Ok.text.items _ asks c.in-Ok.ensures.ok lacks refl)

pub returns-in-Err-read_input : goal.returns-in-Err-read_input
returns-in-Err-read_input g c =
    let asks : AsksLocate (map string_bytes c.args.words.now) = (c.in-Some.asked, sym c.asked.ensures ∙ c.in-Some.is) in
    let is : IsMapOf (zeroed c.in-Ok.text.items) c.in_ok-map.map =
    subst (λ (t : List ℕ). IsMapOf (zeroed t) c.in_ok-map.map) c.as_slice.ensures.value c.in_ok-map.ensures.ok in
    subst (LocateOnErrors _) (sym c.log_input_refusal.ensures)
    (no_log c.in-Err-read_input.fault c.in-Ok.text.items c.in_ok-map.map asks (c.in-Ok.ensures.ok, is) c.in-Err-read_input.ensures.refused)
