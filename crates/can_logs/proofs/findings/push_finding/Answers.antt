use Rattle.std.proofs.Common.{◌≡◌, ◌<◌, ◌++◌, length, get_or, List, ℕ, refl, sym, ap, ◌∙◌, subst, arith}
use Rattle.std.specs.Prelude.{slice_index, None, Some}
use Rattle.std.proofs.lemmas.List.Quantifiers.{position-Some}
use Rattle.std.proofs.lemmas.Option.{slice_get_read}
use Rattle.can_logs.specs.declared.map_lines.MapLine.{MapLine}
use Rattle.can_logs.specs.declared.frames.LogFrame.{LogFrame}
use Rattle.can_logs.specs.MapLines.{hears_frame, place_of_frame}
use Rattle.can_logs.specs.Frames.{log_frame_of, other_line_by}
use Rattle.can_logs.specs.Findings.{front_text, channel_of}
use Rattle.can_logs.specs.FindingSteps.{AddsDataVerdict}
use Rattle.can_logs.proofs.Noting.{AddsFinding-other, Unmapped-none, Unmapped-place, AddsFinding-mapped, if_ok_weaker}
use Rattle.can_logs.proofs.findings.push_finding.Goals as goal

pub returns-clause-finds : goal.returns-clause-finds
returns-clause-finds c =
    let mapping : List MapLine = c.args.map.now in
    let frame : LogFrame = c.in-Some.frame in
    let place : ℕ = c.in-Some-place_for.place in
    let entry : MapLine = c.index-lines-place.result in
    let before : List ℕ = c.args.text.now.items in
    let front : List ℕ = c.push_front.new.text.items in
    let frame_is : log_frame_of c.args.words.now ≡ Some frame = sym c.log_frame.ensures.found ∙ c.in-Some.is in
    let channel : List ℕ = channel_of c.args.words.now in
    let place_is : place_of_frame mapping frame.can channel ≡ Some place =
    ap (λ can. place_of_frame mapping can channel) (sym c.digits.ensures.value) ∙ ap (place_of_frame mapping c.digits.result.now) (sym c.word.ensures)
    ∙ sym c.place_for.ensures ∙ c.in-Some-place_for.is in
    let inside : place < length mapping = (position-Some (λ (l : MapLine). hears_frame l frame.can channel) mapping place entry place_is).0 in
    let entry_is : entry ≡ get_or mapping place entry = subst (λ (m : List MapLine). entry ≡ get_or m place entry) c.lines-lines.ensures.value c.index-lines-place.is in
    if_ok_weaker c.push_data_verdict.result (λ counts judged.
    AddsFinding-mapped mapping c.args.counters.now (record { number = c.args.number; words = c.args.words.now }) frame place entry
    c.push_data_verdict.new.counter before front c.push_data_verdict.new.text.items counts frame_is place_is
    (slice_get_read mapping (length mapping) place entry refl inside entry_is)
    (omega (arith, inside, c.requires))
    (c.in_ok-push_front.ensures.front ∙ ap (λ head. before ++ front_text c.args.number head) c.head.ensures.value)
    (subst (λ bytes. AddsDataVerdict entry place (slice_index c.args.counters.now place) c.push_data_verdict.new.counter bytes front c.push_data_verdict.new.text.items counts)
    c.bytes.ensures.value judged))
    c.push_data_verdict.ensures.verdict

pub returns-in_default-clause-finds : goal.returns-in_default-clause-finds
returns-in_default-clause-finds c =
    let words : List (List ℕ) = c.args.words.now in
    let none : log_frame_of words ≡ None = sym c.in_default.ensures.found in
    AddsFinding-other c.args.map.now c.args.counters.now (record { number = c.args.number; words = words }) c.args.text.now.items c.dataless_line.result
    (Unmapped-none c.args.map.now words none) (c.dataless_line.ensures ∙ ap (other_line_by words) (sym none))

pub returns-in_default-place_for-clause-finds : goal.returns-in_default-place_for-clause-finds
returns-in_default-place_for-clause-finds c =
    let mapping : List MapLine = c.args.map.now in
    let words : List (List ℕ) = c.args.words.now in
    let frame : LogFrame = c.in-Some.frame in
    let frame_is : log_frame_of words ≡ Some frame = sym c.log_frame.ensures.found ∙ c.in-Some.is in
    let channel : List ℕ = channel_of words in
    let place_is : place_of_frame mapping frame.can channel ≡ None =
    ap (λ can. place_of_frame mapping can channel) (sym c.digits.ensures.value) ∙ ap (place_of_frame mapping c.digits.result.now) (sym c.word.ensures)
    ∙ sym c.in_default-place_for.ensures in
    AddsFinding-other mapping c.args.counters.now (record { number = c.args.number; words = words }) c.args.text.now.items c.unheard_line.result
    (Unmapped-place mapping words frame frame_is place_is) (c.unheard_line.ensures ∙ ap (other_line_by words) (sym frame_is))
