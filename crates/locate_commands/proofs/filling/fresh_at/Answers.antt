use Rattle.std.proofs.Common.{◌≡◌, ℕ, List, length, get_or, refl, sym, ap, ◌∙◌, subst}
use Rattle.std.proofs.lemmas.Option.{slice_get_read}
use Rattle.std.specs.Prelude.{option_and_then}
use Rattle.can_logs.specs.declared.map_lines.MapLine.{MapLine}
use Rattle.explain_commands.specs.declared.trials.KnownReceiver.{KnownReceiver}
use Rattle.explain_commands.specs.Reasons.{receiver_of}
use Rattle.locate_commands.specs.Locating.{located, fresh_at, before_first}
use Rattle.locate_commands.proofs.filling.fresh_at.Goals as goal

pub returns : goal.returns
returns c =
    let lines : List MapLine = c.args.map.now in
    let line : MapLine = c.index-lines-place.result in
    let line_is : line ≡ get_or lines c.args.place line = subst (λ (ls : List MapLine). line ≡ get_or ls c.args.place line) c.lines-lines.ensures.value c.index-lines-place.is in
    c.before_first.ensures
    ∙ ap before_first
    (c.located.ensures
    ∙ ap (λ (r : KnownReceiver). located r c.as_slice.result.now c.args.candidates) c.receiver_of-receiver.ensures.value
    ∙ ap (λ (fs : List (List ℕ)). located (receiver_of c.index-lines-place.result 0) fs c.args.candidates) (c.as_slice.ensures ∙ c.in_ok-frames.ensures))
    ∙ sym (ap (option_and_then (fresh_at lines c.args.log.now c.args.candidates c.args.place))
    (slice_get_read lines (length lines) c.args.place line refl c.requires.place line_is))
