use Rattle.std.proofs.Common.{◌≡◌, ℕ, ◌+◌, List, [], ◌∷◌, ◌++◌, length, take, drop, map, sym, ap, ◌∙◌, subst, arith, take_all}
use Rattle.std.specs.List.{flat_map}
use Rattle.text_lines.specs.declared.span.Cut.{Cut}
use Rattle.text_lines.specs.Lines.{TextLine, lines_of}
use Rattle.text_lines.specs.Places.{placed_lines_of}
use Rattle.text_lines.specs.Spans.{word_at, line_at}
use Rattle.can_logs.specs.declared.map_lines.MapLine.{MapLine}
use Rattle.can_logs.specs.Findings.{finding_text, first_counters}
use Rattle.trace_audit.specs.Auditing.{others_text, AuditsEach}
use Rattle.can_logs.specs.FindingSteps.{AddsFinding}
use Rattle.trace_audit.proofs.Audited.{Audited-none, Audited-mapped, Audited-other, Audited-same}
use Rattle.can_logs.proofs.CallerLemmas.{put_back, line_of, line_more, all_lines}
use Rattle.trace_audit.proofs.auditing.audit_text.Goals as goal
use Rattle.trace_audit.proofs.auditing.audit_text.Goals.{then-is_other, else-is_other}

pub loop-line-init : goal.loop-line-init
loop-line-init c =
    (Audited-none c.args.map.now c.in_ok-counters.counters.items c.new-text.result.items (c.in_ok-counters.ensures ∙ ap first_counters c.lines.ensures.value) c.new-text.ensures.items, omega arith)

pub loop-line-preserved : goal.loop-line-preserved
loop-line-preserved c =
    let mapping : List MapLine = c.args.map.now in
    let log : List ℕ = c.args.log.now in
    let cuts : List Cut = c.as_slice-line-items.result.now in
    let i : ℕ = c.loop-line.line-index in
    let before : List TextLine = map (line_of log) (take i cuts) in
    let line : TextLine = record { number = c.line-item.result.line; words = c.of-words.result } in
    let old : List ℕ = c.loop-line.counters.items in
    let new : List ℕ = c.push_finding.new.counters in
    let (so_far, few) = c.loop-line.invariant in
    let lines_are : map (line_of log) (take (i + 1) cuts) ≡ before ++ line ∷ [] =
    line_more log cuts i c.line-item.result c.of-words.result c.loop-line-test.true c.line-item.is
    (c.of-words.ensures ∙ ap (map (word_at log)) c.as_slice.ensures) in
    let notes : AddsFinding mapping old new line c.loop-line.text.items c.push_finding.new.text.items c.in_ok-tally.tally =
    subst (λ (counters : List ℕ). AddsFinding mapping counters new line c.loop-line.text.items c.push_finding.new.text.items c.in_ok-tally.tally)
    c.as_mut_slice.ensures.value
    (subst (λ number. AddsFinding mapping c.as_mut_slice.result.now new (record { number = number; words = c.of-words.result })
    c.loop-line.text.items c.push_finding.new.text.items c.in_ok-tally.tally) c.from.ensures c.in_ok-tally.ensures.finds) in
    let counters_are : take c.loop-line.counters.len (new ++ drop (length new) old) ≡ new =
    put_back c.loop-line.counters.len old new (omega (arith, notes.4, c.loop-line.counters.ok.0)) in
    elim c.if-is_other.branch [
      | then-is_other w ↦ (
        Audited-same mapping (before ++ line ∷ []) _ new _ c.push_finding.new.text.items c.if-is_other.others lines_are counters_are
            (Audited-other mapping before old new line c.loop-line.text.items c.push_finding.new.text.items c.loop-line.others
            c.in_ok-tally.tally c.if-is_other.others (sym c.is_other.ensures ∙ w.if-is_other.true) w.others-is so_far notes),
        omega (arith, few, w.others-is),
      )
      | else-is_other w ↦ (
        Audited-same mapping (before ++ line ∷ []) _ new _ c.push_finding.new.text.items c.if-is_other.others lines_are counters_are
            (Audited-mapped mapping before old new line c.loop-line.text.items c.push_finding.new.text.items c.loop-line.others
            c.in_ok-tally.tally c.if-is_other.others (sym c.is_other.ensures ∙ w.if-is_other.false) w.others-is so_far notes),
        omega (arith, few, w.others-is),
      )
    ]

pub returns : goal.returns
returns c =
    let mapping : List MapLine = c.args.map.now in
    let log : List ℕ = c.args.log.now in
    let cuts : List Cut = c.as_slice-line-items.result.now in
    let i : ℕ = c.loop-line.line-index in
    let done = c.loop-line.invariant.0 in
    let exact : map (line_at log) cuts ≡ placed_lines_of log = ap (map (line_at log)) c.as_slice-line-items.ensures.value ∙ c.in_ok-cuts.ensures.exact in
    let whole : map (line_of log) (take i cuts) ≡ lines_of log =
    ap (map (line_of log)) (take_all i cuts (omega (arith, c.loop-line-test.false))) ∙ all_lines log cuts exact (c.places_are_those_of_the_words.ensures log) in (
      done.findings,
      subst (λ (lines : List TextLine). AuditsEach mapping lines done.findings) whole done.finds,
      c.in_ok-push_others.ensures ∙ ap (λ t. t ++ others_text c.loop-line.others) done.text_is
          ∙ ap (λ n. flat_map finding_text done.findings ++ others_text n) done.others_is,
    )
