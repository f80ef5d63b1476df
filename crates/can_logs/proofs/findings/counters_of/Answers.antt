use Rattle.std.proofs.Common.{◌≡◌, ℕ, ◌+◌, ◌<◌, List, [], ◌∷◌, ◌++◌, length, take, get_or, sym, ap, ◌∙◌}
use Rattle.std.proofs.lemmas.List.{map-append, take_more}
use Rattle.can_logs.specs.declared.map_lines.MapLine.{MapLine}
use Rattle.can_logs.specs.Findings.{first_counters}
use Rattle.can_logs.proofs.findings.counters_of.Goals as goal

-- the counters of one more line
counters_more : (mapping : List MapLine) (i : ℕ) (l : MapLine) → i < length mapping → l ≡ get_or mapping i l
    → first_counters (take (i + 1) mapping) ≡ first_counters (take i mapping) ++ l.counter ∷ []
counters_more mapping i l inside is =
    ap first_counters (take_more mapping i l inside)
    ∙ map-append (λ (x : MapLine). x.counter) (take i mapping) (get_or mapping i l ∷ [])
    ∙ ap (λ (x : MapLine). first_counters (take i mapping) ++ x.counter ∷ []) (sym is)

pub loop-line-preserved : goal.loop-line-preserved
loop-line-preserved c =
    c.in_ok-push.ensures.items
    ∙ ap (λ (xs : List ℕ). xs ++ c.line-item.result.counter ∷ []) c.loop-line.invariant
    ∙ sym (counters_more c.args.map.now c.loop-line.line-index c.line-item.result c.loop-line-test.true c.line-item.is)
