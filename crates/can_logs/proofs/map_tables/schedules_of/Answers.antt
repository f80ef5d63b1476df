use Rattle.std.proofs.Common.{◌≡◌, ℕ, ◌+◌, ◌<◌, List, [], ◌∷◌, ◌++◌, length, take, map, get_or, sym, ap, ◌∙◌}
use Rattle.std.proofs.lemmas.List.{map-append, take_more}
use Rattle.can_logs.specs.declared.map_lines.MapLine.{MapLine}
use Rattle.can_logs.proofs.map_tables.schedules_of.Goals as goal

-- the keys of one more line
keys_more : (lines : List MapLine) (i : ℕ) (l : MapLine) → i < length lines → l ≡ get_or lines i l
    → map (λ (x : MapLine). x.key) (take (i + 1) lines) ≡ map (λ (x : MapLine). x.key) (take i lines) ++ l.key ∷ []
keys_more lines i l inside is =
    ap (map (λ (x : MapLine). x.key)) (take_more lines i l inside)
    ∙ map-append (λ (x : MapLine). x.key) (take i lines) (get_or lines i l ∷ [])
    ∙ ap (λ (x : MapLine). map (λ (y : MapLine). y.key) (take i lines) ++ x.key ∷ []) (sym is)

pub loop-line-preserved : goal.loop-line-preserved
loop-line-preserved c =
    c.in_ok-push.ensures.items
    ∙ ap (λ (k : List ℕ). c.loop-line.schedules.items ++ k ∷ []) c.expand.ensures.value
    ∙ ap (λ (ks : List (List ℕ)). ks ++ c.line-item.result.key ∷ []) c.loop-line.invariant
    ∙ sym (keys_more c.args.lines.now c.loop-line.line-index c.line-item.result c.loop-line-test.true c.line-item.is)
