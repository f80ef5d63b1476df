use Rattle.std.proofs.Common.{◌≡◌, ℕ, ◌+◌, ◌<◌, List, [], ◌∷◌, ◌++◌, length, take, map, get_or, sym, ap, ◌∙◌, arith, take_all}
use Rattle.std.proofs.lemmas.List.{map-append, take_more}
use Rattle.text_lines.specs.declared.span.Cut.{Cut}
use Rattle.text_lines.specs.Lines.{TextLine}
use Rattle.text_lines.specs.Places.{placed_lines_of}
use Rattle.text_lines.specs.Spans.{line_at}
use Rattle.can_logs.proofs.LineFindings.{numbers_same, all_lines}
use Rattle.can_logs.proofs.maps.numbers_of.Goals as goal

-- the number of one more line
numbers_more : (cuts : List Cut) (i : ℕ) (c : Cut) → i < length cuts → c ≡ get_or cuts i c
    → map (λ (x : Cut). x.line) (take (i + 1) cuts) ≡ map (λ (x : Cut). x.line) (take i cuts) ++ c.line ∷ []
numbers_more cuts i c inside is =
    ap (map (λ (x : Cut). x.line)) (take_more cuts i c inside)
    ∙ map-append (λ (x : Cut). x.line) (take i cuts) (get_or cuts i c ∷ [])
    ∙ ap (λ (x : Cut). map (λ (y : Cut). y.line) (take i cuts) ++ x.line ∷ []) (sym is)

pub loop-line-preserved : goal.loop-line-preserved
loop-line-preserved c =
    c.in_ok-push.ensures.items
    ∙ ap (λ (n : ℕ). c.loop-line.numbers.items ++ n ∷ []) c.from.ensures
    ∙ ap (λ (ns : List ℕ). ns ++ c.line-item.result.line ∷ []) c.loop-line.invariant
    ∙ sym (numbers_more c.as_slice-line-items.result.now c.loop-line.line-index c.line-item.result c.loop-line-test.true c.line-item.is)

pub returns : goal.returns
returns c =
    let text : List ℕ = c.args.text.now in
    let cuts : List Cut = c.as_slice-line-items.result.now in
    let exact : map (line_at text) cuts ≡ placed_lines_of text = ap (map (line_at text)) c.as_slice-line-items.ensures.value ∙ c.in_ok-cuts.ensures.exact in
    c.loop-line.invariant
    ∙ ap (map (λ (x : Cut). x.line)) (take_all c.loop-line.line-index cuts (omega (arith, c.loop-line-test.false)))
    ∙ numbers_same text cuts
    ∙ ap (map (λ (l : TextLine). l.number)) (all_lines text cuts exact (c.places_are_those_of_the_words.ensures text))
