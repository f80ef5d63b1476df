use Rattle.std.proofs.Common.{◌≡◌, ◌+◌, ◌<◌, ℕ, List, [], ◌∷◌, ◌++◌, Bor, length, get_or, map, take, sym, ap, subst, ◌∙◌, arith}
use Rattle.std.specs.List.{concat}
use Rattle.std.proofs.lemmas.List.{take_more, map-append, append-nil}
use Rattle.std.proofs.lemmas.List.Folds.{concat-append}
use Rattle.she_cmac.specs.Took.{Took}
use Rattle.she_cmac.proofs.pieces.cmac_of_parts.Goals as goal

-- one more part
part_more : (parts : List (Bor (List ℕ))) (i : ℕ) (d : Bor (List ℕ)) → i < length parts → concat (map (λ part. part.now) (take i parts)) ++ (get_or parts i d).now ≡ concat (map (λ part. part.now) (take (i + 1) parts))
part_more parts i d within =
    let last : List ℕ = (get_or parts i d).now in
    let front : List (List ℕ) = map (λ part. part.now) (take i parts) in
    ap (λ l. concat front ++ l) (sym (append-nil last))
    ∙ sym (concat-append front (last ∷ []))
    ∙ ap concat (sym (map-append (λ part. part.now) (take i parts) (get_or parts i d ∷ [])))
    ∙ ap (λ ps. concat (map (λ part. part.now) ps)) (sym (take_more parts i d within))

pub loop-part-preserved : goal.loop-part-preserved
loop-part-preserved c =
    let parts = c.args.parts.now in
    let i = c.loop-part.part-index in
    let within : i < length parts = omega arith in
    subst (λ (m : List ℕ). Took c.args.schedule.now m c.update.new.self) (part_more parts i _ within) (c.update.ensures c.args.schedule.now (concat (map (λ part. part.now) (take i parts))) c.loop-part.invariant)
