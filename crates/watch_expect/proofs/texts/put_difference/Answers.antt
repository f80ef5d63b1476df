use Rattle.std.proofs.Common.{◌≡◌, [], ◌∷◌, ◌++◌, ◌-◌, List, ℕ, length, ap, ◌∙◌, take, drop, take_all, arith}
use Rattle.std.proofs.lemmas.List.{length-drop}
use Rattle.std.specs.Prelude.{codes}
use Rattle.std.specs.Fmt.{decimal}
use Rattle.watch_expect.specs.Comparing.{line_number, told_line}
use Rattle.watch_expect.proofs.texts.put_difference.Goals as goal

pub returns : goal.returns
returns c =
    let text : List ℕ = c.args.text.now in
    let n : ℕ = c.args.place in
    let rest_is : take (length text - n) (drop n text) ≡ drop n text = take_all (length text - n) (drop n text) (omega (arith, length-drop n text)) in
    let digits_are : c.as_bytes.result.now ≡ decimal (line_number text n) = c.as_bytes.ensures.value ∙ c.format.ensures.text ∙ ap decimal c.line_at-number.ensures in
    c.add_told-2.ensures.told
    ∙ ap (λ (x : List ℕ). x ++ told_line (codes "+ ") (take n text) c.args.came.now)
    (c.add_told.ensures.told
    ∙ ap (λ (b : List ℕ). c.add_bytes-3.new.text.items ++ told_line (codes "- ") (take n text) b) rest_is
    ∙ ap (λ (x : List ℕ). x ++ told_line (codes "- ") (take n text) (drop n text))
    (c.add_bytes-3.ensures.bytes
    ∙ ap (λ (x : List ℕ). x ++ 10 ∷ [])
    (c.add_bytes-2.ensures.bytes
    ∙ ap (λ (x : List ℕ). x ++ c.as_bytes.result.now) (c.add_bytes.ensures.bytes ∙ ap (λ (x : List ℕ). x ++ codes "expect: line ") c.clear.ensures.items)
    ∙ ap (λ (d : List ℕ). codes "expect: line " ++ d) digits_are)))
