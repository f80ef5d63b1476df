use Rattle.std.proofs.Common.{[], ◌∷◌, ◌++◌, List, ℕ, take, ap, ◌∙◌, append_assoc}
use Rattle.watch_expect.specs.Comparing.{last_line, first_line}
use Rattle.watch_expect.proofs.texts.add_told.Goals as goal

pub returns-clause-told : goal.returns-clause-told
returns-clause-told c =
    let begun : List ℕ = c.args.line.now.items in
    let mark : List ℕ = c.args.mark.now in
    let before : List ℕ = take 4096 (last_line c.args.before.now) in
    let behind : List ℕ = take 4096 (first_line c.args.behind.now) in
    c.add_bytes-4.ensures.bytes
    ∙ ap (λ (x : List ℕ). x ++ 10 ∷ [])
    (c.add_bytes-3.ensures.bytes ∙ ap (λ (x : List ℕ). c.add_bytes-2.new.text.items ++ x) (c.first_bytes-2.ensures.bytes ∙ ap (take 4096) c.first_line.ensures)
    ∙ ap (λ (x : List ℕ). x ++ behind)
    (c.add_bytes-2.ensures.bytes ∙ ap (λ (x : List ℕ). c.add_bytes.new.text.items ++ x) (c.first_bytes.ensures.bytes ∙ ap (take 4096) c.last_line.ensures)
    ∙ ap (λ (x : List ℕ). x ++ before) c.add_bytes.ensures.bytes ∙ append_assoc begun mark before)
    ∙ append_assoc begun (mark ++ before) behind)
    ∙ append_assoc begun ((mark ++ before) ++ behind) (10 ∷ [])
