use Rattle.std.proofs.Common.{◌-◌, ◌++◌, ℕ, List, length, take, drop, ap, ◌∙◌, arith, take_all}
use Rattle.std.proofs.lemmas.List.{length-take, length-drop}
use Rattle.std.specs.Prelude.{codes}
use Rattle.watch_commands.proofs.Parts.{five_parts}
use Rattle.watch_commands.proofs.answers.add_accepted.Goals as goal

pub add_bytes-requires-2 : goal.add_bytes-requires-2
add_bytes-requires-2 c = omega (arith, length-take 19 c.args.said.now)

pub add_bytes-requires-3 : goal.add_bytes-requires-3
add_bytes-requires-3 c = omega (arith, length-take 19 c.args.said.now, length-take 16 (drop 20 c.args.said.now), length-drop 20 c.args.said.now)

pub add_bytes-requires-4 : goal.add_bytes-requires-4
add_bytes-requires-4 c = omega (arith, length-take 19 c.args.said.now, length-take 16 (drop 20 c.args.said.now), length-drop 20 c.args.said.now)

pub add_bytes-requires-5 : goal.add_bytes-requires-5
add_bytes-requires-5 c =
    omega (arith, length-take 19 c.args.said.now, length-take 16 (drop 20 c.args.said.now), length-drop 20 c.args.said.now, length-drop 37 c.args.said.now)

pub returns-clause-values : goal.returns-clause-values
returns-clause-values c =
    let said : List ℕ = c.args.said.now in
    five_parts c.args.text.now.items (take 19 said) (codes "\",\"freshness\":\"") (take 16 (drop 20 said)) (codes "\",\"payload\":\"") (drop 37 said)
    _ _ _ _ _ c.add_bytes.ensures.bytes c.add_bytes-2.ensures.bytes c.add_bytes-3.ensures.bytes c.add_bytes-4.ensures.bytes
    (c.add_bytes-5.ensures.bytes ∙ ap (λ (x : List ℕ). c.add_bytes-4.new.text.items ++ x) (take_all (length said - 37) (drop 37 said) (omega (arith, length-drop 37 said))))
