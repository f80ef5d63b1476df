use Rattle.std.proofs.Common.{◌≡◌, ℕ, List, Bool, true, length, sym, ◌∙◌, arith, rules, tests}
use Rattle.std.specs.Prelude.{◌==◌, ◌&&◌, ◌||◌}
use Rattle.std.specs.List.{list_all}
use Rattle.std.specs.Char.{is_ascii_hexdigit}
use Rattle.std.proofs.lemmas.Iterator.{YieldsList-from_slice}
use Rattle.std.proofs.lemmas.Iterator.Search.{all_from_yields_List}
use Rattle.can_logs.proofs.map_lines.is_can_id.Goals as goal

three : (n : ℕ) (a : Bool) → n ≡ 3 → a ≡ true → (n == 3) ≡ (a && (n == 3 || n == 8))
three n a is digits = grind arith

eight : (n : ℕ) (a : Bool) → (n ≡ 3 → ⊥) → a ≡ true → (n == 8) ≡ (a && (n == 3 || n == 8))
eight n a other digits = grind arith

pub returns-then-word-eq3-clause-exact : goal.returns-then-word-eq3-clause-exact
returns-then-word-eq3-clause-exact c =
    let word : List ℕ = c.args.word.now in
    let digits : c.all.result ≡ list_all is_ascii_hexdigit word = all_from_yields_List is_ascii_hexdigit _ _ c.all.result c.all.ensures.ran (YieldsList-from_slice word cc) (λ x b q k. search (rules, tests)) in
    three (length word) _ c.if-word-eq3.true (sym digits ∙ c.if-not-all.false)

pub returns-else-word-eq3-clause-exact : goal.returns-else-word-eq3-clause-exact
returns-else-word-eq3-clause-exact c =
    let word : List ℕ = c.args.word.now in
    let digits : c.all.result ≡ list_all is_ascii_hexdigit word = all_from_yields_List is_ascii_hexdigit _ _ c.all.result c.all.ensures.ran (YieldsList-from_slice word cc) (λ x b q k. search (rules, tests)) in
    eight (length word) _ c.if-word-eq3.false (sym digits ∙ c.if-not-all.false)
