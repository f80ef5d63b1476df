use Rattle.std.proofs.Common.{◌≡◌, ℕ, Bool, true, false, length, sym, ◌∙◌, arith, rules, tests}
use Rattle.std.specs.Prelude.{◌==◌, ◌&&◌, ◌||◌, nat_lt}
use Rattle.std.specs.List.{list_all}
use Rattle.std.specs.Char.{is_ascii_digit}
use Rattle.std.proofs.lemmas.Iterator.{YieldsList-from_slice}
use Rattle.std.proofs.lemmas.Iterator.Search.{all_from_yields_List}
use Rattle.text_lines.proofs.forms.is_number.Goals as goal

-- a word of more than one digit is a number if its first digit isn't 0
number_test : (n : ℕ) (a b : Bool) → (n == 0) ≡ false → a ≡ true → (n ≡ 1 → ⊥) → b ≡ (nat_lt 0 n && a && (n == 1 || b))
number_test n a b some digits more = grind arith

pub returns-else-word-eq1 : goal.returns-else-word-eq1
returns-else-word-eq1 c =
    let word = c.args.word.now in
    let digits : c.all.result ≡ list_all is_ascii_digit word = all_from_yields_List is_ascii_digit _ _ c.all.result c.all.ensures.ran (YieldsList-from_slice word cc) (λ x b q k. search (rules, tests)) in
    number_test (length word) _ _ (sym c.is_empty.ensures ∙ c.if-is_empty.false) (sym digits ∙ c.if-not-all.false) c.if-word-eq1.false
