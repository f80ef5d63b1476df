use Rattle.std.proofs.Common.{◌≡◌, ◌+◌, ◌-◌, ◌==◌, [], ◌∷◌, ◌++◌, List, ℕ, length, take, drop, sym, ap, ◌∙◌, arith, append_assoc, take_all}
use Rattle.std.specs.Prelude.{Option, None, Some, position}
use Rattle.std.proofs.lemmas.List.{length-drop}
use Rattle.std.specs.Int.{w64}
use Rattle.basics.specs.Numbers.{bytes_of}
use Rattle.basics.proofs.CallerLemmas.{to_be_bytes-is}
use Rattle.hex.specs.Hex.{encode_lower}
use Rattle.text_lines.specs.Texts.{line}
use Rattle.locate_commands.specs.Locating.{put_fresh}
use Rattle.locate_commands.proofs.filling.push_filled.Goals as goal

-- three parts that were added to a text one after the other, and a line feed
three_parts : (o a b d t1 t2 t3 : List ℕ) → t1 ≡ o ++ a → t2 ≡ t1 ++ b → t3 ≡ t2 ++ line d → t3 ≡ o ++ line ((a ++ b) ++ d)
three_parts o a b d t1 t2 t3 p q r =
    r
    ∙ ap (λ (x : List ℕ). x ++ line d) (q ∙ ap (λ (x : List ℕ). x ++ b) p ∙ append_assoc o a b)
    ∙ append_assoc o (a ++ b) (line d)
    ∙ ap (λ (x : List ℕ). o ++ x) (sym (append_assoc (a ++ b) d (10 ∷ [])))

-- with the FRESH put at the place that was found
pub returns-in_ok-push_line-in-Some : goal.returns-in_ok-push_line-in-Some
returns-in_ok-push_line-in-Some c =
    let own : List ℕ = c.args.own.now in
    let place : ℕ = c.in-Some.place in
    let counter : ℕ = c.args.counter in
    let text : List ℕ = c.args.text.now.items in
    let digits : List ℕ = encode_lower (bytes_of 8 counter) in
    let behind : take (length own - (place + 1)) (drop (place + 1) own) ≡ drop (place + 1) own =
    take_all (length own - (place + 1)) (drop (place + 1) own) (omega (arith, length-drop (place + 1) own)) in
    let found : position (λ b. b == 63) own ≡ Some place = sym c.place_of_question.ensures.exact ∙ c.in-Some.is in
    three_parts text (take place own) digits (drop (place + 1) own) _ _ _
    c.in_ok-extend_from_slice-in-Some.ensures.items
    (c.in_ok-push_digits-in-Some.ensures.digits ∙ ap (λ (x : List ℕ). c.extend_from_slice.new.self.items ++ encode_lower x) (c.to_be_bytes.ensures ∙ to_be_bytes-is w64 counter))
    (c.in_ok-push_line-in-Some.ensures ∙ ap (λ (x : List ℕ). c.push_digits.new.text.items ++ line x) behind)
    ∙ ap (λ (at : Option ℕ). text ++ line (put_fresh counter own at)) (sym found)

-- there is no place for it
pub returns-in_ok-push_line-in-None : goal.returns-in_ok-push_line-in-None
returns-in_ok-push_line-in-None c =
    let found : position (λ b. b == 63) c.args.own.now ≡ None = sym c.place_of_question.ensures.exact ∙ c.in-None.is in
    c.in_ok-push_line-in-None.ensures ∙ ap (λ (at : Option ℕ). c.args.text.now.items ++ line (put_fresh c.args.counter c.args.own.now at)) (sym found)
