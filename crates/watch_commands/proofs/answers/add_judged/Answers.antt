use Rattle.std.proofs.Common.{◌≡◌, ◌+◌, ◌-◌, ◌++◌, Bool, true, false, List, ℕ, length, take, drop, refl, ap, ◌∙◌, append_assoc}
use Rattle.std.specs.Prelude.{◌&&◌, not}
use Rattle.std.specs.Fmt.{decimal}
use Rattle.watch_commands.specs.Answers.{front_object, said_object}
use Rattle.watch_commands.specs.Stamps.{LineStamp, lead_text}
use Rattle.watch_commands.proofs.Objects.{said_long, told_full, told_object}
use Rattle.watch_commands.proofs.answers.add_judged.Goals as goal
use Rattle.watch_commands.proofs.answers.add_judged.Goals.{else-accepted-via-then-accepted+else-options, else-accepted-via-else-accepted}

is_true_of : (b : Bool) → not b ≡ false → b ≡ true
is_true_of true h = refl
is_true_of false h = cc

pub add_said-requires-clause-accepted : goal.add_said-requires-clause-accepted
add_said-requires-clause-accepted c = λ is_true.
    let digits_are : c.as_bytes-digits.result.now ≡ decimal c.args.number = c.as_bytes-digits.ensures.value ∙ c.format.ensures.text in
    said_long c.args.number c.args.head.now c.args.accepted c.args.answer.now c.requires.answers.0 c.as_bytes-digits.result.now c.requires.answers.1 digits_are is_true

pub returns-clause-told : goal.returns-clause-told
returns-clause-told c = λ finding is.
    let digits : List ℕ = c.as_bytes-digits.result.now in
    let digits_are : digits ≡ decimal c.args.number = c.as_bytes-digits.ensures.value ∙ c.format.ensures.text in
    let head : List ℕ = c.args.head.now in
    let answer : List ℕ = c.args.answer.now in
    let old : List ℕ = c.args.text.now.items in
    let quiet : Bool = c.args.options.quiet in
    let json : Bool = c.args.options.json in
    let stamp : LineStamp = c.args.stamp.now in
    let lead : List ℕ = lead_text c.args.options stamp in
    let told : (c.args.accepted && quiet) ≡ false =
    elim c.else-accepted.branch [
      | else-accepted-via-then-accepted+else-options w ↦ ap (λ (b : Bool). b && quiet) w.if-accepted.true ∙ w.if-options.false
      | else-accepted-via-else-accepted w ↦ ap (λ (b : Bool). b && quiet) w.if-accepted.false
    ] in
    let said : List ℕ = take (length answer - 1 - (length digits + length head + 2)) (drop (length digits + length head + 2) answer) in
    c.add_said.ensures.said
    ∙ ap (λ (t : List ℕ). t ++ said_object c.args.accepted said) (c.add_front.ensures.front ∙ ap (λ (t : List ℕ). t ++ front_object digits head) c.add_lead.ensures.lead)
    ∙ append_assoc (old ++ lead) (front_object digits head) (said_object c.args.accepted said)
    ∙ append_assoc old lead (front_object digits head ++ said_object c.args.accepted said)
    ∙ ap (λ (t : List ℕ). old ++ (lead ++ t)) (told_object json c.args.number head c.args.accepted answer finding digits is digits_are (is_true_of json c.if-not-options.false))
    ∙ ap (λ (t : List ℕ). old ++ t) (told_full c.args.options stamp c.args.number head c.args.accepted answer finding is told)
