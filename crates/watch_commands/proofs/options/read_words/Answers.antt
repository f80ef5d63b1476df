use Rattle.std.proofs.Common.{◌≡◌, ℕ, ◌<◌, List, [], get_or, length, map, sym, ap, ◌∙◌, arith}
use Rattle.std.specs.Prelude.{string_bytes}
use Rattle.std.proofs.lemmas.List.{get_or-map, length-map}
use Rattle.watch_commands.proofs.Reading.{no_words_left, takes_option, takes_input, takes_no_value, at_no_input}
use Rattle.watch_commands.proofs.options.read_words.Goals as goal

pub returns-in-Input-clause-asked : goal.returns-in-Input-clause-asked
returns-in-Input-clause-asked c =
    let words : List (List ℕ) = map string_bytes c.args.words.now in
    let inside : c.loop-place.place < length c.args.words.now = omega (arith, c.loop-place-test.true) in
    let word_is : get_or words c.loop-place.place [] ≡ c.as_str.result.now =
    get_or-map string_bytes c.args.words.now c.loop-place.place c.index-words-place.result [] inside
    ∙ ap string_bytes (sym c.index-words-place.is) ∙ sym c.as_str.ensures.value in
    sym c.loop-place.invariant
    ∙ takes_input words c.loop-place.place c.as_str.result.now (omega (arith, inside, length-map c.args.words.now string_bytes)) word_is
    c.loop-place.asked c.take.new.self c.take.result c.take.ensures c.in-Input.is

pub returns-in-NoValue-clause-asked : goal.returns-in-NoValue-clause-asked
returns-in-NoValue-clause-asked c =
    let words : List (List ℕ) = map string_bytes c.args.words.now in
    let inside : c.loop-place.place < length c.args.words.now = omega (arith, c.loop-place-test.true) in
    let word_is : get_or words c.loop-place.place [] ≡ c.as_str.result.now =
    get_or-map string_bytes c.args.words.now c.loop-place.place c.index-words-place.result [] inside
    ∙ ap string_bytes (sym c.index-words-place.is) ∙ sym c.as_str.ensures.value in
    sym c.loop-place.invariant
    ∙ takes_no_value words c.loop-place.place c.as_str.result.now (omega (arith, inside, length-map c.args.words.now string_bytes)) word_is
    c.loop-place.asked c.take.new.self c.take.result c.take.ensures c.in-NoValue.is
    ∙ at_no_input c.take.new.self words (length c.args.words.now) (omega (arith, length-map c.args.words.now string_bytes))

pub loop-place-preserved : goal.loop-place-preserved
loop-place-preserved c =
    let words : List (List ℕ) = map string_bytes c.args.words.now in
    let inside : c.loop-place.place < length c.args.words.now = omega (arith, c.loop-place-test.true) in
    let word_is : get_or words c.loop-place.place [] ≡ c.as_str.result.now =
    get_or-map string_bytes c.args.words.now c.loop-place.place c.index-words-place.result [] inside
    ∙ ap string_bytes (sym c.index-words-place.is) ∙ sym c.as_str.ensures.value in
    sym (takes_option words c.loop-place.place c.as_str.result.now (omega (arith, inside, length-map c.args.words.now string_bytes)) word_is
    c.loop-place.asked c.take.new.self c.take.result c.take.ensures c.in-Option.is)
    ∙ c.loop-place.invariant

pub returns-clause-asked : goal.returns-clause-asked
returns-clause-asked c =
    let words : List (List ℕ) = map string_bytes c.args.words.now in
    let size : ℕ = length c.args.words.now in
    let whole : c.loop-place.place ≡ size = omega (arith, c.loop-place-test.false, c.loop-place.auto.place-end) in
    sym c.loop-place.invariant
    ∙ no_words_left c.loop-place.asked words c.loop-place.place (omega (arith, whole, length-map c.args.words.now string_bytes))
    ∙ at_no_input c.loop-place.asked words size (omega (arith, length-map c.args.words.now string_bytes))
