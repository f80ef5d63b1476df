use Rattle.std.proofs.Common.{◌≡◌, List, ℕ, [], ◌∷◌, ◌++◌, take, sym, ap, ◌∙◌, arith}
use Rattle.std.proofs.lemmas.List.{take_all}
use Rattle.std.specs.Int.{w16, w32, w64}
use Rattle.basics.specs.Numbers.{bytes_of}
use Rattle.basics.proofs.CallerLemmas.{to_be_bytes-is}
use Rattle.counter_answers.specs.Answering.{answer_input}
use Rattle.counter_answers.proofs.AnsweringLaws.{label}
use Rattle.counter_answers.proofs.answering.answer_input.Goals as goal

-- the array has 88 bytes, and all of them are written
pub returns : goal.returns
unfolding answer_input
returns c =
    let q = c.args.question.now in
    let label_is : take c.append-after_label.result c.append-after_label.new.out ≡ label = c.append-after_label.ensures.front in
    let id_is = c.append-after_id.ensures.front ∙ ap (λ (l : List ℕ). l ++ c.to_be_bytes.result) label_is ∙ ap (λ (l : List ℕ). label ++ l) (c.to_be_bytes.ensures ∙ to_be_bytes-is w16 q.id) in
    let way_is = c.append-after_direction.ensures.front ∙ ap (λ (l : List ℕ). l ++ (q.direction ∷ [])) id_is in
    let asker_is = c.append-after_asker.ensures.front ∙ ap (λ (l : List ℕ). l ++ c.to_be_bytes-2.result) way_is
    ∙ ap (λ (l : List ℕ). label ++ bytes_of 2 q.id ++ (q.direction ∷ []) ++ l) (c.to_be_bytes-2.ensures ∙ to_be_bytes-is w32 q.asker) in
    let answerer_is = c.append-after_answerer.ensures.front ∙ ap (λ (l : List ℕ). l ++ c.to_be_bytes-3.result) asker_is
    ∙ ap (λ (l : List ℕ). label ++ bytes_of 2 q.id ++ (q.direction ∷ []) ++ bytes_of 4 q.asker ++ l) (c.to_be_bytes-3.ensures ∙ to_be_bytes-is w32 q.answerer) in
    let nonce_is = c.append-after_nonce.ensures.front ∙ ap (λ (l : List ℕ). l ++ q.nonce) answerer_is in
    let all_is = c.append.ensures.front ∙ ap (λ (l : List ℕ). l ++ c.to_be_bytes-4.result) nonce_is
    ∙ ap (λ (l : List ℕ). label ++ bytes_of 2 q.id ++ (q.direction ∷ []) ++ bytes_of 4 q.asker ++ bytes_of 4 q.answerer ++ q.nonce ++ l) (c.to_be_bytes-4.ensures ∙ to_be_bytes-is w64 c.args.counter) in
    sym (take_all c.append.result c.append.new.out (omega arith)) ∙ all_is
