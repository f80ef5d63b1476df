use Rattle.std.proofs.Common.{◌≡◌, List, ℕ, ◌++◌, take, codes, sym, ap, ◌∙◌, arith}
use Rattle.std.proofs.lemmas.List.{take_all}
use Rattle.std.specs.Int.{w16, w32, w64}
use Rattle.basics.specs.Numbers.{bytes_of}
use Rattle.basics.proofs.CallerLemmas.{to_be_bytes-is}
use Rattle.rathonsi_c.specs.Nonces.{nonce_input}
use Rattle.rathonsi_c.proofs.nonces.nonce_input.Goals as goal

abbrev label : List ℕ
label = codes "RATHONSI NONCE OF THIS UNIT: A COUNT THAT IS DURABLE BEFORE IT IS."

-- the array has 80 bytes, and all of them are written
pub returns : goal.returns
unfolding nonce_input
returns c =
    let label_is : take c.append-after_label.result c.append-after_label.new.out ≡ label = c.append-after_label.ensures.front in
    let id_is = c.append-after_id.ensures.front ∙ ap (λ (l : List ℕ). l ++ c.to_be_bytes.result) label_is ∙ ap (λ (l : List ℕ). label ++ l) (c.to_be_bytes.ensures ∙ to_be_bytes-is w16 c.args.id) in
    let asker_is = c.append-after_asker.ensures.front ∙ ap (λ (l : List ℕ). l ++ c.to_be_bytes-2.result) id_is
    ∙ ap (λ (l : List ℕ). label ++ bytes_of 2 c.args.id ++ l) (c.to_be_bytes-2.ensures ∙ to_be_bytes-is w32 c.args.asker) in
    let all_is = c.append.ensures.front ∙ ap (λ (l : List ℕ). l ++ c.to_be_bytes-3.result) asker_is
    ∙ ap (λ (l : List ℕ). label ++ bytes_of 2 c.args.id ++ bytes_of 4 c.args.asker ++ l) (c.to_be_bytes-3.ensures ∙ to_be_bytes-is w64 c.args.count) in
    sym (take_all c.append.result c.append.new.out (omega arith)) ∙ all_is
