use Rattle.std.proofs.Common.{◌≡◌, ◌-◌, ◌++◌, length, drop, replicate, refl, sym, ap, ◌∙◌, arith}
use Rattle.std.proofs.lemmas.List.{take-append-drop, drop-replicate}
use Rattle.secured_pdu.specs.Frame.{authenticated_input}
use Rattle.rathonsi_c.proofs.steps.input_of.Goals as goal

pub returns : goal.returns
returns c =
    let out = c.input_bytes-size.new.out in
    let n = c.input_bytes-size.result in
    let payload = c.args.payload.now in
    let left : 70 - n ≡ 60 - length payload = (let l = c.input_bytes-size.ensures.length in omega arith) in
    record {
      freshness_is = refl;
      size_is = c.input_bytes-size.ensures.length;
      bytes_are = sym (take-append-drop n out) ∙ ap (λ front. front ++ drop n out) c.input_bytes-size.ensures.front
          ∙ ap (λ rest. authenticated_input c.args.id payload c.args.freshness ++ rest) (c.input_bytes-size.ensures.rest ∙ drop-replicate n 70 0 ∙ ap (λ k. replicate k 0) left);
    }
