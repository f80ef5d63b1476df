use Rattle.std.proofs.Common.{◌≡◌, length, sym, ap, ◌∙◌, take, rules}
use Rattle.std.proofs.lemmas.Bool.{false≢true}
use Rattle.std.proofs.lemmas.Slice.Eq.{bytes_eq-Decides}
use Rattle.she_cmac.specs.Cmac.{cmac}
use Rattle.secured_pdu.specs.Frame.{authenticated_input}
use Rattle.secured_pdu.proofs.VerdictLaws.{accepted_parts, failed_parts}
use Rattle.secured_pdu.proofs.verdict.judge.Goals as goal

pub returns-then-eq : goal.returns-then-eq
returns-then-eq c =
    let parts = c.args.parts.now in
    let tag_length : length parts.tag ≡ 3 = search rules in
    let tag_is = c.tag_of-tag.ensures ∙ ap (take 3) c.input_mac.ensures in
    let same = (bytes_eq-Decides c.tag_of-tag.result parts.tag).0 (sym c.eq.ensures ∙ c.if-eq.true) in
    accepted_parts c.args.schedule.now c.args.id c.args.counter c.args.window parts.payload.now parts.low parts.tag c.in-Some.freshness c.requires.payload tag_length c.in-Some.ensures.ahead (sym same ∙ tag_is)

pub returns-else-eq : goal.returns-else-eq
returns-else-eq c =
    let parts = c.args.parts.now in
    let tag_length : length parts.tag ≡ 3 = search rules in
    let tag_is = c.tag_of-tag.ensures ∙ ap (take 3) c.input_mac.ensures in
    let differs : ¬ (parts.tag ≡ take 3 (cmac c.args.schedule.now (authenticated_input c.args.id parts.payload.now c.in-Some.freshness))) = λ e.
    false≢true (sym c.if-eq.false ∙ c.eq.ensures ∙ (bytes_eq-Decides c.tag_of-tag.result parts.tag).1 (tag_is ∙ sym e)) in
    failed_parts c.args.schedule.now c.args.id c.args.counter c.args.window parts.payload.now parts.low parts.tag c.in-Some.freshness tag_length c.in-Some.ensures.ahead differs
