use Rattle.std.proofs.Common.{◌≡◌, ◌-◌, length, take, drop, sym, ap, ◌∙◌, arith, length-drop, take_all}
use Rattle.std.proofs.lemmas.Slice.Eq.{bytes_eq-Decides}
use Rattle.pdu_collection.specs.Collection.{link_of}
use Rattle.pdu_collection.specs.Joined.{JoinerState}
use Rattle.pdu_collection.proofs.joiner.Joiner.links.Goals as goal

pub returns : goal.returns
returns c =
    let pdu = c.args.pdu.now in
    let whole : take (length pdu - 4) (drop 4 pdu) ≡ drop 4 pdu = take_all (length pdu - 4) (drop 4 pdu) (omega (arith, length-drop 4 pdu)) in
    let value : c.link_of.result.now ≡ link_of c.args.self.now.place c.args.payload.now =
    c.link_of.ensures.value ∙ ap (λ (s : JoinerState). link_of s.place c.args.payload.now) c.self.view_is in
    let same = bytes_eq-Decides c.link_of.result.now (take (length pdu - 4) (drop 4 pdu)) in
    (λ t. sym value ∙ same.0 (sym c.eq.ensures ∙ t) ∙ whole, λ e. c.eq.ensures ∙ same.1 (value ∙ e ∙ sym whole))
