use Rattle.std.proofs.Common.{ap, ◌∙◌, rules}
use Rattle.secured_pdu.specs.Frame.{secured_frame, assembled, IsPayload}
use Rattle.secured_pdu.proofs.frame.build.Goals as goal

pub returns-clause-secured : goal.returns-clause-secured
unfolding secured_frame
returns-clause-secured c =
    let size : IsPayload c.args.payload.now = search rules in
    record {
      is_payload = size;
      frame_is = c.assemble.ensures.front ∙ ap (assembled c.args.payload.now c.args.freshness) c.input_mac-mac.ensures;
    }
