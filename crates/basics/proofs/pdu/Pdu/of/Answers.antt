use Rattle.basics.proofs.Padding.{padded}
use Rattle.basics.proofs.pdu.Pdu.of.Goals as goal

pub invariant_of-result : goal.invariant_of-result
invariant_of-result c = padded c.copy_from_slice.new.self c.args.bytes.now c.copy_from_slice.ensures.after
