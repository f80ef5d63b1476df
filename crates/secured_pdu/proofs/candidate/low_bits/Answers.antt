use Rattle.std.proofs.Common.{◌≡◌, ◌-◌, arith}
use Rattle.secured_pdu.proofs.Candidates.{shifted}
use Rattle.secured_pdu.proofs.candidate.low_bits.Goals as goal

pub returns : goal.returns
returns c =
    let rest : c.from-rest.result ≡ 64 - c.args.bits = c.from-rest.ensures in
    let most = c.requires.most in
    shifted c.args.value c.args.bits c.from-rest.result (omega arith)
