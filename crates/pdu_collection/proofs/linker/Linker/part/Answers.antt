use Rattle.std.proofs.Common.{◌≡◌, ◌-◌, length, take, drop, arith, length-drop, List, ℕ}
use Rattle.std.proofs.lemmas.List.{length-take-le}
use Rattle.pdu_collection.proofs.linker.Linker.part.Goals as goal

pub append-requires : goal.append-requires
append-requires c =
    let frame : List ℕ = take c.in_ok-end.end c.build.new.out in
    let start = length c.args.payload.now in
    let whole : length frame ≡ c.in_ok-end.end = length-take-le c.in_ok-end.end c.build.new.out (omega (arith, c.in_ok-end.ensures.length)) in
    let behind : length (take (length frame - start) (drop start frame)) ≡ length frame - start = length-take-le (length frame - start) (drop start frame) (omega (arith, length-drop start frame)) in
    omega (arith, c.append-behind.ensures.end, whole, behind, c.in_ok-end.ensures.length, c.link_of.ensures.size, c.link_of.ensures.few, c.append-behind.auto.out)
