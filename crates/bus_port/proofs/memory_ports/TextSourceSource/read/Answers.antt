use Rattle.std.proofs.Common.{length, drop, refl, sym, ap, arith, Some}
use Rattle.std.proofs.lemmas.List.{drop-drop}
use Rattle.bus_port.proofs.MemoryLemmas.{HandsOut-from_left}
use Rattle.bus_port.proofs.memory_ports.TextSourceSource.read.Goals as goal

pub returns-clause-reads : goal.returns-clause-reads
returns-clause-reads c =
    let bytes = c.self.inside.text.now in
    let n = c.hand_out-count.result in
    rw (← c.self.view_is)
    (HandsOut-from_left _ _ c.args.out.now c.hand_out-count.new.out (drop c.self.inside.done bytes) (length c.args.out.now) n
    refl (ap Some (sym (drop-drop n c.self.inside.done bytes))) refl refl (omega arith) (λ room. omega arith)
    c.hand_out-count.ensures.count c.hand_out-count.ensures.front c.hand_out-count.ensures.beyond)
