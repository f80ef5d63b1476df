-- The lemmas that crates above cite.
use Rattle.std.specs.Prelude.{List, ℕ, [], ◌++◌, Some, ◌+◌, length}
use Rattle.std.proofs.Common.{◌∙◌, sym, ap, arith, append_assoc, append-nil, refl, length-append}
use Rattle.bus_port.specs.Sink.{SinkState, Appended}
use Rattle.bus_port.specs.Fault.{RoseBy}
use Rattle.bus_port.specs.Source.{SourceState, Came}

-- ---- laws of what is appended to a sink

-- nothing was appended to a sink that nothing was done to
pub Appended-nothing : (state : SinkState) → Appended state state []
Appended-nothing state = record {
  grown = λ held told. told ∙ ap Some (sym (append-nil held));
  later = omega arith;
}

-- what was appended first, and then what was appended next
pub Appended-more : {first before after : SinkState} {some more : List ℕ} → Appended first before some
    → Appended before after more → Appended first after (some ++ more)
Appended-more {first} {before} {after} {some} {more} p q = record {
  grown = λ held told. q.grown (held ++ some) (p.grown held told) ∙ ap Some (append_assoc held some more);
  later = omega (arith, p.later, q.later);
}

-- ---- laws of what comes from a source

RoseBy-more : (first before after m n : ℕ) → RoseBy first before m → RoseBy before after n → RoseBy first after (m + n)
RoseBy-more first before after m n p q = omega arith

-- nothing came from a source that nothing was done to
pub Came-nothing : (state : SourceState) → Came state state []
Came-nothing state = record {
  next = λ left told. (left, told, refl);
  counted = omega arith;
  later = omega arith;
}

-- what came first, and then what came next
pub Came-more : {first before after : SourceState} {some more : List ℕ} → Came first before some
    → Came before after more → Came first after (some ++ more)
Came-more {first} {before} {after} {some} {more} p q = record {
  next = λ left told.
      let one = p.next left told in
      let two = q.next one.0 one.1 in
      (two.0, two.1, one.2 ∙ ap (λ rest. some ++ rest) two.2 ∙ sym (append_assoc some more two.0));
  counted = rw length-append
      (RoseBy-more first.taken before.taken after.taken (length some) (length more) p.counted q.counted);
  later = omega (arith, p.later, q.later);
}
