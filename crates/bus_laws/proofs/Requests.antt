-- The request that an update makes is one, and so is the update that is taken
use Rattle.std.specs.Prelude.{◌≡◌, ℕ, List}
use Rattle.std.proofs.Common.{sym, ◌∙◌, ap}
use Rattle.memory_update.specs.Messages.{Builds, request_mac}
use Rattle.memory_update.specs.declared.messages.Request.{Request}
use Rattle.memory_update.specs.declared.messages.Update.{Update}
use Rattle.bus_machine.specs.Node.{Node}
use Rattle.bus_machine.specs.Sound.{Sound}
use Rattle.bus_machine.specs.Steps.{TakesUpdate}
use Rattle.bus_laws.proofs.Taken.{same_taken}

pub taken_one : (node : Node) (request : Request) (u w : Update) → Sound node → TakesUpdate node request u → TakesUpdate node request w → u ≡ w
taken_one node request u w s a b = same_taken node.kept.slots _ _ request u w s.slots a.allowed b.allowed

abbrev a_request : List ℕ → List (List ℕ) → List ℕ → Request
a_request x y z = record { m1 = x; m2 = y; m3 = z }

same_request : (r s : Request) → r.m1 ≡ s.m1 → r.m2 ≡ s.m2 → r.m3 ≡ s.m3 → r ≡ s
same_request r s a b c = ap (λ x. a_request x r.m2 r.m3) a ∙ ap (λ y. a_request s.m1 y r.m3) b ∙ ap (λ z. a_request s.m1 s.m2 z) c

pub built_one : (r s : Request) (authkey : List ℕ) (u : Update) → Builds r authkey u → Builds s authkey u → r ≡ s
built_one r s authkey u a b =
    let x : r.m1 ≡ s.m1 = a.m1_is ∙ sym b.m1_is in
    let y : r.m2 ≡ s.m2 = a.m2_is ∙ sym b.m2_is in
    same_request r s x y (a.m3_is ∙ ap (λ m. request_mac authkey m r.m2) x ∙ ap (λ m. request_mac authkey s.m1 m) y ∙ sym b.m3_is)
