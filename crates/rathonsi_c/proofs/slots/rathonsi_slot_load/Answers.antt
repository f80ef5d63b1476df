use Rattle.std.proofs.Common.{◌≡◌, ◌+◌, ◌≤◌, ℕ, List, length, refl, sym, ap, subst, ◌∙◌}
use Rattle.std.proofs.lemmas.Option.{none-some}
use Rattle.cell_store.specs.Twin.{twin_size, cell_at}
use Rattle.memory_update.specs.Messages.{HasSlots, HeadOf, id_of}
use Rattle.memory_update.proofs.CallerLemmas.{HeadOf-Carries, HasSlots-Carries, id_of-head}
use Rattle.memory_update.specs.declared.messages.Request.{Request}
use Rattle.rathonsi_c.proofs.slots.rathonsi_slot_load.Goals as goal

-- the slot that is updated was read, so its cell is there
pub returns-in-Err-plan_put-clause-answer : goal.returns-in-Err-plan_put-clause-answer
returns-in-Err-plan_put-clause-answer c =
    let image = c.args.image.now in
    let m1 = c.args.request.now.m1 in
    let u = c.in-Ok.update in
    let carried = c.in-Ok.ensures.1 in
    let same : c.read_request.result.m1 ≡ m1 = ap (λ (q : Request). q.m1) c.read_request.ensures in
    let named : HasSlots m1 = subst (λ (m : List ℕ). HasSlots m) same (HasSlots-Carries _ _ u carried) in
    let head = subst (λ (m : List ℕ). HeadOf m (record { uid = u.uid; id = u.id; auth = u.auth })) same (HeadOf-Carries _ _ u carried) in
    let held = c.in-Some.ensures.target named in
    let place : c.from.result ≡ id_of m1 = c.from.ensures ∙ c.number.ensures.value ∙ sym (id_of-head m1 _ head) in
    let none = c.in-Err-plan_put.ensures.none refl (subst (λ p. twin_size (p + 1) ≤ length image) (sym place) held.room) in
    absurd (none-some held.bytes (sym (subst (λ p. cell_at image p ≡ _) place none) ∙ held.is))
