use Rattle.std.proofs.Common.{◌≡◌, ap, ◌∙◌, rules, Ok}
use Rattle.memory_update.specs.Messages.{HasSlots}
use Rattle.memory_update.proofs.CallerLemmas.{HeadOf-Carries, HasSlots-head, update_in-carried}
use Rattle.memory_update.proofs.OpeningSteps.{unsealed}
use Rattle.memory_update.proofs.requests.unseal.Goals as goal

pub returns-in_default-clause-only : goal.returns-in_default-clause-only
returns-in_default-clause-only c = λ u carried.
    let missing = c.in_default.ensures.only _ (HeadOf-Carries c.args.request.now c.args.authkey.now u carried) in
    cc missing

pub returns-clause-carried : goal.returns-clause-carried
returns-clause-carried c =
    let request = c.args.request.now in
    let same : request.m3 ≡ c.mac_of_request.result = search rules in
    let slots : HasSlots request.m1 = HasSlots-head request.m1 c.in-Some.head c.in-Some.ensures.found in
    unsealed request c.args.authkey.now c.opened-update.result c.mac_of_request.ensures.key c.mac_of_request.ensures.m1 c.mac_of_request.ensures.m2.0 c.mac_of_request.ensures.m2.1 slots (same ∙ c.mac_of_request.ensures.value) c.opened-update.ensures

pub returns-clause-only : goal.returns-clause-only
returns-clause-only c = λ u carried.
    ap Ok (c.opened-update.ensures ∙ update_in-carried c.args.request.now c.args.authkey.now u c.mac_of_request.ensures.key carried)
