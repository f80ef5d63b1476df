use Rattle.std.proofs.Common.{◌≡◌, ℕ, true, false, refl, sym, subst}
use Rattle.std.specs.Prelude.{Result, Ok, Err}
use Rattle.key_slots.specs.Authority.{is_pair}
use Rattle.key_slots.proofs.CallerLemmas.{answer_is_pair}
use Rattle.memory_update.specs.declared.messages.Request.{Request}
use Rattle.key_campaign.specs.declared.commands.Issue.{Issue}
use Rattle.key_campaign.specs.Campaign.{Campaign, SoundLedger}
use Rattle.key_campaign.specs.declared.faults.LedgerFault.{LedgerFault}
use Rattle.key_campaign.specs.declared.faults.LedgerFault.TheVariants as fault
use Rattle.key_campaign.specs.Places.{IsNext, HasNoNext}
use Rattle.key_campaign.specs.State.{LedgerState}
use Rattle.key_campaign.proofs.CallLaws.{advances_next, step_issued, step_unissued, step_no_next}
use Rattle.key_campaign.proofs.Refusals.{issue_down, issue_bad_pair, issue_full, issue_spent}
use Rattle.key_campaign.proofs.ledger.Ledger.issue.Goals as goal

pub put-requires-clause-advances : goal.put-requires-clause-advances
put-requires-clause-advances g c =
    let camp : Campaign = c.args.self.now.campaign in
    let i : Issue = record { uid = c.args.uid; id = c.args.id; auth = c.args.auth; flags = c.args.flags; key = c.args.key.now; authkey = c.args.authkey.now } in
    let up : camp.up ≡ true = subst (λ (s : LedgerState). s.campaign.up ≡ true) c.self.view_is c.if-not-self.false in
    let pair : is_pair i.id i.auth ≡ true = sym (answer_is_pair true i.id i.auth c.if-not-may_authorise.ensures) in
    let next = subst (λ (s : LedgerState). IsNext i.uid i.id s.campaign.entries c.in-Ok.next.0 c.in-Ok.next.1) c.self.view_is c.in-Ok.ensures.next in
    advances_next camp i c.requires up pair c.in-Ok.next.0 c.in-Ok.next.1 next (subst (λ (s : LedgerState). SoundLedger s.campaign) c.self.view_is c.self.invariant.sound)

pub returns-then-not-may_authorise-clause-step : goal.returns-then-not-may_authorise-clause-step
returns-then-not-may_authorise-clause-step g c =
    let camp : Campaign = c.args.self.now.campaign in
    let i : Issue = record { uid = c.args.uid; id = c.args.id; auth = c.args.auth; flags = c.args.flags; key = c.args.key.now; authkey = c.args.authkey.now } in
    let up : camp.up ≡ true = subst (λ (s : LedgerState). s.campaign.up ≡ true) c.self.view_is c.if-not-self.false in
    let pair : is_pair i.id i.auth ≡ false = sym (answer_is_pair false i.id i.auth c.if-not-may_authorise.ensures) in
    ((up, pair), refl)

pub returns-then-not-may_authorise-clause-bad_pair : goal.returns-then-not-may_authorise-clause-bad_pair
returns-then-not-may_authorise-clause-bad_pair g c =
    let camp : Campaign = c.args.self.now.campaign in
    let i : Issue = record { uid = c.args.uid; id = c.args.id; auth = c.args.auth; flags = c.args.flags; key = c.args.key.now; authkey = c.args.authkey.now } in
    let up : camp.up ≡ true = subst (λ (s : LedgerState). s.campaign.up ≡ true) c.self.view_is c.if-not-self.false in
    let pair : is_pair i.id i.auth ≡ false = sym (answer_is_pair false i.id i.auth c.if-not-may_authorise.ensures) in
    let r : Result (ℕ × Request) LedgerFault = Err fault.BadPair in
    issue_bad_pair camp i camp r ((up, pair), refl)

pub returns-then-not-may_authorise-clause-full : goal.returns-then-not-may_authorise-clause-full
returns-then-not-may_authorise-clause-full g c =
    let camp : Campaign = c.args.self.now.campaign in
    let i : Issue = record { uid = c.args.uid; id = c.args.id; auth = c.args.auth; flags = c.args.flags; key = c.args.key.now; authkey = c.args.authkey.now } in
    let up : camp.up ≡ true = subst (λ (s : LedgerState). s.campaign.up ≡ true) c.self.view_is c.if-not-self.false in
    let pair : is_pair i.id i.auth ≡ false = sym (answer_is_pair false i.id i.auth c.if-not-may_authorise.ensures) in
    let r : Result (ℕ × Request) LedgerFault = Err fault.BadPair in
    issue_full camp i camp r ((up, pair), refl)

pub returns-then-not-may_authorise-clause-spent : goal.returns-then-not-may_authorise-clause-spent
returns-then-not-may_authorise-clause-spent g c =
    let camp : Campaign = c.args.self.now.campaign in
    let i : Issue = record { uid = c.args.uid; id = c.args.id; auth = c.args.auth; flags = c.args.flags; key = c.args.key.now; authkey = c.args.authkey.now } in
    let up : camp.up ≡ true = subst (λ (s : LedgerState). s.campaign.up ≡ true) c.self.view_is c.if-not-self.false in
    let pair : is_pair i.id i.auth ≡ false = sym (answer_is_pair false i.id i.auth c.if-not-may_authorise.ensures) in
    let r : Result (ℕ × Request) LedgerFault = Err fault.BadPair in
    issue_spent camp i camp r ((up, pair), refl)

pub returns-in-Err-clause-step : goal.returns-in-Err-clause-step
returns-in-Err-clause-step g c =
    let camp : Campaign = c.args.self.now.campaign in
    let i : Issue = record { uid = c.args.uid; id = c.args.id; auth = c.args.auth; flags = c.args.flags; key = c.args.key.now; authkey = c.args.authkey.now } in
    let up : camp.up ≡ true = subst (λ (s : LedgerState). s.campaign.up ≡ true) c.self.view_is c.if-not-self.false in
    let pair : is_pair i.id i.auth ≡ true = sym (answer_is_pair true i.id i.auth c.if-not-may_authorise.ensures) in
    let none = subst (λ (s : LedgerState). HasNoNext i.uid i.id s.campaign.entries c.in-Err.fault) c.self.view_is c.in-Err.ensures.none in
    (step_no_next camp i c.in-Err.fault up pair none)

pub returns-in-Err-clause-down : goal.returns-in-Err-clause-down
returns-in-Err-clause-down g c =
    let camp : Campaign = c.args.self.now.campaign in
    let i : Issue = record { uid = c.args.uid; id = c.args.id; auth = c.args.auth; flags = c.args.flags; key = c.args.key.now; authkey = c.args.authkey.now } in
    let up : camp.up ≡ true = subst (λ (s : LedgerState). s.campaign.up ≡ true) c.self.view_is c.if-not-self.false in
    let pair : is_pair i.id i.auth ≡ true = sym (answer_is_pair true i.id i.auth c.if-not-may_authorise.ensures) in
    let none = subst (λ (s : LedgerState). HasNoNext i.uid i.id s.campaign.entries c.in-Err.fault) c.self.view_is c.in-Err.ensures.none in
    let r : Result (ℕ × Request) LedgerFault = Err c.in-Err.fault in
    issue_down camp i camp r (step_no_next camp i c.in-Err.fault up pair none)

pub returns-in-Err-clause-bad_pair : goal.returns-in-Err-clause-bad_pair
returns-in-Err-clause-bad_pair g c =
    let camp : Campaign = c.args.self.now.campaign in
    let i : Issue = record { uid = c.args.uid; id = c.args.id; auth = c.args.auth; flags = c.args.flags; key = c.args.key.now; authkey = c.args.authkey.now } in
    let up : camp.up ≡ true = subst (λ (s : LedgerState). s.campaign.up ≡ true) c.self.view_is c.if-not-self.false in
    let pair : is_pair i.id i.auth ≡ true = sym (answer_is_pair true i.id i.auth c.if-not-may_authorise.ensures) in
    let none = subst (λ (s : LedgerState). HasNoNext i.uid i.id s.campaign.entries c.in-Err.fault) c.self.view_is c.in-Err.ensures.none in
    let r : Result (ℕ × Request) LedgerFault = Err c.in-Err.fault in
    issue_bad_pair camp i camp r (step_no_next camp i c.in-Err.fault up pair none)

pub returns-in-Err-clause-full : goal.returns-in-Err-clause-full
returns-in-Err-clause-full g c =
    let camp : Campaign = c.args.self.now.campaign in
    let i : Issue = record { uid = c.args.uid; id = c.args.id; auth = c.args.auth; flags = c.args.flags; key = c.args.key.now; authkey = c.args.authkey.now } in
    let up : camp.up ≡ true = subst (λ (s : LedgerState). s.campaign.up ≡ true) c.self.view_is c.if-not-self.false in
    let pair : is_pair i.id i.auth ≡ true = sym (answer_is_pair true i.id i.auth c.if-not-may_authorise.ensures) in
    let none = subst (λ (s : LedgerState). HasNoNext i.uid i.id s.campaign.entries c.in-Err.fault) c.self.view_is c.in-Err.ensures.none in
    let r : Result (ℕ × Request) LedgerFault = Err c.in-Err.fault in
    issue_full camp i camp r (step_no_next camp i c.in-Err.fault up pair none)

pub returns-in-Err-clause-spent : goal.returns-in-Err-clause-spent
returns-in-Err-clause-spent g c =
    let camp : Campaign = c.args.self.now.campaign in
    let i : Issue = record { uid = c.args.uid; id = c.args.id; auth = c.args.auth; flags = c.args.flags; key = c.args.key.now; authkey = c.args.authkey.now } in
    let up : camp.up ≡ true = subst (λ (s : LedgerState). s.campaign.up ≡ true) c.self.view_is c.if-not-self.false in
    let pair : is_pair i.id i.auth ≡ true = sym (answer_is_pair true i.id i.auth c.if-not-may_authorise.ensures) in
    let none = subst (λ (s : LedgerState). HasNoNext i.uid i.id s.campaign.entries c.in-Err.fault) c.self.view_is c.in-Err.ensures.none in
    let r : Result (ℕ × Request) LedgerFault = Err c.in-Err.fault in
    issue_spent camp i camp r (step_no_next camp i c.in-Err.fault up pair none)

pub returns-in-Err-put-clause-step : goal.returns-in-Err-put-clause-step
returns-in-Err-put-clause-step g c =
    let camp : Campaign = c.args.self.now.campaign in
    let i : Issue = record { uid = c.args.uid; id = c.args.id; auth = c.args.auth; flags = c.args.flags; key = c.args.key.now; authkey = c.args.authkey.now } in
    let up : camp.up ≡ true = subst (λ (s : LedgerState). s.campaign.up ≡ true) c.self.view_is c.if-not-self.false in
    let pair : is_pair i.id i.auth ≡ true = sym (answer_is_pair true i.id i.auth c.if-not-may_authorise.ensures) in
    let next = subst (λ (s : LedgerState). IsNext i.uid i.id s.campaign.entries c.in-Ok.next.0 c.in-Ok.next.1) c.self.view_is c.in-Ok.ensures.next in
    (step_unissued camp i c.requires up pair c.in-Ok.next.0 c.in-Ok.next.1 next c.put.new.self.campaign c.in-Err-put.ensures.failed)

pub returns-in-Err-put-clause-down : goal.returns-in-Err-put-clause-down
returns-in-Err-put-clause-down g c =
    let camp : Campaign = c.args.self.now.campaign in
    let i : Issue = record { uid = c.args.uid; id = c.args.id; auth = c.args.auth; flags = c.args.flags; key = c.args.key.now; authkey = c.args.authkey.now } in
    let up : camp.up ≡ true = subst (λ (s : LedgerState). s.campaign.up ≡ true) c.self.view_is c.if-not-self.false in
    let pair : is_pair i.id i.auth ≡ true = sym (answer_is_pair true i.id i.auth c.if-not-may_authorise.ensures) in
    let next = subst (λ (s : LedgerState). IsNext i.uid i.id s.campaign.entries c.in-Ok.next.0 c.in-Ok.next.1) c.self.view_is c.in-Ok.ensures.next in
    let r : Result (ℕ × Request) LedgerFault = Err fault.Faulted in
    issue_down camp i c.put.new.self.campaign r (step_unissued camp i c.requires up pair c.in-Ok.next.0 c.in-Ok.next.1 next c.put.new.self.campaign c.in-Err-put.ensures.failed)

pub returns-in-Err-put-clause-bad_pair : goal.returns-in-Err-put-clause-bad_pair
returns-in-Err-put-clause-bad_pair g c =
    let camp : Campaign = c.args.self.now.campaign in
    let i : Issue = record { uid = c.args.uid; id = c.args.id; auth = c.args.auth; flags = c.args.flags; key = c.args.key.now; authkey = c.args.authkey.now } in
    let up : camp.up ≡ true = subst (λ (s : LedgerState). s.campaign.up ≡ true) c.self.view_is c.if-not-self.false in
    let pair : is_pair i.id i.auth ≡ true = sym (answer_is_pair true i.id i.auth c.if-not-may_authorise.ensures) in
    let next = subst (λ (s : LedgerState). IsNext i.uid i.id s.campaign.entries c.in-Ok.next.0 c.in-Ok.next.1) c.self.view_is c.in-Ok.ensures.next in
    let r : Result (ℕ × Request) LedgerFault = Err fault.Faulted in
    issue_bad_pair camp i c.put.new.self.campaign r (step_unissued camp i c.requires up pair c.in-Ok.next.0 c.in-Ok.next.1 next c.put.new.self.campaign c.in-Err-put.ensures.failed)

pub returns-in-Err-put-clause-full : goal.returns-in-Err-put-clause-full
returns-in-Err-put-clause-full g c =
    let camp : Campaign = c.args.self.now.campaign in
    let i : Issue = record { uid = c.args.uid; id = c.args.id; auth = c.args.auth; flags = c.args.flags; key = c.args.key.now; authkey = c.args.authkey.now } in
    let up : camp.up ≡ true = subst (λ (s : LedgerState). s.campaign.up ≡ true) c.self.view_is c.if-not-self.false in
    let pair : is_pair i.id i.auth ≡ true = sym (answer_is_pair true i.id i.auth c.if-not-may_authorise.ensures) in
    let next = subst (λ (s : LedgerState). IsNext i.uid i.id s.campaign.entries c.in-Ok.next.0 c.in-Ok.next.1) c.self.view_is c.in-Ok.ensures.next in
    let r : Result (ℕ × Request) LedgerFault = Err fault.Faulted in
    issue_full camp i c.put.new.self.campaign r (step_unissued camp i c.requires up pair c.in-Ok.next.0 c.in-Ok.next.1 next c.put.new.self.campaign c.in-Err-put.ensures.failed)

pub returns-in-Err-put-clause-spent : goal.returns-in-Err-put-clause-spent
returns-in-Err-put-clause-spent g c =
    let camp : Campaign = c.args.self.now.campaign in
    let i : Issue = record { uid = c.args.uid; id = c.args.id; auth = c.args.auth; flags = c.args.flags; key = c.args.key.now; authkey = c.args.authkey.now } in
    let up : camp.up ≡ true = subst (λ (s : LedgerState). s.campaign.up ≡ true) c.self.view_is c.if-not-self.false in
    let pair : is_pair i.id i.auth ≡ true = sym (answer_is_pair true i.id i.auth c.if-not-may_authorise.ensures) in
    let next = subst (λ (s : LedgerState). IsNext i.uid i.id s.campaign.entries c.in-Ok.next.0 c.in-Ok.next.1) c.self.view_is c.in-Ok.ensures.next in
    let r : Result (ℕ × Request) LedgerFault = Err fault.Faulted in
    issue_spent camp i c.put.new.self.campaign r (step_unissued camp i c.requires up pair c.in-Ok.next.0 c.in-Ok.next.1 next c.put.new.self.campaign c.in-Err-put.ensures.failed)

pub returns-in-Ok-put-clause-step : goal.returns-in-Ok-put-clause-step
returns-in-Ok-put-clause-step g c =
    let camp : Campaign = c.args.self.now.campaign in
    let i : Issue = record { uid = c.args.uid; id = c.args.id; auth = c.args.auth; flags = c.args.flags; key = c.args.key.now; authkey = c.args.authkey.now } in
    let up : camp.up ≡ true = subst (λ (s : LedgerState). s.campaign.up ≡ true) c.self.view_is c.if-not-self.false in
    let pair : is_pair i.id i.auth ≡ true = sym (answer_is_pair true i.id i.auth c.if-not-may_authorise.ensures) in
    let next = subst (λ (s : LedgerState). IsNext i.uid i.id s.campaign.entries c.in-Ok.next.0 c.in-Ok.next.1) c.self.view_is c.in-Ok.ensures.next in
    (step_issued camp i c.requires up pair c.in-Ok.next.0 c.in-Ok.next.1 next c.build.result c.put.new.self.campaign c.build.ensures c.in-Ok-put.ensures.made)

pub returns-in-Ok-put-clause-down : goal.returns-in-Ok-put-clause-down
returns-in-Ok-put-clause-down g c =
    let camp : Campaign = c.args.self.now.campaign in
    let i : Issue = record { uid = c.args.uid; id = c.args.id; auth = c.args.auth; flags = c.args.flags; key = c.args.key.now; authkey = c.args.authkey.now } in
    let up : camp.up ≡ true = subst (λ (s : LedgerState). s.campaign.up ≡ true) c.self.view_is c.if-not-self.false in
    let pair : is_pair i.id i.auth ≡ true = sym (answer_is_pair true i.id i.auth c.if-not-may_authorise.ensures) in
    let next = subst (λ (s : LedgerState). IsNext i.uid i.id s.campaign.entries c.in-Ok.next.0 c.in-Ok.next.1) c.self.view_is c.in-Ok.ensures.next in
    let r : Result (ℕ × Request) LedgerFault = Ok (c.in-Ok.next.1, c.build.result) in
    issue_down camp i c.put.new.self.campaign r (step_issued camp i c.requires up pair c.in-Ok.next.0 c.in-Ok.next.1 next c.build.result c.put.new.self.campaign c.build.ensures c.in-Ok-put.ensures.made)

pub returns-in-Ok-put-clause-bad_pair : goal.returns-in-Ok-put-clause-bad_pair
returns-in-Ok-put-clause-bad_pair g c =
    let camp : Campaign = c.args.self.now.campaign in
    let i : Issue = record { uid = c.args.uid; id = c.args.id; auth = c.args.auth; flags = c.args.flags; key = c.args.key.now; authkey = c.args.authkey.now } in
    let up : camp.up ≡ true = subst (λ (s : LedgerState). s.campaign.up ≡ true) c.self.view_is c.if-not-self.false in
    let pair : is_pair i.id i.auth ≡ true = sym (answer_is_pair true i.id i.auth c.if-not-may_authorise.ensures) in
    let next = subst (λ (s : LedgerState). IsNext i.uid i.id s.campaign.entries c.in-Ok.next.0 c.in-Ok.next.1) c.self.view_is c.in-Ok.ensures.next in
    let r : Result (ℕ × Request) LedgerFault = Ok (c.in-Ok.next.1, c.build.result) in
    issue_bad_pair camp i c.put.new.self.campaign r (step_issued camp i c.requires up pair c.in-Ok.next.0 c.in-Ok.next.1 next c.build.result c.put.new.self.campaign c.build.ensures c.in-Ok-put.ensures.made)

pub returns-in-Ok-put-clause-full : goal.returns-in-Ok-put-clause-full
returns-in-Ok-put-clause-full g c =
    let camp : Campaign = c.args.self.now.campaign in
    let i : Issue = record { uid = c.args.uid; id = c.args.id; auth = c.args.auth; flags = c.args.flags; key = c.args.key.now; authkey = c.args.authkey.now } in
    let up : camp.up ≡ true = subst (λ (s : LedgerState). s.campaign.up ≡ true) c.self.view_is c.if-not-self.false in
    let pair : is_pair i.id i.auth ≡ true = sym (answer_is_pair true i.id i.auth c.if-not-may_authorise.ensures) in
    let next = subst (λ (s : LedgerState). IsNext i.uid i.id s.campaign.entries c.in-Ok.next.0 c.in-Ok.next.1) c.self.view_is c.in-Ok.ensures.next in
    let r : Result (ℕ × Request) LedgerFault = Ok (c.in-Ok.next.1, c.build.result) in
    issue_full camp i c.put.new.self.campaign r (step_issued camp i c.requires up pair c.in-Ok.next.0 c.in-Ok.next.1 next c.build.result c.put.new.self.campaign c.build.ensures c.in-Ok-put.ensures.made)

pub returns-in-Ok-put-clause-spent : goal.returns-in-Ok-put-clause-spent
returns-in-Ok-put-clause-spent g c =
    let camp : Campaign = c.args.self.now.campaign in
    let i : Issue = record { uid = c.args.uid; id = c.args.id; auth = c.args.auth; flags = c.args.flags; key = c.args.key.now; authkey = c.args.authkey.now } in
    let up : camp.up ≡ true = subst (λ (s : LedgerState). s.campaign.up ≡ true) c.self.view_is c.if-not-self.false in
    let pair : is_pair i.id i.auth ≡ true = sym (answer_is_pair true i.id i.auth c.if-not-may_authorise.ensures) in
    let next = subst (λ (s : LedgerState). IsNext i.uid i.id s.campaign.entries c.in-Ok.next.0 c.in-Ok.next.1) c.self.view_is c.in-Ok.ensures.next in
    let r : Result (ℕ × Request) LedgerFault = Ok (c.in-Ok.next.1, c.build.result) in
    issue_spent camp i c.put.new.self.campaign r (step_issued camp i c.requires up pair c.in-Ok.next.0 c.in-Ok.next.1 next c.build.result c.put.new.self.campaign c.build.ensures c.in-Ok-put.ensures.made)
