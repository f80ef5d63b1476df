use Rattle.std.proofs.Common.{◌≡◌, true, refl, subst}
use Rattle.key_campaign.specs.declared.commands.Confirm.{Confirm}
use Rattle.key_campaign.specs.Campaign.{Campaign, SoundLedger}
use Rattle.key_campaign.specs.Places.{FoundEntry}
use Rattle.key_campaign.specs.State.{LedgerState}
use Rattle.key_campaign.proofs.CallLaws.{advances_found, step_confirmed, step_unconfirmed}
use Rattle.key_campaign.proofs.ledger.Ledger.confirm.Goals as goal

pub put-requires-clause-advances : goal.put-requires-clause-advances
put-requires-clause-advances g c =
    let camp : Campaign = c.args.self.now.campaign in
    let k : Confirm = record { uid = c.args.uid; id = c.args.id; auth = c.args.auth; key = c.args.key.now; reply = c.args.reply.now } in
    let up : camp.up ≡ true = subst (λ (s : LedgerState). s.campaign.up ≡ true) c.self.view_is c.if-not-self.false in
    let found = subst (λ (s : LedgerState). FoundEntry k.uid k.id s.campaign.entries c.in-Some.place c.in-Some.held) c.self.view_is c.in-Some.ensures in
    let confirms = c.if-not-is_confirmed.ensures.0 refl in
    advances_found camp k up c.in-Some.place c.in-Some.held found c.if-held.false c.of.result confirms
    (subst (λ (s : LedgerState). SoundLedger s.campaign) c.self.view_is c.self.invariant.sound)

pub returns-in-Ok-clause-step : goal.returns-in-Ok-clause-step
returns-in-Ok-clause-step g c =
    let camp : Campaign = c.args.self.now.campaign in
    let k : Confirm = record { uid = c.args.uid; id = c.args.id; auth = c.args.auth; key = c.args.key.now; reply = c.args.reply.now } in
    let up : camp.up ≡ true = subst (λ (s : LedgerState). s.campaign.up ≡ true) c.self.view_is c.if-not-self.false in
    let found = subst (λ (s : LedgerState). FoundEntry k.uid k.id s.campaign.entries c.in-Some.place c.in-Some.held) c.self.view_is c.in-Some.ensures in
    let confirms = c.if-not-is_confirmed.ensures.0 refl in
    step_confirmed camp k up c.in-Some.place c.in-Some.held found c.if-held.false c.of.result confirms c.put.new.self.campaign c.in-Ok.ensures.made

pub returns-in-Err-clause-step : goal.returns-in-Err-clause-step
returns-in-Err-clause-step g c =
    let camp : Campaign = c.args.self.now.campaign in
    let k : Confirm = record { uid = c.args.uid; id = c.args.id; auth = c.args.auth; key = c.args.key.now; reply = c.args.reply.now } in
    let up : camp.up ≡ true = subst (λ (s : LedgerState). s.campaign.up ≡ true) c.self.view_is c.if-not-self.false in
    let found = subst (λ (s : LedgerState). FoundEntry k.uid k.id s.campaign.entries c.in-Some.place c.in-Some.held) c.self.view_is c.in-Some.ensures in
    let confirms = c.if-not-is_confirmed.ensures.0 refl in
    step_unconfirmed camp k up c.in-Some.place c.in-Some.held found c.if-held.false c.of.result confirms c.put.new.self.campaign c.in-Err.ensures.failed
