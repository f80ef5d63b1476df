use Rattle.std.proofs.Common.{◌≡◌, true, subst}
use Rattle.std.specs.Prelude.{Ok, Err}
use Rattle.key_campaign.specs.declared.adoption.Adoption.TheVariants as adoption
use Rattle.key_campaign.specs.declared.faults.LedgerFault.TheVariants as fault
use Rattle.key_campaign.specs.Adopting.{TakesAdopted, AnswersUnput}
use Rattle.key_campaign.specs.Campaign.{Campaign}
use Rattle.key_campaign.specs.State.{LedgerState}
use Rattle.key_campaign.proofs.Adoptions.{advances_adopted, step_unput, step_raised, step_unraised, adopt_down, adopt_full}
use Rattle.key_campaign.proofs.ledger.Ledger.adopt.Goals as goal

pub put-requires-clause-advances : goal.put-requires-clause-advances
put-requires-clause-advances g c =
    let up = subst (λ (s : LedgerState). s.campaign.up ≡ true) c.self.view_is c.if-not-self.false in
    let takes = subst (λ (s : LedgerState). TakesAdopted s.campaign.entries c.args.entry.now c.in-Ok.place) c.self.view_is c.in-Ok.ensures.place in
    advances_adopted c.args.self.now.campaign c.args.entry.now up c.in-Ok.place takes c.requires

pub returns-in-Err-clause-step : goal.returns-in-Err-clause-step
returns-in-Err-clause-step g c =
    let up = subst (λ (s : LedgerState). s.campaign.up ≡ true) c.self.view_is c.if-not-self.false in
    let why = subst (λ (s : LedgerState). AnswersUnput s.campaign.entries c.args.entry.now c.in-Err.answer) c.self.view_is c.in-Err.ensures.answer in
    step_unput c.args.self.now.campaign c.args.entry.now up c.in-Err.answer why

pub returns-in-Err-clause-down : goal.returns-in-Err-clause-down
returns-in-Err-clause-down g c =
    let camp : Campaign = c.args.self.now.campaign in
    let up = subst (λ (s : LedgerState). s.campaign.up ≡ true) c.self.view_is c.if-not-self.false in
    let why = subst (λ (s : LedgerState). AnswersUnput s.campaign.entries c.args.entry.now c.in-Err.answer) c.self.view_is c.in-Err.ensures.answer in
    adopt_down camp c.args.entry.now c.in-Err.answer camp (step_unput camp c.args.entry.now up c.in-Err.answer why)

pub returns-in-Err-clause-full : goal.returns-in-Err-clause-full
returns-in-Err-clause-full g c =
    let camp : Campaign = c.args.self.now.campaign in
    let up = subst (λ (s : LedgerState). s.campaign.up ≡ true) c.self.view_is c.if-not-self.false in
    let why = subst (λ (s : LedgerState). AnswersUnput s.campaign.entries c.args.entry.now c.in-Err.answer) c.self.view_is c.in-Err.ensures.answer in
    adopt_full camp c.args.entry.now c.in-Err.answer camp (step_unput camp c.args.entry.now up c.in-Err.answer why)

pub returns-in-Ok-put-clause-step : goal.returns-in-Ok-put-clause-step
returns-in-Ok-put-clause-step g c =
    let up = subst (λ (s : LedgerState). s.campaign.up ≡ true) c.self.view_is c.if-not-self.false in
    let takes = subst (λ (s : LedgerState). TakesAdopted s.campaign.entries c.args.entry.now c.in-Ok.place) c.self.view_is c.in-Ok.ensures.place in
    step_raised c.args.self.now.campaign c.args.entry.now up c.in-Ok.place takes c.put.new.self.campaign c.in-Ok-put.ensures.made

pub returns-in-Ok-put-clause-full : goal.returns-in-Ok-put-clause-full
returns-in-Ok-put-clause-full g c =
    let camp : Campaign = c.args.self.now.campaign in
    let up = subst (λ (s : LedgerState). s.campaign.up ≡ true) c.self.view_is c.if-not-self.false in
    let takes = subst (λ (s : LedgerState). TakesAdopted s.campaign.entries c.args.entry.now c.in-Ok.place) c.self.view_is c.in-Ok.ensures.place in
    adopt_full camp c.args.entry.now (Ok adoption.Raised) c.put.new.self.campaign
    (step_raised camp c.args.entry.now up c.in-Ok.place takes c.put.new.self.campaign c.in-Ok-put.ensures.made)

pub returns-in-Ok-put-clause-down : goal.returns-in-Ok-put-clause-down
returns-in-Ok-put-clause-down g c =
    let camp : Campaign = c.args.self.now.campaign in
    let up = subst (λ (s : LedgerState). s.campaign.up ≡ true) c.self.view_is c.if-not-self.false in
    let takes = subst (λ (s : LedgerState). TakesAdopted s.campaign.entries c.args.entry.now c.in-Ok.place) c.self.view_is c.in-Ok.ensures.place in
    adopt_down camp c.args.entry.now (Ok adoption.Raised) c.put.new.self.campaign
    (step_raised camp c.args.entry.now up c.in-Ok.place takes c.put.new.self.campaign c.in-Ok-put.ensures.made)

pub returns-in-Err-put-clause-step : goal.returns-in-Err-put-clause-step
returns-in-Err-put-clause-step g c =
    let up = subst (λ (s : LedgerState). s.campaign.up ≡ true) c.self.view_is c.if-not-self.false in
    let takes = subst (λ (s : LedgerState). TakesAdopted s.campaign.entries c.args.entry.now c.in-Ok.place) c.self.view_is c.in-Ok.ensures.place in
    step_unraised c.args.self.now.campaign c.args.entry.now up c.in-Ok.place takes c.put.new.self.campaign c.in-Err-put.ensures.failed

pub returns-in-Err-put-clause-full : goal.returns-in-Err-put-clause-full
returns-in-Err-put-clause-full g c =
    let camp : Campaign = c.args.self.now.campaign in
    let up = subst (λ (s : LedgerState). s.campaign.up ≡ true) c.self.view_is c.if-not-self.false in
    let takes = subst (λ (s : LedgerState). TakesAdopted s.campaign.entries c.args.entry.now c.in-Ok.place) c.self.view_is c.in-Ok.ensures.place in
    adopt_full camp c.args.entry.now (Err fault.Faulted) c.put.new.self.campaign
    (step_unraised camp c.args.entry.now up c.in-Ok.place takes c.put.new.self.campaign c.in-Err-put.ensures.failed)

pub returns-in-Err-put-clause-down : goal.returns-in-Err-put-clause-down
returns-in-Err-put-clause-down g c =
    let camp : Campaign = c.args.self.now.campaign in
    let up = subst (λ (s : LedgerState). s.campaign.up ≡ true) c.self.view_is c.if-not-self.false in
    let takes = subst (λ (s : LedgerState). TakesAdopted s.campaign.entries c.args.entry.now c.in-Ok.place) c.self.view_is c.in-Ok.ensures.place in
    adopt_down camp c.args.entry.now (Err fault.Faulted) c.put.new.self.campaign
    (step_unraised camp c.args.entry.now up c.in-Ok.place takes c.put.new.self.campaign c.in-Err-put.ensures.failed)
