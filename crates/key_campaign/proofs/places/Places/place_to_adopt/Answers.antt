use Rattle.std.proofs.Common.{◌≡◌, List, length, sym, subst}
use Rattle.std.specs.Prelude.{Option}
use Rattle.key_campaign.specs.declared.entries.LedgerEntry.{LedgerEntry}
use Rattle.key_campaign.specs.Entries.{empty_place}
use Rattle.key_campaign.proofs.EntryPlaces.{none_of}
use Rattle.key_campaign.proofs.Founds.{none_empty}
use Rattle.key_campaign.proofs.places.Places.place_to_adopt.Goals as goal

pub returns-in-None-empty_in-clause-answer : goal.returns-in-None-empty_in-clause-answer
returns-in-None-empty_in-clause-answer c = record {
  unknown = none_of c.args.entry.now.uid c.args.entry.now.id c.args.self.now c.in-None.ensures;
  full = subst (λ (l : List (Option LedgerEntry)). empty_place l ≡ length l) c.self.view_is (none_empty c.self.inside.places (sym c.in-None-empty_in.ensures));
}
