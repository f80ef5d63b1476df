use Rattle.std.proofs.Common.{◌≡◌, List, length, sym, subst}
use Rattle.std.specs.Prelude.{Option}
use Rattle.key_campaign.specs.declared.entries.LedgerEntry.{LedgerEntry}
use Rattle.key_campaign.specs.Entries.{empty_place}
use Rattle.key_campaign.proofs.EntryPlaces.{none_of}
use Rattle.key_campaign.proofs.Founds.{none_empty}
use Rattle.key_campaign.proofs.places.Places.next.Goals as goal

pub returns-in-None-empty_in-clause-none : goal.returns-in-None-empty_in-clause-none
returns-in-None-empty_in-clause-none c = record {
  unknown = none_of c.args.uid.now c.args.id c.args.self.now c.in-None.ensures;
  full = subst (λ (l : List (Option LedgerEntry)). empty_place l ≡ length l) c.self.view_is (none_empty c.self.inside.places (sym c.in-None-empty_in.ensures));
}
