use Rattle.std.proofs.Common.{◌≡◌, ℕ, ◌<◌, get_or, false}
use Rattle.std.specs.Prelude.{None}
use Rattle.key_campaign.specs.Entries.{is_of}
use Rattle.key_campaign.proofs.places.find_in.Given as goal

abbrev pub invariant-loop-place : goal.invariant-loop-place
invariant-loop-place l = (k : ℕ) → k < l.place → is_of l.uid l.id (get_or l.places k None) ≡ false
