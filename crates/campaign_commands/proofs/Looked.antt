-- What a look at the first disk finds
use Rattle.std.proofs.Common.{◌≡◌, ◌<◌, ◌≤◌, List, [], ◌∷◌, length, get_or, map, refl, sym, subst, arith}
use Rattle.std.specs.Prelude.{Result, Ok, Err, MatchResult}
use Rattle.program_edge.specs.Rows.{Row, row_of}
use Rattle.cut_disk.specs.State.{DiskState}
use Rattle.campaign_commands.specs.Opening.{ledger_size}
use Rattle.campaign_commands.specs.Rows.{too_few_text, too_small_text}
use Rattle.campaign_commands.specs.Steps.{HasDisk, LacksDisk, no_disk, small_disk}

module _ {D : Type 0} (state : D → DiskState) where
  pub none_looked : (disks : List D) (row : Row) → length disks < 1 → row ≡ row_of 9 too_few_text → LacksDisk (map state disks) row
  none_looked [] row none is = subst (LacksDisk []) (sym is) (no_disk refl)
  none_looked (x ∷ xs) row none is = absurd (let no : ⊥ = omega (arith, none) in no)

  pub first_looked : (disks : List D) (x : D) (result : Result (Unit {0}) Row) → 1 ≤ length disks → x ≡ get_or disks 0 x
      → MatchResult result (λ _. ledger_size ≤ (state x).size) (λ row. ((state x).size < ledger_size) × (row ≡ row_of 9 too_small_text))
      → MatchResult result (λ _. HasDisk (map state disks)) (LacksDisk (map state disks))
  first_looked [] x result some is looked = absurd (let no : ⊥ = omega (arith, some) in no)
  first_looked (y ∷ ys) x (Ok all) some is looked =
      record { first = state y; rest = map state ys; are = refl; room = subst (λ (z : D). ledger_size ≤ (state z).size) is looked }
  first_looked (y ∷ ys) x (Err row) some is looked =
      subst (LacksDisk (state y ∷ map state ys)) (sym looked.1)
      (small_disk (state y) (map state ys) refl (subst (λ (z : D). (state z).size < ledger_size) is looked.0))
