-- The law of disks, for the contents of a disk in memory. It is proved here and not beside the other proofs because an
-- `impl` takes the proof of a law out of specs/ alone.
use Rattle.std.proofs.Common.{◌≡◌, ◌^◌, ◌<◌, ◌≤◌, Bool, true, false, List, length, Some, None, arith, refl, sym, ap}
use Rattle.std.proofs.Common.{◌∙◌}
use Rattle.std.specs.Prelude.{nat_lt, ◌&&◌}
use Rattle.std.proofs.lemmas.Bool.{false≢true, ltb-true}
use Rattle.basics.specs.FaultCount.{last_count}
use Rattle.cut_disk.specs.Arming.{is_unarmed}
use Rattle.cut_disk.specs.State.{Entry}
use Rattle.cut_disk.specs.Calls.{IsDisk}
use Rattle.cut_disk.specs.Memory.{Contents, is_calm, disk_of}

both_hold : (p q : Bool) → p && q ≡ true → (p ≡ true) × (q ≡ true)
both_hold true q h = (refl, h)
both_hold false q h = absurd (false≢true h)

calm_is_below : (c : Contents) → is_calm c.arms c.faults ≡ true → c.faults < last_count
calm_is_below c calm = ltb-true c.faults last_count (both_hold (is_unarmed c.arms) (nat_lt c.faults last_count) calm).1

no_past : {A : Type 0} {all : List Entry} → None ≡ Some all → A
no_past is = absurd (cc)

pub contents_are_a_disk : (c : Contents) → length c.loose ≡ length c.bytes → length c.bytes ≤ 2 ^ 24
    → c.faults ≤ last_count → IsDisk (disk_of c)
contents_are_a_disk c marked small counted = record {
  sized = omega arith;
  counted = counted;
  quiet = λ q. record { quiet = q; below = calm_is_below c q };
  bytes_sized = λ t is. let same : c.bytes ≡ t.bytes = cc in ap length (sym same);
  loose_sized = λ t is. let same : c.loose ≡ t.loose = cc in ap length (sym same) ∙ marked;
  now = λ all is. no_past is;
}
