-- The lists keep their lengths, and outside of the wider range nothing was written.
use Rattle.std.proofs.Common.{◌≡◌, List, ℕ, Bool, length, replicate, true, arith, sym, ap, ◌∙◌, subst}
use Rattle.std.specs.Vec.{with_items}
use Rattle.std.proofs.lemmas.List.{with_items_is, length-replicate}
use Rattle.cut_disk.specs.Images.{splice}
use Rattle.cut_disk.proofs.CallerLemmas.{length-splice}
use Rattle.cut_disk.specs.Ranges.{IsSameOutside, IsFirmOutside}
use Rattle.cut_disk.proofs.Ranges.{same_after_write, firm_after_write}
use Rattle.cut_disk.proofs.mem_disk.MemDiskDisk.write.Goals as goal

written : (c : goal.After-wider-from) → (with_items c.args.self.now.bytes c.place.new.into).items ≡ splice c.args.at c.args.bytes.now c.args.self.now.bytes.items
written c =
    with_items_is c.args.self.now.bytes c.place.new.into (omega (arith, c.place.auto.into, c.deref_mut.ensures.len))
    ∙ c.place.ensures
    ∙ ap (splice c.args.at c.args.bytes.now) c.deref_mut.ensures.value

marked : (c : goal.After-wider-from) → (with_items c.args.self.now.loose c.mark.new.loose).items ≡ splice c.args.at (replicate (length c.args.bytes.now) true) c.args.self.now.loose.items
marked c =
    with_items_is c.args.self.now.loose c.mark.new.loose (omega (arith, c.mark.auto.loose, c.deref_mut-2.ensures.len))
    ∙ c.mark.ensures
    ∙ ap (splice c.args.at (replicate (length c.args.bytes.now) true)) c.deref_mut-2.ensures.value

bytes_kept : (c : goal.After-wider-from) → length (with_items c.args.self.now.bytes c.place.new.into).items ≡ length c.args.self.now.bytes.items
bytes_kept c = ap length (written c) ∙ length-splice c.args.at c.args.bytes.now c.args.self.now.bytes.items c.requires.inside

loose_kept : (c : goal.After-wider-from) → length (with_items c.args.self.now.loose c.mark.new.loose).items ≡ length c.args.self.now.loose.items
loose_kept c =
    ap length (marked c)
    ∙ length-splice c.args.at (replicate (length c.args.bytes.now) true) c.args.self.now.loose.items
    (omega (arith, length-replicate (length c.args.bytes.now) true, c.requires.inside, c.args.self.now.as_many_loose))

pub invariant_of-self-clause-as_many_loose : goal.invariant_of-self-clause-as_many_loose
invariant_of-self-clause-as_many_loose c = loose_kept c ∙ c.args.self.now.as_many_loose ∙ sym (bytes_kept c)

pub invariant_of-self-clause-sized : goal.invariant_of-self-clause-sized
invariant_of-self-clause-sized c = omega (arith, bytes_kept c, c.args.self.now.sized)

pub invariant_of-self-clause-inside : goal.invariant_of-self-clause-inside
invariant_of-self-clause-inside c = omega (arith, bytes_kept c, c.args.self.now.inside, c.wider-from.ensures.no_more, c.requires.inside)

pub invariant_of-self-clause-synced_outside : goal.invariant_of-self-clause-synced_outside
invariant_of-self-clause-synced_outside c =
    let disk = c.args.self.now in
    let range = c.wider-from in
    subst (λ (xs : List ℕ). IsSameOutside range.result.0 range.result.1 xs disk.synced.items) (sym (written c))
    (same_after_write disk.from disk.to range.result.0 range.result.1 c.args.at c.args.bytes.now disk.bytes.items disk.synced.items
    c.requires.inside disk.in_order range.ensures.has_this range.ensures.has_that.0 range.ensures.has_that.1 disk.synced_outside)

pub invariant_of-self-clause-firm_outside : goal.invariant_of-self-clause-firm_outside
invariant_of-self-clause-firm_outside c =
    let disk = c.args.self.now in
    let range = c.wider-from in
    let count = length-replicate (length c.args.bytes.now) true in
    subst (λ (xs : List Bool). IsFirmOutside range.result.0 range.result.1 xs) (sym (marked c))
    (firm_after_write disk.from disk.to range.result.0 range.result.1 c.args.at (replicate (length c.args.bytes.now) true) disk.loose.items
    (omega (arith, count, c.requires.inside, disk.as_many_loose)) disk.in_order range.ensures.has_this range.ensures.has_that.0 (omega (arith, count, range.ensures.has_that)) disk.firm_outside)
