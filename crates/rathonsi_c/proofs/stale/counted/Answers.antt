use Rattle.std.proofs.Common.{◌≡◌, take, sym, ◌∙◌, arith}
use Rattle.cell_store.specs.declared.kinds.Version.TheVariants.{One}
use Rattle.cell_store.specs.Layout.{twin_layout, header}
use Rattle.cell_store.proofs.CallerLemmas.{header-number}
use Rattle.rathonsi_c.proofs.stale.counted.Goals as goal

pub returns-else-room-count : goal.returns-else-room-count
returns-else-room-count c = λ place.
    let count = c.in-Some.count in
    let few = c.in-Some.ensures.0 in
    let head : take 32 c.args.image.now ≡ header (twin_layout One) count = sym c.copy_from_slice.ensures.after ∙ c.in-Some.ensures.1 in (
      λ b. record { count = count; few = few; head = head; below = b; room = (let t = c.if-room-count.false in omega arith) },
      λ k.
          let same = header-number (twin_layout One) (twin_layout One) k.count count (let m = k.few.most in omega arith) (let m = few.most in omega arith) (sym k.head ∙ head) in
          let b = k.below in
          omega arith,
    )
