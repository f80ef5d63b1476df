use Rattle.std.specs.Prelude.{◌≡◌, ◌+◌, ◌<◌, true, length}
use Rattle.std.proofs.Common.{arith, refl, sym, subst}
use Rattle.std.specs.Vec.{vec_capacity}
use Rattle.bus_world.specs.Records.{IsLatest, LinkedAt, IsAbove}
use Rattle.bus_world.proofs.Keeping.{well_kept_more}
use Rattle.bus_world.proofs.history.History.put.Goals as goal

pub invariant_of-self : goal.invariant_of-self
invariant_of-self c =
    let records = c.self.inside.records.items in
    let last = c.index-last.result.now in
    let same = c.as_slice-records.ensures.value in
    rw c.in-Ok.ensures.items (rw same
    (well_kept_more c.self.inside.events c.self.inside.most (vec_capacity c.self.inside.records) (vec_capacity c.push.new.self) records c.self.inside.latest.items c.self.inside.rising c.still_rises-rising.result last
    (record { number = c.self.inside.events + 1; id = c.args.id; freshness = c.args.freshness; pdu = c.args.pdu.now; links = c.links_after.result })
    c.self.invariant (subst (λ s. s.events < s.most) (sym c.self.view_is) c.requires) (omega (arith, c.push.ensures.capacity, c.self.invariant.reserved)) refl (omega arith) (omega arith)
    (subst (λ o. IsLatest records c.args.id (length records) o) (sym c.index-last.ensures) (c.self.invariant.heads c.args.id last (omega arith)))
    (subst (λ xs. LinkedAt xs (length xs) c.args.id c.links_after.result) same c.links_after.ensures)
    (subst (λ xs. c.still_rises-rising.result ≡ true → (c.self.inside.rising ≡ true) × IsAbove xs c.args.freshness last) same c.still_rises-rising.ensures)))
