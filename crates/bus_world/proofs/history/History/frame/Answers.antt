use Rattle.std.specs.Prelude.{◌≡◌, ◌<◌, ◌^◌, ◌==◌, None, Some, find, map}
use Rattle.std.proofs.Common.{sym, subst}
use Rattle.bus_world.specs.History.{frame_in, line_of}
use Rattle.bus_world.specs.Records.{RisesByNumber}
use Rattle.bus_world.proofs.Finding.{found_line}
use Rattle.bus_world.proofs.Searching.{frame_found, frame_nowhere}
use Rattle.bus_world.proofs.history.History.frame.Goals as goal

pub returns-in-None-clause-value : goal.returns-in-None-clause-value
returns-in-None-clause-value c =
    subst (λ s. None ≡ frame_in c.args.number s.lines) c.self.view_is
    (subst (λ xs. None ≡ frame_in c.args.number (map line_of xs)) c.as_slice-records.ensures.value
    (sym (frame_nowhere c.as_slice-records.result.now c.args.number c.in-None.ensures)))

pub returns-in-Some-clause-value : goal.returns-in-Some-clause-value
returns-in-Some-clause-value c =
    let r = c.index-records-place.result in
    subst (λ s. Some (record { id = r.id; pdu = r.pdu }) ≡ frame_in c.args.number s.lines) c.self.view_is
    (subst (λ xs. Some (record { id = r.id; pdu = r.pdu }) ≡ frame_in c.args.number (map line_of xs)) c.as_slice-records.ensures.value
    (sym (frame_found c.as_slice-records.result.now c.args.number c.in-Some.place r
    (subst RisesByNumber (sym c.as_slice-records.ensures.value) c.self.invariant.numbered) c.in-Some.ensures c.index-records-place.is)))

pub returns-in-None-clause-bounded : goal.returns-in-None-clause-bounded
returns-in-None-clause-bounded c = λ s found.
    found_line (λ s. s.number == c.args.number) (λ s. s.freshness < 2 ^ 64) c.self.inside.records.items s c.self.invariant.bounded
    (subst (λ h. find (λ s. s.number == c.args.number) h.lines ≡ Some s) (sym c.self.view_is) found)

pub returns-in-Some-clause-bounded : goal.returns-in-Some-clause-bounded
returns-in-Some-clause-bounded c = λ s found.
    found_line (λ s. s.number == c.args.number) (λ s. s.freshness < 2 ^ 64) c.self.inside.records.items s c.self.invariant.bounded
    (subst (λ h. find (λ s. s.number == c.args.number) h.lines ≡ Some s) (sym c.self.view_is) found)
