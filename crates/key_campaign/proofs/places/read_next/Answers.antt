use Rattle.std.proofs.Common.{◌≡◌, ◌<◌, ◌+◌, List, ℕ, set, take, refl, sym, ap, subst, ◌∙◌, arith, true≢false}
use Rattle.std.specs.Prelude.{Option, None, Some, IsTrue, false}
use Rattle.key_campaign.specs.declared.entries.LedgerEntry.{LedgerEntry}
use Rattle.key_campaign.specs.Entries.{place_count, place_for}
use Rattle.key_campaign.specs.Cell.{HoldsPlace}
use Rattle.key_campaign.specs.Places.{ReadSoFar}
use Rattle.key_campaign.proofs.PlacesSoFar.{empty_read, entry_read, bad_read, repeated_read}
use Rattle.key_campaign.proofs.places.read_next.Goals as goal

pub get-requires : goal.get-requires
unfolding place_count
get-requires g c = omega (arith, c.requires.inside, c.requires.count)

pub returns-in-Some-None-clause-read : goal.returns-in-Some-None-clause-read
returns-in-Some-None-clause-read g c = λ _.
    let holds = subst (λ (p : Option LedgerEntry). HoldsPlace c.get.new.out p) c.in-Some-None.field-0-is c.in-Some-None.ensures in
    empty_read (g.C.Cells.state c.args.cells.now).cells c.args.places.now c.args.place c.requires.count c.requires.inside c.requires.so_far
    (subst (λ (cell : List ℕ). HoldsPlace cell None) c.get.ensures holds)

pub returns-else-repeats-clause-read : goal.returns-else-repeats-clause-read
returns-else-repeats-clause-read g c = λ _.
    let cells = (g.C.Cells.state c.args.cells.now).cells in
    let e : LedgerEntry = c.in-Some-Some.entry in
    let n : ℕ = c.args.place in
    let places : List (Option LedgerEntry) = c.args.places.now in
    let holds = subst (λ (p : Option LedgerEntry). HoldsPlace c.get.new.out p) c.in-Some-Some.field-0-is c.in-Some-Some.ensures in
    let set_is : set places n (Some e) ≡ c.set.new.self = sym (c.set.ensures ∙ ap (λ k. set places k (Some e)) c.from-in-Some-Some.ensures) in
    subst (λ (l : List (Option LedgerEntry)). ReadSoFar cells (n + 1) l) set_is
    (entry_read cells places n e c.requires.count c.requires.inside c.requires.so_far (subst (λ (cell : List ℕ). HoldsPlace cell (Some e)) c.get.ensures holds)
    (λ lt. let t : IsTrue false = c.if-repeats.ensures.1 (subst (λ k. place_for e.uid e.id (take k places) < k) (sym c.from.ensures) lt) in true≢false (sym t)))

pub returns-in-None-clause-bad : goal.returns-in-None-clause-bad
returns-in-None-clause-bad g c = λ _.
    bad_read (g.C.Cells.state c.args.cells.now).cells c.args.places.now c.args.place c.requires.count c.requires.inside c.requires.so_far
    (λ place holds. c.in-None.ensures place (subst (λ (cell : List ℕ). HoldsPlace cell place) (sym c.get.ensures) holds))

pub returns-then-repeats-clause-bad : goal.returns-then-repeats-clause-bad
returns-then-repeats-clause-bad g c = λ _.
    let e : LedgerEntry = c.in-Some-Some.entry in
    let places : List (Option LedgerEntry) = c.args.places.now in
    let holds = subst (λ (p : Option LedgerEntry). HoldsPlace c.get.new.out p) c.in-Some-Some.field-0-is c.in-Some-Some.ensures in
    let found = subst (λ k. place_for e.uid e.id (take k places) < k) c.from.ensures (c.if-repeats.ensures.0 refl) in
    repeated_read (g.C.Cells.state c.args.cells.now).cells places c.args.place e c.requires.count c.requires.inside c.requires.so_far
    (subst (λ (cell : List ℕ). HoldsPlace cell (Some e)) c.get.ensures holds) found
