use Rattle.std.proofs.Common.{◌≡◌, ℕ, List, ◌%◌, sym, arith}
use Rattle.std.specs.Prelude.{slice_index}
use Rattle.explain_commands.specs.declared.trials.KnownReceiver.{KnownReceiver}
use Rattle.locate_commands.specs.Locating.{fit_first}
use Rattle.locate_commands.proofs.Fitting.{no_room, fails_room, fails_low, apart, found_none, least_found}
use Rattle.locate_commands.proofs.searching.locate_first.Goals as goal

pub returns-then-first-receiver : goal.returns-then-first-receiver
returns-then-first-receiver c =
    let r : KnownReceiver = c.args.receiver.now in
    let first : List ℕ = c.args.first.now in
    sym (found_none (fit_first r first c.args.rest.now) c.args.from c.args.last
    (λ w from to. fails_room r first c.args.rest.now w (no_room r.size first c.if-first-receiver.true)))

pub returns-in-Some : goal.returns-in-Some
returns-in-Some c =
    let r : KnownReceiver = c.args.receiver.now in
    let first : List ℕ = c.args.first.now in
    let (from, near, low) = c.in-Some.ensures.least in
    sym (least_found (fit_first r first c.args.rest.now) c.args.from c.in-Some.start c.args.last c.search_from.result from
    (λ w above less. fails_low r first c.args.rest.now w
    (λ (same : w % 256 ≡ slice_index first r.size). apart w c.in-Some.start (slice_index first r.size) same less (omega (arith, near, above)) low))
    c.search_from.ensures)

pub returns-in-None : goal.returns-in-None
returns-in-None c =
    let r : KnownReceiver = c.args.receiver.now in
    let first : List ℕ = c.args.first.now in
    sym (found_none (fit_first r first c.args.rest.now) c.args.from c.args.last
    (λ w from to. fails_low r first c.args.rest.now w (c.first_with.ensures.none c.in-None.is w from (omega (arith, to, c.ranges.last.fits)))))
