use Rattle.std.proofs.Common.{◌≡◌, ◌+◌, ◌-◌, ℕ, List, take, drop, sym, ap, ◌∙◌, arith}
use Rattle.cell_store.specs.Layout.{part}
use Rattle.cell_store.specs.Twin.{first_at}
use Rattle.cell_store.proofs.CallerLemmas.{halves, kept-of, damaged-of, cell_at-kept}
use Rattle.store_plan.specs.Plans.{applied}
use Rattle.rathonsi_c.proofs.StaleLaws.{once, twice, once-long, twice-long, fits-second, fits-third}
use Rattle.rathonsi_c.proofs.stale.cell_after.Goals as goal

-- the bytes that were taken
taken : (x new : List ℕ) (at i : ℕ) → at ≡ first_at i → new ≡ take (at + 68 - at) (drop at x) → new ≡ part (first_at i) 68 x
taken x new at i place is =
    let n : at + 68 - at ≡ 68 = omega arith in
    is ∙ (ap (λ m. take m (drop at x)) n ∙ ap (λ a. part a 68 x) place)

pub returns-in-Some : goal.returns-in-Some
returns-in-Some c =
    let plan = c.args.plan.now in
    let x = c.args.image.now in
    let f = c.requires.0 in
    let room = c.requires.1 in
    let i = c.args.cell in
    let one = c.overlay.ensures x (omega arith) f.first (taken x c.copy_from_slice.new.self (first_at i) i (omega arith) c.copy_from_slice.ensures.after) in
    let two = c.overlay-2.ensures (once plan x f) (let l = once-long plan x f in omega arith) (fits-second plan x f) one in
    let three = c.overlay-3.ensures (twice plan x f) (let l = twice-long plan x f in omega arith) (fits-third plan x f) two in
    sym (cell_at-kept (applied plan x) i c.in-Some.held (kept-of (applied plan x) i c.in-Some.held (sym (halves (applied plan x) c.overlay-3.new.pair i three) ∙ (sym c.held_in.ensures ∙ c.in-Some.is))))

pub returns-in-None : goal.returns-in-None
returns-in-None c =
    let plan = c.args.plan.now in
    let x = c.args.image.now in
    let f = c.requires.0 in
    let room = c.requires.1 in
    let i = c.args.cell in
    let one = c.overlay.ensures x (omega arith) f.first (taken x c.copy_from_slice.new.self (first_at i) i (omega arith) c.copy_from_slice.ensures.after) in
    let two = c.overlay-2.ensures (once plan x f) (let l = once-long plan x f in omega arith) (fits-second plan x f) one in
    let three = c.overlay-3.ensures (twice plan x f) (let l = twice-long plan x f in omega arith) (fits-third plan x f) two in
    sym (damaged-of (applied plan x) i (sym (halves (applied plan x) c.overlay-3.new.pair i three) ∙ (sym c.held_in.ensures ∙ c.in-None.is)))
