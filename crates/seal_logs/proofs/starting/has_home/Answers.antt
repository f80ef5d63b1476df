use Rattle.std.proofs.Common.{◌≡◌, ◌∙◌, Bool, true, false, not, refl, sym, subst, arith}
use Rattle.std.proofs.lemmas.Bool.{true≢false}
use Rattle.seal_logs.specs.Reads.{reads_in, LacksLine, IsCopyRead}
use Rattle.seal_logs.specs.Starts.{home_bank, home_generation, lacks_copy, lacks_home_line}
use Rattle.seal_logs.proofs.starting.has_home.Goals as goal

pub returns-then-home-sizes-clause-lacks : goal.returns-then-home-sizes-clause-lacks
returns-then-home-sizes-clause-lacks c e = lacks_copy c.args.latest c.requires.latest c.requires.old
    (λ copy h. let x = h.inside in let y = c.home_bank-home.ensures in let z = c.if-home-sizes.true in omega (arith, x, y, z))

pub returns-then-not-read_copy-clause-lacks : goal.returns-then-not-read_copy-clause-lacks
returns-then-not-read_copy-clause-lacks c e = lacks_copy c.args.latest c.requires.latest c.requires.old
    (λ copy h. c.read_copy.ensures.none c.if-not-read_copy.true copy (h.count ∙ sym c.requires.alike)
    (subst (λ bank. IsCopyRead (reads_in c.args.sizes c.args.reads.now bank) c.home_generation-generation.result copy) (sym c.home_bank-home.ensures)
    (subst (λ g. IsCopyRead (reads_in c.args.sizes c.args.reads.now (home_bank c.args.latest c.args.latest.deed.body)) g copy) (sym c.home_generation-generation.ensures) h.copied)))

pub returns-clause-lacks : goal.returns-clause-lacks
returns-clause-lacks c e = lacks_home_line c.args.latest c.requires.latest
    (subst (λ bank. LacksLine c.args.sizes (reads_in c.args.sizes c.args.reads.now bank) (home_generation c.args.latest c.args.latest.deed.body)) c.home_bank-home.ensures
    (subst (λ g. LacksLine c.args.sizes (reads_in c.args.sizes c.args.reads.now c.home_bank-home.result) g) c.home_generation-generation.ensures
    (c.lacks_line.ensures.lacks (was_true c.lacks_line.result e))))
  where
    was_true : (b : Bool) → not b ≡ false → b ≡ true
    was_true true e = refl
    was_true false e = absurd (true≢false e)
