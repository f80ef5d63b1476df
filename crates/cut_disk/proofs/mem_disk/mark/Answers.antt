-- The part is filled whole, and nothing else is.
use Rattle.std.proofs.Common.{◌≡◌, replicate, arith, rules, ap, ◌∙◌}
use Rattle.std.proofs.lemmas.List.{places, length-replicate}
use Rattle.cut_disk.proofs.Slices.{put_mid-splice}
use Rattle.cut_disk.proofs.mem_disk.mark.Goals as goal

pub returns : goal.returns
returns c =
    let filled : c.fill.new.self ≡ replicate c.args.count c.args.is_loose = c.fill.ensures.after (λ y same. same) ∙ ap (λ n. replicate n c.args.is_loose) (search (rules, places)) in
    rw filled (put_mid-splice c.args.at _ _ (replicate c.args.count c.args.is_loose) (omega (arith, length-replicate c.args.count c.args.is_loose)) (omega (arith, length-replicate c.args.count c.args.is_loose, c.requires)))
