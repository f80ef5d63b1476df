use Rattle.std.proofs.Common.{◌≡◌, ℕ, List, length, ap, ◌∙◌, arith, rules}
use Rattle.cut_disk.specs.Images.{splice}
use Rattle.cell_store.specs.Twin.{first_at, fresh_cell, cell_at}
use Rattle.cell_store.proofs.CallerLemmas.{length-fresh_cell}
use Rattle.store_plan.proofs.GatedLaws.{put_mid-splice}
use Rattle.store_plan.proofs.MakingLaws.{made_cell, made_others}
use Rattle.store_plan.proofs.images.make_cell.Goals as goal

pub returns-clause-made : goal.returns-clause-made
returns-clause-made c =
    let x = c.args.image.now in
    let new : c.copy_from_slice.new.self ≡ fresh_cell c.args.payload.now = c.copy_from_slice.ensures.after ∙ c.fresh_cell.ensures in
    let sized : length c.args.payload.now ≡ 32 = search rules in
    let long : length c.copy_from_slice.new.self ≡ 68 = ap length new ∙ length-fresh_cell c.args.payload.now sized in
    let place : c.pair_place-at.result ≡ first_at c.args.cell = c.pair_place-at.ensures in
    put_mid-splice c.pair_place-at.result _ x c.copy_from_slice.new.self (omega (arith, long)) (let r = c.requires in omega (arith, long, place))
    ∙ (ap (λ n. splice n c.copy_from_slice.new.self x) place ∙ ap (λ (b : List ℕ). splice (first_at c.args.cell) b x) new)

pub returns-clause-cell : goal.returns-clause-cell
returns-clause-cell c =
    ap (λ (y : List ℕ). cell_at y c.args.cell) (returns-clause-made c) ∙ made_cell c.args.image.now c.args.cell c.args.payload.now (search rules) (let r = c.requires in omega arith)

pub returns-clause-others : goal.returns-clause-others
returns-clause-others c = λ other ne.
    ap (λ (y : List ℕ). cell_at y other) (returns-clause-made c) ∙ made_others c.args.image.now c.args.cell c.args.payload.now (search rules) (let r = c.requires in omega arith) other ne
