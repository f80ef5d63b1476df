-- The gate and the mark, all cells, and closed places.
use Rattle.std.proofs.Common.{◌≡◌, ℕ, ◌+◌, ◌*◌, ◌∙◌, [], ◌∷◌, ◌++◌, sym, refl, length, replicate, arith}
use Rattle.std.specs.List.{flat_map}
use Rattle.std.proofs.lemmas.List.{length-replicate}
use Rattle.std.proofs.lemmas.Result.{on_ok_weaker}
use Rattle.cut_disk.proofs.CallerLemmas.{runs_of_call, runs_join, runs_more}
use Rattle.cell_store.proofs.BankLaws.{length-cells}
use Rattle.cell_store.proofs.WroteLaws.{wrote-call, wrote-then, loosens-widen, loosens-join, loosens-tears, writes-loosens}
use Rattle.cell_store.proofs.log_formatting.write_live_bank.Goals as goal

pub returns-in_err-write-clause-runs : goal.returns-in_err-write-clause-runs
returns-in_err-write-clause-runs g c = runs_more _ (omega arith) (runs_of_call c.write.ensures.call)

pub returns-in_err-write_list-clause-runs : goal.returns-in_err-write_list-clause-runs
returns-in_err-write_list-clause-runs g c = runs_more _ (omega arith) (runs_join (runs_of_call c.write.ensures.call) c.write_list.ensures.runs)

pub returns-clause-runs : goal.returns-clause-runs
returns-clause-runs g c = runs_more _ (omega arith) (runs_join (runs_join (runs_of_call c.write.ensures.call) c.write_list.ensures.runs) c.write_zeros.ensures.runs)

pub returns-in_err-write-clause-loosens : goal.returns-in_err-write-clause-loosens
returns-in_err-write-clause-loosens g c =
    loosens-widen c.args.at 2 c.args.at (2242 + 32 * length c.args.cells.now) _ _ (omega arith) (omega arith) (loosens-tears c.args.at 2 _ _ (λ t h. let d = g.met.D.Disk.is_disk c.args.disk.now in let z = d.bytes_sized t h in let l = d.loose_sized t h in (omega arith, l ∙ sym z)) c.in_err-write.ensures.torn)

pub returns-in_err-write_list-clause-loosens : goal.returns-in_err-write_list-clause-loosens
returns-in_err-write_list-clause-loosens g c =
    loosens-join c.args.at (2242 + 32 * length c.args.cells.now) _ _ _ c.write.ensures.call.tells
    (loosens-widen c.args.at 2 c.args.at (2242 + 32 * length c.args.cells.now) _ _ (omega arith) (omega arith) (writes-loosens c.args.at 2 (167 ∷ 0 ∷ []) _ _ (λ t h. let d = g.met.D.Disk.is_disk c.args.disk.now in let z = d.bytes_sized t h in let l = d.loose_sized t h in (omega arith, l ∙ sym z)) refl c.in_ok-write.ensures.written))
    (loosens-widen (c.args.at + 2) (32 * length c.args.cells.now) c.args.at (2242 + 32 * length c.args.cells.now) _ _ (omega arith) (omega arith) c.write_list.ensures.loosens)

pub returns-clause-loosens : goal.returns-clause-loosens
returns-clause-loosens g c =
    loosens-join c.args.at (2242 + 32 * length c.args.cells.now) _ _ _ (c.write_list.ensures.runs.tells ∙ c.write.ensures.call.tells)
    (loosens-join c.args.at (2242 + 32 * length c.args.cells.now) _ _ _ c.write.ensures.call.tells
    (loosens-widen c.args.at 2 c.args.at (2242 + 32 * length c.args.cells.now) _ _ (omega arith) (omega arith) (writes-loosens c.args.at 2 (167 ∷ 0 ∷ []) _ _ (λ t h. let d = g.met.D.Disk.is_disk c.args.disk.now in let z = d.bytes_sized t h in let l = d.loose_sized t h in (omega arith, l ∙ sym z)) refl c.in_ok-write.ensures.written))
    (loosens-widen (c.args.at + 2) (32 * length c.args.cells.now) c.args.at (2242 + 32 * length c.args.cells.now) _ _ (omega arith) (omega arith) c.write_list.ensures.loosens))
    (loosens-widen (c.args.at + 2 + 32 * length c.args.cells.now) 2240 c.args.at (2242 + 32 * length c.args.cells.now) _ _ (omega arith) (omega arith) c.write_zeros.ensures.loosens)

pub returns-clause-wrote : goal.returns-clause-wrote
returns-clause-wrote g c =
    let long : length (flat_map (λ x. x) c.args.cells.now) ≡ 32 * length c.args.cells.now = length-cells c.args.cells.now c.told-cells in
    on_ok_weaker c.write_zeros.result
    (λ w. wrote-then c.args.at (c.args.at + 2 + 32 * length c.args.cells.now) ((167 ∷ 0 ∷ []) ++ flat_map (λ x. x) c.args.cells.now) (replicate 2240 0) _ _ _ (omega (arith, long))
    (λ t h. let z = (g.met.D.Disk.is_disk c.args.disk.now).bytes_sized t h in let r = length-replicate {A = ℕ} 2240 0 in omega (arith, z, long, r))
    (wrote-then c.args.at (c.args.at + 2) (167 ∷ 0 ∷ []) (flat_map (λ x. x) c.args.cells.now) _ _ _ refl (λ t h. let z = (g.met.D.Disk.is_disk c.args.disk.now).bytes_sized t h in omega (arith, z, long)) (wrote-call c.args.at c.args.at (167 ∷ 0 ∷ []) _ _ refl c.in_ok-write.ensures.written) c.in_ok-write_list.ensures.wrote) w)
    c.write_zeros.ensures.wrote
