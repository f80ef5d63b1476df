-- The gate and the mark, and zeros.
use Rattle.std.proofs.Common.{◌≡◌, ℕ, ◌+◌, ◌*◌, ◌∙◌, [], ◌∷◌, ◌++◌, sym, ap, refl, replicate, arith}
use Rattle.std.proofs.lemmas.List.{length-replicate}
use Rattle.std.proofs.lemmas.Result.{on_ok_weaker}
use Rattle.cut_disk.proofs.CallerLemmas.{runs_of_call, runs_join, runs_more}
use Rattle.cell_store.proofs.WroteLaws.{wrote-call, wrote-then, wrote-same, loosens-widen, loosens-join, loosens-tears, writes-loosens}
use Rattle.cell_store.proofs.log_formatting.write_closed_bank.Goals as goal

pub returns-in_err-write-clause-runs : goal.returns-in_err-write-clause-runs
returns-in_err-write-clause-runs g c = runs_more _ (omega arith) (runs_of_call c.write.ensures.call)

pub returns-clause-runs : goal.returns-clause-runs
returns-clause-runs g c = runs_more _ (omega arith) (runs_join (runs_of_call c.write.ensures.call) c.write_zeros.ensures.runs)

pub returns-in_err-write-clause-loosens : goal.returns-in_err-write-clause-loosens
returns-in_err-write-clause-loosens g c =
    loosens-widen c.args.at 2 c.args.at (2242 + 32 * c.args.cells) _ _ (omega arith) (omega arith) (loosens-tears c.args.at 2 _ _ (λ t h. let d = g.met.D.Disk.is_disk c.args.disk.now in let z = d.bytes_sized t h in let l = d.loose_sized t h in (omega arith, l ∙ sym z)) c.in_err-write.ensures.torn)

pub returns-clause-loosens : goal.returns-clause-loosens
returns-clause-loosens g c =
    loosens-join c.args.at (2242 + 32 * c.args.cells) _ _ _ c.write.ensures.call.tells
    (loosens-widen c.args.at 2 c.args.at (2242 + 32 * c.args.cells) _ _ (omega arith) (omega arith) (writes-loosens c.args.at 2 (0 ∷ 2 ∷ []) _ _ (λ t h. let d = g.met.D.Disk.is_disk c.args.disk.now in let z = d.bytes_sized t h in let l = d.loose_sized t h in (omega arith, l ∙ sym z)) refl c.in_ok-write.ensures.written))
    (loosens-widen (c.args.at + 2) (32 * (70 + c.args.cells)) c.args.at (2242 + 32 * c.args.cells) _ _ (omega arith) (omega arith) c.write_zeros.ensures.loosens)

pub returns-clause-wrote : goal.returns-clause-wrote
returns-clause-wrote g c =
    let e : 32 * (70 + c.args.cells) ≡ 2240 + 32 * c.args.cells = omega arith in
    on_ok_weaker c.write_zeros.result
    (λ w. wrote-same c.args.at ((0 ∷ 2 ∷ []) ++ replicate (32 * (70 + c.args.cells)) 0) (0 ∷ 2 ∷ replicate (2240 + 32 * c.args.cells) 0) _ _ (ap (λ k. 0 ∷ 2 ∷ replicate k 0) e)
    (wrote-then c.args.at (c.args.at + 2) (0 ∷ 2 ∷ []) (replicate (32 * (70 + c.args.cells)) 0) _ _ _ refl
    (λ t h. let z = (g.met.D.Disk.is_disk c.args.disk.now).bytes_sized t h in let r = length-replicate {A = ℕ} (32 * (70 + c.args.cells)) 0 in omega (arith, z, r))
    (wrote-call c.args.at c.args.at (0 ∷ 2 ∷ []) _ _ refl c.in_ok-write.ensures.written) w))
    c.write_zeros.ensures.wrote
