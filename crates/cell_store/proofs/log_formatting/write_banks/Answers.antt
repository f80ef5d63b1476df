-- One bank after the other, and then a sync.
use Rattle.std.proofs.Common.{◌≡◌, ◌+◌, ◌*◌, ◌∙◌, ◌∷◌, sym, length, replicate, arith}
use Rattle.std.proofs.lemmas.Result.{on_ok_weaker, on_err_weaker}
use Rattle.cut_disk.proofs.CallerLemmas.{runs_then, runs_join, runs_more, grows_after, grows_of_call}
use Rattle.cell_store.specs.Layout.{base}
use Rattle.cell_store.specs.Log.{live_bank}
use Rattle.cell_store.proofs.Results.{OnOk-from, OnErr-from}
use Rattle.cell_store.proofs.WroteLaws.{wrote-at, wrote-then, wrote-synced, loosens-widen, loosens-join, loosens-outside}
use Rattle.cell_store.proofs.FreshStands.{length-live_bank, length-second_bank, fresh_banks-cells}
use Rattle.cell_store.proofs.log_formatting.write_banks.Goals as goal

pub returns-in_err-write_live_bank-clause-runs : goal.returns-in_err-write_live_bank-clause-runs
returns-in_err-write_live_bank-clause-runs g c = runs_more _ (omega arith) c.write_live_bank.ensures.runs

pub returns-in_err-write_closed_bank-clause-runs : goal.returns-in_err-write_closed_bank-clause-runs
returns-in_err-write_closed_bank-clause-runs g c = runs_more _ (omega arith) (runs_join c.write_live_bank.ensures.runs c.write_closed_bank.ensures.runs)

pub returns-clause-runs : goal.returns-clause-runs
returns-clause-runs g c = runs_more _ (omega arith) (runs_then (runs_join c.write_live_bank.ensures.runs c.write_closed_bank.ensures.runs) c.sync.ensures.call)

pub returns-clause-grows : goal.returns-clause-grows
returns-clause-grows g c = OnOk-from c.sync.result (grows_after (runs_join c.write_live_bank.ensures.runs c.write_closed_bank.ensures.runs) (grows_of_call c.sync.ensures.call))

pub returns-in_err-write_live_bank-clause-torn : goal.returns-in_err-write_live_bank-clause-torn
returns-in_err-write_live_bank-clause-torn g c =
    OnErr-from c.from_residual.result (loosens-outside (base c.args.version + 32) (4484 + 64 * length c.args.cells.now) _ _
    (loosens-widen (c.base.result + c.bank_address.result) (2242 + 32 * length c.args.cells.now) (base c.args.version + 32) (4484 + 64 * length c.args.cells.now) _ _ (omega (arith, c.base.ensures, c.bank_address.ensures.is)) (omega (arith, c.base.ensures, c.bank_address.ensures.is)) c.write_live_bank.ensures.loosens))

pub returns-in_err-write_closed_bank-clause-torn : goal.returns-in_err-write_closed_bank-clause-torn
returns-in_err-write_closed_bank-clause-torn g c =
    OnErr-from c.from_residual-in_err-write_closed_bank.result (loosens-outside (base c.args.version + 32) (4484 + 64 * length c.args.cells.now) _ _
    (loosens-join (base c.args.version + 32) (4484 + 64 * length c.args.cells.now) _ _ _ c.write_live_bank.ensures.runs.tells
    (loosens-widen (c.base.result + c.bank_address.result) (2242 + 32 * length c.args.cells.now) (base c.args.version + 32) (4484 + 64 * length c.args.cells.now) _ _ (omega (arith, c.base.ensures, c.bank_address.ensures.is)) (omega (arith, c.base.ensures, c.bank_address.ensures.is)) c.write_live_bank.ensures.loosens)
    (loosens-widen (c.base-2.result + c.bank_address-2.result) (2242 + 32 * length c.args.cells.now) (base c.args.version + 32) (4484 + 64 * length c.args.cells.now) _ _ (omega (arith, c.base-2.ensures, c.bank_address-2.ensures.is)) (omega (arith, c.base-2.ensures, c.bank_address-2.ensures.is)) c.write_closed_bank.ensures.loosens)))

pub returns-clause-torn : goal.returns-clause-torn
returns-clause-torn g c =
    on_err_weaker c.sync.result
    (λ same b was t told. loosens-outside (base c.args.version + 32) (4484 + 64 * length c.args.cells.now) _ _
    (loosens-join (base c.args.version + 32) (4484 + 64 * length c.args.cells.now) _ _ _ c.write_live_bank.ensures.runs.tells
    (loosens-widen (c.base.result + c.bank_address.result) (2242 + 32 * length c.args.cells.now) (base c.args.version + 32) (4484 + 64 * length c.args.cells.now) _ _ (omega (arith, c.base.ensures, c.bank_address.ensures.is)) (omega (arith, c.base.ensures, c.bank_address.ensures.is)) c.write_live_bank.ensures.loosens)
    (loosens-widen (c.base-2.result + c.bank_address-2.result) (2242 + 32 * length c.args.cells.now) (base c.args.version + 32) (4484 + 64 * length c.args.cells.now) _ _ (omega (arith, c.base-2.ensures, c.bank_address-2.ensures.is)) (omega (arith, c.base-2.ensures, c.bank_address-2.ensures.is)) c.write_closed_bank.ensures.loosens))
    b was t (sym same ∙ told))
    c.sync.ensures.same

pub returns-clause-banks : goal.returns-clause-banks
returns-clause-banks g c =
    let one = length-live_bank c.args.cells.now c.told-cells in
    let two = length-second_bank (length c.args.cells.now) in
    let at : (c.base.result + c.bank_address.result) ≡ base c.args.version + 32 = omega (arith, c.base.ensures, c.bank_address.ensures.is) in
    on_ok_weaker c.sync.result
    (λ synced. fresh_banks-cells c.args.version c.args.cells.now _ _ (wrote-synced (base c.args.version + 32) _ _ _ _
    (wrote-then (base c.args.version + 32) (c.base-2.result + c.bank_address-2.result) (live_bank 0 c.args.cells.now) (0 ∷ 2 ∷ replicate (2240 + 32 * length c.args.cells.now) 0) _ _ _ (omega (arith, c.base-2.ensures, c.bank_address-2.ensures.is, one))
    (λ t h. let z = (g.met.D.Disk.is_disk c.args.disk.now).bytes_sized t h in omega (arith, z, one, two))
    (wrote-at _ (base c.args.version + 32) (live_bank 0 c.args.cells.now) _ _ at c.in_ok-write_live_bank.ensures.wrote) c.in_ok-write_closed_bank.ensures.wrote) synced))
    c.sync.ensures.synced
