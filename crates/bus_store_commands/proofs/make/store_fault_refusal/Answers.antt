use Rattle.bus_store_commands.proofs.MakePhases.{told_fault_row}
use Rattle.bus_store_commands.proofs.make.store_fault_refusal.Goals as goal

pub returns-in_default : goal.returns-in_default
returns-in_default c = told_fault_row c.args.fault _ c.store_refusal.ensures c.in_default.not-DiskFailed
