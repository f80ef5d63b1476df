use Rattle.std.specs.Prelude.{option_map}
use Rattle.cell_store.specs.Twin.{cell_at}
use Rattle.slot_commands.specs.Checked.{PushesFindings}
use Rattle.slot_commands.proofs.checking.push_twin_findings.Given as goal

abbrev pub invariant-loop-place : goal.invariant-loop-place
invariant-loop-place l = PushesFindings (option_map (λ r. r.now) l.routes) (cell_at l.store) l.place l.fn.text.items l.text.items
