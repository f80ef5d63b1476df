use Rattle.std.proofs.Common.{map, refl, subst, sym}
use Rattle.std.specs.Prelude.{string_bytes}
use Rattle.gateway_commands.specs.Rows.{RowOfInputs, without_disks, in_row}
use Rattle.gateway_commands.proofs.Keeping.{RunsGateway-ends}
use Rattle.gateway_commands.proofs.Preparing.{RowOf-memory}
use Rattle.gateway_commands.proofs.run.run_gateway.Goals as goal

pub run_asked-requires : goal.run_asked-requires
run_asked-requires g c = (map string_bytes c.args.words.now, c.in-Ok.ensures.asked)

pub returns-in-Ok : goal.returns-in-Ok
returns-in-Ok g c = c.run_asked.ensures (map string_bytes c.args.words.now) c.in-Ok.ensures.asked

pub returns-in-Err : goal.returns-in-Err
returns-in-Err g c =
    RunsGateway-ends _ _ _ _ (λ _. refl)
    (in_row (record {
      row = _;
      comes = without_disks _ (subst (RowOfInputs _) (sym c.no_memory.ensures) (RowOf-memory _ c.in-Err.ensures.wanted refl refl)) refl;
      told = c.tell_refusal-in-Err.ensures;
    }))
