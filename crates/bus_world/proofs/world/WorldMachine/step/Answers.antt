use Rattle.std.specs.Prelude.{All, suc}
use Rattle.std.proofs.Common.{sym, subst, arith}
use Rattle.machine_runs.proofs.CallerLemmas.{MemberSteps-length}
use Rattle.bus_world.specs.Worlds.{IsEventOf}
use Rattle.bus_world.proofs.world.WorldMachine.step.Goals as goal

pub returns-clause-ready : goal.returns-clause-ready
returns-clause-ready g c = λ rest ready. record {
  of_bus = subst (λ n. All (IsEventOf n) rest) (sym (MemberSteps-length c.step.ensures.turn.one)) (λ k d h. ready.of_bus (suc k) d (omega arith));
  room = omega (arith, ready.room, c.step.ensures.turn.events, c.step.ensures.turn.most);
}
