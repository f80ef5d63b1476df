use Rattle.machine_runs.proofs.CallerLemmas.{Run-of_member}
use Rattle.machine_runs.proofs.laws.run_is_a_run_of_each_member.Goals as goal

pub returns : goal.returns
returns g c = λ start now moments i d each fits run. Run-of_member g.M.Members.steps g.M.Members.member_steps g.M.Members.members g.M.Members.place g.M.Members.act d each i start moments now fits run
