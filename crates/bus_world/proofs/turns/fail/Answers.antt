use Rattle.std.specs.Prelude.{[], ◌∷◌}
use Rattle.std.proofs.Common.{arith, ap, subst}
use Rattle.cut_disk.specs.State.{Fail}
use Rattle.cut_disk.specs.Calls.{Runs}
use Rattle.cut_disk.proofs.CallerLemmas.{runs_more}
use Rattle.secoc_node.specs.State.{NodeState}
use Rattle.bus_world.proofs.Turning.{arms_no_cut}
use Rattle.bus_world.proofs.turns.fail.Goals as goal

pub returns : goal.returns
returns g c = record {
  step = λ _. ap (λ (s : NodeState). s.node) c.fail_at.ensures.rest;
  of_cut = λ is. absurd (arms_no_cut is);
  config = ap (λ (s : NodeState). s.node.config) c.fail_at.ensures.rest;
  layout = ap (λ (s : NodeState). s.store.layout) c.fail_at.ensures.rest;
  runs = runs_more 6 (omega arith) (subst (λ n. Runs (Fail n ∷ []) 1 c.args.node.now.store.disk c.fail_at.new.self.store.disk) c.from.ensures c.fail_at.ensures.arms.runs);
  fits = c.fail_at.ensures.fits;
  faults = c.fail_at.ensures.arms.faults;
  image = tt;
  untouched = tt;
  sound = λ _. c.fail_at.ensures.sound;
  stays = tt;
}
