use Rattle.std.specs.Prelude.{[], ◌∷◌}
use Rattle.std.proofs.Common.{arith, ap, subst}
use Rattle.cut_disk.specs.State.{Stop}
use Rattle.cut_disk.specs.Calls.{Runs}
use Rattle.cut_disk.proofs.CallerLemmas.{runs_more}
use Rattle.secoc_node.specs.State.{NodeState}
use Rattle.bus_world.proofs.Turning.{arms_no_cut}
use Rattle.bus_world.proofs.turns.stop.Goals as goal

pub returns : goal.returns
returns g c = record {
  step = λ _. ap (λ (s : NodeState). s.node) c.stop_at.ensures.rest;
  of_cut = λ is. absurd (arms_no_cut is);
  config = ap (λ (s : NodeState). s.node.config) c.stop_at.ensures.rest;
  layout = ap (λ (s : NodeState). s.store.layout) c.stop_at.ensures.rest;
  runs = runs_more 6 (omega arith) (subst (λ n. Runs (Stop n ∷ []) 1 c.args.node.now.store.disk c.stop_at.new.self.store.disk) c.from.ensures c.stop_at.ensures.arms.runs);
  fits = c.stop_at.ensures.fits;
  faults = c.stop_at.ensures.arms.faults;
  image = tt;
  untouched = tt;
  sound = λ _. c.stop_at.ensures.sound;
  stays = tt;
}
