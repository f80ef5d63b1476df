use Rattle.std.proofs.Common.{ap, sym, subst, ◌∙◌, Ok, Err}
use Rattle.cut_disk.specs.Calls.{Rose}
use Rattle.bus_machine.specs.declared.lines.Line.TheVariants.{Loaded, Refused}
use Rattle.bus_machine.specs.declared.lines.Refusal.TheVariants.{Key, MemoryFailure}
use Rattle.bus_machine.specs.Steps.{loads}
use Rattle.memory_update.specs.declared.messages.Reply.{Reply}
use Rattle.she_engine.specs.Loads.{RefusedLoad, FaultedLoad, NotLoaded}
use Rattle.secoc_node.specs.declared.faults.NodeFault.{NodeFault}
use Rattle.secoc_node.specs.declared.faults.NodeFault.TheVariants as fault
use Rattle.secoc_node.specs.State.{NodeState}
use Rattle.secoc_node.specs.Keeping.{node_in}
use Rattle.secoc_node.proofs.CallLaws.{PastRoute, unless_faulted, not_down, Done, step_from, served_from, held_by, with_engine, load_done, refused_load_state, load_refused, load_failed, keys_of_loads}
use Rattle.secoc_node.proofs.node.Node.load.Given.{Over}
use Rattle.secoc_node.proofs.node.Node.load.Goals as goal

pub load_key-requires-clause-held : goal.load_key-requires-clause-held
load_key-requires-clause-held g c = held_by c.self.inside.known (g.C.Cells.state c.self.inside.cells) c.self.invariant c.if-not-self.false

-- ---- the engine took the update

loaded : (g : Over) (c : goal.In-Ok g) → Done c.self.inside.known (g.C.Cells.state c.self.inside.cells) (loads c.args.request.now) (Loaded c.in-Ok.reply) (with_engine c.self.inside.known c.load_key.new.self) (g.C.Cells.state c.load_key.new.cells)
loaded g c = load_done c.self.inside.known (g.C.Cells.state c.self.inside.cells) c.args.request.now c.in-Ok.reply c.load_key.new.self (g.C.Cells.state c.load_key.new.cells) c.self.invariant c.if-not-self.false c.in-Ok.ensures.loaded

pub invariant_of-self : goal.invariant_of-self
invariant_of-self g c = (loaded g c).node

pub returns-in-Ok-clause-step : goal.returns-in-Ok-clause-step
returns-in-Ok-clause-step g c = step_from c.args.self.now c.self.view_is (loaded g c)

pub returns-in-Ok-clause-keyed : goal.returns-in-Ok-clause-keyed
returns-in-Ok-clause-keyed g c update authkey builds = keys_of_loads c.args.self.now.node c.args.request.now (Ok c.in-Ok.reply) (node_in (with_engine c.self.inside.known c.load_key.new.self)) update authkey builds (step_from c.args.self.now c.self.view_is (loaded g c))

pub returns-in-Ok-clause-serves : goal.returns-in-Ok-clause-serves
returns-in-Ok-clause-serves g c =
    record {
      down = not_down c.self.inside.known (g.C.Cells.state c.self.inside.cells) c.if-not-self.false c.args.self.now c.self.view_is Reply (Ok c.in-Ok.reply) tt;
      faulted = unless_faulted Reply _ (Ok c.in-Ok.reply) tt;
      faults = c.in-Ok.ensures.loaded.store.faults ∙ ap (λ (s : NodeState). s.store.disk.faults) c.self.view_is;
      layout = (served_from c.args.self.now c.self.view_is (loaded g c)).layout;
      runs = (served_from c.args.self.now c.self.view_is (loaded g c)).runs;
      fits = (served_from c.args.self.now c.self.view_is (loaded g c)).fits;
      sound = (loaded g c).node.sound;
    }

-- ---- it refused

why : (g : Over) (c : goal.In-Err-Refused g) → RefusedLoad c.self.inside.known.engine c.load_key.new.self (g.C.Cells.state c.self.inside.cells) (g.C.Cells.state c.load_key.new.cells) c.args.request.now c.in-Err-Refused.refusal
why g c = subst (NotLoaded c.self.inside.known.engine c.load_key.new.self (g.C.Cells.state c.self.inside.cells) (g.C.Cells.state c.load_key.new.cells) c.args.request.now) c.in-Err-Refused.field-0-is c.in-Err-Refused.ensures.not_loaded

refused : (g : Over) (c : goal.In-Err-Refused g) → Done c.self.inside.known (g.C.Cells.state c.self.inside.cells) (loads c.args.request.now) (Refused (Key c.in-Err-Refused.refusal)) (with_engine c.self.inside.known c.load_key.new.self) (g.C.Cells.state c.load_key.new.cells)
refused g c = load_refused c.self.inside.known (g.C.Cells.state c.self.inside.cells) c.args.request.now c.in-Err-Refused.refusal c.load_key.new.self (g.C.Cells.state c.load_key.new.cells) c.self.invariant c.if-not-self.false (why g c)

pub invariant_of-self-in-Err-Refused : goal.invariant_of-self-in-Err-Refused
invariant_of-self-in-Err-Refused g c = (refused g c).node

pub returns-in-Err-Refused-clause-step : goal.returns-in-Err-Refused-clause-step
returns-in-Err-Refused-clause-step g c = step_from c.args.self.now c.self.view_is (refused g c)

pub returns-in-Err-Refused-clause-keyed : goal.returns-in-Err-Refused-clause-keyed
returns-in-Err-Refused-clause-keyed g c update authkey builds = keys_of_loads c.args.self.now.node c.args.request.now (Err (fault.Key c.in-Err-Refused.refusal)) (node_in (with_engine c.self.inside.known c.load_key.new.self)) update authkey builds (step_from c.args.self.now c.self.view_is (refused g c))

pub returns-in-Err-Refused-clause-serves : goal.returns-in-Err-Refused-clause-serves
returns-in-Err-Refused-clause-serves g c =
    record {
      down = not_down c.self.inside.known (g.C.Cells.state c.self.inside.cells) c.if-not-self.false c.args.self.now c.self.view_is Reply (Err (fault.Key c.in-Err-Refused.refusal)) tt;
      faulted = unless_faulted Reply _ (Err (fault.Key c.in-Err-Refused.refusal)) tt;
      faults = tt;
      layout = (served_from c.args.self.now c.self.view_is (refused g c)).layout;
      runs = (served_from c.args.self.now c.self.view_is (refused g c)).runs;
      fits = (served_from c.args.self.now c.self.view_is (refused g c)).fits;
      sound = (refused g c).node.sound;
    }

pub returns-in-Err-Refused-clause-untouched : goal.returns-in-Err-Refused-clause-untouched
returns-in-Err-Refused-clause-untouched g c other = refused_load_state c.self.inside.known (g.C.Cells.state c.self.inside.cells) c.args.request.now c.in-Err-Refused.refusal c.load_key.new.self (g.C.Cells.state c.load_key.new.cells) c.self.invariant c.if-not-self.false (why g c) ∙ c.self.view_is

-- ---- the disk failed

pending : (g : Over) (c : goal.After-fail g) → FaultedLoad c.self.inside.known.engine c.load_key.new.self (g.C.Cells.state c.self.inside.cells) (g.C.Cells.state c.load_key.new.cells) c.args.request.now
pending g c = subst (NotLoaded c.self.inside.known.engine c.load_key.new.self (g.C.Cells.state c.self.inside.cells) (g.C.Cells.state c.load_key.new.cells) c.args.request.now) c.in-Err-Faulted.field-0-is c.in-Err-Faulted.ensures.not_loaded

faulted : (g : Over) (c : goal.After-fail g) → Done c.self.inside.known (g.C.Cells.state c.self.inside.cells) (loads c.args.request.now) (Refused MemoryFailure) c.fail.new.self (g.C.Cells.state c.load_key.new.cells)
faulted g c = load_failed c.self.inside.known (g.C.Cells.state c.self.inside.cells) c.args.request.now c.load_key.new.self (g.C.Cells.state c.load_key.new.cells) c.fail.new.self c.self.invariant c.if-not-self.false (pending g c) c.fail.ensures.down

past : (g : Over) (c : goal.After-fail g) → PastRoute {T = Reply} (Err c.fail.result)
past g c = subst (λ (f : NodeFault). PastRoute {T = Reply} (Err f)) (sym c.fail.ensures.fault) tt

pub invariant_of-self-in-Err-Faulted : goal.invariant_of-self-in-Err-Faulted
invariant_of-self-in-Err-Faulted g c = (faulted g c).node

pub returns-in-Err-Faulted-clause-step : goal.returns-in-Err-Faulted-clause-step
returns-in-Err-Faulted-clause-step g c = rw c.fail.ensures.fault (step_from c.args.self.now c.self.view_is (faulted g c))

pub returns-in-Err-Faulted-clause-keyed : goal.returns-in-Err-Faulted-clause-keyed
returns-in-Err-Faulted-clause-keyed g c update authkey builds = rw c.fail.ensures.fault (keys_of_loads c.args.self.now.node c.args.request.now (Err fault.Faulted) (node_in c.fail.new.self) update authkey builds (step_from c.args.self.now c.self.view_is (faulted g c)))

pub returns-in-Err-Faulted-clause-serves : goal.returns-in-Err-Faulted-clause-serves
returns-in-Err-Faulted-clause-serves g c =
    record {
      down = not_down c.self.inside.known (g.C.Cells.state c.self.inside.cells) c.if-not-self.false c.args.self.now c.self.view_is Reply (Err c.fail.result) (past g c);
      faulted = λ e. subst (λ (s : NodeState). Rose s.store.disk.faults (g.C.Cells.state c.load_key.new.cells).disk.faults) c.self.view_is (pending g c).store.failed;
      faults = tt;
      layout = (served_from c.args.self.now c.self.view_is (faulted g c)).layout;
      runs = (served_from c.args.self.now c.self.view_is (faulted g c)).runs;
      fits = (served_from c.args.self.now c.self.view_is (faulted g c)).fits;
      sound = (faulted g c).node.sound;
    }

pub returns-in-Err-Faulted-clause-untouched : goal.returns-in-Err-Faulted-clause-untouched
returns-in-Err-Faulted-clause-untouched g c apart = absurd (apart c.fail.ensures.fault)
