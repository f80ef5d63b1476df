-- What the calls of a node leave, over plain variables
use Rattle.std.proofs.Common.{◌≡◌, ℕ, true, false, true≢false, List, length, set, length-set, refl, sym, ap, subst, ◌∙◌, arith}
use Rattle.std.specs.Prelude.{◌↔◌, Some, Result, Ok, Err, IsErrOf}
use Rattle.cut_disk.proofs.CallerLemmas.{runs_none, runs_more}
use Rattle.cell_store.specs.Cells.{CellsState}
use Rattle.key_slots.specs.declared.refusals.Erc.{Erc}
use Rattle.slot_disk.specs.Cell.{slot_cell, HoldSlots}
use Rattle.secure_boot.specs.Booting.{is_good}
use Rattle.memory_update.specs.declared.messages.Reply.{Reply}
use Rattle.memory_update.specs.declared.messages.Request.{Request}
use Rattle.memory_update.specs.declared.messages.Update.{Update}
use Rattle.memory_update.specs.Messages.{Builds, CarriesPadded, Confirms, id_of}
use Rattle.memory_update.proofs.CallerLemmas.{id_of-head}
use Rattle.memory_update.specs.Loading.{Allows, slot_of}
use Rattle.she_engine.specs.declared.engine.Engine.{Engine}
use Rattle.she_engine.specs.Loads.{Loaded as LoadedKey, RefusedLoad, FaultedLoad}
use Rattle.bus_machine.specs.declared.lines.Line.{Line}
use Rattle.bus_machine.specs.declared.lines.Line.TheVariants.{Loaded, Refused}
use Rattle.bus_machine.specs.declared.lines.Refusal.TheVariants.{Key, MemoryFailure}
use Rattle.bus_machine.specs.Node.{Node, slot_to}
use Rattle.bus_machine.specs.Steps.{Act, loads, keys, TakesUpdate, NodeStep}
use Rattle.bus_laws.proofs.CallerLemmas.{Sound-step, takes_forward}
use Rattle.secoc_node.specs.declared.faults.NodeFault.{NodeFault}
use Rattle.secoc_node.specs.declared.faults.NodeFault.TheVariants as fault
use Rattle.secoc_node.specs.declared.known.Known.{Known}
use Rattle.secoc_node.specs.Lines.{loaded_line, keyed_line}
use Rattle.secoc_node.specs.State.{NodeState, FitsNow}
use Rattle.secoc_node.specs.Keeping.{node_in, state_in, kept_in, IsNode, KeepsNode}
use Rattle.secoc_node.proofs.Serving.{LeavesStore}
use Rattle.secoc_node.proofs.CellsLaws.{CellsOf-slot, hold_slots}
use Rattle.secoc_node.proofs.KeptLaws.{kept_of_sound}
use Rattle.secoc_node.proofs.FitsLaws.{fits_put, fits_failed_put}

-- a call of an up node over its store was a step, and left a node over its store
pub record Done (known : Known) (store : CellsState) (act : Act) (line : Line) (after : Known) (left : CellsState) : Type 0 where
  pub node : IsNode after left
  pub step : NodeStep (node_in known) act line (node_in after)
  pub served : LeavesStore (state_in known store) (state_in after left)

-- the answer isn't that the node is down, or has no such route
abbrev pub PastRoute : {T : Type 0} → Result T NodeFault → Type 0
PastRoute (Ok x) = Unit {0}
PastRoute (Err fault.Down) = ⊥
PastRoute (Err fault.NoRoute) = ⊥
PastRoute (Err _) = Unit {0}

-- nor that the disk failed
abbrev pub NotFaulted : {T : Type 0} → Result T NodeFault → Type 0
NotFaulted (Ok x) = Unit {0}
NotFaulted (Err fault.Faulted) = ⊥
NotFaulted (Err _) = Unit {0}

pub unless_faulted : (T A : Type 0) (r : Result T NodeFault) → NotFaulted r → IsErrOf r fault.Faulted → A
unless_faulted T A r not e = absurd (subst (NotFaulted {T = T}) e not)

-- a node that is up doesn't answer that it is down
pub not_down : (known : Known) (store : CellsState) → known.up ≡ true → (old : NodeState) → state_in known store ≡ old → (T : Type 0) (r : Result T NodeFault) → PastRoute r
    → IsErrOf r fault.Down ↔ (old.node.up ≡ false)
not_down known store up old view T r past =
    (λ e. absurd (subst (PastRoute {T = T}) e past), λ e. absurd (true≢false (sym (ap (λ (s : NodeState). s.node.up) (sym view) ∙ up) ∙ e)))

-- the state before the call, by another name
module _ {known : Known} {store : CellsState} {act : Act} {line : Line} {after : Known} {left : CellsState} (old : NodeState) (view : state_in known store ≡ old)
    (done : Done known store act line after left) where
  pub step_from : NodeStep old.node act line (node_in after)
  step_from = subst (λ (s : NodeState). NodeStep s.node act line (node_in after)) view done.step

  pub served_from : LeavesStore old (state_in after left)
  served_from = subst (λ (s : NodeState). LeavesStore s (state_in after left)) view done.served

-- the disk tells what it told
pub fits_told : (old new : NodeState) → new.node ≡ old.node → new.store.layout ≡ old.store.layout → new.store.disk.told ≡ old.store.disk.told → FitsNow old → FitsNow new
fits_told old new node layout told fits now is = rw (node, layout) (fits now (sym told ∙ is))

-- ---- loads

pub held_by : (known : Known) (store : CellsState) → IsNode known store → known.up ≡ true → HoldSlots store.cells known.engine.slots
held_by known store is up =
    let k = is.keeps up in
    subst (λ cells. HoldSlots cells known.engine.slots) (sym k.cells) (hold_slots known.config (kept_in known.engine known.counters.items) (kept_of_sound (node_in known) is.sound))

takes_in : (known : Known) (store : CellsState) (request : Request) (u : Update) → IsNode known store → known.up ≡ true
    → Allows known.engine.slots (is_good known.engine.boot) known.engine.uid request (Ok u) → TakesUpdate (node_in known) request u
takes_in known store request u is up allowed = record {
  is_up = up;
  allowed = subst (λ uid. Allows known.engine.slots (is_good known.engine.boot) uid request (Ok u)) is.own allowed;
}

-- the engine took the update
module _ (known : Known) (store : CellsState) (request : Request) (reply : Reply) (engine : Engine) (left : CellsState)
    (is : IsNode known store) (up : known.up ≡ true) (loaded : LoadedKey known.engine engine store left request reply) where
  abbrev taken : Engine
  taken = record known.engine { slots = set known.engine.slots loaded.update.id (slot_of loaded.update) }

  abbrev after_load : Engine → Known
  after_load e = record known { engine = e }

  load_step : NodeStep (node_in known) (loads request) (Loaded reply) (node_in (after_load taken))
  load_step = (
    loaded.update,
    takes_in known store request loaded.update is up loaded.allowed,
    subst (Confirms reply loaded.update) is.own loaded.confirmed,
    refl,
  )

  load_keeps : KeepsNode (node_in (after_load taken)) left
  load_keeps =
      let node = node_in known in
      let forward = takes_forward node request loaded.update is.sound (takes_in known store request loaded.update is up loaded.allowed) in
      record {
        whole = loaded.store.whole;
        cells = loaded.store.cells
            ∙ ap (λ cells. set cells loaded.update.id (slot_cell (slot_of loaded.update))) (is.keeps up).cells
            ∙ sym (CellsOf-slot node.config node.kept (kept_of_sound node is.sound) loaded.update.id (slot_of loaded.update) forward.0);
      }

  pub load_done : Done known store (loads request) (Loaded reply) (after_load engine) left
  load_done = subst (λ e. Done known store (loads request) (Loaded reply) (after_load e) left) (sym loaded.engine) (record {
    node = record {
      sound = Sound-step (node_in known) (loads request) (Loaded reply) (node_in (after_load taken)) is.sound load_step;
      own = is.own;
      counted = is.counted;
      count = ap length loaded.store.cells ∙ length-set store.cells loaded.update.id (slot_cell (slot_of loaded.update)) ∙ is.count;
      keeps = λ _. load_keeps;
    };
    step = load_step;
    served = record {
      layout = loaded.store.layout;
      runs = loaded.store.runs;
      fits = λ fits. fits_put (state_in known store) (state_in (after_load taken) left) loaded.update.id (slot_cell (slot_of loaded.update)) fits up (is.sound.settled up) (is.keeps up) loaded.store load_keeps;
    };
  })

-- the disk failed as the update was put
module _ (known : Known) (store : CellsState) (request : Request) (engine : Engine) (left : CellsState) (after : Known)
    (is : IsNode known store) (up : known.up ≡ true) (faulted : FaultedLoad known.engine engine store left request) (down : after ≡ record known { engine = engine; up = false }) where
  abbrev waiting : Known
  waiting = record known { engine = record known.engine { pending = Some (record { target = faulted.update.id; slot = slot_of faulted.update }) }; up = false }

  fault_takes : TakesUpdate (node_in known) request faulted.update
  fault_takes = takes_in known store request faulted.update is up faulted.allowed

  fault_step : NodeStep (node_in known) (loads request) (Refused MemoryFailure) (node_in waiting)
  fault_step = (slot_to faulted.update.id (slot_of faulted.update), (faulted.update, fault_takes, refl), refl)

  pub load_failed : Done known store (loads request) (Refused MemoryFailure) after left
  load_failed =
      let node = node_in known in
      let forward = takes_forward node request faulted.update is.sound fault_takes in
      let same : after ≡ waiting = down ∙ ap (λ e. record known { engine = e; up = false }) faulted.engine in
      subst (λ k. Done known store (loads request) (Refused MemoryFailure) k left) (sym same) (record {
        node = record {
          sound = Sound-step node (loads request) (Refused MemoryFailure) (node_in waiting) is.sound fault_step;
          own = is.own;
          counted = is.counted;
          count = ap length faulted.store.kept ∙ is.count;
          keeps = λ e. absurd (true≢false (sym e));
        };
        step = fault_step;
        served = record {
          layout = faulted.store.layout;
          runs = faulted.store.runs;
          fits = λ fits. fits_failed_put (state_in known store) (state_in waiting left) faulted.update.id (slot_cell (slot_of faulted.update)) fits up (is.sound.settled up) (is.keeps up)
              (slot_to faulted.update.id (slot_of faulted.update)) faulted.store refl
              (CellsOf-slot node.config node.kept (kept_of_sound node is.sound) faulted.update.id (slot_of faulted.update) forward.0);
        };
      })

-- the engine refused the request
abbrev pub with_engine : Known → Engine → Known
with_engine known engine = record known { engine = engine }

module _ (known : Known) (store : CellsState) (request : Request) (refusal : Erc) (engine : Engine) (left : CellsState)
    (is : IsNode known store) (up : known.up ≡ true) (refused : RefusedLoad known.engine engine store left request refusal) where
  pub refused_load_state : state_in (with_engine known engine) left ≡ state_in known store
  refused_load_state = ap (λ (e : Engine). state_in (with_engine known e) left) refused.engine ∙ ap (λ (s : CellsState). state_in known s) refused.store

  pub load_refused : Done known store (loads request) (Refused (Key refusal)) (with_engine known engine) left
  load_refused =
      subst (λ e. Done known store (loads request) (Refused (Key refusal)) (with_engine known e) left) (sym refused.engine)
      (subst (λ s. Done known store (loads request) (Refused (Key refusal)) known s) (sym refused.store) (record {
        node = is;
        step = ((up, subst (λ uid. Allows known.engine.slots (is_good known.engine.boot) uid request (Err refusal)) is.own refused.refused), refl);
        served = record { layout = refl; runs = runs_more 6 (omega arith) (runs_none store.disk); fits = λ fits. fits };
      }))

-- ---- the request that was built of an update

id_in : (request : Request) (u : Update) (pad : ℕ) (key : List ℕ) → CarriesPadded pad request key u → id_of request.m1 ≡ u.id
id_in request u pad key carries =
    id_of-head request.m1 (record { uid = u.uid; id = u.id; auth = u.auth })
    (record { is_head = record { is_uid = carries.is_update.is_uid; id_fits = carries.is_update.id_fits; auth_fits = carries.is_update.auth_fits }; m1_is = carries.m1_is })

pub keys_of_loads : (node : Node) (request : Request) (result : Result Reply NodeFault) (after : Node) (update : Update) (authkey : List ℕ) → Builds request authkey update
    → NodeStep node (loads request) (loaded_line result) after → NodeStep node (keys update authkey) (keyed_line update.id result) after
keys_of_loads node request (Ok reply) after update authkey builds step =
    (request, builds, (step.0, step.1, sym (id_in request update 0 authkey builds) ∙ id_in request step.0 _ _ step.1.allowed.1.padded, step.3))
keys_of_loads node request (Err fault.Faulted) after update authkey builds step = (step.0, (request, builds, step.1), step.2)
keys_of_loads node request (Err fault.Down) after update authkey builds step = (request, builds, step.0, step.1)
keys_of_loads node request (Err fault.NoRoute) after update authkey builds step = (request, builds, step.0, step.1)
keys_of_loads node request (Err fault.BadLength) after update authkey builds step = (request, builds, step.0, step.1)
keys_of_loads node request (Err (fault.Key erc)) after update authkey builds step = (request, builds, step.0, step.1)
keys_of_loads node request (Err fault.Exhausted) after update authkey builds step = (request, builds, step.0, step.1)
