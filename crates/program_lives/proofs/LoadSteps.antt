-- The loads of a run of `keytool` are steps of the machine over a bus of one node
use Rattle.std.specs.Prelude.{◌≡◌, ℕ, ◌+◌, false, List, [], ◌∷◌}
use Rattle.std.proofs.Common.{refl, sym, ap}
use Rattle.std.proofs.lemmas.Bool.{false≢true}
use Rattle.std.proofs.lemmas.List.Elements.{All-head, All-tail}
use Rattle.machine_runs.specs.Run.{Run}
use Rattle.memory_update.specs.declared.messages.Request.{Request}
use Rattle.memory_update.specs.declared.messages.Update.{Update}
use Rattle.memory_update.specs.Loading.{slot_of}
use Rattle.bus_machine.specs.declared.events.Event.{Event}
use Rattle.bus_machine.specs.declared.events.Event.TheVariants as event
use Rattle.bus_machine.specs.declared.lines.Line.{Line}
use Rattle.bus_machine.specs.declared.lines.Line.TheVariants as line
use Rattle.bus_machine.specs.declared.lines.Refusal.TheVariants.{Key, MemoryFailure}
use Rattle.bus_machine.specs.Node.{Node, Kept, slot_to, powered, failed}
use Rattle.bus_machine.specs.Steps.{loads, NodeStep}
use Rattle.bus_machine.specs.Bus.{World, Moments, Step, NamesSource}
use Rattle.bus_lives.specs.Lives.{Slot, NodeLine}
use Rattle.key_commands.specs.declared.lines.LoadLine.{LoadLine}
use Rattle.key_commands.specs.declared.lines.LoadLine.TheVariants.{Loaded, Refused, Failed}
use Rattle.key_commands.specs.LoadTexts.{is_failed}
use Rattle.key_commands.specs.Answers.{Takes, AnswersRequest, AnswersEach, no_requests, one_more}
use Rattle.key_commands.specs.Loading.{NoneFailed}
use Rattle.program_lives.specs.ProgramRuns.{machine_line, AreLoads}

-- a world of this node alone, in which nothing was sent
abbrev pub alone : Node → ℕ → World
alone node n = record { nodes = node ∷ []; events = n; sent = [] }

-- what a node keeps of these slots and bounds
abbrev pub keeps : List Slot → List ℕ → Kept
keeps slots bounds = record { slots = slots; bounds = bounds }

-- what the node does is a step of the world
load_step : (node next : Node) (n : ℕ) (request : Request) (told : Line) → NamesSource (alone node n) told
    → NodeStep node (loads request) told next → Step (alone node n) (event.Load 0 request) told (alone next (n + 1))
load_step node next n request told source step = record {
  one = record { before = node; after = next; was = refl; step = step; others = refl };
  source = source;
  events = refl;
  sent = refl;
}

-- a request that is answered
answer_step : (l : NodeLine) (slots after : List Slot) (bounds : List ℕ) (n : ℕ) (request : Request) (told : LoadLine)
    → is_failed told ≡ false → AnswersRequest l.config.uid slots request told after
    → Step (alone (powered l.config (keeps slots bounds)) n) (event.Load 0 request) (machine_line told)
    (alone (powered l.config (keeps after bounds)) (n + 1))
answer_step l slots after bounds n request (Loaded reply) fine answers =
    load_step (powered l.config (keeps slots bounds)) (powered l.config (keeps after bounds)) n request
    (line.Loaded reply) tt (
      answers.0,
      record { is_up = refl; allowed = answers.1 },
      answers.2,
      ap (λ (s : List Slot). powered l.config (keeps s bounds)) answers.3,
    )
answer_step l slots after bounds n request (Refused refusal) fine answers =
    load_step (powered l.config (keeps slots bounds)) (powered l.config (keeps after bounds)) n request
    (line.Refused (Key refusal)) tt
    ((refl, answers.0), ap (λ (s : List Slot). powered l.config (keeps s bounds)) answers.1)
answer_step l slots after bounds n request Failed fine answers = absurd (false≢true (sym fine))

-- one whose update is taken, and whose put finds the disk failing
pub fails_step : (l : NodeLine) (slots : List Slot) (bounds : List ℕ) (n : ℕ) (request : Request) (update : Update)
    → Takes l.config.uid slots request update
    → Step (alone (powered l.config (keeps slots bounds)) n) (event.Load 0 request) (machine_line Failed)
    (alone (failed (slot_to update.id (slot_of update)) (powered l.config (keeps slots bounds))) (n + 1))
fails_step l slots bounds n request update taken =
    let change = slot_to update.id (slot_of update) in
    load_step (powered l.config (keeps slots bounds)) (failed change (powered l.config (keeps slots bounds))) n request
    (line.Refused MemoryFailure) tt
    (change, (update, record { is_up = refl; allowed = taken }, refl), refl)

-- ---- requests, one after another

-- a run of loads of the node that keeps these slots, after which it keeps those
pub record LoadsRun (l : NodeLine) (slots after : List Slot) (bounds : List ℕ) (requests : List Request)
    (lines : List LoadLine) (n : ℕ) : Type 0 where
  pub moments : Moments
  pub count : ℕ
  pub run : Run Step (alone (powered l.config (keeps slots bounds)) n) moments
      (alone (powered l.config (keeps after bounds)) count)
  pub are : AreLoads requests lines moments

pub loads_run : (l : NodeLine) (slots after : List Slot) (bounds : List ℕ) (requests : List Request)
    (lines : List LoadLine) (n : ℕ) → NoneFailed lines → AnswersEach l.config.uid slots requests lines after
    → LoadsRun l slots after bounds requests lines n
loads_run l _ _ bounds _ _ n fine (no_requests slots) =
    record { moments = []; count = n; run = refl; are = record { of_requests = refl; of_lines = refl } }
loads_run l _ _ bounds _ _ n fine (one_more slots mid after request requests told lines answers more) =
    let rest = loads_run l mid after bounds requests lines (n + 1)
    (All-tail (λ (t : LoadLine). is_failed t ≡ false) told lines fine) more in
    record {
      moments =
          record {
            command = event.Load 0 request;
            line = machine_line told;
            after = alone (powered l.config (keeps mid bounds)) (n + 1);
          } ∷ rest.moments;
      count = rest.count;
      run = (
        answer_step l slots mid bounds n request told (All-head (λ (t : LoadLine). is_failed t ≡ false) told lines fine)
            answers,
        rest.run,
      );
      are = record {
        of_requests = ap (λ (es : List Event). event.Load 0 request ∷ es) rest.are.of_requests;
        of_lines = ap (λ (ls : List Line). machine_line told ∷ ls) rest.are.of_lines;
      };
    }
