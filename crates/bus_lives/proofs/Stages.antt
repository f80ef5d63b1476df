-- What passes in lives is one run of the machine, except that between two lives every node powers up
use Rattle.std.specs.Prelude.{◌≡◌, ℕ, ◌<◌, List, [], ◌∷◌, ◌++◌, length}
use Rattle.std.proofs.Common.{◌∙◌, arith}
use Rattle.bus_machine.specs.declared.lines.Line.TheVariants.{Up}
use Rattle.bus_machine.specs.Steps.{cuts, PowersUp}
use Rattle.bus_machine.specs.Bus.{World, Step, SoundBus, node_at}
use Rattle.bus_laws.proofs.CallerLemmas.{Sound-step, Grows, Grows-step, Grows-on, Sound-bus, Grows-bus, as_many, Each, Each-map}
use Rattle.bus_lives.specs.Lives.{Stage, life_begins, moment_passes, world_at, world_behind}

-- every node powers up, and a life begins
pub record Restarts (world first : World) : Type 0 where
  pub count : length first.nodes ≡ length world.nodes
  pub power_up : (i : ℕ) → i < length world.nodes → PowersUp (node_at world i) (node_at first i)

-- the stage follows this world
abbrev pub StageStep : World → Stage → Type 0
StageStep world (life_begins first) = Restarts world first
StageStep world (moment_passes m) = Step world m.command m.line m.after

-- these stages follow it, one after another
abbrev pub StagesFrom : World → List Stage → Type 0
StagesFrom world [] = Unit {0}
StagesFrom world (stage ∷ stages) = StageStep world stage × StagesFrom (world_at stage) stages

-- a prefix of stages
stages_front : (world : World) (xs ys : List Stage) → StagesFrom world (xs ++ ys) → StagesFrom world xs
stages_front world [] ys run = tt
stages_front world (x ∷ xs) ys run = (run.0, stages_front (world_at x) xs ys run.1)

-- stages, and further ones
pub stages_join : (world : World) (xs ys : List Stage) → StagesFrom world xs → StagesFrom (world_behind world xs) ys → StagesFrom world (xs ++ ys)
stages_join world [] ys run more = more
stages_join world (x ∷ xs) ys run more = (run.0, stages_join (world_at x) xs ys run.1 more)

-- ---- one stage

pub stage_sound : (world : World) (stage : Stage) → SoundBus world → StageStep world stage → SoundBus (world_at stage)
stage_sound world (life_begins first) s step = λ i inside.
    let within : i < length world.nodes = omega (arith, inside, step.count) in
    Sound-step (node_at world i) cuts Up (node_at first i) (s i within) (step.power_up i within)
stage_sound world (moment_passes m) s step = Sound-bus world m.command m.line m.after s step

-- each node of a world goes on to the one at its place
pub record GrowsInto (world later : World) : Type 0 where
  pub count : length later.nodes ≡ length world.nodes
  pub nodes : (i : ℕ) → i < length world.nodes → Grows (node_at world i) (node_at later i)

pub stage_grows : (world : World) (stage : Stage) → SoundBus world → StageStep world stage → GrowsInto world (world_at stage)
stage_grows world (life_begins first) s step = record {
  count = step.count;
  nodes = λ i inside. Grows-step (node_at world i) cuts Up (node_at first i) (s i inside) (step.power_up i inside);
}
stage_grows world (moment_passes m) s step = record {
  count = as_many world m.command m.line m.after step;
  nodes = λ i inside. Grows-bus world m.command m.line m.after s step i inside;
}

grows_on : (a b c : World) → GrowsInto a b → GrowsInto b c → GrowsInto a c
grows_on a b c g h = record {
  count = h.count ∙ g.count;
  nodes = λ i inside. Grows-on (node_at a i) (node_at b i) (node_at c i) (g.nodes i inside) (h.nodes i (omega (arith, inside, g.count)));
}

-- ---- several

pub each_grown : (world : World) (xs : List Stage) → SoundBus world → StagesFrom world xs → Each (λ (stage : Stage). GrowsInto world (world_at stage)) xs
each_grown world [] s run = tt
each_grown world (x ∷ xs) s run =
    let one : GrowsInto world (world_at x) = stage_grows world x s run.0 in (
      one,
      Each-map (λ (stage : Stage). GrowsInto (world_at x) (world_at stage)) (λ (stage : Stage). GrowsInto world (world_at stage))
          (λ stage more. grows_on world (world_at x) (world_at stage) one more) xs
          (each_grown (world_at x) xs (stage_sound world x s run.0) run.1),
    )

-- stages that follow a sound world of n nodes
pub record ChainFrom (n : ℕ) (world : World) (xs : List Stage) : Type 0 where
  pub count : length world.nodes ≡ n
  pub sound : SoundBus world
  pub stages : StagesFrom world xs

-- stages each of which follows the one before it
abbrev pub Chained : ℕ → List Stage → Type 0
Chained n [] = Unit {0}
Chained n (x ∷ xs) = ChainFrom n (world_at x) xs

pub chain_rest : (n : ℕ) (x : Stage) (xs : List Stage) → ChainFrom n (world_at x) xs → Chained n xs
chain_rest n x [] c = tt
chain_rest n x (y ∷ ys) c = record {
  count = (stage_grows (world_at x) y c.sound c.stages.0).count ∙ c.count;
  sound = stage_sound (world_at x) y c.sound c.stages.0;
  stages = c.stages.1;
}

pub chain_behind : (n : ℕ) (done xs : List Stage) → Chained n (done ++ xs) → Chained n xs
chain_behind n [] xs c = c
chain_behind n (x ∷ done) xs c = chain_behind n done xs (chain_rest n x (done ++ xs) c)

pub chain_front : (n : ℕ) (xs ys : List Stage) → Chained n (xs ++ ys) → Chained n xs
chain_front n [] ys c = tt
chain_front n (x ∷ xs) ys c = record { count = c.count; sound = c.sound; stages = stages_front (world_at x) xs ys c.stages }
