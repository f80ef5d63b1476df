use Rattle.std.proofs.Common.{◌≡◌}
use Rattle.std.specs.Prelude.{codes}
use Rattle.bus_commands.proofs.AskedWords.{four_replay, beside_named}
use Rattle.bus_commands.proofs.words.with_disk.Goals as goal

pub returns : goal.returns
returns c name asks =
    four_replay name c.args.bus.now c.args.file.now c.args.disk.now c.args.start _ asks
    (λ node. beside_named (λ w. w.now) c.beside-script.result c.args.bus.now c.args.file.now (name ≡ codes "node") node c.beside-script.ensures.some c.beside-script.ensures.none)
