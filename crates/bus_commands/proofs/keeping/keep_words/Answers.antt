use Rattle.std.specs.Prelude.{codes}
use Rattle.std.proofs.Common.{refl, [], ◌∷◌}
use Rattle.bus_commands.proofs.keeping.keep_words.Goals as goal

pub keep_node-requires : goal.keep_node-requires
keep_node-requires g c =
    (codes "node" ∷ c.args.kept.now.bus.now ∷ c.args.kept.now.file.now ∷ c.args.kept.now.disk.now ∷ [], (refl, refl))

pub returns-clause-runs : goal.returns-clause-runs
returns-clause-runs g c =
    let asked = c.with_disk-asked.ensures (codes "node") refl in
    c.keep_node.ensures.runs (codes "node" ∷ c.args.kept.now.bus.now ∷ c.args.kept.now.file.now ∷ c.args.kept.now.disk.now ∷ [])
    (asked.names_config, asked.names_script) (refl, refl)
