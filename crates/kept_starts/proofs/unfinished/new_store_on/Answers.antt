use Rattle.std.proofs.Common.{rules, ◌≡◌, ◌∙◌, ◌+◌, ℕ, List, length, get_or, ap}
use Rattle.std.proofs.lemmas.List.{take_at}
use Rattle.cell_store.specs.Layout.{base}
use Rattle.kept_starts.proofs.UnfinishedLaws.{new_bytes}
use Rattle.kept_starts.proofs.unfinished.new_store_on.Goals as goal

pub returns-in-Ok-read : goal.returns-in-Ok-read
returns-in-Ok-read g c k =
    let long : length c.read.new.out ≡ c.in_ok-bytes.bytes.len = search rules in
    let sized : length c.read.new.out ≡ (g.D.Disk.state c.in-Ok.disk).size = search rules in
    ap (λ (z : List ℕ). get_or z (base c.args.version + 32 + k) 0) (take_at c.read.new.out _ c.in_ok-bytes.bytes.len long)
    ∙ new_bytes c.args.kind c.args.version c.args.cells.now _ (g.D.Disk.state c.args.disk) (g.D.Disk.state c.in-Ok.disk) c.read.new.out
    (g.met.D.Disk.is_disk c.in-Ok.disk) c.in-Ok.ensures.formatted c.requires.zeros sized c.in-Ok-read.ensures.bytes k
