use Rattle.std.proofs.Common.{◌≡◌, ◌∙◌, ap, arith}
use Rattle.std.specs.Prelude.{replicate, vec_len}
use Rattle.file_disk.proofs.held_file.first_held.Goals as goal

pub returns-else-is_open-clause-none : goal.returns-else-is_open-clause-none
returns-else-is_open-clause-none c _ =
    let sized : vec_len c.truncate-else-is_open.new.self ≡ 65536 = omega (arith, c.requires, c.truncate-else-is_open.ensures.len, c.args.read.ok.0) in
    c.fill.ensures.items (λ y is. is) ∙ ap (λ n. replicate n 0) sized
