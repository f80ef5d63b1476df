use Rattle.std.proofs.Common.{refl, ◌∙◌}
use Rattle.std.specs.Int.{w16}
use Rattle.basics.specs.Numbers.{bytes_of}
use Rattle.basics.proofs.CallerLemmas.{to_be_bytes-is}
use Rattle.cell_store.specs.Layout.{header}
use Rattle.cell_store.proofs.layout.header.Goals as goal

pub returns : goal.returns
unfolding header bytes_of
returns c = rw (c.to_be_bytes.ensures ∙ to_be_bytes-is w16 c.args.cells, c.kind_byte-kind.ensures, c.version_byte-version.ensures) refl
