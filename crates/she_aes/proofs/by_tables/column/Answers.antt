use Rattle.std.proofs.Common.{◌+◌, ◌*◌, ◌%◌, slice_index, ◌∙◌, arith}
use Rattle.she_aes.proofs.RoundTables.{entries_sum, column_is}
use Rattle.she_aes.proofs.by_tables.column.Goals as goal

pub returns : goal.returns
returns g c =
    let s = c.args.state.now in
    let k = g.row.C in
    c.to_be_bytes.ensures
    ∙ entries_sum (slice_index s (4 * k)) (slice_index s ((4 * k + 5) % 16)) (slice_index s ((4 * k + 10) % 16)) (slice_index s ((4 * k + 15) % 16)) (omega arith) (omega arith) (omega arith) (omega arith)
    ∙ column_is s k c.requires
