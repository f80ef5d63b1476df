use Rattle.std.proofs.Common.{refl, ap, ◌∙◌}
use Rattle.she_aes.specs.Cipher.{xor_blocks, add_round_key, sub_bytes, shift_rows, circulant, mix_columns}
use Rattle.she_aes.proofs.RoundTables.{by_columns}
use Rattle.she_aes.proofs.by_tables.round.Goals as goal

pub returns : goal.returns
unfolding add_round_key mix_columns circulant
returns c =
    let mixed = mix_columns (shift_rows (sub_bytes c.args.state.now)) in
    c.xor.ensures ∙ ap (λ s. xor_blocks s c.args.key.now) (by_columns mixed c.column.result c.column-2.result c.column-3.result c.column-4.result refl c.column.ensures c.column-2.ensures c.column-3.ensures c.column-4.ensures)
