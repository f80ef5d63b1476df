use Rattle.std.proofs.Common.{ap, ◌∙◌, map}
use Rattle.she_aes.specs.Cipher.{add_round_key, sub_bytes, shift_rows, mix_columns}
use Rattle.she_aes.specs.Substitution.{first, second}
use Rattle.she_aes.specs.Pairs.{in_pairs, without_constant}
use Rattle.she_aes.specs.declared.substitution.TheConstants.{LEFT_PAIR, RIGHT_PAIR, LEFT_PAIR_DOUBLED, RIGHT_PAIR_DOUBLED}
use Rattle.she_aes.proofs.PairLanes.{IsBlock-without_constant, IsBlock-shift_rows, IsBlock-sub_bytes, IsBlock-mix_columns, rows_of_pairs, rows_substituted, substituted_once, substituted_doubled, mixed_without_constant, key_added}
use Rattle.she_aes.proofs.Substituting.{inverse_of}
use Rattle.she_aes.proofs.rounds.round.Goals as goal

pub returns : goal.returns
returns c =
    λ k s key block key_is state_is.
    let rows = shift_rows s in
    let rows_block = IsBlock-shift_rows s block in
    let m = sub_bytes rows in
    let m_block = IsBlock-sub_bytes rows in
    let shifted = c.shift_rows-shifted.ensures ∙ ap shift_rows state_is ∙ rows_of_pairs s block in
    let once = c.joined-once.ensures ∙ inverse_of LEFT_PAIR RIGHT_PAIR (in_pairs rows) (c.quotients.ensures.first ∙ ap (map first) shifted) (c.quotients.ensures.second ∙ ap (map second) shifted) ∙ substituted_once rows rows_block in
    let doubled = c.joined-doubled.ensures ∙ inverse_of LEFT_PAIR_DOUBLED RIGHT_PAIR_DOUBLED (in_pairs rows) (c.quotients.ensures.first ∙ ap (map first) shifted) (c.quotients.ensures.second ∙ ap (map second) shifted) ∙ substituted_doubled rows rows_block in
    let mixed = c.mix_columns.ensures (without_constant m) (IsBlock-without_constant m m_block) once doubled ∙ ap in_pairs (mixed_without_constant m m_block) in
    c.add_round_key.ensures ∙ ap (add_round_key c.args.key.now) mixed ∙ ap (λ t. add_round_key t (in_pairs (without_constant (mix_columns m)))) key_is ∙ key_added k (mix_columns m) key (IsBlock-mix_columns m m_block) ∙ ap (λ t. in_pairs (add_round_key k (mix_columns t))) (rows_substituted s block)
