use Rattle.std.proofs.Common.{ap, ◌∙◌, map}
use Rattle.she_aes.specs.Cipher.{add_round_key, sub_bytes, shift_rows}
use Rattle.she_aes.specs.Substitution.{inverse_by}
use Rattle.she_aes.specs.Pairs.{without_constant}
use Rattle.she_aes.specs.declared.substitution.TheConstants.{LEFT, RIGHT}
use Rattle.she_aes.proofs.PairLanes.{IsBlock-shift_rows, IsBlock-sub_bytes, rows_of_pairs, rows_substituted, substituted, last_key_added}
use Rattle.she_aes.proofs.rounds.last_round.Goals as goal

pub returns : goal.returns
returns c =
    λ k s key block key_is state_is.
    let rows = shift_rows s in
    let m = sub_bytes rows in
    let shifted = c.shift_rows-shifted.ensures ∙ ap shift_rows state_is ∙ rows_of_pairs s block in
    let out = c.inverted-substituted.ensures ∙ ap (map (inverse_by LEFT RIGHT)) shifted ∙ substituted rows (IsBlock-shift_rows s block) in
    c.add_round_key.ensures ∙ ap (add_round_key c.args.key.now) out ∙ ap (λ t. add_round_key t (without_constant m)) key_is ∙ last_key_added k m key (IsBlock-sub_bytes rows) ∙ ap (add_round_key k) (rows_substituted s block)
