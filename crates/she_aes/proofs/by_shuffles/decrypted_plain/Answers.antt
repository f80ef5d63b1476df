use Rattle.std.proofs.Common.{◌∙◌, refl, sym, ap, lit<}
use Rattle.she_aes.specs.Cipher.{add_round_key, round_keys, inv_sub_bytes, inv_shift_rows, inv_mix_columns}
use Rattle.she_aes.proofs.KeyWords.{round_keys-head}
use Rattle.she_aes.proofs.RoundSteps.{all_undone}
use Rattle.she_aes.proofs.KeyColumns.{plain_key}
use Rattle.she_aes.proofs.by_shuffles.decrypted_plain.Goals as goal

pub returns-clause-value : goal.returns-clause-value
returns-clause-value c =
    λ are. let key = c.args.key.now in
    let block = c.args.block.now in
    let k10 = plain_key key block c.args.plain.now are 9 (lit< tt) in
    let k9 = plain_key key block c.args.plain.now are 8 (lit< tt) in
    let k8 = plain_key key block c.args.plain.now are 7 (lit< tt) in
    let k7 = plain_key key block c.args.plain.now are 6 (lit< tt) in
    let k6 = plain_key key block c.args.plain.now are 5 (lit< tt) in
    let k5 = plain_key key block c.args.plain.now are 4 (lit< tt) in
    let k4 = plain_key key block c.args.plain.now are 3 (lit< tt) in
    let k3 = plain_key key block c.args.plain.now are 2 (lit< tt) in
    let k2 = plain_key key block c.args.plain.now are 1 (lit< tt) in
    let k1 = plain_key key block c.args.plain.now are 0 (lit< tt) in
    let k0 = sym (round_keys-head key are.key_is_block.size) in
    let last = (rw c.bytes.ensures.value at c.undo_last_round-s9.ensures) ∙ ap (λ k. inv_sub_bytes (inv_shift_rows (add_round_key k block))) k10 in
    c.of.ensures.value ∙ all_undone key block (round_keys key) refl last (c.undo_round-s8.ensures ∙ ap (λ k. inv_sub_bytes (inv_shift_rows (inv_mix_columns (add_round_key k c.undo_last_round-s9.result)))) k9) (c.undo_round-s7.ensures ∙ ap (λ k. inv_sub_bytes (inv_shift_rows (inv_mix_columns (add_round_key k c.undo_round-s8.result)))) k8) (c.undo_round-s6.ensures ∙ ap (λ k. inv_sub_bytes (inv_shift_rows (inv_mix_columns (add_round_key k c.undo_round-s7.result)))) k7) (c.undo_round-s5.ensures ∙ ap (λ k. inv_sub_bytes (inv_shift_rows (inv_mix_columns (add_round_key k c.undo_round-s6.result)))) k6) (c.undo_round-s4.ensures ∙ ap (λ k. inv_sub_bytes (inv_shift_rows (inv_mix_columns (add_round_key k c.undo_round-s5.result)))) k5) (c.undo_round-s3.ensures ∙ ap (λ k. inv_sub_bytes (inv_shift_rows (inv_mix_columns (add_round_key k c.undo_round-s4.result)))) k4) (c.undo_round-s2.ensures ∙ ap (λ k. inv_sub_bytes (inv_shift_rows (inv_mix_columns (add_round_key k c.undo_round-s3.result)))) k3) (c.undo_round-s1.ensures ∙ ap (λ k. inv_sub_bytes (inv_shift_rows (inv_mix_columns (add_round_key k c.undo_round-s2.result)))) k2) (c.undo_round-s0.ensures ∙ ap (λ k. inv_sub_bytes (inv_shift_rows (inv_mix_columns (add_round_key k c.undo_round-s1.result)))) k1) (c.add_round_key.ensures ∙ ap (λ k. add_round_key k c.undo_round-s0.result) k0)
