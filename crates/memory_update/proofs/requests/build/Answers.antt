use Rattle.std.proofs.Common.{◌≡◌, ℕ, ◌+◌, ◌*◌, ◌^◌, ◌<◌, List, [], ◌∷◌, sym, ap, ◌∙◌, arith}
use Rattle.std.proofs.lemmas.List.Elements.{All-head, All-tail}
use Rattle.basics.specs.Numbers.{bytes_of}
use Rattle.basics.specs.Blocks.{IsBlock}
use Rattle.she_aes.specs.Modes.{cbc}
use Rattle.key_slots.specs.Flags.{flags_number}
use Rattle.memory_update.specs.Messages.{two_blocks, plain}
use Rattle.memory_update.proofs.CallerLemmas.{plain_blocks}
use Rattle.memory_update.specs.declared.messages.Update.{Update}
use Rattle.memory_update.proofs.requests.build.Goals as goal

sealed : (m2 t t' : List (List ℕ)) (k k' z z' : List ℕ) → m2 ≡ cbc k z t → k ≡ k' → z ≡ z' → t ≡ t' → m2 ≡ cbc k' z' t'
sealed m2 t t' k k' z z' a b d e = cc

-- the plain text of a request that is built
built_text : (u : Update) (first : List ℕ) → first ≡ bytes_of 16 (u.counter * 2 ^ 100 + flags_number u.flags * 2 ^ 95) → u.counter < 2 ^ 28 → IsBlock u.key → first ∷ u.key ∷ [] ≡ two_blocks (plain u 0)
built_text u first is counter_fits is_key =
    let sum : u.counter * 2 ^ 100 + flags_number u.flags * 2 ^ 95 ≡ u.counter * 2 ^ 100 + flags_number u.flags * 2 ^ 95 + 0 = omega arith in
    ap (λ x. x ∷ u.key ∷ []) (is ∙ ap (bytes_of 16) sum) ∙ sym (plain_blocks u 0 counter_fits (omega arith) is_key)

pub returns : goal.returns
returns c =
    let u = c.args.update.now in
    let is_key : IsBlock u.key = All-head IsBlock u.key [] (All-tail IsBlock c.plain_block.result (u.key ∷ []) c.cbc_encrypt-m2.ensures.of_blocks) in
    record {
      is_update = record { is_uid = c.head_block-m1.ensures.uid; id_fits = c.head_block-m1.ensures.id; auth_fits = c.head_block-m1.ensures.auth; counter_fits = c.plain_block.ensures.fits; is_key = is_key };
      m1_is = c.head_block-m1.ensures.value;
      m2_is = sealed _ _ _ _ _ _ _ c.cbc_encrypt-m2.ensures.value c.derived.ensures.schedule c.zero.ensures.value (built_text u c.plain_block.result c.plain_block.ensures.value c.plain_block.ensures.fits is_key);
      m3_is = c.mac_of_request-m3.ensures.value;
    }
