use Rattle.std.proofs.Common.{◌≡◌, ℕ, List, [], ◌∷◌, ◌++◌, ◌∙◌}
use Rattle.std.specs.List.{concat}
use Rattle.she_aes.specs.Cipher.{enc}
use Rattle.she_cmac.specs.Cmac.{cmac}
use Rattle.memory_update.proofs.Confirming.{answer_blocks}
use Rattle.memory_update.proofs.confirmation.confirm_for.Goals as goal

pair_is : (x x' y k k' z z' : List ℕ) → x ≡ x' → y ≡ enc k z → k ≡ k' → z ≡ z' → x ∷ y ∷ [] ≡ x' ∷ enc k' z' ∷ []
pair_is x x' y k k' z z' a b d e = cc

mac_is : (mac k k' x x' y y' : List ℕ) → mac ≡ cmac k (x' ++ (y' ++ [])) → k ≡ k' → x' ≡ x → y' ≡ y → mac ≡ cmac k' (concat (x ∷ y ∷ []))
mac_is mac k k' x x' y y' is key first second = cc

pub returns : goal.returns
returns c =
    let head = c.head_block-head.ensures in
    record {
      m4_is = pair_is _ _ _ _ _ _ _ head.value c.encrypt.ensures.value c.derived.ensures.schedule c.counter_block-counter.ensures.value ∙ answer_blocks c.args.uid c.args.update.now head.uid head.id head.auth c.derived.ensures.key;
      m5_is = mac_is c.cmac_of_parts-m5.result c.derived-2.result _ c.head_block-head.result c.as_slice.result.now c.encrypt.result c.as_slice-2.result.now c.cmac_of_parts-m5.ensures.value c.derived-2.ensures.schedule c.as_slice.ensures.value c.as_slice-2.ensures.value;
    }
