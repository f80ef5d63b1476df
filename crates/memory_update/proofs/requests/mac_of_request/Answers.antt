use Rattle.std.proofs.Common.{◌≡◌, ℕ, List, [], ◌∷◌, ◌++◌, get_or, sym, ap, ◌∙◌}
use Rattle.std.specs.List.{concat}
use Rattle.she_cmac.specs.Cmac.{cmac}
use Rattle.she_kdf.specs.Derivation.{kdf}
use Rattle.she_kdf.specs.declared.Constant.TheVariants.{Mac}
use Rattle.memory_update.specs.Messages.{request_mac}
use Rattle.memory_update.proofs.CallerLemmas.{list_of_two}
use Rattle.memory_update.proofs.requests.mac_of_request.Goals as goal

mac_is : (mac k a m1 m1' x y x' y' : List ℕ) (m2 : List (List ℕ)) → mac ≡ cmac k (m1' ++ (x' ++ (y' ++ []))) → k ≡ kdf a Mac → m1' ≡ m1 → x' ≡ x → y' ≡ y → m2 ≡ x ∷ y ∷ [] → mac ≡ request_mac a m1 m2
unfolding request_mac
mac_is mac k a m1 m1' x y x' y' m2 is key first second third both =
    let joined : mac ≡ cmac (kdf a Mac) (m1 ++ (x ++ (y ++ []))) = cc in
    joined ∙ ap (λ z. cmac (kdf a Mac) (m1 ++ concat z)) (sym both)

pub returns-clause-value : goal.returns-clause-value
returns-clause-value c =
    let m2 = c.args.m2.now in
    mac_is c.cmac_of_parts.result c.derived.result c.args.authkey.now c.args.m1.now c.as_slice.result.now (get_or m2 0 c.index-m2-0.result) (get_or m2 1 c.index-m2-1.result) c.as_slice-2.result.now c.as_slice-3.result.now m2 c.cmac_of_parts.ensures.value c.derived.ensures.schedule c.as_slice.ensures.value c.as_slice-2.ensures.value c.as_slice-3.ensures.value (list_of_two m2 c.index-m2-0.result c.index-m2-1.result c.told-m2)
