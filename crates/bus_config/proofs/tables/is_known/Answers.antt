use Rattle.std.proofs.Common.{◌≡◌, ℕ, List, Bor, Bool, ◌∙◌, sym, rules, tests}
use Rattle.std.specs.Prelude.{bytes_eq}
use Rattle.std.specs.List.{list_any}
use Rattle.std.proofs.lemmas.Iterator.{YieldsList-from_slice}
use Rattle.std.proofs.lemmas.Iterator.Search.{any_from_yields_List}
use Rattle.bus_config.proofs.TableKeys.{list_any-map}
use Rattle.bus_config.proofs.tables.is_known.Goals as goal

pub returns : goal.returns
returns c =
    let known = c.args.known.now in
    let test : Bor (List ℕ) → Bool = λ one. bytes_eq c.args.key.now one.now in
    let found : c.any.result ≡ list_any test known = any_from_yields_List test _ _ c.any.result c.any.ensures.ran (YieldsList-from_slice known cc) (λ x b q k. search (rules, tests)) in
    found ∙ sym (list_any-map (bytes_eq c.args.key.now) (λ k. k.now) known)
