use Rattle.std.proofs.Common.{◌≡◌, map, Bool, String, Global, string_bytes, ◌∙◌, rules, tests}
use Rattle.std.specs.Prelude.{bytes_eq}
use Rattle.std.specs.List.{list_all, list_any}
use Rattle.std.specs.Map.{keys_of}
use Rattle.std.proofs.lemmas.Iterator.Consumers.{YieldsList-from_rest}
use Rattle.std.proofs.lemmas.Iterator.Search.{all_from_yields_List}
use Rattle.bus_config.proofs.TableKeys.{only_known}
use Rattle.bus_config.proofs.tables.has_only.Goals as goal

pub returns : goal.returns
returns c =
    let known = map (λ k. k.now) c.args.known.now in
    let test : String Global → Bool = λ k. list_any (bytes_eq (string_bytes k)) known in
    let keys = keys_of c.args.table.now.entries in
    let all : c.all.result ≡ list_all test keys = all_from_yields_List test _ _ c.all.result c.all.ensures.ran (YieldsList-from_rest keys cc) (λ x b q k. search (rules, tests)) in
    all ∙ only_known known c.args.table.now.entries
