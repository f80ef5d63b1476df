use Rattle.std.proofs.Common.{◌≡◌, arith, rules, tests}
use Rattle.std.specs.List.{list_all}
use Rattle.std.proofs.lemmas.Iterator.{YieldsList-from_slice}
use Rattle.std.proofs.lemmas.Iterator.Search.{all_from_yields_List}
use Rattle.bus_config.specs.Names.{is_name_byte}
use Rattle.bus_config.proofs.names.is_name.Goals as goal

pub returns : goal.returns
returns c =
    let word = c.args.word.now in
    let bytes : c.all.result ≡ list_all is_name_byte word = all_from_yields_List is_name_byte _ _ c.all.result c.all.ensures.ran (YieldsList-from_slice word cc) (λ x b q k. search (rules, tests)) in
    grind (arith, bytes, c)
