use Rattle.std.proofs.Common.{◌≡◌, ◌≤◌, ℕ, map, length, Bool, ◌∙◌, sym, ap, arith, rules, tests}
use Rattle.std.specs.Prelude.{◌&&◌, nat_le}
use Rattle.std.specs.List.{list_all}
use Rattle.std.proofs.lemmas.Bool.{le-leb}
use Rattle.std.proofs.lemmas.List.{length-map}
use Rattle.std.proofs.lemmas.Iterator.{YieldsList-from_slice}
use Rattle.std.proofs.lemmas.Iterator.Search.{all_from_yields_List}
use Rattle.std.proofs.lemmas.List.Folds.{list_all-map}
use Rattle.toml.specs.declared.value.Value.{Value}
use Rattle.toml.specs.View.{view}
use Rattle.bus_config.specs.Values.{is_table}
use Rattle.bus_config.proofs.values.are_tables.Goals as goal

counted : (least most n : ℕ) (b : Bool) → least ≤ n → n ≤ most → b ≡ (nat_le least n && nat_le n most && b)
counted least most n b low high = grind (arith, le-leb)

pub returns : goal.returns
returns c =
    let rows = c.args.rows.now in
    let test : Value → Bool = λ v. is_table (view v) in
    let all : c.all.result ≡ list_all test rows = all_from_yields_List test _ _ c.all.result c.all.ensures.ran (YieldsList-from_slice rows cc) (λ x b q k. search (rules, tests)) in
    let low : c.args.least ≤ length rows = search rules in
    let high : length rows ≤ c.args.most = search rules in
    record {
      value =
          all ∙ sym (list_all-map is_table view rows)
          ∙ counted c.args.least c.args.most (length rows) _ low high
          ∙ ap (λ n. nat_le c.args.least n && nat_le n c.args.most && list_all is_table (map view rows)) (sym (length-map rows view));
      counted = λ is. (low, high);
    }
