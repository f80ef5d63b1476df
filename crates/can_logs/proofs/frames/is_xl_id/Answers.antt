use Rattle.std.proofs.Common.{◌≡◌, ℕ, List, Bool, length, sym, ◌∙◌, ap, rules, tests}
use Rattle.std.specs.Prelude.{◌==◌, ◌&&◌}
use Rattle.std.specs.List.{list_all}
use Rattle.std.specs.Char.{is_ascii_hexdigit}
use Rattle.std.proofs.lemmas.Iterator.{YieldsList-from_slice}
use Rattle.std.proofs.lemmas.Iterator.Search.{all_from_yields_List}
use Rattle.can_logs.proofs.frames.is_xl_id.Goals as goal

pub returns : goal.returns
returns c =
    let word : List ℕ = c.args.word.now in
    let digits : c.all.result ≡ list_all is_ascii_hexdigit word = all_from_yields_List is_ascii_hexdigit _ _ c.all.result c.all.ensures.ran (YieldsList-from_slice word cc) (λ x b q k. search (rules, tests)) in
    ap (λ (b : Bool). b && (length word == 5)) (sym c.if-not-all.false ∙ digits)
