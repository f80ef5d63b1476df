use Rattle.std.proofs.Common.{◌≡◌, ℕ, List, map, refl}
use Rattle.std.specs.Prelude.{string_bytes, option_map}
use Rattle.bus_port.specs.Source.{SourceState}
use Rattle.program_edge.specs.NamedSources.{Openings, openings, behind}
use Rattle.endpoint_commands.specs.Named.{word_of_form}
use Rattle.endpoint_commands.proofs.Naming.{named_earlier, left_after}
use Rattle.endpoint_commands.proofs.start.open_sources.Goals as goal

pub returns : goal.returns
returns g c =
    let words : List (List ℕ) = map string_bytes c.args.words.now in
    let o0 : Openings = openings (g.O.Opener.opened c.args.opener.now) (option_map g.I.Source.state c.args.input.now) in
    let o1 : Openings = openings (g.O.Opener.opened c.open_word-config.new.opener) (option_map g.I.Source.state c.open_word-config.new.input) in
    let o2 : Openings = openings (g.O.Opener.opened c.open_word-map.new.opener) (option_map g.I.Source.state c.open_word-map.new.input) in
    let o3 : Openings = openings (g.O.Opener.opened c.open_word-log.new.opener) (option_map g.I.Source.state c.open_word-log.new.input) in
    let o4 : Openings = openings (g.O.Opener.opened c.open_word-image.new.opener) (option_map g.I.Source.state c.open_word-image.new.input) in
    let p1 : Openings = behind (word_of_form words 0) o0 in
    let p2 : Openings = behind (word_of_form words 1) p1 in
    let p3 : Openings = behind (word_of_form words 2) p2 in
    let left1 : o1 ≡ p1 = left_after o0 o0 o1 _ (word_of_form words 0) c.open_word-config.ensures.left refl c.word_at.ensures in
    let left2 : o2 ≡ p2 = left_after o1 p1 o2 _ (word_of_form words 1) c.open_word-map.ensures.left left1 c.word_at-2.ensures in
    let left3 : o3 ≡ p3 = left_after o2 p2 o3 _ (word_of_form words 2) c.open_word-log.ensures.left left2 c.word_at-3.ensures in
    let keep1 : (next : List ℕ) (s : SourceState) → g.O.Opener.opens c.open_word-config.new.opener next s → g.O.Opener.opens c.args.opener.now next s = c.open_word-config.ensures.keeps in
    let keep2 : (next : List ℕ) (s : SourceState) → g.O.Opener.opens c.open_word-map.new.opener next s → g.O.Opener.opens c.args.opener.now next s =
    λ next s is. keep1 next s (c.open_word-map.ensures.keeps next s is) in
    let keep3 : (next : List ℕ) (s : SourceState) → g.O.Opener.opens c.open_word-log.new.opener next s → g.O.Opener.opens c.args.opener.now next s =
    λ next s is. keep2 next s (c.open_word-log.ensures.keeps next s is) in
    record {
      config_named = named_earlier _ _ o0 o0 _ (word_of_form words 0) _ (λ next s is. is) refl c.word_at.ensures c.open_word-config.ensures.named;
      map_named = named_earlier _ _ o1 p1 _ (word_of_form words 1) _ keep1 left1 c.word_at-2.ensures c.open_word-map.ensures.named;
      log_named = named_earlier _ _ o2 p2 _ (word_of_form words 2) _ keep2 left2 c.word_at-3.ensures c.open_word-log.ensures.named;
      image_named = named_earlier _ _ o3 p3 _ (word_of_form words 4) _ keep3 left3 c.word_at-4.ensures c.open_word-image.ensures.named;
      opened_once = left_after o3 p3 o4 _ (word_of_form words 4) c.open_word-image.ensures.left left3 c.word_at-4.ensures;
    }
