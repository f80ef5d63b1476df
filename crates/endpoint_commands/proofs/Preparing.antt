-- The inputs of an endpoint, put together
use Rattle.std.specs.Prelude.{◌≡◌, ◌≢◌, ℕ, Bool, true, false, List, length, codes, Option, None, Some, Result, Ok, Err, Vec}
use Rattle.std.specs.declared.alloc.Global.{Global}
use Rattle.std.proofs.Common.{refl, sym, subst, arith, inl, inr}
use Rattle.std.proofs.lemmas.Option.{same_Some, none-some}
use Rattle.text_lines.specs.Texts.{line}
use Rattle.program_edge.specs.Rows.{Row, row_of}
use Rattle.program_edge.specs.Inputs.{Reading, ReadsWhole, IsUnread}
use Rattle.secoc_node.specs.Words.{IsImage}
use Rattle.bus_config.specs.Buses.{NamedBus}
use Rattle.bus_programs.specs.BusFiles.{ReadsBus, LacksBus, no_file, file_refused}
use Rattle.bus_programs.specs.BusRoutes.{routes_of}
use Rattle.bus_programs.specs.Scripts.{LacksLines, no_lines, lines_refused, ReadsLinesAs}
use Rattle.freshness_routes.specs.declared.routes.Route.{Route}
use Rattle.bus_programs.proofs.CallerLemmas.{LacksLines-read}
use Rattle.endpoint_commands.specs.declared.rules.FrameRule.{FrameRule}
use Rattle.endpoint_commands.specs.declared.run.EndpointForm.{EndpointForm}
use Rattle.endpoint_commands.specs.declared.run.EndpointForm.TheVariants.{Plain, Boots}
use Rattle.endpoint_commands.specs.Rules.{rules_of}
use Rattle.endpoint_commands.specs.Rows.{EndpointInputs, AsksEndpoint, AsksBoot, AsksForm, does_boot, ReadsImage, of_config, of_map, of_image, ComesBeforeLog, no_source, config_fault, other_nodes, map_fault, other_image}
use Rattle.endpoint_commands.specs.Steps.{HasRules, FindsRules, LacksImage, unread_image, other_length, FindsImage}

-- a map that was read whole
pub FindsRules-read : (routes : List Route) (map : Reading) (text : List ℕ) (result : Result (Vec FrameRule Global) Row) → ReadsWhole map text → HasRules routes text result
    → FindsRules routes map result
FindsRules-read routes map text (Ok rules) whole is = (text, whole, is)
FindsRules-read routes map text (Err row) whole is = LacksLines-read (rules_of routes) map text row whole is

-- the rules of the one node's routes
pub sets_rules : (bus : NamedBus) (map : Reading) (routes : List Route) (rules : List FrameRule) → routes ≡ routes_of bus → ReadsLinesAs (rules_of routes) map rules
    → ReadsLinesAs (rules_of (routes_of bus)) map rules
sets_rules bus map routes rules is reads = subst (λ (rs : List Route). ReadsLinesAs (rules_of rs) map rules) is reads

-- ---- the rows

module _ (i : EndpointInputs) where
  pub no_bus_row : (row : Row) → AsksEndpoint i.words → LacksBus i.config row → IsUnread i.map → IsUnread i.image → IsUnread i.log → ComesBeforeLog i row
  no_bus_row _ asks (no_file fault lacks) map image log = no_source fault (of_config asks lacks map image log)
  no_bus_row _ asks (file_refused fault text is told) map image log = config_fault fault text (asks, is, (map, image, log)) told

  pub other_bus_row : (bus : NamedBus) (row : Row) → AsksEndpoint i.words → ReadsBus i.config bus → (length bus.nodes ≢ 1) × (row ≡ row_of 3 (line (codes "config: nodes")))
      → IsUnread i.map → IsUnread i.image → IsUnread i.log → ComesBeforeLog i row
  other_bus_row bus row asks reads (other, is) map image log = subst (ComesBeforeLog i) (sym is) (other_nodes (asks, (bus, reads, other), (map, image, log)))

  lacks_rules : (bus : NamedBus) (row : Row) → AsksEndpoint i.words → ReadsBus i.config bus → length bus.nodes ≡ 1 → LacksLines (rules_of (routes_of bus)) i.map row
      → IsUnread i.image → IsUnread i.log → ComesBeforeLog i row
  lacks_rules bus _ asks reads one (no_lines fault lacks) image log = no_source fault (of_map (asks, (bus, reads, one, lacks)) image log)
  lacks_rules bus _ asks reads one (lines_refused fault text whole is) image log = map_fault fault ((asks, (bus, reads, one, (text, whole, is))), (image, log))

  pub no_rules_row : (bus : NamedBus) (routes : List Route) (row : Row) → AsksEndpoint i.words → ReadsBus i.config bus → length bus.nodes ≡ 1 → routes ≡ routes_of bus
      → LacksLines (rules_of routes) i.map row → IsUnread i.image → IsUnread i.log → ComesBeforeLog i row
  no_rules_row bus routes row asks reads one is lacks image log =
      lacks_rules bus row asks reads one (subst (λ (rs : List Route). LacksLines (rules_of rs) i.map row) is lacks) image log

  -- an image that isn't had was asked for
  lacks_image : (asked : Bool) (row : Row) → FindsImage asked i.image (Err row) → (asked ≡ true) × LacksImage i.image row
  lacks_image true row lacks = (refl, lacks)
  lacks_image false row lacks = absurd lacks

  image_row : (bus : NamedBus) (rules : List FrameRule) (row : Row) → AsksEndpoint i.words → ReadsBus i.config bus → length bus.nodes ≡ 1
      → ReadsLinesAs (rules_of (routes_of bus)) i.map rules → AsksBoot i.words → LacksImage i.image row → IsUnread i.log → ComesBeforeLog i row
  image_row bus rules _ asks reads one lines boots (unread_image fault lacks) log = no_source fault (of_image (asks, (bus, reads, one, (rules, lines, (boots, lacks)))) log)
  image_row bus rules _ asks reads one lines boots (other_length bytes whole other) log =
      other_image ((asks, (bus, reads, one, (rules, lines, (boots, (bytes, whole, other))))), log)

  pub no_image_row : (bus : NamedBus) (routes : List Route) (rules : List FrameRule) (asked : Bool) (row : Row) → AsksEndpoint i.words → ReadsBus i.config bus → length bus.nodes ≡ 1
      → routes ≡ routes_of bus → ReadsLinesAs (rules_of routes) i.map rules → (asked ≡ true → length i.words ≡ 5) → FindsImage asked i.image (Err row) → IsUnread i.log → ComesBeforeLog i row
  no_image_row bus routes rules asked row asks reads one is lines boots finds log =
      let lacks = lacks_image asked row finds in
      image_row bus rules row asks reads one (sets_rules bus i.map routes rules is lines) (boots lacks.0) lacks.1 log

-- ---- what was read

pub finds_image : (words : List (List ℕ)) (source : Reading) (asked : Bool) (image : Option (List ℕ)) → AsksEndpoint words → (asked ≡ true → length words ≡ 5) → (asked ≡ false → length words ≢ 5)
    → FindsImage asked source (Ok image) → ReadsImage words source image
finds_image words source false None (inl four) boots plain unread = (four, unread)
finds_image words source false None (inr five) boots plain unread = absurd (plain refl five)
finds_image words source false (Some bytes) asks boots plain finds = absurd finds
finds_image words source true None asks boots plain finds = absurd finds
finds_image words source true (Some bytes) asks boots plain finds = (boots refl, finds.0, finds.1)

pub image_is : (words : List (List ℕ)) (source : Reading) (image : Option (List ℕ)) → ReadsImage words source image → (bytes : List ℕ) → image ≡ Some bytes → IsImage bytes
image_is words source None reads bytes is = absurd (none-some bytes is)
image_is words source (Some found) reads bytes is = subst IsImage (same_Some found bytes is) reads.2

-- ---- the form of the words

pub form_asks : (words : List (List ℕ)) (form : EndpointForm) → AsksForm words (Some form) → AsksEndpoint words
form_asks words Plain four = inl four
form_asks words Boots five = inr five

pub form_five : (words : List (List ℕ)) (form : EndpointForm) (asked : Bool) → asked ≡ does_boot form → AsksForm words (Some form) → asked ≡ true → length words ≡ 5
form_five words Plain asked is four boots = absurd (let no : ⊥ = cc in no)
form_five words Boots asked is five boots = five

pub form_four : (words : List (List ℕ)) (form : EndpointForm) (asked : Bool) → asked ≡ does_boot form → AsksForm words (Some form) → asked ≡ false → length words ≢ 5
form_four words Plain asked is four plain = λ five. let no : ⊥ = omega (arith, four, five) in no
form_four words Boots asked is five plain = absurd (let no : ⊥ = cc in no)
