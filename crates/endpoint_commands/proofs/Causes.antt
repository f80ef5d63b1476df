-- The causes that bring a status: of what the sources tell or count, and of the disk
use Rattle.std.specs.Prelude.{◌≡◌, ◌≢◌, ◌⊎◌, ℕ, Option, None, Some, List, length, Result, Ok, Err}
use Rattle.std.proofs.Common.{refl, sym, ap, ◌∙◌, subst, arith, inl, inr}
use Rattle.text_lines.specs.Readings.{Fault}
use Rattle.program_edge.specs.Input.{input_fault_status, input_fault_text}
use Rattle.program_edge.specs.declared.input.InputFault.{InputFault}
use Rattle.program_edge.specs.Rows.{Row, input_row}
use Rattle.program_edge.specs.Inputs.{Lacks, Offers, CountsFault, CountsTooMuch}
use Rattle.program_edge.proofs.CallerLemmas.{Offers-whole}
use Rattle.secoc_node.specs.Words.{IsImage}
use Rattle.bus_config.specs.declared.fault.ConfigFault.{ConfigFault}
use Rattle.bus_config.specs.BusFile.{bus_of}
use Rattle.bus_config.specs.Buses.{NamedBus}
use Rattle.bus_programs.specs.BusFiles.{ReadsBus, OffersBus}
use Rattle.bus_programs.specs.Scripts.{ReadsLinesAs}
use Rattle.bus_programs.proofs.CallerLemmas.{same_bus, bus_or_fault, offered_no_fault, memory_status, ReadsCalmly, calm_unread, calm_whole, RowTells, told_first, told_second, told_fault, told_too_much}
use Rattle.bus_world.specs.Starts.{HasRoom}
use Rattle.bus_world.specs.StartAnswers.{DiskStates}
use Rattle.kept_starts.specs.KeepRows.{ComesKept, BusKeepsDisk}
use Rattle.kept_starts.proofs.CallerLemmas.{kept_complete, kept_with_room, kept_without_room}
use Rattle.bus_programs.specs.BusRoutes.{routes_of}
use Rattle.endpoint_commands.specs.declared.rules.FrameRule.{FrameRule}
use Rattle.endpoint_commands.specs.Rules.{rules_of}
use Rattle.endpoint_commands.specs.Rows.{EndpointInputs, AsksEndpoint, AsksBoot, ReadsImage, SetsEndpoint, LacksEndpointInput, of_config, of_map, of_image, HasConfigFault, HasOtherNodes, HasMapFault, HasOtherImage}
use Rattle.endpoint_commands.specs.Rows.{ComesBeforeLog, no_form, no_source, config_fault, other_nodes, map_fault, other_image, no_room, OffersNode, OffersRules, OffersImage, OffersEndpoint}
use Rattle.endpoint_commands.specs.Promises.{ComesUnlogged, of_inputs, unstarted}

-- ---- what can't be both

ok_or_err : (r : Result (List FrameRule) Fault) (rules : List FrameRule) (fault : Fault) → r ≡ Ok rules → r ≡ Err fault → ⊥
ok_or_err r rules fault ok err = cc

image_or_other : (one other : List ℕ) → one ≡ other → IsImage one → ¬ IsImage other → ⊥
image_or_other one other same is not = not (subst IsImage same is)

module _ (i : EndpointInputs) where
  -- ---- counts of the sources

  image_calm : (image : Option (List ℕ)) → ReadsImage i.words i.image image → ReadsCalmly i.image
  image_calm None (four, unread) = calm_unread i.image unread
  image_calm (Some bytes) (five, whole, is) = calm_whole i.image bytes whole

  -- what was read whole counted no fault, and no byte too many
  pub sets_calm : (bus : NamedBus) (rules : List FrameRule) (image : Option (List ℕ)) → SetsEndpoint i bus rules image → ReadsCalmly i.config × ReadsCalmly i.map × ReadsCalmly i.image
  sets_calm bus rules image (asks, (file, whole, is), one, (text, read, ok), had) = (calm_whole i.config file whole, calm_whole i.map text read, image_calm image had)

  -- the four sources, two and two
  abbrev Sources : Row → Type 0
  Sources row = RowTells row i.config i.map × RowTells row i.image i.log

  lacks_sources : (fault : InputFault) → LacksEndpointInput i fault → Sources (input_row fault)
  lacks_sources fault (of_config asks lacks map image log) =
      (told_first fault (input_fault_text fault) i.config i.map lacks (calm_unread i.map map), inr (inr (calm_unread i.image image, calm_unread i.log log)))
  lacks_sources fault (of_map (asks, (bus, (file, whole, is), one, lacks)) image log) =
      (told_second fault (input_fault_text fault) i.config i.map (calm_whole i.config file whole) lacks, inr (inr (calm_unread i.image image, calm_unread i.log log)))
  lacks_sources fault (of_image (asks, (bus, (file, whole, is), one, (rules, (text, read, ok), (boots, lacks)))) log) =
      (inr (inr (calm_whole i.config file whole, calm_whole i.map text read)), told_first fault (input_fault_text fault) i.image i.log lacks (calm_unread i.log log))

  input_sources : (row : Row) → ComesBeforeLog i row → Sources row
  input_sources _ (no_form other config map image log) =
      (inr (inr (calm_unread i.config config, calm_unread i.map map)), inr (inr (calm_unread i.image image, calm_unread i.log log)))
  input_sources _ (no_source fault lacks) = lacks_sources fault lacks
  input_sources _ (config_fault fault text (asks, (file, whole, is), (map, image, log)) told) =
      (inr (inr (calm_whole i.config file whole, calm_unread i.map map)), inr (inr (calm_unread i.image image, calm_unread i.log log)))
  input_sources _ (other_nodes (asks, (bus, (file, whole, is), other), (map, image, log))) =
      (inr (inr (calm_whole i.config file whole, calm_unread i.map map)), inr (inr (calm_unread i.image image, calm_unread i.log log)))
  input_sources _ (map_fault fault ((asks, (bus, (file, whole, is), one, (text, read, err))), (image, log))) =
      (inr (inr (calm_whole i.config file whole, calm_whole i.map text read)), inr (inr (calm_unread i.image image, calm_unread i.log log)))
  input_sources _ (other_image ((asks, (bus, (file, whole, is), one, (rules, (text, read, ok), (boots, (bytes, all, other))))), log)) =
      (inr (inr (calm_whole i.config file whole, calm_whole i.map text read)), inr (inr (calm_whole i.image bytes all, calm_unread i.log log)))
  input_sources _ (no_room (bus, rules, image, sets, u) log) =
      let (config, map, had) = sets_calm bus rules image sets in
      (inr (inr (config, map)), inr (inr (had, calm_unread i.log log)))

  row_sources : (same : Type 0) (d : DiskStates) (row : Row) → ComesUnlogged same i d row → Sources row
  row_sources same d row (of_inputs _ comes before) = input_sources row comes
  row_sources same d row (unstarted _ (bus, rules, image, sets, comes) log) =
      let (config, map, had) = sets_calm bus rules image sets in
      (inr (inr (config, map)), inr (inr (had, calm_unread i.log log)))

  -- if the count of faults of one rose, it is 5
  pub faults_5 : (same : Type 0) (d : DiskStates) (row : Row) → ComesUnlogged same i d row → CountsFault i.config ⊎ CountsFault i.map ⊎ CountsFault i.image ⊎ CountsFault i.log → row.status ≡ 5
  faults_5 same d row comes (inl config) = told_fault row i.config i.map (row_sources same d row comes).0 (inl config)
  faults_5 same d row comes (inr (inl map)) = told_fault row i.config i.map (row_sources same d row comes).0 (inr map)
  faults_5 same d row comes (inr (inr (inl image))) = told_fault row i.image i.log (row_sources same d row comes).1 (inl image)
  faults_5 same d row comes (inr (inr (inr log))) = told_fault row i.image i.log (row_sources same d row comes).1 (inr log)

  -- if too much came of one, it is 8
  pub too_much_8 : (same : Type 0) (d : DiskStates) (row : Row) → ComesUnlogged same i d row → CountsTooMuch i.config ⊎ CountsTooMuch i.map ⊎ CountsTooMuch i.image → row.status ≡ 8
  too_much_8 same d row comes (inl config) = told_too_much row i.config i.map (row_sources same d row comes).0 (inl config)
  too_much_8 same d row comes (inr (inl map)) = told_too_much row i.config i.map (row_sources same d row comes).0 (inr map)
  too_much_8 same d row comes (inr (inr image)) = told_too_much row i.image i.log (row_sources same d row comes).1 (inl image)

  -- ---- rows of both kinds

  over_inputs : (P : Row → Type 0) (same : Type 0) (d : DiskStates) → ((row : Row) → ComesBeforeLog i row → P row)
      → ((bus : NamedBus) (rules : List FrameRule) (image : Option (List ℕ)) (row : Row) → SetsEndpoint i bus rules image → ComesKept same bus d row → P row)
      → (row : Row) → ComesUnlogged same i d row → P row
  over_inputs P same d early start row (of_inputs _ comes before) = early row comes
  over_inputs P same d early start row (unstarted _ (bus, rules, image, sets, comes) log) = start bus rules image row sets comes

  -- ---- malformed words

  lacks_asks : (fault : InputFault) → LacksEndpointInput i fault → AsksEndpoint i.words
  lacks_asks fault (of_config asks lacks map image log) = asks
  lacks_asks fault (of_map (asks, over) image log) = asks
  lacks_asks fault (of_image (asks, over) log) = asks

  module _ (other : ¬ AsksEndpoint i.words) where
    early_2 : (row : Row) → ComesBeforeLog i row → row.status ≡ 2
    early_2 _ (no_form also config map image log) = refl
    early_2 _ (no_source fault lacks) = absurd (other (lacks_asks fault lacks))
    early_2 _ (config_fault fault text (asks, is, unread) told) = absurd (other asks)
    early_2 _ (other_nodes (asks, has, unread)) = absurd (other asks)
    early_2 _ (map_fault fault ((asks, over), unread)) = absurd (other asks)
    early_2 _ (other_image ((asks, over), unread)) = absurd (other asks)
    early_2 _ (no_room (bus, rules, image, sets, u) log) = absurd (other sets.0)

    pub only_2 : (same : Type 0) (d : DiskStates) (row : Row) → ComesUnlogged same i d row → row.status ≡ 2
    only_2 same d = over_inputs (λ row. row.status ≡ 2) same d early_2 (λ bus rules image row sets comes. absurd (other sets.0))

  -- ---- a bus file with a fault

  module _ (file : List ℕ) (fault : ConfigFault) (asked : AsksEndpoint i.words) (offers : Offers i.config file) (err : bus_of file ≡ Err fault) where
    none_read : (bus : NamedBus) → ReadsBus i.config bus → ⊥
    none_read bus reads = bus_or_fault i.config bus file fault reads offers err

    pub fault_unset : (bus : NamedBus) (rules : List FrameRule) (image : Option (List ℕ)) → SetsEndpoint i bus rules image → ⊥
    fault_unset bus rules image sets = none_read bus sets.1

    lacks_file : (f : InputFault) → LacksEndpointInput i f → input_fault_status f ≡ 7
    lacks_file f (of_config asks lacks map image log) = memory_status i.config file f offers lacks
    lacks_file f (of_map (asks, (bus, reads, one, lacks)) image log) = absurd (none_read bus reads)
    lacks_file f (of_image (asks, (bus, reads, one, lacks)) log) = absurd (none_read bus reads)

    early_config : (row : Row) → ComesBeforeLog i row → (row.status ≡ 3) ⊎ (row.status ≡ 7)
    early_config _ (no_form other config map image log) = absurd (other asked)
    early_config _ (no_source f lacks) = inr (lacks_file f lacks)
    early_config _ (config_fault f text has told) = inl refl
    early_config _ (other_nodes has) = inl refl
    early_config _ (map_fault f ((asks, (bus, reads, one, has)), unread)) = absurd (none_read bus reads)
    early_config _ (other_image has) = inl refl
    early_config _ (no_room over log) = inr refl

    pub config_only : (same : Type 0) (d : DiskStates) (row : Row) → ComesUnlogged same i d row → (row.status ≡ 3) ⊎ (row.status ≡ 7)
    config_only same d = over_inputs (λ row. (row.status ≡ 3) ⊎ (row.status ≡ 7)) same d early_config
        (λ bus rules image row sets comes. absurd (fault_unset bus rules image sets))

  -- ---- a bus that hasn't one node

  module _ (bus : NamedBus) (asked : AsksEndpoint i.words) (offers : OffersBus i.config bus) (other : length bus.nodes ≢ 1) where
    not_one : (found : NamedBus) → ReadsBus i.config found → length found.nodes ≡ 1 → ⊥
    not_one found reads one = other (ap (λ (b : NamedBus). length b.nodes) (sym (same_bus i.config found bus reads offers)) ∙ one)

    pub nodes_unset : (found : NamedBus) (rules : List FrameRule) (image : Option (List ℕ)) → SetsEndpoint i found rules image → ⊥
    nodes_unset found rules image sets = not_one found sets.1 sets.2

    lacks_nodes : (f : InputFault) → LacksEndpointInput i f → input_fault_status f ≡ 7
    lacks_nodes f (of_config asks lacks map image log) = memory_status i.config offers.0 f offers.1 lacks
    lacks_nodes f (of_map (asks, (found, reads, one, lacks)) image log) = absurd (not_one found reads one)
    lacks_nodes f (of_image (asks, (found, reads, one, lacks)) log) = absurd (not_one found reads one)

    early_nodes : (row : Row) → ComesBeforeLog i row → (row.status ≡ 3) ⊎ (row.status ≡ 7)
    early_nodes _ (no_form wrong config map image log) = absurd (wrong asked)
    early_nodes _ (no_source f lacks) = inr (lacks_nodes f lacks)
    early_nodes _ (config_fault f text has told) = inl refl
    early_nodes _ (other_nodes has) = inl refl
    early_nodes _ (map_fault f ((asks, (found, reads, one, has)), unread)) = absurd (not_one found reads one)
    early_nodes _ (other_image has) = inl refl
    early_nodes _ (no_room over log) = inr refl

    pub nodes_only : (same : Type 0) (d : DiskStates) (row : Row) → ComesUnlogged same i d row → (row.status ≡ 3) ⊎ (row.status ≡ 7)
    nodes_only same d = over_inputs (λ row. (row.status ≡ 3) ⊎ (row.status ≡ 7)) same d early_nodes
        (λ found rules image row sets comes. absurd (nodes_unset found rules image sets))

  -- ---- a bus of one node

  module _ (bus : NamedBus) (offered : OffersNode i bus) where
    found_is : (found : NamedBus) → ReadsBus i.config found → found ≡ bus
    found_is found reads = same_bus i.config found bus reads offered.1

    -- the bus file isn't refused
    not_faulty : (f : ConfigFault) → HasConfigFault i f → ⊥
    not_faulty f (asks, is, unread) = offered_no_fault i.config bus f offered.1 is

    not_other : HasOtherNodes i → ⊥
    not_other (asks, (found, reads, other), unread) = other (ap (λ (b : NamedBus). length b.nodes) (found_is found reads) ∙ offered.2)

    -- ---- a map with a fault

    module _ (text : List ℕ) (fault : Fault) (offers : Offers i.map text) (err : rules_of (routes_of bus) text ≡ Err fault) where
      no_rules_read : (found : NamedBus) (rules : List FrameRule) → ReadsBus i.config found → ReadsLinesAs (rules_of (routes_of found)) i.map rules → ⊥
      no_rules_read found rules reads (read, whole, ok) =
          let there : rules_of (routes_of found) read ≡ rules_of (routes_of bus) text =
          ap (λ (b : NamedBus). rules_of (routes_of b) read) (found_is found reads) ∙ ap (rules_of (routes_of bus)) (Offers-whole i.map text read offers whole) in
          ok_or_err (rules_of (routes_of found) read) rules fault ok (there ∙ err)

      pub map_unset : (found : NamedBus) (rules : List FrameRule) (image : Option (List ℕ)) → SetsEndpoint i found rules image → ⊥
      map_unset found rules image sets = no_rules_read found rules sets.1 sets.3

      lacks_map : (f : InputFault) → LacksEndpointInput i f → input_fault_status f ≡ 7
      lacks_map f (of_config asks lacks map image log) = memory_status i.config offered.1.0 f offered.1.1 lacks
      lacks_map f (of_map (asks, (found, reads, one, lacks)) image log) = memory_status i.map text f offers lacks
      lacks_map f (of_image (asks, (found, reads, one, (rules, lines, lacks))) log) = absurd (no_rules_read found rules reads lines)

      early_map : (row : Row) → ComesBeforeLog i row → (row.status ≡ 4) ⊎ (row.status ≡ 7)
      early_map _ (no_form other config map image log) = absurd (other offered.0)
      early_map _ (no_source f lacks) = inr (lacks_map f lacks)
      early_map _ (config_fault f told has is) = absurd (not_faulty f has)
      early_map _ (other_nodes has) = absurd (not_other has)
      early_map _ (map_fault f has) = inl refl
      early_map _ (other_image ((asks, (found, reads, one, (rules, lines, has))), unread)) = absurd (no_rules_read found rules reads lines)
      early_map _ (no_room over log) = inr refl

      pub map_only : (same : Type 0) (d : DiskStates) (row : Row) → ComesUnlogged same i d row → (row.status ≡ 4) ⊎ (row.status ≡ 7)
      map_only same d = over_inputs (λ row. (row.status ≡ 4) ⊎ (row.status ≡ 7)) same d early_map
          (λ found rules image row sets comes. absurd (map_unset found rules image sets))

  -- ---- a map with rules

  module _ (bus : NamedBus) (rules : List FrameRule) (offered : OffersRules i bus rules) where
    map_fine : (f : Fault) → HasMapFault i f → ⊥
    map_fine f ((asks, (found, reads, one, (read, whole, err))), unread) =
        let there : rules_of (routes_of found) read ≡ rules_of (routes_of bus) offered.1.0 =
        ap (λ (b : NamedBus). rules_of (routes_of b) read) (found_is bus offered.0 found reads) ∙ ap (rules_of (routes_of bus)) (Offers-whole i.map offered.1.0 read offered.1.1 whole) in
        ok_or_err (rules_of (routes_of found) read) rules f (there ∙ offered.1.2) err

    -- ---- an image that isn't one

    module _ (image : List ℕ) (boots : AsksBoot i.words) (offers : Offers i.image image) (other : ¬ IsImage image) where
      not_read : (found : Option (List ℕ)) → ReadsImage i.words i.image found → ⊥
      not_read None (four, unread) = omega (arith, four, boots)
      not_read (Some bytes) (five, whole, is) = image_or_other bytes image (Offers-whole i.image image bytes offers whole) is other

      pub image_unset : (found : NamedBus) (some : List FrameRule) (had : Option (List ℕ)) → SetsEndpoint i found some had → ⊥
      image_unset found some had sets = not_read had sets.4

      lacks_other : (f : InputFault) → LacksEndpointInput i f → input_fault_status f ≡ 7
      lacks_other f (of_config asks lacks map unread log) = memory_status i.config offered.0.1.0 f offered.0.1.1 lacks
      lacks_other f (of_map (asks, (found, reads, one, lacks)) unread log) = memory_status i.map offered.1.0 f offered.1.1 lacks
      lacks_other f (of_image (asks, (found, reads, one, (some, lines, (also, lacks)))) log) = memory_status i.image image f offers lacks

      early_image : (row : Row) → ComesBeforeLog i row → (row.status ≡ 3) ⊎ (row.status ≡ 7)
      early_image _ (no_form wrong config map unread log) = absurd (wrong offered.0.0)
      early_image _ (no_source f lacks) = inr (lacks_other f lacks)
      early_image _ (config_fault f told has is) = inl refl
      early_image _ (other_nodes has) = inl refl
      early_image _ (map_fault f has) = absurd (map_fine f has)
      early_image _ (other_image has) = inl refl
      early_image _ (no_room over log) = inr refl

      pub image_only : (same : Type 0) (d : DiskStates) (row : Row) → ComesUnlogged same i d row → (row.status ≡ 3) ⊎ (row.status ≡ 7)
      image_only same d = over_inputs (λ row. (row.status ≡ 3) ⊎ (row.status ≡ 7)) same d early_image
          (λ found some had row sets comes. absurd (image_unset found some had sets))

  -- ---- all that is read before the log is valid

  module _ (bus : NamedBus) (rules : List FrameRule) (image : Option (List ℕ)) (offered : OffersEndpoint i bus rules image) where
    lacks_image_at_most : (f : InputFault) (told : Option (List ℕ)) → OffersImage i told → AsksBoot i.words → Lacks i.image f → input_fault_status f ≡ 7
    lacks_image_at_most f None four boots lacks = absurd (let no : ⊥ = omega (arith, four, boots) in no)
    lacks_image_at_most f (Some bytes) (five, offers, is) boots lacks = memory_status i.image bytes f offers lacks

    lacks_valid : (f : InputFault) → LacksEndpointInput i f → input_fault_status f ≡ 7
    lacks_valid f (of_config asks lacks map unread log) = memory_status i.config offered.0.0.1.0 f offered.0.0.1.1 lacks
    lacks_valid f (of_map (asks, (found, reads, one, lacks)) unread log) = memory_status i.map offered.0.1.0 f offered.0.1.1 lacks
    lacks_valid f (of_image (asks, (found, reads, one, (some, lines, (boots, lacks)))) log) = lacks_image_at_most f image offered.1 boots lacks

    image_fine : (told : Option (List ℕ)) → OffersImage i told → HasOtherImage i → ⊥
    image_fine None four ((asks, (found, reads, one, (some, lines, (boots, has)))), log) = omega (arith, four, boots)
    image_fine (Some bytes) (five, offers, is) ((asks, (found, reads, one, (some, lines, (boots, (read, whole, other))))), log) =
        image_or_other bytes read (sym (Offers-whole i.image bytes read offers whole)) is other

    early_valid : (row : Row) → ComesBeforeLog i row → row.status ≡ 7
    early_valid _ (no_form other config map unread log) = absurd (other offered.0.0.0)
    early_valid _ (no_source f lacks) = lacks_valid f lacks
    early_valid _ (config_fault f told has is) = absurd (not_faulty bus offered.0.0 f has)
    early_valid _ (other_nodes has) = absurd (not_other bus offered.0.0 has)
    early_valid _ (map_fault f has) = absurd (map_fine bus rules offered.0 f has)
    early_valid _ (other_image has) = absurd (image_fine image offered.1 has)
    early_valid _ (no_room over log) = refl

    -- the bus that was read is the one that is offered
    pub valid_bus : (found : NamedBus) (some : List FrameRule) (had : Option (List ℕ)) → SetsEndpoint i found some had → found ≡ bus
    valid_bus found some had sets = found_is bus offered.0.0 found sets.1

    -- without room on the disk it is 9, or 7
    pub room_only : (same : Type 0) (d : DiskStates) → ¬ HasRoom bus d.before → (row : Row) → ComesUnlogged same i d row → (row.status ≡ 9) ⊎ (row.status ≡ 7)
    room_only same d none = over_inputs (λ row. (row.status ≡ 9) ⊎ (row.status ≡ 7)) same d (λ row comes. inr (early_valid row comes))
        (λ found some had row sets comes. kept_without_room same bus d row
        (subst (λ (b : NamedBus). ComesKept same b d row) (valid_bus found some had sets) comes) none)

    -- with room it is 10, or 7
    pub store_only : (same : Type 0) (d : DiskStates) → HasRoom bus d.before → (row : Row) → ComesUnlogged same i d row → (row.status ≡ 10) ⊎ (row.status ≡ 7)
    store_only same d room = over_inputs (λ row. (row.status ≡ 10) ⊎ (row.status ≡ 7)) same d (λ row comes. inr (early_valid row comes))
        (λ found some had row sets comes. kept_with_room same bus d row (subst (λ (b : NamedBus). ComesKept same b d row) (valid_bus found some had sets) comes) room)

    -- over a disk that serves it is 7
    pub valid_7 : (same : Type 0) (d : DiskStates) → BusKeepsDisk bus d → (row : Row) → ComesUnlogged same i d row → row.status ≡ 7
    valid_7 same d able = over_inputs (λ row. row.status ≡ 7) same d early_valid
        (λ found some had row sets comes. kept_complete same bus d (let one : length bus.nodes ≡ 1 = offered.0.0.2 in omega (arith, one)) row
        (subst (λ (b : NamedBus). ComesKept same b d row) (valid_bus found some had sets) comes) able)
