-- What a row that comes before the log says, by its status
use Rattle.std.specs.Prelude.{◌≡◌, ◌⊎◌, ◌≤◌, ℕ, ◌==◌, Bool, true, false, Option, Some, List, codes}
use Rattle.std.proofs.Common.{refl, sym, ap, subst, arith, inl, inr}
use Rattle.bus_port.specs.Source.{SourceState}
use Rattle.text_lines.specs.Readings.{Fault}
use Rattle.text_lines.specs.Texts.{line, fault_text_of}
use Rattle.program_edge.specs.declared.input.InputFault.TheVariants.{ReadFault, TooLong, Memory}
use Rattle.program_edge.specs.declared.input.InputFault.{InputFault}
use Rattle.program_edge.specs.Rows.{Row, input_row, memory_row}
use Rattle.program_edge.specs.Inputs.{IsUnread}
use Rattle.bus_config.specs.declared.fault.ConfigFault.{ConfigFault}
use Rattle.bus_config.specs.FaultTexts.{config_fault_text}
use Rattle.bus_config.specs.Buses.{NamedBus}
use Rattle.bus_world.specs.declared.start.StartFault.{StartFault}
use Rattle.bus_world.specs.Starts.{FindsRoom}
use Rattle.bus_world.specs.StartRows.{start_row}
use Rattle.bus_world.specs.StartAnswers.{DiskStates, CountsDiskFault, failed_row}
use Rattle.bus_world.proofs.CallerLemmas.{none_counted}
use Rattle.kept_starts.specs.KeepRows.{ComesKept, RefusesStart}
use Rattle.kept_starts.proofs.CallerLemmas.{kept_7, kept_9, kept_10, kept_failure, kept_status}
use Rattle.endpoint_commands.specs.declared.rules.FrameRule.{FrameRule}
use Rattle.endpoint_commands.specs.Rows.{EndpointInputs, AsksEndpoint, endpoint_usage, SetsEndpoint, OverEndpoint, LacksEndpointInput, of_config, of_map, of_image}
use Rattle.endpoint_commands.specs.Rows.{HasConfigFault, HasOtherNodes, HasMapFault, HasOtherImage, ComesBeforeLog, no_form, no_source, config_fault, other_nodes, map_fault, other_image, no_room}
use Rattle.endpoint_commands.specs.Promises.{ComesUnlogged, of_inputs, unstarted}

abbrev pub pick : Bool → Type 0 → Type 0 → Type 0
pick true one other = one
pick false one other = other

module _ (same : Type 0) (i : EndpointInputs) (d : DiskStates) where
  abbrev pub Tells2 : Row → Type 0
  Tells2 row = (row.text ≡ endpoint_usage) × (¬ AsksEndpoint i.words) × (IsUnread i.config × IsUnread i.map × IsUnread i.image × IsUnread i.log) × same

  abbrev pub Tells3 : Row → Type 0
  Tells3 row = (((fault : ConfigFault) × HasConfigFault i fault × (config_fault_text fault ≡ Some row.text))
      ⊎ ((HasOtherNodes i × (row.text ≡ line (codes "config: nodes")))
      ⊎ (HasOtherImage i × (row.text ≡ line (codes "image: length"))))) × same

  abbrev pub Tells4 : Row → Type 0
  Tells4 row = ((fault : Fault) × HasMapFault i fault × (row.text ≡ fault_text_of fault)) × same

  abbrev pub Tells5 : Row → Type 0
  Tells5 row = LacksEndpointInput i ReadFault × (row.text ≡ codes "read fault\n")

  abbrev pub Tells7 : Row → Type 0
  Tells7 row = (row ≡ memory_row) × IsUnread i.log

  abbrev pub Tells8 : Row → Type 0
  Tells8 row = LacksEndpointInput i TooLong × (row.text ≡ codes "input too long\n")

  abbrev pub Tells9 : Row → Type 0
  Tells9 row = IsUnread i.log × OverEndpoint i (λ bus rules image.
      (fault : StartFault) × FindsRoom bus d.before fault × (d.after ≡ d.before) × (row.text ≡ (start_row fault).text)) × same

  abbrev pub Tells10 : Row → Type 0
  Tells10 row = IsUnread i.log × OverEndpoint i (λ bus rules image. RefusesStart bus d (λ text. row.text ≡ text))

  abbrev pub TellsAt : ℕ → Row → Type 0
  TellsAt n row = pick (n == 2) (Tells2 row) (pick (n == 3) (Tells3 row) (pick (n == 4) (Tells4 row) (pick (n == 5) (Tells5 row)
      (pick (n == 7) (Tells7 row) (pick (n == 8) (Tells8 row) (pick (n == 9) (Tells9 row) (pick (n == 10) (Tells10 row) ⊥)))))))

  -- nothing was asked of the log
  lacks_unlogged : (fault : InputFault) → LacksEndpointInput i fault → IsUnread i.log
  lacks_unlogged fault (of_config asks lacks map image log) = log
  lacks_unlogged fault (of_map over image log) = log
  lacks_unlogged fault (of_image over log) = log

  input_tells : (row : Row) → ComesBeforeLog i row → same → TellsAt row.status row
  input_tells _ (no_form other config map image log) before = (refl, other, (config, map, image, log), before)
  input_tells _ (no_source ReadFault lacks) before = (lacks, refl)
  input_tells _ (no_source TooLong lacks) before = (lacks, refl)
  input_tells _ (no_source Memory lacks) before = (refl, lacks_unlogged Memory lacks)
  input_tells _ (config_fault fault text has told) before = (inl (fault, has, told), before)
  input_tells _ (other_nodes has) before = (inr (inl (has, refl)), before)
  input_tells _ (map_fault fault has) before = ((fault, has, refl), before)
  input_tells _ (other_image has) before = (inr (inr (has, refl)), before)
  input_tells _ (no_room over log) before = (refl, log)

  start_tells : (bus : NamedBus) (rules : List FrameRule) (image : Option (List ℕ)) → SetsEndpoint i bus rules image → (row : Row) → ComesKept same bus d row
      → IsUnread i.log → TellsAt row.status row
  start_tells bus rules image sets row comes log = elim (kept_status same bus d row comes) [
    | inl nine ↦
        let told = kept_9 same bus d row comes nine in
        subst (λ (n : ℕ). TellsAt n row) (sym nine) (log, (bus, rules, image, sets, told.0), told.1)
    | inr (inl ten) ↦ subst (λ (n : ℕ). TellsAt n row) (sym ten) (log, (bus, rules, image, sets, kept_10 same bus d row comes ten))
    | inr (inr seven) ↦ subst (λ (n : ℕ). TellsAt n row) (sym seven) (kept_7 same bus d row comes seven, log)
  ]

  pub row_tells : (row : Row) → ComesUnlogged same i d row → TellsAt row.status row
  row_tells row (of_inputs _ comes before) = input_tells row comes before
  row_tells row (unstarted _ (bus, rules, image, sets, comes) log) = start_tells bus rules image sets row comes log

  -- of a row with this status
  pub tells_at : (n : ℕ) (row : Row) → ComesUnlogged same i d row → row.status ≡ n → TellsAt n row
  tells_at n row comes is = subst (λ (m : ℕ). TellsAt m row) is (row_tells row comes)

  input_unlogged : (row : Row) → ComesBeforeLog i row → IsUnread i.log
  input_unlogged _ (no_form other config map image log) = log
  input_unlogged _ (no_source fault lacks) = lacks_unlogged fault lacks
  input_unlogged _ (config_fault fault text (asks, is, (map, image, log)) told) = log
  input_unlogged _ (other_nodes (asks, has, (map, image, log))) = log
  input_unlogged _ (map_fault fault (over, (image, log))) = log
  input_unlogged _ (other_image (over, log)) = log
  input_unlogged _ (no_room over log) = log

  row_unread : (row : Row) → ComesUnlogged same i d row → IsUnread i.log
  row_unread row (of_inputs _ comes before) = input_unlogged row comes
  row_unread row (unstarted _ over log) = log

  -- so its count of faults is as it was
  pub unlogged : (row : Row) → ComesUnlogged same i d row → i.log.after.faults ≡ i.log.before.faults
  unlogged row comes = ap (λ (s : SourceState). s.faults) (row_unread row comes)

  -- ---- the statuses

  fault_range : (fault : InputFault) → (2 ≤ (input_row fault).status) × ((input_row fault).status ≤ 11)
  fault_range ReadFault = (omega arith, omega arith)
  fault_range TooLong = (omega arith, omega arith)
  fault_range Memory = (omega arith, omega arith)

  input_range : (row : Row) → ComesBeforeLog i row → (2 ≤ row.status) × (row.status ≤ 11)
  input_range _ (no_form other config map image log) = (omega arith, omega arith)
  input_range _ (no_source fault lacks) = fault_range fault
  input_range _ (config_fault fault text has told) = (omega arith, omega arith)
  input_range _ (other_nodes has) = (omega arith, omega arith)
  input_range _ (map_fault fault has) = (omega arith, omega arith)
  input_range _ (other_image has) = (omega arith, omega arith)
  input_range _ (no_room over log) = (omega arith, omega arith)

  pub row_range : (row : Row) → ComesUnlogged same i d row → (2 ≤ row.status) × (row.status ≤ 11)
  row_range row (of_inputs _ comes before) = input_range row comes
  row_range row (unstarted _ (bus, rules, image, sets, comes) log) =
      let status = kept_status same bus d row comes in
      (omega (arith, status), omega (arith, status))

  -- ---- if the count of the disk rose, the row tells that it failed

  pub row_failure : (same → d.after ≡ d.before) → (row : Row) → ComesUnlogged same i d row → CountsDiskFault d 0 → row ≡ failed_row 0
  row_failure kept row (of_inputs _ comes before) rose = absurd (none_counted d 0 (kept before) rose)
  row_failure kept row (unstarted _ (bus, rules, image, sets, comes) log) rose = kept_failure same bus d row comes rose
