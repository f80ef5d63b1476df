-- How taking over entries ends, by what the printer says
use Rattle.std.proofs.Common.{◌≡◌, suc, zero, ◌∙◌, ℕ, Bool, true, false, List, [], ◌∷◌, ◌++◌, take, drop, length, refl, sym, ap, subst, inl, inr, arith}
use Rattle.std.specs.Prelude.{All, Some, Result, Ok, Err}
use Rattle.std.proofs.lemmas.Bool.{cases_Bool, true≢false}
use Rattle.std.proofs.lemmas.List.Elements.{All-append, All-take, All-pop}
use Rattle.std.proofs.Math.Seq.{take-length}
use Rattle.bus_port.specs.Sink.{SinkState}
use Rattle.program_edge.specs.Told.{AppendedWell}
use Rattle.program_edge.specs.Endings.{Ending}
use Rattle.machine_runs.specs.Run.{Moment, Run, commands_in, lines_in}
use Rattle.run_driver.specs.Printed.{texts, WrittenPart}
use Rattle.run_driver.specs.PrintedUntil.{EndsBy, PrintedUntil}
use Rattle.run_driver.specs.declared.last_line.Stop.{Stop}
use Rattle.run_driver.specs.declared.last_line.Stop.TheVariants as stop
use Rattle.run_driver.specs.declared.printing.Unwritten.{Unwritten}
use Rattle.run_driver.specs.declared.printing.Unwritten.TheVariants as unwritten
use Rattle.key_campaign.specs.declared.entries.LedgerEntry.{LedgerEntry}
use Rattle.key_campaign.specs.Entries.{IsEntry}
use Rattle.key_campaign.specs.Campaign.{SoundLedger}
use Rattle.key_campaign.specs.State.{LedgerState}
use Rattle.adopt_commands.specs.declared.lines.AdoptLine.{AdoptLine}
use Rattle.adopt_commands.specs.declared.lines.AdoptLine.TheVariants as line
use Rattle.adopt_commands.specs.AdoptTurns.{KeeperState, AdoptTurn, adopt_text, is_last_adoption}
use Rattle.adopt_commands.specs.Adoptions.{NoneLast, adopt_status, adopt_texts, AllAdopted, EndsAdopting, WritesBefore, all_adopted, not_put, cut_short, cut_and_not_put}
use Rattle.adopt_commands.proofs.AdoptLaws.{all_adopted_run, last_not_put, adopt_texts_is, entries_are, adopt_lines_are, adopt_commands_are}

failed_line : (told : AdoptLine) → is_last_adoption told ≡ true → told ≡ line.Failed
failed_line (line.Adopted entry) is = absurd (true≢false (sym is))
failed_line (line.Held entry) is = absurd (true≢false (sym is))
failed_line (line.Ahead entry counter) is = absurd (true≢false (sym is))
failed_line (line.Full entry) is = absurd (true≢false (sym is))
failed_line line.Failed is = refl

one_line : (told : AdoptLine) → is_last_adoption told ≡ false → NoneLast (told ∷ [])
one_line told isnt zero d within = isnt
one_line told isnt (suc k) d within = absurd (omega (arith, within))

abbrev ending : SinkState → SinkState → ℕ → Ending
ending before after status = record { before = before; after = after; status = status }

-- what was written of the texts if the last isn't written whole
writes_before : (before after : SinkState) (refused : Bool) (lines : List AdoptLine) (told : AdoptLine) (cause : Unwritten)
    → WrittenPart before after (adopt_texts lines) (adopt_text 0 told) cause
    → WritesBefore (ending before after (adopt_status refused (Err (stop.Unprinted cause)))) lines told
writes_before before after refused lines told unwritten.SinkFailed (rose, n, within, written) = inl (refl, rose, (n, within, written))
writes_before before after refused lines told unwritten.Memory written = inr (refl, written)

module _ (s t : KeeperState) (entries : List LedgerEntry) (before after : SinkState) (sound : SoundLedger s.ledger.campaign) (up : s.ledger.campaign.up ≡ true)
    (are : All IsEntry entries) where
  module _ (front : List (Moment LedgerEntry AdoptLine KeeperState)) (m : Moment LedgerEntry AdoptLine KeeperState) (run : Run AdoptTurn s (front ++ m ∷ []) t)
      (k : ℕ) (first : commands_in (front ++ m ∷ []) ≡ take k entries) (none : NoneLast (lines_in front)) where
    all_are : All IsEntry (commands_in (front ++ m ∷ []))
    all_are = subst (All IsEntry) (sym first) (All-take IsEntry k entries are)

    front_are : All IsEntry (commands_in front)
    front_are = (All-pop IsEntry (commands_in (front ++ m ∷ [])) (commands_in front) (Some m.command) (adopt_commands_are front m) all_are).0

    last_is : IsEntry m.command
    last_is = (All-pop IsEntry (commands_in (front ++ m ∷ [])) (commands_in front) (Some m.command) (adopt_commands_are front m) all_are).1

    stopped_last : AppendedWell before after (adopt_texts (lines_in front) ++ adopt_text 0 m.line) → is_last_adoption m.line ≡ true
        → EndsAdopting s entries t (ending before after 10)
    stopped_last written is =
        not_put (commands_in front) m.command (drop k entries) (lines_in front) refl (entries_are entries front m k first)
        (last_not_put s front m t sound up front_are last_is run none is)
        (subst (λ told. AppendedWell before after (adopt_texts (lines_in front) ++ adopt_text 0 told)) (failed_line m.line is) written)

    stopped_short : (status : ℕ) → WritesBefore (ending before after status) (lines_in front) m.line → EndsAdopting s entries t (ending before after status)
    stopped_short status written = elim (cases_Bool (is_last_adoption m.line)) [
      | inl is ↦
          cut_and_not_put (commands_in front) m.command (drop k entries) (lines_in front) (entries_are entries front m k first)
          (last_not_put s front m t sound up front_are last_is run none is)
          (subst (WritesBefore (ending before after status) (lines_in front)) (failed_line m.line is) written)
      | inr isnt ↦
          let all : NoneLast (lines_in (front ++ m ∷ [])) =
          subst NoneLast (sym (adopt_lines_are front m)) (All-append (λ told. is_last_adoption told ≡ false) (lines_in front) (m.line ∷ []) none (one_line m.line isnt)) in
          let adopted = all_adopted_run s (front ++ m ∷ []) t sound up all_are run all in
          cut_short (commands_in front) m.command (drop k entries) (lines_in front) m.line (entries_are entries front m k first)
          (subst (λ lines. AllAdopted s (commands_in front ++ m.command ∷ []) lines t) (adopt_lines_are front m)
          (subst (λ commands. AllAdopted s commands (lines_in (front ++ m ∷ [])) t) (adopt_commands_are front m) adopted))
          written
    ]

    stopped : (refused : Bool) (cause : Stop) → EndsBy is_last_adoption before after (texts adopt_text 1 (lines_in front)) m.line (adopt_text 0 m.line) cause
        → EndsAdopting s entries t (ending before after (adopt_status refused (Err cause)))
    stopped refused stop.Last (written, is) =
        stopped_last (subst (λ w. AppendedWell before after (w ++ adopt_text 0 m.line)) (adopt_texts_is 1 (lines_in front)) written) is
    stopped refused (stop.Unprinted cause) written =
        stopped_short (adopt_status refused (Err (stop.Unprinted cause)))
        (writes_before before after refused (lines_in front) m.line cause
        (subst (λ w. WrittenPart before after w (adopt_text 0 m.line) cause) (adopt_texts_is 1 (lines_in front)) written))

  pub ends_adopting : (result : Result (Unit {0}) Stop) → PrintedUntil AdoptTurn adopt_text is_last_adoption s t before after entries result
      → EndsAdopting s entries t (ending before after (adopt_status t.refused result))
  ends_adopting (Ok _) printed =
      let (many, none, written) = printed.holds in
      let all : commands_in printed.moments ≡ entries = printed.first ∙ ap (λ n. take n entries) many ∙ take-length entries in
      let adopted = all_adopted_run s printed.moments t sound up (subst (All IsEntry) (sym all) are) printed.run none in
      all_adopted (lines_in printed.moments) refl (subst (λ done. AllAdopted s done (lines_in printed.moments) t) all adopted)
      (subst (AppendedWell before after) (adopt_texts_is 1 (lines_in printed.moments)) written)
  ends_adopting (Err cause) printed =
      let last = printed.holds in
      stopped last.front last.last (subst (λ ms. Run AdoptTurn s ms t) last.all printed.run) (length printed.moments)
      (subst (λ ms. commands_in ms ≡ take (length printed.moments) entries) last.all printed.first) last.none_ends t.refused cause last.written

-- a keeper is what its parts are
pub keeper_is : (ledger other : LedgerState) (strict strict2 refused refused2 : Bool) → ledger ≡ other → strict ≡ strict2 → refused ≡ refused2
    → ◌≡◌ {A = KeeperState} (record { ledger = ledger; strict = strict; refused = refused }) (record { ledger = other; strict = strict2; refused = refused2 })
keeper_is ledger other strict strict2 refused refused2 l s r = cc
