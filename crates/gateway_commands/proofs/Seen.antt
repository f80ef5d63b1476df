-- What was written of a run is written of the run as another machine sees it
use Rattle.std.specs.Prelude.{◌≡◌, ℕ, suc, Ok, Err, Result, List, [], ◌∷◌, ◌++◌, length, take}
use Rattle.std.proofs.Common.{refl, sym, ap, ◌∙◌}
use Rattle.bus_port.specs.Sink.{SinkState}
use Rattle.machine_runs.specs.Run.{Moment, seen_as, commands_in, lines_in}
use Rattle.run_driver.specs.declared.printing.Unwritten.{Unwritten}
use Rattle.run_driver.specs.Printed.{Written}

module _ {C L S T : Type 0} (state : S → T) where
  abbrev seen : List (Moment C L S) → List (Moment C L T)
  seen ms = seen_as (λ (c : C). c) state ms

  pub same_commands : (ms : List (Moment C L S)) → commands_in (seen ms) ≡ commands_in ms
  same_commands [] = refl
  same_commands (m ∷ ms) = ap (λ (cs : List C). m.command ∷ cs) (same_commands ms)

  same_lines : (ms : List (Moment C L S)) → lines_in (seen ms) ≡ lines_in ms
  same_lines [] = refl
  same_lines (m ∷ ms) = ap (λ (ls : List L). m.line ∷ ls) (same_lines ms)

  same_length : (ms : List (Moment C L S)) → length (seen ms) ≡ length ms
  same_length [] = refl
  same_length (m ∷ ms) = ap suc (same_length ms)

  pub first_commands : (ms : List (Moment C L S)) (commands : List C) → commands_in ms ≡ take (length ms) commands
      → commands_in (seen ms) ≡ take (length (seen ms)) commands
  first_commands ms commands first = same_commands ms ∙ first ∙ ap (λ (n : ℕ). take n commands) (sym (same_length ms))

  seen_more : (front : List (Moment C L S)) (last : Moment C L S) → seen (front ++ last ∷ []) ≡ seen front ++ seen (last ∷ [])
  seen_more [] last = refl
  seen_more (m ∷ ms) last = ap (λ (xs : List (Moment C L T)). seen (m ∷ []) ++ xs) (seen_more ms last)

  -- the same texts were written
  pub written_as : (text : ℕ → L → List ℕ) (ms : List (Moment C L S)) (commands : List C) (before after : SinkState) (result : Result (Unit {0}) Unwritten)
      → Written text before after commands result ms → Written text before after commands result (seen ms)
  written_as text ms commands before after (Ok done) written = (same_length ms ∙ written.0, rw (same_lines ms) written.1)
  written_as text ms commands before after (Err cause) written = record {
    front = seen written.front;
    last = record { command = written.last.command; line = written.last.line; after = state written.last.after };
    all = ap seen written.all ∙ seen_more written.front written.last;
    written = rw (same_lines written.front) (rw (same_length ms) written.written);
  }
