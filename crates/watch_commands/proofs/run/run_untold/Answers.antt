use Rattle.std.proofs.Common.{◌≡◌, ℕ, List, true, false, inl, sym, refl, ◌∙◌, map, subst}
use Rattle.std.specs.Prelude.{string_bytes, codes, None, Some}
use Rattle.program_edge.specs.Rows.{row_of}
use Rattle.program_edge.specs.Told.{EndingTold}
use Rattle.can_logs.specs.LogRuns.{LogInputs, is_only_word}
use Rattle.watch_commands.specs.declared.run.TheConstants.{HELP, VERSION}
use Rattle.watch_commands.specs.WatchRows.{asked}
use Rattle.watch_commands.specs.Words.{text_asked}
use Rattle.watch_commands.proofs.WatchPhases.{Ends-log}
use Rattle.watch_commands.proofs.run.run_untold.Goals as goal

help_asked : (words : List (List ℕ)) → is_only_word (codes "--help") words ≡ true → text_asked words ≡ Some HELP.now
help_asked words is = rw is refl

version_asked : (words : List (List ℕ)) → is_only_word (codes "--help") words ≡ false → is_only_word (codes "--version") words ≡ true
    → text_asked words ≡ Some VERSION.now
version_asked words other is = rw (other, is) refl

none_asked : (words : List (List ℕ)) → is_only_word (codes "--help") words ≡ false → is_only_word (codes "--version") words ≡ false → text_asked words ≡ None
none_asked words other another = rw (other, another) refl

pub returns-then-is_only : goal.returns-then-is_only
returns-then-is_only g c = inl (record {
  row = row_of 0 HELP.now;
  comes = asked HELP.now (help_asked (map string_bytes c.args.words.now) (sym c.is_only.ensures ∙ c.if-is_only.true)) refl refl;
  told = subst (λ (t : List ℕ). EndingTold (g.K.Sink.state c.args.sink.now) (g.K.Sink.state c.tell.new.sink) t 0 c.tell.result) c.as_bytes.ensures.value c.tell.ensures;
})

pub returns-then-is_only-2 : goal.returns-then-is_only-2
returns-then-is_only-2 g c = inl (record {
  row = row_of 0 VERSION.now;
  comes = asked VERSION.now
      (version_asked (map string_bytes c.args.words.now) (sym c.is_only.ensures ∙ c.if-is_only.false) (sym c.is_only-2.ensures ∙ c.if-is_only-2.true)) refl refl;
  told = subst (λ (t : List ℕ). EndingTold (g.K.Sink.state c.args.sink.now) (g.K.Sink.state c.tell-then-is_only-2.new.sink) t 0 c.tell-then-is_only-2.result)
      c.as_bytes-then-is_only-2.ensures.value c.tell-then-is_only-2.ensures;
})

pub watch_log-requires : goal.watch_log-requires
watch_log-requires g c =
    let words : List (List ℕ) = map string_bytes c.args.words.now in
    (c.in-Ok.ensures (g.T.Source.state c.args.log.now) (g.K.Sink.state c.args.sink.now)
    (none_asked words (sym c.is_only.ensures ∙ c.if-is_only.false) (sym c.is_only-2.ensures ∙ c.if-is_only-2.false))).1

pub returns-in-Ok : goal.returns-in-Ok
returns-in-Ok g c =
    let words : List (List ℕ) = map string_bytes c.args.words.now in
    let made = c.in-Ok.ensures (g.T.Source.state c.args.log.now) (g.K.Sink.state c.args.sink.now)
    (none_asked words (sym c.is_only.ensures ∙ c.if-is_only.false) (sym c.is_only-2.ensures ∙ c.if-is_only-2.false)) in
    let i : LogInputs = record {
      words = words;
      map = record { before = g.S.Source.state c.args.map.now; after = g.S.Source.state c.prepare.new.map };
      log = record { before = g.T.Source.state c.args.log.now; after = g.T.Source.state c.watch_log.new.log };
    } in
    Ends-log i (record { before = g.K.Sink.state c.args.sink.now; after = g.K.Sink.state c.watch_log.new.sink }) c.in-Ok.watch.mapping c.watch_log.result made.0 c.watch_log.ensures
