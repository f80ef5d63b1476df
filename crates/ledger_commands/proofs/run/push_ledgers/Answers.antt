use Rattle.std.proofs.Common.{◌≡◌, ◌+◌, ◌++◌, [], ◌∷◌, ℕ, List, take, map, arith, sym, ap, subst, ◌∙◌, true}
use Rattle.std.specs.Prelude.{string_bytes, option_map, ◌&&◌}
use Rattle.std.proofs.lemmas.List.{map-append, length-map}
use Rattle.bus_port.specs.Source.{SourceState}
use Rattle.program_edge.specs.Inputs.{Reading}
use Rattle.program_edge.specs.NamedSources.{openings, word_source}
use Rattle.ledger_commands.proofs.Pushing.{PushedSoFar, pushed_none, pushed_at, lacked_at, pushes_all, words_more}
use Rattle.ledger_commands.proofs.run.push_ledgers.Goals as goal
use Rattle.ledger_commands.proofs.run.push_ledgers.Goals.{then-all_found, else-all_found}

pub loop-ledger-init : goal.loop-ledger-init
loop-ledger-init g c =
    let opens = g.O.Opener.opens c.args.opener.now in
    let o = openings (g.O.Opener.opened c.args.opener.now) (option_map g.I.Source.state c.args.input.now) in
    record {
      so_far = subst (λ (left : List SourceState). PushedSoFar opens opens o o c.args.task.now [] left c.args.text.now.items true)
          (sym (ap (map (word_source g.O.Opened.Source.state g.I.Source.state)) c.requires.none))
          (subst (λ (t : List ℕ). PushedSoFar opens opens o o c.args.task.now [] [] t true) (sym c.requires.blank) (pushed_none opens o c.args.task.now));
      number = c.requires.len;
      room = c.requires.room;
    }

pub returns-in-Err : goal.returns-in-Err
returns-in-Err g c =
    let state = word_source g.O.Opened.Source.state g.I.Source.state in
    let r : Reading = record { before = state c.open_word-file.result; after = state c.push_ledger-pushed.new.file } in
    lacked_at _ _ _ _ _ _ c.loop-ledger.ledger-index _ _ _ c.loop-ledger.invariant.so_far c.as_str.result.now r c.open_word-file.ensures.named
    (words_more string_bytes c.args.ledgers.now c.loop-ledger.ledger-index c.ledger-item.result c.loop-ledger-test.true c.ledger-item.is
    ∙ ap (λ (w : List ℕ). take c.loop-ledger.ledger-index (map string_bytes c.args.ledgers.now) ++ w ∷ []) (sym c.as_str.ensures.value))
    _ c.open_word-file.ensures.left _
    (ap (map state) c.push_reserved.ensures.items ∙ map-append state c.loop-ledger.files.items (c.push_ledger-pushed.new.file ∷ []))
    _ c.in-Err.refusal c.in-Err.ensures.refused

pub loop-ledger-preserved : goal.loop-ledger-preserved
loop-ledger-preserved g c =
    let state = word_source g.O.Opened.Source.state g.I.Source.state in
    let r : Reading = record { before = state c.open_word-file.result; after = state c.push_ledger-pushed.new.file } in
    let both : c.if-all_found.all_found ≡ (c.loop-ledger.all_found && c.in-Ok.found) = elim c.if-all_found.branch [
      | then-all_found w ↦ w.all_found-is ∙ sym (ap (λ b. b && c.in-Ok.found) w.if-all_found.true)
      | else-all_found w ↦ w.all_found-is ∙ w.if-all_found.false ∙ sym (ap (λ b. b && c.in-Ok.found) w.if-all_found.false)
    ] in
    record {
      so_far = pushed_at _ _ _ _ _ _ c.loop-ledger.ledger-index _ _ _ c.loop-ledger.invariant.so_far c.as_str.result.now r c.open_word-file.ensures.named
          (words_more string_bytes c.args.ledgers.now c.loop-ledger.ledger-index c.ledger-item.result c.loop-ledger-test.true c.ledger-item.is
          ∙ ap (λ (w : List ℕ). take c.loop-ledger.ledger-index (map string_bytes c.args.ledgers.now) ++ w ∷ []) (sym c.as_str.ensures.value))
          _ c.open_word-file.ensures.left _
          (ap (map state) c.push_reserved.ensures.items ∙ map-append state c.loop-ledger.files.items (c.push_ledger-pushed.new.file ∷ []))
          _ _ c.open_word-file.ensures.keeps c.in-Ok.found _ both c.in-Ok.ensures.read;
      number = c.push_reserved.ensures.len ∙ ap (λ n. n + 1) c.loop-ledger.invariant.number;
      room = omega (arith, c.loop-ledger.invariant.room, c.push_reserved.ensures.capacity);
    }

pub returns : goal.returns
returns g c =
    pushes_all _ _ _ _ _ _ _ _ _ c.loop-ledger.ledger-index (omega (arith, c.loop-ledger-test.false, c.loop-ledger.auto.ledger-index-end, length-map c.args.ledgers.now string_bytes))
    c.loop-ledger.invariant.so_far
