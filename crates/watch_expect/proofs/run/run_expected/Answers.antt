use Rattle.std.proofs.Common.{◌≡◌, ℕ, List, [], map, take, drop, inl, refl, subst, sym, ap, ◌∙◌}
use Rattle.std.specs.Prelude.{string_bytes, Option, None, Some, Ok}
use Rattle.bus_port.specs.Source.{SourceState}
use Rattle.program_edge.specs.Rows.{Row, row_of}
use Rattle.program_edge.proofs.CallerLemmas.{AppendedWell-nothing}
use Rattle.watch_commands.specs.WatchedMaps.{WatchedMap}
use Rattle.watch_commands.specs.WatchRows.{FailsOfLog, no_log}
use Rattle.watch_expect.specs.declared.texts.Difference.{Difference}
use Rattle.watch_expect.specs.Comparing.{PrintsAll, DiffersIn, holds_bytes, writes_bytes}
use Rattle.watch_expect.specs.CompareSteps.{ComparesLog}
use Rattle.watch_expect.specs.Expects.{ExpectInputs, ExpectEnding, ComesExpected}
use Rattle.watch_expect.specs.Expects as row
use Rattle.watch_expect.proofs.Comparing.{no_text, expects}
use Rattle.watch_expect.proofs.run.run_expected.Goals as goal

pub returns-in-Err : goal.returns-in-Err
returns-in-Err g c =
    let words : List (List ℕ) = map string_bytes c.args.words.now in
    let map_before : SourceState = g.S.Source.state c.args.map.now in
    let log_before : SourceState = g.T.Source.state c.args.log.now in
    let i : ExpectInputs = record {
      words = words;
      kept = record { before = g.F.Source.state c.args.kept.now; after = g.F.Source.state c.read_kept.new.kept };
      map = record { before = map_before; after = map_before };
      log = record { before = log_before; after = log_before };
    } in
    let e : ExpectEnding = record {
      errors = record { before = g.E.Sink.state c.args.errors.now; after = g.E.Sink.state c.tell_refusal.new.sink };
      status = c.tell_refusal.result;
    } in
    let (fault, lacks, is) = c.in-Err.ensures.err in
    expects i e c.in-Err.refusal (subst (ComesExpected i) (sym is) (row.no_kept fault lacks refl refl)) c.tell_refusal.ensures

pub returns-in-Err-prepare : goal.returns-in-Err-prepare
returns-in-Err-prepare g c =
    let words : List (List ℕ) = map string_bytes c.args.words.now in
    let map_before : SourceState = g.S.Source.state c.args.map.now in
    let log_before : SourceState = g.T.Source.state c.args.log.now in
    let i : ExpectInputs = record {
      words = words;
      kept = record { before = g.F.Source.state c.args.kept.now; after = g.F.Source.state c.read_kept.new.kept };
      map = record { before = map_before; after = g.S.Source.state c.prepare.new.map };
      log = record { before = log_before; after = log_before };
    } in
    let e : ExpectEnding = record {
      errors = record { before = g.E.Sink.state c.args.errors.now; after = g.E.Sink.state c.tell_refusal-in-Err-prepare.new.sink };
      status = c.tell_refusal-in-Err-prepare.result;
    } in
    let comes = c.in-Err-prepare.ensures log_before (holds_bytes []) (no_text words c.requires) in
    expects i e c.in-Err-prepare.refusal (row.fault c.in-Ok.kept.text.items 0 c.in-Err-prepare.refusal c.in-Ok.ensures.ok.1 comes) c.tell_refusal-in-Err-prepare.ensures

pub compare_log-requires : goal.compare_log-requires
compare_log-requires g c = (c.in-Ok-prepare.ensures (g.T.Source.state c.args.log.now) (holds_bytes []) (no_text (map string_bytes c.args.words.now) c.requires)).1

pub returns-in-Ok-None : goal.returns-in-Ok-None
returns-in-Ok-None g c =
    let words : List (List ℕ) = map string_bytes c.args.words.now in
    let map_before : SourceState = g.S.Source.state c.args.map.now in
    let log_before : SourceState = g.T.Source.state c.args.log.now in
    let i : ExpectInputs = record {
      words = words;
      kept = record { before = g.F.Source.state c.args.kept.now; after = g.F.Source.state c.read_kept.new.kept };
      map = record { before = map_before; after = g.S.Source.state c.prepare.new.map };
      log = record { before = log_before; after = g.T.Source.state c.compare_log.new.log };
    } in
    let e : ExpectEnding = record {
      errors = record { before = g.E.Sink.state c.args.errors.now; after = g.E.Sink.state c.args.errors.now };
      status = 0;
    } in
    let text : List ℕ = c.in-Ok.kept.text.items in
    let ((asks, (mapping, reads, is)), watched) = c.in-Ok-prepare.ensures log_before (holds_bytes []) (no_text words c.requires) in
    let none : c.in-Ok-None.field-0 ≡ None = cc in
    let prints : PrintsAll c.in-Ok-prepare.watch.mapping i.log c.as_slice.result.now =
    subst (λ (o : Option Difference). ComparesLog c.in-Ok-prepare.watch.mapping i.log c.as_slice.result.now c.compare_log.new.watch.text (Ok o)) none c.in-Ok-None.ensures in
    expects i e (row_of 0 [])
    (row.same text c.in-Ok.ensures.ok.1 (
      asks,
      (
        mapping,
        reads,
        subst (λ (m : WatchedMap). PrintsAll m i.log text) is (subst (PrintsAll c.in-Ok-prepare.watch.mapping i.log) c.as_slice.ensures.value prints),
      ),
    ))
    (inl (refl, AppendedWell-nothing (g.E.Sink.state c.args.errors.now) (g.E.Sink.state c.args.errors.now) refl))

pub returns-in-Ok-Some : goal.returns-in-Ok-Some
returns-in-Ok-Some g c =
    let words : List (List ℕ) = map string_bytes c.args.words.now in
    let map_before : SourceState = g.S.Source.state c.args.map.now in
    let log_before : SourceState = g.T.Source.state c.args.log.now in
    let i : ExpectInputs = record {
      words = words;
      kept = record { before = g.F.Source.state c.args.kept.now; after = g.F.Source.state c.read_kept.new.kept };
      map = record { before = map_before; after = g.S.Source.state c.prepare.new.map };
      log = record { before = log_before; after = g.T.Source.state c.compare_log.new.log };
    } in
    let e : ExpectEnding = record {
      errors = record { before = g.E.Sink.state c.args.errors.now; after = g.E.Sink.state c.tell_difference.new.errors };
      status = c.tell_difference.result;
    } in
    let text : List ℕ = c.in-Ok.kept.text.items in
    let n : ℕ = c.in-Ok-Some.difference.place in
    let came : List ℕ = c.rest_behind-came.result.now in
    let ((asks, (mapping, reads, is)), watched) = c.in-Ok-prepare.ensures log_before (holds_bytes []) (no_text words c.requires) in
    let some : c.in-Ok-Some.field-0 ≡ Some c.in-Ok-Some.difference = cc in
    let came_is : came ≡ drop c.in-Ok-Some.difference.from c.compare_log.new.watch.text =
    c.rest_behind-came.ensures ∙ ap (drop c.in-Ok-Some.difference.from) c.text.ensures in
    let differs : DiffersIn c.in-Ok-prepare.watch.mapping i.log c.as_slice.result.now n came =
    subst (DiffersIn c.in-Ok-prepare.watch.mapping i.log c.as_slice.result.now n) (sym came_is)
    (subst (λ (o : Option Difference). ComparesLog c.in-Ok-prepare.watch.mapping i.log c.as_slice.result.now c.compare_log.new.watch.text (Ok o)) some c.in-Ok-Some.ensures).1 in
    expects i e _
    (row.differs text n came c.in-Ok.ensures.ok.1 (
      asks,
      (
        mapping,
        reads,
        subst (λ (m : WatchedMap). DiffersIn m i.log text n came) is
            (subst (λ (t : List ℕ). DiffersIn c.in-Ok-prepare.watch.mapping i.log t n came) c.as_slice.ensures.value differs),
      ),
    ))
    c.tell_difference.ensures

pub returns : goal.returns
returns g c =
    let words : List (List ℕ) = map string_bytes c.args.words.now in
    let map_before : SourceState = g.S.Source.state c.args.map.now in
    let log_before : SourceState = g.T.Source.state c.args.log.now in
    let i : ExpectInputs = record {
      words = words;
      kept = record { before = g.F.Source.state c.args.kept.now; after = g.F.Source.state c.read_kept.new.kept };
      map = record { before = map_before; after = g.S.Source.state c.prepare.new.map };
      log = record { before = log_before; after = g.T.Source.state c.compare_log.new.log };
    } in
    let e : ExpectEnding = record {
      errors = record { before = g.E.Sink.state c.args.errors.now; after = g.E.Sink.state c.tell_refusal-in-Err-compare_log.new.sink };
      status = c.tell_refusal-in-Err-compare_log.result;
    } in
    let text : List ℕ = c.in-Ok.kept.text.items in
    let found : Row = c.in-Err-compare_log.refusal in
    let ((asks, (mapping, reads, is)), watched) = c.in-Ok-prepare.ensures log_before (holds_bytes []) (no_text words c.requires) in
    let (n, fails) = c.in-Err-compare_log.ensures in
    let fails_over : FailsOfLog mapping i.log (writes_bytes (take n text)) found =
    subst (λ (m : WatchedMap). FailsOfLog m i.log (writes_bytes (take n text)) found) is
    (subst (λ (t : List ℕ). FailsOfLog c.in-Ok-prepare.watch.mapping i.log (writes_bytes (take n t)) found) c.as_slice.ensures.value fails) in
    expects i e found (row.fault text n found c.in-Ok.ensures.ok.1 (no_log found (asks, (mapping, reads, fails_over)))) c.tell_refusal-in-Err-compare_log.ensures
