-- A comparison, from line to line of the log
use Rattle.std.proofs.Common.{◌≡◌, ℕ, ◌<◌, ◌≤◌, List, [], ◌∷◌, ◌++◌, length, take, drop, refl, sym, ap, ◌∙◌, subst, arith, inl, inr, append_assoc}
use Rattle.std.specs.Prelude.{Option, None, Some, Ok, Err}
use Rattle.std.proofs.lemmas.Grind.{flat_map-append}
use Rattle.std.proofs.lemmas.Option.{same_Some}
use Rattle.std.proofs.lemmas.List.{length-take-le}
use Rattle.std.proofs.Math.ListN.{drop_of_length-le}
use Rattle.program_edge.specs.Told.{AppendedWell, EndingTold}
use Rattle.program_edge.specs.Inputs.{Reading, ReadsWhole}
use Rattle.program_edge.specs.declared.input.InputFault.{InputFault}
use Rattle.program_edge.specs.declared.input.InputFault.TheVariants as input
use Rattle.program_edge.specs.Input.{input_fault_status}
use Rattle.program_edge.specs.Rows.{Row, row_of}
use Rattle.bus_port.specs.Sink.{SinkState}
use Rattle.can_logs.specs.LogRuns.{LogInputs, Writing, WritesWhole, log_failed_text, log_too_long_text}
use Rattle.line_stream.specs.Pieces.{log_lines}
use Rattle.line_stream.specs.Streams.{TakesLines, Paused, EndsStream, StopsStream, Streamed}
use Rattle.line_stream.specs.declared.driver.StreamFault.{StreamFault}
use Rattle.line_stream.specs.declared.driver.StreamFault.TheVariants as stream
use Rattle.line_stream.proofs.CallerLemmas.{TakesLines-keeps, Paused-keeps}
use Rattle.watch_commands.specs.WatchedMaps.{WatchedMap}
use Rattle.watch_commands.specs.States.{WatchState, IsFreshWatch, Watched, end_text}
use Rattle.watch_commands.specs.Watching.{Found, WatchesEach, FindsComplete, FindsAll, found_text, told_text}
use Rattle.watch_commands.specs.LogTotals.{totals_text}
use Rattle.watch_commands.specs.Words.{AsksWatch, text_asked}
use Rattle.watch_commands.specs.WatchRows.{OverMap, ComesOnErrors, no_form, no_map, map_fault, no_log, FailsOfLog, failed, too_long}
use Rattle.watch_commands.proofs.CallerLemmas.{asks_no_text, Watched-none, Watched-text, WatchedMore, WatchedMore-none, WatchedMore-more, finds_lines, text_at_end}
use Rattle.watch_expect.specs.declared.texts.Difference.{Difference}
use Rattle.watch_expect.specs.Comparing.{difference_text, LeavesAt, PrintsAll, DiffersIn, goes_on, ends, holds_bytes, writes_bytes}
use Rattle.watch_expect.specs.Comparing as differs
use Rattle.watch_expect.specs.CompareSteps.{EndsAsKept, ComparesLog, WatchAtText, ComparesLine, FollowsFound, EndsFound}
use Rattle.watch_expect.specs.Expects.{ExpectInputs, ExpectEnding, watched_of, kept_row, ComesExpected, Expects}
use Rattle.watch_expect.specs.Expects as row

-- words that ask for a watch ask for no text
none_of : (asked : Option (List ℕ)) → ((text : List ℕ) → asked ≡ Some text → ⊥) → asked ≡ None
none_of None never = refl
none_of (Some text) never = absurd (never text refl)

pub no_text : (words : List (List ℕ)) → AsksWatch words → text_asked words ≡ None
no_text words asks = none_of (text_asked words) (λ text is. asks_no_text words text asks is)

-- ---- what was printed, as the first bytes of the text

pub well_more : (some more all : List ℕ) → all ≡ some ++ more → AppendedWell (holds_bytes some) (holds_bytes all) more
well_more some more all is = (
  refl,
  record {
    grown = λ held told. ap Some (is ∙ ap (λ (t : List ℕ). t ++ more) (same_Some some held told));
    later = omega arith;
  },
)

-- what is printed of the whole log, and the text
ended_as : (mapping : WatchedMap) (log : Reading) (text : List ℕ) (at : ℕ) (found left : List ℕ) (end : Option Difference) → left ≡ found
    → ((t : List ℕ) → t ≡ take at text ++ found → PrintsAll mapping log t) → EndsAsKept text at found end → ComparesLog mapping log text left (Ok end)
ended_as mapping log text at found left None left_is prints is = prints text is
ended_as mapping log text at found left (Some d) left_is prints (few, inl leaves, behind) =
    (few, differs.at_end (take at text ++ found) (prints (take at text ++ found) refl) leaves (ap (drop d.from) left_is ∙ behind))
ended_as mapping log text at found left (Some d) left_is prints (few, inr (less, is), behind) = (
  few,
  ends (prints (take d.place text) is) less
      (ap (drop d.from) left_is ∙ behind ∙ ap (drop d.place) (sym is) ∙ drop_of_length-le (take d.place text) (omega (arith, length-take-le d.place text few))),
)

-- ---- the log

-- at a pause what is found of all complete lines is the first bytes of the text
record SoFarSame (mapping : WatchedMap) (text bytes : List ℕ) (lines : List (List ℕ)) (p : WatchAtText) : Type 0 where
  pub same : p.watch.mapping ≡ mapping
  pub text_is : p.text ≡ text
  pub findings : List Found
  pub watched : Watched p.watch lines findings
  pub no_text : p.watch.text ≡ []
  pub printed : take p.at text ≡ found_text mapping findings
  pub finds : FindsComplete mapping.lines bytes findings

module _ (fresh : WatchState) (text : List ℕ) (is_fresh : IsFreshWatch fresh) where
  abbrev mapping : WatchedMap
  mapping = fresh.mapping

  abbrev begun : WatchAtText
  begun = record { watch = fresh; text = text; at = 0 }

  complete : (bytes : List ℕ) (lines : List (List ℕ)) (rest : List ℕ) (findings : List Found) → log_lines bytes ≡ lines ++ rest ∷ [] → WatchesEach mapping.lines lines findings
      → FindsComplete mapping.lines bytes findings
  complete bytes lines rest findings cut finds = record { lines = lines; rest = rest; cut = cut; finds = finds }

  before_lines : SoFarSame mapping text [] [] begun
  before_lines =
      let w = Watched-none fresh is_fresh in
      record {
        same = refl;
        text_is = refl;
        findings = [];
        watched = w;
        no_text = is_fresh.no_text;
        printed = refl;
        finds = complete [] [] [] [] refl w.finds;
      }

  -- what is found of the lines after a pause
  abbrev Held : List Found → ℕ → List (List ℕ) → WatchAtText → Type 0
  Held first at lines p = WatchedMore mapping first lines p.watch × (p.text ≡ text) × (p.at ≡ at)

  lines_held : (lines more : List (List ℕ)) (bytes : List ℕ) (p q : WatchAtText) (so_far : SoFarSame mapping text bytes lines p) → TakesLines ComparesLine (length lines) p more q
      → Held so_far.findings p.at (lines ++ more) q
  lines_held lines more bytes p q so_far taken =
      TakesLines-keeps ComparesLine (Held so_far.findings p.at)
      (λ before s line t held next. (WatchedMore-more mapping so_far.findings before s.watch line t.watch held.0 next.0, next.1 ∙ held.1, next.2 ∙ held.2)) lines more p q
      (WatchedMore-none mapping so_far.findings lines p.watch so_far.same so_far.watched so_far.no_text, so_far.text_is, refl) taken

  -- what was found before the lines, and of them
  both_found : (lines all : List (List ℕ)) (bytes : List ℕ) (p : WatchAtText) (state : WatchState) (so_far : SoFarSame mapping text bytes lines p) (w : WatchedMore mapping so_far.findings all state)
      → take p.at text ++ state.text ≡ found_text mapping (so_far.findings ++ w.found)
  both_found lines all bytes p state so_far w =
      ap (λ (t : List ℕ). t ++ state.text) so_far.printed ∙ ap (λ (t : List ℕ). found_text mapping so_far.findings ++ t) w.text_is
      ∙ sym (flat_map-append (told_text mapping.options) so_far.findings w.found)

  at_each : (bytes piece : List ℕ) (lines more : List (List ℕ)) (rest : List ℕ) (p q v : WatchAtText) → SoFarSame mapping text bytes lines p → length piece ≤ 4096
      → log_lines (bytes ++ piece) ≡ (lines ++ more) ++ rest ∷ [] → TakesLines ComparesLine (length lines) p more q → FollowsFound q v (Ok tt)
      → SoFarSame mapping text (bytes ++ piece) (lines ++ more) v
  at_each bytes piece lines more rest p q v so_far short cut taken (text_same, follows, begins) =
      let (w, text_is, at_is) = lines_held lines more bytes p q so_far taken in
      let findings : List Found = so_far.findings ++ w.found in
      let next : take v.at text ≡ take p.at text ++ q.watch.text =
      subst (λ (n : ℕ). take v.at text ≡ take n text ++ q.watch.text) at_is (subst (λ (t : List ℕ). take v.at t ≡ take q.at t ++ q.watch.text) text_is follows) in
      record {
        same = ap (λ (s : WatchState). s.mapping) begins ∙ w.same;
        text_is = text_same ∙ text_is;
        findings = findings;
        watched = subst (λ (s : WatchState). Watched s (lines ++ more) findings) (sym begins) (Watched-text q.watch [] (lines ++ more) findings w.watched);
        no_text = ap (λ (s : WatchState). s.text) begins;
        printed = next ∙ both_found lines (lines ++ more) bytes p q.watch so_far w;
        finds = complete (bytes ++ piece) (lines ++ more) rest findings cut (finds_lines mapping (lines ++ more) q.watch findings w.same w.watched);
      }

  at_pause : (bytes : List ℕ) (lines : List (List ℕ)) (p : WatchAtText) → Paused ComparesLine FollowsFound begun bytes lines p → SoFarSame mapping text bytes lines p
  at_pause = Paused-keeps ComparesLine FollowsFound begun (SoFarSame mapping text) before_lines at_each

  module _ (log : Reading) (now : WatchAtText) where
    -- the log ended
    log_ends : (end : Option Difference) → EndsStream ComparesLine FollowsFound EndsFound log begun now end → ComparesLog mapping log text now.watch.text (Ok end)
    log_ends end d = elim d.ended [
      | inr stopped ↦ absurd stopped
      | inl (taken, takes_last, (ended, left_is)) ↦
          let so_far = at_pause d.bytes d.lines d.before d.paused in
          let (w, text_is, at_is) = lines_held d.lines (d.last ∷ []) d.bytes d.before taken so_far (taken, takes_last, refl) in
          let all : List (List ℕ) = d.lines ++ d.last ∷ [] in
          let findings : List Found = so_far.findings ++ w.found in
          let totals : List ℕ = totals_text mapping findings in
          let found : List ℕ = found_text mapping w.found ++ totals in
          let kept : EndsAsKept text d.before.at found end =
          subst (λ (f : List ℕ). EndsAsKept text d.before.at f end) (text_at_end mapping so_far.findings all taken.watch w)
          (subst (λ (n : ℕ). EndsAsKept text n (taken.watch.text ++ end_text taken.watch) end) at_is
          (subst (λ (t : List ℕ). EndsAsKept t taken.at (taken.watch.text ++ end_text taken.watch) end) text_is ended)) in
          let whole_is : take d.before.at text ++ found ≡ found_text mapping findings ++ totals =
          ap (λ (t : List ℕ). t ++ found) so_far.printed ∙ sym (append_assoc (found_text mapping so_far.findings) (found_text mapping w.found) totals)
          ∙ ap (λ (t : List ℕ). t ++ totals) (sym (flat_map-append (told_text mapping.options) so_far.findings w.found)) in
          let finds : FindsAll mapping.lines d.bytes findings =
          subst (λ (ls : List (List ℕ)). WatchesEach mapping.lines ls findings) (sym d.cut) (finds_lines mapping all taken.watch findings w.same w.watched) in
          ended_as mapping log text d.before.at found now.watch.text end (left_is ∙ text_at_end mapping so_far.findings all taken.watch w) (λ t is. (d.bytes, findings, d.read, finds, is ∙ whole_is)) kept
    ]

    -- what is found of a piece leaves the text
    log_leaves : (end : Option Difference) → StopsStream ComparesLine FollowsFound log begun now end → ComparesLog mapping log text now.watch.text (Ok end)
    log_leaves end d = elim d.stops [
      | inr (some, stopped) ↦ absurd stopped
      | inl (none, (difference, end_is, few, leaves, behind)) ↦
          let n : ℕ = difference.place in
          let so_far = at_pause d.bytes d.lines d.before d.paused in
          let (w, text_is, at_is) = lines_held d.lines d.more d.bytes d.before d.taken so_far d.takes_more in
          let all : List (List ℕ) = d.lines ++ d.more in
          let findings : List Found = so_far.findings ++ w.found in
          let leaves_here : LeavesAt text (take d.before.at text ++ d.taken.watch.text) n =
          subst (λ (m : ℕ). LeavesAt text (take m text ++ d.taken.watch.text) n) at_is
          (subst (λ (t : List ℕ). LeavesAt t (take d.taken.at t ++ d.taken.watch.text) n) text_is leaves) in
          let behind_here : drop difference.from now.watch.text ≡ drop n (take d.before.at text ++ d.taken.watch.text) =
          subst (λ (m : ℕ). drop difference.from now.watch.text ≡ drop n (take m text ++ d.taken.watch.text)) at_is
          (subst (λ (t : List ℕ). drop difference.from now.watch.text ≡ drop n (take d.taken.at t ++ d.taken.watch.text)) text_is behind) in
          subst (λ (e : Option Difference). ComparesLog mapping log text now.watch.text (Ok e)) (sym end_is) (
            subst (λ (t : List ℕ). n ≤ length t) text_is few,
            goes_on (d.bytes ++ d.piece) findings d.came d.calm
                (complete (d.bytes ++ d.piece) all d.rest findings (subst (λ (b : List (List ℕ)). log_lines (d.bytes ++ d.piece) ≡ all ++ d.rest ∷ b) none d.cut)
                (finds_lines mapping all d.taken.watch findings w.same w.watched))
                (subst (λ (t : List ℕ). LeavesAt text t n) (both_found d.lines all d.bytes d.before d.taken.watch so_far w) leaves_here)
                (behind_here ∙ ap (drop n) (both_found d.lines all d.bytes d.before d.taken.watch so_far w)),
          )
    ]

    -- a log that was taken to its end, or until the texts part
    pub Compares-taken : (end : Option Difference) → Streamed ComparesLine FollowsFound EndsFound log begun now (Ok end) → ComparesLog mapping log text now.watch.text (Ok end)
    Compares-taken end (inl at_its_end) = log_ends end at_its_end
    Compares-taken end (inr before_it) = log_leaves end before_it

    pub Compares-failed : (fault : StreamFault) → fault ≡ stream.ReadFault → Streamed ComparesLine FollowsFound EndsFound log begun now (Err fault)
        → (n : ℕ) × FailsOfLog mapping log (writes_bytes (take n text)) (row_of 5 log_failed_text)
    Compares-failed fault is streamed =
        let d = subst (λ (f : StreamFault). Streamed ComparesLine FollowsFound EndsFound log begun now (Err f)) is streamed in
        let so_far = at_pause d.bytes d.lines now d.paused in
        (now.at, failed d.bytes so_far.findings d.came so_far.finds d.holds (well_more [] (found_text mapping so_far.findings) (take now.at text) so_far.printed))

    pub Compares-too_long : (fault : StreamFault) → fault ≡ stream.TooLong → Streamed ComparesLine FollowsFound EndsFound log begun now (Err fault)
        → (n : ℕ) × FailsOfLog mapping log (writes_bytes (take n text)) (row_of 8 log_too_long_text)
    Compares-too_long fault is streamed =
        let d = subst (λ (f : StreamFault). Streamed ComparesLine FollowsFound EndsFound log begun now (Err f)) is streamed in
        let so_far = at_pause d.bytes d.lines now d.paused in
        (now.at, too_long d.bytes so_far.findings d.came so_far.finds d.holds.0 d.holds.1 (well_more [] (found_text mapping so_far.findings) (take now.at text) so_far.printed))

-- ---- the table

-- a fault has a status of its own
fault_status : (fault : InputFault) → 1 < input_fault_status fault
fault_status input.ReadFault = omega arith
fault_status input.TooLong = omega arith
fault_status input.Memory = omega arith

kept_status : (fault : InputFault) → 1 < (kept_row fault).status
kept_status input.ReadFault = omega arith
kept_status input.TooLong = omega arith
kept_status input.Memory = omega arith

log_status : (mapping : WatchedMap) (log : Reading) (output : Writing) (row : Row) → FailsOfLog mapping log output row → 1 < row.status
log_status mapping log output _ (failed bytes findings came finds rose writes) = omega arith
log_status mapping log output _ (too_long bytes findings came finds calm long writes) = omega arith

error_status : (i : LogInputs) (output : Writing) (row : Row) → ComesOnErrors i output row → 1 < row.status
error_status i output _ (no_form other no_asked map log unwritten) = omega arith
error_status i output _ (no_map fault asks lacks log unwritten) = fault_status fault
error_status i output _ (map_fault fault asks is log unwritten) = omega arith
error_status i output _ (no_log row (asks, (mapping, reads, fails))) = log_status mapping i.log output row fails

-- an ending with this status has a row with it, that was told whole
told_whole : (before after : SinkState) (text : List ℕ) (status answer n : ℕ) → EndingTold before after text status answer → answer ≡ n → n < 6
    → (status ≡ n) × AppendedWell before after text
told_whole before after text status answer n (inl (is, well)) at less = (sym is ∙ at, well)
told_whole before after text status answer n (inr (six, rose, part)) at less = absurd (omega (arith, six, at, less))

same_at : (i : ExpectInputs) (e : ExpectEnding) (found : Row) → ComesExpected i found → (found.status ≡ 0) × AppendedWell e.errors.before e.errors.after found.text
    → WritesWhole e.errors [] × ((text : List ℕ) × ReadsWhole i.kept text × OverMap (watched_of i) (λ mapping. PrintsAll mapping i.log text))
same_at i e _ (row.same text reads prints) (is, well) = (well, (text, reads, prints))
same_at i e _ (row.differs text n came reads over) (is, well) = absurd (omega (arith, is))
same_at i e _ (row.no_kept fault lacks map log) (is, well) = absurd (omega (arith, is, kept_status fault))
same_at i e _ (row.fault text n found reads comes) (is, well) = absurd (omega (arith, is, error_status (watched_of i) (writes_bytes (take n text)) found comes))

differs_at : (i : ExpectInputs) (e : ExpectEnding) (found : Row) → ComesExpected i found → (found.status ≡ 1) × AppendedWell e.errors.before e.errors.after found.text
    → (text : List ℕ) × (n : ℕ) × (came : List ℕ) × ReadsWhole i.kept text × OverMap (watched_of i) (λ mapping. DiffersIn mapping i.log text n came)
    × WritesWhole e.errors (difference_text text n came)
differs_at i e _ (row.same text reads prints) (is, well) = absurd (omega (arith, is))
differs_at i e _ (row.differs text n came reads over) (is, well) = (text, n, came, reads, over, well)
differs_at i e _ (row.no_kept fault lacks map log) (is, well) = absurd (omega (arith, is, kept_status fault))
differs_at i e _ (row.fault text n found reads comes) (is, well) = absurd (omega (arith, is, error_status (watched_of i) (writes_bytes (take n text)) found comes))

-- a run that ends in a row of the table
pub expects : (i : ExpectInputs) (e : ExpectEnding) (found : Row) → ComesExpected i found
    → EndingTold e.errors.before e.errors.after found.text found.status e.status → Expects i e
expects i e found comes told = record {
  ends = record { row = found; comes = comes; told = told };
  same = λ zero_is. same_at i e found comes (told_whole e.errors.before e.errors.after found.text found.status e.status 0 told zero_is (omega arith));
  differs = λ one_is. differs_at i e found comes (told_whole e.errors.before e.errors.after found.text found.status e.status 1 told one_is (omega arith));
}
