use Rattle.std.proofs.Common.{◌≡◌, ◌≤◌, ◌+◌, ◌*◌, ◌++◌, ℕ, List, false, length, take, drop, map, sym, ap, ◌∙◌, subst, arith}
use Rattle.std.specs.Prelude.{Some, None, Bool, if◌then◌else◌, slice_index}
use Rattle.std.proofs.lemmas.Result.{IfOk-at_ok}
use Rattle.text_lines.specs.Lines.{words_of, is_skipped}
use Rattle.text_lines.specs.Spans.{word_at}
use Rattle.can_logs.specs.declared.map_lines.MapLine.{MapLine}
use Rattle.can_logs.specs.declared.findings.FrameTally.{FrameTally}
use Rattle.can_logs.specs.FindingSteps.{AddsFinding}
use Rattle.can_logs.proofs.CallerLemmas.{put_back}
use Rattle.can_logs.specs.Findings.{finding_text}
use Rattle.watch_commands.specs.Stamps.{LineStamp, stamp_of}
use Rattle.watch_commands.specs.Watching.{told_text}
use Rattle.watch_commands.specs.Times.{time_by}
use Rattle.watch_commands.proofs.Answering.{answer_in}
use Rattle.watch_commands.proofs.WordSizes.{stamp_fits}
use Rattle.watch_commands.specs.States.{WatchState, JudgesLine, time_wanted}
use Rattle.watch_commands.specs.contracts.state.Watch.{the_view}
use Rattle.watch_commands.proofs.Going.{JudgesLine-long, JudgesLine-found}
use Rattle.watch_commands.proofs.state.Watch.judge_line.Goals as goal

pub returns-then-line-gt-LINE_LIMIT-clause-judges : goal.returns-then-line-gt-LINE_LIMIT-clause-judges
returns-then-line-gt-LINE_LIMIT-clause-judges c = JudgesLine-long c.args.self.now c.args.number c.args.line.now (omega arith)

pub add_answer-requires-clause-room : goal.add_answer-requires-clause-room
add_answer-requires-clause-room c =
    let stamp : LineStamp = c.of-stamp.result in
    let fits : length stamp.time + length stamp.channel ≤ 2 * length c.args.line.now =
    stamp_fits c.args.line.now c.as_slice.result.now stamp (c.of-stamp.ensures ∙ ap stamp_of c.of-words.ensures) in
    omega (arith, fits, ap (λ (s : WatchState). length s.text) c.self.view_is)

pub returns-clause-few : goal.returns-clause-few
returns-clause-few c =
    let stamp : LineStamp = c.of-stamp.result in
    let fits : length stamp.time + length stamp.channel ≤ 2 * length c.args.line.now =
    stamp_fits c.args.line.now c.as_slice.result.now stamp (c.of-stamp.ensures ∙ ap stamp_of c.of-words.ensures) in
    omega (arith, fits, c.add_answer.ensures.few, ap (λ (s : WatchState). length s.text) c.self.view_is)

pub add_answer-requires-clause-answers : goal.add_answer-requires-clause-answers
add_answer-requires-clause-answers c =
    let old : WatchState = the_view c.self.inside in
    let line : List ℕ = c.args.line.now in
    let new : List ℕ = c.push_finding.new.counters in
    let answer : List ℕ = c.push_finding.new.text.items in
    let put : map (word_at line) c.put_words.new.spans.items ≡ words_of line =
    IfOk-at_ok (λ _. map (word_at line) c.put_words.new.spans.items ≡ words_of line) c.unwrap.ensures c.put_words.ensures.words in
    let words_are : c.of-words.result ≡ words_of line = c.of-words.ensures ∙ ap (map (word_at line)) c.as_slice.ensures.value ∙ put in
    let empty : List ℕ = c.clear.new.self.items in
    let finds : AddsFinding old.mapping.lines old.counters new (record { number = c.args.number; words = words_of line }) empty answer c.unwrap-tally.result =
    subst (λ (m : List MapLine). AddsFinding m old.counters new (record { number = c.args.number; words = words_of line }) empty answer c.unwrap-tally.result) c.table.ensures
    (subst (λ cs. AddsFinding c.table.result.now cs new (record { number = c.args.number; words = words_of line }) empty answer c.unwrap-tally.result) c.as_mut_slice.ensures.value
    (subst (λ (ws : List (List ℕ)). AddsFinding c.table.result.now c.as_mut_slice.result.now new (record { number = c.args.number; words = ws }) empty answer c.unwrap-tally.result) words_are
    (IfOk-at_ok (λ (t : FrameTally). AddsFinding c.table.result.now c.as_mut_slice.result.now new (record { number = c.args.number; words = c.of-words.result }) empty answer t)
    c.unwrap-tally.ensures c.push_finding.ensures.finds))) in
    let (finding, audits, text_is, counts_is, as_many, after) = finds in
    let shown : List ℕ = c.as_slice-2.result.now in
    let is_text : shown ≡ finding_text finding = c.as_slice-2.ensures.value ∙ text_is ∙ ap (λ (e : List ℕ). e ++ finding_text finding) c.clear.ensures.items in
    (finding, answer_in old.mapping.lines (slice_index old.counters) (record { number = c.args.number; words = words_of line }) c.unwrap-tally.result shown finding audits counts_is is_text)

pub returns-clause-judges : goal.returns-clause-judges
returns-clause-judges c =
    let old : WatchState = the_view c.self.inside in
    let line : List ℕ = c.args.line.now in
    let new : List ℕ = c.push_finding.new.counters in
    let answer : List ℕ = c.push_finding.new.text.items in
    let put : map (word_at line) c.put_words.new.spans.items ≡ words_of line =
    IfOk-at_ok (λ _. map (word_at line) c.put_words.new.spans.items ≡ words_of line) c.unwrap.ensures c.put_words.ensures.words in
    let words_are : c.of-words.result ≡ words_of line = c.of-words.ensures ∙ ap (map (word_at line)) c.as_slice.ensures.value ∙ put in
    let kept : is_skipped (words_of line) ≡ false = ap is_skipped (sym words_are) ∙ sym c.is_skipped.ensures ∙ c.if-is_skipped.false in
    let empty : List ℕ = c.clear.new.self.items in
    let finds : AddsFinding old.mapping.lines old.counters new (record { number = c.args.number; words = words_of line }) empty answer c.unwrap-tally.result =
    subst (λ (m : List MapLine). AddsFinding m old.counters new (record { number = c.args.number; words = words_of line }) empty answer c.unwrap-tally.result) c.table.ensures
    (subst (λ cs. AddsFinding c.table.result.now cs new (record { number = c.args.number; words = words_of line }) empty answer c.unwrap-tally.result) c.as_mut_slice.ensures.value
    (subst (λ (ws : List (List ℕ)). AddsFinding c.table.result.now c.as_mut_slice.result.now new (record { number = c.args.number; words = ws }) empty answer c.unwrap-tally.result) words_are
    (IfOk-at_ok (λ (t : FrameTally). AddsFinding c.table.result.now c.as_mut_slice.result.now new (record { number = c.args.number; words = c.of-words.result }) empty answer t)
    c.unwrap-tally.ensures c.push_finding.ensures.finds))) in
    let (finding, audits, text_is, counts_is, as_many, after) = finds in
    let counters_are : take c.self.inside.counters.len (new ++ drop (length new) c.self.inside.counters.items) ≡ new =
    put_back c.self.inside.counters.len c.self.inside.counters.items new (omega (arith, as_many, c.self.inside.counters.ok.0)) in
    let few : length line ≤ 4096 = omega arith in
    let left : List ℕ = take c.self.inside.counters.len (new ++ drop (length new) c.self.inside.counters.items) in
    let shown : List ℕ = c.as_slice-2.result.now in
    let is_text : shown ≡ finding_text finding = c.as_slice-2.ensures.value ∙ text_is ∙ ap (λ (e : List ℕ). e ++ finding_text finding) c.clear.ensures.items in
    let told : List ℕ = c.add_answer.new.text.items in
    let stamp_is : c.of-stamp.result ≡ stamp_of (words_of line) = c.of-stamp.ensures ∙ ap stamp_of words_are in
    let told_is : told ≡ old.text ++ told_text old.mapping.options (record { finding = finding; stamp = stamp_of (words_of line) }) =
    subst (λ (s : LineStamp). told ≡ old.text ++ told_text old.mapping.options (record { finding = finding; stamp = s })) stamp_is
    (c.add_answer.ensures.told finding (answer_in old.mapping.lines (slice_index old.counters) (record { number = c.args.number; words = words_of line }) c.unwrap-tally.result shown finding audits counts_is is_text)) in
    let time_is : c.time_of.result ≡ time_wanted old.mapping (time_by c.unwrap-tally.result (stamp_of (words_of line))) =
    c.time_of.ensures ∙ ap (λ (b : Bool). if b then time_by c.unwrap-tally.result c.of-stamp.result else None) c.wants_times.ensures
    ∙ ap (λ (s : LineStamp). time_wanted old.mapping (time_by c.unwrap-tally.result s)) stamp_is in
    subst (λ (s : WatchState). JudgesLine s c.args.number line (record old { counters = left; text = told }) (Some c.unwrap-tally.result) c.time_of.result) c.self.view_is
    (subst (λ cs. JudgesLine old c.args.number line (record old { counters = cs; text = told }) (Some c.unwrap-tally.result) c.time_of.result) (sym counters_are)
    (JudgesLine-found old c.args.number line new told c.unwrap-tally.result c.time_of.result finding few kept audits counts_is time_is as_many after told_is))
