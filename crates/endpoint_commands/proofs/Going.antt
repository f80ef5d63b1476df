-- The state goes on by a line.
use Rattle.std.proofs.Common.{◌≡◌, ℕ, ◌+◌, ◌<◌, Bool, true, false, List, [], ◌∷◌, ◌++◌, length, take, refl, sym, ◌∙◌, ap, subst, arith, append-nil, append_assoc, inl, inr, length-append}
use Rattle.std.specs.Prelude.{if◌then◌else◌, filter, Option, Result, Ok, Err, All}
use Rattle.std.proofs.lemmas.Bool.{cases_lt}
use Rattle.std.proofs.lemmas.List.{map-append, length-map, take_all, length-take}
use Rattle.std.proofs.lemmas.List.Elements.{filter-append, All-nil, All-cons, All-append}
use Rattle.basics.proofs.CallerLemmas.{rose_after}
use Rattle.bus_port.specs.Sink.{SinkState, Appended}
use Rattle.bus_port.proofs.CallerLemmas.{Appended-more}
use Rattle.program_edge.specs.Told.{AppendedWell}
use Rattle.program_edge.proofs.CallerLemmas.{AppendedWell-more}
use Rattle.machine_runs.specs.Run.{Run, commands_in}
use Rattle.machine_runs.proofs.CallerLemmas.{Run-more}
use Rattle.text_lines.specs.Lines.{words_of}
use Rattle.bus_machine.specs.declared.lines.Line.{Line}
use Rattle.secoc_node.specs.State.{NodeState}
use Rattle.line_stream.specs.Pieces.{line_limit, in_64_bits}
use Rattle.line_stream.specs.Streams.{kept_of}
use Rattle.endpoint_commands.specs.declared.rules.FrameRule.{FrameRule}
use Rattle.endpoint_commands.specs.declared.asking.Asked.{Asked}
use Rattle.endpoint_commands.specs.declared.counting.LineKind.{LineKind}
use Rattle.endpoint_commands.specs.Asking.{asked_of_line, event_asked}
use Rattle.endpoint_commands.specs.Lines.{answer_text}
use Rattle.endpoint_commands.specs.Logs.{answer_behind, StopsAt, by_sink, by_disk}
use Rattle.endpoint_commands.specs.Running.{LineMoment, DoesEvent, TakesLine, line_answer, answers_behind, tells_failed_disk, kind_of_line, count_of_kind, counts_of_lines}
use Rattle.endpoint_commands.specs.Counting.{kind_asked, counts_sent, counts_accepted, counts_refused, counts_other, counts_with, count_up}
use Rattle.endpoint_commands.specs.States.{EndpointAtSink, AnswersLine}
use Rattle.endpoint_commands.proofs.KeptLine.{asked_long}

-- ---- one answer after the other

pub answers-append : (rules : List FrameRule) (before : ℕ) (one two : List LineMoment)
    → answers_behind rules before (one ++ two) ≡ answers_behind rules before one ++ answers_behind rules (before + length one) two
answers-append rules before [] two = ap (λ n. answers_behind rules n two) (omega arith)
answers-append rules before (m ∷ one) two =
    let first : List ℕ = line_answer rules (in_64_bits (before + 1)) m.command m.line in
    ap (λ l. first ++ l) (answers-append rules (before + 1) one two)
    ∙ sym (append_assoc first (answers_behind rules (before + 1) one) (answers_behind rules (before + 1 + length one) two))
    ∙ ap (λ n. (first ++ answers_behind rules (before + 1) one) ++ answers_behind rules n two) (omega arith)

-- ---- what is done of the line

-- a line as far as it is kept asks what it asks whole, and has the same answer
asked_kept : (rules : List FrameRule) (rest : List ℕ) → asked_of_line rules (take (line_limit + 1) rest) ≡ asked_of_line rules rest
asked_kept rules rest = elim (cases_lt line_limit (length rest)) [
  | inl long ↦
      asked_long rules (take (line_limit + 1) rest) (omega (arith, long, length-take (line_limit + 1) rest)) ∙ sym (asked_long rules rest long)
  | inr few ↦ ap (asked_of_line rules) (take_all (line_limit + 1) rest (omega (arith, few)))
]

answer_long : (rules : List FrameRule) (n : ℕ) (bytes : List ℕ) (told : Option Line) → line_limit < length bytes → line_answer rules n bytes told ≡ []
unfolding answer_text
answer_long rules n bytes told long = ap (λ (a : Asked). answer_text rules n (words_of bytes) a told) (asked_long rules bytes long)

answer_kept : (rules : List FrameRule) (n : ℕ) (rest : List ℕ) (told : Option Line) → line_answer rules n (take (line_limit + 1) rest) told ≡ line_answer rules n rest told
answer_kept rules n rest told = elim (cases_lt line_limit (length rest)) [
  | inl long ↦
      answer_long rules n (take (line_limit + 1) rest) told (omega (arith, long, length-take (line_limit + 1) rest)) ∙ sym (answer_long rules n rest told long)
  | inr few ↦ ap (λ l. line_answer rules n l told) (take_all (line_limit + 1) rest (omega (arith, few)))
]

-- ---- counting

count_one : (b : Bool) (n m : ℕ) → m ≡ (if b then 1 else 0) → count_up b (in_64_bits n) ≡ in_64_bits (n + m)
count_one true n m is = omega (arith, is)
count_one false n m is = ap in_64_bits (omega (arith, is))

one_passes : (test : LineMoment → Bool) (m : LineMoment) (b : Bool) → test m ≡ b → length (filter test (m ∷ [])) ≡ (if b then 1 else 0)
one_passes test m true is = rw is refl
one_passes test m false is = rw is refl

counts_one : (rules : List FrameRule) (passes : Option LineKind → Bool) (moments : List LineMoment) (m : LineMoment)
    → count_up (passes (kind_of_line rules m)) (count_of_kind rules passes moments) ≡ count_of_kind rules passes (moments ++ m ∷ [])
counts_one rules passes moments m =
    let test : LineMoment → Bool = λ (m : LineMoment). passes (kind_of_line rules m) in
    count_one (test m) (length (filter test moments)) (length (filter test (m ∷ []))) (one_passes test m (test m) refl)
    ∙ ap in_64_bits (sym (length-append (filter test moments) (filter test (m ∷ []))) ∙ ap length (sym (filter-append test moments (m ∷ []))))

counts_more : (rules : List FrameRule) (moments : List LineMoment) (m : LineMoment)
    → counts_with (kind_of_line rules m) (counts_of_lines rules moments) ≡ counts_of_lines rules (moments ++ m ∷ [])
counts_more rules moments m =
    ap (λ n. record { sent = n; accepted = count_up (counts_accepted (kind_of_line rules m)) (counts_of_lines rules moments).accepted; refused = count_up (counts_refused (kind_of_line rules m)) (counts_of_lines rules moments).refused; others = count_up (counts_other (kind_of_line rules m)) (counts_of_lines rules moments).others })
    (counts_one rules counts_sent moments m)
    ∙ ap (λ n. record { sent = count_of_kind rules counts_sent (moments ++ m ∷ []); accepted = n; refused = count_up (counts_refused (kind_of_line rules m)) (counts_of_lines rules moments).refused; others = count_up (counts_other (kind_of_line rules m)) (counts_of_lines rules moments).others })
    (counts_one rules counts_accepted moments m)
    ∙ ap (λ n. record { sent = count_of_kind rules counts_sent (moments ++ m ∷ []); accepted = count_of_kind rules counts_accepted (moments ++ m ∷ []); refused = n; others = count_up (counts_other (kind_of_line rules m)) (counts_of_lines rules moments).others })
    (counts_one rules counts_refused moments m)
    ∙ ap (λ n. record { sent = count_of_kind rules counts_sent (moments ++ m ∷ []); accepted = count_of_kind rules counts_accepted (moments ++ m ∷ []); refused = count_of_kind rules counts_refused (moments ++ m ∷ []); others = n })
    (counts_one rules counts_other moments m)

-- ---- the lines so far

-- one more line is answered
pub answers_push : (rules : List FrameRule) (moments : List LineMoment) (m : LineMoment)
    → answers_behind rules 0 (moments ++ m ∷ []) ≡ answers_behind rules 0 moments ++ answer_behind rules (length moments) m
answers_push rules moments m =
    let none : 0 + length moments ≡ length moments = omega arith in
    answers-append rules 0 moments (m ∷ [])
    ∙ ap (λ n. answers_behind rules 0 moments ++ (line_answer rules (in_64_bits (n + 1)) m.command m.line ++ [])) none
    ∙ ap (λ (t : List ℕ). answers_behind rules 0 moments ++ t) (append-nil (answer_behind rules (length moments) m))

-- what was done, counted and printed of these lines, after an opening
pub record Answered (rules : List FrameRule) (start : NodeState) (first : SinkState) (opening : List ℕ) (lines : List (List ℕ)) (p : EndpointAtSink) : Type 0 where
  pub same : p.endpoint.rules ≡ rules
  pub moments : List LineMoment
  pub lines_are : commands_in moments ≡ lines
  pub run : Run (TakesLine rules) start moments p.endpoint.node
  pub unfailed : All (λ m. tells_failed_disk m.line ≡ false) moments
  pub counts_are : p.endpoint.counts ≡ counts_of_lines rules moments
  pub prints : AppendedWell first p.sink (opening ++ answers_behind rules 0 moments)

module _ (rules : List FrameRule) (start : NodeState) (first : SinkState) (opening : List ℕ) where
  pub Answered-none : (p : EndpointAtSink) → p.endpoint.rules ≡ rules → p.endpoint.node ≡ start → p.endpoint.counts ≡ counts_of_lines rules [] → AppendedWell first p.sink opening
      → Answered rules start first opening [] p
  Answered-none p same node counts prints = record {
    same = same;
    moments = [];
    lines_are = refl;
    run = node;
    unfailed = All-nil (λ (m : LineMoment). tells_failed_disk m.line ≡ false);
    counts_are = counts;
    prints = subst (AppendedWell first p.sink) (sym (append-nil opening)) prints;
  }

  module _ (lines : List (List ℕ)) (p : EndpointAtSink) (line : List ℕ) (q : EndpointAtSink) (result : Result (Unit {0}) ℕ) (a : Answered rules start first opening lines p)
      (next : AnswersLine p (in_64_bits (length lines + 1)) (kept_of line) q result) where
    -- the line as the last moment
    abbrev pub last_moment : LineMoment
    last_moment = record { command = line; line = next.told; after = q.endpoint.node }

    pub last_lines : commands_in (a.moments ++ last_moment ∷ []) ≡ lines ++ line ∷ []
    last_lines = map-append (λ (x : LineMoment). x.command) a.moments (last_moment ∷ []) ∙ ap (λ (ls : List (List ℕ)). ls ++ line ∷ []) a.lines_are

    as_many : length lines ≡ length a.moments
    as_many = ap length (sym a.lines_are) ∙ length-map a.moments (λ (m : LineMoment). m.command)

    pub last_run : Run (TakesLine rules) start (a.moments ++ last_moment ∷ []) q.endpoint.node
    last_run =
        let takes : TakesLine rules p.endpoint.node line next.told q.endpoint.node =
        subst (λ (asked : Asked). DoesEvent (event_asked rules asked) p.endpoint.node next.told q.endpoint.node) (asked_kept rules line)
        (subst (λ (rs : List FrameRule). TakesLine rs p.endpoint.node (kept_of line) next.told q.endpoint.node) a.same next.takes) in
        Run-more (TakesLine rules) start a.moments p.endpoint.node last_moment a.run takes

    pub last_answer : line_answer p.endpoint.rules (in_64_bits (length lines + 1)) (kept_of line) next.told ≡ answer_behind rules (length a.moments) last_moment
    last_answer =
        ap (λ (rs : List FrameRule). line_answer rs (in_64_bits (length lines + 1)) (kept_of line) next.told) a.same
        ∙ answer_kept rules (in_64_bits (length lines + 1)) line next.told ∙ ap (λ n. line_answer rules (in_64_bits (n + 1)) line next.told) as_many

    pub last_counts : q.endpoint.counts ≡ counts_of_lines rules (a.moments ++ last_moment ∷ [])
    last_counts =
        next.counts_are ∙ ap (λ (rs : List FrameRule). counts_with (kind_asked (asked_of_line rs (kept_of line)) next.told) p.endpoint.counts) a.same
        ∙ ap (λ (asked : Asked). counts_with (kind_asked asked next.told) p.endpoint.counts) (asked_kept rules line)
        ∙ ap (counts_with (kind_of_line rules last_moment)) a.counts_are ∙ counts_more rules a.moments last_moment

  -- the disk didn't fail at it, either
  pub last_unfailed : (lines : List (List ℕ)) (p : EndpointAtSink) (line : List ℕ) (q : EndpointAtSink) (a : Answered rules start first opening lines p)
      (next : AnswersLine p (in_64_bits (length lines + 1)) (kept_of line) q (Ok tt)) → All (λ m. tells_failed_disk m.line ≡ false) (a.moments ++ last_moment lines p line q (Ok tt) a next ∷ [])
  last_unfailed lines p line q a next =
      let m : LineMoment = last_moment lines p line q (Ok tt) a next in
      All-append (λ (m : LineMoment). tells_failed_disk m.line ≡ false) a.moments (m ∷ []) a.unfailed
      (All-cons (λ (m : LineMoment). tells_failed_disk m.line ≡ false) m [] next.prints.1 (All-nil (λ (m : LineMoment). tells_failed_disk m.line ≡ false)))

  -- the log went on
  pub Answered-more : (lines : List (List ℕ)) (p : EndpointAtSink) (line : List ℕ) (q : EndpointAtSink) → (a : Answered rules start first opening lines p)
      → (next : AnswersLine p (in_64_bits (length lines + 1)) (kept_of line) q (Ok tt)) → Answered rules start first opening (lines ++ line ∷ []) q
  Answered-more lines p line q a next =
      let m : LineMoment = last_moment lines p line q (Ok tt) a next in
      let said : List ℕ = answer_behind rules (length a.moments) m in
      record {
        same = next.rules ∙ a.same;
        moments = a.moments ++ m ∷ [];
        lines_are = last_lines lines p line q (Ok tt) a next;
        run = last_run lines p line q (Ok tt) a next;
        unfailed = last_unfailed lines p line q a next;
        counts_are = last_counts lines p line q (Ok tt) a next;
        prints = subst (AppendedWell first q.sink)
            (append_assoc opening (answers_behind rules 0 a.moments) said ∙ ap (λ (t : List ℕ). opening ++ t) (sym (answers_push rules a.moments m)))
            (AppendedWell-more first p.sink q.sink (opening ++ answers_behind rules 0 a.moments) said a.prints
            (subst (AppendedWell p.sink q.sink) (last_answer lines p line q (Ok tt) a next) next.prints.0));
      }

  -- the log ended at this line: the sink failed, or the disk
  pub Answered-stops : (lines : List (List ℕ)) (p : EndpointAtSink) (line : List ℕ) (q : EndpointAtSink) (status : ℕ) → (a : Answered rules start first opening lines p)
      → (next : AnswersLine p (in_64_bits (length lines + 1)) (kept_of line) q (Err status))
      → StopsAt rules opening a.moments (last_moment lines p line q (Err status) a next) (record { before = first; after = q.sink; status = status })
  Answered-stops lines p line q status a next =
      let m : LineMoment = last_moment lines p line q (Err status) a next in
      let said = last_answer lines p line q (Err status) a next in
      elim next.prints [
        | inl (six, rose, (n, proper, part)) ↦
            by_sink six (rose_after first.faults p.sink.faults q.sink.faults a.prints.1.later rose) n (subst (λ (t : List ℕ). n < length t) said proper)
            (Appended-more a.prints.1 (subst (λ (t : List ℕ). Appended p.sink q.sink (take n t)) said part))
        | inr (eleven, well, tells) ↦
            by_disk eleven tells (AppendedWell-more first p.sink q.sink (opening ++ answers_behind rules 0 a.moments) (answer_behind rules (length a.moments) m) a.prints
            (subst (AppendedWell p.sink q.sink) said well))
      ]
