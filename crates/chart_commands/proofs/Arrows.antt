-- Each acceptance has one arrow, from the row of the event that it names or from the left edge. There is no other arrow
-- to one
use Rattle.std.specs.Prelude.{◌≡◌, ℕ, ◌+◌, ◌-◌, ◌<◌, ◌==◌, true, false, filter, option_map, Option, None, Some, List, [], ◌∷◌, ◌++◌, length, slice_get}
use Rattle.std.proofs.Common.{refl, sym, ◌∙◌, ap, subst, arith, inl, inr, append_assoc, length-append}
use Rattle.std.proofs.lemmas.Bool.{cond-true, cond-false, eq-eqb, ne_eqb}
use Rattle.std.proofs.lemmas.Option.{slice_get-map}
use Rattle.machine_runs.specs.Run.{Run, commands_in, lines_in}
use Rattle.bus_machine.specs.declared.events.Event.{Event}
use Rattle.bus_machine.specs.declared.events.Event.TheVariants.{Send, Cut}
use Rattle.bus_machine.specs.declared.lines.Line.{Line}
use Rattle.bus_machine.specs.declared.lines.Line.TheVariants.{Sent, Accepted, FreshnessFailure, VerificationFailure, Keyed, Loaded, Boot, Up, Armed, NoFrame, Refused}
use Rattle.bus_machine.specs.Bus.{World, Instant, Moments, Step, node_of, state_after, AtSome}
use Rattle.bus_machine.specs.Authentic.{SentAs, RightLine, Authentic}
use Rattle.bus_laws.specs.Laws.{IsFirst}
use Rattle.chart_commands.specs.declared.marks.Origin.{Origin}
use Rattle.chart_commands.specs.declared.marks.Origin.TheVariants.{EventRow, Outside}
use Rattle.chart_commands.specs.declared.marks.MarkKind.{MarkKind}
use Rattle.chart_commands.specs.declared.marks.MarkKind.TheVariants.{Arrow}
use Rattle.chart_commands.specs.declared.marks.RowMark.{RowMark}
use Rattle.chart_commands.specs.Marks.{origin_at, origin_of, refused_mark, mark_kind, row_mark, marks_from}
use Rattle.chart_commands.specs.MarkLaws.{run_marks, HasOneArrow, HasEdgeArrow, origin_event, MarksAcceptance, ArrowsOf}

-- ---- where a moment stands

-- the moment of which this holds, and what is before and after it
pub record SplitAt (P : World → Instant → Type 0) (before : World) (ms : Moments) : Type 0 where
  pub front : Moments
  pub m : Instant
  pub rest : Moments
  pub whole : ms ≡ front ++ m ∷ rest
  pub holds : P (state_after before front) m

split_where : (P : World → Instant → Type 0) (before : World) (ms : Moments) → AtSome P before ms → SplitAt P before ms
split_where P before [] some = absurd some
split_where P before (m ∷ ms) (inl here) = record { front = []; m = m; rest = ms; whole = refl; holds = here }
split_where P before (m ∷ ms) (inr later) =
    let f = split_where P m.after ms later in
    record { front = m ∷ f.front; m = f.m; rest = f.rest; whole = ap (λ (xs : Moments). m ∷ xs) f.whole; holds = f.holds }

-- each moment of a run counts one event
events_behind : (start : World) (front rest : Moments) (now : World) → Run Step start (front ++ rest) now
    → (state_after start front).events ≡ start.events + length front
events_behind start [] rest now run = omega arith
events_behind start (m ∷ front) rest now run =
    let one = run.0.events in
    let h = events_behind m.after front rest now run.1 in
    omega (arith, one, h)

slice_get_behind : {A : Type 0} (front : List A) (x : A) (rest : List A) → slice_get (front ++ x ∷ rest) (length front) ≡ Some x
slice_get_behind [] x rest = refl
slice_get_behind (y ∷ front) x rest = slice_get_behind front x rest

-- ---- the marks of a row

-- from a later row on there is no mark of this row
none_before : (all : List Event) (k row : ℕ) (ms : Moments) → k < row
    → filter (λ (mark : RowMark). mark.row == k) (marks_from all row (commands_in ms) (lines_in ms)) ≡ []
none_before all k row [] later = refl
none_before all k row (m ∷ ms) later =
    let other : row ≡ k → ⊥ = λ e. omega (arith, e, later) in
    cond-false (row == k) _ _ (ne_eqb row k other) ∙ none_before all k (row + 1) ms (omega arith)

-- in the row of a moment there is its mark alone
one_there : (all : List Event) (row k : ℕ) (front : Moments) (m : Instant) (rest : Moments) → k ≡ row + length front
    → filter (λ (mark : RowMark). mark.row == k) (marks_from all row (commands_in (front ++ m ∷ rest)) (lines_in (front ++ m ∷ rest)))
    ≡ row_mark all k m.command m.line ∷ []
one_there all row k [] m rest place =
    let same : row ≡ k = omega arith in
    cond-true (row == k) _ _ (eq-eqb row k same)
    ∙ ap (λ (xs : List RowMark). row_mark all row m.command m.line ∷ xs) (none_before all k (row + 1) rest (omega arith))
    ∙ ap (λ (r : ℕ). row_mark all r m.command m.line ∷ []) same
one_there all row k (x ∷ front) m rest place =
    let other : row ≡ k → ⊥ = λ e. omega (arith, e, place) in
    cond-false (row == k) _ _ (ne_eqb row k other) ∙ one_there all (row + 1) k front m rest (omega arith)

-- and so in the whole run
alone_there : (ms front rest : Moments) (m : Instant) → ms ≡ front ++ m ∷ rest
    → filter (λ (mark : RowMark). mark.row == length front + 1) (run_marks ms) ≡ row_mark (commands_in ms) (length front + 1) m.command m.line ∷ []
alone_there ms front rest m whole =
    subst (λ (xs : Moments). filter (λ (mark : RowMark). mark.row == length front + 1)
    (marks_from (commands_in ms) 1 (commands_in xs) (lines_in xs)) ≡ row_mark (commands_in ms) (length front + 1) m.command m.line ∷ [])
    (sym whole) (one_there (commands_in ms) 1 (length front + 1) front m rest (omega arith))

-- one mark alone
abbrev one_mark : ℕ → ℕ → MarkKind → List RowMark
one_mark node row kind = record { node = node; row = row; kind = kind } ∷ []

-- the moment whose mark this is, and what is before and after it
pub record MarkOf (all : List Event) (row : ℕ) (ms : Moments) (mark : RowMark) (k : ℕ) : Type 0 where
  pub before : Moments
  pub m : Instant
  pub behind : Moments
  pub at_row : ℕ
  pub row_is : at_row ≡ row + k
  pub whole : ms ≡ before ++ m ∷ behind
  pub is_there : slice_get ms k ≡ Some m
  pub mark_is : mark ≡ row_mark all at_row m.command m.line

moment_of : (all : List Event) (row : ℕ) (ms : Moments) (front rest : List RowMark) (mark : RowMark)
    → marks_from all row (commands_in ms) (lines_in ms) ≡ front ++ mark ∷ rest → MarkOf all row ms mark (length front)
moment_of all row [] [] rest mark e = cc
moment_of all row [] (x ∷ front) rest mark e = cc
moment_of all row (m ∷ ms) [] rest mark e =
    record { before = []; m = m; behind = ms; at_row = row; row_is = omega arith; whole = refl; is_there = refl; mark_is = cc }
moment_of all row (m ∷ ms) (x ∷ front) rest mark e =
    let rows : marks_from all (row + 1) (commands_in ms) (lines_in ms) ≡ front ++ mark ∷ rest = cc in
    let f = moment_of all (row + 1) ms front rest mark rows in
    let place = f.row_is in
    record {
      before = m ∷ f.before;
      m = f.m;
      behind = f.behind;
      at_row = f.at_row;
      row_is = omega (arith, place);
      whole = ap (λ (xs : Moments). m ∷ xs) f.whole;
      is_there = f.is_there;
      mark_is = f.mark_is;
    }

-- ---- arrows from an event

-- the moment of this number is where the arrow of an acceptance from it begins
origin_there : (ms : Moments) (number : ℕ) (sender : Instant) → slice_get ms (number - 1) ≡ Some sender
    → origin_of (commands_in ms) number ≡ EventRow number (node_of sender.command)
origin_there ms number sender there =
    let event : slice_get (commands_in ms) (number - 1) ≡ Some sender.command =
    slice_get-map (λ (x : Instant). x.command) ms (number - 1) ∙ ap (option_map (λ (x : Instant). x.command)) there in
    ap (origin_at number) event

-- what was sent, seen from the whole run: the event before the acceptance, and its place
one_arrow : (start : World) (ms : Moments) (last : World) → IsFirst start → Run Step start ms last → Authentic start ms
    → (front rest : Moments) (m : Instant) (id v number : ℕ) (payload : List ℕ) → ms ≡ front ++ m ∷ rest
    → m.line ≡ Accepted id v payload (Some number) → HasOneArrow ms (length front + 1) number m id v payload
one_arrow start ms last first run authentic front rest m id v number payload whole line =
    let right = subst (RightLine start front m) line (authentic front m rest whole) in
    let was = right.names number refl in
    let f = split_where (SentAs was.sent was.key) start front was.was_sent in
    let all : ms ≡ f.front ++ f.m ∷ (f.rest ++ m ∷ rest) =
    whole ∙ ap (λ (xs : Moments). xs ++ m ∷ rest) f.whole ∙ append_assoc f.front (f.m ∷ f.rest) (m ∷ rest) in
    let counted = events_behind start f.front (f.m ∷ (f.rest ++ m ∷ rest)) last (subst (λ (xs : Moments). Run Step start xs last) all run) in
    let sent_number = f.holds.2 in
    let number_is = was.number_is in
    let none_yet = first.no_event in
    let place : number ≡ length f.front + 1 = omega (arith, sent_number, number_is, none_yet, counted) in
    let index : length f.front ≡ number - 1 = omega (arith, place) in
    let before : length front ≡ length f.front + length (f.m ∷ f.rest) = ap length f.whole ∙ length-append f.front (f.m ∷ f.rest) in
    let there : slice_get ms (number - 1) ≡ Some f.m =
    subst (λ (k : ℕ). slice_get ms k ≡ Some f.m) index
    (subst (λ (xs : Moments). slice_get xs (length f.front) ≡ Some f.m) (sym all) (slice_get_behind f.front f.m (f.rest ++ m ∷ rest))) in
    let kind : mark_kind (commands_in ms) m.command m.line ≡ Arrow (EventRow number (node_of f.m.command)) true =
    ap (mark_kind (commands_in ms) m.command) line ∙ ap (λ (o : Origin). Arrow o true) (origin_there ms number f.m there) in
    record {
      sender = f.m;
      least = omega (arith, place);
      earlier = omega (arith, place, before);
      sender_is = there;
      asked = f.holds.0
          ∙ ap (λ (i : ℕ). Send (node_of f.m.command) i was.sent.payload) was.id_is
          ∙ ap (λ (p : List ℕ). Send (node_of f.m.command) id p) was.payload_is;
      pdu = was.sent.pdu;
      it_sent = f.holds.1
          ∙ ap (λ (i : ℕ). Sent i was.sent.freshness was.sent.pdu) was.id_is
          ∙ ap (λ (w : ℕ). Sent id w was.sent.pdu) was.freshness_is;
      only = alone_there ms front rest m whole ∙ ap (one_mark (node_of m.command) (length front + 1)) kind;
    }

-- ---- arrows from the left edge

edge_arrow : (ms front rest : Moments) (m : Instant) (id v : ℕ) (payload : List ℕ) → ms ≡ front ++ m ∷ rest
    → m.line ≡ Accepted id v payload None → HasEdgeArrow ms (length front + 1) m
edge_arrow ms front rest m id v payload whole line =
    let kind : mark_kind (commands_in ms) m.command m.line ≡ Arrow Outside true = ap (mark_kind (commands_in ms) m.command) line in
    alone_there ms front rest m whole ∙ ap (one_mark (node_of m.command) (length front + 1)) kind

-- ---- no other

-- the line accepts what this event sent, or none
pub record AcceptsFrom (line : Line) (source : Option ℕ) : Type 0 where
  pub id : ℕ
  pub freshness : ℕ
  pub payload : List ℕ
  pub line_is : line ≡ Accepted id freshness payload source

refused_no_arrow : (e : Event) (from : Origin) → refused_mark e ≡ Arrow from true → ⊥
refused_no_arrow (Cut place torn) from k = cc
refused_no_arrow _ from k = cc

-- where each event that an acceptance names is there
accepts_from : (all : List Event) (e : Event) (line : Line) (from : Origin) → mark_kind all e line ≡ Arrow from true
    → ((id v number : ℕ) (payload : List ℕ) → line ≡ Accepted id v payload (Some number) → (node : ℕ) × (origin_of all number ≡ EventRow number node))
    → AcceptsFrom line (origin_event from)
accepts_from all e (Sent id v pdu) from k found = cc
accepts_from all e (Accepted id v payload None) from k found =
    let same : Outside ≡ from = cc in
    record { id = id; freshness = v; payload = payload; line_is = ap (λ (o : Origin). Accepted id v payload (origin_event o)) same }
accepts_from all e (Accepted id v payload (Some number)) from k found =
    let there = found id v number payload refl in
    let drawn : origin_of all number ≡ from = cc in
    record { id = id; freshness = v; payload = payload; line_is = ap (λ (o : Origin). Accepted id v payload (origin_event o)) (sym there.1 ∙ drawn) }
accepts_from all e FreshnessFailure from k found = cc
accepts_from all e VerificationFailure from k found = cc
accepts_from all e (Keyed slot) from k found = cc
accepts_from all e (Loaded reply) from k found = cc
accepts_from all e (Boot true) from k found = cc
accepts_from all e (Boot false) from k found = cc
accepts_from all e Up from k found = cc
accepts_from all e Armed from k found = cc
accepts_from all e NoFrame from k found = cc
accepts_from all e (Refused refusal) from k found = absurd (refused_no_arrow e from k)

no_other_arrow : (start : World) (ms : Moments) (last : World) → IsFirst start → Run Step start ms last → Authentic start ms
    → (front rest : List RowMark) (mark : RowMark) (from : Origin) → run_marks ms ≡ front ++ mark ∷ rest
    → mark.kind ≡ Arrow from true → MarksAcceptance ms mark (origin_event from)
no_other_arrow start ms last first run authentic front rest mark from whole kind =
    let f = moment_of (commands_in ms) 1 ms front rest mark whole in
    let m : Instant = f.m in
    let row : mark.row ≡ f.at_row = ap (λ (x : RowMark). x.row) f.mark_is in
    let place : length front ≡ mark.row - 1 = omega (arith, row, f.row_is) in
    let told : mark_kind (commands_in ms) m.command m.line ≡ Arrow from true =
    sym (ap (λ (x : RowMark). x.kind) f.mark_is) ∙ kind in
    let a = accepts_from (commands_in ms) m.command m.line from told
    (λ id v number payload line.
    let one = one_arrow start ms last first run authentic f.before f.behind m id v number payload f.whole line in
    (node_of one.sender.command, origin_there ms number one.sender one.sender_is)) in
    record {
      least = omega (arith, row, f.row_is);
      m = m;
      is_there = subst (λ (k : ℕ). slice_get ms k ≡ Some m) place f.is_there;
      node_is = ap (λ (x : RowMark). x.node) f.mark_is;
      id = a.id;
      freshness = a.freshness;
      payload = a.payload;
      accepts = a.line_is;
    }

pub arrows_of : (start : World) (ms : Moments) (last : World) → IsFirst start → Run Step start ms last → Authentic start ms → ArrowsOf ms
arrows_of start ms last first run authentic = record {
  each = one_arrow start ms last first run authentic;
  from_none = edge_arrow ms;
  no_other = no_other_arrow start ms last first run authentic;
}
