-- A lifeline is drawn down where its node is down
use Rattle.std.specs.Prelude.{◌≡◌, ◌⊎◌, ℕ, ◌+◌, ◌-◌, ◌<◌, ◌≤◌, not, nat_lt, Bool, true, false, cond, option_map, Option, None, Some, List, [], ◌∷◌, ◌++◌, length}
use Rattle.std.specs.List.{cons_option}
use Rattle.std.proofs.Common.{refl, sym, ◌∙◌, ap, subst, arith, inl, inr}
use Rattle.std.proofs.lemmas.Bool.{cond-true, cond-false, lt-ltb, le-ltb, not-true, not-false, cases_lt, false≢true}
use Rattle.std.proofs.lemmas.Bool.Decides.{eqb_tells}
use Rattle.std.proofs.lemmas.List.{length-map}
use Rattle.machine_runs.specs.Run.{Run, commands_in, lines_in}
use Rattle.bus_machine.specs.declared.events.Event.{Event}
use Rattle.bus_machine.specs.declared.lines.Line.{Line}
use Rattle.bus_machine.specs.declared.lines.Line.TheVariants.{Up, Refused}
use Rattle.bus_machine.specs.declared.lines.Refusal.{Refusal}
use Rattle.bus_machine.specs.declared.lines.Refusal.TheVariants.{MemoryFailure, NotFormatted, Damaged, BadSlot, BadBound}
use Rattle.bus_machine.specs.Bus.{World, Instant, Moments, Step, node_of}
use Rattle.bus_laws.specs.Laws.{IsFirst}
use Rattle.chart_commands.specs.declared.lifelines.LifeTurn.{LifeTurn}
use Rattle.chart_commands.specs.declared.lifelines.LifeTurn.TheVariants.{Falls, Rises}
use Rattle.chart_commands.specs.declared.lifelines.Stretch.{Stretch}
use Rattle.chart_commands.specs.Places.{row_axis, lifeline_top, lifeline_bottom}
use Rattle.chart_commands.specs.Lifelines.{refusal_turn, line_turn, life_turn, turns_from, stretch, stretches}
use Rattle.chart_commands.specs.MarkLaws.{IsBehindRow, IsBesideCut, up_behind, run_lifeline, LifelinesOf}
use Rattle.chart_commands.proofs.Turning.{TurnsTo, up_in, bus_turns, as_many_after}
use Rattle.chart_commands.proofs.Heights.{axis_gap, Covers, Drawn, Drawn-from, IsDrawnAt-from, up_at, up_above, up_behind_row, above_bottom, below_top}

-- ---- nothing is drawn above where a lifeline goes on

-- the rest of a lifeline after a row that turns so, or doesn't
abbrev rest_of : ℕ → ℕ → Moments → List (ℕ × LifeTurn)
rest_of node row ms = turns_from node row (commands_in ms) (lines_in ms)

abbrev turned : ℕ → Option LifeTurn → List (ℕ × LifeTurn) → List (ℕ × LifeTurn)
turned row turn rest = cons_option (option_map (λ (t : LifeTurn). (row, t)) turn) rest

drawn_turned : (row : ℕ) (turn : Option LifeTurn) (rest : List (ℕ × LifeTurn)) (down : Bool) (from end : ℕ) (which : Bool) (height : ℕ) → 1 ≤ row → from ≤ row_axis row
    → ((d : Bool) (f : ℕ) → f ≤ row_axis (row + 1) → Drawn (stretches d f rest end) which height → f ≤ height)
    → Drawn (stretches down from (turned row turn rest) end) which height → from ≤ height
drawn_turned row None rest down from end which height least inside behind drawn =
    let gap = axis_gap row least in
    behind down from (omega (arith, gap, inside)) drawn
drawn_turned row (Some Falls) rest false from end which height least inside behind (inl covers) = covers.from
drawn_turned row (Some Falls) rest false from end which height least inside behind (inr later) =
    let gap = axis_gap row least in
    let at = behind true (row_axis row) (omega (arith, gap)) later in
    omega (arith, at, inside)
drawn_turned row (Some Falls) rest true from end which height least inside behind drawn =
    let gap = axis_gap row least in
    behind true from (omega (arith, gap, inside)) drawn
drawn_turned row (Some Rises) rest false from end which height least inside behind (inl covers) = covers.from
drawn_turned row (Some Rises) rest false from end which height least inside behind (inr later) =
    let gap = axis_gap row least in
    let at = behind false (row_axis row + 14) (omega (arith, gap)) later in
    omega (arith, at, inside)
drawn_turned row (Some Rises) rest true from end which height least inside behind (inl covers) = covers.from
drawn_turned row (Some Rises) rest true from end which height least inside behind (inr later) =
    let gap = axis_gap row least in
    let at = behind false (row_axis row + 14) (omega (arith, gap)) later in
    omega (arith, at, inside)

drawn_from : (node row : ℕ) (ms : Moments) (down : Bool) (from end : ℕ) (which : Bool) (height : ℕ) → 1 ≤ row → from ≤ row_axis row
    → Drawn (stretches down from (rest_of node row ms) end) which height → from ≤ height
drawn_from node row [] down from end which height least inside (inl covers) = covers.from
drawn_from node row [] down from end which height least inside (inr none) = absurd none
drawn_from node row (m ∷ ms) down from end which height least inside drawn =
    drawn_turned row (life_turn node m.command m.line) (rest_of node (row + 1) ms) down from end which height least inside
    (λ d f below later. drawn_from node (row + 1) ms d f end which height (omega arith) below later) drawn

-- ---- what is drawn at a height is what the node is there

-- or it is a height at which nothing needs to be drawn
pub record Agrees (Free : Type 0) (drawn : List Stretch) (height : ℕ) (is_up : Bool) : Type 0 where
  pub down : Drawn drawn true height → is_up ≡ false
  pub drawn_down : is_up ≡ false → Drawn drawn true height
  pub up : Drawn drawn false height → is_up ≡ true
  pub drawn_up : is_up ≡ true → Drawn drawn false height ⊎ Free

-- where the node goes on as it was, its height among the rows doesn't matter
same_behind : (height axis : ℕ) (before after behind : Bool) → after ≡ before → (height < axis → behind ≡ after)
    → behind ≡ cond (nat_lt height axis) before behind
same_behind height axis before after behind same above = elim (cases_lt height axis) [
  | inl less ↦ above less ∙ same ∙ sym (cond-true (nat_lt height axis) before behind (lt-ltb height axis less))
  | inr more ↦ sym (cond-false (nat_lt height axis) before behind (le-ltb height axis more))
]

module _ (Free : Type 0) where
  -- a stretch that ends at an axis, and others after it
  agrees_one : (one : Stretch) (rest : List Stretch) (height axis : ℕ) (before behind : Bool)
      → one.down ≡ not before → one.to ≤ axis
      → (height < axis → before ≡ false → Covers one true height)
      → (height < axis → before ≡ true → Covers one false height ⊎ Free)
      → (height < axis → (which : Bool) → Drawn rest which height → ⊥)
      → (axis ≤ height → Agrees Free rest height behind)
      → Agrees Free (one ∷ rest) height (cond (nat_lt height axis) before behind)
  agrees_one one rest height axis before behind down_is ends covers covers_up none after = elim (cases_lt height axis) [
    | inl above ↦ subst (Agrees Free (one ∷ rest) height) (sym (cond-true (nat_lt height axis) before behind (lt-ltb height axis above))) (record {
      down = λ d. elim d [
        | inl c ↦ not-true before (sym down_is ∙ c.down_is)
        | inr later ↦ absurd (none above true later)
      ];
      drawn_down = λ e. inl (covers above e);
      up = λ d. elim d [
        | inl c ↦ not-false before (sym down_is ∙ c.down_is)
        | inr later ↦ absurd (none above false later)
      ];
      drawn_up = λ e. elim (covers_up above e) [
        | inl c ↦ inl (inl c)
        | inr free ↦ inr free
      ];
    })
    | inr below ↦
        let a = after below in
        subst (Agrees Free (one ∷ rest) height) (sym (cond-false (nat_lt height axis) before behind (le-ltb height axis below))) (record {
          down = λ d. elim d [
            | inl c ↦ let to = c.to in absurd (omega (arith, to, ends, below))
            | inr later ↦ a.down later
          ];
          drawn_down = λ e. inr (a.drawn_down e);
          up = λ d. elim d [
            | inl c ↦ let to = c.to in absurd (omega (arith, to, ends, below))
            | inr later ↦ a.up later
          ];
          drawn_up = λ e. elim (a.drawn_up e) [
            | inl later ↦ inl (inr later)
            | inr free ↦ inr free
          ];
        })
  ]

  -- an up stretch that has begun, or needn't have
  covers_begun : (from to height : ℕ) → (from ≤ height) ⊎ Free → height < to → Covers (stretch false from to) false height ⊎ Free
  covers_begun from to height (inl begun) short = inl (record { down_is = refl; from = begun; to = short })
  covers_begun from to height (inr free) short = inr free

  -- after a cut it begins 14 below the axis
  begins_behind : (axis height : ℕ) → axis ≤ height → (axis ≤ height + 14 → height < axis + 14 → Free) → (axis + 14 ≤ height) ⊎ Free
  begins_behind axis height far free = elim (cases_lt height (axis + 14)) [
    | inl less ↦ inr (free (omega (arith, far)) less)
    | inr more ↦ inl more
  ]

  -- and before a cut of a node that is up it ends 14 above
  ends_before : (from axis height : ℕ) → (from ≤ height) ⊎ Free → height < axis → (axis ≤ height + 14 → height < axis + 14 → Free)
      → Covers (stretch false from (axis - 14)) false height ⊎ Free
  ends_before from axis height begun short free = elim (cases_lt height (axis - 14)) [
    | inl less ↦ covers_begun from (axis - 14) height begun less
    | inr more ↦ inr (free (omega (arith, more)) (omega (arith, short)))
  ]

  agrees_turned : (row : ℕ) (turn : Option LifeTurn) (rest : List (ℕ × LifeTurn)) (down : Bool) (from end height : ℕ) (before after behind : Bool)
      → 1 ≤ row → from ≤ row_axis row → down ≡ not before → (down ≡ true → from ≤ height) → (down ≡ false → (from ≤ height) ⊎ Free) → TurnsTo turn before after
      → (turn ≡ Some Rises → row_axis row ≤ height + 14 → height < row_axis row + 14 → Free)
      → ((d : Bool) (f : ℕ) (which : Bool) → f ≤ row_axis (row + 1) → Drawn (stretches d f rest end) which height → f ≤ height)
      → ((d : Bool) (f : ℕ) → f ≤ row_axis (row + 1) → d ≡ not after → (d ≡ true → f ≤ height) → (d ≡ false → (f ≤ height) ⊎ Free)
      → Agrees Free (stretches d f rest end) height behind)
      → (height < row_axis row → behind ≡ after)
      → Agrees Free (stretches down from (turned row turn rest) end) height (cond (nat_lt height (row_axis row)) before behind)
  agrees_turned row None rest down from end height before after behind least inside is begun begun_up turns free none agrees above =
      let gap = axis_gap row least in
      subst (Agrees Free (stretches down from rest end) height) (same_behind height (row_axis row) before after behind turns above)
      (agrees down from (omega (arith, gap, inside)) (is ∙ ap not (sym turns)) begun begun_up)
  agrees_turned row (Some Falls) rest true from end height before after behind least inside is begun begun_up turns free none agrees above =
      let gap = axis_gap row least in
      let was : before ≡ false = not-true before (sym is) in
      subst (Agrees Free (stretches true from rest end) height) (same_behind height (row_axis row) before after behind (turns ∙ sym was) above)
      (agrees true from (omega (arith, gap, inside)) (sym (ap not turns)) begun begun_up)
  agrees_turned row (Some Falls) rest false from end height before after behind least inside is begun begun_up turns free none agrees above =
      let gap = axis_gap row least in
      let axis : ℕ = row_axis row in
      agrees_one (stretch false from axis) (stretches true axis rest end) height axis before behind is (omega arith)
      (λ short e. absurd (false≢true (is ∙ ap not e)))
      (λ short e. covers_begun from axis height (begun_up refl) short)
      (λ short which later.
      let far = none true axis which (omega (arith, gap)) later in
      omega (arith, far, short))
      (λ far. agrees true axis (omega (arith, gap)) (sym (ap not turns)) (λ e. far) (λ e. absurd (false≢true (sym e))))
  agrees_turned row (Some Rises) rest false from end height before after behind least inside is begun begun_up turns free none agrees above =
      let gap = axis_gap row least in
      let axis : ℕ = row_axis row in
      agrees_one (stretch false from (axis - 14)) (stretches false (axis + 14) rest end) height axis before behind is (omega arith)
      (λ short e. absurd (false≢true (is ∙ ap not e)))
      (λ short e. ends_before from axis height (begun_up refl) short (free refl))
      (λ short which later.
      let far = none false (axis + 14) which (omega (arith, gap)) later in
      omega (arith, far, short))
      (λ far. agrees false (axis + 14) (omega (arith, gap)) (sym (ap not turns)) (λ e. absurd (false≢true e)) (λ e. begins_behind axis height far (free refl)))
  agrees_turned row (Some Rises) rest true from end height before after behind least inside is begun begun_up turns free none agrees above =
      let gap = axis_gap row least in
      let axis : ℕ = row_axis row in
      agrees_one (stretch true from axis) (stretches false (axis + 14) rest end) height axis before behind is (omega arith)
      (λ short e. record { down_is = refl; from = begun refl; to = short })
      (λ short e. absurd (false≢true (sym (is ∙ ap not e))))
      (λ short which later.
      let far = none false (axis + 14) which (omega (arith, gap)) later in
      omega (arith, far, short))
      (λ far. agrees false (axis + 14) (omega (arith, gap)) (sym (ap not turns)) (λ e. absurd (false≢true e)) (λ e. begins_behind axis height far (free refl)))

  -- the moments in whose rows, which are numbered from `row` on, the node is up again let the heights beside them free
  abbrev FreesCuts : ℕ → ℕ → Moments → ℕ → Type 0
  FreesCuts node row ms height = (front : Moments) (m : Instant) (rest : Moments) (k : ℕ) → ms ≡ front ++ m ∷ rest → k ≡ row + length front
      → life_turn node m.command m.line ≡ Some Rises → row_axis k ≤ height + 14 → height < row_axis k + 14 → Free

  agrees_at : (node : ℕ) (world : World) (row : ℕ) (ms : Moments) (last : World) (down : Bool) (from end height : ℕ)
      → 1 ≤ row → node < length world.nodes → Run Step world ms last → FreesCuts node row ms height
      → from ≤ row_axis row → down ≡ not (up_in world node) → (down ≡ true → from ≤ height) → (down ≡ false → (from ≤ height) ⊎ Free) → height < end
      → Agrees Free (stretches down from (rest_of node row ms) end) height (up_at node world row ms height)
  agrees_at node world row [] last down from end height least inside run free first is begun begun_up ends = record {
    down = λ d. elim d [
      | inl c ↦ not-true (up_in world node) (sym is ∙ c.down_is)
      | inr none ↦ absurd none
    ];
    drawn_down = λ e. let drawn : down ≡ true = is ∙ ap not e in inl (record { down_is = drawn; from = begun drawn; to = ends });
    up = λ d. elim d [
      | inl c ↦ not-false (up_in world node) (sym is ∙ c.down_is)
      | inr none ↦ absurd none
    ];
    drawn_up = λ e.
        let drawn : down ≡ false = is ∙ ap not e in
        elim (begun_up drawn) [
          | inl began ↦ inl (inl (record { down_is = drawn; from = began; to = ends }))
          | inr free_here ↦ inr free_here
        ];
  }
  agrees_at node world row (m ∷ ms) last down from end height least inside run free first is begun begun_up ends =
      let within : node < length m.after.nodes = subst (λ (n : ℕ). node < n) (sym (as_many_after world m.command m.line m.after run.0)) inside in
      agrees_turned row (life_turn node m.command m.line) (rest_of node (row + 1) ms) down from end height
      (up_in world node) (up_in m.after node) (up_at node m.after (row + 1) ms height)
      least first is begun begun_up (bus_turns world m.command m.line m.after node inside run.0)
      (λ rises low high. free [] m ms row refl (omega arith) rises low high)
      (λ d f which below drawn. drawn_from node (row + 1) ms d f end which height (omega arith) below drawn)
      (λ d f below down_is start start_up. agrees_at node m.after (row + 1) ms last d f end height (omega arith) within run.1
      (λ front one rest k whole place. free (m ∷ front) one rest k (ap (λ (xs : Moments). m ∷ xs) whole) (omega (arith, place)))
      below down_is start start_up ends)
      (λ short.
      let gap = axis_gap row least in
      up_above node m.after (row + 1) ms height (omega (arith, gap, short)))

-- ---- a life rises at a cut alone

refusal_no_rise : (refusal : Refusal) → refusal_turn refusal ≡ Some Rises → ⊥
refusal_no_rise MemoryFailure e = cc
refusal_no_rise NotFormatted e = cc
refusal_no_rise (Damaged place) e = cc
refusal_no_rise (BadSlot slot) e = cc
refusal_no_rise (BadBound cell) e = cc
refusal_no_rise _ e = cc

line_rises : (line : Line) → line_turn line ≡ Some Rises → line ≡ Up
line_rises Up e = refl
line_rises (Refused refusal) e = absurd (refusal_no_rise refusal e)
line_rises _ e = cc

no_turn : (turn : LifeTurn) → None ≡ Some turn → ⊥
no_turn turn e = cc

life_rises : (node : ℕ) (event : Event) (line : Line) → life_turn node event line ≡ Some Rises → (node_of event ≡ node) × (line ≡ Up)
life_rises node event line e = elim (eqb_tells (node_of event) node) [
  | inl same ↦ (same.1, line_rises line (subst (λ (b : Bool). cond b (line_turn line) None ≡ Some Rises) same.0 e))
  | inr other ↦ absurd (no_turn Rises (subst (λ (b : Bool). cond b (line_turn line) None ≡ Some Rises) other.0 e))
]

free_beside : (node : ℕ) (ms : Moments) (height : ℕ) → FreesCuts (IsBesideCut ms node height) node 1 ms height
free_beside node ms height front m rest k whole place rises low high =
    let cut = life_rises node m.command m.line rises in
    let row : k ≡ length front + 1 = omega (arith, place) in
    record {
      front = front;
      m = m;
      rest = rest;
      whole = whole;
      of_node = cut.0;
      is_up = cut.1;
      least = subst (λ (r : ℕ). row_axis r ≤ height + 14) row low;
      most = subst (λ (r : ℕ). height < row_axis r + 14) row high;
    }

-- ---- the whole lifeline

behind_row : (start : World) (ms : Moments) (last : World) → IsFirst start → Run Step start ms last
    → (node row height : ℕ) → node < length start.nodes → row ≤ length ms → IsBehindRow (length ms) row height
    → Agrees (IsBesideCut ms node height) (run_lifeline node ms) height (up_behind start ms row node)
behind_row start ms last first run node row height inside within behind =
    let ends : height < lifeline_bottom (length (commands_in ms)) =
    subst (λ (n : ℕ). height < lifeline_bottom n) (sym (length-map ms (λ (m : Instant). m.command)))
    (above_bottom (length ms) row height within behind) in
    subst (Agrees (IsBesideCut ms node height) (run_lifeline node ms) height) (up_behind_row node start ms row height within behind)
    (agrees_at (IsBesideCut ms node height) node start 1 ms last false lifeline_top (lifeline_bottom (length (commands_in ms))) height (omega arith) inside run
    (free_beside node ms height) (omega arith)
    (sym (ap not (first.up node inside))) (λ e. absurd (false≢true e)) (λ e. inl (below_top (length ms) row height behind)) ends)

pub lifelines_of : (start : World) (ms : Moments) (last : World) → IsFirst start → Run Step start ms last → LifelinesOf start ms
lifelines_of start ms last first run = record {
  down = λ node row height inside within behind.
      let a = behind_row start ms last first run node row height inside within behind in
      (λ d. a.down (Drawn-from (run_lifeline node ms) true height d), λ e. IsDrawnAt-from (run_lifeline node ms) true height (a.drawn_down e));
  up = λ node row height inside within behind d.
      let a = behind_row start ms last first run node row height inside within behind in
      a.up (Drawn-from (run_lifeline node ms) false height d);
  drawn_up = λ node row height inside within behind e.
      let a = behind_row start ms last first run node row height inside within behind in
      elim (a.drawn_up e) [
        | inl d ↦ inl (IsDrawnAt-from (run_lifeline node ms) false height d)
        | inr beside ↦ inr beside
      ];
}
