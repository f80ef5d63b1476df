-- Heights of rows, and what is drawn at a height
use Rattle.std.specs.Prelude.{◌≡◌, ℕ, zero, suc, ◌+◌, ◌-◌, ◌<◌, ◌≤◌, ◌⊎◌, nat_lt, Bool, cond, List, [], ◌∷◌, ◌++◌, length}
use Rattle.std.proofs.Common.{refl, sym, ◌∙◌, ap, subst, arith, inl, inr}
use Rattle.std.proofs.lemmas.Bool.{cond-true, cond-false, lt-ltb, le-ltb, ne_eqb}
use Rattle.std.proofs.lemmas.Bool.Decides.{eqb_tells}
use Rattle.bus_machine.specs.Bus.{World, Moments}
use Rattle.chart_commands.specs.declared.lifelines.Stretch.{Stretch}
use Rattle.chart_commands.specs.Places.{row_axis, lifeline_top, lifeline_bottom}
use Rattle.chart_commands.specs.MarkLaws.{IsBehindRow, IsDrawnAt, up_behind}
use Rattle.chart_commands.proofs.Turning.{up_in}

-- ---- the axes of rows

-- from an axis to the next are 28 pixels at least
pub axis_gap : (row : ℕ) → 1 ≤ row → row_axis row + 28 ≤ row_axis (row + 1)
axis_gap row least = omega arith

axis_more : (row more : ℕ) → 1 ≤ row → row_axis row ≤ row_axis (row + more)
axis_more row zero least =
    let same : row ≡ row + 0 = omega arith in
    let here : row_axis row ≤ row_axis row = omega arith in
    subst (λ (r : ℕ). row_axis row ≤ row_axis r) same here
axis_more row (suc more) least =
    let next = axis_gap row least in
    let rest = axis_more (row + 1) more (omega arith) in
    let same : row + 1 + more ≡ row + suc more = omega arith in
    let far : row_axis (row + 1) ≤ row_axis (row + suc more) = subst (λ (r : ℕ). row_axis (row + 1) ≤ row_axis r) same rest in
    omega (arith, next, far)

-- the lifelines end 18 pixels below the last axis
bottom_is : (rows : ℕ) → 1 ≤ rows → lifeline_bottom rows ≡ row_axis rows + 18
bottom_is rows least = omega arith

-- ---- what is drawn at a height, by recursion

pub record Covers (one : Stretch) (down : Bool) (height : ℕ) : Type 0 where
  pub down_is : one.down ≡ down
  pub from : one.from ≤ height
  pub to : height < one.to

abbrev pub Drawn : List Stretch → Bool → ℕ → Type 0
Drawn [] down height = ⊥
Drawn (one ∷ rest) down height = Covers one down height ⊎ Drawn rest down height

drawn_behind : (front : List Stretch) (one : Stretch) (rest : List Stretch) (down : Bool) (height : ℕ) → Covers one down height
    → Drawn (front ++ one ∷ rest) down height
drawn_behind [] one rest down height covers = inl covers
drawn_behind (other ∷ front) one rest down height covers = inr (drawn_behind front one rest down height covers)

pub Drawn-from : (drawn : List Stretch) (down : Bool) (height : ℕ) → IsDrawnAt drawn down height → Drawn drawn down height
Drawn-from drawn down height at =
    subst (λ (xs : List Stretch). Drawn xs down height) (sym at.among)
    (drawn_behind at.front at.one at.rest down height (record { down_is = at.down_is; from = at.from; to = at.to }))

pub IsDrawnAt-from : (drawn : List Stretch) (down : Bool) (height : ℕ) → Drawn drawn down height → IsDrawnAt drawn down height
IsDrawnAt-from [] down height none = absurd none
IsDrawnAt-from (one ∷ rest) down height (inl covers) =
    record { front = []; one = one; rest = rest; among = refl; down_is = covers.down_is; from = covers.from; to = covers.to }
IsDrawnAt-from (one ∷ rest) down height (inr later) =
    let at = IsDrawnAt-from rest down height later in
    record {
      front = one ∷ at.front;
      one = at.one;
      rest = at.rest;
      among = ap (λ (xs : List Stretch). one ∷ xs) at.among;
      down_is = at.down_is;
      from = at.from;
      to = at.to;
    }

-- ---- whether the node is up at a height

-- above the axis of the first of these rows as in the world before it, and below it as these moments leave it
abbrev pub up_at : ℕ → World → ℕ → Moments → ℕ → Bool
up_at node world row [] height = up_in world node
up_at node world row (m ∷ ms) height = cond (nat_lt height (row_axis row)) (up_in world node) (up_at node m.after (row + 1) ms height)

pub up_above : (node : ℕ) (world : World) (row : ℕ) (ms : Moments) (height : ℕ) → height < row_axis row → up_at node world row ms height ≡ up_in world node
up_above node world row [] height above = refl
up_above node world row (m ∷ ms) height above = cond-true (nat_lt height (row_axis row)) _ _ (lt-ltb height (row_axis row) above)

-- below a row it is up as the moments up to that row leave it
up_at_row : (node : ℕ) (world : World) (row : ℕ) (ms : Moments) (done height : ℕ) → 1 ≤ row → done ≤ length ms
    → ((last : ℕ) → last + 1 ≡ row + done → 1 ≤ done → row_axis last ≤ height)
    → ((next : ℕ) → next ≡ row + done → done < length ms → height < row_axis next)
    → up_at node world row ms height ≡ up_behind world ms done node
up_at_row node world row [] zero height least inside from to = refl
up_at_row node world row [] (suc done) height least inside from to = absurd (omega (arith, inside))
up_at_row node world row (m ∷ ms) zero height least inside from to =
    up_above node world row (m ∷ ms) height (to row (omega arith) (omega arith))
up_at_row node world row (m ∷ ms) (suc done) height least inside from to =
    let axis = from (row + done) (omega arith) (omega arith) in
    let more = axis_more row done least in
    let behind : row_axis row ≤ height = omega (arith, axis, more) in
    cond-false (nat_lt height (row_axis row)) _ _ (le-ltb height (row_axis row) behind)
    ∙ up_at_row node m.after (row + 1) ms done height (omega arith) (omega (arith, inside))
    (λ last e one. from last (omega (arith, e)) (omega arith))
    (λ next e fewer. to next (omega (arith, e)) (omega (arith, fewer)))

-- below a row of the chart
pub up_behind_row : (node : ℕ) (world : World) (ms : Moments) (row height : ℕ) → row ≤ length ms → IsBehindRow (length ms) row height
    → up_at node world 1 ms height ≡ up_behind world ms row node
up_behind_row node world ms row height inside behind =
    up_at_row node world 1 ms row height (omega arith) inside
    (λ last e one.
    let same : row ≡ last = omega (arith, e) in
    let least : row_axis row ≤ height =
    subst (λ (b : Bool). cond b lifeline_top (row_axis row) ≤ height) (ne_eqb row 0 (λ none. omega (arith, none, one))) behind.least in
    subst (λ (r : ℕ). row_axis r ≤ height) same least)
    (λ next e fewer.
    let same : row + 1 ≡ next = omega (arith, e) in
    let most : height < row_axis (row + 1) =
    subst (λ (b : Bool). height < cond b (lifeline_bottom (length ms)) (row_axis (row + 1)))
    (ne_eqb row (length ms) (λ all. omega (arith, all, fewer))) behind.most in
    subst (λ (r : ℕ). height < row_axis r) same most)

-- and below their beginning
pub below_top : (rows row height : ℕ) → IsBehindRow rows row height → lifeline_top ≤ height
below_top rows row height behind = elim (eqb_tells row 0) [
  | inl same ↦ subst (λ (b : Bool). cond b lifeline_top (row_axis row) ≤ height) same.0 behind.least
  | inr other ↦
      let least : row_axis row ≤ height = subst (λ (b : Bool). cond b lifeline_top (row_axis row) ≤ height) other.0 behind.least in
      omega (arith, least)
]

-- a height below a row is above the end of the lifelines
pub above_bottom : (rows row height : ℕ) → row ≤ rows → IsBehindRow rows row height → height < lifeline_bottom rows
above_bottom rows row height inside behind = elim (eqb_tells row rows) [
  | inl same ↦ subst (λ (b : Bool). height < cond b (lifeline_bottom rows) (row_axis (row + 1))) same.0 behind.most
  | inr other ↦
      let apart = other.1 in
      let fewer : row < rows = omega (arith, apart) in
      let most : height < row_axis (row + 1) =
      subst (λ (b : Bool). height < cond b (lifeline_bottom rows) (row_axis (row + 1))) other.0 behind.most in
      let more : row_axis (row + 1) ≤ row_axis (row + 1 + (rows - (row + 1))) = axis_more (row + 1) (rows - (row + 1)) (omega arith) in
      let same : row + 1 + (rows - (row + 1)) ≡ rows = omega (arith, fewer) in
      let last : row_axis (row + 1) ≤ row_axis rows = subst (λ (r : ℕ). row_axis (row + 1) ≤ row_axis r) same more in
      let bottom = bottom_is rows (omega (arith, fewer)) in
      omega (arith, most, last, bottom)
]
