-- A roll-back at any moment opens.
use Rattle.std.proofs.Common.{ℤ, ◌≡◌, ℕ, ◌<◌, ◌≤◌, inl, inr, IsSome, Option, List, [], ◌∷◌, ◌++◌, length, take, refl, sym, ap, subst, ◌∙◌, arith, length-append, length-take}
use Rattle.std.proofs.lemmas.Bool.{false≢true}
use Rattle.std.proofs.lemmas.List.{get_or-append_right}
use Rattle.basics.proofs.CallerLemmas.{length-bytes_of}
use Rattle.cell_store.specs.Layout.{SameOutside}
use Rattle.cell_store.specs.Twin.{first_at, cell_at}
use Rattle.freshness_routes.specs.declared.routes.Direction.{Direction}
use Rattle.store_plan.specs.declared.planning.Plan.{Plan}
use Rattle.store_plan.specs.Plans.{IsEmptyPlan}
use Rattle.store_plan.specs.Leaving.{LeavesPut}
use Rattle.store_plan.proofs.CallerLemmas.{any-count, cell-apart, head-counted, says-once}
use Rattle.rathonsi_c.specs.declared.TheConstants.{OK}
use Rattle.rathonsi_c.specs.declared.route.RathonsiRoute.{RathonsiRoute}
use Rattle.rathonsi_c.specs.Growing.{SaysSize, TellAnswers, SizeAnswers, GivesSize, MendAnswers, PlansNumber}
use Rattle.rathonsi_c.specs.Images.{ImageBound}
use Rattle.rathonsi_c.specs.Lives.{Memory, Deed, Lives, RisesTo, SameRoute}
use Rattle.rathonsi_c.specs.Routes.{InRanges, OpenAnswers, at_counter}
use Rattle.rathonsi_c.specs.Softwares.{Table, CellsApart, GrowthSteps, SoftwareComesUp, Software, AllSoftware, given_by_all, NoneRejoins, KeepsAtLeast}
use Rattle.rathonsi_c.specs.Stores.{IsSize, IsWhole, CheckAnswers}
use Rattle.rathonsi_c.proofs.AnswerLaws.{damaged_keeps_none, one_size}
use Rattle.rathonsi_c.proofs.DiskLaws.{front-cell, front-part}
use Rattle.rathonsi_c.proofs.GrowthAnswers.{not-soon}
use Rattle.rathonsi_c.proofs.GrowthLaws.{Head, Follows, follows, tells-on, cell_within, head_within, no_bound_is_zeros}
use Rattle.rathonsi_c.proofs.ImageLaws.{same_direction}
use Rattle.rathonsi_c.proofs.LivesLaws.{after-cut, ranges-counted}
use Rattle.rathonsi_c.proofs.SoftwareLaws.{StaysWhole, Keeps, all-rise, keeps-on, counted-on, stays-whole, told-cell, up-whole}
use Rattle.rathonsi_c.proofs.WholeLaws.{long_over, whole_over}

-- ---- what the cells say after a life

-- the bytes after two lists of one length are the same
beyond-same : (x y r : List ℕ) → length y ≡ length x → SameOutside 0 (length x) (x ++ r) (y ++ r)
beyond-same x y r same = record {
  lengths = omega (arith, same, length-append x r, length-append y r);
  below = λ k none. absurd (omega arith);
  above = λ k from. get_or-append_right y r (length x) k 0 same (omega arith) ∙ sym (get_or-append_right x r (length x) k 0 refl (omega arith));
}

cell-beyond : (x y r : List ℕ) (i : ℕ) → length y ≡ length x → length x ≤ first_at i → cell_at (y ++ r) i ≡ cell_at (x ++ r) i
cell-beyond x y r i same from = cell-apart (x ++ r) (y ++ r) i 0 (length x) (beyond-same x y r same) (inr (omega arith))

-- whatever the power leaves tells n cells, or more
abbrev Tells : ℕ → Memory → List ℕ → Type 0
Tells n a room = (left : List ℕ) → LeavesPut a.plan a.image left → (m : ℕ) × (SaysSize (left ++ room) m × (n ≤ m))

module _ (table : Table) (apart : CellsApart table) (n : ℕ) (a b d : Memory) (room behind : List ℕ) (u : SoftwareComesUp table n a room b behind) (deeds : List Deed) (lives : Lives n deeds b d) where
  told-after : (left : List ℕ) → LeavesPut d.plan d.image left → SaysSize (left ++ behind) u.count
  told-after left cut =
      let whole = stays-whole table apart n a b d room behind u deeds lives left cut in
      let long : length left ≡ length b.image = long_over n deeds b d u.empty (up-whole table n a b room behind u) lives left cut in
      let size = u.size in
      let is = whole.size.is in
      let same : whole.count ≡ u.count = omega arith in
      let least = u.told.least in
      let head : Head u.count (left ++ behind) = sym (head_within left behind (omega arith)) ∙ subst (λ k. Head k left) same whole.head in
      record {
        least = u.told.least;
        most = u.told.most;
        says = record {
          head = head-counted u.count u.count (left ++ behind) (omega (arith, length-append left behind)) head;
          counts = record {
            most = u.told.says.counts.most;
            room = omega (arith, length-append left behind);
            cells = λ j below. subst (λ (o : Option (List ℕ)). IsSome o) (sym (cell_within left behind j (omega arith))) (whole.cells j (omega arith));
            end = λ few room. cell-beyond b.image left behind u.count long (omega arith) ∙ u.told.says.counts.end few (omega (arith, room, long, length-append left behind, length-append b.image behind));
          };
          sure = inl head;
        };
      }

  tells-later : (low : ℕ) → Tells low a room → Tells low d behind
  tells-later low tells left cut =
      let t = tells u.left u.cut in
      let s = tells-on table u.steps t.0 (u.left ++ room) (b.image ++ behind) t.1.0 u.grew in
      let same : s.0 ≡ u.count = says-once (b.image ++ behind) s.0 u.count s.1.0.says u.told.says in
      (u.count, (told-after left cut, (let x = t.1.1 in let y = s.1.1 in omega arith)))

  tells-here : Tells u.count d behind
  tells-here left cut = (u.count, (told-after left cut, omega arith))

-- a route keeps its bound, and the store its cells, over all software
record Lasts (table : Table) (n k : ℕ) (a : Memory) (room : List ℕ) : Type 0 where
  keeps : Keeps 0 (table.route k) a
  whole : StaysWhole a
  tells : Tells n a room

lasts-all : (table : Table) (apart : CellsApart table) (softwares : List Software) (n k : ℕ) (a c : Memory) (room end : List ℕ) → Lasts table n k a room → AllSoftware table softwares a room c end → Lasts table n k c end
lasts-all table apart [] n k a c room end l all = subst (λ (m : Memory). Lasts table n k m end) (sym all.0) (subst (λ (r : List ℕ). Lasts table n k a r) (sym all.1) l)
lasts-all table apart (s ∷ rest) n k a c room end l (b, (behind, (u, (d, (lives, more))))) =
    lasts-all table apart rest n k d c behind end (record {
      keeps = keeps-on table apart s.routes a b d room behind u s.deeds lives (l.whole u.left u.cut) k l.keeps;
      whole = stays-whole table apart s.routes a b d room behind u s.deeds lives;
      tells = tells-later table apart s.routes a b d room behind u s.deeds lives n l.tells;
    }) more

tells-all : (table : Table) (apart : CellsApart table) (softwares : List Software) (n : ℕ) (a c : Memory) (room end : List ℕ) → Tells n a room → AllSoftware table softwares a room c end → Tells n c end
tells-all table apart [] n a c room end t all = subst (λ (m : Memory). Tells n m end) (sym all.0) (subst (λ (r : List ℕ). Tells n a r) (sym all.1) t)
tells-all table apart (s ∷ rest) n a c room end t (b, (behind, (u, (d, (lives, more))))) =
    tells-all table apart rest n d c behind end (tells-later table apart s.routes a b d room behind u s.deeds lives n t) more

-- ---- the answers

-- of an image that says a number the answer is what the rest says
pub tell-only : (image : List ℕ) (n : ℕ) (rest : ℤ → Type 0) (status : ℤ) → SaysSize image n → TellAnswers image rest status → rest status
tell-only image n rest status told h = elim h [
  | inl (short, _) ↦ (let r = told.says.counts.room in let l = told.least in absurd (omega arith))
  | inr (_, more) ↦ elim more [
    | inl (none, _) ↦ absurd (none (any-count n 1 image (let r = told.says.counts.room in omega arith) told.says.head))
    | inr (_, cells) ↦ elim cells [
      | inl (soon, _) ↦ absurd (not-soon image n told.says soon)
      | inr (_, last) ↦ elim last [ inl (none, _) ↦ absurd (none n told) | inr (_, says) ↦ says ]
    ]
  ]
]

module _ (table : Table) (apart : CellsApart table) (n steps : ℕ) (a b d e : Memory) (room behind end left y : List ℕ) (deeds : List Deed) (others : List Software) (u : SoftwareComesUp table n a room b behind) (lives : Lives n deeds b d)
    (all : AllSoftware table others d behind e end) (cut : LeavesPut e.plan e.image left) (grew : GrowthSteps table steps (left ++ end) y) where
  pub told-now : (m : ℕ) × SaysSize y m
  told-now =
      let t = tells-all table apart others u.count d e behind end (tells-here table apart n a b d room behind u deeds lives) all left cut in
      let s = tells-on table steps t.0 (left ++ end) y t.1.0 grew in
      (s.0, s.1.0)

  pub size-ok : (status : ℤ) → SizeAnswers y status → status ≡ OK
  size-ok status h = tell-only y told-now.0 (λ s. s ≡ OK) status told-now.1 h

  pub mend-ok : (plan : Plan) (status : ℤ) → IsEmptyPlan plan → MendAnswers y plan status → status ≡ OK
  mend-ok plan status empty h = elim h [ inl (full, _) ↦ absurd (full empty) | inr (_, t) ↦ tell-only y told-now.0 (λ s. s ≡ OK) status told-now.1 t ]

  module _ (k : ℕ) (x : k < n) where
    lasts : Lasts table u.count k e end
    lasts = lasts-all table apart others u.count k d e behind end (record {
      keeps = counted-on table apart n a b d room behind u deeds lives k x;
      whole = stays-whole table apart n a b d room behind u deeds lives;
      tells = tells-here table apart n a b d room behind u deeds lives;
    }) all

    after : Follows (left ++ end) y
    after = follows table steps (left ++ end) y grew

    module _ (size : ℕ) (filled : RathonsiRoute) (direction : Direction) (given : GivesSize y size) (same : SameRoute (table.route k) filled) (ranges : InRanges filled direction) where
      open-bound : (bound : ℕ) × ImageBound (take size y) filled.cell filled.data_id direction bound
      open-bound =
          let h = lasts.keeps in
          let l = after-cut e.image e.plan h.r left cut h.holds in
          let whole = lasts.whole left cut in
          let few = whole.size.most in
          let is = whole.size.is in
          let long = after.long in
          let room = l.kept.room in
          let here : ImageBound y h.r.cell h.r.data_id h.holds.direction l.bound = record {
            room = omega (arith, length-append left end);
            bytes = l.kept.bytes;
            is = after.same h.r.cell l.kept.bytes (cell_within left end h.r.cell l.kept.room ∙ l.kept.is) (λ z. no_bound_is_zeros h.r.data_id h.holds.direction l.bound (sym l.kept.holds.cell_is ∙ z));
            holds = l.kept.holds;
          } in
          let below : h.r.cell < given.count = told-cell y given.count h.r.cell given.told.says
          (λ j to. after.some j (subst (λ (o : Option (List ℕ)). IsSome o) (sym (cell_within left end j (omega arith))) (whole.cells j (omega arith))))
          (omega arith) here.room in
          let fits = given.told.says.counts.room in
          let front : ImageBound (take size y) h.r.cell h.r.data_id h.holds.direction l.bound = record {
            room = (let g = given.is in omega (arith, length-take size y));
            bytes = here.bytes;
            is = ap (λ s. cell_at (take s y) h.r.cell) given.is ∙ (front-cell y given.count h.r.cell below fits ∙ here.is);
            holds = here.holds;
          } in
          let way : h.holds.direction ≡ direction = same_direction h.holds.direction direction (sym h.holds.ranges.direction_is ∙ (h.same.direction ∙ (sym same.direction ∙ ranges.direction_is))) in (
            l.bound,
            subst (λ (q : Direction). ImageBound (take size y) filled.cell filled.data_id q l.bound) way
                (subst (λ id. ImageBound (take size y) filled.cell id h.holds.direction l.bound) (h.same.data_id ∙ sym same.data_id)
                (subst (λ place. ImageBound (take size y) place h.r.data_id h.holds.direction l.bound) (h.same.cell ∙ sym same.cell) front)),
          )

      pub open-ok : (status : ℤ) → OpenAnswers filled (take size y) status → status ≡ OK
      open-ok status h =
          let o = open-bound in
          elim h [
            | inl (out, _) ↦ absurd (out direction ranges)
            | inr (_, cell) ↦ elim cell [
              | inl (other, _) ↦ absurd ((other direction ranges).no_bound o.0 o.1)
              | inr (_, more) ↦ elim more [
                | inl (damaged, _) ↦ absurd (damaged_keeps_none (take size y) filled.cell filled.data_id direction o.0 damaged o.1)
                | inr (_, done) ↦ done
              ]
            ]
          ]

-- once the number is right, the store is whole
pub check-ok : (size : ℕ) (y : List ℕ) (old new : Plan) (status : ℤ) → GivesSize y size → PlansNumber y old new → new ≡ old → CheckAnswers (take size y) status → status ≡ OK
check-ok size y old new status g p same h =
    let n = g.count in
    let one : p.count ≡ n = says-once y p.count n p.told.says g.told.says in
    let head : Head p.count y = elim p.plans [
      | inl (right, _) ↦ right
      | inr (other, number) ↦
          let none : IsEmptyPlan new = subst (λ (q : Plan). IsEmptyPlan q) (sym same) p.empty in
          let zero_bytes = none.third in
          let two = number.third.count in
          absurd (omega (arith, two, zero_bytes, length-bytes_of 2 p.count))
    ] in
    let fits = g.told.says.counts.room in
    let is = g.is in
    let here : IsSize n (length (take size y)) = record { least = g.told.least; most = g.told.most; is = omega (arith, length-take size y) } in
    let least = g.told.least in
    let front : Head n (take size y) = front-part y size 0 32 (omega arith) (omega arith) ∙ subst (λ m. Head m y) one head in
    elim h [
      | inl (no_size, _) ↦ absurd (no_size n here)
      | inr (_, more) ↦ elim more [
        | inl (headless, _) ↦ absurd (headless n here front)
        | inr (_, last) ↦ elim last [
          | inl (damage, _) ↦
              let m : damage.count ≡ n = one_size damage.count n (length (take size y)) damage.size here in
              let below : damage.cell < n = (let b = damage.below in omega arith) in
              let gone = sym (ap (λ s. cell_at (take s y) damage.cell) is ∙ front-cell y n damage.cell below fits) ∙ damage.none in
              absurd (false≢true (subst (λ (o : Option (List ℕ)). IsSome o) gone (g.told.says.counts.cells damage.cell below)))
          | inr (_, done) ↦ done
        ]
      ]
    ]

-- ---- what a route gave out stays covered

keeps-all : (table : Table) (apart : CellsApart table) (softwares : List Software) (k : ℕ) (a c : Memory) (room end : List ℕ) → StaysWhole a → Keeps 0 (table.route k) a → AllSoftware table softwares a room c end → Keeps 0 (table.route k) c
keeps-all table apart [] k a c room end whole keeps all = subst (λ (m : Memory). Keeps 0 (table.route k) m) (sym all.0) keeps
keeps-all table apart (s ∷ rest) k a c room end whole keeps (b, (behind, (u, (d, (lives, more))))) =
    keeps-all table apart rest k d c behind end (stays-whole table apart s.routes a b d room behind u s.deeds lives)
    (keeps-on table apart s.routes a b d room behind u s.deeds lives (whole u.left u.cut) k keeps) more

first-keeps : (low : ℕ) (route : RathonsiRoute) (a : Memory) → IsEmptyPlan a.plan → KeepsAtLeast low route a.image → Keeps low route a
first-keeps low route a empty k = record {
  r = at_counter route low;
  same = record { cell = refl; data_id = refl; direction = refl };
  holds = record {
    direction = k.direction;
    ranges = ranges-counted route low k.direction k.ranges;
    bound = k.bound;
    kept = k.kept;
    below = k.least;
    planned = inl empty;
  };
  least = omega arith;
}

-- what the power leaves keeps it
left-keeps : (high : ℕ) (route : RathonsiRoute) (direction : Direction) (c : Memory) (left : List ℕ) → InRanges route direction → LeavesPut c.plan c.image left → Keeps high route c → KeepsAtLeast high route left
left-keeps high route direction c left ranges cut h =
    let l = after-cut c.image c.plan h.r left cut h.holds in
    let way : h.holds.direction ≡ direction = same_direction h.holds.direction direction (sym h.holds.ranges.direction_is ∙ (h.same.direction ∙ ranges.direction_is)) in
    record {
      direction = direction;
      ranges = ranges;
      bound = l.bound;
      kept =
          subst (λ (q : Direction). ImageBound left route.cell route.data_id q l.bound) way
          (subst (λ id. ImageBound left route.cell id h.holds.direction l.bound) h.same.data_id
          (subst (λ place. ImageBound left place h.r.data_id h.holds.direction l.bound) h.same.cell l.kept));
      least = (let a = h.least in let b = h.holds.below in let m = l.least in omega arith);
    }

pub covered_over_all : (table : Table) (softwares : List Software) (a c : Memory) (room end : List ℕ) (k low : ℕ) → CellsApart table → IsEmptyPlan a.plan → IsWhole a.image → AllSoftware table softwares a room c end → NoneRejoins k softwares → KeepsAtLeast low (table.route k) a.image
    → (high : ℕ) × (RisesTo low (given_by_all k softwares) high × ((left : List ℕ) → LeavesPut c.plan c.image left → KeepsAtLeast high (table.route k) left))
covered_over_all table softwares a c room end k low apart empty whole all never kept =
    let stays : StaysWhole a = λ left cut. (whole_over 0 [] a a empty whole refl left cut).1 in
    let first = first-keeps low (table.route k) a empty kept in
    let r = all-rise table apart softwares k low a c room end never stays (inr first) all in
    let zero_keeps = keeps-all table apart softwares k a c room end stays (record { r = first.r; same = first.same; holds = first.holds; least = omega arith }) all in (
      r.high,
      (
        r.rises,
        λ left cut. elim r.kept [
          | inl none ↦ left-keeps r.high (table.route k) kept.direction c left kept.ranges cut
              (record { r = zero_keeps.r; same = zero_keeps.same; holds = zero_keeps.holds; least = omega arith })
          | inr h ↦ left-keeps r.high (table.route k) kept.direction c left kept.ranges cut h
        ],
      ),
    )
