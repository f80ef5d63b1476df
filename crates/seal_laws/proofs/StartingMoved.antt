-- What a start leaves that finds a move, and what it leaves in all cases.
use Rattle.std.proofs.Common.{◌≡◌, ◌≢◌, ◌⊎◌, inl, inr, ℕ, suc, ◌+◌, ◌-◌, ◌<◌, ◌≤◌, Bool, true, false, nat_lt, if◌then◌else◌, Some, None, List, [], ◌∷◌, ◌++◌, length, refl, sym, ap, subst, ◌∙◌, arith}
use Rattle.std.proofs.lemmas.Bool.{true≢false, cases_lt, cases_eq, lt-ltb, le-ltb}
use Rattle.seal_parts.specs.declared.PartClass.TheVariants.{Blanks}
use Rattle.seal_parts.specs.declared.UnitKind.TheVariants.{Line}
use Rattle.seal_parts.specs.declared.UnitContent.TheVariants.{Holds}
use Rattle.seal_parts.specs.declared.LogDeed.{LogDeed}
use Rattle.seal_parts.specs.declared.DeedBody.{DeedBody}
use Rattle.seal_parts.specs.declared.DeedBody.TheVariants.{Opens, Moves}
use Rattle.seal_parts.specs.Parts.{PartFlash, PartView, ReadsUnits}
use Rattle.seal_parts.specs.Designs.{PartWrite, DoesPartWrites, CutsPartWrites, MayDoPartWrites}
use Rattle.seal_logs.specs.declared.finding.FoundDeed.{FoundDeed}
use Rattle.seal_logs.specs.declared.starting.FoundStore.{FoundStore}
use Rattle.seal_logs.specs.Reads.{LogReads, IsDeedPlace, ReadsDeed, EndsBefore, IsChain, MakesOf, IsCopyRead, after_body}
use Rattle.seal_logs.specs.Starts.{IsMove, IsLatestDeed, IsStoreFound, home_bank, home_generation}
use Rattle.seal_logs.proofs.CallerLemmas.{one_deed, copy_one}
use Rattle.seal_laws.specs.declared.SealSizes.{SealSizes}
use Rattle.seal_laws.specs.declared.SealPoint.{SealPoint}
use Rattle.seal_laws.specs.Writes.{reads_of, seal_line, deed_of, deed_writes, open_writes, start_writes, point_at, started_at}
use Rattle.seal_laws.proofs.Flashes.{firm_reads, firm_is, blank_not_firm, copy_extends, reads_firm, line_held, deed_done, deed_cut, done_firm, done_closed, does_both, cuts_both, may_both}
use Rattle.seal_laws.proofs.Sealed.{FreeFrom, StaysHome, HomeReady, MayStand, stands_again, stands_put, stands_move, InBank, StandsFirst, AtMove, line_one, free_here, free_there, LongBefore, long_again, long_next, before_next}
use Rattle.seal_laws.proofs.Within.{IsWholeEnd, EndsWithin, whole_within, next_within, LeftWithin, left_whole, left_within, HomeWithin, left_more, home_more}
use Rattle.seal_laws.proofs.Writing.{Rests, rests_in, rests_at, Ready, ready_in, ready_at, last_from, last_below, last_before, free_may, move_on, in_bank_left, at_move_left, at_move_firm, at_home_left, at_home_firm}
use Rattle.seal_laws.proofs.Starting.{Quiet, quiet_in, quiet_at, FoundAt, found_at, writes_with, started_with, same_started, StartLeaves, mk, chain_is, cells_are, free_next, ends_by, ends_at_cells, end_clean, closed_firm, stay_bank, stay_generation, stay_copy, stay_open, stay_point, stay_not_move, latest_in, is_latest, clean_last, before_next_place, stays_leaves}

not_empty : (write : PartWrite) (writes : List PartWrite) → write ∷ writes ≡ [] → ⊥
not_empty write writes e = absurd (cc)

-- two lists of writes, and what the first one leaves
pub then_leaves : (P : List (List ℕ) → Type 0) (s : SealSizes) (limit : ℕ) (f : PartFlash) (xs ys : List PartWrite) (point : SealPoint) (cells : List (List ℕ)) (Between : PartFlash → Type 0)
    → ((g : PartFlash) → DoesPartWrites Blanks xs f g → Between g) → ((h : PartFlash) → CutsPartWrites Blanks xs f h → Rests P s.log (suc limit) h)
    → ((g : PartFlash) → Between g → StartLeaves P s limit g ys point cells) → ((g : PartFlash) → DoesPartWrites Blanks xs f g → ys ≡ [] → Quiet P s.log g) → MayDoPartWrites Blanks xs f
    → StartLeaves P s limit f (xs ++ ys) point cells
then_leaves P s limit f xs ys point cells Between done cut next still may = record {
  does = λ h d. (let both = does_both Blanks xs ys f h d in (next both.0 (done both.0 both.1.0)).does h both.1.1);
  cuts = λ h d. elim (cuts_both Blanks xs ys f h d) [
    | inl c ↦ cut h c
    | inr both ↦ (next both.0 (done both.0 both.1.0)).cuts h both.1.1
  ];
  quiet = λ h d. (let both = does_both Blanks xs ys f h d in inr (elim ((next both.0 (done both.0 both.1.0)).quiet h both.1.1) [
    | inl none ↦ subst (λ (z : PartFlash). Quiet P s.log z) (sym (subst (λ (ws : List PartWrite). DoesPartWrites Blanks ws both.0 h) none both.1.1)) (still both.0 both.1.0 none)
    | inr quiet ↦ quiet
  ]));
  may = may_both Blanks xs ys f may (λ g d. (next g (done g d)).may);
}

pub nothing_leaves : (P : List (List ℕ) → Type 0) (s : SealSizes) (limit : ℕ) (f : PartFlash) (point : SealPoint) (cells : List (List ℕ)) → Ready P s.log limit f point cells → StartLeaves P s limit f [] point cells
nothing_leaves P s limit f point cells ready = record { does = λ h d. subst (λ (z : PartFlash). Ready P s.log limit z point cells) (sym d) ready; cuts = λ h d. absurd d; quiet = λ h d. inl refl; may = tt }

module _ (P : List (List ℕ) → Type 0) (s : SealSizes) (f after : PartFlash) (view : PartView) (reads : ReadsUnits Blanks f view after) where
  abbrev seen_here : LogReads
  seen_here = reads_of Blanks view

  module _ (m g last : ℕ) (cur : LogDeed) (chain : List ℕ) (b : ℕ) (copy : List (List ℕ)) (i : AtMove P s.log f m g last cur chain b copy) where
    read_move : ReadsDeed (seen_here m last) g cur
    read_move = reads_firm f after view reads m last _ i.deeds.is

    inside_move : IsDeedPlace s.log m last
    inside_move = (i.deeds.sound.inside, (last_from s.log f m g last cur chain i.deeds, last_below s.log f m g last cur chain i.deeds))

    -- the latest deed is the move, or one of the bank that it moved to
    pub latest_at : (d : FoundDeed) → IsLatestDeed s.log seen_here d
        → ((d ≡ mk m d.place g cur) × (last ≤ d.place)) ⊎ ((d ≡ mk b d.place (suc g) d.deed) × StandsFirst P copy d.deed)
    latest_at d l =
        let held = line_held f after view reads d.bank d.place _ l.is in
        let from = l.inside.1.0 in
        let below = l.inside.1.1 in
        elim (l.latest m last g cur inside_move read_move) [
          | inl less ↦ elim (cases_eq d.bank b) [
            | inl is ↦ (
                let there = ap (λ (z : ℕ). (f.unit z d.place Line).content) (sym is) ∙ held in
                let at = i.sound.lines d.place _ from below there in
                let e = line_one d.generation (suc g) d.deed at.0 at.1 in
                inr (
                  λ j. record { bank = is j; place = d.place; generation = e.0 j; deed = d.deed },
                  i.stand d.place d.deed from below (there ∙ ap (λ (n : ℕ). Some (Holds (seal_line n d.deed))) e.0),
                ))
            | inr ne ↦ elim (cases_eq d.bank m) [
              | inl is ↦ (
                  let at = i.deeds.sound.lines d.place _ from below (ap (λ (z : ℕ). (f.unit z d.place Line).content) (sym is) ∙ held) in
                  let e = (line_one d.generation g d.deed at.0 at.1).0 in
                  absurd (omega (arith, e, less)))
              | inr apart ↦ (let e = i.older d.bank apart ne d.place d.generation d.deed from below held in absurd (omega (arith, e, less)))
            ]
          ]
          | inr same ↦ (
              let bank = sym same.1.0 in
              let generation = sym same.0 in
              let there = ap (λ (z : ℕ). (f.unit z d.place Line).content) (sym bank) ∙ (held ∙ ap (λ (n : ℕ). Some (Holds (seal_line n d.deed))) generation) in
              let deed : d.deed ≡ cur = elim (cases_lt last d.place) [
                | inl less ↦ i.again d.place d.deed less below there
                | inr far ↦ (
                    let e : d.place ≡ last = (let z = same.1.1 in omega (arith, z, far)) in
                    let here : ReadsDeed (seen_here m last) g d.deed = subst (λ (z : ℕ). ReadsDeed (seen_here m z) g d.deed) e (subst (λ (z : ℕ). ReadsDeed (seen_here z d.place) g d.deed) bank (subst (λ (z : ℕ). ReadsDeed (seen_here d.bank d.place) z d.deed) generation l.is)) in
                    one_deed (seen_here m last) g d.deed cur here read_move)
              ] in
              inl (λ j. record { bank = bank j; place = d.place; generation = generation j; deed = deed j }, same.1.1))
        ]

module _ (P : List (List ℕ) → Type 0) (s : SealSizes) (f after : PartFlash) (view : PartView) (reads : ReadsUnits Blanks f view after) (found : FoundStore) (cells : List (List ℕ)) (limit : ℕ) where
  abbrev seen : LogReads
  seen = reads_of Blanks view

  -- ---- the log is in a bank

  module _ (b g last : ℕ) (cur : LogDeed) (chain : List ℕ) (copy now : List (List ℕ)) (i : InBank P s.log f b g last cur chain copy now)
      (need : ℕ) (enough : 2 ≤ need + length chain) (ends : EndsWithin s.log f limit b last need) where
    -- the latest deed is a move that was cut
    module _ (p to : ℕ) (moved : List (List ℕ)) (x : FoundAt s.log seen found cells (mk b p g (deed_of (Some last) (Moves to (suc g))))) (less : last < p)
        (apart : to ≢ b) (ready : HomeReady s.log f to (suc g) moved) (may : P moved) where
      abbrev d : LogDeed
      d = deed_of (Some last) (Moves to (suc g))

      home_ends : EndsBefore s.log (seen to) (suc g) found.home_next
      home_ends = subst (λ (n : ℕ). EndsBefore s.log (seen n) (suc g) found.home_next) x.home (subst (λ (n : ℕ). EndsBefore s.log (seen found.home) n found.home_next) x.generation x.home_next)

      home_end : found.home_next ≡ s.log.cells
      home_end = ends_at_cells s.log f after view reads to (suc g) found.home_next ready.sound.erased ready.free home_ends

      no_open : nat_lt s.log.cells found.home_next ≡ false
      no_open = le-ltb s.log.cells found.home_next (omega (arith, home_end))

      cells_moved : cells ≡ moved
      cells_moved = x.moved tt ∙ copy_one (seen to) (suc g) x.copy moved (x.whole.home.count ∙ sym ready.count) x.whole.home.copied
          (copy_extends s.log (firm_reads f to) (seen to) (suc g) (reads_firm f after view reads to) moved ready.copied)

      point_is : started_with s found (mk b p g d) found.is_clean (Moves to (suc g)) ≡ point_at to (suc g) s.log.cells None 2
      point_is = ap (λ (z : Bool). if z then point_at found.home found.generation (suc found.home_next) (Some found.home_next) 1 else point_at found.home found.generation found.home_next None 2) no_open
          ∙ (λ j. point_at (x.home j) (x.generation j) (home_end j) None 2)

      open_is : open_writes Blanks s found (Moves to (suc g)) ≡ []
      open_is = ap (λ (z : Bool). if z then deed_writes Blanks found.home found.home_next (seal_line found.generation (deed_of None Opens)) else []) no_open

      -- its place stands behind the last firm deed: the end isn't whole
      room_move : EndsWithin s.log f limit b last need → found.is_clean ≡ false → found.next + need < limit
      room_move (whole_within w room) e = absurd (true≢false (sym (x.clean.1 (end_clean s.log f after view reads b g last cur chain i.deeds w p d x.whole.latest (omega (arith, less)) found.next x.next)) ∙ e))
      room_move (next_within n blank room) e =
          let from = last_from s.log f b g last cur chain i.deeds in
          let past = last_before s.log f b g last cur chain i.deeds n blank in
          let most = ends_by s.log f after view reads b g found.next n i.deeds.sound.erased (omega (arith, from, past)) blank x.next in
          omega (arith, most, room)

      deed_leaves : (c : Bool) → found.is_clean ≡ c → StartLeaves P s limit f ((if c then [] else deed_writes Blanks b found.next (seal_line g d)) ++ []) (point_at to (suc g) s.log.cells None 2) moved
      deed_leaves true e = (let z = (clean_last P s f after view reads found cells b g last cur chain copy now i p d x (omega (arith, less)) e).0 in absurd (omega (arith, z, less)))
      deed_leaves false e =
          let k = found.next in
          let under : k < s.log.places = x.room e in
          let then_place = before_next_place P s f after view reads found cells b g last cur chain copy now i p d x (omega (arith, less)) in
          let behind : last < k = omega (arith, then_place, less) in
          let from : s.log.cells ≤ k = (let z = last_from s.log f b g last cur chain i.deeds in omega (arith, z, behind)) in
          let free = free_next s.log f after view reads b g found.next i.deeds.sound.erased x.next in
          let blank = free k (omega arith) under in
          let z = before_next s.log f b g last cur copy now chain i.deeds i.cells.makes k behind (Moves to (suc g)) in
          let space : k + need < limit = room_move ends e in
          let on : (h : PartFlash) → DoesPartWrites Blanks (deed_writes Blanks b k (seal_line g d)) f h
          → AtMove P s.log h b g k d (k ∷ z.ks) to moved × (FreeFrom s.log h to s.log.cells × IsWholeEnd s.log h b k) = λ h done.
          let w = deed_done b k (seal_line g d) f h done in
          let m = move_on P s.log f h b k g d from blank w under free last to z.ks moved i.deeds.sound i.older refl apart ready may z.chain (done_firm b k (seal_line g d) f h done) in
          (m.0, (m.1, record { free = free_here s.log f h b k g d from blank w free; closed = done_closed b k (seal_line g d) f h done })) in
          record {
            does = λ h done.
                let m = on h done in
                ready_at b g k d (k ∷ z.ks) to m.0 m.1.0 (left_whole m.1.1) (let v = last_from s.log f b g last cur chain i.deeds in omega (arith, v, behind, space)) refl;
            quiet = λ h done. (let m = on h done in inr (quiet_at b g k d (k ∷ z.ks) to moved m.0 m.1.1 m.1.0));
            cuts = λ h cut. in_bank_left P s.log f h b k g d from blank (deed_cut b k (seal_line g d) f h cut) under free last cur chain copy now i behind (suc limit) need enough (omega (arith, space))
                (stands_move to moved refl apart ready may);
            may = free_may s.log f b g k i.deeds.sound from blank (seal_line g d);
          }

      pub move_leaves : StartLeaves P s limit f (writes_with s found (mk b p g d) found.is_clean) (started_with s found (mk b p g d) found.is_clean (Moves to (suc g))) cells
      move_leaves =
          subst (λ (w : List PartWrite). StartLeaves P s limit f ((if found.is_clean then [] else deed_writes Blanks b found.next (seal_line g d)) ++ w) (started_with s found (mk b p g d) found.is_clean (Moves to (suc g))) cells) (sym open_is)
          (subst (λ (w : SealPoint). StartLeaves P s limit f ((if found.is_clean then [] else deed_writes Blanks b found.next (seal_line g d)) ++ []) w cells) (sym point_is)
          (subst (λ (w : List (List ℕ)). StartLeaves P s limit f ((if found.is_clean then [] else deed_writes Blanks b found.next (seal_line g d)) ++ []) (point_at to (suc g) s.log.cells None 2) w) (sym cells_moved)
          (deed_leaves found.is_clean refl)))

    -- the latest deed is one that stays, or such a move
    module _ (p : ℕ) (d : LogDeed) (x : FoundAt s.log seen found cells (mk b p g d)) (more : last ≤ p) where
      abbrev Leaves : LogDeed → Type 0
      Leaves e = StartLeaves P s limit f (writes_with s found (mk b p g e) found.is_clean) (started_with s found (mk b p g e) found.is_clean e.body) cells

      stays : (made : List (List ℕ)) → LongBefore s.log f b g p copy d made (length chain) → StaysHome d.body → P made → Leaves d
      stays made z home may = stays_leaves P s f after view reads found cells b g last cur chain copy now i p d x more (record { made = made; before = z.0; long = z.1; home = home; may = may }) limit need enough ends

      again : d ≡ cur → Leaves d
      again e = stays now (subst (λ (z : LogDeed). LongBefore s.log f b g p copy z now (length chain)) (sym e) (long_again s.log f b g last cur copy now chain i.deeds i.cells.makes p more))
          (subst (λ (z : LogDeed). StaysHome z.body) (sym e) i.home) i.may

      by_stand : last < p → MayStand P s.log f b g last now cur d → Leaves d
      by_stand less (stands_again e) = again e
      by_stand less (stands_put body e home may) =
          let z : LongBefore s.log f b g p copy d (after_body body now) (suc (length chain)) =
          subst (λ (w : LogDeed). LongBefore s.log f b g p copy w (after_body body now) (suc (length chain))) (sym e) (long_next s.log f b g last cur copy now chain i.deeds i.cells.makes p less body) in
          let long : length chain ≤ suc (length z.0.ks) = (let v = z.1 in omega (arith, v)) in
          stays (after_body body now) (z.0, long) (subst (λ (w : LogDeed). StaysHome w.body) (sym e) home) may
      by_stand less (stands_move to moved e apart ready may) =
          subst Leaves (sym e) (move_leaves p to moved (subst (λ (z : LogDeed). FoundAt s.log seen found cells (mk b p g z)) e x) less apart ready may)

      pub in_leaves : Leaves d
      in_leaves = elim (is_latest P s f after view reads found cells b g last cur chain copy now i p d x more) [ inl e ↦ again e.1 | inr e ↦ by_stand e.0 e.1 ]

  -- ---- the log has just moved

  module _ (m g last : ℕ) (cur : LogDeed) (chain : List ℕ) (b : ℕ) (copy : List (List ℕ)) (i : AtMove P s.log f m g last cur chain b copy) (left : LeftWithin s.log f limit m last) (home : HomeWithin s.log f limit b) where
    -- a place of the bank that it moved to stands before the limit, with two deeds
    home_by : (next : ℕ) → EndsBefore s.log (seen b) (suc g) next → next + 2 ≤ limit
    home_by next ends = (let v = ends_by s.log f after view reads b (suc g) next home.next i.sound.erased home.from home.free ends in let room = home.room in omega (arith, v, room))

    -- it is the move
    module _ (p : ℕ) (x : FoundAt s.log seen found cells (mk m p g cur)) (more : last ≤ p) where
      home_here : found.home ≡ b
      home_here = x.home ∙ ap (λ (z : DeedBody). home_bank (mk m p g cur) z) i.move

      generation_here : found.generation ≡ suc g
      generation_here = x.generation ∙ ap (λ (z : DeedBody). home_generation (mk m p g cur) z) i.move

      ends_here : EndsBefore s.log (seen b) (suc g) found.home_next
      ends_here = subst (λ (n : ℕ). EndsBefore s.log (seen n) (suc g) found.home_next) home_here (subst (λ (n : ℕ). EndsBefore s.log (seen found.home) n found.home_next) generation_here x.home_next)

      free_home : FreeFrom s.log f b found.home_next
      free_home = free_next s.log f after view reads b (suc g) found.home_next i.sound.erased ends_here

      moves : IsMove cur.body
      moves = subst IsMove (sym i.move) tt

      cells_copy : cells ≡ copy
      cells_copy = x.moved moves ∙ copy_one (seen b) (suc g) x.copy copy (x.whole.home.count ∙ sym i.count)
          (subst (λ (n : ℕ). IsCopyRead (seen n) (suc g) x.copy) (ap (λ (z : DeedBody). home_bank (mk m p g cur) z) i.move)
          (subst (λ (n : ℕ). IsCopyRead (seen (home_bank (mk m p g cur) cur.body)) n x.copy) (ap (λ (z : DeedBody). home_generation (mk m p g cur) z) i.move) x.whole.home.copied))
          (copy_extends s.log (firm_reads f b) (seen b) (suc g) (reads_firm f after view reads b) copy i.copied)

      -- behind the move, which was programmed again or not
      record Moved (h : PartFlash) : Type 0 where
        pub last_now : ℕ
        pub chain_now : List ℕ
        pub at : AtMove P s.log h m g last_now cur chain_now b copy
        pub left_now : LeftWithin s.log h limit m last_now
        pub free : FreeFrom s.log h b found.home_next

      -- the deed that opens the bank, if it was begun
      abbrev open_here : Bool → List PartWrite
      open_here c = if c then deed_writes Blanks b found.home_next (seal_line (suc g) (deed_of None Opens)) else []

      abbrev point_here : Bool → SealPoint
      point_here c = if c then point_at b (suc g) (suc found.home_next) (Some found.home_next) 1 else point_at b (suc g) found.home_next None 2

      no_opens : (c : Bool) → nat_lt s.log.cells found.home_next ≡ c → open_here c ≡ [] → found.home_next ≡ s.log.cells
      no_opens true e none = absurd (not_empty _ _ none)
      no_opens false e none = (let v = ends_here.from in elim (cases_lt s.log.cells found.home_next) [
        | inl less ↦ absurd (true≢false (sym (lt-ltb s.log.cells found.home_next less) ∙ e))
        | inr far ↦ omega (arith, v, far)
      ])

      open_leaves : (c : Bool) → nat_lt s.log.cells found.home_next ≡ c → (h : PartFlash) → Moved h → StartLeaves P s limit h (open_here c) (point_here c) copy
      open_leaves true e h y =
          let from : s.log.cells ≤ found.home_next = ends_here.from in
          let under = x.home_room moves in
          let room = home_by found.home_next ends_here in
          let may : StandsFirst P copy (deed_of None Opens) = record { body = Opens; is = refl; home = tt; may = i.may } in
          let on : (z : PartFlash) → DoesPartWrites Blanks (deed_writes Blanks b found.home_next (seal_line (suc g) (deed_of None Opens))) h z
          → InBank P s.log z b (suc g) found.home_next (deed_of None Opens) (found.home_next ∷ []) copy copy × IsWholeEnd s.log z b found.home_next = λ z done.
          let w = deed_done b found.home_next (seal_line (suc g) (deed_of None Opens)) h z done in (
            at_home_firm P s.log h z m g y.last_now cur y.chain_now b copy y.at found.home_next (deed_of None Opens) from under y.free w may (done_firm b found.home_next (seal_line (suc g) (deed_of None Opens)) h z done),
            record {
              free = free_here s.log h z b found.home_next (suc g) (deed_of None Opens) from (y.free found.home_next (omega arith) under) w y.free;
              closed = done_closed b found.home_next (seal_line (suc g) (deed_of None Opens)) h z done;
            },
          ) in
          record {
            does = λ z done.
                let here = on z done in
                ready_in b (suc g) found.home_next (deed_of None Opens) (found.home_next ∷ []) copy 1 here.0 (omega arith) here.1.free (whole_within here.1 (omega (arith, room))) refl;
            quiet = λ z done. (let here = on z done in inr (quiet_in b (suc g) found.home_next (deed_of None Opens) (found.home_next ∷ []) copy copy here.0 here.1));
            cuts = λ z cut. at_home_left P s.log h z m g y.last_now cur y.chain_now b copy y.at found.home_next (deed_of None Opens) from under y.free
                (deed_cut b found.home_next (seal_line (suc g) (deed_of None Opens)) h z cut) may (suc limit) (left_more s.log h limit (suc limit) m y.last_now (omega arith) y.left_now) (omega (arith, room));
            may = free_may s.log h b (suc g) found.home_next y.at.sound from (y.free found.home_next (omega arith) under) (seal_line (suc g) (deed_of None Opens));
          }
      open_leaves false e h y =
          let is : found.home_next ≡ s.log.cells = no_opens false e refl in
          let room = home_by found.home_next ends_here in
          nothing_leaves P s limit h (point_at b (suc g) found.home_next None 2) copy
          (ready_at m g y.last_now cur y.chain_now b y.at (subst (λ (n : ℕ). FreeFrom s.log h b n) is y.free) y.left_now (omega (arith, room, is)) (ap (λ (n : ℕ). point_at b (suc g) n None 2) is))

      -- the end of the bank that was left isn't clean: one place more is within the limit
      room_left : LeftWithin s.log f limit m last → found.is_clean ≡ false → found.next < limit
      room_left (left_whole w) e = absurd (true≢false (sym (x.clean.1 (end_clean s.log f after view reads m g last cur chain i.deeds w p cur x.whole.latest more found.next x.next)) ∙ e))
      room_left (left_within n blank room) e =
          let from = last_from s.log f m g last cur chain i.deeds in
          let past = last_before s.log f m g last cur chain i.deeds n blank in
          let most = ends_by s.log f after view reads m g found.next n i.deeds.sound.erased (omega (arith, from, past)) blank x.next in
          omega (arith, most, room)

      again_leaves : (c : Bool) → found.is_clean ≡ c → (point : SealPoint) (ys : List PartWrite) → ((h : PartFlash) → Moved h → StartLeaves P s limit h ys point copy) → (ys ≡ [] → found.home_next ≡ s.log.cells)
          → StartLeaves P s limit f ((if c then [] else deed_writes Blanks m found.next (seal_line g cur)) ++ ys) point copy
      again_leaves true e point ys next none = next f (record { last_now = last; chain_now = chain; at = i; left_now = left; free = free_home })
      again_leaves false e point ys next none =
          let k = found.next in
          let under : k < s.log.places = x.room e in
          let free = free_next s.log f after view reads m g found.next i.deeds.sound.erased x.next in
          let then_place : p < k = elim (cases_lt p k) [ inl less ↦ less | inr far ↦ absurd (x.next.none p far x.whole.latest.inside.1.1 (inr (cur, x.whole.latest.is))) ] in
          let behind : last < k = omega (arith, then_place, more) in
          let from : s.log.cells ≤ k = (let z = last_from s.log f m g last cur chain i.deeds in omega (arith, z, behind)) in
          let blank = free k (omega arith) under in
          let space : k < limit = room_left left e in
          let on : (h : PartFlash) → DoesPartWrites Blanks (deed_writes Blanks m k (seal_line g cur)) f h
          → ((ks : List ℕ) × AtMove P s.log h m g k cur ks b copy) × (FreeFrom s.log h b found.home_next × IsWholeEnd s.log h m k) = λ h done.
          let w = deed_done m k (seal_line g cur) f h done in (
            at_move_firm P s.log f h m k g cur from blank w under free last chain b copy i behind (done_firm m k (seal_line g cur) f h done),
            (
              free_there s.log f h m k g cur from blank w b found.home_next i.apart free_home,
              record { free = free_here s.log f h m k g cur from blank w free; closed = done_closed m k (seal_line g cur) f h done },
            ),
          ) in
          then_leaves P s limit f (deed_writes Blanks m k (seal_line g cur)) ys point copy Moved
          (λ h done. (let here = on h done in record { last_now = k; chain_now = here.0.0; at = here.0.1; left_now = left_whole here.1.1; free = here.1.0 }))
          (λ h cut. at_move_left P s.log f h m k g cur from blank (deed_cut m k (seal_line g cur) f h cut) under free last chain b copy i behind (suc limit) (omega (arith, space)) (home_more s.log f limit (suc limit) b (omega arith) home))
          next (λ h done empty. (let here = on h done in quiet_at m g k cur here.0.0 b copy here.0.1 here.1.1 (subst (λ (n : ℕ). FreeFrom s.log h b n) (none empty) here.1.0))) (free_may s.log f m g k i.deeds.sound from blank (seal_line g cur))

      abbrev opens : Bool
      opens = nat_lt s.log.cells found.home_next

      open_now : open_writes Blanks s found cur.body ≡ open_here opens
      open_now = ap (λ (z : DeedBody). open_writes Blanks s found z) i.move
          ∙ (λ j. if opens then deed_writes Blanks (home_here j) found.home_next (seal_line (generation_here j) (deed_of None Opens)) else [])

      point_now : started_with s found (mk m p g cur) found.is_clean cur.body ≡ point_here opens
      point_now = ap (λ (z : DeedBody). started_with s found (mk m p g cur) found.is_clean z) i.move
          ∙ (λ j. if opens then point_at (home_here j) (generation_here j) (suc found.home_next) (Some found.home_next) 1 else point_at (home_here j) (generation_here j) found.home_next None 2)

      pub at_move_leaves : StartLeaves P s limit f (writes_with s found (mk m p g cur) found.is_clean) (started_with s found (mk m p g cur) found.is_clean cur.body) cells
      at_move_leaves =
          subst (λ (w : List PartWrite). StartLeaves P s limit f ((if found.is_clean then [] else deed_writes Blanks m found.next (seal_line g cur)) ++ w) (started_with s found (mk m p g cur) found.is_clean cur.body) cells) (sym open_now)
          (subst (λ (w : SealPoint). StartLeaves P s limit f ((if found.is_clean then [] else deed_writes Blanks m found.next (seal_line g cur)) ++ open_here opens) w cells) (sym point_now)
          (subst (λ (w : List (List ℕ)). StartLeaves P s limit f ((if found.is_clean then [] else deed_writes Blanks m found.next (seal_line g cur)) ++ open_here opens) (point_here opens) w) (sym cells_copy)
          (again_leaves found.is_clean refl (point_here opens) (open_here opens) (λ h y. open_leaves opens refl h y) (no_opens opens refl))))

    -- it is one of the bank that it moved to
    module _ (p : ℕ) (d : LogDeed) (st : StandsFirst P copy d) (x : FoundAt s.log seen found cells (mk b p (suc g) d)) where
      stays_home : StaysHome d.body
      stays_home = subst (λ (z : LogDeed). StaysHome z.body) (sym st.is) st.home

      far_first : s.log.cells ≤ p
      far_first = x.whole.latest.inside.1.0

      copy_first : x.copy ≡ copy
      copy_first = copy_one (seen b) (suc g) x.copy copy (x.whole.home.count ∙ sym i.count) (stay_copy (mk b p (suc g) d) d.body stays_home seen x.copy x.whole.home.copied)
          (copy_extends s.log (firm_reads f b) (seen b) (suc g) (reads_firm f after view reads b) copy i.copied)

      cells_first : cells ≡ after_body d.body copy
      cells_first = cells_are s.log (seen b) (suc g) s.log.places p d [] x.chain copy copy cells x.whole.followed x.whole.latest.is
          (subst (λ (z : LogDeed). IsChain s.log (seen b) (suc g) p z.prev []) (sym st.is) tt) refl
          (subst (λ (z : List (List ℕ)). MakesOf (seen b) (suc g) x.chain z cells) copy_first (x.stayed (stay_not_move d.body stays_home)))

      lacking_first : found.lacking ≡ 1
      lacking_first = x.lacking ∙ ap (λ (z : List ℕ). 2 - length z) (chain_is s.log (seen b) (suc g) s.log.places p d [] x.chain copy copy cells x.whole.followed x.whole.latest.is
          (subst (λ (z : LogDeed). IsChain s.log (seen b) (suc g) p z.prev []) (sym st.is) tt) refl)

      not_clean : found.is_clean ≡ true → ⊥
      not_clean e =
          let firm = closed_firm s.log f after view reads b (suc g) p i.sound far_first (x.clean.0 e).1 in
          let l = firm_is (f.unit b p Line) _ firm.1 in
          blank_not_firm (f.unit b p Line) _ (i.loose p far_first x.whole.latest.inside.1.1 l.0) firm.1

      first_leaves : (c : Bool) → found.is_clean ≡ c → StartLeaves P s limit f ((if c then [] else deed_writes Blanks b found.next (seal_line (suc g) d)) ++ []) (point_at b (suc g) (suc (if c then p else found.next)) (Some (if c then p else found.next)) found.lacking) (after_body d.body copy)
      first_leaves true e = absurd (not_clean e)
      first_leaves false e =
          let k = found.next in
          let under : k < s.log.places = x.room e in
          let free = free_next s.log f after view reads b (suc g) found.next i.sound.erased x.next in
          let from : s.log.cells ≤ k = x.next.from in
          let room = home_by k x.next in
          let one = lacking_first in
          let on : (h : PartFlash) → DoesPartWrites Blanks (deed_writes Blanks b k (seal_line (suc g) d)) f h → InBank P s.log h b (suc g) k d (k ∷ []) copy (after_body d.body copy) × IsWholeEnd s.log h b k = λ h done.
          let w = deed_done b k (seal_line (suc g) d) f h done in (
            at_home_firm P s.log f h m g last cur chain b copy i k d from under free w st (done_firm b k (seal_line (suc g) d) f h done),
            record { free = free_here s.log f h b k (suc g) d from (free k (omega arith) under) w free; closed = done_closed b k (seal_line (suc g) d) f h done },
          ) in
          record {
            does = λ h done.
                let here = on h done in
                let long : 2 ≤ found.lacking + 1 = omega (arith, one) in
                ready_in b (suc g) k d (k ∷ []) copy found.lacking here.0 long here.1.free (whole_within here.1 (omega (arith, room, one))) refl;
            quiet = λ h done. (let here = on h done in inr (quiet_in b (suc g) k d (k ∷ []) copy (after_body d.body copy) here.0 here.1));
            cuts = λ h cut. at_home_left P s.log f h m g last cur chain b copy i k d from under free (deed_cut b k (seal_line (suc g) d) f h cut) st (suc limit) (left_more s.log f limit (suc limit) m last (omega arith) left) (omega (arith, room));
            may = free_may s.log f b (suc g) k i.sound from (free k (omega arith) under) (seal_line (suc g) d);
          }

      pub at_first_leaves : StartLeaves P s limit f (writes_with s found (mk b p (suc g) d) found.is_clean) (started_with s found (mk b p (suc g) d) found.is_clean d.body) cells
      at_first_leaves =
          subst (λ (w : List PartWrite). StartLeaves P s limit f ((if found.is_clean then [] else deed_writes Blanks b found.next (seal_line (suc g) d)) ++ w) (started_with s found (mk b p (suc g) d) found.is_clean d.body) cells) (sym (stay_open s found d.body stays_home))
          (subst (λ (w : SealPoint). StartLeaves P s limit f ((if found.is_clean then [] else deed_writes Blanks b found.next (seal_line (suc g) d)) ++ []) w cells)
          (sym (stay_point s found (mk b p (suc g) d) found.is_clean b (suc g) d.body stays_home (x.home ∙ stay_bank (mk b p (suc g) d) d.body stays_home) (x.generation ∙ stay_generation (mk b p (suc g) d) d.body stays_home)))
          (subst (λ (w : List (List ℕ)). StartLeaves P s limit f ((if found.is_clean then [] else deed_writes Blanks b found.next (seal_line (suc g) d)) ++ [])
          (point_at b (suc g) (suc (if found.is_clean then p else found.next)) (Some (if found.is_clean then p else found.next)) found.lacking) w) (sym cells_first)
          (first_leaves found.is_clean refl)))

  -- ---- each start

  abbrev LeavesAs : FoundDeed → Type 0
  LeavesAs d = StartLeaves P s limit f (writes_with s found d found.is_clean) (started_with s found d found.is_clean d.deed.body) cells

  leaves_as : Rests P s.log limit f → IsStoreFound s.log seen found cells → LeavesAs found.latest
  leaves_as (rests_in b g last cur chain copy now i need enough ends) x =
      let e = latest_in P s f after view reads b g last cur chain copy now i found.latest x.whole.latest in
      subst LeavesAs (sym e.0) (in_leaves b g last cur chain copy now i need enough ends found.latest.place found.latest.deed (subst (λ (z : FoundDeed). FoundAt s.log seen found cells z) e.0 (found_at s.log seen found cells x)) e.1)
  leaves_as (rests_at m g last cur chain b copy i left home) x =
      elim (latest_at P s f after view reads m g last cur chain b copy i found.latest x.whole.latest) [
        | inl e ↦ subst LeavesAs (sym e.0) (at_move_leaves m g last cur chain b copy i left home found.latest.place (subst (λ (z : FoundDeed). FoundAt s.log seen found cells z) e.0 (found_at s.log seen found cells x)) e.1)
        | inr e ↦ subst LeavesAs (sym e.0) (at_first_leaves m g last cur chain b copy i left home found.latest.place found.latest.deed e.1 (subst (λ (z : FoundDeed). FoundAt s.log seen found cells z) e.0 (found_at s.log seen found cells x)))
      ]

  -- a start leaves the store ready, with the cells that it has found; one that is cut leaves it whole
  pub start_leaves : Rests P s.log limit f → IsStoreFound s.log seen found cells → StartLeaves P s limit f (start_writes Blanks s found) (started_at s found found.latest.deed.body) cells
  start_leaves rests x = subst (λ (w : SealPoint). StartLeaves P s limit f (start_writes Blanks s found) w cells) (same_started s found found.latest.deed.body) (leaves_as rests x)
