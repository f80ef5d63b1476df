-- What a start finds on a part of blanks, and what its writes leave.
use Rattle.std.proofs.Common.{◌≡◌, ◌⊎◌, ◌↔◌, inl, inr, ℕ, zero, suc, ◌+◌, ◌-◌, ◌<◌, ◌≤◌, Bool, true, false, nat_lt, if◌then◌else◌, Some, None, List, [], ◌∷◌, ◌++◌, length, refl, sym, ap, subst, ◌∙◌, arith}
use Rattle.std.proofs.lemmas.Bool.{true≢false, cases_lt, cases_eq}
use Rattle.seal_parts.specs.declared.PartClass.TheVariants.{Blanks}
use Rattle.seal_parts.specs.declared.UnitKind.TheVariants.{Line, SecondConfirm}
use Rattle.seal_parts.specs.declared.UnitContent.TheVariants.{Mark}
use Rattle.seal_parts.specs.declared.LogDeed.{LogDeed}
use Rattle.seal_parts.specs.declared.DeedBody.{DeedBody}
use Rattle.seal_parts.specs.declared.DeedBody.TheVariants.{Opens, Puts, Moves, IsNew}
use Rattle.seal_parts.specs.Parts.{PartFlash, PartView, ReadsUnits}
use Rattle.seal_parts.specs.Designs.{PartWrite, DoesPartWrites, CutsPartWrites, MayDoPartWrites}
use Rattle.seal_logs.specs.declared.PlaceRead.{PlaceRead}
use Rattle.seal_logs.specs.declared.LogSizes.{LogSizes}
use Rattle.seal_logs.specs.declared.finding.FoundDeed.{FoundDeed}
use Rattle.seal_logs.specs.declared.starting.FoundStore.{FoundStore}
use Rattle.seal_logs.specs.Reads.{LogReads, IsDeedPlace, ReadsDeed, EndsBefore, IsChain, MakesOf, IsCopyRead, after_body}
use Rattle.seal_logs.specs.Starts.{IsMove, IsLatestDeed, IsClean, IsWholeLog, IsStoreFound, home_bank, home_generation}
use Rattle.seal_logs.proofs.CallerLemmas.{one_deed, chain_at, chain_one, copy_one, makes_one}
use Rattle.seal_laws.specs.declared.SealSizes.{SealSizes}
use Rattle.seal_laws.specs.declared.SealPoint.{SealPoint}
use Rattle.seal_laws.specs.Writes.{reads_of, seal_line, deed_writes, open_writes, point_at, started_at}
use Rattle.seal_laws.proofs.Flashes.{firm_reads, firm_is, blank_no_content, blank_not_firm, chain_extends, makes_extends, copy_extends, chain_within, reads_firm, line_held, mark_held, mark_read, unbegun_blank, blank_unbegun, deed_done, deed_cut, done_firm, done_closed}
use Rattle.seal_laws.proofs.Sealed.{FreeFrom, SoundBank, HasDeeds, StaysHome, MayStand, stands_again, InBank, AtMove, line_one, free_here, Before, before_again}
use Rattle.seal_laws.proofs.Within.{IsWholeEnd, EndsWithin, whole_within, next_within, lacks_enough, lacks_within}
use Rattle.seal_laws.proofs.Writing.{Rests, Ready, ready_in, last_from, last_below, last_before, free_may, home_on, in_bank_left}

-- ---- a start, by its latest deed

-- what a start has found, with its latest deed apart
pub record FoundAt (s : LogSizes) (r : LogReads) (f : FoundStore) (cells : List (List ℕ)) (d : FoundDeed) : Type 0 where
  pub chain : List ℕ
  pub copy : List (List ℕ)
  pub whole : IsWholeLog s r d chain copy
  pub home : f.home ≡ home_bank d d.deed.body
  pub generation : f.generation ≡ home_generation d d.deed.body
  pub lacking : f.lacking ≡ 2 - length chain
  pub next : EndsBefore s (r d.bank) d.generation f.next
  pub home_next : EndsBefore s (r f.home) f.generation f.home_next
  pub clean : (f.is_clean ≡ true) ↔ IsClean r d f.next
  pub moved : IsMove d.deed.body → cells ≡ copy
  pub stayed : (IsMove d.deed.body → ⊥) → MakesOf (r d.bank) d.generation chain copy cells
  pub room : f.is_clean ≡ false → f.next < s.places
  pub home_room : IsMove d.deed.body → f.home_next < s.places

pub found_at : (s : LogSizes) (r : LogReads) (f : FoundStore) (cells : List (List ℕ)) → IsStoreFound s r f cells → FoundAt s r f cells f.latest
found_at s r f cells x = record {
  chain = x.chain;
  copy = x.copy;
  whole = x.whole;
  home = x.home;
  generation = x.generation;
  lacking = x.lacking;
  next = x.next;
  home_next = x.home_next;
  clean = x.clean;
  moved = x.moved;
  stayed = x.stayed;
  room = x.room;
  home_room = x.home_room;
}

abbrev pub writes_with : SealSizes → FoundStore → FoundDeed → Bool → List PartWrite
writes_with s f d c = (if c then [] else deed_writes Blanks d.bank f.next (seal_line d.generation d.deed)) ++ open_writes Blanks s f d.deed.body

abbrev pub started_with : SealSizes → FoundStore → FoundDeed → Bool → DeedBody → SealPoint
started_with s f d c (Moves to next) =
    if nat_lt s.log.cells f.home_next then point_at f.home f.generation (suc f.home_next) (Some f.home_next) 1 else point_at f.home f.generation f.home_next None 2
started_with s f d c body = point_at f.home f.generation (suc (if c then d.place else f.next)) (Some (if c then d.place else f.next)) f.lacking

pub same_started : (s : SealSizes) (f : FoundStore) (body : DeedBody) → started_with s f f.latest f.is_clean body ≡ started_at s f body
same_started s f (Moves to next) = refl
same_started s f Opens = refl
same_started s f IsNew = refl
same_started s f (Puts cell payload) = refl

-- the end of the log is whole: a start writes nothing
pub data Quiet (P : List (List ℕ) → Type 0) (s : LogSizes) (f : PartFlash) : Type 0 where
  quiet_in : (b g last : ℕ) (cur : LogDeed) (chain : List ℕ) (copy now : List (List ℕ)) → InBank P s f b g last cur chain copy now → IsWholeEnd s f b last → Quiet P s f
  quiet_at : (m g last : ℕ) (cur : LogDeed) (chain : List ℕ) (b : ℕ) (copy : List (List ℕ)) → AtMove P s f m g last cur chain b copy → IsWholeEnd s f m last → FreeFrom s f b s.cells → Quiet P s f

-- what its writes leave, done and cut: a cut takes one place more
pub record StartLeaves (P : List (List ℕ) → Type 0) (s : SealSizes) (limit : ℕ) (f : PartFlash) (writes : List PartWrite) (point : SealPoint) (cells : List (List ℕ)) : Type 0 where
  pub does : (h : PartFlash) → DoesPartWrites Blanks writes f h → Ready P s.log limit h point cells
  pub cuts : (h : PartFlash) → CutsPartWrites Blanks writes f h → Rests P s.log (suc limit) h
  pub quiet : (h : PartFlash) → DoesPartWrites Blanks writes f h → (writes ≡ []) ⊎ Quiet P s.log h
  pub may : MayDoPartWrites Blanks writes f

abbrev pub mk : ℕ → ℕ → ℕ → LogDeed → FoundDeed
mk b p g d = record { bank = b; place = p; generation = g; deed = d }

-- ---- a deed that stays in its bank

pub stay_bank : (d : FoundDeed) (body : DeedBody) → StaysHome body → home_bank d body ≡ d.bank
stay_bank d Opens h = refl
stay_bank d (Puts cell payload) h = refl
stay_bank d (Moves bank generation) h = absurd h
stay_bank d IsNew h = absurd h

pub stay_generation : (d : FoundDeed) (body : DeedBody) → StaysHome body → home_generation d body ≡ d.generation
stay_generation d Opens h = refl
stay_generation d (Puts cell payload) h = refl
stay_generation d (Moves bank generation) h = absurd h
stay_generation d IsNew h = absurd h

pub stay_copy : (d : FoundDeed) (body : DeedBody) → StaysHome body → (r : LogReads) (copy : List (List ℕ)) → IsCopyRead (r (home_bank d body)) (home_generation d body) copy → IsCopyRead (r d.bank) d.generation copy
stay_copy d Opens h r copy c = c
stay_copy d (Puts cell payload) h r copy c = c
stay_copy d (Moves bank generation) h r copy c = absurd h
stay_copy d IsNew h r copy c = absurd h

pub stay_not_move : (body : DeedBody) → StaysHome body → IsMove body → ⊥
stay_not_move Opens h m = m
stay_not_move (Puts cell payload) h m = m
stay_not_move (Moves bank generation) h m = h
stay_not_move IsNew h m = m

pub stay_open : (s : SealSizes) (found : FoundStore) (body : DeedBody) → StaysHome body → open_writes Blanks s found body ≡ []
stay_open s found Opens h = refl
stay_open s found (Puts cell payload) h = refl
stay_open s found (Moves bank generation) h = absurd h
stay_open s found IsNew h = absurd h

pub stay_point : (s : SealSizes) (found : FoundStore) (d : FoundDeed) (c : Bool) (b g : ℕ) (body : DeedBody) → StaysHome body → found.home ≡ b → found.generation ≡ g
    → started_with s found d c body ≡ point_at b g (suc (if c then d.place else found.next)) (Some (if c then d.place else found.next)) found.lacking
stay_point s found d c b g Opens h e z = λ j. point_at (e j) (z j) (suc (if c then d.place else found.next)) (Some (if c then d.place else found.next)) found.lacking
stay_point s found d c b g (Puts cell payload) h e z = λ j. point_at (e j) (z j) (suc (if c then d.place else found.next)) (Some (if c then d.place else found.next)) found.lacking
stay_point s found d c b g (Moves bank generation) h e z = absurd h
stay_point s found d c b g IsNew h e z = absurd h

-- ---- the cells of a chain that was read

module _ (s : LogSizes) (q : ℕ → PlaceRead) (g limit p : ℕ) (d : LogDeed) (ks chain : List ℕ) (copy between cells : List (List ℕ)) (followed : IsChain s q g limit (Some p) chain) (is : ReadsDeed (q p) g d)
    (rest : IsChain s q g p d.prev ks) (makes : MakesOf q g ks copy between) where
  pub chain_is : chain ≡ p ∷ ks
  chain_is = chain_one s q g limit (Some p) chain (p ∷ ks) followed
      (let c = chain_at s q g limit p chain followed in (refl, (c.0, (c.1.0, (d, (is, rest))))))

  pub cells_are : MakesOf q g chain copy cells → cells ≡ after_body d.body between
  cells_are all = makes_one q g (p ∷ ks) copy cells (after_body d.body between) (subst (λ (zs : List ℕ). MakesOf q g zs copy cells) chain_is all) (d, (is, (between, (makes, refl))))

-- ---- what a start sees

module _ (s : LogSizes) (f after : PartFlash) (view : PartView) (reads : ReadsUnits Blanks f view after) where
  abbrev r : LogReads
  r = reads_of Blanks view

  -- nothing stands from the end of a bank on
  pub free_next : (b g next : ℕ) → f.is_erased b ≡ true → EndsBefore s (r b) g next → FreeFrom s f b next
  free_next b g next erased ends k far below = unbegun_blank f after view reads b k erased (λ e. ends.none k far below (inl e))

  -- a bank ends where nothing stands from some place on, or before it
  pub ends_by : (b g next from : ℕ) → f.is_erased b ≡ true → s.cells ≤ from → FreeFrom s f b from → EndsBefore s (r b) g next → next ≤ from
  ends_by b g zero from erased low free ends = omega arith
  ends_by b g (suc k) from erased low free ends = elim (cases_lt k from) [
    | inl less ↦ omega (arith, less)
    | inr more ↦ (
        let blank = free k more (let x = ends.below in omega (arith, x)) in
        elim (ends.last k (omega (arith, low, more)) refl) [
          | inl begun ↦ absurd (true≢false (sym begun ∙ blank_unbegun f after view reads b k erased blank))
          | inr deed ↦ absurd (blank_no_content (f.unit b k Line) _ blank (line_held f after view reads b k _ deed.1))
        ])
  ]

  -- a bank of blank lines ends with its copy
  pub ends_at_cells : (b g next : ℕ) → f.is_erased b ≡ true → FreeFrom s f b s.cells → EndsBefore s (r b) g next → next ≡ s.cells
  ends_at_cells b g next erased free ends = (let x = ends.from in let y = ends_by b g next s.cells erased (omega arith) free ends in omega (arith, x, y))

  -- a place whose last confirm is read has its line firm
  pub closed_firm : (b g p : ℕ) → SoundBank s f b g → s.cells ≤ p → (r b p).is_closed ≡ true → (d : LogDeed) × ReadsDeed (firm_reads f b p) g d
  closed_firm b g p sound far closed = elim (sound.second p far) [
    | inl blank ↦ absurd (blank_no_content (f.unit b p SecondConfirm) Mark blank (mark_held f after view reads b p SecondConfirm closed))
    | inr firm ↦ firm
  ]

-- ---- a bank whose end is whole

module _ (s : LogSizes) (f after : PartFlash) (view : PartView) (reads : ReadsUnits Blanks f view after) (b g last : ℕ) (cur : LogDeed) (chain : List ℕ) (deeds : HasDeeds s f b g last cur chain) (w : IsWholeEnd s f b last) where
  abbrev there : LogReads
  there = reads_of Blanks view

  read_cur : ReadsDeed (there b last) g cur
  read_cur = reads_firm f after view reads b last _ deeds.is

  end_is : (next : ℕ) → EndsBefore s (there b) g next → next ≡ suc last
  end_is next ends = elim (cases_lt last next) [
    | inl less ↦ (
        let from = last_from s f b g last cur chain deeds in
        let most = ends_by s f after view reads b g next (suc last) deeds.sound.erased (omega (arith, from)) w.free ends in
        omega (arith, less, most))
    | inr far ↦ absurd (ends.none last far (last_below s f b g last cur chain deeds) (inr (cur, read_cur)))
  ]

  module _ (p : ℕ) (d : LogDeed) (l : IsLatestDeed s there (mk b p g d)) (more : last ≤ p) where
    place_is : p ≡ last
    place_is = elim (cases_lt last p) [
      | inl less ↦ absurd (blank_no_content (f.unit b p Line) _ (w.free p (omega (arith, less)) l.inside.1.1) (line_held f after view reads b p _ l.is))
      | inr far ↦ omega (arith, more, far)
    ]

    -- a start finds it clean, and the latest deed is the last one
    pub end_clean : (next : ℕ) → EndsBefore s (there b) g next → IsClean there (mk b p g d) next
    end_clean next ends = (let e = place_is in let n = end_is next ends in
        (omega (arith, e, n), subst (λ (z : ℕ). (there b z).is_closed ≡ true) (sym e) (mark_read f after view reads b last SecondConfirm w.closed)))

    pub end_latest : d ≡ cur
    end_latest = one_deed (there b last) g d cur (subst (λ (z : ℕ). ReadsDeed (there b z) g d) place_is l.is) read_cur

-- ---- the log is in a bank

module _ (P : List (List ℕ) → Type 0) (s : SealSizes) (f after : PartFlash) (view : PartView) (reads : ReadsUnits Blanks f view after) where
  abbrev seen_here : LogReads
  seen_here = reads_of Blanks view

  module _ (b g last : ℕ) (cur : LogDeed) (chain : List ℕ) (copy now : List (List ℕ)) (i : InBank P s.log f b g last cur chain copy now) where
    read_deed : ReadsDeed (seen_here b last) g cur
    read_deed = reads_firm f after view reads b last _ i.deeds.is

    inside_deed : IsDeedPlace s.log b last
    inside_deed = (i.deeds.sound.inside, (last_from s.log f b g last cur chain i.deeds, last_below s.log f b g last cur chain i.deeds))

    -- the latest deed stands in this bank, not before the last firm one
    pub latest_in : (d : FoundDeed) → IsLatestDeed s.log seen_here d → (d ≡ mk b d.place g d.deed) × (last ≤ d.place)
    latest_in d l =
        let held = line_held f after view reads d.bank d.place _ l.is in
        elim (l.latest b last g cur inside_deed read_deed) [
          | inl less ↦ elim (cases_eq d.bank b) [
            | inl is ↦ (
                let at = i.deeds.sound.lines d.place _ l.inside.1.0 l.inside.1.1 (ap (λ (z : ℕ). (f.unit z d.place Line).content) (sym is) ∙ held) in
                let e = (line_one d.generation g d.deed at.0 at.1).0 in
                absurd (omega (arith, e, less)))
            | inr ne ↦ (
                let e = i.older d.bank ne d.place d.generation d.deed l.inside.1.0 l.inside.1.1 held in
                absurd (omega (arith, e, less)))
          ]
          | inr same ↦ ((λ j. record { bank = sym same.1.0 j; place = d.place; generation = sym same.0 j; deed = d.deed }), same.1.1)
        ]

module _ (P : List (List ℕ) → Type 0) (s : SealSizes) (f after : PartFlash) (view : PartView) (reads : ReadsUnits Blanks f view after) (found : FoundStore) (cells : List (List ℕ)) where
  abbrev seen : LogReads
  seen = reads_of Blanks view

  module _ (b g last : ℕ) (cur : LogDeed) (chain : List ℕ) (copy now : List (List ℕ)) (i : InBank P s.log f b g last cur chain copy now) where
    read_last : ReadsDeed (seen b last) g cur
    read_last = reads_firm f after view reads b last _ i.deeds.is

    module _ (p : ℕ) (d : LogDeed) (x : FoundAt s.log seen found cells (mk b p g d)) (more : last ≤ p) where
      read_here : ReadsDeed (seen b p) g d
      read_here = x.whole.latest.is

      far_here : s.log.cells ≤ p
      far_here = x.whole.latest.inside.1.0

      below_here : p < s.log.places
      below_here = x.whole.latest.inside.1.1

      free : FreeFrom s.log f b found.next
      free = free_next s.log f after view reads b g found.next i.deeds.sound.erased x.next

      pub before_next_place : p < found.next
      before_next_place = elim (cases_lt p found.next) [
        | inl less ↦ less
        | inr far ↦ absurd (x.next.none p far below_here (inr (d, read_here)))
      ]

      pub is_latest : ((p ≡ last) × (d ≡ cur)) ⊎ ((last < p) × MayStand P s.log f b g last now cur d)
      is_latest = elim (cases_lt last p) [
        | inl less ↦ inr (less, i.stand p d less below_here (line_held f after view reads b p _ read_here))
        | inr same ↦ (
            let e : p ≡ last = omega arith in
            inl (e, one_deed (seen b last) g d cur (subst (λ (z : ℕ). ReadsDeed (seen b z) g d) e read_here) read_last))
      ]

      closed_last : (seen b p).is_closed ≡ true → p ≡ last
      closed_last closed = elim (cases_lt last p) [
        | inl less ↦ (
            let firm = closed_firm s.log f after view reads b g p i.deeds.sound far_here closed in
            let l = firm_is (f.unit b p Line) _ firm.1 in
            absurd (blank_not_firm (f.unit b p Line) _ (i.deeds.behind p less below_here l.0) firm.1))
        | inr same ↦ omega arith
      ]

      pub clean_last : found.is_clean ≡ true → (p ≡ last) × (suc last ≡ found.next)
      clean_last c =
          let y = x.clean.0 c in
          let e = closed_last y.1 in
          let z = y.0 in
          (e, omega (arith, e, z))

      -- what it makes of the cells, if it stays in this bank
      pub record Made : Type 0 where
        pub made : List (List ℕ)
        pub before : Before s.log f b g p copy d made
        pub long : length chain ≤ suc (length before.ks)
        pub home : StaysHome d.body
        pub may : P made

      module _ (y : Made) (limit need : ℕ) (enough : 2 ≤ need + length chain) (ends : EndsWithin s.log f limit b last need) where
        chain_seen : x.chain ≡ p ∷ y.before.ks
        chain_seen = chain_is s.log (seen b) g s.log.places p d y.before.ks x.chain copy y.before.between cells x.whole.followed read_here
            (chain_extends s.log (firm_reads f b) (seen b) g (reads_firm f after view reads b) p d.prev y.before.ks y.before.chain)
            (makes_extends s.log (firm_reads f b) (seen b) g (reads_firm f after view reads b) y.before.ks copy y.before.between y.before.makes)

        count_seen : length x.chain ≡ suc (length y.before.ks)
        count_seen = ap (λ (z : List ℕ). length z) chain_seen

        lacks : found.lacking ≤ need
        lacks =
            let e = x.lacking in
            let n = count_seen in
            let long = y.long in
            let most : 2 - length x.chain ≤ need = lacks_within (length x.chain) need (omega (arith, enough, long, n)) in
            omega (arith, e, most)

        lacks_seen : 2 ≤ found.lacking + length x.chain
        lacks_seen = (let e = x.lacking in let v = lacks_enough (length x.chain) in omega (arith, e, v))

        copy_same : x.copy ≡ copy
        copy_same = copy_one (seen b) g x.copy copy (x.whole.home.count ∙ sym i.cells.count) (stay_copy (mk b p g d) d.body y.home seen x.copy x.whole.home.copied) (copy_extends s.log (firm_reads f b) (seen b) g (reads_firm f after view reads b) copy i.cells.copied)

        cells_made : cells ≡ y.made
        cells_made = cells_are s.log (seen b) g s.log.places p d y.before.ks x.chain copy y.before.between cells x.whole.followed read_here
            (chain_extends s.log (firm_reads f b) (seen b) g (reads_firm f after view reads b) p d.prev y.before.ks y.before.chain)
            (makes_extends s.log (firm_reads f b) (seen b) g (reads_firm f after view reads b) y.before.ks copy y.before.between y.before.makes)
            (subst (λ (z : List (List ℕ)). MakesOf (seen b) g x.chain z cells) copy_same (x.stayed (stay_not_move d.body y.home))) ∙ sym y.before.made_is

        abbrev later : (k : ℕ) → p ≤ k → Before s.log f b g k copy d y.made
        later k far = record {
          ks = y.before.ks;
          chain = chain_within s.log (firm_reads f b) g p k d.prev y.before.ks far y.before.chain;
          between = y.before.between;
          makes = y.before.makes;
          made_is = y.before.made_is;
        }

        -- the writes and the point, of a deed that stays
        abbrev at : Bool → ℕ
        at c = if c then p else found.next

        made_in : (p ≡ last) → y.made ≡ now
        made_in e =
            let is : d ≡ cur = one_deed (seen b last) g d cur (subst (λ (z : ℕ). ReadsDeed (seen b z) g d) e read_here) read_last in
            let z = before_again s.log f b g last cur copy now chain i.deeds i.cells.makes last (omega arith) in
            sym cells_made ∙ (cells_are s.log (seen b) g s.log.places p d z.ks x.chain copy z.between cells x.whole.followed read_here
            (chain_extends s.log (firm_reads f b) (seen b) g (reads_firm f after view reads b) p d.prev z.ks
            (subst (λ (n : ℕ). IsChain s.log (firm_reads f b) g n d.prev z.ks) (sym e) (subst (λ (w : LogDeed). IsChain s.log (firm_reads f b) g last w.prev z.ks) (sym is) z.chain)))
            (makes_extends s.log (firm_reads f b) (seen b) g (reads_firm f after view reads b) z.ks copy z.between z.makes)
            (subst (λ (w : List (List ℕ)). MakesOf (seen b) g x.chain w cells) copy_same (x.stayed (stay_not_move d.body y.home)))
            ∙ (ap (λ (w : LogDeed). after_body w.body z.between) is ∙ sym z.made_is))

        may_here : MayStand P s.log f b g last now cur d
        may_here = elim is_latest [ inl e ↦ stands_again e.1 | inr e ↦ e.1 ]

        chain_clean : p ≡ last → length x.chain ≡ length chain
        chain_clean e = ap (λ (z : List ℕ). length z) (chain_one s.log (seen b) g s.log.places (Some p) x.chain chain x.whole.followed
            (subst (λ (n : ℕ). IsChain s.log (seen b) g s.log.places (Some n) chain) (sym e) (chain_extends s.log (firm_reads f b) (seen b) g (reads_firm f after view reads b) s.log.places (Some last) chain i.deeds.followed)))

        ends_seen : EndsWithin s.log f limit b last need → EndsWithin s.log f limit b last found.lacking
        ends_seen (whole_within w room) = (let v = lacks in whole_within w (omega (arith, v, room)))
        ends_seen (next_within n blank room) = (let v = lacks in next_within n blank (omega (arith, v, room)))

        -- the end isn't clean: the places that were begun end within the limit, with one more
        room_seen : found.is_clean ≡ false → EndsWithin s.log f limit b last need → found.next + need < limit
        room_seen e (whole_within w room) = absurd (true≢false (sym (x.clean.1 (end_clean s.log f after view reads b g last cur chain i.deeds w p d x.whole.latest more found.next x.next)) ∙ e))
        room_seen e (next_within n blank room) =
            let from = last_from s.log f b g last cur chain i.deeds in
            let past = last_before s.log f b g last cur chain i.deeds n blank in
            let most = ends_by s.log f after view reads b g found.next n i.deeds.sound.erased (omega (arith, from, past)) blank x.next in
            omega (arith, most, room)

        home_leaves : (c : Bool) → found.is_clean ≡ c → StartLeaves P s limit f ((if c then [] else deed_writes Blanks b found.next (seal_line g d)) ++ []) (point_at b g (suc (at c)) (Some (at c)) found.lacking) y.made
        home_leaves true e =
            let z = clean_last e in
            let long : 2 ≤ found.lacking + length chain = (let v = lacks_seen in let n = chain_clean z.0 in omega (arith, v, n)) in
            let ready : Ready P s.log limit f (point_at b g (suc p) (Some p) found.lacking) y.made = subst (λ (w : List (List ℕ)). Ready P s.log limit f (point_at b g (suc p) (Some p) found.lacking) w) (sym (made_in z.0))
            (ready_in b g last cur chain copy found.lacking i long (subst (λ (n : ℕ). FreeFrom s.log f b n) (sym z.1) free) (ends_seen ends) (ap (λ (n : ℕ). point_at b g (suc n) (Some n) found.lacking) z.0)) in
            record { does = λ h done. subst (λ (w : PartFlash). Ready P s.log limit w (point_at b g (suc p) (Some p) found.lacking) y.made) (sym done) ready; cuts = λ h cut. absurd cut; quiet = λ h done. inl refl; may = tt }
        home_leaves false e =
            let k = found.next in
            let under : k < s.log.places = x.room e in
            let behind : last < k = (let z = before_next_place in omega (arith, z, more)) in
            let from : s.log.cells ≤ k = (let z = before_next_place in let v = far_here in omega (arith, z, v)) in
            let blank = free k (omega arith) under in
            let space : k + need < limit = room_seen e ends in
            let fewer : found.lacking ≤ need = lacks in
            let z = later k (let v = before_next_place in omega (arith, v)) in
            let on : (h : PartFlash) → DoesPartWrites Blanks (deed_writes Blanks b k (seal_line g d)) f h → InBank P s.log h b g k d (k ∷ z.ks) copy y.made × IsWholeEnd s.log h b k = λ h does.
            let w = deed_done b k (seal_line g d) f h does in (
              home_on P s.log f h b k g d from blank w under free copy y.made i.deeds.sound i.cells.copied i.cells.count i.older y.home z y.may (done_firm b k (seal_line g d) f h does),
              record { free = free_here s.log f h b k g d from blank w free; closed = done_closed b k (seal_line g d) f h does },
            ) in
            record {
              does = λ h done.
                  let long : 2 ≤ found.lacking + suc (length y.before.ks) = (let v = lacks_seen in let n = count_seen in omega (arith, v, n)) in
                  let here = on h done in
                  ready_in b g k d (k ∷ z.ks) copy found.lacking here.0 long here.1.free (whole_within here.1 (omega (arith, space, fewer))) refl;
              quiet = λ h done. (let here = on h done in inr (quiet_in b g k d (k ∷ z.ks) copy y.made here.0 here.1));
              cuts = λ h cut.
                  let w = deed_cut b k (seal_line g d) f h cut in
                  in_bank_left P s.log f h b k g d from blank w under free last cur chain copy now i behind (suc limit) need enough (omega (arith, space)) may_here;
              may = free_may s.log f b g k i.deeds.sound from blank (seal_line g d);
            }

        pub stays_leaves : StartLeaves P s limit f (writes_with s found (mk b p g d) found.is_clean) (started_with s found (mk b p g d) found.is_clean d.body) cells
        stays_leaves =
            subst (λ (w : List PartWrite). StartLeaves P s limit f ((if found.is_clean then [] else deed_writes Blanks b found.next (seal_line g d)) ++ w) (started_with s found (mk b p g d) found.is_clean d.body) cells) (sym (stay_open s found d.body y.home))
            (subst (λ (w : SealPoint). StartLeaves P s limit f ((if found.is_clean then [] else deed_writes Blanks b found.next (seal_line g d)) ++ []) w cells)
            (sym (stay_point s found (mk b p g d) found.is_clean b g d.body y.home (x.home ∙ stay_bank (mk b p g d) d.body y.home) (x.generation ∙ stay_generation (mk b p g d) d.body y.home)))
            (subst (λ (w : List (List ℕ)). StartLeaves P s limit f ((if found.is_clean then [] else deed_writes Blanks b found.next (seal_line g d)) ++ []) (point_at b g (suc (at found.is_clean)) (Some (at found.is_clean)) found.lacking) w) (sym cells_made)
            (home_leaves found.is_clean refl)))
