-- What the writes of a put, of a move and of a start leave.
use Rattle.std.proofs.Common.{◌≡◌, ◌≢◌, inl, inr, ℕ, suc, ◌+◌, ◌-◌, ◌<◌, ◌≤◌, true, Some, None, List, [], ◌∷◌, length, refl, sym, ap, subst, ◌∙◌, arith}
use Rattle.std.proofs.lemmas.Bool.{cases_lt, cases_eq}
use Rattle.std.proofs.lemmas.Option.{same_Some}
use Rattle.seal_parts.specs.declared.PartClass.TheVariants.{Blanks}
use Rattle.seal_parts.specs.declared.UnitKind.TheVariants.{Line}
use Rattle.seal_parts.specs.declared.UnitContent.TheVariants.{Holds}
use Rattle.seal_parts.specs.declared.SealLine.{SealLine}
use Rattle.seal_parts.specs.declared.LogDeed.{LogDeed}
use Rattle.seal_parts.specs.declared.DeedBody.{DeedBody}
use Rattle.seal_parts.specs.declared.DeedBody.TheVariants.{Moves}
use Rattle.seal_parts.specs.Parts.{PartUnit, PartFlash, blank_unit, whole_unit}
use Rattle.seal_parts.specs.Designs.{DoesPartWrites, CutsPartWrites, MayDoPartWrites}
use Rattle.seal_logs.specs.declared.LogSizes.{LogSizes}
use Rattle.seal_logs.specs.Reads.{IsChain, IsCopyRead, after_body}
use Rattle.seal_logs.proofs.CallerLemmas.{one_deed, chain_at}
use Rattle.seal_laws.specs.declared.SealPoint.{SealPoint}
use Rattle.seal_laws.specs.Writes.{seal_line, deed_of, deed_writes, point_at}
use Rattle.seal_laws.proofs.Flashes.{firm_reads, blank_no_content, blank_not_firm, copy_extends, chain_before, chain_within, LeavesDeed, deed_done, deed_cut, done_firm, done_closed, deed_may}
use Rattle.seal_laws.proofs.Sealed.{OlderIn, FreeFrom, SoundBank, HasDeeds, HasCells, StaysHome, HomeReady, MayStand, stands_again, stands_put, stands_move, InBank, StandsFirst, AtMove, line_one, extends_here, content_here, content_there, older_there, sound_there, ready_there, sound_here, free_here, stand_there, firm_or_not, deeds_there, deeds_same, deeds_on, cells_on, cells_same, Before, LongBefore, long_again, long_next, before_next}
use Rattle.seal_laws.proofs.Within.{IsWholeEnd, EndsWithin, whole_within, next_within, LeftWithin, left_within, HomeWithin, left_same, home_same, left_more, chain_short, one_less}

-- the power is off: the log is in a bank, or has just moved to one
pub data Rests (P : List (List ℕ) → Type 0) (s : LogSizes) (limit : ℕ) (f : PartFlash) : Type 0 where
  rests_in : (b g last : ℕ) (cur : LogDeed) (chain : List ℕ) (copy now : List (List ℕ)) → InBank P s f b g last cur chain copy now → (need : ℕ) → 2 ≤ need + length chain → EndsWithin s f limit b last need → Rests P s limit f
  rests_at : (m g last : ℕ) (cur : LogDeed) (chain : List ℕ) (b : ℕ) (copy : List (List ℕ)) → AtMove P s f m g last cur chain b copy → LeftWithin s f limit m last → HomeWithin s f limit b → Rests P s limit f

-- the store is ready at this point, with these cells
pub data Ready (P : List (List ℕ) → Type 0) (s : LogSizes) (limit : ℕ) (f : PartFlash) (p : SealPoint) (cells : List (List ℕ)) : Type 0 where
  ready_in : (b g last : ℕ) (cur : LogDeed) (chain : List ℕ) (copy : List (List ℕ)) (lacking : ℕ) → InBank P s f b g last cur chain copy cells → 2 ≤ lacking + length chain → FreeFrom s f b (suc last)
      → EndsWithin s f limit b last lacking → p ≡ point_at b g (suc last) (Some last) lacking → Ready P s limit f p cells
  ready_at : (m g last : ℕ) (cur : LogDeed) (chain : List ℕ) (b : ℕ) → AtMove P s f m g last cur chain b cells → FreeFrom s f b s.cells → LeftWithin s f limit m last → s.cells + 2 ≤ limit
      → p ≡ point_at b (suc g) s.cells None 2 → Ready P s limit f p cells

pub rests_ready : (P : List (List ℕ) → Type 0) (s : LogSizes) (limit : ℕ) (f : PartFlash) (p : SealPoint) (cells : List (List ℕ)) → Ready P s limit f p cells → Rests P s limit f
rests_ready P s limit f p cells (ready_in b g last cur chain copy lacking i enough free ends is) = rests_in b g last cur chain copy cells i lacking enough ends
rests_ready P s limit f p cells (ready_at m g last cur chain b i free left room is) = rests_at m g last cur chain b cells i left (record { next = s.cells; from = omega arith; free = free; room = room })

-- the last deed stands in the part of the deeds
pub last_from : (s : LogSizes) (f : PartFlash) (b g last : ℕ) (cur : LogDeed) (chain : List ℕ) → HasDeeds s f b g last cur chain → s.cells ≤ last
last_from s f b g last cur chain i = (chain_at s (firm_reads f b) g s.places last chain i.followed).0

pub last_below : (s : LogSizes) (f : PartFlash) (b g last : ℕ) (cur : LogDeed) (chain : List ℕ) → HasDeeds s f b g last cur chain → last < s.places
last_below s f b g last cur chain i = (chain_at s (firm_reads f b) g s.places last chain i.followed).1.0

-- nothing stands from some place on: the last deed stands before it
pub last_before : (s : LogSizes) (f : PartFlash) (b g last : ℕ) (cur : LogDeed) (chain : List ℕ) → HasDeeds s f b g last cur chain → (next : ℕ) → FreeFrom s f b next → last < next
last_before s f b g last cur chain i next free = elim (cases_lt last next) [
  | inl less ↦ less
  | inr far ↦ absurd (blank_not_firm (f.unit b last Line) _ (free last far (last_below s f b g last cur chain i)) i.is)
]

ends_below : (s : LogSizes) (f : PartFlash) (limit b g last need : ℕ) (cur : LogDeed) (chain : List ℕ) → HasDeeds s f b g last cur chain → EndsWithin s f limit b last need → suc last + need ≤ limit
ends_below s f limit b g last need cur chain i (whole_within w room) = room
ends_below s f limit b g last need cur chain i (next_within next free room) = (let x = last_before s f b g last cur chain i next free in omega (arith, x, room))

-- the next deed, and those that the bank lacks, end within the limit, and stand behind the copy and two deeds
pub ready_within : (P : List (List ℕ) → Type 0) (s : LogSizes) (limit : ℕ) (f : PartFlash) (p : SealPoint) (cells : List (List ℕ)) → Ready P s limit f p cells → (p.next + p.lacking ≤ limit) × (s.cells + 2 ≤ p.next + p.lacking)
ready_within P s limit f p cells (ready_in b g last cur chain copy lacking i enough free ends is) =
    let room : suc last + lacking ≤ limit = ends_below s f limit b g last lacking cur chain i.deeds ends in
    let from = last_from s f b g last cur chain i.deeds in
    let short = chain_short s (firm_reads f b) g (suc last) (Some last) chain (omega (arith, from)) (chain_before s (firm_reads f b) g s.places (suc last) (Some last) chain (λ at e. (let x = same_Some _ _ e in omega (arith, x))) i.deeds.followed) in
    let low : s.cells + 2 ≤ suc last + lacking = omega (arith, short, enough) in
    subst (λ (z : SealPoint). (z.next + z.lacking ≤ limit) × (s.cells + 2 ≤ z.next + z.lacking)) (sym is) (room, low)
ready_within P s limit f p cells (ready_at m g last cur chain b i free left room is) =
    subst (λ (z : SealPoint). (z.next + z.lacking ≤ limit) × (s.cells + 2 ≤ z.next + z.lacking)) (sym is) (room, (let e : s.cells + 2 ≤ s.cells + 2 = omega arith in e))

-- a deed may be programmed at a place whose line is blank
pub free_may : (s : LogSizes) (f : PartFlash) (b g k : ℕ) → SoundBank s f b g → s.cells ≤ k → f.unit b k Line ≡ blank_unit → (line : SealLine) → MayDoPartWrites Blanks (deed_writes Blanks b k line) f
free_may s f b g k sound from blank line = deed_may b k line f sound.erased blank
    (elim (sound.confirm k from) [ inl is ↦ is | inr e ↦ absurd (blank_not_firm (f.unit b k Line) _ blank e.1) ])
    (elim (sound.second k from) [ inl is ↦ is | inr e ↦ absurd (blank_not_firm (f.unit b k Line) _ blank e.1) ])

pub ready_line_may : (P : List (List ℕ) → Type 0) (s : LogSizes) (limit : ℕ) (f : PartFlash) (p : SealPoint) (cells : List (List ℕ)) (line : SealLine) → Ready P s limit f p cells → p.next < s.places
    → MayDoPartWrites Blanks (deed_writes Blanks p.bank p.next line) f
ready_line_may P s limit f p cells line (ready_in b g last cur chain copy lacking i enough free ends is) below =
    let under : suc last < s.places = subst (λ (z : SealPoint). z.next < s.places) is below in
    let from = last_from s f b g last cur chain i.deeds in
    subst (λ (z : SealPoint). MayDoPartWrites Blanks (deed_writes Blanks z.bank z.next line) f) (sym is) (free_may s f b g (suc last) i.deeds.sound (omega (arith, from)) (free (suc last) (omega arith) under) line)
ready_line_may P s limit f p cells line (ready_at m g last cur chain b i free left room is) below =
    let under : s.cells < s.places = subst (λ (z : SealPoint). z.next < s.places) is below in
    subst (λ (z : SealPoint). MayDoPartWrites Blanks (deed_writes Blanks z.bank z.next line) f) (sym is) (free_may s f b (suc g) s.cells i.sound (omega arith) (free s.cells (omega arith) under) line)

pub again_chain : (s : LogSizes) (f : PartFlash) (b g last : ℕ) (cur : LogDeed) (chain : List ℕ) → HasDeeds s f b g last cur chain → (k : ℕ) → last ≤ k → (ks : List ℕ) × IsChain s (firm_reads f b) g k cur.prev ks
again_chain s f b g last cur chain i k more =
    let c = chain_at s (firm_reads f b) g s.places last chain i.followed in
    let e : c.1.1.0 ≡ cur = one_deed (firm_reads f b last) g c.1.1.0 cur c.1.1.1.0 i.is in
    let rest = c.1.1.1.1 in
    (rest.0, subst (λ (z : LogDeed). IsChain s (firm_reads f b) g k z.prev rest.0) e (chain_within s (firm_reads f b) g last k c.1.1.0.prev rest.0 more rest.1))

-- ---- one deed

module _ (P : List (List ℕ) → Type 0) (s : LogSizes) (f h : PartFlash) (b k g : ℕ) (d : LogDeed) (from : s.cells ≤ k) (blank : f.unit b k Line ≡ blank_unit) (w : LeavesDeed b k (seal_line g d) f h)
    (below : k < s.places) (free : FreeFrom s f b k) where
  vacant : (j : ℕ) (e : LogDeed) (y : ℕ) → k < j → j < s.places → (h.unit b j Line).content ≡ Some (Holds (seal_line y e)) → ⊥
  vacant j e y far under held = blank_no_content (h.unit b j Line) (Holds (seal_line y e)) (free_here s f h b k g d from blank w free j far under) held

  -- the line is firm: the log is in this bank, and it's the last deed
  pub home_on : (copy made : List (List ℕ)) → SoundBank s f b g → IsCopyRead (firm_reads f b) g copy → length copy ≡ s.cells → ((x : ℕ) → x ≢ b → OlderIn s f x g) → StaysHome d.body
      → (e : Before s f b g k copy d made) → P made → h.unit b k Line ≡ whole_unit (Holds (seal_line g d)) → InBank P s h b g k d (k ∷ e.ks) copy made
  home_on copy made sound copied count older home e may firm = record {
    deeds = deeds_on s f h b k g d from blank w e.ks below free e.chain firm sound;
    cells = subst (λ (z : List (List ℕ)). HasCells s h b g (k ∷ e.ks) copy z) (sym e.made_is) (cells_on s f h b k g d from blank w e.ks copy e.between count copied e.makes firm);
    home = home;
    may = may;
    stand = λ j z far under held. absurd (vacant j z g far under held);
    older = λ x ne. older_there s f h b k g d from blank w x g ne (older x ne);
  }

  -- .. or it's the move to another one
  pub move_on : (last to : ℕ) (ks : List ℕ) (cells : List (List ℕ)) → SoundBank s f b g → ((x : ℕ) → x ≢ b → OlderIn s f x g) → d.body ≡ Moves to (suc g) → to ≢ b → HomeReady s f to (suc g) cells → P cells
      → IsChain s (firm_reads f b) g k d.prev ks → h.unit b k Line ≡ whole_unit (Holds (seal_line g d)) → AtMove P s h b g k d (k ∷ ks) to cells × FreeFrom s h to s.cells
  move_on last to ks cells sound older is apart ready may chain firm =
      let now : HomeReady s h to (suc g) cells = ready_there s f h b k g d from blank w to (suc g) cells apart ready in (
        record {
          deeds = deeds_on s f h b k g d from blank w ks below free chain firm sound;
          move = is;
          apart = apart;
          again = λ j e far under held. absurd (vacant j e g far under held);
          sound = now.sound;
          copied = now.copied;
          count = now.count;
          may = may;
          stand = λ j e far under held. absurd (blank_no_content (h.unit to j Line) _ (now.free j far under) held);
          loose = λ j far under firm_there. now.free j far under;
          older = λ x ne other. older_there s f h b k g d from blank w x g ne (older x ne);
        },
        now.free,
      )

  -- a deed that may stand, in the bank of the log
  module _ (last : ℕ) (cur : LogDeed) (chain : List ℕ) (copy now : List (List ℕ)) (i : InBank P s f b g last cur chain copy now) (behind : last < k)
      (limit need : ℕ) (enough : 2 ≤ need + length chain) (room : suc k + need < limit) where
    abbrev within : (at : ℕ) → EndsWithin s h limit b at need
    within at = next_within (suc k) (free_here s f h b k g d from blank w free) room

    in_bank_same : MayStand P s f b g last now cur d → ((h.unit b k Line).firm ≡ true → h.unit b k Line ≡ blank_unit) → InBank P s h b g last cur chain copy now
    in_bank_same may loose = record {
      deeds = deeds_same s f h b k g d from blank w last cur chain loose i.deeds;
      cells = cells_same s f h b k g d from blank w chain copy now i.cells;
      home = i.home;
      may = i.may;
      stand = λ j e far under held. elim (cases_eq j k) [
        | inl at ↦ (
            let x = line_one g g e d (content_here s f h b k g d from blank w (Holds (seal_line g e)) (ap (λ (z : ℕ). (h.unit b z Line).content) (sym at) ∙ held)) in
            stand_there s f h b k g d from blank w P last now cur e (subst (λ (z : LogDeed). MayStand P s f b g last now cur z) (sym x.1) may))
        | inr ne ↦ stand_there s f h b k g d from blank w P last now cur e (i.stand j e far under (content_there s f h b k g d from blank w b j _ (inr ne) held))
      ];
      older = λ x ne. older_there s f h b k g d from blank w x g ne (i.older x ne);
    }

    in_bank_firm : MayStand P s f b g last now cur d → h.unit b k Line ≡ whole_unit (Holds (seal_line g d)) → Rests P s limit h
    in_bank_firm (stands_again e) firm =
        let z = long_again s f b g last cur copy now chain i.deeds i.cells.makes k (omega (arith, behind)) in
        let y : LongBefore s f b g k copy d now (length chain) = subst (λ (x : LogDeed). LongBefore s f b g k copy x now (length chain)) (sym e) z in
        let long : 2 ≤ need + suc (length y.0.ks) = (let v = y.1 in omega (arith, enough, v)) in
        rests_in b g k d (k ∷ y.0.ks) copy now (home_on copy now i.deeds.sound i.cells.copied i.cells.count i.older (subst (λ (x : LogDeed). StaysHome x.body) (sym e) i.home) y.0 i.may firm) need long (within k)
    in_bank_firm (stands_put body e home may) firm =
        let z = long_next s f b g last cur copy now chain i.deeds i.cells.makes k behind body in
        let y : LongBefore s f b g k copy d (after_body body now) (suc (length chain)) = subst (λ (x : LogDeed). LongBefore s f b g k copy x (after_body body now) (suc (length chain))) (sym e) z in
        let long : 2 ≤ need + suc (length y.0.ks) = (let v = y.1 in omega (arith, enough, v)) in
        rests_in b g k d (k ∷ y.0.ks) copy (after_body body now)
        (home_on copy (after_body body now) i.deeds.sound i.cells.copied i.cells.count i.older (subst (λ (x : LogDeed). StaysHome x.body) (sym e) home) y.0 may firm) need long (within k)
    in_bank_firm (stands_move to cells e ne ready may) firm =
        let z = before_next s f b g last cur copy now chain i.deeds i.cells.makes k behind (Moves to (suc g)) in
        let y : IsChain s (firm_reads f b) g k d.prev z.ks = subst (λ (x : LogDeed). IsChain s (firm_reads f b) g k x.prev z.ks) (sym e) z.chain in
        let m = move_on last to z.ks cells i.deeds.sound i.older (ap (λ (x : LogDeed). x.body) e) ne ready may y firm in
        rests_at b g k d (k ∷ z.ks) to cells m.0 (left_within (suc k) (free_here s f h b k g d from blank w free) (omega (arith, room)))
        (record { next = s.cells; from = omega arith; free = m.1; room = (let x = last_from s f b g last cur chain i.deeds in omega (arith, x, behind, room)) })

    pub in_bank_left : MayStand P s f b g last now cur d → Rests P s limit h
    in_bank_left may = elim (firm_or_not s f h b k g d from blank w) [
      | inl firm ↦ in_bank_firm may firm
      | inr loose ↦ rests_in b g last cur chain copy now (in_bank_same may loose) need enough (within last)
    ]

  -- the move again, in the bank that was left
  module _ (last : ℕ) (chain : List ℕ) (to : ℕ) (copy : List (List ℕ)) (i : AtMove P s f b g last d chain to copy) (behind : last < k) where
    at_move_with : (at : ℕ) (ks : List ℕ) → HasDeeds s h b g at d ks → ((j : ℕ) (e : LogDeed) → at < j → j < s.places → (h.unit b j Line).content ≡ Some (Holds (seal_line g e)) → e ≡ d) → AtMove P s h b g at d ks to copy
    at_move_with at ks deeds again = record {
      deeds = deeds;
      move = i.move;
      apart = i.apart;
      again = again;
      sound = sound_there s f h b k g d from blank w to (suc g) i.apart i.sound;
      copied = copy_extends s (firm_reads f to) (firm_reads h to) (suc g) (extends_here s f h b k g d from blank w to) copy i.copied;
      count = i.count;
      may = i.may;
      stand = λ j e far under held. i.stand j e far under (content_there s f h b k g d from blank w to j _ (inl i.apart) held);
      loose = λ j far under firm. (let x = w.others to j Line (inl i.apart) in x ∙ i.loose j far under (ap (λ (z : PartUnit). z.firm) (sym x) ∙ firm));
      older = λ x ne other. older_there s f h b k g d from blank w x g ne (i.older x ne other);
    }

    pub at_move_firm : h.unit b k Line ≡ whole_unit (Holds (seal_line g d)) → (ks : List ℕ) × AtMove P s h b g k d ks to copy
    at_move_firm firm = (let c = again_chain s f b g last d chain i.deeds k (omega (arith, behind)) in
        (k ∷ c.0, at_move_with k (k ∷ c.0) (deeds_on s f h b k g d from blank w c.0 below free c.1 firm i.deeds.sound) (λ j e far under held. absurd (vacant j e g far under held))))

    pub at_move_left : (limit : ℕ) → suc k < limit → HomeWithin s f limit to → Rests P s limit h
    at_move_left limit room home =
        let left : (at : ℕ) → LeftWithin s h limit b at = λ at. left_within (suc k) (free_here s f h b k g d from blank w free) room in
        let there : HomeWithin s h limit to = home_same s f h limit limit to (omega arith) (λ j kind. w.others to j kind (inl i.apart)) home in
        elim (firm_or_not s f h b k g d from blank w) [
          | inl firm ↦ (let x = at_move_firm firm in rests_at b g k d x.0 to copy x.1 (left k) there)
          | inr loose ↦ rests_at b g last d chain to copy (at_move_with last chain (deeds_same s f h b k g d from blank w last d chain loose i.deeds) (λ j e far under held. elim (cases_eq j k) [
            | inl at ↦ (line_one g g e d (content_here s f h b k g d from blank w (Holds (seal_line g e)) (ap (λ (z : ℕ). (h.unit b z Line).content) (sym at) ∙ held))).1
            | inr ne ↦ i.again j e far under (content_there s f h b k g d from blank w b j _ (inr ne) held)
          ])) (left last) there
        ]

-- a deed in the bank that the log has just moved to
module _ (P : List (List ℕ) → Type 0) (s : LogSizes) (f h : PartFlash) (m g last : ℕ) (cur : LogDeed) (chain : List ℕ) (b : ℕ) (copy : List (List ℕ)) (i : AtMove P s f m g last cur chain b copy)
    (k : ℕ) (d : LogDeed) (from : s.cells ≤ k) (below : k < s.places) (free : FreeFrom s f b k) (w : LeavesDeed b k (seal_line (suc g) d) f h) where
  abbrev blank : f.unit b k Line ≡ blank_unit
  blank = free k (omega arith) below

  older_all : (x : ℕ) → x ≢ b → OlderIn s f x (suc g)
  older_all x ne j y e far under held = elim (cases_eq x m) [
    | inl is ↦ (
        let at = i.deeds.sound.lines j (Holds (seal_line y e)) far under (ap (λ (z : ℕ). (f.unit z j Line).content) (sym is) ∙ held) in
        let z = (line_one y g e at.0 at.1).0 in
        omega (arith, z))
    | inr other ↦ (let z = i.older x other ne j y e far under held in omega (arith, z))
  ]

  abbrev before_first : StandsFirst P copy d → Before s f b (suc g) k copy d (after_body d.body copy)
  before_first may = record {
    ks = [];
    chain = subst (λ (z : LogDeed). IsChain s (firm_reads f b) (suc g) k z.prev []) (sym may.is) tt;
    between = copy;
    makes = refl;
    made_is = refl;
  }

  pub at_home_firm : (may : StandsFirst P copy d) → h.unit b k Line ≡ whole_unit (Holds (seal_line (suc g) d)) → InBank P s h b (suc g) k d (k ∷ []) copy (after_body d.body copy)
  at_home_firm may firm = home_on P s f h b k (suc g) d from blank w below free copy (after_body d.body copy) i.sound i.copied i.count older_all
      (subst (λ (z : LogDeed). StaysHome z.body) (sym may.is) may.home) (before_first may) (subst (λ (z : LogDeed). P (after_body z.body copy)) (sym may.is) may.may) firm

  pub at_home_left : StandsFirst P copy d → (limit : ℕ) → LeftWithin s f limit m last → suc k + 1 < limit → Rests P s limit h
  at_home_left may limit left room = elim (firm_or_not s f h b k (suc g) d from blank w) [
    | inl firm ↦ rests_in b (suc g) k d (k ∷ []) copy (after_body d.body copy) (at_home_firm may firm) 1 (omega arith) (next_within (suc k) (free_here s f h b k (suc g) d from blank w free) room)
    | inr loose ↦ rests_at m g last cur chain b copy (record {
      deeds = deeds_there s f h b k (suc g) d from blank w m g last cur chain (λ e. i.apart (sym e)) i.deeds;
      move = i.move;
      apart = i.apart;
      again = λ j e far under held. i.again j e far under (content_there s f h b k (suc g) d from blank w m j _ (inl (λ z. i.apart (sym z))) held);
      sound = sound_here s f h b k (suc g) d from blank w i.sound;
      copied = copy_extends s (firm_reads f b) (firm_reads h b) (suc g) (extends_here s f h b k (suc g) d from blank w b) copy i.copied;
      count = i.count;
      may = i.may;
      stand = λ j e far under held. elim (cases_eq j k) [
        | inl at ↦ (
            let x = line_one (suc g) (suc g) e d (content_here s f h b k (suc g) d from blank w (Holds (seal_line (suc g) e)) (ap (λ (z : ℕ). (h.unit b z Line).content) (sym at) ∙ held)) in
            subst (λ (z : LogDeed). StandsFirst P copy z) (sym x.1) may)
        | inr ne ↦ i.stand j e far under (content_there s f h b k (suc g) d from blank w b j _ (inr ne) held)
      ];
      loose = λ j far under firm. elim (cases_eq j k) [
        | inl at ↦ subst (λ (z : ℕ). h.unit b z Line ≡ blank_unit) (sym at) (loose (ap (λ (z : ℕ). (h.unit b z Line).firm) (sym at) ∙ firm))
        | inr ne ↦ (let x = w.others b j Line (inr ne) in x ∙ i.loose j far under (ap (λ (z : PartUnit). z.firm) (sym x) ∙ firm))
      ];
      older = λ x ne other. older_there s f h b k (suc g) d from blank w x g other (i.older x ne other);
    })
        (left_same s f h limit limit m (omega arith) (λ j kind. w.others m j kind (inl (λ e. i.apart (sym e)))) last left)
        (record { next = suc k; from = omega (arith, from); free = free_here s f h b k (suc g) d from blank w free; room = omega (arith, room) })
  ]

-- ---- the next deed of a store that is ready

module _ (P : List (List ℕ) → Type 0) (s : LogSizes) (f h : PartFlash) (cells : List (List ℕ)) (body : DeedBody) (home : StaysHome body) (may : P (after_body body cells)) where
  -- the limit is raised by the place of that deed, and by one more for the deed again
  module _ (limit more : ℕ) (far : limit ≤ more) where
    next_left_at : (p : SealPoint) → Ready P s limit f p cells → p.next < s.places → p.next + p.lacking + 1 < more → LeavesDeed p.bank p.next (seal_line p.generation (deed_of p.last body)) f h → Rests P s more h
    next_left_at p (ready_in b g last cur chain copy lacking i enough free ends is) below room w =
        let under : suc last < s.places = subst (λ (z : SealPoint). z.next < s.places) is below in
        let most : suc last + lacking + 1 < more = subst (λ (z : SealPoint). z.next + z.lacking + 1 < more) is room in
        let from = last_from s f b g last cur chain i.deeds in
        in_bank_left P s f h b (suc last) g (deed_of (Some last) body) (omega (arith, from)) (free (suc last) (omega arith) under)
        (subst (λ (z : SealPoint). LeavesDeed z.bank z.next (seal_line z.generation (deed_of z.last body)) f h) is w) under free last cur chain copy cells i (omega arith)
        more lacking enough (omega (arith, most)) (stands_put body refl home may)
    next_left_at p (ready_at m g last cur chain b i free left low is) below room w =
        let most : s.cells + 2 + 1 < more = subst (λ (z : SealPoint). z.next + z.lacking + 1 < more) is room in
        at_home_left P s f h m g last cur chain b cells i s.cells (deed_of None body) (omega arith) (subst (λ (z : SealPoint). z.next < s.places) is below) free
        (subst (λ (z : SealPoint). LeavesDeed z.bank z.next (seal_line z.generation (deed_of z.last body)) f h) is w) (record { body = body; is = refl; home = home; may = may })
        more (left_more s f limit more m last far left) (omega (arith, most))

    pub next_left : (p : SealPoint) → Ready P s limit f p cells → p.next < s.places → p.next + p.lacking + 1 < more
        → CutsPartWrites Blanks (deed_writes Blanks p.bank p.next (seal_line p.generation (deed_of p.last body))) f h → Rests P s more h
    next_left p ready below room cut = next_left_at p ready below room (deed_cut p.bank p.next (seal_line p.generation (deed_of p.last body)) f h cut)

  -- the log is in the bank then, behind that deed
  pub record NextDone (p : SealPoint) : Type 0 where
    pub cur : LogDeed
    pub chain : List ℕ
    pub copy : List (List ℕ)
    pub bank : InBank P s h p.bank p.generation p.next cur chain copy (after_body body cells)
    pub long : 2 ≤ (p.lacking - 1) + length chain
    pub whole : IsWholeEnd s h p.bank p.next

  pub next_done : (limit : ℕ) (p : SealPoint) → Ready P s limit f p cells → p.next < s.places → DoesPartWrites Blanks (deed_writes Blanks p.bank p.next (seal_line p.generation (deed_of p.last body))) f h → NextDone p
  next_done limit p (ready_in b g last cur chain copy lacking i enough free ends is) below does =
      let under : suc last < s.places = subst (λ (z : SealPoint). z.next < s.places) is below in
      let from = last_from s f b g last cur chain i.deeds in
      let d : LogDeed = deed_of (Some last) body in
      let does_here : DoesPartWrites Blanks (deed_writes Blanks b (suc last) (seal_line g d)) f h = subst (λ (z : SealPoint). DoesPartWrites Blanks (deed_writes Blanks z.bank z.next (seal_line z.generation (deed_of z.last body))) f h) is does in
      let w = deed_done b (suc last) (seal_line g d) f h does_here in
      let firm = done_firm b (suc last) (seal_line g d) f h does_here in
      let start : s.cells ≤ suc last = omega (arith, from) in
      let blank = free (suc last) (omega arith) under in
      let y = long_next s f b g last cur copy cells chain i.deeds i.cells.makes (suc last) (omega arith) body in
      let e = y.0 in
      subst (λ (z : SealPoint). NextDone z) (sym is) (record {
        cur = d;
        chain = suc last ∷ e.ks;
        copy = copy;
        bank = home_on P s f h b (suc last) g d start blank w under free copy (after_body body cells) i.deeds.sound i.cells.copied i.cells.count i.older home e may firm;
        long = (let v = y.1 in one_less lacking (length e.ks) (length chain) v enough);
        whole = record { free = free_here s f h b (suc last) g d start blank w free; closed = done_closed b (suc last) (seal_line g d) f h does_here };
      })
  next_done limit p (ready_at m g last cur chain b i free left low is) below does =
      let under : s.cells < s.places = subst (λ (z : SealPoint). z.next < s.places) is below in
      let d : LogDeed = deed_of None body in
      let does_here : DoesPartWrites Blanks (deed_writes Blanks b s.cells (seal_line (suc g) d)) f h = subst (λ (z : SealPoint). DoesPartWrites Blanks (deed_writes Blanks z.bank z.next (seal_line z.generation (deed_of z.last body))) f h) is does in
      let w = deed_done b s.cells (seal_line (suc g) d) f h does_here in
      let firm = done_firm b s.cells (seal_line (suc g) d) f h does_here in
      subst (λ (z : SealPoint). NextDone z) (sym is) (record {
        cur = d;
        chain = s.cells ∷ [];
        copy = cells;
        bank = at_home_firm P s f h m g last cur chain b cells i s.cells d (omega arith) under free w (record { body = body; is = refl; home = home; may = may }) firm;
        long = omega arith;
        whole = record { free = free_here s f h b s.cells (suc g) d (omega arith) (free s.cells (omega arith) under) w free; closed = done_closed b s.cells (seal_line (suc g) d) f h does_here };
      })
