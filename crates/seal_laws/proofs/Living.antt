-- What holds of a part of blanks in all lives of a store.
use Rattle.std.proofs.Common.{◌≡◌, ◌≢◌, ◌⊎◌, inl, inr, ℕ, suc, ◌+◌, ◌-◌, ◌<◌, ◌≤◌, true, Some, None, List, [], ◌∷◌, ◌++◌, length, set, refl, sym, ap, subst, ◌∙◌, arith}
use Rattle.std.proofs.lemmas.Bool.{cases_lt, cases_eq}
use Rattle.std.proofs.lemmas.Option.{same_Some}
use Rattle.std.proofs.lemmas.List.{length-set}
use Rattle.seal_parts.specs.declared.PartClass.TheVariants.{Blanks}
use Rattle.seal_parts.specs.declared.UnitKind.{UnitKind}
use Rattle.seal_parts.specs.declared.UnitKind.TheVariants.{Line, Confirm, SecondConfirm}
use Rattle.seal_parts.specs.declared.SealLine.{SealLine}
use Rattle.seal_parts.specs.declared.LogDeed.{LogDeed}
use Rattle.seal_parts.specs.declared.DeedBody.{DeedBody}
use Rattle.seal_parts.specs.declared.DeedBody.TheVariants.{Opens, Puts, Moves, IsNew}
use Rattle.seal_parts.specs.Parts.{PartUnit, PartFlash, blank_unit}
use Rattle.seal_parts.specs.Designs.{PartWrite, DoesPartWrites, CutsPartWrites, MayDoPartWrites}
use Rattle.seal_logs.specs.declared.PlaceRead.{PlaceRead}
use Rattle.seal_logs.specs.declared.LogSizes.{LogSizes}
use Rattle.seal_logs.specs.declared.starting.FoundStore.{FoundStore}
use Rattle.seal_logs.specs.declared.starting.StartEnd.{StartEnd}
use Rattle.seal_logs.specs.declared.starting.StartEnd.TheVariants.{NoStore, Damaged, Found}
use Rattle.seal_logs.specs.Reads.{MakesOf, after_body}
use Rattle.seal_laws.specs.declared.SealSizes.{SealSizes}
use Rattle.seal_laws.specs.declared.SealPoint.{SealPoint}
use Rattle.seal_laws.specs.Writes.{seal_line, deed_of, deed_writes, copy_writes, put_deed, put_writes, bank_after, move_deed, move_writes, first_writes, start_writes, started_at, put_on, moved_on, FitsPut, FitsMove}
use Rattle.seal_laws.specs.Wear.{cut_places}
use Rattle.seal_laws.specs.Lives.{seal_off, seal_ready, SealMachine, SealEvent, starts, puts_cell, makes_anew, cuts_start, cuts_puts, cuts_anew, rests, StartsSeal, CutsStartSeal, cuts_reads, cuts_writes, PutsSeal, goes_next, goes_on, CutsPutSeal, cuts_next, cuts_on, MakesAnewSeal, CutsAnewSeal, DoesSealEvent, SealLives, MayMakeSeal, PossibleSeal, FindsSeal, FormattedSeal, OnlyResets}
use Rattle.seal_laws.proofs.Flashes.{firm_line, firm_reads, blank_no_content, Extends, chain_extends, chain_before, read_leaves, deed_done, done_firm, done_closed, LeavesBank, copy_done, deed_may, copy_may, does_both, may_both}
use Rattle.seal_laws.proofs.Sealed.{OlderIn, FreeFrom, SoundBank, HasDeeds, in_bank_more, at_move_more, free_here, deeds_on}
use Rattle.seal_laws.proofs.Within.{whole_within, left_whole}
use Rattle.seal_laws.proofs.Writing.{Rests, rests_in, rests_at, Ready, ready_in, ready_at, rests_ready, ready_within, ready_line_may, move_on, next_left, next_done}
use Rattle.seal_laws.proofs.Moving.{home_ready, move_done, move_whole, move_cut, move_may}
use Rattle.seal_laws.proofs.StartingMoved.{start_leaves}
use Rattle.seal_laws.proofs.Finding.{finds_store}
use Rattle.seal_laws.proofs.Resting.{nothing_written, nothing_moved}

-- ---- more cells may be, and which are

pub rests_more : (P Q : List (List ℕ) → Type 0) (s : LogSizes) (limit : ℕ) (f : PartFlash) → ((c : List (List ℕ)) → P c → Q c) → Rests P s limit f → Rests Q s limit f
rests_more P Q s limit f more (rests_in b g last cur chain copy now i need enough ends) = rests_in b g last cur chain copy now (in_bank_more P Q more s f b g last cur chain copy now i) need enough ends
rests_more P Q s limit f more (rests_at m g last cur chain b copy i left home) = rests_at m g last cur chain b copy (at_move_more P Q more s f m g last cur chain b copy i) left home

pub ready_may : (P : List (List ℕ) → Type 0) (s : LogSizes) (limit : ℕ) (f : PartFlash) (p : SealPoint) (cells : List (List ℕ)) → Ready P s limit f p cells → P cells
ready_may P s limit f p cells (ready_in b g last cur chain copy lacking i enough free ends is) = i.may
ready_may P s limit f p cells (ready_at m g last cur chain b i free left low is) = i.may

-- a store that is ready has these cells, and no others may be
pub ready_only : (P Q : List (List ℕ) → Type 0) (s : LogSizes) (limit : ℕ) (f : PartFlash) (p : SealPoint) (cells : List (List ℕ)) → Q cells → Ready P s limit f p cells → Ready Q s limit f p cells
ready_only P Q s limit f p cells may (ready_in b g last cur chain copy lacking i enough free ends is) = ready_in b g last cur chain copy lacking (record {
  deeds = i.deeds;
  cells = i.cells;
  home = i.home;
  may = may;
  stand = λ k d far below held. absurd (blank_no_content (f.unit b k Line) _ (free k (omega (arith, far)) below) held);
  older = i.older;
}) enough free ends is
ready_only P Q s limit f p cells may (ready_at m g last cur chain b i free left low is) = ready_at m g last cur chain b (record {
  deeds = i.deeds;
  move = i.move;
  apart = i.apart;
  again = i.again;
  sound = i.sound;
  copied = i.copied;
  count = i.count;
  may = may;
  stand = λ k d far below held. absurd (blank_no_content (f.unit b k Line) _ (free k far below) held);
  loose = i.loose;
  older = i.older;
}) free left low is

body_count : (body : DeedBody) (cells : List (List ℕ)) → length (after_body body cells) ≡ length cells
body_count Opens cells = refl
body_count (Puts cell payload) cells = length-set _ _ _
body_count (Moves bank generation) cells = refl
body_count IsNew cells = refl

makes_count : (p : ℕ → PlaceRead) (g : ℕ) (ks : List ℕ) (cells now : List (List ℕ)) → MakesOf p g ks cells now → length now ≡ length cells
makes_count p g [] cells now h = ap (λ (z : List (List ℕ)). length z) h
makes_count p g (k ∷ ks) cells now h = ap (λ (z : List (List ℕ)). length z) h.1.1.1.1 ∙ (body_count h.0.body h.1.1.0 ∙ makes_count p g ks cells h.1.1.0 h.1.1.1.0)

ready_count : (P : List (List ℕ) → Type 0) (s : LogSizes) (limit : ℕ) (f : PartFlash) (p : SealPoint) (cells : List (List ℕ)) → Ready P s limit f p cells → length cells ≡ s.cells
ready_count P s limit f p cells (ready_in b g last cur chain copy lacking i enough free ends is) = makes_count (firm_reads f b) g chain copy cells i.cells.makes ∙ i.cells.count
ready_count P s limit f p cells (ready_at m g last cur chain b i free left low is) = i.count

-- ---- the machine

pub data Stands (P : List (List ℕ) → Type 0) (s : SealSizes) (limit : ℕ) (a : SealMachine) : Type 0 where
  stands_off : a.stage ≡ seal_off → Rests P s.log limit a.flash → Stands P s limit a
  stands_ready : (p : SealPoint) (cells : List (List ℕ)) → a.stage ≡ seal_ready p cells → Ready P s.log limit a.flash p cells → Stands P s limit a

pub stands_more : (P Q : List (List ℕ) → Type 0) (s : SealSizes) (limit : ℕ) (a : SealMachine) → ((c : List (List ℕ)) → P c → Q c) → Stands P s limit a → Stands Q s limit a
stands_more P Q s limit a more (stands_off e i) = stands_off e (rests_more P Q s.log limit a.flash more i)
stands_more P Q s limit a more (stands_ready p cells e i) = stands_ready p cells e (ready_only P Q s.log limit a.flash p cells (more cells (ready_may P s.log limit a.flash p cells i)) i)

not_off : (p : SealPoint) (cells : List (List ℕ)) → seal_off ≡ seal_ready p cells → ⊥
not_off p cells e = absurd (cc)

one_point : (p q : SealPoint) (cells now : List (List ℕ)) → seal_ready p cells ≡ seal_ready q now → p ≡ q
one_point p q cells now e = cc

one_list : (p q : SealPoint) (cells now : List (List ℕ)) → seal_ready p cells ≡ seal_ready q now → cells ≡ now
one_list p q cells now e = cc

-- a bank is full if a put doesn't fit
full_within : (s : SealSizes) (limit : ℕ) (p : SealPoint) → (FitsPut s p → ⊥) → p.next + p.lacking ≤ limit → s.log.places ≤ limit + s.reserve
full_within s limit p full within = elim (cases_lt (p.next + (p.lacking - 1) + s.reserve) s.log.places) [
  | inl less ↦ absurd (full less)
  | inr far ↦ omega (arith, far, within)
]

module _ (P : List (List ℕ) → Type 0) (s : SealSizes) (limit : ℕ) (a : SealMachine) where
  pub off_rests : Stands P s limit a → Rests P s.log limit a.flash
  off_rests (stands_off e i) = i
  off_rests (stands_ready p cells e i) = rests_ready P s.log limit a.flash p cells i

  pub ready_stands : (p : SealPoint) (cells : List (List ℕ)) → a.stage ≡ seal_ready p cells → Stands P s limit a → Ready P s.log limit a.flash p cells
  ready_stands p cells is (stands_off e i) = absurd (not_off p cells (sym e ∙ is))
  ready_stands p cells is (stands_ready q now e i) =
      let same = sym e ∙ is in
      subst (λ (z : SealPoint). Ready P s.log limit a.flash z cells) (one_point q p now cells same) (subst (λ (z : List (List ℕ)). Ready P s.log limit a.flash q z) (one_list q p now cells same) i)

-- ---- one event

abbrev pub After : SealEvent → (List (List ℕ) → Type 0) → List (List ℕ) → Type 0
After event P c = (old : List (List ℕ)) × (P old × MayMakeSeal event old c)

-- what a put makes of the limit: one place more, within the reserve; or that of a new bank, and then the old one was full
abbrev pub PutLimit : (s : SealSizes) (cell : ℕ) (payload : List ℕ) (a b : SealMachine) → PutsSeal Blanks s cell payload a b → ℕ → ℕ → Type 0
PutLimit s cell payload a b (goes_next p cells fits below w) old new = (new ≤ suc old) × (new + s.reserve ≤ s.log.places)
PutLimit s cell payload a b (goes_on p cells full fits below w) old new = (new ≡ s.log.cells + 2) × (s.log.places ≤ old + s.reserve)

-- .. and each event
abbrev pub LimitAfter : (s : SealSizes) (event : SealEvent) (a b : SealMachine) → DoesSealEvent Blanks s event a b → ℕ → ℕ → Type 0
LimitAfter s (puts_cell cell payload) a b x old new = PutLimit s cell payload a b x old new
LimitAfter s (makes_anew made) a b x old new = new ≡ s.log.cells + 2
LimitAfter s starts a b x old new = new ≤ old + cut_places starts
LimitAfter s cuts_start a b x old new = new ≤ old + cut_places cuts_start
LimitAfter s (cuts_puts cell payload) a b x old new = new ≤ old + cut_places (cuts_puts cell payload)
LimitAfter s (cuts_anew made) a b x old new = new ≤ old + cut_places (cuts_anew made)
LimitAfter s rests a b x old new = new ≤ old + cut_places rests

pub record StandsAfter (Q : List (List ℕ) → Type 0) (s : SealSizes) (b : SealMachine) (Limit : ℕ → Type 0) : Type 0 where
  pub limit : ℕ
  pub least : s.log.cells + 2 ≤ limit
  pub is : Limit limit
  pub stands : Stands Q s limit b

module _ (P : List (List ℕ) → Type 0) (s : SealSizes) (two : 2 ≤ s.log.banks) (limit : ℕ) (least : s.log.cells + 2 ≤ limit) (a b : SealMachine) (i : Stands P s limit a) where
  after_starts : StartsSeal Blanks s a b → StandsAfter (After starts P) s b (λ (n : ℕ). n ≤ limit + 0)
  after_starts x =
      let between : x.between ≡ a.flash = read_leaves a.flash x.between x.finds.view x.finds.reads in
      let leaves = start_leaves P s a.flash x.between x.finds.view x.finds.reads x.found x.cells limit (off_rests P s limit a i) x.finds.finds in
      let ready = leaves.does b.flash (subst (λ (z : PartFlash). DoesPartWrites Blanks (start_writes Blanks s x.found) z b.flash) between x.writes) in
      let point = started_at s x.found x.found.latest.deed.body in
      record {
        limit = limit;
        least = least;
        is = omega arith;
        stands = stands_ready point x.cells x.now (ready_only P (After starts P) s.log limit b.flash point x.cells (x.cells, (ready_may P s.log limit b.flash point x.cells ready, refl)) ready);
      }

  after_cut_start : CutsStartSeal Blanks s a b → StandsAfter (After cuts_start P) s b (λ (n : ℕ). n ≤ limit + 1)
  after_cut_start (cuts_reads view was reads off) = record {
    limit = limit;
    least = least;
    is = omega arith;
    stands = stands_off off (rests_more P (After cuts_start P) s.log limit b.flash (λ c may. (c, (may, refl)))
        (subst (λ (z : PartFlash). Rests P s.log limit z) (sym (read_leaves a.flash b.flash view reads)) (off_rests P s limit a i)));
  }
  after_cut_start (cuts_writes found cells between finds cuts off) =
      let same : between ≡ a.flash = read_leaves a.flash between finds.view finds.reads in
      let leaves = start_leaves P s a.flash between finds.view finds.reads found cells limit (off_rests P s limit a i) finds.finds in
      record {
        limit = suc limit;
        least = omega (arith, least);
        is = omega arith;
        stands = stands_off off (rests_more P (After cuts_start P) s.log (suc limit) b.flash (λ c may. (c, (may, refl)))
            (leaves.cuts b.flash (subst (λ (z : PartFlash). CutsPartWrites Blanks (start_writes Blanks s found) z b.flash) same cuts)));
      }

  -- a store that is ready is written: these cells, or those that are made of them
  module _ (p : SealPoint) (cells made : List (List ℕ)) (was : a.stage ≡ seal_ready p cells) where
    abbrev Either : List (List ℕ) → Type 0
    Either c = (c ≡ cells) ⊎ (c ≡ made)

    ready : Ready P s.log limit a.flash p cells
    ready = ready_stands P s limit a p cells was i

    either : Ready Either s.log limit a.flash p cells
    either = ready_only P Either s.log limit a.flash p cells (inl refl) ready

    may : P cells
    may = ready_may P s.log limit a.flash p cells ready

    after_ready : (event : SealEvent) (q : SealPoint) (more : ℕ) → MayMakeSeal event cells made → b.stage ≡ seal_ready q made → Ready Either s.log more b.flash q made → Stands (After event P) s more b
    after_ready event q more makes now r = stands_ready q made now (ready_only Either (After event P) s.log more b.flash q made (cells, (may, makes)) r)

    -- a cut takes two places more
    after_cut : (event : SealEvent) → MayMakeSeal event cells cells → MayMakeSeal event cells made → b.stage ≡ seal_off → Rests Either s.log (limit + 2) b.flash → StandsAfter (After event P) s b (λ (n : ℕ). n ≤ limit + 2)
    after_cut event same makes now r = record {
      limit = limit + 2;
      least = omega (arith, least);
      is = omega arith;
      stands = stands_off now (rests_more Either (After event P) s.log (limit + 2) b.flash (λ c x. elim x [
        | inl e ↦ (cells, (may, subst (λ (z : List (List ℕ)). MayMakeSeal event cells z) (sym e) same))
        | inr e ↦ (cells, (may, subst (λ (z : List (List ℕ)). MayMakeSeal event cells z) (sym e) makes))
      ]) r);
    }

    most : p.next + p.lacking + 1 < limit + 2
    most = (let x = (ready_within P s.log limit a.flash p cells ready).0 in omega (arith, x))

    module _ (count : length made ≡ length cells) (fits : FitsMove s p) where
      counted : length made ≡ s.log.cells
      counted = count ∙ ready_count P s.log limit a.flash p cells ready

      moved : DoesPartWrites Blanks (move_writes Blanks s p made) a.flash b.flash → Ready Either s.log (s.log.cells + 2) b.flash (moved_on s p) made
      moved does = move_done Either s two p cells made counted (inr refl) fits limit a.flash b.flash either does

      cut_move : CutsPartWrites Blanks (move_writes Blanks s p made) a.flash b.flash → Rests Either s.log (limit + 2) b.flash
      cut_move cuts = move_cut Either s two p cells made counted (inr refl) fits limit (limit + 2) (omega arith) most a.flash b.flash either cuts

  place_of : (p : SealPoint) → FitsPut s p → p.next < s.log.places
  place_of p fits = omega (arith, fits)

  after_puts : (cell : ℕ) (payload : List ℕ) (x : PutsSeal Blanks s cell payload a b) → StandsAfter (After (puts_cell cell payload) P) s b (λ (n : ℕ). PutLimit s cell payload a b x limit n)
  after_puts cell payload (goes_next p cells fits below w) =
      let made = set cells cell payload in
      let n = next_done (Either p cells made w.was) s.log a.flash b.flash cells (Puts cell payload) tt (inr refl) limit p (either p cells made w.was) (place_of p fits) w.does in
      let within = ready_within P s.log limit a.flash p cells (ready p cells made w.was) in
      let within_more = within.0 in
      let within_least = within.1 in
      let more : ℕ = suc p.next + (p.lacking - 1) in
      record {
        limit = more;
        least = omega (arith, within_least);
        is = (omega (arith, within_more), omega (arith, fits));
        stands = after_ready p cells made w.was (puts_cell cell payload) (put_on p) more refl w.now
            (ready_in p.bank p.generation p.next n.cur n.chain n.copy (p.lacking - 1) n.bank n.long n.whole.free (whole_within n.whole (omega arith)) refl);
      }
  after_puts cell payload (goes_on p cells full fits below w) =
      let made = set cells cell payload in
      let within = (ready_within P s.log limit a.flash p cells (ready p cells made w.was)).0 in
      record {
        limit = s.log.cells + 2;
        least = omega arith;
        is = (refl, full_within s limit p full within);
        stands = after_ready p cells made w.was (puts_cell cell payload) (moved_on s p) (s.log.cells + 2) refl w.now (moved p cells made w.was (length-set _ _ _) fits w.does);
      }

  after_anew : (made : List (List ℕ)) → MakesAnewSeal Blanks s made a b → StandsAfter (After (makes_anew made) P) s b (λ (n : ℕ). n ≡ s.log.cells + 2)
  after_anew made x = record {
    limit = s.log.cells + 2;
    least = omega arith;
    is = refl;
    stands = after_ready x.point x.cells made x.writes.was (makes_anew made) (moved_on s x.point) (s.log.cells + 2) refl x.writes.now (moved x.point x.cells made x.writes.was x.count x.fits x.writes.does);
  }

  after_cut_put : (cell : ℕ) (payload : List ℕ) → CutsPutSeal Blanks s cell payload a b → StandsAfter (After (cuts_puts cell payload) P) s b (λ (n : ℕ). n ≤ limit + 2)
  after_cut_put cell payload (cuts_next p cells fits below w) =
      let made = set cells cell payload in
      after_cut p cells made w.was (cuts_puts cell payload) (inl refl) (inr refl) w.now
      (next_left (Either p cells made w.was) s.log a.flash b.flash cells (Puts cell payload) tt (inr refl) limit (limit + 2) (omega arith) p (either p cells made w.was) (place_of p fits) (most p cells made w.was) w.cuts)
  after_cut_put cell payload (cuts_on p cells full fits below w) =
      let made = set cells cell payload in
      after_cut p cells made w.was (cuts_puts cell payload) (inl refl) (inr refl) w.now (cut_move p cells made w.was (length-set _ _ _) fits w.cuts)

  after_cut_anew : (made : List (List ℕ)) → CutsAnewSeal Blanks s made a b → StandsAfter (After (cuts_anew made) P) s b (λ (n : ℕ). n ≤ limit + 2)
  after_cut_anew made x = after_cut x.point x.cells made x.cuts.was (cuts_anew made) (inl refl) (inr refl) x.cuts.now (cut_move x.point x.cells made x.cuts.was x.count x.fits x.cuts.cuts)

  pub after_event : (event : SealEvent) (x : DoesSealEvent Blanks s event a b) → StandsAfter (After event P) s b (λ (n : ℕ). LimitAfter s event a b x limit n)
  after_event starts x = after_starts x
  after_event (puts_cell cell payload) x = after_puts cell payload x
  after_event (makes_anew made) x = after_anew made x
  after_event cuts_start x = after_cut_start x
  after_event (cuts_puts cell payload) x = after_cut_put cell payload x
  after_event (cuts_anew made) x = after_cut_anew made x
  after_event rests x = record {
    limit = limit;
    least = least;
    is = omega arith;
    stands = stands_off x.1 (rests_more P (After rests P) s.log limit b.flash (λ c may. (c, (may, refl))) (subst (λ (z : PartFlash). Rests P s.log limit z) (sym x.0) (off_rests P s limit a i)));
  }

-- ---- all lives

abbrev pub AfterAll : List SealEvent → (List (List ℕ) → Type 0) → List (List ℕ) → Type 0
AfterAll events P c = (old : List (List ℕ)) × (P old × PossibleSeal events old c)

-- what these events make of the limit
abbrev pub LimitsAfter : (s : SealSizes) (events : List SealEvent) (a c : SealMachine) → SealLives Blanks s events a c → ℕ → ℕ → Type 0
LimitsAfter s [] a c run old new = new ≡ old
LimitsAfter s (event ∷ events) a c run old new =
    (between : ℕ) × (LimitAfter s event a run.0 run.1.0 old between × ((s.log.cells + 2 ≤ between) × LimitsAfter s events run.0 c run.1.1 between new))

pub after_lives : (P : List (List ℕ) → Type 0) (s : SealSizes) → 2 ≤ s.log.banks → (limit : ℕ) → s.log.cells + 2 ≤ limit → (events : List SealEvent) (a b : SealMachine) → Stands P s limit a
    → (run : SealLives Blanks s events a b) → StandsAfter (AfterAll events P) s b (λ (n : ℕ). LimitsAfter s events a b run limit n)
after_lives P s two limit least [] a b i run = record {
  limit = limit;
  least = least;
  is = refl;
  stands = subst (λ (z : SealMachine). Stands (AfterAll [] P) s limit z) (sym run) (stands_more P (AfterAll [] P) s limit a (λ c may. (c, (may, refl))) i);
}
after_lives P s two limit least (event ∷ events) a b i run =
    let one = after_event P s two limit least a run.0 i event run.1.0 in
    let rest = after_lives (After event P) s two one.limit one.least events run.0 b one.stands run.1.1 in
    record {
      limit = rest.limit;
      least = rest.least;
      is = (one.limit, (one.is, (one.least, rest.is)));
      stands = stands_more (AfterAll events (After event P)) (AfterAll (event ∷ events) P) s rest.limit b (λ c x. (x.1.0.0, (x.1.0.1.0, (x.0, (x.1.0.1.1, x.1.1))))) rest.stands;
    }

-- ---- the first store

-- the deeds of a bank, while another one is written
deeds_kept : (s : LogSizes) (f h : PartFlash) (x from b g last : ℕ) (cur : LogDeed) (chain : List ℕ) → b ≢ x → LeavesBank x from f h → HasDeeds s f b g last cur chain → HasDeeds s h b g last cur chain
deeds_kept s f h x from b g last cur chain ne w i =
    let more : Extends (firm_reads f b) (firm_reads h b) = λ k l e. ap firm_line (w.banks b k Line ne) ∙ e in
    record {
      sound = record {
        erased = w.erased b ne ∙ i.sound.erased;
        inside = i.sound.inside;
        confirm = λ k far. elim (i.sound.confirm k far) [ inl is ↦ inl (w.banks b k Confirm ne ∙ is) | inr e ↦ inr (e.0, more k _ e.1) ];
        second = λ k far. elim (i.sound.second k far) [ inl is ↦ inl (w.banks b k SecondConfirm ne ∙ is) | inr e ↦ inr (e.0, more k _ e.1) ];
        lines = λ k c far below held. i.sound.lines k c far below (ap (λ (z : PartUnit). z.content) (sym (w.banks b k Line ne)) ∙ held);
      };
      followed = chain_extends s (firm_reads f b) (firm_reads h b) g more s.places (Some last) chain i.followed;
      is = more last _ i.is;
      behind = λ k far below firm. (let e = w.banks b k Line ne in e ∙ i.behind k far below (ap (λ (z : PartUnit). z.firm) (sym e) ∙ firm));
    }

zero_not_one : let z : ℕ = 0 in let o : ℕ = 1 in z ≢ o
zero_not_one e = absurd (omega (arith, e))

one_not_zero : let z : ℕ = 0 in let o : ℕ = 1 in o ≢ z
one_not_zero e = absurd (omega (arith, e))

-- the first store may be written on a part that is blank
module _ (s : SealSizes) (cells : List (List ℕ)) (f : PartFlash) (blank : (bank k : ℕ) (kind : UnitKind) → f.unit bank k kind ≡ blank_unit) (erased : f.is_erased 0 ≡ true) where
  abbrev m : ℕ
  m = s.log.cells

  abbrev writes1 : List PartWrite
  writes1 = deed_writes Blanks 0 m (seal_line 1 (deed_of None IsNew))

  abbrev writes2 : List PartWrite
  writes2 = deed_writes Blanks 0 (suc m) (seal_line 1 (deed_of (Some m) IsNew))

  abbrev writes3 : List PartWrite
  writes3 = deed_writes Blanks 0 (suc (suc m)) (seal_line 1 (deed_of (Some (suc m)) (Moves 1 2)))

  -- bank 0 is blank from this place on
  BlankFrom : ℕ → PartFlash → Type 0
  BlankFrom i g = (g.is_erased 0 ≡ true) × ((k : ℕ) (kind : UnitKind) → i ≤ k → g.unit 0 k kind ≡ blank_unit)

  here_may : (i : ℕ) (line : SealLine) (g : PartFlash) → BlankFrom i g → MayDoPartWrites Blanks (deed_writes Blanks 0 i line) g
  unfolding BlankFrom
  here_may i line g b = (let same : i ≤ i = omega arith in deed_may 0 i line g b.0 (b.1 i Line same) (b.1 i Confirm same) (b.1 i SecondConfirm same))

  blank_on : (i : ℕ) (line : SealLine) (g h : PartFlash) → BlankFrom i g → DoesPartWrites Blanks (deed_writes Blanks 0 i line) g h → BlankFrom (suc i) h
  unfolding BlankFrom
  blank_on i line g h b d = (let w = deed_done 0 i line g h d in (
    w.erased 0 ∙ b.0,
    λ k kind far. w.others 0 k kind (inr (λ e. absurd (omega (arith, e, far)))) ∙ b.1 k kind (omega (arith, far)),
  ))

  blank_still : (i : ℕ) (g h : PartFlash) → BlankFrom i g → DoesPartWrites Blanks (copy_writes 1 2 cells) g h → BlankFrom i h
  unfolding BlankFrom
  blank_still i g h b d = (let w = (copy_done 1 2 cells g h d).0 in (w.erased 0 zero_not_one ∙ b.0, λ k kind far. w.banks 0 k kind zero_not_one ∙ b.1 k kind far))

  blank_first : BlankFrom m f
  unfolding BlankFrom
  blank_first = (erased, λ k kind far. blank 0 k kind)

  pub first_may : MayDoPartWrites Blanks (first_writes Blanks m cells) f
  first_may = may_both Blanks writes1 (writes2 ++ (copy_writes 1 2 cells ++ writes3)) f (here_may m (seal_line 1 (deed_of None IsNew)) f blank_first)
      (λ g1 d1. (
      let b1 = blank_on m (seal_line 1 (deed_of None IsNew)) f g1 blank_first d1 in
      may_both Blanks writes2 (copy_writes 1 2 cells ++ writes3) g1 (here_may (suc m) (seal_line 1 (deed_of (Some m) IsNew)) g1 b1)
      (λ g2 d2. (
      let b2 = blank_on (suc m) (seal_line 1 (deed_of (Some m) IsNew)) g1 g2 b1 d2 in
      may_both Blanks (copy_writes 1 2 cells) writes3 g2 (copy_may 1 2 cells g2)
      (λ g3 d3. here_may (suc (suc m)) (seal_line 1 (deed_of (Some (suc m)) (Moves 1 2))) g3 (blank_still (suc (suc m)) g2 g3 b2 d3))))))

module _ (s : SealSizes) (cells : List (List ℕ)) (a : SealMachine) (x : FormattedSeal Blanks s cells a) where
  abbrev n : ℕ
  n = s.log.cells

  abbrev first : LogDeed
  first = deed_of None IsNew

  abbrev second : LogDeed
  second = deed_of (Some n) IsNew

  abbrev third : LogDeed
  third = deed_of (Some (suc n)) (Moves 1 2)

  sound_blank : SoundBank s.log x.before 0 1
  sound_blank = record {
    erased = x.erased 0 (let two = x.fits.two in omega (arith, two));
    inside = (let two = x.fits.two in omega (arith, two));
    confirm = λ k far. inl (x.blank 0 k Confirm);
    second = λ k far. inl (x.blank 0 k SecondConfirm);
    lines = λ k c far below held. absurd (blank_no_content (x.before.unit 0 k Line) c (x.blank 0 k Line) held);
  }

  pub first_rests : Rests (λ (c : List (List ℕ)). c ≡ cells) s.log (n + 2) a.flash
  first_rests =
      let room = x.fits.room in
      let two = x.fits.two in
      let f = x.before in
      let one = does_both Blanks (deed_writes Blanks 0 n (seal_line 1 first))
      (deed_writes Blanks 0 (suc n) (seal_line 1 second) ++ (copy_writes 1 2 cells ++ deed_writes Blanks 0 (suc (suc n)) (seal_line 1 third))) f a.flash x.writes in
      let other = does_both Blanks (deed_writes Blanks 0 (suc n) (seal_line 1 second)) (copy_writes 1 2 cells ++ deed_writes Blanks 0 (suc (suc n)) (seal_line 1 third)) one.0 a.flash one.1.1 in
      let last = does_both Blanks (copy_writes 1 2 cells) (deed_writes Blanks 0 (suc (suc n)) (seal_line 1 third)) other.0 a.flash other.1.1 in
      let g1 = one.0 in
      let g2 = other.0 in
      let g3 = last.0 in
      let free0 : FreeFrom s.log f 0 n = λ k far below. x.blank 0 k Line in
      let w1 = deed_done 0 n (seal_line 1 first) f g1 one.1.0 in
      let blank0 = x.blank 0 n Line in
      let from0 : n ≤ n = omega arith in
      let deeds1 = deeds_on s.log f g1 0 n 1 first from0 blank0 w1 [] (omega (arith, room)) free0 tt (done_firm 0 n (seal_line 1 first) f g1 one.1.0) sound_blank in
      let free1 = free_here s.log f g1 0 n 1 first from0 blank0 w1 free0 in
      let w2 = deed_done 0 (suc n) (seal_line 1 second) g1 g2 other.1.0 in
      let from1 : n ≤ suc n = omega arith in
      let blank1 = free1 (suc n) (omega arith) (omega (arith, room)) in
      let chain1 = chain_before s.log (firm_reads g1 0) 1 s.log.places (suc n) (Some n) (n ∷ []) (λ at e. (let z = same_Some _ _ e in omega (arith, z))) deeds1.followed in
      let deeds2 = deeds_on s.log g1 g2 0 (suc n) 1 second from1 blank1 w2 (n ∷ []) (omega (arith, room)) free1 chain1 (done_firm 0 (suc n) (seal_line 1 second) g1 g2 other.1.0) deeds1.sound in
      let free2 = free_here s.log g1 g2 0 (suc n) 1 second from1 blank1 w2 free1 in
      let c = copy_done 1 2 cells g2 g3 last.1.0 in
      let deeds3 = deeds_kept s.log g2 g3 1 (length cells) 0 1 (suc n) second (suc n ∷ n ∷ []) zero_not_one c.0 deeds2 in
      let free3 : FreeFrom s.log g3 0 (suc (suc n)) = λ k far below. c.0.banks 0 k Line zero_not_one ∙ free2 k far below in
      let older3 : (y : ℕ) → y ≢ 0 → OlderIn s.log g3 y 1 = λ y ne k h d far below held. elim (cases_eq y 1) [
        | inl is ↦ (let count = x.count in absurd (blank_no_content (g3.unit y k Line) _ (ap (λ (z : ℕ). g3.unit z k Line) is ∙ c.1.blank k Line (omega (arith, far, count))) held))
        | inr apart ↦ absurd (blank_no_content (g3.unit y k Line) _ (c.0.banks y k Line apart ∙ (w2.others y k Line (inl ne) ∙ (w1.others y k Line (inl ne) ∙ x.blank y k Line))) held)
      ] in
      let from3 : n ≤ suc (suc n) = omega arith in
      let below3 : suc (suc n) < s.log.places = omega (arith, room) in
      let blank3 = free3 (suc (suc n)) (omega arith) below3 in
      let w4 = deed_done 0 (suc (suc n)) (seal_line 1 third) g3 a.flash last.1.1 in
      let ready = home_ready s.log 1 2 cells g3 (omega (arith, two)) x.count c.1 in
      let chain3 = chain_before s.log (firm_reads g3 0) 1 s.log.places (suc (suc n)) (Some (suc n)) (suc n ∷ n ∷ []) (λ at e. (let z = same_Some _ _ e in omega (arith, z))) deeds3.followed in
      let m = move_on (λ (z : List (List ℕ)). z ≡ cells) s.log g3 a.flash 0 (suc (suc n)) 1 third from3 blank3 w4 below3 free3 (suc n) 1 (suc n ∷ n ∷ []) cells deeds3.sound older3 refl one_not_zero ready refl chain3
      (done_firm 0 (suc (suc n)) (seal_line 1 third) g3 a.flash last.1.1) in
      rests_at 0 1 (suc (suc n)) third (suc (suc n) ∷ suc n ∷ n ∷ []) 1 cells m.0
      (left_whole (record { free = free_here s.log g3 a.flash 0 (suc (suc n)) 1 third from3 blank3 w4 free3; closed = done_closed 0 (suc (suc n)) (seal_line 1 third) g3 a.flash last.1.1 }))
      (record { next = n; from = from0; free = m.1; room = omega arith })

  pub first_stands : Stands (λ (c : List (List ℕ)). c ≡ cells) s (n + 2) a
  first_stands = stands_off x.off first_rests

-- ---- the laws

abbrev pub Only : List (List ℕ) → List (List ℕ) → Type 0
Only cells c = c ≡ cells

module _ (s : SealSizes) (events : List SealEvent) (first cells now : List (List ℕ)) (a b : SealMachine) where
  -- from a machine that has these cells alone
  from_cells : (limit : ℕ) → s.log.cells + 2 ≤ limit → (q : SealPoint) → 2 ≤ s.log.banks → Stands (Only cells) s limit a → SealLives Blanks s events a b → b.stage ≡ seal_ready q now → PossibleSeal events cells now
  from_cells limit least q two i run is =
      let after = after_lives (Only cells) s two limit least events a b i run in
      let P : List (List ℕ) → Type 0 = AfterAll events (Only cells) in
      let may : P now = ready_may P s.log after.limit b.flash q now (ready_stands P s after.limit b q now is after.stands) in
      subst (λ (z : List (List ℕ)). PossibleSeal events z now) may.1.0 may.1.1

  pub formatted_lives : (q : SealPoint) → FormattedSeal Blanks s cells a → SealLives Blanks s events a b → b.stage ≡ seal_ready q now → PossibleSeal events cells now
  formatted_lives q x run is = from_cells (s.log.cells + 2) (omega arith) q x.fits.two (first_stands s cells a x) run is

  pub later_lives : (earlier : List SealEvent) (start : SealMachine) (p q : SealPoint) → FormattedSeal Blanks s first start → SealLives Blanks s earlier start a → a.stage ≡ seal_ready p cells
      → SealLives Blanks s events a b → b.stage ≡ seal_ready q now → PossibleSeal events cells now
  later_lives earlier start p q x before was run is =
      let i = after_lives (Only first) s x.fits.two (s.log.cells + 2) (omega arith) earlier start a (first_stands s first start x) before in
      let r = ready_stands (AfterAll earlier (Only first)) s i.limit a p cells was i.stands in
      from_cells i.limit i.least q x.fits.two (stands_ready p cells was (ready_only (AfterAll earlier (Only first)) (Only cells) s.log i.limit a.flash p cells refl r)) run is

module _ (s : SealSizes) (events : List SealEvent) (cells : List (List ℕ)) (a b : SealMachine) (x : FormattedSeal Blanks s cells a) (run : SealLives Blanks s events a b) where
  abbrev Any : List (List ℕ) → Type 0
  Any = AfterAll events (Only cells)

  pub stands_then : StandsAfter Any s b (λ (n : ℕ). LimitsAfter s events a b run (s.log.cells + 2) n)
  stands_then = after_lives (Only cells) s x.fits.two (s.log.cells + 2) (omega arith) events a b (first_stands s cells a x) run

  abbrev limit : ℕ
  limit = stands_then.limit

  ready_then : (p : SealPoint) (now : List (List ℕ)) → b.stage ≡ seal_ready p now → Ready Any s.log limit b.flash p now
  ready_then p now is = ready_stands Any s limit b p now is stands_then.stands

  pub start_finds : (end : StartEnd) (found : List (List ℕ)) (after : PartFlash) → FindsSeal Blanks s b end found after → (end ≢ NoStore) × (end ≢ Damaged)
  start_finds end found after f = finds_store Any s b.flash after f.view f.reads limit (off_rests Any s limit b stands_then.stands) end found f.finds

  pub start_may : (found : FoundStore) (now : List (List ℕ)) (after : PartFlash) → FindsSeal Blanks s b (Found found) now after → MayDoPartWrites Blanks (start_writes Blanks s found) after
  start_may found now after f = subst (λ (z : PartFlash). MayDoPartWrites Blanks (start_writes Blanks s found) z) (sym (read_leaves b.flash after f.view f.reads))
      (start_leaves Any s b.flash after f.view f.reads found now limit (off_rests Any s limit b stands_then.stands) f.finds).may

  pub put_may : (p : SealPoint) (now : List (List ℕ)) (cell : ℕ) (payload : List ℕ) → b.stage ≡ seal_ready p now → FitsPut s p → MayDoPartWrites Blanks (put_writes Blanks p cell payload) b.flash
  put_may p now cell payload is fits = ready_line_may Any s.log limit b.flash p now (seal_line p.generation (put_deed p cell payload)) (ready_then p now is) (omega (arith, fits))

  -- a store that is ready, before these cells are made of its own
  module _ (p : SealPoint) (now made : List (List ℕ)) (is : b.stage ≡ seal_ready p now) where
    abbrev Both : List (List ℕ) → Type 0
    Both c = (c ≡ now) ⊎ (c ≡ made)

    ready_both : Ready Both s.log limit b.flash p now
    ready_both = ready_only Any Both s.log limit b.flash p now (inl refl) (ready_then p now is)

    count_both : length made ≡ length now → length made ≡ s.log.cells
    count_both count = count ∙ ready_count Any s.log limit b.flash p now (ready_then p now is)

    pub moves_may : FitsMove s p → length made ≡ length now → MayDoPartWrites Blanks (move_writes Blanks s p made) b.flash
    moves_may fits count = move_may Both s x.fits.two p now made (count_both count) (inr refl) fits limit b.flash ready_both

    pub nothing_after_move : (c : SealMachine) (found : FoundStore) (after : PartFlash) (read : List (List ℕ)) → FitsMove s p → length made ≡ length now
        → DoesPartWrites Blanks (move_writes Blanks s p made) b.flash c.flash → FindsSeal Blanks s c (Found found) read after → start_writes Blanks s found ≡ []
    nothing_after_move c found after read fits count does finds =
        let w = move_whole Both s x.fits.two p now made (count_both count) (inr refl) fits limit b.flash c.flash ready_both does in
        nothing_moved Both s c.flash after finds.view finds.reads found read p.bank p.generation (p.next + p.lacking) (move_deed s p) w.chain (bank_after s.log.banks p.bank) made w.move w.whole w.apart finds.finds

  pub nothing_after_put : (p : SealPoint) (now made : List (List ℕ)) (cell : ℕ) (payload : List ℕ) (c : SealMachine) (found : FoundStore) (after : PartFlash) → b.stage ≡ seal_ready p now → FitsPut s p
      → DoesPartWrites Blanks (put_writes Blanks p cell payload) b.flash c.flash → FindsSeal Blanks s c (Found found) made after → start_writes Blanks s found ≡ []
  nothing_after_put p now made cell payload c found after is fits does finds =
      let later = set now cell payload in
      let n = next_done (Both p now later is) s.log b.flash c.flash now (Puts cell payload) tt (inr refl) limit p (ready_both p now later is) (omega (arith, fits)) does in
      nothing_written (Both p now later is) s c.flash after finds.view finds.reads found made p.bank p.generation p.next n.cur n.chain n.copy later n.bank n.whole finds.finds

-- ---- resets while a start would write nothing

module _ (s : SealSizes) (Q : PartFlash → Type 0)
    (nothing : (c : SealMachine) (found : FoundStore) (made : List (List ℕ)) (after : PartFlash) → Q c.flash → FindsSeal Blanks s c (Found found) made after → start_writes Blanks s found ≡ []) where
  pub start_still : (c d : SealMachine) → Q c.flash → StartsSeal Blanks s c d → d.flash ≡ c.flash
  start_still c d does x =
      let same : d.flash ≡ x.between = subst (λ (ws : List PartWrite). DoesPartWrites Blanks ws x.between d.flash) (nothing c x.found x.cells x.between does x.finds) x.writes in
      same ∙ read_leaves c.flash x.between x.finds.view x.finds.reads

  pub cut_still : (c d : SealMachine) → Q c.flash → CutsStartSeal Blanks s c d → d.flash ≡ c.flash
  cut_still c d does (cuts_reads view was reads off) = read_leaves c.flash d.flash view reads
  cut_still c d does (cuts_writes found made between finds cut off) =
      absurd (subst (λ (ws : List PartWrite). CutsPartWrites Blanks ws between d.flash) (nothing c found made between does finds) cut)

  resets_same : (resets : List SealEvent) (c d : SealMachine) → OnlyResets resets → Q c.flash → SealLives Blanks s resets c d → d.flash ≡ c.flash
  resets_same [] c d only does run = ap (λ (z : SealMachine). z.flash) run
  resets_same (starts ∷ resets) c d only does run = (let same = start_still c run.0 does run.1.0 in resets_same resets run.0 d only (subst Q (sym same) does) run.1.1 ∙ same)
  resets_same (cuts_start ∷ resets) c d only does run = (let same = cut_still c run.0 does run.1.0 in resets_same resets run.0 d only (subst Q (sym same) does) run.1.1 ∙ same)
  resets_same (rests ∷ resets) c d only does run = (let same = run.1.0.0 in resets_same resets run.0 d only (subst Q (sym same) does) run.1.1 ∙ same)
  resets_same (puts_cell i bytes ∷ resets) c d only does run = absurd only
  resets_same (makes_anew made ∷ resets) c d only does run = absurd only
  resets_same (cuts_puts i bytes ∷ resets) c d only does run = absurd only
  resets_same (cuts_anew made ∷ resets) c d only does run = absurd only

  pub nothing_after_resets : (resets : List SealEvent) (made : List (List ℕ)) (c d : SealMachine) (found : FoundStore) (after : PartFlash) → OnlyResets resets → Q c.flash → SealLives Blanks s resets c d
      → (d.flash ≡ c.flash) × (FindsSeal Blanks s d (Found found) made after → start_writes Blanks s found ≡ [])
  nothing_after_resets resets made c d found after only does run =
      let same = resets_same resets c d only does run in
      (same, λ finds. nothing d found made after (subst Q (sym same) does) finds)
