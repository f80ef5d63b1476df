-- What a move leaves: the deeds that open the bank, the copy in the next one, and the deed that makes it count.
use Rattle.std.proofs.Common.{◌≡◌, ◌≢◌, inl, inr, ℕ, zero, suc, ◌+◌, ◌-◌, ◌<◌, ◌≤◌, Bool, if◌then◌else◌, Option, Some, None, List, ◌∷◌, ◌++◌, length, refl, sym, ap, subst, ◌∙◌, arith}
use Rattle.std.proofs.lemmas.Bool.{cases_lt, cases_eq, lt-ltb, le-ltb}
use Rattle.seal_parts.specs.declared.PartClass.TheVariants.{Blanks}
use Rattle.seal_parts.specs.declared.UnitKind.TheVariants.{Line, Confirm, SecondConfirm}
use Rattle.seal_parts.specs.declared.LogDeed.{LogDeed}
use Rattle.seal_parts.specs.declared.DeedBody.TheVariants.{Opens, Moves}
use Rattle.seal_parts.specs.Parts.{PartUnit, PartFlash}
use Rattle.seal_parts.specs.Designs.{DoesPartWrites, CutsPartWrites, MayDoPartWrites}
use Rattle.seal_logs.specs.declared.LogSizes.{LogSizes}
use Rattle.seal_logs.specs.Reads.{IsChain}
use Rattle.seal_laws.specs.declared.SealSizes.{SealSizes}
use Rattle.seal_laws.specs.declared.SealPoint.{SealPoint}
use Rattle.seal_laws.specs.Writes.{seal_line, deed_of, deed_writes, copy_writes, opening_writes, last_after, bank_after, move_deed, move_writes, FitsMove, point_at, moved_on}
use Rattle.seal_laws.proofs.Flashes.{firm_line, firm_reads, blank_no_content, Extends, chain_extends, makes_extends, copy_extends, LeavesDeed, deed_done, deed_cut, done_firm, done_closed, LeavesBank, HasCopyAlone, copy_done, copy_cut, copy_may, does_both, cuts_both, may_both}
use Rattle.seal_laws.proofs.Sealed.{OlderIn, FreeFrom, SoundBank, HomeReady, stands_move, InBank, AtMove, free_here, before_next}
use Rattle.seal_laws.proofs.Within.{IsWholeEnd, next_within, LeftWithin, left_whole}
use Rattle.seal_laws.proofs.Writing.{Rests, rests_in, Ready, ready_in, ready_at, last_from, free_may, ready_line_may, move_on, in_bank_left, next_left, next_done}

-- ---- the next bank

pub after_apart : (banks b : ℕ) → 2 ≤ banks → b < banks → bank_after banks b ≢ b
after_apart banks b two inside is = elim (cases_lt (suc b) banks) [
  | inl less ↦ (let e : bank_after banks b ≡ suc b = ap (λ (z : Bool). if z then suc b else 0) (lt-ltb (suc b) banks less) in omega (arith, e, is))
  | inr far ↦ (let e : bank_after banks b ≡ 0 = ap (λ (z : Bool). if z then suc b else 0) (le-ltb (suc b) banks far) in omega (arith, e, is, far, two))
]

pub after_inside : (banks b : ℕ) → 2 ≤ banks → bank_after banks b < banks
after_inside banks b two = elim (cases_lt (suc b) banks) [
  | inl less ↦ (let e : bank_after banks b ≡ suc b = ap (λ (z : Bool). if z then suc b else 0) (lt-ltb (suc b) banks less) in omega (arith, e, less))
  | inr far ↦ (let e : bank_after banks b ≡ 0 = ap (λ (z : Bool). if z then suc b else 0) (le-ltb (suc b) banks far) in omega (arith, e, two))
]

pub home_ready : (s : LogSizes) (x g : ℕ) (cells : List (List ℕ)) (h : PartFlash) → x < s.banks → length cells ≡ s.cells → HasCopyAlone x g cells h → HomeReady s h x g cells
home_ready s x g cells h inside count i = record {
  sound = record {
    erased = i.erased;
    inside = inside;
    confirm = λ k far. inl (i.blank k Confirm (omega (arith, far, count)));
    second = λ k far. inl (i.blank k SecondConfirm (omega (arith, far, count)));
    lines = λ k c far below held. absurd (blank_no_content (h.unit x k Line) c (i.blank k Line (omega (arith, far, count))) held);
  };
  copied = i.copied;
  count = count;
  free = λ k far below. i.blank k Line (omega (arith, far, count));
}

-- ---- another bank is written

module _ (P : List (List ℕ) → Type 0) (s : LogSizes) (f h : PartFlash) (x from b g last : ℕ) (cur : LogDeed) (chain : List ℕ) (copy now : List (List ℕ)) (count : from ≡ s.cells) (ne : x ≢ b)
    (w : LeavesBank x from f h) (free : FreeFrom s f b (suc last)) (i : InBank P s f b g last cur chain copy now) where
  other : b ≢ x
  other e = ne (sym e)

  extends_kept : Extends (firm_reads f b) (firm_reads h b)
  extends_kept k l e = ap firm_line (w.banks b k Line other) ∙ e

  pub free_kept : FreeFrom s h b (suc last)
  free_kept k far below = w.banks b k Line other ∙ free k far below

  sound_kept : SoundBank s f b g → SoundBank s h b g
  sound_kept o = record {
    erased = w.erased b other ∙ o.erased;
    inside = o.inside;
    confirm = λ k far. elim (o.confirm k far) [ inl is ↦ inl (w.banks b k Confirm other ∙ is) | inr e ↦ inr (e.0, extends_kept k _ e.1) ];
    second = λ k far. elim (o.second k far) [ inl is ↦ inl (w.banks b k SecondConfirm other ∙ is) | inr e ↦ inr (e.0, extends_kept k _ e.1) ];
    lines = λ k c far below held. o.lines k c far below (ap (λ (z : PartUnit). z.content) (sym (w.banks b k Line other)) ∙ held);
  }

  older_kept : (y : ℕ) → OlderIn s f y g → OlderIn s h y g
  older_kept y old k j d far below held = elim (cases_eq y x) [
    | inl is ↦ old k j d far below (ap (λ (z : ℕ). (f.unit z k Line).content) is ∙ w.fewer k _ (omega (arith, far, count)) (ap (λ (z : ℕ). (h.unit z k Line).content) (sym is) ∙ held))
    | inr apart ↦ old k j d far below (ap (λ (z : PartUnit). z.content) (sym (w.banks y k Line apart)) ∙ held)
  ]

  pub in_bank_kept : InBank P s h b g last cur chain copy now
  in_bank_kept = record {
    deeds = record {
      sound = sound_kept i.deeds.sound;
      followed = chain_extends s (firm_reads f b) (firm_reads h b) g extends_kept s.places (Some last) chain i.deeds.followed;
      is = extends_kept last _ i.deeds.is;
      behind = λ k far below firm. free_kept k (omega (arith, far)) below;
    };
    cells = record {
      copied = copy_extends s (firm_reads f b) (firm_reads h b) g extends_kept copy i.cells.copied;
      count = i.cells.count;
      makes = makes_extends s (firm_reads f b) (firm_reads h b) g extends_kept chain copy now i.cells.makes;
    };
    home = i.home;
    may = i.may;
    stand = λ k d far below held. absurd (blank_no_content (h.unit b k Line) _ (free_kept k (omega (arith, far)) below) held);
    older = λ y apart. older_kept y (i.older y apart);
  }

-- ---- the deeds that open the bank

-- the bank lacks so many deeds yet
pub record Opened (P : List (List ℕ) → Type 0) (s : LogSizes) (h : PartFlash) (b g last : ℕ) (now : List (List ℕ)) (need : ℕ) : Type 0 where
  pub cur : LogDeed
  pub chain : List ℕ
  pub copy : List (List ℕ)
  pub bank : InBank P s h b g last cur chain copy now
  pub free : FreeFrom s h b (suc last)
  pub long : 2 ≤ need + length chain

module _ (P : List (List ℕ) → Type 0) (s : LogSizes) where
  opened_ready : (f : PartFlash) (b g last : ℕ) (now : List (List ℕ)) (need : ℕ) → Opened P s f b g last now need → Ready P s (suc (suc last + need)) f (point_at b g (suc last) (Some last) need) now
  opened_ready f b g last now need o = ready_in b g last o.cur o.chain o.copy need o.bank o.long o.free (next_within (suc last) o.free (omega arith)) refl

  -- one deed of them was done
  opened_next : (count : ℕ) (f g1 : PartFlash) (b g last : ℕ) (now : List (List ℕ)) → Opened P s f b g last now (suc count) → suc last < s.places
      → DoesPartWrites Blanks (deed_writes Blanks b (suc last) (seal_line g (deed_of (Some last) Opens))) f g1 → Opened P s g1 b g (suc last) now count
  opened_next count f g1 b g last now o room d =
      let n = next_done P s f g1 now Opens tt o.bank.may (suc (suc last + suc count)) (point_at b g (suc last) (Some last) (suc count)) (opened_ready f b g last now (suc count) o) room d in
      let long : 2 ≤ (suc count - 1) + length n.chain = n.long in
      record { cur = n.cur; chain = n.chain; copy = n.copy; bank = n.bank; free = n.whole.free; long = omega (arith, long) }

  pub open_in : (count : ℕ) (f h : PartFlash) (b g last : ℕ) (now : List (List ℕ)) → Opened P s f b g last now count → suc last + count ≤ s.places
      → DoesPartWrites Blanks (opening_writes Blanks b g (suc last) (Some last) count) f h → Opened P s h b g (last + count) now 0
  open_in zero f h b g last now o room d = subst (λ (z : PartFlash). Opened P s z b g (last + 0) now 0) (sym d) (subst (λ (n : ℕ). Opened P s f b g n now 0) (let e : last ≡ last + 0 = omega arith in e) o)
  open_in (suc count) f h b g last now o room d =
      let both = does_both Blanks (deed_writes Blanks b (suc last) (seal_line g (deed_of (Some last) Opens))) (opening_writes Blanks b g (suc (suc last)) (Some (suc last)) count) f h d in
      subst (λ (k : ℕ). Opened P s h b g k now 0) (let e : suc last + count ≡ last + suc count = omega arith in e)
      (open_in count both.0 h b g (suc last) now (opened_next count f both.0 b g last now o (omega (arith, room)) both.1.0) (omega (arith, room)) both.1.1)

  pub open_cut : (limit count : ℕ) (f h : PartFlash) (b g last : ℕ) (now : List (List ℕ)) → Opened P s f b g last now count → suc last + count ≤ s.places → suc last + count + 1 < limit
      → CutsPartWrites Blanks (opening_writes Blanks b g (suc last) (Some last) count) f h → Rests P s limit h
  open_cut limit zero f h b g last now o room most d = absurd d
  open_cut limit (suc count) f h b g last now o room most d =
      elim (cuts_both Blanks (deed_writes Blanks b (suc last) (seal_line g (deed_of (Some last) Opens))) (opening_writes Blanks b g (suc (suc last)) (Some (suc last)) count) f h d) [
        | inl cut ↦ next_left P s f h now Opens tt o.bank.may (suc (suc last + suc count)) limit (omega (arith, most)) (point_at b g (suc last) (Some last) (suc count)) (opened_ready f b g last now (suc count) o)
            (omega (arith, room)) (omega (arith, most)) cut
        | inr both ↦ open_cut limit count both.0 h b g (suc last) now (opened_next count f both.0 b g last now o (omega (arith, room)) both.1.0) (omega (arith, room)) (omega (arith, most)) both.1.1
      ]

  pub open_may : (count : ℕ) (f : PartFlash) (b g last : ℕ) (now : List (List ℕ)) → Opened P s f b g last now count → suc last + count ≤ s.places → MayDoPartWrites Blanks (opening_writes Blanks b g (suc last) (Some last) count) f
  open_may zero f b g last now o room = tt
  open_may (suc count) f b g last now o room =
      let d : LogDeed = deed_of (Some last) Opens in
      may_both Blanks (deed_writes Blanks b (suc last) (seal_line g d)) (opening_writes Blanks b g (suc (suc last)) (Some (suc last)) count) f
      (ready_line_may P s (suc (suc last + suc count)) f (point_at b g (suc last) (Some last) (suc count)) now (seal_line g d) (opened_ready f b g last now (suc count) o) (omega (arith, room)))
      (λ h done. open_may count h b g (suc last) now (opened_next count f h b g last now o (omega (arith, room)) done) (omega (arith, room)))

  last_is : (last count : ℕ) → last_after (suc last) (Some last) count ≡ Some (last + count)
  last_is last zero = ap (λ (n : ℕ). Some n) (let e : last ≡ last + 0 = omega arith in e)
  last_is last (suc count) = ap (λ (n : ℕ). Some n) (let e : suc last + count ≡ last + suc count = omega arith in e)

  -- the store has all the deeds that a move needs
  pub record AllOpened (h : PartFlash) (p : SealPoint) (now : List (List ℕ)) : Type 0 where
    pub last : ℕ
    pub opened : Opened P s h p.bank p.generation last now 0
    pub place : suc last ≡ p.next + p.lacking
    pub prev : Some last ≡ last_after p.next p.last p.lacking

  -- behind a copy alone the first deed was done
  first_opened : (limit : ℕ) (f g1 : PartFlash) (m g last : ℕ) (cur : LogDeed) (chain : List ℕ) (b : ℕ) (now : List (List ℕ)) → AtMove P s f m g last cur chain b now → FreeFrom s f b s.cells → LeftWithin s f limit m last
      → s.cells + 2 ≤ limit → s.cells < s.places → DoesPartWrites Blanks (deed_writes Blanks b s.cells (seal_line (suc g) (deed_of None Opens))) f g1 → Opened P s g1 b (suc g) s.cells now 1
  first_opened limit f g1 m g last cur chain b now i free left low room d =
      let n = next_done P s f g1 now Opens tt i.may limit (point_at b (suc g) s.cells None 2) (ready_at m g last cur chain b i free left low refl) room d in
      let long : 2 ≤ (2 - 1) + length n.chain = n.long in
      record { cur = n.cur; chain = n.chain; copy = n.copy; bank = n.bank; free = n.whole.free; long = omega (arith, long) }

  pub all_opened : (limit : ℕ) (f h : PartFlash) (p : SealPoint) (now : List (List ℕ)) → Ready P s limit f p now → p.next + p.lacking ≤ s.places
      → DoesPartWrites Blanks (opening_writes Blanks p.bank p.generation p.next p.last p.lacking) f h → AllOpened h p now
  all_opened limit f h p now (ready_in b g last cur chain copy lacking i enough free ends is) room d = subst (λ (z : SealPoint). AllOpened h z now) (sym is) (record {
    last = last + lacking;
    opened = open_in lacking f h b g last now (record { cur = cur; chain = chain; copy = copy; bank = i; free = free; long = enough }) (subst (λ (z : SealPoint). z.next + z.lacking ≤ s.places) is room)
        (subst (λ (z : SealPoint). DoesPartWrites Blanks (opening_writes Blanks z.bank z.generation z.next z.last z.lacking) f h) is d);
    place = omega arith;
    prev = sym (last_is last lacking);
  })
  all_opened limit f h p now (ready_at m g last cur chain b i free left low is) room d =
      let under : s.cells + 2 ≤ s.places = subst (λ (z : SealPoint). z.next + z.lacking ≤ s.places) is room in
      let here : DoesPartWrites Blanks (opening_writes Blanks b (suc g) s.cells None 2) f h = subst (λ (z : SealPoint). DoesPartWrites Blanks (opening_writes Blanks z.bank z.generation z.next z.last z.lacking) f h) is d in
      let both = does_both Blanks (deed_writes Blanks b s.cells (seal_line (suc g) (deed_of None Opens))) (opening_writes Blanks b (suc g) (suc s.cells) (Some s.cells) 1) f h here in
      subst (λ (z : SealPoint). AllOpened h z now) (sym is) (record {
        last = s.cells + 1;
        opened = open_in 1 both.0 h b (suc g) s.cells now (first_opened limit f both.0 m g last cur chain b now i free left low (omega (arith, under)) both.1.0) (omega (arith, under)) both.1.1;
        place = omega arith;
        prev = refl;
      })

  pub opening_cut : (limit more : ℕ) (far : limit ≤ more) (f h : PartFlash) (p : SealPoint) (now : List (List ℕ)) → Ready P s limit f p now → p.next + p.lacking ≤ s.places → p.next + p.lacking + 1 < more
      → CutsPartWrites Blanks (opening_writes Blanks p.bank p.generation p.next p.last p.lacking) f h → Rests P s more h
  opening_cut limit more far f h p now (ready_in b g last cur chain copy lacking i enough free ends is) room most d =
      open_cut more lacking f h b g last now (record { cur = cur; chain = chain; copy = copy; bank = i; free = free; long = enough }) (subst (λ (z : SealPoint). z.next + z.lacking ≤ s.places) is room)
      (subst (λ (z : SealPoint). z.next + z.lacking + 1 < more) is most) (subst (λ (z : SealPoint). CutsPartWrites Blanks (opening_writes Blanks z.bank z.generation z.next z.last z.lacking) f h) is d)
  opening_cut limit more far f h p now (ready_at m g last cur chain b i free left low is) room most d =
      let under : s.cells + 2 ≤ s.places = subst (λ (z : SealPoint). z.next + z.lacking ≤ s.places) is room in
      let most_here : s.cells + 2 + 1 < more = subst (λ (z : SealPoint). z.next + z.lacking + 1 < more) is most in
      let here : CutsPartWrites Blanks (opening_writes Blanks b (suc g) s.cells None 2) f h = subst (λ (z : SealPoint). CutsPartWrites Blanks (opening_writes Blanks z.bank z.generation z.next z.last z.lacking) f h) is d in
      elim (cuts_both Blanks (deed_writes Blanks b s.cells (seal_line (suc g) (deed_of None Opens))) (opening_writes Blanks b (suc g) (suc s.cells) (Some s.cells) 1) f h here) [
        | inl cut ↦ next_left P s f h now Opens tt i.may limit more far (point_at b (suc g) s.cells None 2) (ready_at m g last cur chain b i free left low refl) (omega (arith, under)) most_here cut
        | inr both ↦ open_cut more 1 both.0 h b (suc g) s.cells now (first_opened limit f both.0 m g last cur chain b now i free left low (omega (arith, under)) both.1.0) (omega (arith, under)) (omega (arith, most_here)) both.1.1
      ]

  pub opening_may : (limit : ℕ) (f : PartFlash) (p : SealPoint) (now : List (List ℕ)) → Ready P s limit f p now → p.next + p.lacking ≤ s.places
      → MayDoPartWrites Blanks (opening_writes Blanks p.bank p.generation p.next p.last p.lacking) f
  opening_may limit f p now (ready_in b g last cur chain copy lacking i enough free ends is) room =
      subst (λ (z : SealPoint). MayDoPartWrites Blanks (opening_writes Blanks z.bank z.generation z.next z.last z.lacking) f) (sym is)
      (open_may lacking f b g last now (record { cur = cur; chain = chain; copy = copy; bank = i; free = free; long = enough }) (subst (λ (z : SealPoint). z.next + z.lacking ≤ s.places) is room))
  opening_may limit f p now (ready_at m g last cur chain b i free left low is) room =
      let under : s.cells + 2 ≤ s.places = subst (λ (z : SealPoint). z.next + z.lacking ≤ s.places) is room in
      let q : SealPoint = point_at b (suc g) s.cells None 2 in
      let d : LogDeed = deed_of None Opens in
      subst (λ (z : SealPoint). MayDoPartWrites Blanks (opening_writes Blanks z.bank z.generation z.next z.last z.lacking) f) (sym is)
      (may_both Blanks (deed_writes Blanks b s.cells (seal_line (suc g) d)) (opening_writes Blanks b (suc g) (suc s.cells) (Some s.cells) 1) f
      (ready_line_may P s limit f q now (seal_line (suc g) d) (ready_at m g last cur chain b i free left low refl) (omega (arith, under)))
      (λ h done. open_may 1 h b (suc g) s.cells now (first_opened limit f h m g last cur chain b now i free left low (omega (arith, under)) done) (omega (arith, under))))

-- ---- a move

-- the log is at a move that was done: nothing stands behind it, nor behind the copy that it names
pub record MovedWhole (P : List (List ℕ) → Type 0) (s : SealSizes) (h : PartFlash) (p : SealPoint) (made : List (List ℕ)) : Type 0 where
  pub chain : List ℕ
  pub move : AtMove P s.log h p.bank p.generation (p.next + p.lacking) (move_deed s p) chain (bank_after s.log.banks p.bank) made
  pub whole : IsWholeEnd s.log h p.bank (p.next + p.lacking)
  pub apart : FreeFrom s.log h (bank_after s.log.banks p.bank) s.log.cells

module _ (P : List (List ℕ) → Type 0) (s : SealSizes) (two : 2 ≤ s.log.banks) (p : SealPoint) (now made : List (List ℕ)) (count : length made ≡ s.log.cells) (may : P made) (fits : FitsMove s p) where
  abbrev to : ℕ
  to = bank_after s.log.banks p.bank

  abbrev deed : LogDeed
  deed = move_deed s p

  -- behind the deeds that open the bank
  module _ (f g1 : PartFlash) (o : AllOpened P s.log g1 p now) where
    apart : to ≢ p.bank
    apart = after_apart s.log.banks p.bank two o.opened.bank.deeds.sound.inside

    apart_here : p.bank ≢ to
    apart_here e = apart (sym e)

    pub kept : (g2 : PartFlash) → LeavesBank to (length made) g1 g2 → InBank P s.log g2 p.bank p.generation o.last o.opened.cur o.opened.chain o.opened.copy now
    kept g2 w = in_bank_kept P s.log g1 g2 to (length made) p.bank p.generation o.last o.opened.cur o.opened.chain o.opened.copy now count apart w o.opened.free o.opened.bank

    pub kept_free : (g2 : PartFlash) → LeavesBank to (length made) g1 g2 → FreeFrom s.log g2 p.bank (suc o.last)
    kept_free g2 w = free_kept P s.log g1 g2 to (length made) p.bank p.generation o.last o.opened.cur o.opened.chain o.opened.copy now count apart w o.opened.free o.opened.bank

    -- and behind the copy: the deed stands at the next place, and follows the last one
    module _ (g2 h : PartFlash) (w : LeavesBank to (length made) g1 g2) (alone : HasCopyAlone to (suc p.generation) made g2) where
      abbrev k : ℕ
      k = p.next + p.lacking

      abbrev i : InBank P s.log g2 p.bank p.generation o.last o.opened.cur o.opened.chain o.opened.copy now
      i = kept g2 w

      abbrev free : FreeFrom s.log g2 p.bank k
      free = subst (λ (n : ℕ). FreeFrom s.log g2 p.bank n) o.place (kept_free g2 w)

      ready : HomeReady s.log g2 to (suc p.generation) made
      ready = home_ready s.log to (suc p.generation) made g2 (after_inside s.log.banks p.bank two) count alone

      abbrev behind : o.last < k
      behind = (let e = o.place in omega (arith, e))

      abbrev from : s.log.cells ≤ k
      from = (let x = last_from s.log g2 p.bank p.generation o.last o.opened.cur o.opened.chain (kept g2 w).deeds in let e = o.place in omega (arith, x, e))

      deed_is : deed ≡ deed_of (Some o.last) (Moves to (suc p.generation))
      deed_is = ap (λ (z : Option ℕ). deed_of z (Moves to (suc p.generation))) (sym o.prev)

      pub deed_left : (limit : ℕ) → suc k < limit → LeavesDeed p.bank k (seal_line p.generation deed) g2 h → Rests P s.log limit h
      deed_left limit room d = in_bank_left P s.log g2 h p.bank k p.generation deed from (free k (omega arith) fits.place) d fits.place free o.last o.opened.cur o.opened.chain o.opened.copy now i behind
          limit 0 o.opened.long (omega (arith, room)) (stands_move to made deed_is apart ready may)

      -- all of the move: nothing stands behind it, in either bank
      pub moved_whole : DoesPartWrites Blanks (deed_writes Blanks p.bank k (seal_line p.generation deed)) g2 h → MovedWhole P s h p made
      moved_whole does =
          let d = deed_done p.bank k (seal_line p.generation deed) g2 h does in
          let firm = done_firm p.bank k (seal_line p.generation deed) g2 h does in
          let e = before_next s.log g2 p.bank p.generation o.last o.opened.cur o.opened.copy now o.opened.chain (kept g2 w).deeds (kept g2 w).cells.makes k behind (Moves to (suc p.generation)) in
          let m = move_on P s.log g2 h p.bank k p.generation deed from (free k (omega arith) fits.place) d fits.place free o.last to e.ks made (kept g2 w).deeds.sound (kept g2 w).older refl apart ready may
          (subst (λ (z : LogDeed). IsChain s.log (firm_reads g2 p.bank) p.generation k z.prev e.ks) (sym deed_is) e.chain) firm in
          record {
            chain = k ∷ e.ks;
            move = m.0;
            whole = record { free = free_here s.log g2 h p.bank k p.generation deed from (free k (omega arith) fits.place) d free; closed = done_closed p.bank k (seal_line p.generation deed) g2 h does };
            apart = m.1;
          }

  module _ (limit : ℕ) where
    pub move_whole : (f h : PartFlash) → Ready P s.log limit f p now → DoesPartWrites Blanks (move_writes Blanks s p made) f h → MovedWhole P s h p made
    move_whole f h ready does =
        let a = does_both Blanks (opening_writes Blanks p.bank p.generation p.next p.last p.lacking)
        (copy_writes to (suc p.generation) made ++ deed_writes Blanks p.bank (p.next + p.lacking) (seal_line p.generation deed)) f h does in
        let b = does_both Blanks (copy_writes to (suc p.generation) made) (deed_writes Blanks p.bank (p.next + p.lacking) (seal_line p.generation deed)) a.0 h a.1.1 in
        let o = all_opened P s.log limit f a.0 p now ready (let x = fits.place in omega (arith, x)) a.1.0 in
        let c = copy_done to (suc p.generation) made a.0 b.0 b.1.0 in
        moved_whole f a.0 o b.0 h c.0 c.1 b.1.1

    -- a new bank has the copy alone
    pub move_done : (f h : PartFlash) → Ready P s.log limit f p now → DoesPartWrites Blanks (move_writes Blanks s p made) f h → Ready P s.log (s.log.cells + 2) h (moved_on s p) made
    move_done f h ready does =
        let w = move_whole f h ready does in
        ready_at p.bank p.generation (p.next + p.lacking) deed w.chain to w.move w.apart (left_whole w.whole) (omega arith) refl

    pub move_cut : (more : ℕ) → limit ≤ more → p.next + p.lacking + 1 < more → (f h : PartFlash) → Ready P s.log limit f p now → CutsPartWrites Blanks (move_writes Blanks s p made) f h → Rests P s.log more h
    move_cut more far most f h ready cuts =
        elim (cuts_both Blanks (opening_writes Blanks p.bank p.generation p.next p.last p.lacking)
        (copy_writes to (suc p.generation) made ++ deed_writes Blanks p.bank (p.next + p.lacking) (seal_line p.generation deed)) f h cuts) [
          | inl opening ↦ opening_cut P s.log limit more far f h p now ready (let x = fits.place in omega (arith, x)) most opening
          | inr a ↦ (
              let o = all_opened P s.log limit f a.0 p now ready (let x = fits.place in omega (arith, x)) a.1.0 in
              elim (cuts_both Blanks (copy_writes to (suc p.generation) made) (deed_writes Blanks p.bank (p.next + p.lacking) (seal_line p.generation deed)) a.0 h a.1.1) [
                | inl copy ↦ (
                    let w = copy_cut to (suc p.generation) made a.0 h copy in
                    rests_in p.bank p.generation o.last o.opened.cur o.opened.chain o.opened.copy now (kept f a.0 o h w) 0 o.opened.long
                    (next_within (suc o.last) (kept_free f a.0 o h w) (let x = o.place in omega (arith, x, most))))
                | inr b ↦ (
                    let c = copy_done to (suc p.generation) made a.0 b.0 b.1.0 in
                    deed_left f a.0 o b.0 h c.0 c.1 more (omega (arith, most)) (deed_cut p.bank (p.next + p.lacking) (seal_line p.generation deed) b.0 h b.1.1))
              ])
        ]

    pub move_may : (f : PartFlash) → Ready P s.log limit f p now → MayDoPartWrites Blanks (move_writes Blanks s p made) f
    move_may f ready =
        let room : p.next + p.lacking ≤ s.log.places = (let x = fits.place in omega (arith, x)) in
        may_both Blanks (opening_writes Blanks p.bank p.generation p.next p.last p.lacking) (copy_writes to (suc p.generation) made ++ deed_writes Blanks p.bank (p.next + p.lacking) (seal_line p.generation deed)) f
        (opening_may P s.log limit f p now ready room)
        (λ g1 d1. (
        let o = all_opened P s.log limit f g1 p now ready room d1 in
        may_both Blanks (copy_writes to (suc p.generation) made) (deed_writes Blanks p.bank (p.next + p.lacking) (seal_line p.generation deed)) g1 (copy_may to (suc p.generation) made g1)
        (λ g2 d2. (
        let c = copy_done to (suc p.generation) made g1 g2 d2 in
        let i = kept f g1 o g2 c.0 in
        let from = last_from s.log g2 p.bank p.generation o.last o.opened.cur o.opened.chain i.deeds in
        let e = o.place in
        free_may s.log g2 p.bank p.generation (p.next + p.lacking) i.deeds.sound (omega (arith, from, e)) (kept_free f g1 o g2 c.0 (p.next + p.lacking) (omega (arith, e)) fits.place) (seal_line p.generation deed)))))
