-- What a put into a free place makes of the bytes of a log store.
use Rattle.std.proofs.Common.{◌≡◌, ℕ, suc, ◌+◌, ◌<◌, ◌≤◌, inl, inr, true, false, Option, Some, List, ◌∷◌, ◌++◌, length, set, refl, sym, ap, subst, ◌∙◌, arith, length-drop}
use Rattle.std.proofs.lemmas.List.{length-set}
use Rattle.std.proofs.lemmas.Bool.{cases_eq}
use Rattle.cut_disk.specs.State.{Told}
use Rattle.cut_disk.specs.Images.{splice, firm}
use Rattle.cut_disk.specs.Lasting.{Lasts}
use Rattle.basics.specs.Numbers.{bytes_of}
use Rattle.cell_store.specs.declared.kinds.Kind.TheVariants.{Log}
use Rattle.cell_store.specs.declared.kinds.Version.{Version}
use Rattle.cell_store.specs.declared.copies.Side.{Side}
use Rattle.cell_store.specs.declared.banks.Bank.{Bank}
use Rattle.cell_store.specs.Layout.{part, SameOutside, base, from_base, log_layout}
use Rattle.cell_store.specs.Twin.{is_live, mark}
use Rattle.cell_store.specs.Copies.{other}
use Rattle.cell_store.specs.Log.{log_size, BankCounts, place_at, place, number, content, listed, Places, live_record}
use Rattle.cell_store.specs.Store.{FewCells, HoldsCells, Stands, LogPut}
use Rattle.cell_store.specs.LogKept.{HoldsInBank, KeepsLog, PutsLog, LogStandsForEither, LeavesEither, LogBesides}
use Rattle.cell_store.specs.Writing.{Unfinished, LeavesUnfinished, LeavesOutside}
use Rattle.cell_store.proofs.LayoutLaws.{part-splice, part-drop, SameOutside-splice, SameOutside-drop, SameOutside-widen}
use Rattle.cell_store.proofs.LogLaws.{bank_bounds, header-kept, heads-kept, places-kept, list-kept, number-live, content-live, length-live_record, long-rest}
use Rattle.cell_store.proofs.GateLaws.{is_live-wide, gated-lasts, gated-leaves}

-- one more place is used
abbrev pub more_used : Bank → Bank
more_used bank = record { side = bank.side; mark = bank.mark; used = bank.used + 1; spare_is_live = bank.spare_is_live }

log-holds : (store : List ℕ) (cells : List (List ℕ)) (side : Side) (used : ℕ) → BankCounts (length cells) side store → Places (length cells) side store used → listed (length cells) side store used ≡ cells → HoldsCells Log store cells
unfolding HoldsCells
log-holds store cells side used counting places list = record { side = side; counting = counting; used = used; places = places; list = list }

pub log-stands : (version : Version) (n : ℕ) (x : List ℕ) (cells : List (List ℕ)) (side : Side) (used : ℕ) → FewCells n → HoldsInBank version n (from_base version x) cells side used → Stands (log_layout version) x cells
log-stands version n x cells side used few holds =
    let h : HoldsInBank version (length cells) (from_base version x) cells side used = subst (λ m. HoldsInBank version m (from_base version x) cells side used) (sym holds.count) holds in
    record {
      few = subst (λ m. FewCells m) (sym holds.count) few;
      room = (let r = h.room in omega (arith, length-drop (base version) x));
      head = h.head;
      holds = log-holds (from_base version x) cells side used h.counting h.places h.list;
    }

-- a write within the bytes of a store
pub within-besides : (version : Version) (n at k : ℕ) (old new : Option Told) → 32 ≤ at → at + k ≤ log_size n → LeavesOutside (base version + at) k old new → LogBesides version n old new
within-besides version n at k old new from to outside b was t told x image =
    SameOutside-widen (base version + at) k (base version) (log_size n) b x (omega arith) (omega arith) (outside b was t told x image)

is_live-record : (i : ℕ) (c : List ℕ) → is_live (live_record i c) ≡ true
unfolding is_live
is_live-record i c = refl

-- the first free place has changed, and nothing else
module _ (version : Version) (n : ℕ) (x y : List ℕ) (cells : List (List ℕ)) (side : Side) (used : ℕ) (h : HoldsInBank version n x cells side used) (free : used < 64) (s : SameOutside (place_at n side used) 35 x y) where
  room : log_size n ≤ length y
  room = let e = s.lengths in let r = h.room in omega arith

  counting : BankCounts n side y
  counting = rw (heads-kept n side used x y free s side, heads-kept n side used x y free s (other side)) h.counting

  -- it isn't live: nothing is put
  pub holds-old : is_live (place n side y used) ≡ false → HoldsInBank version n y cells side used
  holds-old closed = record {
    count = h.count;
    room = room;
    head = header-kept n side used x y free s ∙ h.head;
    counting = counting;
    places = record {
      most = h.places.most;
      live = λ p l. rw (places-kept n side used x y free s p (λ e. omega arith)) (h.places.live p l);
      below = λ p l. rw (places-kept n side used x y free s p (λ e. omega arith)) (h.places.below p l);
      free = λ p l m. elim (cases_eq p used) [
        | inl e ↦ subst (λ q. is_live (place n side y q) ≡ false) (sym e) closed
        | inr ne ↦ rw (places-kept n side used x y free s p ne) (h.places.free p l m)
      ];
    };
    list = list-kept n side used x y free s ∙ h.list;
  }

  -- it is a live record: that is put
  pub holds-new : (i : ℕ) (c : List ℕ) → n ≤ 1024 → i < n → place n side y used ≡ live_record i c → HoldsInBank version n y (set cells i c) side (suc used)
  holds-new i c few below is = record {
    count = length-set cells i c ∙ h.count;
    room = room;
    head = header-kept n side used x y free s ∙ h.head;
    counting = counting;
    places = record {
      most = omega arith;
      live = λ p l. elim (cases_eq p used) [
        | inl e ↦ subst (λ q. is_live (place n side y q) ≡ true) (sym e) (rw is (is_live-record i c))
        | inr ne ↦ rw (places-kept n side used x y free s p ne) (h.places.live p (omega arith))
      ];
      below = λ p l. elim (cases_eq p used) [
        | inl e ↦ subst (λ q. number (place n side y q) < n) (sym e) (subst (λ (r : List ℕ). number r < n) (sym is) (subst (λ m. m < n) (sym (number-live i c (omega arith))) below))
        | inr ne ↦ rw (places-kept n side used x y free s p ne) (h.places.below p (omega arith))
      ];
      free = λ p l m. rw (places-kept n side used x y free s p (λ e. omega arith)) (h.places.free p (omega arith) m);
    };
    list =
        let e : listed n side y used ≡ cells = list-kept n side used x y free s ∙ h.list in
        ap (λ (r : List ℕ). set (listed n side y used) (number r) (content r)) is
        ∙ (ap (λ (d : List ℕ). set (listed n side y used) (number (live_record i c)) d) (content-live i c) ∙ ap (λ m. set (listed n side y used) m c) (number-live i c (omega arith)) ∙ ap (λ (l : List (List ℕ)). set l i c) e);
  }

-- a put into the first free place
module _ (version : Version) (n : ℕ) (x : List ℕ) (cells : List (List ℕ)) (bank : Bank) (i : ℕ) (c : List ℕ) (few : FewCells n) (k : KeepsLog version n x cells bank) (free : bank.used < 64) (below : i < n) where
  abbrev pub at : ℕ
  at = place_at n bank.side bank.used

  inside : base version + (at + 35) ≤ length x
  inside =
      let b = bank_bounds n bank.side in
      let r = k.holds.room in
      let e = length-drop (base version) x in
      omega arith

  -- at each moment before its end
  pub append-either : (y : List ℕ) → Unfinished 34 (base version + at) (live_record i c) x y → LogStandsForEither version i c cells y
  append-either y u =
      let s : SameOutside at 35 (from_base version x) (from_base version y) = SameOutside-drop (base version) at 35 x y u.same in
      let e : length y ≡ length x = u.same.lengths in
      let now : place n bank.side (from_base version y) bank.used ≡ part (base version + at) 35 y = part-drop (base version) at 35 y (let z = inside in omega arith) in
      let was : place n bank.side (from_base version x) bank.used ≡ part (base version + at) 35 x = part-drop (base version) at 35 x (let z = inside in omega arith) in
      elim u.spare [
        | inl closed ↦ inl (log-stands version n y cells bank.side bank.used few (holds-old version n _ _ cells bank.side bank.used k.holds free s (rw now closed)))
        | inr rest ↦ elim rest [
          | inl same ↦ inl (log-stands version n y cells bank.side bank.used few (holds-old version n _ _ cells bank.side bank.used k.holds free s (rw (now, same, ← was) (k.holds.places.free bank.used (omega arith) free))))
          | inr new ↦ inr (log-stands version n y (set cells i c) bank.side (suc bank.used) few (holds-new version n _ _ cells bank.side bank.used k.holds free s i c (let f = few in omega arith) below (now ∙ new)))
        ]
      ]

  -- at its end
  module _ (sized : length c ≡ 32) where
    long : length (live_record i c) ≡ 35
    long = length-live_record i c ∙ ap (λ m. 3 + m) sized

    fits : base version + at + length (live_record i c) ≤ length x
    fits = let z = inside in omega (arith, long)

    whole : SameOutside (base version + at) 35 x (splice (base version + at) (live_record i c) x)
    whole = subst (λ m. SameOutside (base version + at) m x (splice (base version + at) (live_record i c) x)) long (SameOutside-splice (base version + at) (live_record i c) x fits)

    behind : SameOutside at 35 (from_base version x) (from_base version (splice (base version + at) (live_record i c) x))
    behind = SameOutside-drop (base version) at 35 x _ whole

    pub append-keeps : KeepsLog version n (splice (base version + at) (live_record i c) x) (set cells i c) (more_used bank)
    append-keeps = record {
      holds =
          let now : place n bank.side (from_base version (splice (base version + at) (live_record i c) x)) bank.used ≡ live_record i c =
          part-drop (base version) at 35 (splice (base version + at) (live_record i c) x) (let z = inside in let e = whole.lengths in omega arith) ∙ part-splice (base version + at) 35 (live_record i c) x (sym long) fits in
          subst (λ u. HoldsInBank version n (from_base version (splice (base version + at) (live_record i c) x)) (set cells i c) bank.side u) (let e : suc bank.used ≡ bank.used + 1 = omega arith in e)
          (holds-new version n _ _ cells bank.side bank.used k.holds free behind i c (let f = few in omega arith) below now);
      marked = ap mark (heads-kept n bank.side bank.used _ _ free behind bank.side) ∙ k.marked;
      spare = ap is_live (heads-kept n bank.side bank.used _ _ free behind (other bank.side)) ∙ k.spare;
    }

    pub append-put : LogPut version x i c (splice (base version + at) (live_record i c) x)
    append-put = record {
      count = n;
      few = few;
      head = k.holds.head;
      side = bank.side;
      counting = k.holds.counting;
      used = bank.used;
      places = k.holds.places;
      appended = λ _. refl;
      refilled = λ full. absurd (omega arith);
    }

-- The same, as the code has it: the place and the bytes under names of their own.
module _ (version : Version) (n : ℕ) (cells : List (List ℕ)) (bank : Bank) (i : ℕ) (c : List ℕ) (old new : Option Told) (few : FewCells n) (free : bank.used < 64) (below : i < n) (at' : ℕ) (place-is : at' ≡ base version + place_at n bank.side bank.used) (rest : List ℕ) (rest-is : rest ≡ bytes_of 2 i ++ c) (sized : length c ≡ 32) (keeps : (t : Told) → old ≡ Some t → KeepsLog version n t.bytes cells bank) where
  pub append-gate : (t : Told) → old ≡ Some t → is_live (part at' 1 t.bytes) ≡ false
  append-gate t told =
      let k = keeps t told in
      let z = inside version n t.bytes cells bank i c few k free below in
      let e : place n bank.side (from_base version t.bytes) bank.used ≡ part (base version + place_at n bank.side bank.used) 35 t.bytes = part-drop (base version) (place_at n bank.side bank.used) 35 t.bytes (omega arith) in
      let f : is_live (part (base version + place_at n bank.side bank.used) 35 t.bytes) ≡ false = rw (← e) (k.holds.places.free bank.used (omega arith) free) in
      subst (λ a. is_live (part a 1 t.bytes) ≡ false) (sym place-is) (sym (is_live-wide 34 (base version + place_at n bank.side bank.used) t.bytes) ∙ f)

  pub append-images : LeavesUnfinished (length rest) at' (167 ∷ rest) old new → LeavesEither version i c cells old new
  append-images l x told t is y image =
      let k = keeps (firm x) told in
      let l' : LeavesUnfinished 34 at' (live_record i c) old new = gated-leaves 34 at' rest (bytes_of 2 i ++ c) old new rest-is (long-rest i c ∙ ap (λ m. 2 + m) sized) l in
      let l'' : LeavesUnfinished 34 (base version + place_at n bank.side bank.used) (live_record i c) old new = subst (λ a. LeavesUnfinished 34 a (live_record i c) old new) place-is l' in
      append-either version n x cells bank i c few k free below y (l'' x told t is y image)

  pub append-done : Lasts at' (167 ∷ rest) old new → PutsLog version n i c cells (more_used bank) old new
  append-done l t told =
      let k = keeps t told in
      let l' : Lasts at' (live_record i c) old new = gated-lasts at' rest (bytes_of 2 i ++ c) old new rest-is l in
      let l'' : Lasts (base version + place_at n bank.side bank.used) (live_record i c) old new = subst (λ a. Lasts a (live_record i c) old new) place-is l' in
      record {
        bytes = splice (base version + place_at n bank.side bank.used) (live_record i c) t.bytes;
        told = l'' t told;
        keeps = append-keeps version n t.bytes cells bank i c few k free below sized;
        put = append-put version n t.bytes cells bank i c few k free below sized;
      }

-- it stays within the store
pub append-besides : (version : Version) (n : ℕ) (side : Side) (used at' : ℕ) (rest : List ℕ) (old new : Option Told) → at' ≡ base version + place_at n side used → length rest ≡ 34 → used < 64 → LeavesOutside at' (1 + length rest) old new → LogBesides version n old new
append-besides version n side used at' rest old new place-is long free outside =
    let b = bank_bounds n side in
    let e : 1 + length rest ≡ 35 = omega (arith, long) in
    within-besides version n (place_at n side used) 35 old new (omega arith) (omega arith) (subst (λ k. LeavesOutside (base version + place_at n side used) k old new) e (subst (λ a. LeavesOutside a (1 + length rest) old new) place-is outside))
