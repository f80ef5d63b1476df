-- What a start finds depends on the places alone that the banks have.
use Rattle.std.proofs.Common.{◌≡◌, inl, inr, ℕ, ◌+◌, ◌*◌, ◌<◌, ◌≤◌, Option, Some, None, List, [], ◌∷◌, length, refl, sym, ap, subst, ◌∙◌, arith}
use Rattle.std.proofs.lemmas.Bool.{cases_lt}
use Rattle.std.proofs.lemmas.List.{get_or_past}
use Rattle.std.proofs.Math.Nat.{mul-le-mul_right}
use Rattle.seal_parts.specs.declared.PartClass.TheVariants.{Blanks}
use Rattle.seal_parts.specs.declared.UnitKind.{UnitKind}
use Rattle.seal_parts.specs.declared.LogDeed.{LogDeed}
use Rattle.seal_parts.specs.Parts.{PartFlash, PartView, ReadsUnits, blank_unit}
use Rattle.seal_logs.specs.declared.PlaceRead.{PlaceRead}
use Rattle.seal_logs.specs.declared.LogSizes.{LogSizes}
use Rattle.seal_logs.specs.declared.finding.FoundDeed.{FoundDeed}
use Rattle.seal_logs.specs.declared.starting.FoundStore.{FoundStore}
use Rattle.seal_logs.specs.declared.starting.StartEnd.{StartEnd}
use Rattle.seal_logs.specs.declared.starting.StartEnd.TheVariants.{NoStore, Damaged, Exhausted, Found}
use Rattle.seal_logs.specs.Reads.{LogReads, no_read, reads_in, IsDeedPlace, ReadsDeed, HasDeedIn, HasNoDeedIn, HasTwoLatestIn, IsBegunPlace, EndsBefore, LacksLine, IsCopyRead, IsChain, MakesOf}
use Rattle.seal_logs.specs.Starts.{home_bank, home_generation, IsLatestDeed, HasHome, IsWholeLog, IsClean, IsStoreFound, IsLogJammed, IsLogNew, has_no_deed, is_begun, IsLogDamaged, has_two_latest, lacks_line, lacks_deed, lacks_copy, lacks_home_line, StartFinds}
use Rattle.seal_laws.specs.declared.SealSizes.{SealSizes}
use Rattle.seal_laws.specs.Writes.{reads_of}
use Rattle.seal_laws.specs.Lives.{FindsSeal, CutsStartSeal, cuts_reads}
use Rattle.seal_store.specs.Reading.{IsPlaceRead, ArePlacesRead}
use Rattle.seal_store.specs.Store.{off_at}
use Rattle.seal_store.proofs.UnitReads.{lawful, blank_place}

-- ---- one reading has the places of another

module _ (s : LogSizes) (r q : LogReads) (same : (b k : ℕ) → k < s.places → q b k ≡ r b k) where
  deed_on : (b k g : ℕ) (d : LogDeed) → k < s.places → ReadsDeed (r b k) g d → ReadsDeed (q b k) g d
  deed_on b k g d below h = subst (λ (p : PlaceRead). ReadsDeed p g d) (sym (same b k below)) h

  deed_back : (b k g : ℕ) (d : LogDeed) → k < s.places → ReadsDeed (q b k) g d → ReadsDeed (r b k) g d
  deed_back b k g d below h = subst (λ (p : PlaceRead). ReadsDeed p g d) (same b k below) h

  latest_on : (d : FoundDeed) → IsLatestDeed s r d → IsLatestDeed s q d
  latest_on d x = record {
    inside = x.inside;
    is = deed_on d.bank d.place d.generation d.deed x.inside.1.1 x.is;
    latest = λ b k g o inside h. x.latest b k g o inside (deed_back b k g o inside.1.1 h);
  }

  none_on : HasNoDeedIn (IsDeedPlace s) r → HasNoDeedIn (IsDeedPlace s) q
  none_on x b k g d inside h = x b k g d inside (deed_back b k g d inside.1.1 h)

  has_on : (b g : ℕ) → HasDeedIn (IsDeedPlace s) r b g → HasDeedIn (IsDeedPlace s) q b g
  has_on b g x = record { place = x.place; deed = x.deed; inside = x.inside; is = deed_on b x.place g x.deed x.inside.1.1 x.is }

  two_on : (g : ℕ) → HasTwoLatestIn (IsDeedPlace s) r g → HasTwoLatestIn (IsDeedPlace s) q g
  two_on g x = record {
    bank = x.bank;
    other = x.other;
    differ = x.differ;
    one = has_on x.bank g x.one;
    another = has_on x.other g x.another;
    most = λ b k h d inside is. x.most b k h d inside (deed_back b k h d inside.1.1 is);
  }

  lacks_on : (b g : ℕ) → LacksLine s (r b) g → LacksLine s (q b) g
  lacks_on b g x = record {
    place = x.place;
    from = x.from;
    below = x.below;
    confirmed = ap (λ (p : PlaceRead). p.is_confirmed) (same b x.place x.below) ∙ x.confirmed;
    lacks = λ d h. x.lacks d (deed_back b x.place g d x.below h);
  }

  ends_on : (b g next : ℕ) → EndsBefore s (r b) g next → EndsBefore s (q b) g next
  ends_on b g next x = record {
    from = x.from;
    below = x.below;
    last = λ k far is. subst (λ (p : PlaceRead). IsBegunPlace p g) (sym (same b k (let below = x.below in omega (arith, is, below)))) (x.last k far is);
    none = λ k far below h. x.none k far below (subst (λ (p : PlaceRead). IsBegunPlace p g) (same b k below) h);
  }

  copy_on : (b g : ℕ) (cells : List (List ℕ)) → length cells ≤ s.places → IsCopyRead (r b) g cells → IsCopyRead (q b) g cells
  copy_on b g cells room x i below = ap (λ (p : PlaceRead). p.line) (same b i (omega (arith, room, below))) ∙ x i below

  chain_on : (b g limit : ℕ) → limit ≤ s.places → (last : Option ℕ) (ks : List ℕ) → IsChain s (r b) g limit last ks → IsChain s (q b) g limit last ks
  chain_on b g limit room None [] h = tt
  chain_on b g limit room None (k ∷ ks) h = absurd h
  chain_on b g limit room (Some at) [] h = absurd h
  chain_on b g limit room (Some at) (k ∷ ks) h =
      let below : at < s.places = (let x = h.1.1.0 in omega (arith, x, room)) in (
        h.0,
        (
          h.1.0,
          (
            h.1.1.0,
            (
              h.1.1.1.0,
              (
                deed_on b at g h.1.1.1.0 below h.1.1.1.1.0,
                chain_on b g at (omega (arith, below)) h.1.1.1.0.prev ks h.1.1.1.1.1,
              ),
            ),
          ),
        ),
      )

  makes_on : (b g limit : ℕ) → limit ≤ s.places → (last : Option ℕ) (ks : List ℕ) (cells now : List (List ℕ)) → IsChain s (r b) g limit last ks → MakesOf (r b) g ks cells now → MakesOf (q b) g ks cells now
  makes_on b g limit room last [] cells now h m = m
  makes_on b g limit room None (k ∷ ks) cells now h m = absurd h
  makes_on b g limit room (Some at) (k ∷ ks) cells now h m =
      let is = h.0 in
      let less = h.1.1.0 in
      let below : k < s.places = omega (arith, is, less, room) in
      let there : at ≤ s.places = omega (arith, less, room) in (
        m.0,
        (
          deed_on b k g m.0 below m.1.0,
          (m.1.1.0, (makes_on b g at there h.1.1.1.0.prev ks cells m.1.1.0 h.1.1.1.1.1 m.1.1.1.0, m.1.1.1.1)),
        ),
      )

  home_on : (d : FoundDeed) (copy : List (List ℕ)) → s.cells ≤ s.places → HasHome s r d copy → HasHome s q d copy
  home_on d copy room x = record {
    inside = x.inside;
    count = x.count;
    copied = copy_on (home_bank d d.deed.body) (home_generation d d.deed.body) copy (let count = x.count in omega (arith, count, room)) x.copied;
  }

  clean_on : (d : FoundDeed) (next : ℕ) → d.place < s.places → IsClean r d next → IsClean q d next
  clean_on d next below x = (x.0, ap (λ (p : PlaceRead). p.is_closed) (same d.bank d.place below) ∙ x.1)

module _ (s : LogSizes) (r q : LogReads) (same : (b k : ℕ) → k < s.places → q b k ≡ r b k) (room : s.cells ≤ s.places) where
  back : (b k : ℕ) → k < s.places → r b k ≡ q b k
  back b k below = sym (same b k below)

  all_places : s.places ≤ s.places
  all_places = omega arith

  whole_on : (d : FoundDeed) (chain : List ℕ) (copy : List (List ℕ)) → IsWholeLog s r d chain copy → IsWholeLog s q d chain copy
  whole_on d chain copy x = record {
    latest = latest_on s r q same d x.latest;
    lines = λ l. x.lines (lacks_on s q r back d.bank d.generation l);
    followed = chain_on s r q same d.bank d.generation s.places all_places (Some d.place) chain x.followed;
    old = x.old;
    home = home_on s r q same d copy room x.home;
    home_lines = λ l. x.home_lines (lacks_on s q r back (home_bank d d.deed.body) (home_generation d d.deed.body) l);
  }

  found_on : (f : FoundStore) (cells : List (List ℕ)) → IsStoreFound s r f cells → IsStoreFound s q f cells
  found_on f cells x =
      let below = x.whole.latest.inside.1.1 in
      record {
        chain = x.chain;
        copy = x.copy;
        whole = whole_on f.latest x.chain x.copy x.whole;
        home = x.home;
        generation = x.generation;
        lacking = x.lacking;
        next = ends_on s r q same f.latest.bank f.latest.generation f.next x.next;
        home_next = ends_on s r q same f.home f.generation f.home_next x.home_next;
        clean = (λ is. clean_on s r q same f.latest f.next below (x.clean.0 is), λ is. x.clean.1 (clean_on s q r back f.latest f.next below is));
        moved = x.moved;
        stayed = λ not. makes_on s r q same f.latest.bank f.latest.generation s.places all_places (Some f.latest.place) x.chain x.copy cells x.whole.followed (x.stayed not);
        room = x.room;
        home_room = x.home_room;
      }

  jammed_on : IsLogJammed s r → IsLogJammed s q
  jammed_on x =
      let d = x.deed in
      record {
        deed = d;
        chain = x.chain;
        copy = x.copy;
        whole = whole_on d x.chain x.copy x.whole;
        full = elim x.full [
          | inl e ↦ inl (ends_on s r q same d.bank d.generation s.places e.0, λ is. e.1 (clean_on s q r back d s.places x.whole.latest.inside.1.1 is))
          | inr e ↦ inr (e.0, ends_on s r q same (home_bank d d.deed.body) (home_generation d d.deed.body) s.places e.1)
        ];
      }

  new_on : IsLogNew s r → IsLogNew s q
  new_on (has_no_deed none) = has_no_deed (none_on s r q same none)
  new_on (is_begun d chain latest lines followed new) = is_begun d chain (latest_on s r q same d latest) (λ l. lines (lacks_on s q r back d.bank d.generation l))
      (chain_on s r q same d.bank d.generation s.places all_places (Some d.place) chain followed) new

  damaged_on : IsLogDamaged s r → IsLogDamaged s q
  damaged_on (has_two_latest g two) = has_two_latest g (two_on s r q same g two)
  damaged_on (lacks_line d latest lacks) = lacks_line d (latest_on s r q same d latest) (lacks_on s r q same d.bank d.generation lacks)
  damaged_on (lacks_deed d latest none) = lacks_deed d (latest_on s r q same d latest) (λ chain h. none chain (chain_on s q r back d.bank d.generation s.places all_places (Some d.place) chain h))
  damaged_on (lacks_copy d latest old none) = lacks_copy d (latest_on s r q same d latest) old (λ copy h. none copy (home_on s q r back d copy room h))
  damaged_on (lacks_home_line d latest lacks) = lacks_home_line d (latest_on s r q same d latest) (lacks_on s r q same (home_bank d d.deed.body) (home_generation d d.deed.body) lacks)

  pub finds_on : (end : StartEnd) (cells : List (List ℕ)) → StartFinds s r end cells → StartFinds s q end cells
  finds_on NoStore cells x = new_on x
  finds_on Damaged cells x = damaged_on x
  finds_on Exhausted cells x = jammed_on x
  finds_on (Found f) cells x = found_on f cells x

-- ---- what was read of a part is lawful, of all its units

-- nothing is read of a place that isn't there
beyond_list : (s : LogSizes) (reads : List PlaceRead) (b k : ℕ) → length reads ≡ s.banks * s.places → s.banks ≤ b → reads_in s reads b k ≡ no_read
beyond_list s reads b k fits far =
    let more : s.banks * s.places ≤ b * s.places = mul-le-mul_right s.places far in
    get_or_past reads (b * s.places + k) no_read (omega (arith, fits, more))

module _ (s : LogSizes) (f : PartFlash) (reads : List PlaceRead) (fits : length reads ≡ s.banks * s.places) (behind : (b k : ℕ) (kind : UnitKind) → s.places ≤ k → f.unit b k kind ≡ blank_unit)
    (beyond : (b k : ℕ) (kind : UnitKind) → s.banks ≤ b → f.unit b k kind ≡ blank_unit) (read : ArePlacesRead s f (reads_in s reads)) where
  -- what is read of a place, or would be
  seen : (b k : ℕ) → (p : PlaceRead) × (IsPlaceRead f b k p × (k < s.places → reads_in s reads b k ≡ p))
  seen b k = elim (cases_lt b s.banks) [
    | inl inside ↦ elim (cases_lt k s.places) [
      | inl below ↦ (reads_in s reads b k, (read b k inside below, λ _. refl))
      | inr far ↦ (no_read, (blank_place f b k (λ kind. behind b k kind far), λ below. absurd (omega (arith, below, far))))
    ]
    | inr far ↦ (no_read, (blank_place f b k (λ kind. beyond b k kind far), λ _. beyond_list s reads b k fits far))
  ]

  view : PartView
  view b k kind = (seen b k).1.0.answers kind

  view_reads : ReadsUnits Blanks f view f
  unfolding view
  view_reads = record { may = λ b k kind. (seen b k).1.0.may kind; now = λ b k kind. refl; erased = λ b. refl }

  view_same : (b k : ℕ) → k < s.places → reads_of Blanks view b k ≡ reads_in s reads b k
  unfolding view
  view_same b k below = sym ((seen b k).1.1 below ∙ (seen b k).1.0.is)

  finds_seal : (sizes : SealSizes) (end : StartEnd) (cells : List (List ℕ)) → sizes.log ≡ s → s.cells ≤ s.places → StartFinds s (reads_in s reads) end cells → FindsSeal Blanks sizes (off_at f) end cells f
  finds_seal sizes end cells log room finds = record {
    was = refl;
    view = view;
    reads = view_reads;
    finds = subst (λ (z : LogSizes). StartFinds z (reads_of Blanks view) end cells) (sym log) (finds_on s (reads_in s reads) (reads_of Blanks view) view_same room end cells finds);
  }

  pub finds_then : (g : PartFlash) → g ≡ f → (sizes : SealSizes) (end : StartEnd) (cells : List (List ℕ)) → sizes.log ≡ s → s.cells ≤ s.places → StartFinds s (reads_in s reads) end cells
      → FindsSeal Blanks sizes (off_at f) end cells g
  finds_then g same sizes end cells log room finds = subst (λ (z : PartFlash). FindsSeal Blanks sizes (off_at f) end cells z) (sym same) (finds_seal sizes end cells log room finds)

-- some reading is lawful of each part
pub any_view : (f : PartFlash) → (view : PartView) × ReadsUnits Blanks f view f
any_view f = (
  λ b k kind. (lawful (f.is_erased b) (f.unit b k kind)).0,
  record { may = λ b k kind. (lawful (f.is_erased b) (f.unit b k kind)).1; now = λ b k kind. refl; erased = λ b. refl },
)

-- a start that was cut while it read
pub reads_cut : (f g : PartFlash) → g ≡ f → (s : SealSizes) → CutsStartSeal Blanks s (off_at f) (off_at g)
reads_cut f g same s = (let v = any_view f in cuts_reads v.0 refl (subst (λ (z : PartFlash). ReadsUnits Blanks f v.0 z) (sym same) v.1) refl)
