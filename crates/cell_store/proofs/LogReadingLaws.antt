-- Laws of reading a log store.
use Rattle.std.proofs.Common.{◌≡◌, ℕ, zero, suc, ◌+◌, ◌<◌, ◌≤◌, ◌⊎◌, min, inl, inr, true, false, Option, Some, None, List, [], ◌∷◌, length, get_or, set, refl, sym, ap, subst, ◌∙◌, arith}
use Rattle.std.proofs.lemmas.List.{ext_get_or, get_or-set_same, get_or-set_other, length-set}
use Rattle.std.proofs.lemmas.List.FromFn.{get_or-map-range_with_len, length-map-range_with_len}
use Rattle.std.proofs.lemmas.Bool.{false≢true, cases_Bool, cases_eq, cases_lt, cond-true, cond-false}
use Rattle.std.proofs.lemmas.Option.{same_Some, none-some}
use Rattle.cut_disk.specs.State.{Told, DiskState}
use Rattle.cut_disk.specs.Images.{ReadsAs}
use Rattle.cell_store.specs.declared.kinds.Version.{Version}
use Rattle.cell_store.specs.declared.copies.Side.{Side}
use Rattle.cell_store.specs.declared.copies.Side.TheVariants.{First, Second}
use Rattle.cell_store.specs.declared.banks.Bank.{Bank}
use Rattle.cell_store.specs.declared.faults.Reread.{Reread}
use Rattle.cell_store.specs.declared.faults.Reread.TheVariants as reread
use Rattle.cell_store.specs.Layout.{part, base, from_base, log_layout}
use Rattle.cell_store.specs.Twin.{is_live, counts}
use Rattle.cell_store.specs.Log.{log_size, bank_head, bank_cell, bank_cells, BankCounts, place, number, content, listed, Places, FirstPlaceDamaged, LogDamaged}
use Rattle.cell_store.specs.Store.{HasHeader, IsDamaged, FirstDamaged}
use Rattle.cell_store.specs.Reading.{ReadOnly, Leaves, Finds}
use Rattle.cell_store.specs.LogKept.{KeepsLog}
use Rattle.cell_store.specs.LogReading.{ToldLog, bank_of, BankRead, NoBank, CellsSoFar, PlacesSoFar, BankFault, PlacesFault, CountingFault}
use Rattle.cell_store.specs.ReadOrder.{bank_reads_to, log_reads, log_reads_to}
use Rattle.cell_store.proofs.ReadingLaws.{reads_none, reads_join, reads_more, failed_more, failed_after, read-part}

-- what was read at a place that counts from the base
pub told-part : (told : Option Told) (version : Version) (address at n : ℕ) (bytes : List ℕ) → ReadsAs told address bytes → address ≡ base version + at → length bytes ≡ n → ToldLog version told (λ x. bytes ≡ part at n x)
told-part told version address at n bytes reads place sized t h = read-part told address (base version) at n bytes reads place sized t h

-- the bank that counts
pub bank-read : (n : ℕ) (x : List ℕ) (bank : Bank) → Some bank ≡ bank_of (bank_head n First x) (bank_head n Second x) → BankRead n bank x
bank-read n x bank e = elim (cases_Bool (counts (bank_head n First x) (bank_head n Second x))) [
  | inl this ↦ subst (λ (b : Bank). BankRead n b x) (same_Some _ _ (sym (e ∙ cond-true _ _ _ this))) (record { counting = this; marked = refl; spare = refl })
  | inr not ↦ elim (cases_Bool (counts (bank_head n Second x) (bank_head n First x))) [
    | inl this ↦ subst (λ (b : Bank). BankRead n b x) (same_Some _ _ (sym (e ∙ (cond-false _ _ _ not ∙ cond-true _ _ _ this)))) (record { counting = this; marked = refl; spare = refl })
    | inr neither ↦ absurd (none-some bank (sym (e ∙ (cond-false _ _ _ not ∙ cond-false _ _ _ neither))))
  ]
]

pub no-bank : (n : ℕ) (x : List ℕ) → None ≡ bank_of (bank_head n First x) (bank_head n Second x) → NoBank n x
no-bank n x e First h = none-some _ (e ∙ cond-true _ _ _ h)
no-bank n x e Second h = elim (cases_Bool (counts (bank_head n First x) (bank_head n Second x))) [
  | inl this ↦ none-some _ (e ∙ cond-true _ _ _ this)
  | inr not ↦ none-some _ (e ∙ (cond-false _ _ _ not ∙ cond-true _ _ _ h))
]

-- one more cell is read
pub cells-more : (n : ℕ) (side : Side) (i : ℕ) (cells : List (List ℕ)) (x : List ℕ) (c : List ℕ) → CellsSoFar n side i cells x → i < length cells → c ≡ bank_cell n side x i → CellsSoFar n side (i + 1) (set cells i c) x
cells-more n side i cells x c so below is = record {
  each = λ j l. elim (cases_eq j i) [
    | inl e ↦ subst (λ m. get_or (set cells i c) m [] ≡ bank_cell n side x m) (sym e) (get_or-set_same cells i c [] below ∙ is)
    | inr ne ↦ get_or-set_other cells i j c [] ne ∙ so.each j (omega arith)
  ];
}

-- all cells are read, and no place
pub places-none : (n : ℕ) (side : Side) (cells : List (List ℕ)) (x : List ℕ) → length cells ≡ n → CellsSoFar n side n cells x → PlacesSoFar n side 0 0 cells x
places-none n side cells x e so = record {
  most = omega arith;
  live = λ q l. absurd (omega arith);
  below = λ q l. absurd (omega arith);
  free = λ q l m. absurd (omega arith);
  list = ext_get_or [] (bank_cells n side x) cells (length-map-range_with_len (bank_cell n side x) 0 n ∙ sym e) (λ i l.
      let small : i < n = omega (arith, length-map-range_with_len (bank_cell n side x) 0 n) in
      get_or-map-range_with_len (bank_cell n side x) 0 n i i [] small (omega arith) ∙ sym (so.each i small));
}

module _ (n : ℕ) (side : Side) (p used : ℕ) (cells : List (List ℕ)) (x : List ℕ) (so : PlacesSoFar n side p used cells x) where
  -- one more place is closed
  pub places-closed : is_live (place n side x p) ≡ false → PlacesSoFar n side (p + 1) used cells x
  places-closed closed = record {
    most = (let m = so.most in omega arith);
    live = so.live;
    below = so.below;
    free = λ q l m. elim (cases_eq q p) [
      | inl e ↦ subst (λ k. is_live (place n side x k) ≡ false) (sym e) closed
      | inr ne ↦ so.free q l (omega arith)
    ];
    list = so.list;
  }

  -- one more place is live
  pub places-live : used ≡ p → is_live (place n side x p) ≡ true → number (place n side x p) < n → PlacesSoFar n side (p + 1) (p + 1) (set cells (number (place n side x p)) (content (place n side x p))) x
  places-live is live small = record {
    most = omega arith;
    live = λ q l. elim (cases_eq q p) [
      | inl e ↦ subst (λ k. is_live (place n side x k) ≡ true) (sym e) live
      | inr ne ↦ so.live q (omega arith)
    ];
    below = λ q l. elim (cases_eq q p) [
      | inl e ↦ subst (λ k. number (place n side x k) < n) (sym e) small
      | inr ne ↦ so.below q (omega arith)
    ];
    free = λ q l m. absurd (omega arith);
    list =
        let e : p + 1 ≡ suc p = omega arith in
        let f : listed n side x p ≡ cells = ap (listed n side x) (sym is) ∙ so.list in
        ap (listed n side x) e ∙ ap (λ (l : List (List ℕ)). set l (number (place n side x p)) (content (place n side x p))) f;
  }

  -- it is damaged
  pub place-wrong : BankCounts n side x → p < 64 → is_live (place n side x p) ≡ true → (used < p) ⊎ (n ≤ number (place n side x p)) → FirstPlaceDamaged x n p
  place-wrong counting below live wrong = record {
    side = side;
    counting = counting;
    below = below;
    damaged = record {
      live = live;
      wrong = elim wrong [ inl l ↦ inr (record { place = used; before = l; closed = so.free used (omega arith) l }) | inr l ↦ inl l ];
    };
    before = λ q l d. elim (cases_lt q used) [
      | inl u ↦ (let z = so.below q u in elim d.wrong [
        | inl w ↦ omega arith
        | inr w ↦ (let y = w.before in false≢true (sym w.closed ∙ so.live w.place (omega arith)))
      ])
      | inr a ↦ false≢true (sym (so.free q a l) ∙ d.live)
    ];
  }

-- all places are read
pub places-all : (n : ℕ) (side : Side) (used : ℕ) (cells : List (List ℕ)) (x : List ℕ) → PlacesSoFar n side 64 used cells x → Places n side x used
places-all n side used cells x so = record { most = so.most; live = so.live; below = so.below; free = so.free }

-- the first i cells of a bank are read, in as many calls
pub record ReadCellsSoFar (version : Version) (n : ℕ) (side : Side) (i : ℕ) (cells : List (List ℕ)) (start now : DiskState) : Type 0 where
  pub as_before : ReadOnly i start now
  pub each : ToldLog version start.told (CellsSoFar n side i cells)

-- the first p places of a bank are read, in as many calls
pub record ReadPlacesSoFar (version : Version) (n : ℕ) (side : Side) (p used : ℕ) (cells : List (List ℕ)) (start now : DiskState) : Type 0 where
  pub as_before : ReadOnly p start now
  pub count : length cells ≡ n
  pub few : used ≤ p
  pub each : ToldLog version start.told (PlacesSoFar n side p used cells)

module _ (version : Version) (n : ℕ) (side : Side) (i : ℕ) (cells : List (List ℕ)) (start now new : DiskState) (so : ReadCellsSoFar version n side i cells start now) where
  pub read-cells-more : (c : List ℕ) → ReadOnly 1 now new → ToldLog version now.told (λ x. c ≡ bank_cell n side x i) → i < length cells → ReadCellsSoFar version n side (i + 1) (set cells i c) start new
  read-cells-more c one is below = record {
    as_before = reads_join so.as_before one;
    each = λ t h. cells-more n side i cells (from_base version t.bytes) c (so.each t h) below (is t (so.as_before.told ∙ h));
  }

pub read-cells-none : (version : Version) (n : ℕ) (side : Side) (cells : List (List ℕ)) (s : DiskState) → ReadCellsSoFar version n side 0 cells s s
read-cells-none version n side cells s = record { as_before = reads_none s; each = λ t h. record { each = λ j l. absurd (omega arith) } }

module _ (version : Version) (n : ℕ) (side : Side) (p used : ℕ) (cells : List (List ℕ)) (start now new : DiskState) (so : ReadPlacesSoFar version n side p used cells start now) (bytes : List ℕ) (one : ReadOnly 1 now new) (is : ToldLog version now.told (λ x. bytes ≡ place n side x p)) where
  pub read-places-closed : is_live bytes ≡ false → ReadPlacesSoFar version n side (p + 1) used cells start new
  read-places-closed closed = record {
    as_before = reads_join so.as_before one;
    count = so.count;
    few = (let f = so.few in omega arith);
    each = λ t h. let e = is t (so.as_before.told ∙ h) in places-closed n side p used cells (from_base version t.bytes) (so.each t h) (ap is_live (sym e) ∙ closed);
  }

  pub read-places-live : is_live bytes ≡ true → used ≡ p → number bytes < n → ReadPlacesSoFar version n side (p + 1) (p + 1) (set cells (number bytes) (content bytes)) start new
  read-places-live live same small = record {
    as_before = reads_join so.as_before one;
    count = length-set cells (number bytes) (content bytes) ∙ so.count;
    few = omega arith;
    each = λ t h.
        let e = is t (so.as_before.told ∙ h) in
        subst (λ (b : List ℕ). PlacesSoFar n side (p + 1) (p + 1) (set cells (number b) (content b)) (from_base version t.bytes)) (sym e)
        (places-live n side p used cells (from_base version t.bytes) (so.each t h) same (ap is_live (sym e) ∙ live) (subst (λ (b : List ℕ). number b < n) e small));
  }

  pub read-places-wrong : ToldLog version start.told (BankCounts n side) → p < 64 → is_live bytes ≡ true → (used < p) ⊎ (n ≤ number bytes) → (1 ≤ p + 1) × ReadOnly (min 64 (p + 1)) start new × ToldLog version start.told (λ x. LogDamaged x n (p + 1))
  read-places-wrong counting below live wrong = (
    omega arith,
    reads_more (min 64 (p + 1)) (omega arith) (reads_join so.as_before one),
    λ t h.
        let e = is t (so.as_before.told ∙ h) in
        let f : p + 1 ≡ suc p = omega arith in
        subst (λ k. LogDamaged (from_base version t.bytes) n k) (sym f)
        (place-wrong n side p used cells (from_base version t.bytes) (so.each t h) (counting t h) below (ap is_live (sym e) ∙ live) (subst (λ (b : List ℕ). (used < p) ⊎ (n ≤ number b)) e wrong)),
  )

-- by the gates and marks that were read
module _ (version : Version) (n : ℕ) (told now : Option Told) (first second : List ℕ) where
  pub told-bank : (bank : Bank) → now ≡ told → ToldLog version told (λ x. first ≡ bank_head n First x) → ToldLog version now (λ x. second ≡ bank_head n Second x) → Some bank ≡ bank_of first second → ToldLog version told (BankRead n bank)
  told-bank bank same one two is t h =
      bank-read n (from_base version t.bytes) bank (is ∙ (ap (λ a. bank_of a second) (one t h) ∙ ap (bank_of (bank_head n First (from_base version t.bytes))) (two t (same ∙ h))))

  pub told-no-bank : now ≡ told → ToldLog version told (λ x. first ≡ bank_head n First x) → ToldLog version now (λ x. second ≡ bank_head n Second x) → None ≡ bank_of first second → ToldLog version told (NoBank n)
  told-no-bank same one two is t h =
      no-bank n (from_base version t.bytes) (is ∙ (ap (λ a. bank_of a second) (one t h) ∙ ap (bank_of (bank_head n First (from_base version t.bytes))) (two t (same ∙ h))))

pub read-places-none : (version : Version) (n : ℕ) (side : Side) (cells : List (List ℕ)) (s : DiskState) → length cells ≡ n → ToldLog version s.told (CellsSoFar n side n cells) → ReadPlacesSoFar version n side 0 0 cells s s
read-places-none version n side cells s e read = record {
  as_before = reads_none s;
  count = e;
  few = omega arith;
  each = λ t h. places-none n side cells (from_base version t.bytes) e (read t h);
}

-- how many reads were made up to a damage
reads-to-zero : (n i : ℕ) → i ≡ 0 → bank_reads_to n i ≡ 2
reads-to-zero n i e = ap (bank_reads_to n) e

reads-to-more : (n i : ℕ) → 1 ≤ i → bank_reads_to n i ≡ 2 + n + i
reads-to-more n zero some = absurd (omega arith)
reads-to-more n (suc p) some = refl

-- the bank that counts is read, in two stretches
bank-fault : (version : Version) (n : ℕ) (old new : DiskState) (fault : Reread) → BankFault version n old new fault → CountingFault version n old new fault
bank-fault version n old new reread.DiskFailed f = failed_more (66 + n) (omega arith) f
bank-fault version n old new reread.NotFormatted f = absurd f
bank-fault version n old new (reread.Damaged i) f = (reads_more (min (66 + n) (bank_reads_to n i)) (let e = reads-to-zero n i f.0 in omega arith) f.1, λ t h. subst (λ k. LogDamaged (from_base version t.bytes) n k) (sym f.0) (f.2 t h))

pub bank-fault-is : (version : Version) (n : ℕ) (old new : DiskState) (fault : Reread) → BankFault version n old new fault → CountingFault version n old new fault
bank-fault-is version n old new fault f = bank-fault version n old new fault f

pub places-fault-is : (version : Version) (n : ℕ) (old mid new : DiskState) (fault : Reread) → ReadOnly (2 + n) old mid → PlacesFault version n mid new fault → CountingFault version n old new fault
places-fault-is version n old mid new reread.DiskFailed a f = failed_more (66 + n) (omega arith) (failed_after a f)
places-fault-is version n old mid new reread.NotFormatted a f = absurd f
places-fault-is version n old mid new (reread.Damaged i) a f = (reads_more (min (66 + n) (bank_reads_to n i)) (let e = reads-to-more n i f.0 in omega arith) (reads_join a f.1), λ t h. f.2 t (a.told ∙ h))

pub counting-keeps : (version : Version) (n : ℕ) (x : List ℕ) (cells : List (List ℕ)) (bank : Bank) (used : ℕ) → log_size n ≤ length (from_base version x) → length cells ≡ n → BankRead n bank (from_base version x) → PlacesSoFar n bank.side 64 used cells (from_base version x) → HasHeader (log_layout version) n x
    → KeepsLog version n x cells (record { side = bank.side; mark = bank.mark; used = used; spare_is_live = bank.spare_is_live })
counting-keeps version n x cells bank used room count b so head = record {
  holds = record {
    count = count;
    room = room;
    head = head;
    counting = b.counting;
    places = places-all n bank.side used cells (from_base version x) so;
    list = so.list;
  };
  marked = b.marked;
  spare = b.spare;
}

log-damaged : (version : Version) (t : Told) (n i : ℕ) → LogDamaged (from_base version t.bytes) n i → FirstDamaged (log_layout version) t.bytes n i
unfolding IsDamaged
log-damaged version t n i d = d

pub counting-leaves : (version : Version) (n : ℕ) (old mid new : DiskState) (fault : Reread) → ReadOnly 1 old mid → CountingFault version n mid new fault → Leaves (log_reads n) (log_reads_to n) old new fault
counting-leaves version n old mid new reread.DiskFailed a f = failed_more (67 + n) (omega arith) (failed_after a f)
counting-leaves version n old mid new reread.NotFormatted a f = absurd f
counting-leaves version n old mid new (reread.Damaged i) a f = reads_more (min (67 + n) (1 + bank_reads_to n i)) (omega arith) (reads_join a f.0)

pub counting-finds : (version : Version) (n : ℕ) (old mid new : DiskState) (fault : Reread) → ReadOnly 1 old mid → ((t : Told) → old.told ≡ Some t → HasHeader (log_layout version) n t.bytes) → CountingFault version n mid new fault → Finds (log_layout version) n old.told fault
counting-finds version n old mid new reread.DiskFailed a head f t h = tt
counting-finds version n old mid new reread.NotFormatted a head f t h = absurd f
counting-finds version n old mid new (reread.Damaged i) a head f t h = (head t h, log-damaged version t n i (f.1 t (a.told ∙ h)))

-- the second and the third byte
pub part-two : (x : List ℕ) → 3 ≤ length x → part 1 2 x ≡ get_or x 1 0 ∷ get_or x 2 0 ∷ []
part-two (a ∷ b ∷ c ∷ x) long = refl
part-two x long = absurd (omega arith)
