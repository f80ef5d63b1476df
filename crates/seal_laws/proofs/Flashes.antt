-- What is firm on a part, what a start reads of it, and what the writes of a deed and of a copy leave on a part of blanks.
use Rattle.std.proofs.Common.{◌≡◌, ◌≢◌, ◌⊎◌, inl, inr, ℕ, zero, suc, ◌+◌, ◌<◌, ◌≤◌, Bool, true, false, if◌then◌else◌, Option, Some, None, List, [], ◌∷◌, ◌++◌, length, get_or, refl, sym, ap, subst, ◌∙◌, arith}
use Rattle.std.proofs.lemmas.Bool.{true≢false}
use Rattle.std.proofs.lemmas.Option.{same_Some}
use Rattle.seal_parts.specs.declared.PartClass.{PartClass}
use Rattle.seal_parts.specs.declared.PartClass.TheVariants.{Blanks}
use Rattle.seal_parts.specs.declared.UnitKind.{UnitKind}
use Rattle.seal_parts.specs.declared.UnitKind.TheVariants.{Guard, SecondGuard, Line, Confirm, SecondConfirm}
use Rattle.seal_parts.specs.declared.UnitContent.{UnitContent}
use Rattle.seal_parts.specs.declared.UnitContent.TheVariants.{Mark, Holds}
use Rattle.seal_parts.specs.declared.UnitAnswer.{UnitAnswer}
use Rattle.seal_parts.specs.declared.UnitAnswer.TheVariants.{Whole, Blank, Nothing}
use Rattle.seal_parts.specs.declared.SealLine.{SealLine}
use Rattle.seal_parts.specs.declared.LineBody.TheVariants.{Copies}
use Rattle.seal_parts.specs.Parts.{PartUnit, PartFlash, PartView, blank_unit, whole_unit, is_blank, MayAnswer, is_whole, is_told, is_nothing, ReadsUnits, ProgramsUnit, MayBeLeft, stays, goes, shows}
use Rattle.seal_parts.specs.Designs.{PartWrite, DoesPartWrites, CutsPartWrites, MayDoPartWrites}
use Rattle.seal_logs.specs.declared.PlaceRead.{PlaceRead}
use Rattle.seal_logs.specs.declared.LogSizes.{LogSizes}
use Rattle.seal_logs.specs.Reads.{LogReads, IsChain, MakesOf, IsCopyRead}
use Rattle.seal_laws.specs.Writes.{reads_mark, line_read, may_be_begun, reads_of, deed_writes, cell_writes, copy_writes}

-- ---- units

pub unit_is : (u : PartUnit) (c : Option UnitContent) (b m : Bool) → u.content ≡ c → u.firm ≡ b → u.missed ≡ m → u ≡ record { content = c; firm = b; missed = m }
unit_is u c b m p q r = λ i. record { content = p i; firm = q i; missed = r i }

abbrev pub line_in : Option UnitContent → Option SealLine
line_in (Some (Holds line)) = Some line
line_in (Some Mark) = None
line_in None = None

abbrev pub firm_line : PartUnit → Option SealLine
firm_line u = if u.firm then line_in u.content else None

firm_parts : (b : Bool) (c : Option UnitContent) (l : SealLine) → (if b then line_in c else None) ≡ Some l → (b ≡ true) × (c ≡ Some (Holds l))
firm_parts true None l e = absurd (cc)
firm_parts true (Some Mark) l e = absurd (cc)
firm_parts true (Some (Holds m)) l e = (refl, ap (λ (z : SealLine). Some (Holds z)) (same_Some _ _ e))
firm_parts false c l e = absurd (cc)

pub firm_is : (u : PartUnit) (l : SealLine) → firm_line u ≡ Some l → (u.firm ≡ true) × (u.content ≡ Some (Holds l))
firm_is u l e = firm_parts u.firm u.content l e

-- what is firm, as a start would read it
abbrev pub firm_reads : PartFlash → LogReads
firm_reads f b k = record { line = firm_line (f.unit b k Line); is_begun = false; is_confirmed = false; is_closed = false }

-- a blank line is no content
pub blank_no_content : (u : PartUnit) (c : UnitContent) → u ≡ blank_unit → u.content ≡ Some c → ⊥
blank_no_content u c blank held = (let e : None ≡ Some c = sym (ap (λ (z : PartUnit). z.content) blank) ∙ held in absurd (cc))

pub blank_not_firm : (u : PartUnit) (l : SealLine) → u ≡ blank_unit → firm_line u ≡ Some l → ⊥
blank_not_firm u l blank e = blank_no_content u (Holds l) blank (firm_is u l e).1

-- ---- more is read

abbrev pub Extends : (ℕ → PlaceRead) → (ℕ → PlaceRead) → Type 0
Extends p q = (k : ℕ) (l : SealLine) → (p k).line ≡ Some l → (q k).line ≡ Some l

module _ (s : LogSizes) (p q : ℕ → PlaceRead) (g : ℕ) (more : Extends p q) where
  pub chain_extends : (limit : ℕ) (last : Option ℕ) (ks : List ℕ) → IsChain s p g limit last ks → IsChain s q g limit last ks
  chain_extends limit None [] h = tt
  chain_extends limit None (k ∷ ks) h = absurd h
  chain_extends limit (Some at) [] h = absurd h
  chain_extends limit (Some at) (k ∷ ks) h = (
    h.0,
    (h.1.0, (h.1.1.0, (h.1.1.1.0, (more at _ h.1.1.1.1.0, chain_extends at h.1.1.1.0.prev ks h.1.1.1.1.1)))),
  )

  pub makes_extends : (ks : List ℕ) (cells now : List (List ℕ)) → MakesOf p g ks cells now → MakesOf q g ks cells now
  makes_extends [] cells now h = h
  makes_extends (k ∷ ks) cells now h = (h.0, (more k _ h.1.0, (h.1.1.0, (makes_extends ks cells h.1.1.0 h.1.1.1.0, h.1.1.1.1))))

  pub copy_extends : (cells : List (List ℕ)) → IsCopyRead p g cells → IsCopyRead q g cells
  copy_extends cells h i below = more i _ (h i below)

-- a chain stands before any limit behind its last deed
pub chain_before : (s : LogSizes) (p : ℕ → PlaceRead) (g limit later : ℕ) (last : Option ℕ) (ks : List ℕ) → ((at : ℕ) → last ≡ Some at → at < later) → IsChain s p g limit last ks → IsChain s p g later last ks
chain_before s p g limit later None [] below h = tt
chain_before s p g limit later None (k ∷ ks) below h = absurd h
chain_before s p g limit later (Some at) [] below h = absurd h
chain_before s p g limit later (Some at) (k ∷ ks) below h = (h.0, (h.1.0, (below at refl, h.1.1.1)))

pub chain_within : (s : LogSizes) (p : ℕ → PlaceRead) (g limit later : ℕ) (last : Option ℕ) (ks : List ℕ) → limit ≤ later → IsChain s p g limit last ks → IsChain s p g later last ks
chain_within s p g limit later None [] more h = tt
chain_within s p g limit later None (k ∷ ks) more h = absurd h
chain_within s p g limit later (Some at) [] more h = absurd h
chain_within s p g limit later (Some at) (k ∷ ks) more h = (h.0, (h.1.0, ((let x = h.1.1.0 in omega (arith, x, more)), h.1.1.1)))

-- ---- what is read of a part of blanks

module _ (f g : PartFlash) (view : PartView) (reads : ReadsUnits Blanks f view g) where
  pub read_leaves : g ≡ f
  read_leaves = λ i. record { unit = λ b k kind. reads.now b k kind i; is_erased = λ b. reads.erased b i }

  firm_whole : (b k : ℕ) (u : PartUnit) (a : UnitAnswer) (e : Bool) (l : SealLine) → MayAnswer Blanks e u a → u.firm ≡ true → u.content ≡ Some (Holds l) → line_read a ≡ Some l
  firm_whole b k u a e l may firm held = elim may [
    | is_whole content is said ↦ ap line_read (said ∙ ap Whole (same_Some _ _ (sym is ∙ held)))
    | is_told cls unseen told said ↦ elim unseen [
      | inl none ↦ (let x : None ≡ Some (Holds l) = sym none ∙ held in absurd (cc))
      | inr loose ↦ absurd (true≢false (sym firm ∙ loose))
    ]
    | is_nothing unseen not said ↦ elim unseen [
      | inl none ↦ (let x : None ≡ Some (Holds l) = sym none ∙ held in absurd (cc))
      | inr loose ↦ absurd (true≢false (sym firm ∙ loose))
    ]
  ]

  pub reads_firm : (b : ℕ) → Extends (firm_reads f b) (reads_of Blanks view b)
  reads_firm b k l e = (let x = firm_is (f.unit b k Line) l e in firm_whole b k (f.unit b k Line) (view b k Line) (f.is_erased b) l (reads.may b k Line) x.0 x.1)

  whole_line : (a : UnitAnswer) (l : SealLine) → line_read a ≡ Some l → a ≡ Whole (Holds l)
  whole_line (Whole (Holds m)) l e = ap (λ (z : SealLine). Whole (Holds z)) (same_Some _ _ e)
  whole_line (Whole Mark) l e = absurd (cc)
  whole_line Blank l e = absurd (cc)
  whole_line Nothing l e = absurd (cc)

  whole_mark : (a : UnitAnswer) → reads_mark a ≡ true → a ≡ Whole Mark
  whole_mark (Whole (Holds m)) e = absurd (cc)
  whole_mark (Whole Mark) e = refl
  whole_mark Blank e = absurd (cc)
  whole_mark Nothing e = absurd (cc)

  content_of : (x y : UnitContent) → Whole x ≡ Whole y → x ≡ y
  content_of x y e = cc

  held_of : (e : Bool) (u : PartUnit) (a : UnitAnswer) (c : UnitContent) → MayAnswer Blanks e u a → a ≡ Whole c → u.content ≡ Some c
  held_of e u a c may is = elim may [
    | is_whole content held said ↦ held ∙ ap (λ (z : UnitContent). Some z) (content_of content c (sym said ∙ is))
    | is_told cls unseen told said ↦ (let x : Blank ≡ Whole c = sym said ∙ is in absurd (cc))
    | is_nothing unseen not said ↦ (let x : Nothing ≡ Whole c = sym said ∙ is in absurd (cc))
  ]

  pub line_held : (b k : ℕ) (l : SealLine) → (reads_of Blanks view b k).line ≡ Some l → (f.unit b k Line).content ≡ Some (Holds l)
  line_held b k l e = held_of (f.is_erased b) (f.unit b k Line) (view b k Line) (Holds l) (reads.may b k Line) (whole_line (view b k Line) l e)

  pub mark_held : (b k : ℕ) (kind : UnitKind) → reads_mark (view b k kind) ≡ true → (f.unit b k kind).content ≡ Some Mark
  mark_held b k kind e = held_of (f.is_erased b) (f.unit b k kind) (view b k kind) Mark (reads.may b k kind) (whole_mark (view b k kind) e)

  mark_of : (e : Bool) (u : PartUnit) (a : UnitAnswer) → u ≡ whole_unit Mark → MayAnswer Blanks e u a → reads_mark a ≡ true
  mark_of e u a firm may = elim may [
    | is_whole content held said ↦ ap reads_mark (said ∙ ap Whole (same_Some _ _ (sym held ∙ ap (λ (z : PartUnit). z.content) firm)))
    | is_told cls unseen told said ↦ elim unseen [
      | inl none ↦ (let x : None ≡ Some Mark = sym none ∙ ap (λ (z : PartUnit). z.content) firm in absurd (cc))
      | inr loose ↦ absurd (true≢false (sym (ap (λ (z : PartUnit). z.firm) firm) ∙ loose))
    ]
    | is_nothing unseen not said ↦ elim unseen [
      | inl none ↦ (let x : None ≡ Some Mark = sym none ∙ ap (λ (z : PartUnit). z.content) firm in absurd (cc))
      | inr loose ↦ absurd (true≢false (sym (ap (λ (z : PartUnit). z.firm) firm) ∙ loose))
    ]
  ]

  pub mark_read : (b k : ℕ) (kind : UnitKind) → f.unit b k kind ≡ whole_unit Mark → reads_mark (view b k kind) ≡ true
  mark_read b k kind firm = mark_of (f.is_erased b) (f.unit b k kind) (view b k kind) firm (reads.may b k kind)

  not_begun : (x y a : UnitAnswer) → (may_be_begun Blanks x y a ≡ true → ⊥) → a ≡ Blank
  not_begun x y (Whole c) never = absurd (never refl)
  not_begun x y Blank never = refl
  not_begun x y Nothing never = absurd (never refl)

  blank_of : (e : Bool) (u : PartUnit) (a : UnitAnswer) → e ≡ true → a ≡ Blank → MayAnswer Blanks e u a → u ≡ blank_unit
  blank_of e u a erased is may = elim may [
    | is_whole content held said ↦ (let x : Whole content ≡ Blank = sym said ∙ is in absurd (cc))
    | is_told cls unseen told said ↦ told erased
    | is_nothing unseen not said ↦ (let x : Nothing ≡ Blank = sym said ∙ is in absurd (cc))
  ]

  -- a place that can't have been begun is blank
  pub unbegun_blank : (b k : ℕ) → f.is_erased b ≡ true → ((reads_of Blanks view b k).is_begun ≡ true → ⊥) → f.unit b k Line ≡ blank_unit
  unbegun_blank b k erased never = blank_of (f.is_erased b) (f.unit b k Line) (view b k Line) erased (not_begun (view b k Guard) (view b k SecondGuard) (view b k Line) never) (reads.may b k Line)

  told_of : (e : Bool) (u : PartUnit) (a : UnitAnswer) → e ≡ true → u ≡ blank_unit → MayAnswer Blanks e u a → a ≡ Blank
  told_of e u a erased blank may = elim may [
    | is_whole content held said ↦ absurd (blank_no_content u content blank held)
    | is_told cls unseen told said ↦ said
    | is_nothing unseen not said ↦ absurd (not refl erased blank)
  ]

  -- and a blank one isn't begun
  pub blank_unbegun : (b k : ℕ) → f.is_erased b ≡ true → f.unit b k Line ≡ blank_unit → (reads_of Blanks view b k).is_begun ≡ false
  blank_unbegun b k erased blank = ap (λ (a : UnitAnswer). may_be_begun Blanks (view b k Guard) (view b k SecondGuard) a) (told_of (f.is_erased b) (f.unit b k Line) (view b k Line) erased blank (reads.may b k Line))

-- ---- what the writes of a deed leave

pub data LineLeft (line : SealLine) (f h : PartFlash) (b k : ℕ) : Type 0 where
  line_firm : h.unit b k Line ≡ whole_unit (Holds line) → LineLeft line f h b k
  line_blank : h.unit b k Line ≡ blank_unit → h.unit b k Confirm ≡ f.unit b k Confirm → h.unit b k SecondConfirm ≡ f.unit b k SecondConfirm → LineLeft line f h b k
  line_loose : (h.unit b k Line).firm ≡ false → ((c : UnitContent) → (h.unit b k Line).content ≡ Some c → c ≡ Holds line)
      → h.unit b k Confirm ≡ f.unit b k Confirm → h.unit b k SecondConfirm ≡ f.unit b k SecondConfirm → LineLeft line f h b k

pub record LeavesDeed (b k : ℕ) (line : SealLine) (f h : PartFlash) : Type 0 where
  pub others : (x j : ℕ) (kind : UnitKind) → (x ≢ b) ⊎ (j ≢ k) → h.unit x j kind ≡ f.unit x j kind
  pub erased : (x : ℕ) → h.is_erased x ≡ f.is_erased x
  pub left : LineLeft line f h b k

lift : (x b j k : ℕ) (kind other : UnitKind) → (x ≢ b) ⊎ (j ≢ k) → (x ≢ b) ⊎ ((j ≢ k) ⊎ (kind ≢ other))
lift x b j k kind other (inl a) = inl a
lift x b j k kind other (inr c) = inr (inl c)

line_not_confirm : Line ≢ Confirm
line_not_confirm e = absurd (cc)

line_not_second : Line ≢ SecondConfirm
line_not_second e = absurd (cc)

confirm_not_line : Confirm ≢ Line
confirm_not_line e = absurd (cc)

second_not_line : SecondConfirm ≢ Line
second_not_line e = absurd (cc)

second_not_confirm : SecondConfirm ≢ Confirm
second_not_confirm e = absurd (cc)

loose_or_not : (u : PartUnit) (c : UnitContent) → (u.content ≡ Some c) ⊎ (u.content ≡ None) → u.missed ≡ false
    → (u ≡ whole_unit c) ⊎ ((u ≡ blank_unit) ⊎ ((u.firm ≡ false) × ((d : UnitContent) → u.content ≡ Some d → d ≡ c)))
loose_or_not u c left unread = by_firm u.firm refl left
  where
    by_firm : (b : Bool) → u.firm ≡ b → (u.content ≡ Some c) ⊎ (u.content ≡ None) → (u ≡ whole_unit c) ⊎ ((u ≡ blank_unit) ⊎ ((u.firm ≡ false) × ((d : UnitContent) → u.content ≡ Some d → d ≡ c)))
    by_firm true e (inl held) = inl (unit_is u (Some c) true false held e unread)
    by_firm true e (inr none) = inr (inl (unit_is u None true false none e unread))
    by_firm false e (inl held) = inr (inr (e, λ d is. same_Some _ _ (sym is ∙ held)))
    by_firm false e (inr none) = inr (inr (e, λ d is. (let x : None ≡ Some d = sym none ∙ is in absurd (cc))))

module _ (b k : ℕ) (line : SealLine) where
  -- its line is done, and what was begun behind it is anything
  line_then : (f g h : PartFlash) → ProgramsUnit Blanks b k Line (Holds line) f g → ((x j : ℕ) (kind : UnitKind) → (x ≢ b) ⊎ (j ≢ k) → h.unit x j kind ≡ g.unit x j kind) → h.unit b k Line ≡ g.unit b k Line
      → ((x : ℕ) → h.is_erased x ≡ g.is_erased x) → LeavesDeed b k line f h
  line_then f g h p others same erased = record {
    others = λ x j kind ne. others x j kind ne ∙ p.same.units x j kind (lift x b j k kind Line ne);
    erased = λ x. erased x ∙ p.same.erased x;
    left = line_firm (same ∙ p.now);
  }

  pub deed_done : (f h : PartFlash) → DoesPartWrites Blanks (deed_writes Blanks b k line) f h → LeavesDeed b k line f h
  deed_done f h d =
      let g1 = d.0 in
      let p1 = d.1.0 in
      let g2 = d.1.1.0 in
      let p2 = d.1.1.1.0 in
      let g3 = d.1.1.1.1.0 in
      let p3 = d.1.1.1.1.1.0 in
      let e = d.1.1.1.1.1.1 in
      line_then f g1 h p1
      (λ x j kind ne. ap (λ (z : PartFlash). z.unit x j kind) e ∙ (p3.same.units x j kind (lift x b j k kind SecondConfirm ne) ∙ p2.same.units x j kind (lift x b j k kind Confirm ne)))
      (ap (λ (z : PartFlash). z.unit b k Line) e ∙ (p3.same.units b k Line (inr (inr line_not_second)) ∙ p2.same.units b k Line (inr (inr line_not_confirm))))
      (λ x. ap (λ (z : PartFlash). z.is_erased x) e ∙ (p3.same.erased x ∙ p2.same.erased x))

  pub done_firm : (f h : PartFlash) → DoesPartWrites Blanks (deed_writes Blanks b k line) f h → h.unit b k Line ≡ whole_unit (Holds line)
  done_firm f h d =
      ap (λ (z : PartFlash). z.unit b k Line) d.1.1.1.1.1.1 ∙ (d.1.1.1.1.1.0.same.units b k Line (inr (inr line_not_second)) ∙ (d.1.1.1.0.same.units b k Line (inr (inr line_not_confirm)) ∙ d.1.0.now))

  pub done_closed : (f h : PartFlash) → DoesPartWrites Blanks (deed_writes Blanks b k line) f h → h.unit b k SecondConfirm ≡ whole_unit Mark
  done_closed f h d = ap (λ (z : PartFlash). z.unit b k SecondConfirm) d.1.1.1.1.1.1 ∙ d.1.1.1.1.1.0.now

  pub deed_cut : (f h : PartFlash) → CutsPartWrites Blanks (deed_writes Blanks b k line) f h → LeavesDeed b k line f h
  deed_cut f h (inl c) = record {
    others = λ x j kind ne. c.same.units x j kind (lift x b j k kind Line ne);
    erased = c.same.erased;
    left = elim (loose_or_not (h.unit b k Line) (Holds line) c.left c.unread) [
      | inl firm ↦ line_firm firm
      | inr rest ↦ elim rest [
        | inl blank ↦ line_blank blank (c.same.units b k Confirm (inr (inr confirm_not_line))) (c.same.units b k SecondConfirm (inr (inr second_not_line)))
        | inr loose ↦ line_loose loose.0 loose.1 (c.same.units b k Confirm (inr (inr confirm_not_line))) (c.same.units b k SecondConfirm (inr (inr second_not_line)))
      ]
    ];
  }
  deed_cut f h (inr d) = elim d.1.1 [
    | inl c ↦ line_then f d.0 h d.1.0 (λ x j kind ne. c.same.units x j kind (lift x b j k kind Confirm ne)) (c.same.units b k Line (inr (inr line_not_confirm))) c.same.erased
    | inr e ↦ elim e.1.1 [
      | inl c ↦ line_then f d.0 h d.1.0 (λ x j kind ne. c.same.units x j kind (lift x b j k kind SecondConfirm ne) ∙ e.1.0.same.units x j kind (lift x b j k kind Confirm ne))
          (c.same.units b k Line (inr (inr line_not_second)) ∙ e.1.0.same.units b k Line (inr (inr line_not_confirm))) (λ x. c.same.erased x ∙ e.1.0.same.erased x)
      | inr z ↦ absurd z.1.1
    ]
  ]

  -- and each of them may be done, if the place is blank
  pub deed_may : (f : PartFlash) → f.is_erased b ≡ true → f.unit b k Line ≡ blank_unit → f.unit b k Confirm ≡ blank_unit → f.unit b k SecondConfirm ≡ blank_unit → MayDoPartWrites Blanks (deed_writes Blanks b k line) f
  deed_may f erased blank confirm second = (
    (is_blank erased blank, tt),
    λ g p. (
      (is_blank (p.same.erased b ∙ erased) (p.same.units b k Confirm (inr (inr confirm_not_line)) ∙ confirm), tt),
      λ h q. (
        (is_blank (q.same.erased b ∙ (p.same.erased b ∙ erased)) (q.same.units b k SecondConfirm (inr (inr second_not_confirm)) ∙ (p.same.units b k SecondConfirm (inr (inr second_not_line)) ∙ second)), tt),
        λ z w. tt,
      ),
    ),
  )

-- ---- what the writes of a copy leave

-- cells from this number on are copied into a bank
pub record CellsFrame (x i count : ℕ) (f h : PartFlash) : Type 0 where
  pub banks : (y k : ℕ) (kind : UnitKind) → y ≢ x → h.unit y k kind ≡ f.unit y k kind
  pub below : (k : ℕ) (kind : UnitKind) → k < i → h.unit x k kind ≡ f.unit x k kind
  pub above : (k : ℕ) (kind : UnitKind) → i + count ≤ k → h.unit x k kind ≡ f.unit x k kind
  pub erased : (y : ℕ) → h.is_erased y ≡ f.is_erased y

abbrev pub cell_line : ℕ → ℕ → List ℕ → SealLine
cell_line g i cell = record { generation = g; body = Copies i cell }

frame_same : (x i : ℕ) (f : PartFlash) → CellsFrame x i 0 f f
frame_same x i f = record { banks = λ y k kind ne. refl; below = λ k kind less. refl; above = λ k kind far. refl; erased = λ y. refl }

-- one cell, and then those behind it
frame_then : (x i count : ℕ) (f g h : PartFlash) → ((y k : ℕ) (kind : UnitKind) → (y ≢ x) ⊎ (k ≢ i) → g.unit y k kind ≡ f.unit y k kind) → ((y : ℕ) → g.is_erased y ≡ f.is_erased y)
    → CellsFrame x (suc i) count g h → CellsFrame x i (suc count) f h
frame_then x i count f g h others erased more = record {
  banks = λ y k kind ne. more.banks y k kind ne ∙ others y k kind (inl ne);
  below = λ k kind less. more.below k kind (omega (arith, less)) ∙ others x k kind (inr (λ e. absurd (omega (arith, e, less))));
  above = λ k kind far. more.above k kind (omega (arith, far)) ∙ others x k kind (inr (λ e. absurd (omega (arith, e, far))));
  erased = λ y. more.erased y ∙ erased y;
}

module _ (x g : ℕ) where
  at_cell : (i : ℕ) (cell : List ℕ) (cells : List (List ℕ)) (h : PartFlash) → h.unit x i Line ≡ whole_unit (Holds (cell_line g i cell))
      → ((j : ℕ) → j < length cells → h.unit x (suc i + j) Line ≡ whole_unit (Holds (cell_line g (suc i + j) (get_or cells j []))))
      → (j : ℕ) → j < suc (length cells) → h.unit x (i + j) Line ≡ whole_unit (Holds (cell_line g (i + j) (get_or (cell ∷ cells) j [])))
  at_cell i cell cells h here rest zero below = subst (λ (n : ℕ). h.unit x n Line ≡ whole_unit (Holds (cell_line g n cell))) (let e : i ≡ i + 0 = omega arith in e) here
  at_cell i cell cells h here rest (suc j) below =
      subst (λ (n : ℕ). h.unit x n Line ≡ whole_unit (Holds (cell_line g n (get_or cells j [])))) (let e : suc i + j ≡ i + suc j = omega arith in e) (rest j (omega (arith, below)))

  pub cells_done : (i : ℕ) (cells : List (List ℕ)) (f h : PartFlash) → DoesPartWrites Blanks (cell_writes x g i cells) f h
      → CellsFrame x i (length cells) f h × ((j : ℕ) → j < length cells → h.unit x (i + j) Line ≡ whole_unit (Holds (cell_line g (i + j) (get_or cells j []))))
  cells_done i [] f h d = (subst (λ (z : PartFlash). CellsFrame x i 0 f z) (sym d) (frame_same x i f), λ j below. absurd (omega (arith, below)))
  cells_done i (cell ∷ cells) f h d =
      let p = d.1.0 in
      let rest = cells_done (suc i) cells d.0 h d.1.1 in (
        frame_then x i (length cells) f d.0 h (λ y k kind ne. p.same.units y k kind (lift y x k i kind Line ne)) p.same.erased rest.0,
        at_cell i cell cells h (rest.0.below i Line (omega arith) ∙ p.now) rest.1,
      )

  pub cells_cut : (i : ℕ) (cells : List (List ℕ)) (f h : PartFlash) → CutsPartWrites Blanks (cell_writes x g i cells) f h → CellsFrame x i (length cells) f h
  cells_cut i [] f h d = absurd d
  cells_cut i (cell ∷ cells) f h (inl c) = record {
    banks = λ y k kind ne. c.same.units y k kind (inl ne);
    below = λ k kind less. c.same.units x k kind (inr (inl (λ e. absurd (omega (arith, e, less)))));
    above = λ k kind far. c.same.units x k kind (inr (inl (λ e. absurd (omega (arith, e, far)))));
    erased = c.same.erased;
  }
  cells_cut i (cell ∷ cells) f h (inr d) = frame_then x i (length cells) f d.0 h (λ y k kind ne. d.1.0.same.units y k kind (lift y x k i kind Line ne)) d.1.0.same.erased (cells_cut (suc i) cells d.0 h d.1.1)

  pub cells_may : (i : ℕ) (cells : List (List ℕ)) (f : PartFlash) → f.is_erased x ≡ true → ((k : ℕ) → i ≤ k → f.unit x k Line ≡ blank_unit) → MayDoPartWrites Blanks (cell_writes x g i cells) f
  cells_may i [] f erased blank = tt
  cells_may i (cell ∷ cells) f erased blank = (
    (is_blank erased (blank i (omega arith)), tt),
    λ h p. cells_may (suc i) cells h (p.same.erased x ∙ erased) (λ k far. p.same.units x k Line (inr (inl (λ e. absurd (omega (arith, e, far))))) ∙ blank k (omega (arith, far))),
  )

  pub copy_may : (cells : List (List ℕ)) (f : PartFlash) → MayDoPartWrites Blanks (copy_writes x g cells) f
  copy_may cells f = (tt, λ h e. cells_may 0 cells h e.erased (λ k far. e.blank k Line))

-- A copy leaves other banks, and no deed in its bank that wasn't there.
pub record LeavesBank (x from : ℕ) (f h : PartFlash) : Type 0 where
  pub banks : (y k : ℕ) (kind : UnitKind) → y ≢ x → h.unit y k kind ≡ f.unit y k kind
  pub erased : (y : ℕ) → y ≢ x → h.is_erased y ≡ f.is_erased y
  pub fewer : (k : ℕ) (c : UnitContent) → from ≤ k → (h.unit x k Line).content ≡ Some c → (f.unit x k Line).content ≡ Some c

left_content : (old new : Option UnitContent) (c : UnitContent) → MayBeLeft Line old new → new ≡ Some c → old ≡ Some c
left_content old new c (stays e) is = sym e ∙ is
left_content old new c (goes e) is = (let x : None ≡ Some c = sym e ∙ is in absurd (cc))
left_content old new c (shows fits e) is = absurd fits

-- the copy is whole, and nothing stands behind it
pub record HasCopyAlone (x g : ℕ) (cells : List (List ℕ)) (h : PartFlash) : Type 0 where
  pub erased : h.is_erased x ≡ true
  pub copied : IsCopyRead (firm_reads h x) g cells
  pub blank : (k : ℕ) (kind : UnitKind) → length cells ≤ k → h.unit x k kind ≡ blank_unit

module _ (x g : ℕ) (cells : List (List ℕ)) (f h : PartFlash) where
  pub copy_done : DoesPartWrites Blanks (copy_writes x g cells) f h → LeavesBank x (length cells) f h × HasCopyAlone x g cells h
  copy_done d =
      let e = d.1.0 in
      let rest = cells_done x g 0 cells d.0 h d.1.1 in
      let blank : (k : ℕ) (kind : UnitKind) → length cells ≤ k → h.unit x k kind ≡ blank_unit = λ k kind far. rest.0.above k kind (omega (arith, far)) ∙ e.blank k kind in (
        record {
          banks = λ y k kind ne. rest.0.banks y k kind ne ∙ e.others.units y k kind ne;
          erased = λ y ne. rest.0.erased y ∙ e.others.erased y ne;
          fewer = λ k c far held. absurd (blank_no_content (h.unit x k Line) c (blank k Line far) held);
        },
        record {
          erased = rest.0.erased x ∙ e.erased;
          copied = λ i below. ap firm_line (subst (λ (n : ℕ). h.unit x n Line ≡ whole_unit (Holds (cell_line g n (get_or cells i [])))) (let e : 0 + i ≡ i = omega arith in e) (rest.1 i below));
          blank = blank;
        },
      )

  pub copy_cut : CutsPartWrites Blanks (copy_writes x g cells) f h → LeavesBank x (length cells) f h
  copy_cut (inl c) = record {
    banks = λ y k kind ne. c.others.units y k kind ne;
    erased = λ y ne. c.others.erased y ne;
    fewer = λ k content far held. left_content (f.unit x k Line).content (h.unit x k Line).content content (c.left k Line) held;
  }
  copy_cut (inr d) = (let rest = cells_cut x g 0 cells d.0 h d.1.1 in record {
    banks = λ y k kind ne. rest.banks y k kind ne ∙ d.1.0.others.units y k kind ne;
    erased = λ y ne. rest.erased y ∙ d.1.0.others.erased y ne;
    fewer = λ k content far held. absurd (blank_no_content (h.unit x k Line) content (rest.above k Line (omega (arith, far)) ∙ d.1.0.blank k Line) held);
  })

-- ---- writes one after the other

module _ (class : PartClass) where
  pub does_both : (xs ys : List PartWrite) (f h : PartFlash) → DoesPartWrites class (xs ++ ys) f h → (g : PartFlash) × (DoesPartWrites class xs f g × DoesPartWrites class ys g h)
  does_both [] ys f h d = (f, (refl, d))
  does_both (x ∷ xs) ys f h d = (let rest = does_both xs ys d.0 h d.1.1 in (rest.0, ((d.0, (d.1.0, rest.1.0)), rest.1.1)))

  pub cuts_both : (xs ys : List PartWrite) (f h : PartFlash) → CutsPartWrites class (xs ++ ys) f h
      → CutsPartWrites class xs f h ⊎ ((g : PartFlash) × (DoesPartWrites class xs f g × CutsPartWrites class ys g h))
  cuts_both [] ys f h d = inr (f, (refl, d))
  cuts_both (x ∷ xs) ys f h (inl c) = inl (inl c)
  cuts_both (x ∷ xs) ys f h (inr d) = elim (cuts_both xs ys d.0 h d.1.1) [
    | inl c ↦ inl (inr (d.0, (d.1.0, c)))
    | inr e ↦ inr (e.0, ((d.0, (d.1.0, e.1.0)), e.1.1))
  ]

  pub may_both : (xs ys : List PartWrite) (f : PartFlash) → MayDoPartWrites class xs f → ((g : PartFlash) → DoesPartWrites class xs f g → MayDoPartWrites class ys g) → MayDoPartWrites class (xs ++ ys) f
  may_both [] ys f may next = next f refl
  may_both (x ∷ xs) ys f may next = (may.0, λ g d. may_both xs ys g (may.1 g d) (λ h e. next h (g, (d, e))))
