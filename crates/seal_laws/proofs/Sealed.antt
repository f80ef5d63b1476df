-- What holds of a part of blanks in all lives of a store: in which bank the log is, and which deeds may stand behind its last one.
use Rattle.std.proofs.Common.{◌≡◌, ◌≢◌, ◌⊎◌, inl, inr, ℕ, suc, ◌<◌, ◌≤◌, true, Some, None, List, [], ◌∷◌, length, refl, sym, ap, subst, ◌∙◌, arith}
use Rattle.std.proofs.lemmas.Bool.{true≢false, cases_eq}
use Rattle.std.proofs.lemmas.Option.{same_Some}
use Rattle.seal_parts.specs.declared.UnitKind.TheVariants.{Line, Confirm, SecondConfirm}
use Rattle.seal_parts.specs.declared.UnitContent.{UnitContent}
use Rattle.seal_parts.specs.declared.UnitContent.TheVariants.{Holds}
use Rattle.seal_parts.specs.declared.SealLine.{SealLine}
use Rattle.seal_parts.specs.declared.LineBody.TheVariants.{Does}
use Rattle.seal_parts.specs.declared.LogDeed.{LogDeed}
use Rattle.seal_parts.specs.declared.DeedBody.{DeedBody}
use Rattle.seal_parts.specs.declared.DeedBody.TheVariants.{Moves, IsNew}
use Rattle.seal_parts.specs.Parts.{PartUnit, PartFlash, blank_unit, whole_unit}
use Rattle.seal_logs.specs.declared.LogSizes.{LogSizes}
use Rattle.seal_logs.specs.Reads.{ReadsDeed, IsChain, MakesOf, IsCopyRead, after_body}
use Rattle.seal_logs.proofs.CallerLemmas.{one_deed}
use Rattle.seal_laws.specs.Writes.{seal_line, deed_of}
use Rattle.seal_laws.proofs.Flashes.{firm_line, firm_reads, blank_no_content, blank_not_firm, Extends, chain_extends, makes_extends, copy_extends, chain_before, chain_within, line_firm, line_blank, line_loose, LeavesDeed}

-- ---- banks

-- the deeds of a bank are of generations before this one
abbrev pub OlderIn : LogSizes → PartFlash → ℕ → ℕ → Type 0
OlderIn s f x g = (k h : ℕ) (d : LogDeed) → s.cells ≤ k → k < s.places → (f.unit x k Line).content ≡ Some (Holds (seal_line h d)) → h < g

-- from this place on no line was begun
abbrev pub FreeFrom : LogSizes → PartFlash → ℕ → ℕ → Type 0
FreeFrom s f b next = (k : ℕ) → next ≤ k → k < s.places → f.unit b k Line ≡ blank_unit

-- a bank of deeds of this generation: no confirm was begun before its line was done
pub record SoundBank (s : LogSizes) (f : PartFlash) (b g : ℕ) : Type 0 where
  pub erased : f.is_erased b ≡ true
  pub inside : b < s.banks
  pub confirm : (k : ℕ) → s.cells ≤ k → (f.unit b k Confirm ≡ blank_unit) ⊎ ((d : LogDeed) × ReadsDeed (firm_reads f b k) g d)
  pub second : (k : ℕ) → s.cells ≤ k → (f.unit b k SecondConfirm ≡ blank_unit) ⊎ ((d : LogDeed) × ReadsDeed (firm_reads f b k) g d)
  pub lines : (k : ℕ) (c : UnitContent) → s.cells ≤ k → k < s.places → (f.unit b k Line).content ≡ Some c → (d : LogDeed) × (c ≡ Holds (seal_line g d))

-- its last deed that is firm, and those that it follows
pub record HasDeeds (s : LogSizes) (f : PartFlash) (b g last : ℕ) (cur : LogDeed) (chain : List ℕ) : Type 0 where
  pub sound : SoundBank s f b g
  pub followed : IsChain s (firm_reads f b) g s.places (Some last) chain
  pub is : ReadsDeed (firm_reads f b last) g cur
  pub behind : (k : ℕ) → last < k → k < s.places → (f.unit b k Line).firm ≡ true → f.unit b k Line ≡ blank_unit

pub record HasCells (s : LogSizes) (f : PartFlash) (b g : ℕ) (chain : List ℕ) (copy now : List (List ℕ)) : Type 0 where
  pub copied : IsCopyRead (firm_reads f b) g copy
  pub count : length copy ≡ s.cells
  pub makes : MakesOf (firm_reads f b) g chain copy now

abbrev pub StaysHome : DeedBody → Type 0
StaysHome (Moves bank generation) = ⊥
StaysHome IsNew = ⊥
StaysHome body = Unit {0}

-- a bank that has a copy alone
pub record HomeReady (s : LogSizes) (f : PartFlash) (b g : ℕ) (cells : List (List ℕ)) : Type 0 where
  pub sound : SoundBank s f b g
  pub copied : IsCopyRead (firm_reads f b) g cells
  pub count : length cells ≡ s.cells
  pub free : FreeFrom s f b s.cells

-- A deed that may stand behind the last firm one, cut: that one again; or one that follows it, and makes cells that may be.
pub data MayStand (P : List (List ℕ) → Type 0) (s : LogSizes) (f : PartFlash) (b g last : ℕ) (now : List (List ℕ)) (cur d : LogDeed) : Type 0 where
  stands_again : d ≡ cur → MayStand P s f b g last now cur d
  stands_put : (body : DeedBody) → d ≡ deed_of (Some last) body → StaysHome body → P (after_body body now) → MayStand P s f b g last now cur d
  stands_move : (to : ℕ) (cells : List (List ℕ)) → d ≡ deed_of (Some last) (Moves to (suc g)) → to ≢ b → HomeReady s f to (suc g) cells → P cells → MayStand P s f b g last now cur d

-- the log is in this bank
pub record InBank (P : List (List ℕ) → Type 0) (s : LogSizes) (f : PartFlash) (b g last : ℕ) (cur : LogDeed) (chain : List ℕ) (copy now : List (List ℕ)) : Type 0 where
  pub deeds : HasDeeds s f b g last cur chain
  pub cells : HasCells s f b g chain copy now
  pub home : StaysHome cur.body
  pub may : P now
  pub stand : (k : ℕ) (d : LogDeed) → last < k → k < s.places → (f.unit b k Line).content ≡ Some (Holds (seal_line g d)) → MayStand P s f b g last now cur d
  pub older : (x : ℕ) → x ≢ b → OlderIn s f x g

-- a deed that may stand in a bank that has no firm one
pub record StandsFirst (P : List (List ℕ) → Type 0) (copy : List (List ℕ)) (d : LogDeed) : Type 0 where
  pub body : DeedBody
  pub is : d ≡ deed_of None body
  pub home : StaysHome body
  pub may : P (after_body body copy)

-- the log has moved from bank m to bank b, and has no firm deed there
pub record AtMove (P : List (List ℕ) → Type 0) (s : LogSizes) (f : PartFlash) (m g last : ℕ) (cur : LogDeed) (chain : List ℕ) (b : ℕ) (copy : List (List ℕ)) : Type 0 where
  pub deeds : HasDeeds s f m g last cur chain
  pub move : cur.body ≡ Moves b (suc g)
  pub apart : b ≢ m
  pub again : (k : ℕ) (d : LogDeed) → last < k → k < s.places → (f.unit m k Line).content ≡ Some (Holds (seal_line g d)) → d ≡ cur
  pub sound : SoundBank s f b (suc g)
  pub copied : IsCopyRead (firm_reads f b) (suc g) copy
  pub count : length copy ≡ s.cells
  pub may : P copy
  pub stand : (k : ℕ) (d : LogDeed) → s.cells ≤ k → k < s.places → (f.unit b k Line).content ≡ Some (Holds (seal_line (suc g) d)) → StandsFirst P copy d
  pub loose : (k : ℕ) → s.cells ≤ k → k < s.places → (f.unit b k Line).firm ≡ true → f.unit b k Line ≡ blank_unit
  pub older : (x : ℕ) → x ≢ m → x ≢ b → OlderIn s f x g

-- ---- more cells may be

module _ (P Q : List (List ℕ) → Type 0) (more : (c : List (List ℕ)) → P c → Q c) (s : LogSizes) (f : PartFlash) where
  may_stand_more : (b g last : ℕ) (now : List (List ℕ)) (cur d : LogDeed) → MayStand P s f b g last now cur d → MayStand Q s f b g last now cur d
  may_stand_more b g last now cur d (stands_again e) = stands_again e
  may_stand_more b g last now cur d (stands_put body e home may) = stands_put body e home (more _ may)
  may_stand_more b g last now cur d (stands_move to cells e ne ready may) = stands_move to cells e ne ready (more _ may)

  pub in_bank_more : (b g last : ℕ) (cur : LogDeed) (chain : List ℕ) (copy now : List (List ℕ)) → InBank P s f b g last cur chain copy now → InBank Q s f b g last cur chain copy now
  in_bank_more b g last cur chain copy now i = record {
    deeds = i.deeds;
    cells = i.cells;
    home = i.home;
    may = more now i.may;
    stand = λ k d far below held. may_stand_more b g last now cur d (i.stand k d far below held);
    older = i.older;
  }

  pub at_move_more : (m g last : ℕ) (cur : LogDeed) (chain : List ℕ) (b : ℕ) (copy : List (List ℕ)) → AtMove P s f m g last cur chain b copy → AtMove Q s f m g last cur chain b copy
  at_move_more m g last cur chain b copy i = record {
    deeds = i.deeds;
    move = i.move;
    apart = i.apart;
    again = i.again;
    sound = i.sound;
    copied = i.copied;
    count = i.count;
    may = more copy i.may;
    stand = λ k d far below held. (let x = i.stand k d far below held in record { body = x.body; is = x.is; home = x.home; may = more _ x.may });
    loose = i.loose;
    older = i.older;
  }

-- ---- one deed is written

held_one : (l m : SealLine) → Holds l ≡ Holds m → l ≡ m
held_one l m e = cc

does_one : (d e : LogDeed) → Does d ≡ Does e → d ≡ e
does_one d e h = cc

pub line_one : (g h : ℕ) (d e : LogDeed) → Holds (seal_line g d) ≡ Holds (seal_line h e) → (g ≡ h) × (d ≡ e)
line_one g h d e same = (let l = held_one (seal_line g d) (seal_line h e) same in (ap (λ (z : SealLine). z.generation) l, does_one d e (ap (λ (z : SealLine). z.body) l)))

module _ (s : LogSizes) (f h : PartFlash) (b k g : ℕ) (d : LogDeed) (from : s.cells ≤ k) (blank : f.unit b k Line ≡ blank_unit) (w : LeavesDeed b k (seal_line g d) f h) where
  pub extends_here : (x : ℕ) → Extends (firm_reads f x) (firm_reads h x)
  extends_here x j l e = elim (cases_eq x b) [
    | inl here ↦ elim (cases_eq j k) [
      | inl at ↦ absurd (blank_not_firm (f.unit x j Line) l (ap (λ (z : ℕ). f.unit z j Line) here ∙ (ap (λ (z : ℕ). f.unit b z Line) at ∙ blank)) e)
      | inr ne ↦ ap firm_line (w.others x j Line (inr ne)) ∙ e
    ]
    | inr ne ↦ ap firm_line (w.others x j Line (inl ne)) ∙ e
  ]

  -- what a line has that was written
  pub content_here : (c : UnitContent) → (h.unit b k Line).content ≡ Some c → c ≡ Holds (seal_line g d)
  content_here c held = elim w.left [
    | line_firm is ↦ same_Some _ _ (sym held ∙ ap (λ (z : PartUnit). z.content) is)
    | line_blank is e y ↦ absurd (blank_no_content (h.unit b k Line) c is held)
    | line_loose loose of e y ↦ of c held
  ]

  pub content_there : (x j : ℕ) (c : UnitContent) → (x ≢ b) ⊎ (j ≢ k) → (h.unit x j Line).content ≡ Some c → (f.unit x j Line).content ≡ Some c
  content_there x j c ne held = ap (λ (z : PartUnit). z.content) (sym (w.others x j Line ne)) ∙ held

  pub older_there : (x y : ℕ) → x ≢ b → OlderIn s f x y → OlderIn s h x y
  older_there x y ne old j i e far below held = old j i e far below (content_there x j _ (inl ne) held)

  pub sound_there : (x y : ℕ) → x ≢ b → SoundBank s f x y → SoundBank s h x y
  sound_there x y ne i = record {
    erased = w.erased x ∙ i.erased;
    inside = i.inside;
    confirm = λ j far. elim (i.confirm j far) [
      | inl is ↦ inl (w.others x j Confirm (inl ne) ∙ is)
      | inr e ↦ inr (e.0, extends_here x j _ e.1)
    ];
    second = λ j far. elim (i.second j far) [
      | inl is ↦ inl (w.others x j SecondConfirm (inl ne) ∙ is)
      | inr e ↦ inr (e.0, extends_here x j _ e.1)
    ];
    lines = λ j c far below held. i.lines j c far below (content_there x j c (inl ne) held);
  }

  pub ready_there : (x y : ℕ) (cells : List (List ℕ)) → x ≢ b → HomeReady s f x y cells → HomeReady s h x y cells
  ready_there x y cells ne i = record {
    sound = sound_there x y ne i.sound;
    copied = copy_extends s (firm_reads f x) (firm_reads h x) y (extends_here x) cells i.copied;
    count = i.count;
    free = λ j far below. w.others x j Line (inl ne) ∙ i.free j far below;
  }

  confirm_here : (f.unit b k Confirm ≡ blank_unit) ⊎ ((e : LogDeed) × ReadsDeed (firm_reads f b k) g e) → (h.unit b k Confirm ≡ blank_unit) ⊎ ((e : LogDeed) × ReadsDeed (firm_reads h b k) g e)
  confirm_here old = elim w.left [
    | line_firm is ↦ inr (d, ap firm_line is)
    | line_blank is e y ↦ elim old [ inl was ↦ inl (e ∙ was) | inr was ↦ inr (was.0, extends_here b k _ was.1) ]
    | line_loose loose of e y ↦ elim old [ inl was ↦ inl (e ∙ was) | inr was ↦ inr (was.0, extends_here b k _ was.1) ]
  ]

  second_here : (f.unit b k SecondConfirm ≡ blank_unit) ⊎ ((e : LogDeed) × ReadsDeed (firm_reads f b k) g e) → (h.unit b k SecondConfirm ≡ blank_unit) ⊎ ((e : LogDeed) × ReadsDeed (firm_reads h b k) g e)
  second_here old = elim w.left [
    | line_firm is ↦ inr (d, ap firm_line is)
    | line_blank is e y ↦ elim old [ inl was ↦ inl (y ∙ was) | inr was ↦ inr (was.0, extends_here b k _ was.1) ]
    | line_loose loose of e y ↦ elim old [ inl was ↦ inl (y ∙ was) | inr was ↦ inr (was.0, extends_here b k _ was.1) ]
  ]

  pub sound_here : SoundBank s f b g → SoundBank s h b g
  sound_here i = record {
    erased = w.erased b ∙ i.erased;
    inside = i.inside;
    confirm = λ j far. elim (cases_eq j k) [
      | inl at ↦ subst (λ (z : ℕ). (h.unit b z Confirm ≡ blank_unit) ⊎ ((e : LogDeed) × ReadsDeed (firm_reads h b z) g e)) (sym at) (confirm_here (i.confirm k from))
      | inr ne ↦ elim (i.confirm j far) [
        | inl is ↦ inl (w.others b j Confirm (inr ne) ∙ is)
        | inr e ↦ inr (e.0, extends_here b j _ e.1)
      ]
    ];
    second = λ j far. elim (cases_eq j k) [
      | inl at ↦ subst (λ (z : ℕ). (h.unit b z SecondConfirm ≡ blank_unit) ⊎ ((e : LogDeed) × ReadsDeed (firm_reads h b z) g e)) (sym at) (second_here (i.second k from))
      | inr ne ↦ elim (i.second j far) [
        | inl is ↦ inl (w.others b j SecondConfirm (inr ne) ∙ is)
        | inr e ↦ inr (e.0, extends_here b j _ e.1)
      ]
    ];
    lines = λ j c far below held. elim (cases_eq j k) [
      | inl at ↦ (d, content_here c (ap (λ (z : ℕ). (h.unit b z Line).content) (sym at) ∙ held))
      | inr ne ↦ i.lines j c far below (content_there b j c (inr ne) held)
    ];
  }

  pub free_here : FreeFrom s f b k → FreeFrom s h b (suc k)
  free_here free j far below = w.others b j Line (inr (λ e. absurd (omega (arith, e, far)))) ∙ free j (omega (arith, far)) below

  pub free_there : (x next : ℕ) → x ≢ b → FreeFrom s f x next → FreeFrom s h x next
  free_there x next ne free j far below = w.others x j Line (inl ne) ∙ free j far below

  pub stand_there : (P : List (List ℕ) → Type 0) (last : ℕ) (now : List (List ℕ)) (cur e : LogDeed) → MayStand P s f b g last now cur e → MayStand P s h b g last now cur e
  stand_there P last now cur e (stands_again is) = stands_again is
  stand_there P last now cur e (stands_put body is home may) = stands_put body is home may
  stand_there P last now cur e (stands_move to cells is ne ready may) = stands_move to cells is ne (ready_there to (suc g) cells ne ready) may

  -- its line is firm, or it's not
  pub firm_or_not : (h.unit b k Line ≡ whole_unit (Holds (seal_line g d))) ⊎ ((h.unit b k Line).firm ≡ true → h.unit b k Line ≡ blank_unit)
  firm_or_not = elim w.left [
    | line_firm is ↦ inl is
    | line_blank is e y ↦ inr (λ firm. is)
    | line_loose loose of e y ↦ inr (λ firm. absurd (true≢false (sym firm ∙ loose)))
  ]

  -- the deeds of another bank, and of this one if the line isn't firm
  pub deeds_there : (x y last : ℕ) (cur : LogDeed) (chain : List ℕ) → x ≢ b → HasDeeds s f x y last cur chain → HasDeeds s h x y last cur chain
  deeds_there x y last cur chain ne i = record {
    sound = sound_there x y ne i.sound;
    followed = chain_extends s (firm_reads f x) (firm_reads h x) y (extends_here x) s.places (Some last) chain i.followed;
    is = extends_here x last _ i.is;
    behind = λ j far below firm. (let e = w.others x j Line (inl ne) in e ∙ i.behind j far below (ap (λ (z : PartUnit). z.firm) (sym e) ∙ firm));
  }

  pub deeds_same : (last : ℕ) (cur : LogDeed) (chain : List ℕ) → ((h.unit b k Line).firm ≡ true → h.unit b k Line ≡ blank_unit) → HasDeeds s f b g last cur chain → HasDeeds s h b g last cur chain
  deeds_same last cur chain loose i = record {
    sound = sound_here i.sound;
    followed = chain_extends s (firm_reads f b) (firm_reads h b) g (extends_here b) s.places (Some last) chain i.followed;
    is = extends_here b last _ i.is;
    behind = λ j far below firm. elim (cases_eq j k) [
      | inl at ↦ subst (λ (z : ℕ). h.unit b z Line ≡ blank_unit) (sym at) (loose (ap (λ (z : ℕ). (h.unit b z Line).firm) (sym at) ∙ firm))
      | inr ne ↦ (let e = w.others b j Line (inr ne) in e ∙ i.behind j far below (ap (λ (z : PartUnit). z.firm) (sym e) ∙ firm))
    ];
  }

  -- this one is the last one
  pub deeds_on : (ks : List ℕ) → k < s.places → FreeFrom s f b k → IsChain s (firm_reads f b) g k d.prev ks → h.unit b k Line ≡ whole_unit (Holds (seal_line g d)) → SoundBank s f b g → HasDeeds s h b g k d (k ∷ ks)
  deeds_on ks below free chain firm i = record {
    sound = sound_here i;
    followed = (refl, (from, (below, (d, (ap firm_line firm, chain_extends s (firm_reads f b) (firm_reads h b) g (extends_here b) k d.prev ks chain)))));
    is = ap firm_line firm;
    behind = λ j far under is. free_here free j far under;
  }

  pub cells_on : (ks : List ℕ) (copy between : List (List ℕ)) → length copy ≡ s.cells → IsCopyRead (firm_reads f b) g copy → MakesOf (firm_reads f b) g ks copy between
      → h.unit b k Line ≡ whole_unit (Holds (seal_line g d)) → HasCells s h b g (k ∷ ks) copy (after_body d.body between)
  cells_on ks copy between count copied makes firm = record {
    copied = copy_extends s (firm_reads f b) (firm_reads h b) g (extends_here b) copy copied;
    count = count;
    makes = (d, (ap firm_line firm, (between, (makes_extends s (firm_reads f b) (firm_reads h b) g (extends_here b) ks copy between makes, refl))));
  }

  pub cells_same : (ks : List ℕ) (copy now : List (List ℕ)) → HasCells s f b g ks copy now → HasCells s h b g ks copy now
  cells_same ks copy now i = record {
    copied = copy_extends s (firm_reads f b) (firm_reads h b) g (extends_here b) copy i.copied;
    count = i.count;
    makes = makes_extends s (firm_reads f b) (firm_reads h b) g (extends_here b) ks copy now i.makes;
  }

-- ---- the deeds before one that may stand

-- what the deed follows, and what they make
pub record Before (s : LogSizes) (f : PartFlash) (b g k : ℕ) (copy : List (List ℕ)) (d : LogDeed) (made : List (List ℕ)) : Type 0 where
  pub ks : List ℕ
  pub chain : IsChain s (firm_reads f b) g k d.prev ks
  pub between : List (List ℕ)
  pub makes : MakesOf (firm_reads f b) g ks copy between
  pub made_is : made ≡ after_body d.body between

-- .. and how many deeds there are then, at least
abbrev pub LongBefore : LogSizes → PartFlash → ℕ → ℕ → ℕ → List (List ℕ) → LogDeed → List (List ℕ) → ℕ → Type 0
LongBefore s f b g k copy d made least = (e : Before s f b g k copy d made) × (least ≤ suc (length e.ks))

module _ (s : LogSizes) (f : PartFlash) (b g last : ℕ) (cur : LogDeed) (copy now : List (List ℕ)) where
  rest_of : (chain : List ℕ) → IsChain s (firm_reads f b) g s.places (Some last) chain → (d : LogDeed) → ReadsDeed (firm_reads f b last) g d → (ks : List ℕ) × ((chain ≡ last ∷ ks) × IsChain s (firm_reads f b) g last d.prev ks)
  rest_of [] h d is = absurd h
  rest_of (k ∷ ks) h d is =
      let e : h.1.1.1.0 ≡ d = one_deed (firm_reads f b last) g h.1.1.1.0 d h.1.1.1.1.0 is in
      (ks, (ap (λ (z : ℕ). z ∷ ks) h.0, subst (λ (z : LogDeed). IsChain s (firm_reads f b) g last z.prev ks) e h.1.1.1.1.1))

  -- .. again: they are as many as before
  pub long_again : (chain : List ℕ) → HasDeeds s f b g last cur chain → MakesOf (firm_reads f b) g chain copy now → (k : ℕ) → last ≤ k → LongBefore s f b g k copy cur now (length chain)
  long_again chain deeds makes k more =
      let rest = rest_of chain deeds.followed cur deeds.is in
      let m : MakesOf (firm_reads f b) g (last ∷ rest.0) copy now = subst (λ (ks : List ℕ). MakesOf (firm_reads f b) g ks copy now) rest.1.0 makes in
      let count : length chain ≡ suc (length rest.0) = ap (λ (z : List ℕ). length z) rest.1.0 in (
        record {
          ks = rest.0;
          chain = chain_within s (firm_reads f b) g last k cur.prev rest.0 more rest.1.1;
          between = m.1.1.0;
          makes = m.1.1.1.0;
          made_is = m.1.1.1.1 ∙ ap (λ (z : LogDeed). after_body z.body m.1.1.0) (one_deed (firm_reads f b last) g m.0 cur m.1.0 deeds.is);
        },
        (let e : length chain ≤ suc (length rest.0) = omega (arith, count) in e),
      )

  pub before_again : (chain : List ℕ) → HasDeeds s f b g last cur chain → MakesOf (firm_reads f b) g chain copy now → (k : ℕ) → last ≤ k → Before s f b g k copy cur now
  before_again chain deeds makes k more = (long_again chain deeds makes k more).0

  -- .. and then one more
  pub long_next : (chain : List ℕ) → HasDeeds s f b g last cur chain → MakesOf (firm_reads f b) g chain copy now → (k : ℕ) → last < k → (body : DeedBody)
      → LongBefore s f b g k copy (deed_of (Some last) body) (after_body body now) (suc (length chain))
  long_next chain deeds makes k more body = (
    record {
      ks = chain;
      chain = chain_before s (firm_reads f b) g s.places k (Some last) chain (λ at e. (let x = same_Some _ _ e in omega (arith, x, more))) deeds.followed;
      between = now;
      makes = makes;
      made_is = refl;
    },
    (let e : suc (length chain) ≤ suc (length chain) = omega arith in e),
  )

  pub before_next : (chain : List ℕ) → HasDeeds s f b g last cur chain → MakesOf (firm_reads f b) g chain copy now → (k : ℕ) → last < k → (body : DeedBody) → Before s f b g k copy (deed_of (Some last) body) (after_body body now)
  before_next chain deeds makes k more body = (long_next chain deeds makes k more body).0
