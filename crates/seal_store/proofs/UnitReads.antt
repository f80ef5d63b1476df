-- What a read of a part of blanks leaves and may answer.
use Rattle.std.proofs.Common.{◌≡◌, ◌≢◌, ◌⊎◌, inl, inr, ℕ, Bool, true, false, Option, Some, None, refl, sym, ap, subst, ◌∙◌}
use Rattle.std.proofs.lemmas.Bool.{cases_eq}
use Rattle.seal_parts.specs.declared.PartClass.{PartClass}
use Rattle.seal_parts.specs.declared.PartClass.TheVariants.{Blanks}
use Rattle.seal_parts.specs.declared.UnitKind.{UnitKind}
use Rattle.seal_parts.specs.declared.UnitKind.TheVariants.{Guard, SecondGuard, Line, Confirm, SecondConfirm}
use Rattle.seal_parts.specs.declared.UnitContent.{UnitContent}
use Rattle.seal_parts.specs.declared.UnitAnswer.{UnitAnswer}
use Rattle.seal_parts.specs.declared.UnitAnswer.TheVariants.{Whole, Blank, Nothing}
use Rattle.seal_parts.specs.Parts.{PartUnit, PartFlash, blank_unit, MayAnswer, is_whole, is_told, is_nothing, unit_after, ReadsUnit, SamePart}
use Rattle.seal_parts.specs.State.{PartState, PartRuns}
use Rattle.seal_logs.specs.declared.PlaceRead.{PlaceRead}
use Rattle.seal_laws.specs.Writes.{reads_of}
use Rattle.seal_store.specs.Reading.{IsPlaceRead}

pub same_kind : (a b : UnitKind) → (a ≡ b) ⊎ (a ≢ b)
same_kind Guard Guard = inl refl
same_kind Guard SecondGuard = inr (λ e. absurd (cc))
same_kind Guard Line = inr (λ e. absurd (cc))
same_kind Guard Confirm = inr (λ e. absurd (cc))
same_kind Guard SecondConfirm = inr (λ e. absurd (cc))
same_kind SecondGuard Guard = inr (λ e. absurd (cc))
same_kind SecondGuard SecondGuard = inl refl
same_kind SecondGuard Line = inr (λ e. absurd (cc))
same_kind SecondGuard Confirm = inr (λ e. absurd (cc))
same_kind SecondGuard SecondConfirm = inr (λ e. absurd (cc))
same_kind Line Guard = inr (λ e. absurd (cc))
same_kind Line SecondGuard = inr (λ e. absurd (cc))
same_kind Line Line = inl refl
same_kind Line Confirm = inr (λ e. absurd (cc))
same_kind Line SecondConfirm = inr (λ e. absurd (cc))
same_kind Confirm Guard = inr (λ e. absurd (cc))
same_kind Confirm SecondGuard = inr (λ e. absurd (cc))
same_kind Confirm Line = inr (λ e. absurd (cc))
same_kind Confirm Confirm = inl refl
same_kind Confirm SecondConfirm = inr (λ e. absurd (cc))
same_kind SecondConfirm Guard = inr (λ e. absurd (cc))
same_kind SecondConfirm SecondGuard = inr (λ e. absurd (cc))
same_kind SecondConfirm Line = inr (λ e. absurd (cc))
same_kind SecondConfirm Confirm = inr (λ e. absurd (cc))
same_kind SecondConfirm SecondConfirm = inl refl

module _ (class : PartClass) (is : class ≡ Blanks) (bank k : ℕ) (kind : UnitKind) (a : UnitAnswer) (f g : PartFlash) (read : ReadsUnit class bank k kind a f g) where
  now_same : g.unit bank k kind ≡ f.unit bank k kind
  now_same = read.now ∙ ap (λ (z : PartClass). unit_after z a (f.unit bank k kind)) is

  units_same : (b j : ℕ) (o : UnitKind) → g.unit b j o ≡ f.unit b j o
  units_same b j o = elim (cases_eq b bank) [
    | inl x ↦ elim (cases_eq j k) [
      | inl y ↦ elim (same_kind o kind) [
        | inl z ↦ ap (λ (n : ℕ). g.unit n j o) x ∙ (ap (λ (n : ℕ). g.unit bank n o) y ∙ (ap (λ (n : UnitKind). g.unit bank k n) z ∙ (now_same
            ∙ (sym (ap (λ (n : UnitKind). f.unit bank k n) z) ∙ (sym (ap (λ (n : ℕ). f.unit bank n o) y) ∙ sym (ap (λ (n : ℕ). f.unit n j o) x))))))
        | inr z ↦ read.same.units b j o (inr (inr z))
      ]
      | inr y ↦ read.same.units b j o (inr (inl y))
    ]
    | inr x ↦ read.same.units b j o (inl x)
  ]

  -- a read of a part of blanks leaves all as it was
  pub read_same : g ≡ f
  read_same = λ i. record { unit = λ b j o. units_same b j o i; is_erased = λ b. read.same.erased b i }

  pub read_may : MayAnswer Blanks (f.is_erased bank) (f.unit bank k kind) a
  read_may = subst (λ (z : PartClass). MayAnswer z (f.is_erased bank) (f.unit bank k kind) a) is read.may

firm_of : (u v : PartUnit) → u ≡ v → u.firm ≡ v.firm
firm_of u v e = ap (λ (z : PartUnit). z.firm) e

missed_of : (u v : PartUnit) → u ≡ v → u.missed ≡ v.missed
missed_of u v e = ap (λ (z : PartUnit). z.missed) e

lawful_of : (e : Bool) (c : Option UnitContent) (f m : Bool) → (a : UnitAnswer) × MayAnswer Blanks e (record { content = c; firm = f; missed = m }) a
lawful_of e (Some c) f m = (Whole c, is_whole c refl refl)
lawful_of e None true false = (Blank, is_told refl (inl refl) (λ _. refl) refl)
lawful_of e None true true = (Nothing, is_nothing (inl refl) (λ p q x. absurd (let y : true ≡ false = missed_of _ _ x in cc)) refl)
lawful_of e None false m = (Nothing, is_nothing (inl refl) (λ p q x. absurd (let y : false ≡ true = firm_of _ _ x in cc)) refl)

-- some answer is lawful of each unit
pub lawful : (e : Bool) (u : PartUnit) → (a : UnitAnswer) × MayAnswer Blanks e u a
lawful e u = lawful_of e u.content u.firm u.missed

-- and of a blank one, that it is blank
blank_lawful : (e : Bool) (u : PartUnit) → u ≡ blank_unit → MayAnswer Blanks e u Blank
blank_lawful e u blank = is_told refl (inl (ap (λ (z : PartUnit). z.content) blank)) (λ _. blank) refl

pub blank_place : (f : PartFlash) (b k : ℕ) → ((kind : UnitKind) → f.unit b k kind ≡ blank_unit) → IsPlaceRead f b k (record { line = None; is_begun = false; is_confirmed = false; is_closed = false })
blank_place f b k blank = record {
  answers = λ kind. Blank;
  may = λ kind. blank_lawful (f.is_erased b) (f.unit b k kind) (blank kind);
  is = refl;
}

-- the answers of a place whose line and confirms are read
abbrev pub answers_of : UnitAnswer → UnitAnswer → UnitAnswer → UnitAnswer → UnitAnswer → UnitKind → UnitAnswer
answers_of guard other line confirm last Guard = guard
answers_of guard other line confirm last SecondGuard = other
answers_of guard other line confirm last Line = line
answers_of guard other line confirm last Confirm = confirm
answers_of guard other line confirm last SecondConfirm = last

pub answers_may : (e : Bool) (u : UnitKind → PartUnit) (guard other line confirm last : UnitAnswer) → MayAnswer Blanks e (u Guard) guard → MayAnswer Blanks e (u SecondGuard) other → MayAnswer Blanks e (u Line) line
    → MayAnswer Blanks e (u Confirm) confirm → MayAnswer Blanks e (u SecondConfirm) last → (kind : UnitKind) → MayAnswer Blanks e (u kind) (answers_of guard other line confirm last kind)
answers_may e u guard other line confirm last a b c d x Guard = a
answers_may e u guard other line confirm last a b c d x SecondGuard = b
answers_may e u guard other line confirm last a b c d x Line = c
answers_may e u guard other line confirm last a b c d x Confirm = d
answers_may e u guard other line confirm last a b c d x SecondConfirm = x

pub part_same : (f g : PartFlash) → SamePart f g → g ≡ f
part_same f g x = λ i. record { unit = λ b j o. x.units b j o i; is_erased = λ b. x.erased b i }

-- the line of a place is read, then its confirms
module _ (a b c d : PartState) (bank k : ℕ) (line confirm last : UnitAnswer) (is : a.class ≡ Blanks) (one : PartRuns a b) (two : PartRuns b c) (first : ReadsUnit a.class bank k Line line a.flash b.flash) where
  pub line_same : b.flash ≡ a.flash
  line_same = read_same a.class is bank k Line line a.flash b.flash first

  module _ (second : ReadsUnit b.class bank k Confirm confirm b.flash c.flash) where
    pub confirm_same : c.flash ≡ a.flash
    confirm_same = read_same b.class (one.class ∙ is) bank k Confirm confirm b.flash c.flash second ∙ line_same

    module _ (third : ReadsUnit c.class bank k SecondConfirm last c.flash d.flash) where
      pub last_same : d.flash ≡ a.flash
      last_same = read_same c.class (two.class ∙ (one.class ∙ is)) bank k SecondConfirm last c.flash d.flash third ∙ confirm_same

      pub place_read : (read : PlaceRead) → ((answers : UnitKind → UnitAnswer) → answers Line ≡ line → answers Confirm ≡ confirm → answers SecondConfirm ≡ last → read ≡ reads_of Blanks (λ x y. answers) 0 0)
          → IsPlaceRead a.flash bank k read
      place_read read kept =
          let f = a.flash in
          let guard = lawful (f.is_erased bank) (f.unit bank k Guard) in
          let other = lawful (f.is_erased bank) (f.unit bank k SecondGuard) in
          let answers = answers_of guard.0 other.0 line confirm last in
          record {
            answers = answers;
            may = answers_may (f.is_erased bank) (f.unit bank k) guard.0 other.0 line confirm last guard.1 other.1
                (read_may a.class is bank k Line line f b.flash first)
                (subst (λ (z : PartFlash). MayAnswer Blanks (z.is_erased bank) (z.unit bank k Confirm) confirm) line_same (read_may b.class (one.class ∙ is) bank k Confirm confirm b.flash c.flash second))
                (subst (λ (z : PartFlash). MayAnswer Blanks (z.is_erased bank) (z.unit bank k SecondConfirm) last) confirm_same
                (read_may c.class (two.class ∙ (one.class ∙ is)) bank k SecondConfirm last c.flash d.flash third));
            is = kept answers refl refl refl;
          }
