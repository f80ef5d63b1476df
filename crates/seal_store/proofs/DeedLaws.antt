-- The programs of a deed, one after the other.
use Rattle.std.proofs.Common.{◌≡◌, ℕ, inl, inr, refl, sym, subst, ◌∙◌}
use Rattle.seal_parts.specs.declared.PartClass.{PartClass}
use Rattle.seal_parts.specs.declared.PartClass.TheVariants.{Blanks}
use Rattle.seal_parts.specs.declared.UnitKind.{UnitKind}
use Rattle.seal_parts.specs.declared.UnitKind.TheVariants.{Line, Confirm, SecondConfirm}
use Rattle.seal_parts.specs.declared.UnitContent.{UnitContent}
use Rattle.seal_parts.specs.declared.UnitContent.TheVariants.{Mark, Holds}
use Rattle.seal_parts.specs.declared.SealLine.{SealLine}
use Rattle.seal_parts.specs.Parts.{PartFlash, MayProgram, ProgramsUnit, CutsProgramming}
use Rattle.seal_parts.specs.State.{PartState, PartRuns}
use Rattle.seal_parts.specs.Designs.{DoesPartWrites, CutsPartWrites, MayDoPartWrites}
use Rattle.seal_laws.specs.Writes.{deed_writes}

module _ (class : PartClass) (is : class ≡ Blanks) (bank k : ℕ) (kind : UnitKind) (content : UnitContent) (f g : PartFlash) where
  pub programs : ProgramsUnit class bank k kind content f g → ProgramsUnit Blanks bank k kind content f g
  programs p = subst (λ (z : PartClass). ProgramsUnit z bank k kind content f g) is p

  pub cuts : CutsProgramming class bank k kind content f g → CutsProgramming Blanks bank k kind content f g
  cuts p = subst (λ (z : PartClass). CutsProgramming z bank k kind content f g) is p

  pub may_be : MayProgram Blanks kind f bank k → MayProgram class kind f bank k
  may_be m = subst (λ (z : PartClass). MayProgram z kind f bank k) (sym is) m

module _ (bank k : ℕ) (line : SealLine) (a b c d : PartState) (is : a.class ≡ Blanks) (one : PartRuns a b) (two : PartRuns b c) where
  line_now : ProgramsUnit a.class bank k Line (Holds line) a.flash b.flash → ProgramsUnit Blanks bank k Line (Holds line) a.flash b.flash
  line_now p = programs a.class is bank k Line (Holds line) a.flash b.flash p

  confirm_now : ProgramsUnit b.class bank k Confirm Mark b.flash c.flash → ProgramsUnit Blanks bank k Confirm Mark b.flash c.flash
  confirm_now p = programs b.class (one.class ∙ is) bank k Confirm Mark b.flash c.flash p

  second_class : c.class ≡ Blanks
  second_class = two.class ∙ (one.class ∙ is)

  pub may_confirm : MayDoPartWrites Blanks (deed_writes Blanks bank k line) a.flash → ProgramsUnit a.class bank k Line (Holds line) a.flash b.flash → MayProgram b.class Confirm b.flash bank k
  may_confirm m p = may_be b.class (one.class ∙ is) bank k Confirm Mark b.flash c.flash (m.1 b.flash (line_now p)).0.0

  pub may_second : MayDoPartWrites Blanks (deed_writes Blanks bank k line) a.flash → ProgramsUnit a.class bank k Line (Holds line) a.flash b.flash → ProgramsUnit b.class bank k Confirm Mark b.flash c.flash
      → MayProgram c.class SecondConfirm c.flash bank k
  may_second m p q = may_be c.class second_class bank k SecondConfirm Mark c.flash d.flash ((m.1 b.flash (line_now p)).1 c.flash (confirm_now q)).0.0

  pub line_cuts : CutsProgramming a.class bank k Line (Holds line) a.flash b.flash → CutsPartWrites Blanks (deed_writes Blanks bank k line) a.flash b.flash
  line_cuts p = inl (cuts a.class is bank k Line (Holds line) a.flash b.flash p)

  pub confirm_cuts : ProgramsUnit a.class bank k Line (Holds line) a.flash b.flash → CutsProgramming b.class bank k Confirm Mark b.flash c.flash
      → CutsPartWrites Blanks (deed_writes Blanks bank k line) a.flash c.flash
  confirm_cuts p q = inr (b.flash, (line_now p, inl (cuts b.class (one.class ∙ is) bank k Confirm Mark b.flash c.flash q)))

  pub second_cuts : ProgramsUnit a.class bank k Line (Holds line) a.flash b.flash → ProgramsUnit b.class bank k Confirm Mark b.flash c.flash → CutsProgramming c.class bank k SecondConfirm Mark c.flash d.flash
      → CutsPartWrites Blanks (deed_writes Blanks bank k line) a.flash d.flash
  second_cuts p q r = inr (b.flash, (line_now p, inr (c.flash, (confirm_now q, inl (cuts c.class second_class bank k SecondConfirm Mark c.flash d.flash r)))))

  pub deed_does : ProgramsUnit a.class bank k Line (Holds line) a.flash b.flash → ProgramsUnit b.class bank k Confirm Mark b.flash c.flash → ProgramsUnit c.class bank k SecondConfirm Mark c.flash d.flash
      → DoesPartWrites Blanks (deed_writes Blanks bank k line) a.flash d.flash
  deed_does p q r = (b.flash, (line_now p, (c.flash, (confirm_now q, (d.flash, (programs c.class second_class bank k SecondConfirm Mark c.flash d.flash r, refl))))))
