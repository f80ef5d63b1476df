-- What a start writes, case by case, and where the store stands then.
use Rattle.std.proofs.Common.{◌≡◌, inl, inr, suc, ◌<◌, ◌≤◌, Bool, true, false, if◌then◌else◌, Some, None, List, [], refl, sym, ap, subst, ◌∙◌}
use Rattle.std.proofs.lemmas.Bool.{lt-ltb, le-ltb, cases_lt}
use Rattle.seal_parts.specs.declared.PartClass.TheVariants.{Blanks}
use Rattle.seal_parts.specs.declared.SealLine.{SealLine}
use Rattle.seal_parts.specs.declared.DeedBody.{DeedBody}
use Rattle.seal_parts.specs.declared.DeedBody.TheVariants.{Opens, Puts, Moves, IsNew}
use Rattle.seal_parts.specs.Parts.{PartFlash}
use Rattle.seal_parts.specs.Designs.{PartWrite, DoesPartWrites, CutsPartWrites, MayDoPartWrites}
use Rattle.seal_logs.specs.declared.starting.FoundStore.{FoundStore}
use Rattle.seal_logs.specs.Starts.{IsMove}
use Rattle.seal_laws.specs.declared.SealSizes.{SealSizes}
use Rattle.seal_laws.specs.declared.SealPoint.{SealPoint}
use Rattle.seal_laws.specs.Writes.{deed_writes, seal_line, deed_of, restate_writes, open_writes, start_writes, point_at, place_now, started_at}
use Rattle.seal_store.proofs.WriteLaws.{does_then, cuts_then, cuts_left, may_left, may_right}

module _ (f : FoundStore) where
  pub clean_writes : f.is_clean ≡ true → restate_writes Blanks f ≡ []
  clean_writes e = ap (λ (b : Bool). if b then [] else deed_writes Blanks f.latest.bank f.next (seal_line f.latest.generation f.latest.deed)) e

  pub restated : (line : SealLine) → f.is_clean ≡ false → line ≡ seal_line f.latest.generation f.latest.deed → restate_writes Blanks f ≡ deed_writes Blanks f.latest.bank f.next line
  restated line e is = ap (λ (b : Bool). if b then [] else deed_writes Blanks f.latest.bank f.next (seal_line f.latest.generation f.latest.deed)) e
      ∙ ap (λ (l : SealLine). deed_writes Blanks f.latest.bank f.next l) (sym is)

module _ (s : SealSizes) (f : FoundStore) where
  -- the deed that opens the home of a move
  abbrev opening : SealLine → List PartWrite
  opening line = deed_writes Blanks f.home f.home_next line

  pub closed_home : (body : DeedBody) → f.home_next ≤ s.log.cells → open_writes Blanks s f body ≡ []
  closed_home (Moves to next) few = ap (λ (b : Bool). if b then opening (seal_line f.generation (deed_of None Opens)) else []) (le-ltb s.log.cells f.home_next few)
  closed_home Opens few = refl
  closed_home (Puts cell payload) few = refl
  closed_home IsNew few = refl

  pub opened_home : (body : DeedBody) (line : SealLine) → IsMove body → s.log.cells < f.home_next → line ≡ seal_line f.generation (deed_of None Opens) → open_writes Blanks s f body ≡ opening line
  opened_home (Moves to next) line move more is = ap (λ (b : Bool). if b then opening (seal_line f.generation (deed_of None Opens)) else []) (lt-ltb s.log.cells f.home_next more) ∙ ap opening (sym is)
  opened_home Opens line move more is = absurd move
  opened_home (Puts cell payload) line move more is = absurd move
  opened_home IsNew line move more is = absurd move

  pub stays_closed : (body : DeedBody) → (IsMove body → ⊥) → open_writes Blanks s f body ≡ []
  stays_closed (Moves to next) stay = absurd (stay tt)
  stays_closed Opens stay = refl
  stays_closed (Puts cell payload) stay = refl
  stays_closed IsNew stay = refl

  -- where it stands
  abbrev moved_point : Bool → SealPoint
  moved_point b = if b then point_at f.home f.generation (suc f.home_next) (Some f.home_next) 1 else point_at f.home f.generation f.home_next None 2

  pub point_closed : (body : DeedBody) → IsMove body → f.home_next ≤ s.log.cells → started_at s f body ≡ point_at f.home f.generation f.home_next None 2
  point_closed (Moves to next) move few = ap moved_point (le-ltb s.log.cells f.home_next few)
  point_closed Opens move few = absurd move
  point_closed (Puts cell payload) move few = absurd move
  point_closed IsNew move few = absurd move

  pub point_opened : (body : DeedBody) → IsMove body → s.log.cells < f.home_next → started_at s f body ≡ point_at f.home f.generation (suc f.home_next) (Some f.home_next) 1
  point_opened (Moves to next) move more = ap moved_point (lt-ltb s.log.cells f.home_next more)
  point_opened Opens move more = absurd move
  point_opened (Puts cell payload) move more = absurd move
  point_opened IsNew move more = absurd move

  pub point_still : (body : DeedBody) → (IsMove body → ⊥) → started_at s f body ≡ point_at f.home f.generation (suc (place_now f)) (Some (place_now f)) f.lacking
  point_still (Moves to next) stay = absurd (stay tt)
  point_still Opens stay = refl
  point_still (Puts cell payload) stay = refl
  point_still IsNew stay = refl

  pub bank_started : (body : DeedBody) → (started_at s f body).bank ≡ f.home
  bank_started (Moves to next) = elim (cases_lt s.log.cells f.home_next) [
    | inl more ↦ ap (λ (p : SealPoint). p.bank) (ap moved_point (lt-ltb s.log.cells f.home_next more))
    | inr few ↦ ap (λ (p : SealPoint). p.bank) (ap moved_point (le-ltb s.log.cells f.home_next few))
  ]
  bank_started Opens = refl
  bank_started (Puts cell payload) = refl
  bank_started IsNew = refl

  abbrev opens : List PartWrite
  opens = open_writes Blanks s f f.latest.deed.body

  pub restate_may : (g : PartFlash) → MayDoPartWrites Blanks (start_writes Blanks s f) g → MayDoPartWrites Blanks (restate_writes Blanks f) g
  restate_may g m = may_left Blanks (restate_writes Blanks f) opens g m

  pub restate_cuts : (g h : PartFlash) → CutsPartWrites Blanks (restate_writes Blanks f) g h → CutsPartWrites Blanks (start_writes Blanks s f) g h
  restate_cuts g h x = cuts_left Blanks (restate_writes Blanks f) opens g h x

  module _ (g a h : PartFlash) (again : DoesPartWrites Blanks (restate_writes Blanks f) g a) where
    pub open_may : MayDoPartWrites Blanks (start_writes Blanks s f) g → MayDoPartWrites Blanks opens a
    open_may m = may_right Blanks (restate_writes Blanks f) opens g a m again

    pub start_does : DoesPartWrites Blanks opens a h → DoesPartWrites Blanks (start_writes Blanks s f) g h
    start_does x = does_then Blanks (restate_writes Blanks f) opens g a h again x

    pub start_cuts : CutsPartWrites Blanks opens a h → CutsPartWrites Blanks (start_writes Blanks s f) g h
    start_cuts x = cuts_then Blanks (restate_writes Blanks f) opens g a h again x

    pub start_stays : (IsMove f.latest.deed.body → ⊥) → h ≡ a → DoesPartWrites Blanks (start_writes Blanks s f) g h
    start_stays stay is = start_does (subst (λ (ws : List PartWrite). DoesPartWrites Blanks ws a h) (sym (stays_closed f.latest.deed.body stay)) is)
