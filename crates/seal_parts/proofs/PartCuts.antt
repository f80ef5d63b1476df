-- A life whose first write is a program, and a put that is one program.
use Rattle.std.proofs.Common.{◌≡◌, ◌⊎◌, inl, inr, ℕ, Bool, true, false, Some, None, List, [], ◌∷◌, ◌++◌, refl, sym, ap, subst, ◌∙◌, if◌then◌else◌}
use Rattle.std.proofs.lemmas.Bool.{true≢false}
use Rattle.seal_parts.specs.declared.PartClass.{PartClass}
use Rattle.seal_parts.specs.declared.PartClass.TheVariants.{Guards, Blanks, Settled}
use Rattle.seal_parts.specs.declared.UnitKind.{UnitKind}
use Rattle.seal_parts.specs.declared.UnitContent.{UnitContent}
use Rattle.seal_parts.specs.declared.UnitAnswer.{UnitAnswer}
use Rattle.seal_parts.specs.declared.UnitAnswer.TheVariants.{Whole, Blank, Nothing}
use Rattle.seal_parts.specs.Parts.{PartUnit, PartFlash, PartView, IsGuard, MayProgram, is_blank, is_open, FitsUnit, ProgramsUnit, CutsProgramming, MayAnswer, is_whole, is_told, is_nothing, is_miss, unit_after, ReadsUnits, blank_unit}
use Rattle.seal_parts.specs.Designs.{PartWrite, programs_unit, PartDesign, PartLife, cut_life, LivesOnPart, PartLives, DoesPartWrites, CutsPartWrites, MayDoPartWrites, KeepsDuties, NoFalseAlarm, LosesUnit}
use Rattle.seal_parts.proofs.Units.{IsUnit, at_tells, set_unit, set_here, set_there}

lives_then : (class : PartClass) (d : PartDesign) (lives : List PartLife) (life : PartLife) (start f g : PartFlash) → PartLives class d lives start f → LivesOnPart class d life f g
    → PartLives class d (lives ++ life ∷ []) start g
lives_then class d [] life start f g run once = (g, (subst (λ (z : PartFlash). LivesOnPart class d life z g) run once, refl))
lives_then class d (first ∷ lives) life start f g run once = (run.0, (run.1.0, lives_then class d lives life run.0 f g run.1.1 once))

-- ---- what was read may be read again

-- a read leaves the content of a guard, and whether it is firm
guard_left : (b : Bool) (u : PartUnit) (miss : Bool) → u.firm ≡ b → let v : PartUnit = if b then u else record { content = u.content; firm = false; missed = miss } in
    (v.content ≡ u.content) × (v.firm ≡ u.firm)
guard_left true u miss e = (refl, refl)
guard_left false u miss e = (refl, sym e)

read_again : (class : PartClass) (e : Bool) (u : PartUnit) (a : UnitAnswer) → MayAnswer class e u a → MayAnswer class e (unit_after class a u) a
read_again Guards e u a h =
    let x = guard_left u.firm u (is_miss a) refl in
    elim h [
      | is_whole content held said ↦ is_whole content (x.0 ∙ held) said
      | is_told cls unseen blank said ↦ absurd (cc)
      | is_nothing unseen told said ↦ is_nothing (elim unseen [ inl none ↦ inl (x.0 ∙ none) | inr loose ↦ inr (x.1 ∙ loose) ]) (λ cls. absurd (cc)) said
    ]
read_again Blanks e u (Whole x) h = h
read_again Blanks e u Blank h = h
read_again Blanks e u Nothing h = h
read_again Settled e u (Whole x) h = is_whole x refl refl
read_again Settled e u Blank h = h
read_again Settled e u Nothing h = h

still_loose : (class : PartClass) (u : PartUnit) → u.firm ≡ false → (unit_after class Nothing u).firm ≡ false
still_loose Guards u e = (guard_left u.firm u true refl).1 ∙ e
still_loose Blanks u e = e
still_loose Settled u e = e

-- nothing was seen of a blank unit
blank_is_nothing : (class : PartClass) (e : Bool) (u : PartUnit) (a : UnitAnswer) → (class ≡ Blanks → ⊥) → u ≡ blank_unit → MayAnswer class e u a → a ≡ Nothing
blank_is_nothing class e u a other blank h = elim h [
  | is_whole content held said ↦ (let x : Some content ≡ None = sym held ∙ ap (λ (z : PartUnit). z.content) blank in absurd (cc))
  | is_told cls unseen blank_there said ↦ absurd (other cls)
  | is_nothing unseen not_told said ↦ said
]

abbrev pub loose_unit : UnitContent → PartUnit
loose_unit content = record { content = Some content; firm = false; missed = false }

module _ (class : PartClass) (other : class ≡ Blanks → ⊥) (d : PartDesign) (start f g : PartFlash) (lives : List PartLife) (view : PartView) (value bank place : ℕ) (kind : UnitKind)
    (content : UnitContent) (rest : List PartWrite) (keeps : KeepsDuties class d start) (run : PartLives class d lives start f) (reads : ReadsUnits class f view g)
    (is : d.writes view value ≡ programs_unit bank place kind content ∷ rest) where
  abbrev c : PartFlash
  c = set_unit bank place kind (loose_unit content) g

  abbrev after : PartFlash
  after = record { unit = λ b k o. unit_after class (view b k o) (c.unit b k o); is_erased = c.is_erased }

  may_first : MayProgram class kind g bank place × FitsUnit kind content
  may_first = (subst (λ (ws : List PartWrite). MayDoPartWrites class ws g) is (keeps lives f g view value run reads)).0

  still : (b k : ℕ) (o : UnitKind) → MayAnswer class (g.is_erased b) (g.unit b k o) (view b k o)
  still b k o = subst (λ (e : Bool). MayAnswer class e (g.unit b k o) (view b k o)) (sym (reads.erased b))
      (subst (λ (u : PartUnit). MayAnswer class (f.is_erased b) u (view b k o)) (sym (reads.now b k o)) (read_again class (f.is_erased b) (f.unit b k o) (view b k o) (reads.may b k o)))

  module _ (blank : g.unit bank place kind ≡ blank_unit) where
    unseen : view bank place kind ≡ Nothing
    unseen = blank_is_nothing class (g.is_erased bank) (g.unit bank place kind) (view bank place kind) other blank (still bank place kind)

    loose_answer : (a : UnitAnswer) (e : Bool) → a ≡ Nothing → MayAnswer class e (loose_unit content) a
    loose_answer a e said = is_nothing (inr refl) (λ cls. absurd (other cls)) said

    view_is : (b k : ℕ) (o : UnitKind) → IsUnit bank place kind b k o → view b k o ≡ Nothing
    view_is b k o at = ap (λ z. view z k o) at.0 ∙ (ap (λ z. view bank z o) at.1.0 ∙ (ap (λ (z : UnitKind). view bank place z) at.1.1 ∙ unseen))

    may_be_read : (b k : ℕ) (o : UnitKind) → MayAnswer class (c.is_erased b) (c.unit b k o) (view b k o)
    may_be_read b k o = elim (at_tells bank place kind b k o) [
      | inl at ↦ subst (λ (u : PartUnit). MayAnswer class (c.is_erased b) u (view b k o)) (sym (set_here bank place kind (loose_unit content) g b k o at.1))
          (loose_answer (view b k o) (c.is_erased b) (view_is b k o at.1))
      | inr ne ↦ subst (λ (u : PartUnit). MayAnswer class (c.is_erased b) u (view b k o)) (sym (set_there bank place kind (loose_unit content) g b k o ne.1)) (still b k o)
    ]

    cut : CutsProgramming class bank place kind content g c
    cut = record {
      may = may_first.0;
      fits = may_first.1;
      left = inl (ap (λ (u : PartUnit). u.content) (set_here bank place kind (loose_unit content) g bank place kind (refl, (refl, refl))));
      unread = ap (λ (u : PartUnit). u.missed) (set_here bank place kind (loose_unit content) g bank place kind (refl, (refl, refl)));
      same = record { units = λ b k o ne. set_there bank place kind (loose_unit content) g b k o ne; erased = λ b. refl };
    }

    cut_once : LivesOnPart class d (cut_life view value) f c
    cut_once = (g, (reads, subst (λ (ws : List PartWrite). CutsPartWrites class ws g c) (sym is) (inl cut)))

    may_again : MayProgram class kind after bank place
    may_again = (subst (λ (ws : List PartWrite). MayDoPartWrites class ws after) is
        (keeps (lives ++ cut_life view value ∷ []) c after view value (lives_then class d lives (cut_life view value) start f c run cut_once)
        (record { may = may_be_read; now = λ b k o. refl; erased = λ b. refl }))).0.0

    is_loose : (after.unit bank place kind).firm ≡ false
    is_loose = ap (λ (a : UnitAnswer). (unit_after class a (c.unit bank place kind)).firm) unseen
        ∙ still_loose class (c.unit bank place kind) (ap (λ (u : PartUnit). u.firm) (set_here bank place kind (loose_unit content) g bank place kind (refl, (refl, refl))))

    is_guard : (class ≡ Guards) × IsGuard kind
    is_guard = elim may_again [
      | is_blank erased now ↦ absurd (true≢false (ap (λ (u : PartUnit). u.firm) (sym now) ∙ is_loose))
      | is_open cls guard erased loose missed ↦ (cls, guard)
    ]

  pub guard_or_told : (class ≡ Guards) × IsGuard kind
  guard_or_told = elim may_first.0 [
    | is_blank erased now ↦ is_guard now
    | is_open cls guard erased loose missed ↦ (cls, guard)
  ]

pub first_program : (class : PartClass) (d : PartDesign) (start f g : PartFlash) (lives : List PartLife) (view : PartView) (value bank place : ℕ) (kind : UnitKind)
    (content : UnitContent) (rest : List PartWrite) → KeepsDuties class d start → PartLives class d lives start f → ReadsUnits class f view g
    → d.writes view value ≡ programs_unit bank place kind content ∷ rest → (class ≡ Blanks) ⊎ ((class ≡ Guards) × IsGuard kind)
first_program Guards d start f g lives view value bank place kind content rest keeps run reads is =
    inr (guard_or_told Guards (λ e. absurd (cc)) d start f g lives view value bank place kind content rest keeps run reads is)
first_program Blanks d start f g lives view value bank place kind content rest keeps run reads is = inl refl
first_program Settled d start f g lives view value bank place kind content rest keeps run reads is =
    inr (guard_or_told Settled (λ e. absurd (cc)) d start f g lives view value bank place kind content rest keeps run reads is)

-- ---- a unit that is lost may have been cut

lost_is_cut : (class : PartClass) (bank place : ℕ) (kind : UnitKind) (content : UnitContent) (g h lost : PartFlash) → ProgramsUnit class bank place kind content g h
    → LosesUnit bank place kind h lost → CutsProgramming class bank place kind content g lost
lost_is_cut class bank place kind content g h lost p loses = record {
  may = p.may;
  fits = p.fits;
  left = inr loses.now;
  unread = loses.missed ∙ ap (λ (u : PartUnit). u.missed) p.now;
  same = record { units = λ b k o ne. loses.same.units b k o ne ∙ p.same.units b k o ne; erased = λ b. loses.same.erased b ∙ p.same.erased b };
}

pub loss_not_told : (class : PartClass) (d : PartDesign) (start f g h lost after : PartFlash) (lives : List PartLife) (view now : PartView) (value bank place : ℕ) (kind : UnitKind)
    (content : UnitContent) → NoFalseAlarm class d start → PartLives class d lives start f → ReadsUnits class f view g → d.writes view value ≡ programs_unit bank place kind content ∷ []
    → DoesPartWrites class (d.writes view value) g h → LosesUnit bank place kind h lost → ReadsUnits class lost now after → d.tells_loss now ≡ false
loss_not_told class d start f g h lost after lives view now value bank place kind content alarm run reads is does loses again =
    let done : DoesPartWrites class (programs_unit bank place kind content ∷ []) g h = subst (λ (ws : List PartWrite). DoesPartWrites class ws g h) is does in
    let p : ProgramsUnit class bank place kind content g h = subst (λ (z : PartFlash). ProgramsUnit class bank place kind content g z) (sym done.1.1) done.1.0 in
    let cut : CutsPartWrites class (d.writes view value) g lost = subst (λ (ws : List PartWrite). CutsPartWrites class ws g lost) (sym is) (inl (lost_is_cut class bank place kind content g h lost p loses)) in
    alarm (lives ++ cut_life view value ∷ []) lost after now (lives_then class d lives (cut_life view value) start f lost run (g, (reads, cut))) again
