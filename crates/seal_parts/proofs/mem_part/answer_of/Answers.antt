use Rattle.std.proofs.Common.{◌≡◌, ◌≢◌, inl, inr, Bool, true, false, Some, None, refl, sym, ap, ◌∙◌}
use Rattle.std.proofs.lemmas.Bool.{true≢false}
use Rattle.seal_parts.specs.declared.UnitContent.{UnitContent}
use Rattle.seal_parts.specs.Parts.{PartUnit, is_whole, is_told, is_nothing, blank_unit}
use Rattle.seal_parts.proofs.mem_part.answer_of.Goals as goal

not_blank : (u : PartUnit) (content : UnitContent) → u.content ≡ Some content → u ≢ blank_unit
not_blank u content held blank = (let e : Some content ≡ None = sym held ∙ ap (λ (x : PartUnit). x.content) blank in absurd (cc))

pub returns-then-unit : goal.returns-then-unit
returns-then-unit c = is_whole c.in-Some.content c.in-Some.is refl

pub returns-else-shows : goal.returns-else-shows
returns-else-shows c = is_nothing (inr c.if-unit.false) (λ cls erased. not_blank _ c.in-Some.content c.in-Some.is) refl

pub returns-then-is_told_blank : goal.returns-then-is_told_blank
returns-then-is_told_blank c = is_told (c.is_told_blank.ensures.class c.if-is_told_blank.true) (inl c.in-None.is)
    (λ erased. c.is_blank.ensures.is (c.is_told_blank.ensures.blank c.if-is_told_blank.true erased) c.in-None.is) refl

pub returns-else-is_told_blank : goal.returns-else-is_told_blank
returns-else-is_told_blank c = is_nothing (inl c.in-None.is) (λ cls erased. c.is_blank.ensures.isnt (not_told c.is_blank.result c.is_told_blank.result c.if-is_told_blank.false (c.is_told_blank.ensures.all cls erased))) refl
  where
    not_told : (a b : Bool) → b ≡ false → (a ≡ true → b ≡ true) → a ≡ false
    not_told true b e f = absurd (true≢false (sym (f refl) ∙ e))
    not_told false b e f = refl
