use Rattle.std.proofs.lemmas.Bool.{true≢false}
use Rattle.std.proofs.Common.{◌≡◌, ◌<◌, inl, inr, ℕ, Bool, true, false, Option, Some, None, List, length, get_or, refl, sym, ap, ◌∙◌}
use Rattle.flash_places.specs.declared.FlashLine.{FlashLine}
use Rattle.flash_places.specs.declared.mem_flash.MemPlace.{MemPlace}
use Rattle.flash_places.specs.Places.{FlashPlace, Looks, sees, sees_nothing, blank_place, whole_place}
use Rattle.flash_places.specs.Memory.{flash_place_in, flash_place_of}
use Rattle.flash_places.proofs.ListLaws.{place_set, place_other, place_get}
use Rattle.flash_places.proofs.mem_flash.see.Goals.{else-was-2-via-then-was-2+else-tells_blank, else-was-2-via-else-was-2}
use Rattle.flash_places.proofs.mem_flash.see.Goals as goal

-- the place that was read
place_at : (ps : List MemPlace) (i : ℕ) (w : MemPlace) → i < length ps → w ≡ get_or ps i w → flash_place_in ps i ≡ flash_place_of w
place_at ps i w below is = place_get ps i w below ∙ ap flash_place_of (sym is)

place_with : (w : MemPlace) (content : Option FlashLine) (firm : Bool) → w.content ≡ content → w.firm ≡ firm → flash_place_of w ≡ record { content = content; firm = firm }
place_with w content firm e f = ap (λ (c : Option FlashLine). let p : FlashPlace = record { content = c; firm = w.firm } in p) e
    ∙ ap (λ (b : Bool). let p : FlashPlace = record { content = content; firm = b } in p) f

see_whole : (p : FlashPlace) (w : MemPlace) (line : FlashLine) → p ≡ flash_place_of w → w.content ≡ Some line → w.firm ≡ true → Looks p (Some line) p
see_whole p w line is held firm = sees line (ap (λ (x : FlashPlace). x.content) is ∙ held) refl (is ∙ place_with w (Some line) true held firm)

see_dim : (p : FlashPlace) (w : MemPlace) → p ≡ flash_place_of w → w.firm ≡ false → Looks p None p
see_dim p w is firm = sees_nothing (inr (ap (λ (x : FlashPlace). x.firm) is ∙ firm)) refl refl

see_none : (p : FlashPlace) (w : MemPlace) (b : Bool) → p ≡ flash_place_of w → w.content ≡ None → w.firm ≡ b → Looks p None p
see_none p w true is held firm = sees_nothing (inl (is ∙ place_with w None true held firm)) refl refl
see_none p w false is held firm = see_dim p w is firm

see_settles : (p q : FlashPlace) (w : MemPlace) (line : FlashLine) → p ≡ flash_place_of w → w.content ≡ Some line → q ≡ whole_place line → Looks p (Some line) q
see_settles p q w line is held now = sees line (ap (λ (x : FlashPlace). x.content) is ∙ held) refl now

pub returns-then-was-clause-looks : goal.returns-then-was-clause-looks
returns-then-was-clause-looks c = see_whole _ c.index-was.result.now c.in-Some.line (place_at _ _ c.index-was.result.now c.requires c.index-was.ensures) c.in-Some.is c.if-was.true

pub returns-then-not-is_seen-clause-looks : goal.returns-then-not-is_seen-clause-looks
returns-then-not-is_seen-clause-looks c = see_dim _ c.index-was.result.now (place_at _ _ c.index-was.result.now c.requires c.index-was.ensures) c.if-was.false

pub returns-then-tells_blank-clause-looks : goal.returns-then-tells_blank-clause-looks
returns-then-tells_blank-clause-looks c = see_none _ c.index-was.result.now _ (place_at _ _ c.index-was.result.now c.requires c.index-was.ensures) c.in-None.is refl

pub returns-then-tells_blank-clause-is_blank : goal.returns-then-tells_blank-clause-is_blank
returns-then-tells_blank-clause-is_blank c = λ e. place_at _ _ c.index-was.result.now c.requires c.index-was.ensures ∙ place_with c.index-was.result.now None true c.in-None.is c.if-was-2.true

pub returns-else-not-is_seen-clause-rest : goal.returns-else-not-is_seen-clause-rest
returns-else-not-is_seen-clause-rest c = λ k ne. place_other c.args.held.now.items c.args.at k _ ne

pub returns-else-not-is_seen-clause-looks : goal.returns-else-not-is_seen-clause-looks
returns-else-not-is_seen-clause-looks c = see_settles _ _ c.index-was.result.now c.in-Some.line (place_at _ _ c.index-was.result.now c.requires c.index-was.ensures) c.in-Some.is
    (place_set c.args.held.now.items c.args.at _ c.requires)

pub returns-else-was-2-clause-looks : goal.returns-else-was-2-clause-looks
returns-else-was-2-clause-looks c = see_none _ c.index-was.result.now _ (place_at _ _ c.index-was.result.now c.requires c.index-was.ensures) c.in-None.is refl

-- a place with a line isn't blank
line_not_blank : (p : FlashPlace) (w : MemPlace) (line : FlashLine) → p ≡ flash_place_of w → w.content ≡ Some line → p ≡ blank_place → ⊥
line_not_blank p w line is held blank = (let e : Some line ≡ None = sym held ∙ ap (λ (x : FlashPlace). x.content) (sym is ∙ blank) in absurd (cc))

-- a blank place is firm
blank_is_firm : (p : FlashPlace) (w : MemPlace) → p ≡ flash_place_of w → p ≡ blank_place → w.firm ≡ true
blank_is_firm p w is blank = ap (λ (x : FlashPlace). x.firm) (sym is ∙ blank)

pub returns-then-was-clause-told : goal.returns-then-was-clause-told
returns-then-was-clause-told c tells blank =
    absurd (line_not_blank _ c.index-was.result.now c.in-Some.line (place_at _ _ c.index-was.result.now c.requires c.index-was.ensures) c.in-Some.is blank)

pub returns-then-not-is_seen-clause-told : goal.returns-then-not-is_seen-clause-told
returns-then-not-is_seen-clause-told c tells blank =
    absurd (line_not_blank _ c.index-was.result.now c.in-Some.line (place_at _ _ c.index-was.result.now c.requires c.index-was.ensures) c.in-Some.is blank)

pub returns-else-not-is_seen-clause-told : goal.returns-else-not-is_seen-clause-told
returns-else-not-is_seen-clause-told c tells blank =
    absurd (line_not_blank _ c.index-was.result.now c.in-Some.line (place_at _ _ c.index-was.result.now c.requires c.index-was.ensures) c.in-Some.is blank)

pub returns-else-was-2-clause-told : goal.returns-else-was-2-clause-told
returns-else-was-2-clause-told c tells blank =
    elim c.else-was-2.branch [
      | else-was-2-via-then-was-2+else-tells_blank w ↦ absurd (true≢false (sym tells ∙ w.if-tells_blank.false))
      | else-was-2-via-else-was-2 w ↦ absurd (true≢false (sym (blank_is_firm _ c.index-was.result.now (place_at _ _ c.index-was.result.now c.requires c.index-was.ensures) blank) ∙ w.if-was-2.false))
    ]
