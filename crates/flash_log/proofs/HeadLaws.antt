-- What a place is read as that is blank, or holds a line that stays.
use Rattle.std.proofs.Common.{◌≡◌, inl, inr, Bool, true, false, not, ℕ, Some, None, refl, sym, ap, subst, ◌∙◌}
use Rattle.std.proofs.lemmas.Bool.{true≢false}
use Rattle.std.proofs.lemmas.Option.{same_Some}
use Rattle.flash_places.specs.declared.FlashLine.{FlashLine}
use Rattle.flash_places.specs.declared.FlashLine.TheVariants.{Head, Entry}
use Rattle.flash_places.specs.declared.Answer.{Answer}
use Rattle.flash_places.specs.declared.Answer.TheVariants.{Whole, Blank, Nothing}
use Rattle.flash_places.specs.Places.{FlashPlace, Looks, blank_place, whole_place, line_in, sees, sees_nothing}
use Rattle.flash_log.specs.Taking.{NotesHead, latest_head}
use Rattle.flash_log.proofs.TakingLaws.{ends_of}

pub not_both : (b : Bool) → not b ≡ true → b ≡ true → ⊥
not_both true un is = absurd (cc)
not_both false un is = absurd (cc)

-- a line was seen, and the place isn't blank
pub seen_blank : (p q : FlashPlace) (line : FlashLine) → Looks p (Some line) q → q ≡ blank_place → ⊥
seen_blank p q line looks is = elim looks [
  | sees other held said now ↦ (let e : Some other ≡ None = sym (ap (λ (z : FlashPlace). z.content) now) ∙ ap (λ (z : FlashPlace). z.content) is in absurd (cc))
  | sees_nothing ends said now ↦ absurd (cc)
]

seen_whole : (p q : FlashPlace) (line other : FlashLine) → Looks p (Some line) q → q ≡ whole_place other → line ≡ other
seen_whole p q line other looks is = elim looks [
  | sees l held said now ↦ (
      let e : Some l ≡ Some other = sym (ap (λ (z : FlashPlace). z.content) now) ∙ ap (λ (z : FlashPlace). z.content) is in
      same_Some _ _ said ∙ same_Some _ _ e)
  | sees_nothing ends said now ↦ absurd (cc)
]

-- nothing was seen, and the place has no line that stays
unseen_whole : (p q : FlashPlace) (line : FlashLine) → Looks p None q → q ≡ whole_place line → ⊥
unseen_whole p q line looks is =
    let e = ends_of p q looks in
    elim e.0 [
      | inl blank ↦ (let f : Some line ≡ None = ap (λ (z : FlashPlace). z.content) (sym is ∙ (e.1 ∙ blank)) in absurd (cc))
      | inr loose ↦ true≢false (ap (λ (z : FlashPlace). z.firm) (sym is ∙ e.1) ∙ loose)
    ]

-- a blank place that is told so was not answered by Nothing
pub told_nothing : (a : Answer) (p q : FlashPlace) → (p ≡ blank_place → a ≡ Blank) → Looks p (line_in a) q → a ≡ Nothing → q ≡ blank_place → ⊥
told_nothing a p q told looks is blank =
    let none : Looks p None q = subst (λ (z : Answer). Looks p (line_in z) q) is looks in
    let e : Nothing ≡ Blank = sym is ∙ told (sym (ends_of p q none).1 ∙ blank) in absurd (cc)

notes_head : (a : Answer) (p q : FlashPlace) → (p ≡ blank_place → a ≡ Blank) → Looks p (line_in a) q → NotesHead q (latest_head a)
notes_head (Whole (Head x)) p q told looks = record {
  none = λ is. absurd (seen_blank p q (Head x) looks is);
  head = λ g is. (let e : Some (Head x) ≡ Some (Head g) = ap (λ z. Some z) (seen_whole p q (Head x) (Head g) looks is) in cc);
}
notes_head (Whole (Entry i payload)) p q told looks = record {
  none = λ is. absurd (seen_blank p q (Entry i payload) looks is);
  head = λ g is. (let e : Some (Entry i payload) ≡ Some (Head g) = ap (λ z. Some z) (seen_whole p q (Entry i payload) (Head g) looks is) in absurd (cc));
}
notes_head Blank p q told looks = record { none = λ is. refl; head = λ g is. absurd (unseen_whole p q (Head g) looks is) }
notes_head Nothing p q told looks = record {
  none = λ is. absurd (told_nothing Nothing p q told looks refl is);
  head = λ g is. absurd (unseen_whole p q (Head g) looks is);
}

-- .. as it is named otherwise
pub noted_as : (a : Answer) (p q r : FlashPlace) (latest : ℕ) → latest ≡ latest_head a → (p ≡ blank_place → a ≡ Blank) → Looks p (line_in a) q → r ≡ q → NotesHead r latest
noted_as a p q r latest said told looks same = subst (λ k. NotesHead r k) (sym said) (subst (λ (z : FlashPlace). NotesHead z (latest_head a)) (sym same) (notes_head a p q told looks))
