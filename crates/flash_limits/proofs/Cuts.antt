-- What a write leaves, done or cut, and how it may be read then.
use Rattle.std.proofs.Common.{◌≡◌, ◌≢◌, inl, inr, ℕ, Bool, false, nat_eq, if◌then◌else◌, Option, Some, None, refl, sym, ap, subst, ◌∙◌}
use Rattle.std.proofs.lemmas.Bool.{true≢false}
use Rattle.std.proofs.lemmas.Bool.Decides.{eqb_tells}
use Rattle.flash_places.specs.declared.FlashLine.{FlashLine}
use Rattle.flash_places.specs.Places.{FlashPlace, Flash, SameButAt, blank_place, whole_place}
use Rattle.flash_limits.specs.Limits.{FlashView, PlaceMayBeRead, MayBeRead, SameView, FlashWrite, erases_bank, programs_place, MayWrite, DoesWrite, CutsWrite}

abbrev pub loose_place : Option FlashLine → FlashPlace
loose_place content = record { content = content; firm = false }

-- this bank of a flash or of a view is so, and the rest as before
abbrev pub bank_set : {A : Type 0} → ℕ → (ℕ → A) → (ℕ → ℕ → A) → ℕ → ℕ → A
bank_set bank places f x k = if nat_eq x bank then places k else f x k

abbrev pub place_set_to : {A : Type 0} → ℕ → A → (ℕ → A) → ℕ → A
place_set_to place p places k = if nat_eq k place then p else places k

pub bank_here : {A : Type 0} (bank x k : ℕ) (places : ℕ → A) (f : ℕ → ℕ → A) → x ≡ bank → bank_set bank places f x k ≡ places k
bank_here bank x k places f is = elim (eqb_tells x bank) [
  | inl same ↦ ap (λ (b : Bool). if b then places k else f x k) same.0
  | inr other ↦ absurd (other.1 is)
]

pub bank_there : {A : Type 0} (bank x k : ℕ) (places : ℕ → A) (f : ℕ → ℕ → A) → x ≢ bank → bank_set bank places f x k ≡ f x k
bank_there bank x k places f ne = elim (eqb_tells x bank) [
  | inl same ↦ absurd (ne same.1)
  | inr other ↦ ap (λ (b : Bool). if b then places k else f x k) other.0
]

pub place_here : {A : Type 0} (place k : ℕ) (p : A) (places : ℕ → A) → k ≡ place → place_set_to place p places k ≡ p
place_here place k p places is = elim (eqb_tells k place) [
  | inl same ↦ ap (λ (b : Bool). if b then p else places k) same.0
  | inr other ↦ absurd (other.1 is)
]

pub place_there : {A : Type 0} (place k : ℕ) (p : A) (places : ℕ → A) → k ≢ place → place_set_to place p places k ≡ places k
place_there place k p places ne = elim (eqb_tells k place) [
  | inl same ↦ absurd (ne same.1)
  | inr other ↦ ap (λ (b : Bool). if b then p else places k) other.0
]

-- ---- the flash after a write, and what is read of it then

abbrev pub done_flash : FlashWrite → Flash → Flash
done_flash (erases_bank bank) f = bank_set bank (λ k. blank_place) f
done_flash (programs_place bank place line) f = bank_set bank (place_set_to place (whole_place line) (f bank)) f

-- cut so that all may still be read as before
abbrev pub cut_flash : FlashWrite → Flash → Flash
cut_flash (erases_bank bank) f = bank_set bank (λ k. loose_place (f bank k).content) f
cut_flash (programs_place bank place line) f = bank_set bank (place_set_to place (loose_place (Some line)) (f bank)) f

abbrev pub done_view : FlashWrite → FlashView → FlashView
done_view (erases_bank bank) v = bank_set bank (λ k. None) v
done_view (programs_place bank place line) v = bank_set bank (place_set_to place (Some line) (v bank)) v

abbrev pub bank_of : FlashWrite → ℕ
bank_of (erases_bank bank) = bank
bank_of (programs_place bank place line) = bank

pub done_elsewhere : (w : FlashWrite) (f : Flash) (x k : ℕ) → x ≢ bank_of w → done_flash w f x k ≡ f x k
done_elsewhere (erases_bank bank) f x k ne = bank_there bank x k (λ j. blank_place) f ne
done_elsewhere (programs_place bank place line) f x k ne = bank_there bank x k (place_set_to place (whole_place line) (f bank)) f ne

pub view_elsewhere : (w : FlashWrite) (v : FlashView) (x k : ℕ) → x ≢ bank_of w → done_view w v x k ≡ v x k
view_elsewhere (erases_bank bank) v x k ne = bank_there bank x k (λ j. None) v ne
view_elsewhere (programs_place bank place line) v x k ne = bank_there bank x k (place_set_to place (Some line) (v bank)) v ne

set_elsewhere : (bank place : ℕ) (p : FlashPlace) (f : Flash) → SameButAt bank place f (bank_set bank (place_set_to place p (f bank)) f)
set_elsewhere bank place p f = record {
  rest = λ k ne. bank_here bank bank k (place_set_to place p (f bank)) f refl ∙ place_there place k p (f bank) ne;
  others = λ other ne k. bank_there bank other k (place_set_to place p (f bank)) f ne;
}

pub set_there : (bank place : ℕ) (p : FlashPlace) (f : Flash) → bank_set bank (place_set_to place p (f bank)) f bank place ≡ p
set_there bank place p f = bank_here bank bank place (place_set_to place p (f bank)) f refl ∙ place_here place place p (f bank) refl

pub does_it : (w : FlashWrite) (f : Flash) → MayWrite w f → DoesWrite w f (done_flash w f)
does_it (erases_bank bank) f may = record {
  erased = λ k. bank_here bank bank k (λ j. blank_place) f refl;
  others = λ other ne k. bank_there bank other k (λ j. blank_place) f ne;
}
does_it (programs_place bank place line) f may = record {
  was = may;
  now = set_there bank place (whole_place line) f;
  same = set_elsewhere bank place (whole_place line) f;
}

pub cuts_it : (w : FlashWrite) (f : Flash) → MayWrite w f → CutsWrite w f (cut_flash w f)
cuts_it (erases_bank bank) f may = record {
  left = λ k. inl (ap (λ (p : FlashPlace). p.content) (bank_here bank bank k (λ j. loose_place (f bank j).content) f refl));
  others = λ other ne k. bank_there bank other k (λ j. loose_place (f bank j).content) f ne;
}
cuts_it (programs_place bank place line) f may = record {
  was = may;
  left = inl (ap (λ (p : FlashPlace). p.content) (set_there bank place (loose_place (Some line)) f));
  same = set_elsewhere bank place (loose_place (Some line)) f;
}

pub loose_isnt_blank : (content : Option FlashLine) → loose_place content ≡ blank_place → ⊥
loose_isnt_blank content is = true≢false (sym (ap (λ (p : FlashPlace). p.firm) is))

-- ---- how it may be read

-- a blank place is read as nothing
pub blank_reads : (p : FlashPlace) (answer : Option FlashLine) → p ≡ blank_place → PlaceMayBeRead p answer → answer ≡ None
blank_reads p answer is (inl same) = same ∙ ap (λ (q : FlashPlace). q.content) is
blank_reads p answer is (inr nothing) = nothing.0

reads_as : (p q : FlashPlace) (a b : Option FlashLine) → q ≡ p → b ≡ a → PlaceMayBeRead p a → PlaceMayBeRead q b
reads_as p q a b is same h = subst (λ z. PlaceMayBeRead q z) (sym same) (subst (λ (z : FlashPlace). PlaceMayBeRead z a) (sym is) h)

pub same_reads : (f : Flash) (v w : FlashView) → SameView v w → MayBeRead f v → MayBeRead f w
same_reads f v w same h bank k = reads_as (f bank k) (f bank k) (v bank k) (w bank k) refl (same bank k) (h bank k)

loosened : (p : FlashPlace) (answer : Option FlashLine) → PlaceMayBeRead p answer → PlaceMayBeRead (loose_place p.content) answer
loosened p answer (inl same) = inl same
loosened p answer (inr nothing) = inr (nothing.0, refl)

module _ (f : Flash) (v : FlashView) (h : MayBeRead f v) where
  pub old_read : (w : FlashWrite) → MayWrite w f → MayBeRead (cut_flash w f) v
  old_read (erases_bank bank) may x k = elim (eqb_tells x bank) [
    | inl same ↦ reads_as (loose_place (f bank k).content) (cut_flash (erases_bank bank) f x k) (v bank k) (v x k) (bank_here bank x k (λ j. loose_place (f bank j).content) f same.1) (ap (λ z. v z k) same.1)
        (loosened (f bank k) (v bank k) (h bank k))
    | inr other ↦ reads_as (f x k) (cut_flash (erases_bank bank) f x k) (v x k) (v x k) (bank_there bank x k (λ j. loose_place (f bank j).content) f other.1) refl (h x k)
  ]
  old_read (programs_place bank place line) may x k = elim (eqb_tells x bank) [
    | inl same ↦ elim (eqb_tells k place) [
      | inl at ↦ reads_as (loose_place (Some line)) (cut_flash (programs_place bank place line) f x k) None (v x k)
          (bank_here bank x k (place_set_to place (loose_place (Some line)) (f bank)) f same.1 ∙ place_here place k (loose_place (Some line)) (f bank) at.1)
          (blank_reads (f x k) (v x k) (ap (λ z. f z k) same.1 ∙ ap (λ z. f bank z) at.1 ∙ may) (h x k))
          (inr (refl, refl))
      | inr beside ↦ reads_as (f x k) (cut_flash (programs_place bank place line) f x k) (v x k) (v x k)
          (bank_here bank x k (place_set_to place (loose_place (Some line)) (f bank)) f same.1 ∙ place_there place k (loose_place (Some line)) (f bank) beside.1 ∙ ap (λ z. f z k) (sym same.1)) refl (h x k)
    ]
    | inr other ↦ reads_as (f x k) (cut_flash (programs_place bank place line) f x k) (v x k) (v x k) (bank_there bank x k (place_set_to place (loose_place (Some line)) (f bank)) f other.1) refl (h x k)
  ]

  pub new_read : (w : FlashWrite) → MayBeRead (cut_flash w f) (done_view w v)
  new_read (erases_bank bank) x k = elim (eqb_tells x bank) [
    | inl same ↦ reads_as (loose_place (f bank k).content) (cut_flash (erases_bank bank) f x k) None (done_view (erases_bank bank) v x k)
        (bank_here bank x k (λ j. loose_place (f bank j).content) f same.1) (bank_here bank x k (λ j. None) v same.1) (inr (refl, refl))
    | inr other ↦ reads_as (f x k) (cut_flash (erases_bank bank) f x k) (v x k) (done_view (erases_bank bank) v x k)
        (bank_there bank x k (λ j. loose_place (f bank j).content) f other.1) (bank_there bank x k (λ j. None) v other.1) (h x k)
  ]
  new_read (programs_place bank place line) x k = elim (eqb_tells x bank) [
    | inl same ↦ elim (eqb_tells k place) [
      | inl at ↦ reads_as (loose_place (Some line)) (cut_flash (programs_place bank place line) f x k) (Some line) (done_view (programs_place bank place line) v x k)
          (bank_here bank x k (place_set_to place (loose_place (Some line)) (f bank)) f same.1 ∙ place_here place k (loose_place (Some line)) (f bank) at.1)
          (bank_here bank x k (place_set_to place (Some line) (v bank)) v same.1 ∙ place_here place k (Some line) (v bank) at.1) (inl refl)
      | inr beside ↦ reads_as (f x k) (cut_flash (programs_place bank place line) f x k) (v x k) (done_view (programs_place bank place line) v x k)
          (bank_here bank x k (place_set_to place (loose_place (Some line)) (f bank)) f same.1 ∙ place_there place k (loose_place (Some line)) (f bank) beside.1 ∙ ap (λ z. f z k) (sym same.1))
          (bank_here bank x k (place_set_to place (Some line) (v bank)) v same.1 ∙ place_there place k (Some line) (v bank) beside.1 ∙ ap (λ z. v z k) (sym same.1)) (h x k)
    ]
    | inr other ↦ reads_as (f x k) (cut_flash (programs_place bank place line) f x k) (v x k) (done_view (programs_place bank place line) v x k)
        (bank_there bank x k (place_set_to place (loose_place (Some line)) (f bank)) f other.1) (bank_there bank x k (place_set_to place (Some line) (v bank)) v other.1) (h x k)
  ]

  pub done_read : (w : FlashWrite) → MayBeRead (done_flash w f) (done_view w v)
  done_read (erases_bank bank) x k = elim (eqb_tells x bank) [
    | inl same ↦ reads_as blank_place (done_flash (erases_bank bank) f x k) None (done_view (erases_bank bank) v x k)
        (bank_here bank x k (λ j. blank_place) f same.1) (bank_here bank x k (λ j. None) v same.1) (inl refl)
    | inr other ↦ reads_as (f x k) (done_flash (erases_bank bank) f x k) (v x k) (done_view (erases_bank bank) v x k)
        (bank_there bank x k (λ j. blank_place) f other.1) (bank_there bank x k (λ j. None) v other.1) (h x k)
  ]
  done_read (programs_place bank place line) x k = elim (eqb_tells x bank) [
    | inl same ↦ elim (eqb_tells k place) [
      | inl at ↦ reads_as (whole_place line) (done_flash (programs_place bank place line) f x k) (Some line) (done_view (programs_place bank place line) v x k)
          (bank_here bank x k (place_set_to place (whole_place line) (f bank)) f same.1 ∙ place_here place k (whole_place line) (f bank) at.1)
          (bank_here bank x k (place_set_to place (Some line) (v bank)) v same.1 ∙ place_here place k (Some line) (v bank) at.1) (inl refl)
      | inr beside ↦ reads_as (f x k) (done_flash (programs_place bank place line) f x k) (v x k) (done_view (programs_place bank place line) v x k)
          (bank_here bank x k (place_set_to place (whole_place line) (f bank)) f same.1 ∙ place_there place k (whole_place line) (f bank) beside.1 ∙ ap (λ z. f z k) (sym same.1))
          (bank_here bank x k (place_set_to place (Some line) (v bank)) v same.1 ∙ place_there place k (Some line) (v bank) beside.1 ∙ ap (λ z. v z k) (sym same.1)) (h x k)
    ]
    | inr other ↦ reads_as (f x k) (done_flash (programs_place bank place line) f x k) (v x k) (done_view (programs_place bank place line) v x k)
        (bank_there bank x k (place_set_to place (whole_place line) (f bank)) f other.1) (bank_there bank x k (place_set_to place (Some line) (v bank)) v other.1) (h x k)
  ]
