-- What a read has given, if its bytes are a line, and what a head tells.
use Rattle.std.proofs.Common.{◌≡◌, ◌≢◌, ◌⊎◌, ◌↔◌, inl, inr, ℕ, List, Option, Some, None, refl, sym, ap, subst, ◌∙◌, arith}
use Rattle.std.specs.Prelude.{MatchOption}
use Rattle.flash_places.specs.declared.FlashLine.{FlashLine}
use Rattle.flash_places.specs.declared.FlashLine.TheVariants.{Head, Entry}
use Rattle.flash_lines.specs.declared.sizes.FlashSizes.{FlashSizes}
use Rattle.flash_lines.specs.Lines.{HoldsLine, TellsSizes, TellsNoSizes, untold}
use Rattle.flash_lines.proofs.CallerLemmas.{one_told}
use Rattle.flash_log.specs.Taking.{generation_in}
use Rattle.flash_plan.specs.declared.operations.Operation.{Operation}
use Rattle.flash_plan.specs.declared.operations.Operation.TheVariants.{Read}
use Rattle.flash_places.specs.declared.Answer.TheVariants.{Whole}
use Rattle.flash_places.specs.Places.{FlashPlace, Flash, Looks, LooksAt}
use Rattle.flash_lines.specs.Reading.{PlaceReads}
use Rattle.flash_calls.specs.Operations.{GaveRead, ReadsHead, IsOtherSize, ReadsOtherHead}
use Rattle.flash_calls.specs.Calls.{IsOtherTold, IsUntoldAfter}

pub gives_line : (bank place outcome : ℕ) (bytes : List ℕ) (line : FlashLine) (f g : Flash) → outcome ≡ 0
    → ((p q : FlashPlace) → PlaceReads p bytes q → Looks p (Some line) q)
    → GaveRead bank place outcome bytes f g → LooksAt bank place (Whole line) f g
gives_line bank place outcome bytes line f g zero looks (GaveRead.gave_bytes is reads same) = record {
  looks = looks (f bank place) (g bank place) reads;
  is_blank = λ e. cc;
  same = same;
}
gives_line bank place outcome bytes line f g zero looks (GaveRead.gave_blank is at) = absurd (omega (arith, zero, is))
gives_line bank place outcome bytes line f g zero looks (GaveRead.gave_nothing is at) = absurd (omega (arith, zero, is))
gives_line bank place outcome bytes line f g zero looks (GaveRead.gave_failure is same) = absurd (omega (arith, zero, is))

-- ---- what a head tells

-- a line that tells no sizes is no head
pub entry_is_no_head : (bytes : List ℕ) (line : FlashLine) → HoldsLine bytes line → ((told : FlashSizes) → TellsSizes bytes told → ⊥)
    → generation_in (Whole line) ≡ None
entry_is_no_head bytes (Head generation) h none =
    absurd (none h.told (record { generation = generation; is_head = h.is_line; sized = h.sized; bytes_are = h.bytes_are }))
entry_is_no_head bytes (Entry cell payload) h none = refl

-- a head that was read at the first place of its bank
pub head_told : (it : Operation) (bank place outcome : ℕ) (line : List ℕ) (told : Option FlashSizes) → it ≡ Read bank place → place ≡ 0 → outcome ≡ 0
    → MatchOption told (TellsNoSizes line) (TellsSizes line)
    → MatchOption told ((a : FlashSizes) → ReadsHead it outcome line a → ⊥) (ReadsHead it outcome line)
head_told it bank place outcome line None is zero done none = λ a r. none a r.tells
head_told it bank place outcome line (Some a) is zero done tells = record {
  bank = bank;
  is = is ∙ ap (Read bank) zero;
  done = done;
  tells = tells;
}

-- a head tells one thing
pub head_tells_one : (it : Operation) (outcome : ℕ) (line : List ℕ) (a b : FlashSizes) → ReadsHead it outcome line a → ReadsHead it outcome line b → a ≡ b
head_tells_one it outcome line a b r q = one_told line a b r.tells q.tells

pub told_other : (own : FlashSizes) (it : Operation) (outcome : ℕ) (line : List ℕ) (told : Option FlashSizes)
    → MatchOption told ((a : FlashSizes) → ReadsHead it outcome line a → ⊥) (ReadsHead it outcome line)
    → IsOtherTold own told ↔ ReadsOtherHead own it outcome line
told_other own it outcome line None none = ((λ e. absurd e), (λ r. none r.told r.reads))
told_other own it outcome line (Some a) reads = (
  (λ other. record { told = a; reads = reads; other = other }),
  (λ r. subst (IsOtherSize own) (head_tells_one it outcome line r.told a r.reads reads) r.other),
)

pub told_nothing : (it : Operation) (outcome old new : ℕ) (line : List ℕ) (told : Option FlashSizes)
    → MatchOption told ((a : FlashSizes) → ReadsHead it outcome line a → ⊥) (ReadsHead it outcome line) → IsUntoldAfter old told new
    → (ReadsHead it outcome line untold → new ≡ 1) × ((ReadsHead it outcome line untold → ⊥) → new ≡ old)
told_nothing it outcome old new line None none is = ((λ r. absurd (none untold r)), (λ other. is))
told_nothing it outcome old new line (Some a) reads is = (
  (λ r. is.0 (head_tells_one it outcome line a untold reads r)),
  (λ other. is.1 (λ e. other (subst (ReadsHead it outcome line) e reads))),
)

-- if no head is of another store, and each is, none was read
pub none_read : (own : FlashSizes) (it : Operation) (outcome : ℕ) (line : List ℕ) (told : Option FlashSizes)
    → MatchOption told ((a : FlashSizes) → ReadsHead it outcome line a → ⊥) (ReadsHead it outcome line) → (IsOtherTold own told → ⊥)
    → ((a : FlashSizes) → ReadsHead it outcome line a → IsOtherSize own a) → (a : FlashSizes) → ReadsHead it outcome line a → ⊥
none_read own it outcome line None none not each = none
none_read own it outcome line (Some b) reads not each = λ a r. not (each b reads)
