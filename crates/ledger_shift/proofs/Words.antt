-- Words of a line of a script
use Rattle.std.proofs.Common.{◌≡◌, inl, inr, ℕ, ◌<◌, false, Some, None, List, [], ◌∷◌, length, refl, arith}
use Rattle.std.specs.Str.{IsUtf8, is_utf8}
use Rattle.std.proofs.lemmas.Bool.{cases_Bool}
use Rattle.std.proofs.lemmas.Str.{IsUtf8-from_is_utf8, is_utf8-from_IsUtf8}
use Rattle.text_lines.specs.Lines.{is_skipped}
use Rattle.ledger_shift.specs.Asks.{text_form}

pub has_word : (words : List (List ℕ)) → is_skipped words ≡ false → 0 < length words
unfolding is_skipped
has_word [] unskipped = absurd (let e = unskipped in cc)
has_word (word ∷ words) unskipped = omega arith

pub text_is : (word : List ℕ) → IsUtf8 word → text_form word ≡ Some word
unfolding text_form
text_is word is = rw (is_utf8-from_IsUtf8 word is) refl

pub text_none : (word : List ℕ) → ¬ IsUtf8 word → text_form word ≡ None
unfolding text_form
text_none word isnt = elim (cases_Bool (is_utf8 word)) [
  | inl is ↦ absurd (isnt (IsUtf8-from_is_utf8 word is))
  | inr none ↦ rw none refl
]
