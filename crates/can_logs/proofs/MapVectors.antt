-- The words of a line of a map, times, and the bytes of a frame, tried on written-out lines
use Rattle.std.proofs.Common.{◌≡◌, true, false, [], ◌∷◌, refl}
use Rattle.std.specs.Prelude.{codes, None, Some}
use Rattle.can_logs.specs.Frames.{without_long_code}
use Rattle.can_logs.specs.Seconds.{seconds_form, period_form}
use Rattle.can_logs.specs.WatchMaps.{words_to, line_name_form}

with_a_comment : words_to false (codes "a" ∷ codes "b" ∷ codes "#c" ∷ codes "optional" ∷ []) ≡ 2
with_a_comment = refl

no_mark : words_to true (codes "a" ∷ codes "b" ∷ codes "#c" ∷ codes "optional" ∷ []) ≡ 2
no_mark = refl

before_the_marks : words_to true (codes "a" ∷ codes "name=b" ∷ codes "optional" ∷ codes "#" ∷ []) ≡ 1
before_the_marks = refl

before_the_times : words_to true (codes "a" ∷ codes "silent=0.5" ∷ codes "every=0.01" ∷ []) ≡ 1
before_the_times = refl

before_the_comment : words_to false (codes "a" ∷ codes "name=b" ∷ codes "optional" ∷ codes "#" ∷ []) ≡ 3
before_the_comment = refl

a_name : line_name_form (codes "name=brake_request-1.a") ≡ Some (codes "brake_request-1.a")
unfolding line_name_form
a_name = refl

no_name : line_name_form (codes "name=") ≡ None
unfolding line_name_form
no_name = refl

another_byte : line_name_form (codes "name=brake/request") ≡ None
unfolding line_name_form
another_byte = refl

times_of_words : (seconds_form (codes "12.5") ≡ Some 12500000) × (seconds_form (codes "0000000001.0000019") ≡ Some 1000001) × (seconds_form (codes ".5") ≡ None) × (seconds_form (codes "1,5") ≡ None)
unfolding seconds_form
times_of_words = (refl, refl, refl, refl)

no_period : (period_form (codes "0.0000009") ≡ None) × (period_form (codes "0.000001") ≡ Some 1)
unfolding seconds_form
no_period = (refl, refl)

-- `candump -8` writes a data length code of 11 so; one of 8 it doesn't write
a_long_code : without_long_code (codes "0011223344556677_B") ≡ codes "0011223344556677"
a_long_code = refl

a_code_of_8 : without_long_code (codes "0011223344556677_8") ≡ codes "0011223344556677_8"
a_code_of_8 = refl

behind_7_bytes : without_long_code (codes "00112233445566_B") ≡ codes "00112233445566_B"
behind_7_bytes = refl
