-- The time and the channel of a line of a log, tried on written-out words
use Rattle.std.proofs.Common.{◌≡◌, Bool, true, false, [], ◌∷◌, refl}
use Rattle.std.specs.Prelude.{codes}
use Rattle.watch_commands.specs.declared.options.WatchOptions.{WatchOptions}
use Rattle.watch_commands.specs.Limits.{no_limits}
use Rattle.watch_commands.specs.Stamps.{LineStamp, stamp_of, is_plain_ascii, escaped, lead_text}

options : Bool → Bool → WatchOptions
options json time = record { quiet = false; json = json; time = time; strict = false; limits = no_limits }

stamp : LineStamp
stamp = stamp_of (codes "(1.5)" ∷ codes "can0" ∷ codes "123#00" ∷ [])

printed_characters : escaped (codes "can-0 ~") ≡ codes "can-0 ~"
printed_characters = refl

a_quote : is_plain_ascii 34 ≡ false
a_quote = refl

a_backslash : is_plain_ascii 92 ≡ false
a_backslash = refl

before_a_space : is_plain_ascii 31 ≡ false
before_a_space = refl

after_a_tilde : is_plain_ascii 127 ≡ false
after_a_tilde = refl

in_words : lead_text (options false true) stamp ≡ codes "(1.5) can0 "
unfolding options stamp
in_words = refl

in_an_object : lead_text (options true true) stamp ≡ codes "{\"kind\":\"frame\",\"time\":\"1.5\",\"channel\":\"can0\","
unfolding options stamp
in_an_object = refl

not_asked_for : lead_text (options false false) stamp ≡ []
unfolding options stamp
not_asked_for = refl

no_parentheses : lead_text (options true true) (stamp_of (codes "()" ∷ codes "c" ∷ [])) ≡ codes "{\"kind\":\"frame\",\"time\":\"\",\"channel\":\"c\","
unfolding options
no_parentheses = refl
