-- What an `Ok` after steps shows.
use Rattle.std.proofs.Common.{◌≡◌, ℕ, ◌<◌, Bool, true, false, cond, Option, Some, None, Result, Ok, Err, refl, ap, arith}
use Rattle.std.specs.Prelude.{nat_le}
use Rattle.std.specs.Result.{result_ok}
use Rattle.text_lines.specs.declared.fault.Cause.{Cause}
use Rattle.text_lines.specs.declared.fault.Cause.TheVariants.{Count}
use Rattle.text_lines.specs.Readings.{◌>>=◌, field, at_line, limited}

-- what an `Ok` after a step shows
pub bind_ok : {A B E : Type 0} (r : Result A E) (f : A → Result B E) (y : B) → (r >>= f) ≡ Ok y → (x : A) × (r ≡ Ok x) × (f x ≡ Ok y)
bind_ok (Ok x) f y h = (x, refl, h)
bind_ok (Err e) f y h = cc h

-- the value of an `Ok`
pub ok_some : {A E : Type 0} (r : Result A E) (x : A) → result_ok r ≡ Some x → r ≡ Ok x
ok_some (Ok y) x h = let same : y ≡ x = cc h in ap Ok same
ok_some (Err e) x h = cc h

-- the value of a field
pub field_ok : {A : Type 0} (n : ℕ) (o : Option A) (x : A) → field n o ≡ Ok x → o ≡ Some x
field_ok n (Some y) x h = let same : y ≡ x = cc h in ap Some same
field_ok n None x h = cc h

-- an `Ok` if no error was chosen
pub chosen_ok : {A E : Type 0} (b : Bool) (e : E) (r : Result A E) (x : A) → cond b (Err e) r ≡ Ok x → (b ≡ false) × (r ≡ Ok x)
chosen_ok true e r x h = cc h
chosen_ok false e r x h = (refl, h)

-- a value if there is one only under a test
pub chosen_some : {A : Type 0} (b : Bool) (o : Option A) (x : A) → cond b o None ≡ Some x → (b ≡ true) × (o ≡ Some x)
chosen_some true o x h = (refl, h)
chosen_some false o x h = cc h

-- a line of words that are counted
pub counted_ok : {A : Type 0} (b : Bool) (r : Result A Cause) (x : A) → cond b r (Err Count) ≡ Ok x → r ≡ Ok x
counted_ok true r x h = h
counted_ok false r x h = cc h

-- the value of a line
pub at_line_ok : {A : Type 0} (n : ℕ) (r : Result A Cause) (x : A) → at_line n r ≡ Ok x → r ≡ Ok x
at_line_ok n (Ok y) x h = let same : y ≡ x = cc h in ap Ok same
at_line_ok n (Err cause) x h = cc h

-- a line that gives a value is one of the most that are read
limited_value : {A : Type 0} (most before : ℕ) (r : Result A Cause) (x : A) → limited most before r ≡ Ok x → (nat_le most before ≡ false) × (r ≡ Ok x)
limited_value most before r x h = chosen_ok (nat_le most before) _ r x h

not_le : (a b : ℕ) → nat_le a b ≡ false → b < a
not_le a b h = grind arith

pub limited_ok : {A : Type 0} (most before : ℕ) (r : Result A Cause) (x : A) → limited most before r ≡ Ok x → (before < most) × (r ≡ Ok x)
limited_ok most before r x h = let parts = limited_value most before r x h in (not_le most before parts.0, parts.1)
