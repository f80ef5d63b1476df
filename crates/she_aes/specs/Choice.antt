-- Which cipher a build takes.
use Rattle.std.specs.Prelude.{◌≡◌, refl}
use Rattle.she_aes.specs.declared.choice.Cipher.{Cipher}
use Rattle.she_aes.specs.declared.choice.Cipher.TheVariants.{Shuffles}

-- The cipher of this build. It stays closed: only the proof of `chosen` cites what it is, so all else holds for each.
pub choice : Cipher
choice = Shuffles

pub choice_is : choice ≡ Shuffles
unfolding choice
choice_is = refl
