-- The check value of a key (own; a CMAC is that of SP 800-38B)
use Rattle.std.specs.Prelude.{ℕ, List, take, codes}
use Rattle.she_cmac.specs.Cmac.{cmac}

-- the first three bytes of the CMAC of a fixed text under the key, which is shorter than what the MAC of any PDU covers
unfoldable pub key_check : List ℕ → List ℕ
key_check key = take 3 (cmac key (codes "key check"))
