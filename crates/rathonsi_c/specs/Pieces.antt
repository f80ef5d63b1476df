-- A CMAC of a message that comes in pieces, as a struct that the caller keeps.
use Rattle.std.specs.Prelude.{◌≡◌, ℕ, ◌≤◌, List}
use Rattle.she_cmac.specs.declared.pieces.MacParts.{MacParts}
use Rattle.she_cmac.specs.Took.{TookParts}
use Rattle.rathonsi_c.specs.declared.macs.RathonsiMac.{RathonsiMac}
use Rattle.rathonsi_c.specs.Calls.{IsKey}

abbrev pub parts_of : RathonsiMac → MacParts
parts_of mac = record { chain = mac.chain; block = mac.block; filled = mac.filled }

-- `rathonsi_mac_begin` began it
pub record IsBegun (mac : RathonsiMac) : Type 0 where
  pub begun : mac.begun ≡ 1
  pub filled : mac.filled ≤ 16

-- under this key it was given this message so far
pub record TookPieces (key message : List ℕ) (mac : RathonsiMac) : Type 0 where
  pub is_key : IsKey key
  pub key_is : mac.key ≡ key
  pub begun : mac.begun ≡ 1
  pub took : TookParts key message (parts_of mac)
