-- The bytes of a Data ID.
use Rattle.std.proofs.Common.{◌≡◌, ℕ}
use Rattle.std.specs.Int.{w16, to_be_bytes}
use Rattle.basics.specs.Numbers.{bytes_of}
use Rattle.basics.proofs.CallerLemmas.{to_be_bytes-is}

pub two_bytes : (id : ℕ) → to_be_bytes w16 id ≡ bytes_of 2 id
two_bytes id = to_be_bytes-is w16 id
