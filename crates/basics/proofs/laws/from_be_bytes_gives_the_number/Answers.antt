use Rattle.basics.proofs.CallerLemmas.{from_be_bytes-16, from_be_bytes-32, from_be_bytes-64, from_be_bytes-128}
use Rattle.basics.proofs.laws.from_be_bytes_gives_the_number.Goals as goal

pub returns-clause-u16 : goal.returns-clause-u16
returns-clause-u16 c = from_be_bytes-16

pub returns-clause-u32 : goal.returns-clause-u32
returns-clause-u32 c = from_be_bytes-32

pub returns-clause-u64 : goal.returns-clause-u64
returns-clause-u64 c = from_be_bytes-64

pub returns-clause-u128 : goal.returns-clause-u128
returns-clause-u128 c = from_be_bytes-128
