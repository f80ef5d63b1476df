-- What a boot leaves (SHE specification, secure booting; one boot in a life is own)
use Rattle.std.specs.Prelude.{Bool, Result, Ok, Err}
use Rattle.key_slots.specs.declared.refusals.Erc.{Erc}
use Rattle.secure_boot.specs.declared.state.BootState.{BootState}
use Rattle.secure_boot.specs.Booting.{decided_as}

-- a boot that is decided is kept, and a refusal leaves what was
abbrev pub boot_after : BootState → Result Bool Erc → BootState
boot_after before (Ok good) = decided_as good
boot_after before (Err refusal) = before
