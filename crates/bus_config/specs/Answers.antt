-- An answer is what the definition says; out of memory is free
use Rattle.std.specs.Prelude.{◌≡◌, List, Result, Ok, Err, Vec}
use Rattle.std.specs.declared.alloc.Global.{Global}
use Rattle.bus_config.specs.declared.fault.ConfigFault.{ConfigFault}
use Rattle.bus_config.specs.declared.fault.ConfigFault.TheVariants as fault

-- a fault that is the definition's, or out of memory
abbrev pub IsFaultOf : {A : Type 0} → Result A ConfigFault → ConfigFault → Type 0
IsFaultOf meaning fault.Memory = Unit {0}
IsFaultOf meaning told = meaning ≡ Err told

abbrev pub AnswersAs : {A : Type 0} → Result A ConfigFault → Result A ConfigFault → Type 0
AnswersAs meaning (Ok value) = meaning ≡ Ok value
AnswersAs meaning (Err told) = IsFaultOf meaning told

-- the same of a list in a vector
abbrev pub AnswersAsList : {A : Type 0} → Result (List A) ConfigFault → Result (Vec A Global) ConfigFault → Type 0
AnswersAsList meaning (Ok values) = meaning ≡ Ok values.items
AnswersAsList meaning (Err told) = IsFaultOf meaning told
