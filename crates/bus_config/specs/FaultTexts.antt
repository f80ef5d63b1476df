-- The printed texts of the faults of a bus file, each with its line feed
use Rattle.std.specs.Prelude.{ℕ, List, ◌++◌, codes, Option, Some, None}
use Rattle.std.specs.Fmt.{decimal}
use Rattle.basics.specs.Numbers.{bytes_of}
use Rattle.hex.specs.Hex.{encode_lower}
use Rattle.text_lines.specs.Texts.{line}
use Rattle.bus_config.specs.declared.fault.ConfigFault.{ConfigFault}
use Rattle.bus_config.specs.declared.fault.ConfigFault.TheVariants as fault

-- a Data ID has four digits, in lower case; out of memory has no text
abbrev pub config_fault_text : ConfigFault → Option (List ℕ)
config_fault_text fault.Toml = Some (line (codes "config: toml"))
config_fault_text fault.Root = Some (line (codes "config: root"))
config_fault_text (fault.Node node) = Some (codes "config: node " ++ line (decimal node))
config_fault_text (fault.Route node route) =
    Some (codes "config: route " ++ (decimal node ++ (codes " " ++ line (decimal route))))
config_fault_text (fault.Sender id) = Some (codes "config: sender " ++ line (encode_lower (bytes_of 2 id)))
config_fault_text fault.Memory = None
