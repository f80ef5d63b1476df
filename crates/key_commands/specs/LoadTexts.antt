-- The printed texts of what came of requests
use Rattle.std.specs.Prelude.{ℕ, Bool, true, false, List, [], ◌∷◌, ◌++◌, codes}
use Rattle.std.specs.List.{flat_map}
use Rattle.hex.specs.Hex.{encode_lower}
use Rattle.key_slots.specs.Names.{erc_name}
use Rattle.key_commands.specs.declared.lines.LoadLine.{LoadLine}
use Rattle.key_commands.specs.declared.lines.LoadLine.TheVariants.{Loaded, Refused, Failed}

-- the text of a line, with its line feed, which is 10; a space is 32
abbrev pub load_text : LoadLine → List ℕ
load_text (Loaded reply) =
    codes "loaded " ++ (flat_map encode_lower reply.m4 ++ (32 ∷ (encode_lower reply.m5 ++ 10 ∷ [])))
load_text (Refused refusal) = codes "refused " ++ (erc_name refusal ++ 10 ∷ [])
load_text Failed = codes "refused MEMORY_FAILURE\n"

-- no request is done after this line
abbrev pub is_failed : LoadLine → Bool
is_failed (Loaded reply) = false
is_failed (Refused refusal) = false
is_failed Failed = true
