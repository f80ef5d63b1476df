-- What a gateway prints, in lower-case digits, each line with its line feed
use Rattle.std.specs.Prelude.{ℕ, List, [], ◌∷◌, ◌++◌, codes}
use Rattle.std.specs.Fmt.{decimal}
use Rattle.basics.specs.Numbers.{bytes_of}
use Rattle.hex.specs.Hex.{encode_lower}
use Rattle.text_lines.specs.Written.{written}
use Rattle.text_lines.specs.Texts.{line}
use Rattle.bus_script.specs.LineTexts.{told_words, refusal_words}
use Rattle.secoc_gateway.specs.declared.gateway_lines.GatewayLine.{GatewayLine}
use Rattle.secoc_gateway.specs.declared.gateway_lines.GatewayLine.TheVariants.{Forwarded, Dropped, OfNode}

-- if the arguments are of another form
abbrev pub gateway_usage : List ℕ
gateway_usage = line (codes "usage: gateway B F IN=OUT ..")

-- if the bus has another number of nodes than one
abbrev pub nodes_text : List ℕ
nodes_text = line (codes "config: nodes")

-- if the pair with this number, from 1, isn't taken
abbrev pub pair_text : ℕ → List ℕ
pair_text number = codes "config: pair " ++ line (decimal number)

-- the words of a line after its number: a Data ID has four digits, a freshness 16, and bytes two each
abbrev pub gateway_words : GatewayLine → List (List ℕ)
gateway_words (Forwarded id v out w pdu) =
    codes "forwarded" ∷ encode_lower (bytes_of 2 id) ∷ encode_lower (bytes_of 8 v)
    ∷ encode_lower (bytes_of 2 out) ∷ encode_lower (bytes_of 8 w) ∷ encode_lower pdu ∷ []
gateway_words (Dropped id v refusal) =
    codes "dropped" ∷ encode_lower (bytes_of 2 id) ∷ encode_lower (bytes_of 8 v) ∷ refusal_words refusal
gateway_words (OfNode told) = told_words told

-- the text of the line with this number
abbrev pub gateway_text : ℕ → GatewayLine → List ℕ
gateway_text number told = written (decimal number ∷ gateway_words told)
