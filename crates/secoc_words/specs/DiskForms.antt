-- What a word about a disk means by its form: the value, or none if it isn't of the form.
use Rattle.std.specs.Prelude.{ℕ, if◌then◌else◌, List, slice_index, codes, Option, Some, option_map}
use Rattle.std.specs.Result.{result_ok}
use Rattle.std.specs.Str.{bytes_eq}
use Rattle.text_lines.specs.Forms.{number_form}
use Rattle.hex.specs.Hex.{decode_sized}
use Rattle.cut_disk.specs.declared.Torn.{Torn}
use Rattle.cut_disk.specs.declared.Torn.TheVariants.{Keep, Old, Half, Fill}

-- TORN: `keep`, `old`, `half`, or two hexadecimal digits for the byte that loose bytes become
unfoldable pub torn_form : List ℕ → Option Torn
torn_form word =
    if bytes_eq word (codes "keep") then Some Keep
    else (if bytes_eq word (codes "old") then Some Old
    else (if bytes_eq word (codes "half") then Some Half
    else option_map (λ bytes. Fill (slice_index bytes 0)) (result_ok (decode_sized word 1))))

-- CALLS: a number of disk calls, from 1 to 1000000
abbrev pub calls_form : List ℕ → Option ℕ
calls_form word = number_form 1 1000000 word
