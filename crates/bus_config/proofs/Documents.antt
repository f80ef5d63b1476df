-- The bus of the bytes of a document, and of other bytes
use Rattle.std.proofs.Common.{◌≡◌, ℕ, Bool, true, false, cond, None, Some, Err, List, refl, ap, ◌∙◌}
use Rattle.std.specs.Option.{ok_or}
use Rattle.std.specs.Str.{IsUtf8, is_utf8}
use Rattle.std.proofs.lemmas.Str.{IsUtf8-from_is_utf8, is_utf8-from_IsUtf8}
use Rattle.toml.specs.Data.{Members}
use Rattle.toml.specs.Parse.{parse_document}
use Rattle.text_lines.specs.Readings.{◌>>=◌}
use Rattle.bus_config.specs.declared.fault.ConfigFault.TheVariants as fault
use Rattle.bus_config.specs.BusFile.{bus_in, bus_of, document_of}

pub bus_of_document : (text : List ℕ) (table : Members) → IsUtf8 text × (parse_document text ≡ Some table) → bus_of text ≡ bus_in table
bus_of_document text table parsed =
    let document : document_of text ≡ Some table = ap (λ b. cond b (parse_document text) None) (is_utf8-from_IsUtf8 text parsed.0) ∙ parsed.1 in
    ap (λ o. ok_or o fault.Toml >>= bus_in) document

no_document : (text : List ℕ) → (IsUtf8 text → parse_document text ≡ None) → document_of text ≡ None
no_document text refused = by_test (is_utf8 text) refl
  where
    by_test : (b : Bool) → is_utf8 text ≡ b → cond b (parse_document text) None ≡ None
    by_test true utf8 = refused (IsUtf8-from_is_utf8 text utf8)
    by_test false other = refl

pub bus_of_other : (text : List ℕ) → (IsUtf8 text → parse_document text ≡ None) → bus_of text ≡ Err fault.Toml
bus_of_other text refused = ap (λ o. ok_or o fault.Toml >>= bus_in) (no_document text refused)
