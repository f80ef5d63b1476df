-- The lemmas that crates above cite.
pub use Rattle.text_lines.proofs.Numbers.{number_in_range}
pub use Rattle.text_lines.proofs.Results.{at_line_ok, bind_ok, chosen_some, counted_ok, field_ok, limited_ok, ok_some}
pub use Rattle.text_lines.proofs.Sizes.{All-read_from, hex_bytes_form-sizes}
pub use Rattle.text_lines.proofs.Values.{values_given}
pub use Rattle.text_lines.proofs.WrittenDigits.{all_writable, bytes_form-word, bytes_word-plain, digits_of}
pub use Rattle.text_lines.proofs.WrittenDigits.{digits_plain, first_digit, hex_bytes_form-encode, list_all-both}
pub use Rattle.text_lines.proofs.WrittenDigits.{plain_word, read_from-words, sized_encode}
pub use Rattle.text_lines.proofs.WrittenLines.{words-written}
pub use Rattle.text_lines.proofs.SpacedLaws.{written-spaced}
