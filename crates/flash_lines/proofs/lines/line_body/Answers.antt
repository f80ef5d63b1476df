-- The numbers of a line, as bytes.
use Rattle.std.proofs.Common.{refl}
use Rattle.std.proofs.Math.Nat.{div-one}
use Rattle.std.proofs.lemmas.List.{append-nil}
use Rattle.basics.specs.Numbers.{bytes_of}
use Rattle.flash_lines.specs.Lines.{sizes_bytes, line_body}
use Rattle.flash_lines.proofs.lines.line_body.Goals as goal

pub returns-in-Head-clause-value : goal.returns-in-Head-clause-value
unfolding line_body bytes_of sizes_bytes
returns-in-Head-clause-value c =
    rw (c.in-Head.is, c.copy_from_slice-in-Head.ensures.after, c.sizes_bytes.ensures, c.copy_from_slice.ensures.after, c.to_be_bytes.ensures, div-one c.in-Head.generation) refl

pub returns-in-Entry-clause-value : goal.returns-in-Entry-clause-value
unfolding line_body bytes_of
returns-in-Entry-clause-value c =
    rw (c.in-Entry.is, c.copy_from_slice-in-Entry.ensures.after, append-nil c.in-Entry.payload, c.to_be_bytes-in-Entry.ensures, div-one c.in-Entry.cell) refl
