-- The parts of a line.
use Rattle.std.proofs.Common.{◌≡◌, ap, sym, subst, refl, ◌∙◌, arith}
use Rattle.std.specs.Int.{w64, from_be_bytes}
use Rattle.basics.specs.Bytes.{IsBytes}
use Rattle.flash_places.specs.declared.FlashLine.TheVariants.{Head, Entry}
use Rattle.flash_lines.proofs.Parts.{tag_is, generation_is, cell_is, payload_is, part_is_bytes}
use Rattle.flash_lines.proofs.lines.line_parts.Goals as goal

pub returns-in-90-clause-whole : goal.returns-in-90-clause-whole
returns-in-90-clause-whole c (Head generation) h =
    let is : c.from_be_bytes.result ≡ generation =
    c.from_be_bytes.ensures ∙ ap (from_be_bytes w64) c.copy_from_slice.ensures.after ∙ generation_is _ _ h in
    rw is refl
returns-in-90-clause-whole c (Entry cell payload) h = absurd (omega (arith, tag_is _ _ h, c.in-90.is))

pub returns-in-165-clause-line : goal.returns-in-165-clause-line
returns-in-165-clause-line c = (
  omega arith,
  subst (IsBytes 32) (sym c.copy_from_slice-in-165.ensures.after)
      (part_is_bytes c.args.bytes.now 3 32 (λ i. omega (arith, (c.type_inv.bytes i).fits)) (omega (arith, c.requires))),
)

pub returns-in-165-clause-whole : goal.returns-in-165-clause-whole
returns-in-165-clause-whole c (Head generation) h = absurd (omega (arith, tag_is _ _ h, c.in-165.is))
returns-in-165-clause-whole c (Entry cell payload) h =
    let is_cell : c.from_be_bytes-cell.result ≡ cell = c.from_be_bytes-cell.ensures ∙ cell_is _ _ _ h in
    let is_payload : c.copy_from_slice-in-165.new.self ≡ payload = c.copy_from_slice-in-165.ensures.after ∙ payload_is _ _ _ h in
    rw (is_cell, is_payload) refl

pub returns-in_default-clause-whole : goal.returns-in_default-clause-whole
returns-in_default-clause-whole c (Head generation) h = absurd (omega (arith, tag_is _ _ h))
returns-in_default-clause-whole c (Entry cell payload) h = absurd (omega (arith, tag_is _ _ h))
