use Rattle.std.proofs.Common.{◌≡◌, [], subst, sym, rules}
use Rattle.std.proofs.lemmas.List.{nil_from_length}
use Rattle.program_edge.specs.declared.input.InputFault.TheVariants as input
use Rattle.keyfile_commands.specs.Rows.{ReadsImageFile}
use Rattle.keyfile_commands.specs.Steps.{LacksBootImage, no_image_read, no_image_in}
use Rattle.keyfile_commands.proofs.image.boot_image_from.Goals as goal

pub returns-then-is_empty : goal.returns-then-is_empty
returns-then-is_empty g c =
    let empty : c.in-Ok.bytes.items ≡ [] = search (rules, nil_from_length) in
    subst (LacksBootImage _) (sym c.fixed.ensures) (no_image_in (subst (ReadsImageFile _) empty c.in-Ok.ensures.ok))

pub returns-in-Err-Failed : goal.returns-in-Err-Failed
returns-in-Err-Failed g c =
    subst (LacksBootImage _) (sym c.from.ensures) (no_image_read input.ReadFault (rw c.in-Err-Failed.field-0-is at c.in-Err-Failed.ensures.refused))

pub returns-in-Err-TooLong : goal.returns-in-Err-TooLong
returns-in-Err-TooLong g c =
    subst (LacksBootImage _) (sym c.from-in-Err-TooLong.ensures) (no_image_read input.TooLong (rw c.in-Err-TooLong.field-0-is at c.in-Err-TooLong.ensures.refused))

pub returns-in-Err-Memory : goal.returns-in-Err-Memory
returns-in-Err-Memory g c =
    subst (LacksBootImage _) (sym c.no_memory.ensures) (no_image_read input.Memory (rw c.in-Err-Memory.field-0-is at c.in-Err-Memory.ensures.refused))
