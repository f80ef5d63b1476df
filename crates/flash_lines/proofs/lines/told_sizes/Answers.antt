-- The sizes of a head.
use Rattle.std.proofs.Common.{◌≡◌, None, sym, subst}
use Rattle.std.specs.Prelude.{MatchOption}
use Rattle.flash_places.specs.declared.FlashLine.TheVariants.{Head, Entry}
use Rattle.flash_lines.specs.declared.sizes.FlashSizes.{FlashSizes}
use Rattle.flash_lines.specs.Lines.{HoldsLine, TellsSizes, TellsNoSizes}
use Rattle.flash_lines.proofs.LineLaws.{one_line, told_line}
use Rattle.flash_lines.proofs.lines.told_sizes.Goals as goal

pub returns-in_err-read_line : goal.returns-in_err-read_line
returns-in_err-read_line c =
    subst (λ o. MatchOption o (TellsNoSizes c.args.bytes.now) (TellsSizes c.args.bytes.now)) (sym c.from_residual.ensures)
    (λ told t. c.in_err-read_line.ensures.reads (Head t.generation) (told_line c.args.bytes.now told t))

pub returns-in-Head : goal.returns-in-Head
returns-in-Head c =
    let h : HoldsLine c.args.bytes.now (Head c.in-Head.field-0) = subst (λ line. HoldsLine c.args.bytes.now line) c.in-Head.is c.in_ok-read_line.ensures.reads in
    let tells : TellsSizes c.args.bytes.now h.told = record { generation = c.in-Head.field-0; is_head = h.is_line; sized = h.sized; bytes_are = h.bytes_are } in
    subst (λ told. TellsSizes c.args.bytes.now told) (sym (c.told_parts.ensures h.told tells)) tells

pub returns-in-Entry : goal.returns-in-Entry
returns-in-Entry c told t =
    let h : HoldsLine c.args.bytes.now (Entry c.in-Entry.field-0 c.in-Entry.field-1) = subst (λ line. HoldsLine c.args.bytes.now line) c.in-Entry.is c.in_ok-read_line.ensures.reads in
    absurd (let e = one_line c.args.bytes.now _ _ h (told_line c.args.bytes.now told t) in cc)
