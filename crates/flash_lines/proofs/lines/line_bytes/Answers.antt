-- All bytes of a line are written.
use Rattle.std.proofs.Common.{◌≡◌, ◌-◌, ◌≤◌, length, length-take-le, replicate, refl, sym, ap, ◌∙◌, arith, rules}
use Rattle.std.proofs.lemmas.List.{places, length-replicate}
use Rattle.basics.specs.Numbers.{bytes_of}
use Rattle.basics.proofs.CallerLemmas.{to_be_bytes-is, length-bytes_of}
use Rattle.flash_lines.specs.Crc.{crc64}
use Rattle.flash_lines.specs.Lines.{line_body, line_bytes, line_mark}
use Rattle.flash_lines.proofs.Written.{written}
use Rattle.flash_lines.proofs.lines.line_bytes.Goals as goal
use Rattle.std.specs.Int.{w64}

pub slice_bounds-copy_from_slice-end-2 : goal.slice_bounds-copy_from_slice-end-2
slice_bounds-copy_from_slice-end-2 c = sym (length-take-le 35 c.args.bytes.now (let room : 44 ≤ length c.args.bytes.now = c.requires in omega arith))

pub copy_from_slice-requires : goal.copy_from_slice-requires
copy_from_slice-requires c =
    length-take-le 35 c.args.bytes.now (let room : 44 ≤ length c.args.bytes.now = c.requires in omega arith) ∙ sym c.line_body-body.ensures.size

pub returns : goal.returns
unfolding line_bytes
returns c =
    let line = c.args.line.now in
    let told = c.args.told.now in
    let body : c.copy_from_slice.new.self ≡ line_body told line = c.copy_from_slice.ensures.after ∙ c.line_body-body.ensures.value in
    let number : c.crc64.result ≡ crc64 (line_body told line) = c.crc64.ensures ∙ ap crc64 c.line_body-body.ensures.value in
    let check : c.copy_from_slice-2.new.self ≡ bytes_of 8 (crc64 (line_body told line)) =
    c.copy_from_slice-2.ensures.after ∙ c.to_be_bytes.ensures ∙ to_be_bytes-is w64 c.crc64.result ∙ ap (bytes_of 8) number in
    let room : 44 ≤ length c.args.bytes.now = c.requires in
    let zeros : c.fill.new.self ≡ replicate (length c.args.bytes.now - 44) 0 =
    c.fill.ensures.after (λ y same. same) ∙ ap (λ n. replicate n 0) (search (rules, places)) in
    written c.args.bytes.now c.copy_from_slice.new.self c.copy_from_slice-2.new.self c.fill.new.self line_mark room
    (ap length c.copy_from_slice.ensures.after ∙ c.line_body-body.ensures.size)
    (ap length check ∙ length-bytes_of 8 (crc64 (line_body told line)))
    (ap length zeros ∙ length-replicate (length c.args.bytes.now - 44) 0)
    ∙ rw (body, check, zeros) refl
