-- What is read of a place whose bytes are a line, or none.
use Rattle.std.proofs.Common.{◌≡◌, List, ℕ, Some, None, length, refl, sym, ap, ◌∙◌}
use Rattle.flash_places.specs.declared.FlashLine.{FlashLine}
use Rattle.flash_places.specs.declared.FlashLine.TheVariants.{Head, Entry}
use Rattle.flash_places.specs.Places.{FlashPlace, Looks}
use Rattle.flash_lines.specs.declared.sizes.FlashSizes.{FlashSizes}
use Rattle.flash_lines.specs.Lines.{line_bytes, HoldsLine, HoldsNoLine, TellsSizes}
use Rattle.flash_lines.specs.Reading.{PlaceReads}
use Rattle.flash_lines.proofs.LineLaws.{entry_bytes}

pub line_is_seen : (p q : FlashPlace) (bytes : List ℕ) (line : FlashLine) → PlaceReads p bytes q → HoldsLine bytes line → Looks p (Some line) q
line_is_seen p q bytes line reads h = Looks.sees line (reads.not_forged line h) refl (reads.settled line h)

pub none_is_seen : (p q : FlashPlace) (bytes : List ℕ) → PlaceReads p bytes q → HoldsNoLine bytes → Looks p None q
none_is_seen p q bytes reads none = Looks.sees_nothing (reads.firm none) refl (reads.same none)

-- the bytes of a line are those that it makes, with the sizes that it tells
pub rebuilt : (bytes : List ℕ) (line : FlashLine) (told : FlashSizes) → HoldsLine bytes line
    → ((other : FlashSizes) → TellsSizes bytes other → told ≡ other) → line_bytes (length bytes) told line ≡ bytes
rebuilt bytes (Head generation) told h is =
    ap (λ t. line_bytes (length bytes) t (Head generation))
    (is h.told (record { generation = generation; is_head = h.is_line; sized = h.sized; bytes_are = h.bytes_are }))
    ∙ sym h.bytes_are
rebuilt bytes (Entry cell payload) told h is = entry_bytes (length bytes) cell payload told h.told ∙ sym h.bytes_are
