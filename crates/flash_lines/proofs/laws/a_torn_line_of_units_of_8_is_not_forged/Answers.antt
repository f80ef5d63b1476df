-- The power went in the last unit, behind the body, or the last unit is as it was erased.
use Rattle.std.proofs.Common.{◌≡◌, ◌≢◌, ◌*◌, ℕ, List, suc, Some, length, ap, sym, arith, inl, inr}
use Rattle.std.proofs.lemmas.Bool.{cases_lt}
use Rattle.flash_places.specs.declared.FlashLine.{FlashLine}
use Rattle.flash_places.specs.declared.FlashLine.TheVariants.{Head}
use Rattle.flash_lines.specs.declared.sizes.FlashSizes.{FlashSizes}
use Rattle.flash_lines.specs.Lines.{line_body, line_length, line_mark, HoldsLine}
use Rattle.flash_lines.specs.Reading.{TornLine}
use Rattle.flash_lines.proofs.LineLaws.{erased_is_none, body_tells, same_body, told_by_body, told_line}
use Rattle.flash_lines.proofs.laws.a_torn_line_of_units_of_8_is_not_forged.Goals as goal

-- what is read has the body of the line
torn_body : (erased : ℕ) (told : FlashSizes) (line other : FlashLine) (bytes : List ℕ) → length bytes ≡ line_length 8 → erased ≢ line_mark
    → TornLine 8 erased told line bytes → (h : HoldsLine bytes other) → line_body told line ≡ line_body h.told other
torn_body erased told line other bytes size differs torn h =
    elim (cases_lt (8 * suc torn.torn) (length bytes)) [
      | inl inside ↦ absurd (differs (erased_is_none bytes other (8 * suc torn.torn) erased torn.behind inside h))
      | inr last ↦ body_tells bytes told line other (8 * torn.torn) (omega (arith, size, torn.inside)) torn.is_line torn.before h
    ]

pub returns-clause-line : goal.returns-clause-line
returns-clause-line c erased told line bytes size differs torn other h =
    ap Some (same_body told h.told line other torn.is_line h.is_line (torn_body erased told line other bytes size differs torn h))

pub returns-clause-sizes : goal.returns-clause-sizes
returns-clause-sizes c erased told other line bytes size differs torn tells =
    let h = told_line bytes other tells in
    sym (told_by_body told other line tells.generation torn.sized tells.sized (torn_body erased told line (Head tells.generation) bytes size differs torn h))
