use Rattle.seal_parts.specs.declared.PartClass.TheVariants.{Blanks}
use Rattle.seal_parts.specs.Parts.{PartFlash}
use Rattle.seal_parts.specs.Designs.{DoesPartWrites}
use Rattle.seal_laws.specs.Writes.{put_writes, move_writes}
use Rattle.seal_laws.proofs.Living.{nothing_after_put, nothing_after_move, nothing_after_resets}
use Rattle.seal_laws.proofs.laws.a_start_after_a_put_writes_nothing_on_a_part_of_blanks.Goals as goal

pub returns-clause-put : goal.returns-clause-put
returns-clause-put c = λ s events resets cells now made a b m d point cell payload found after x run is fits does only lives.
    nothing_after_resets s (λ (f : PartFlash). DoesPartWrites Blanks (put_writes Blanks point cell payload) b.flash f)
    (λ e other cells_found read done finds. nothing_after_put s events cells a b x run point now cells_found cell payload e other read is fits done finds) resets made m d found after only does lives

pub returns-clause-moves : goal.returns-clause-moves
returns-clause-moves c = λ s events resets cells now fresh made a b m d point found after x run is fits count does only lives.
    nothing_after_resets s (λ (f : PartFlash). DoesPartWrites Blanks (move_writes Blanks s point fresh) b.flash f)
    (λ e other cells_found read done finds. nothing_after_move s events cells a b x run point now fresh is e other read cells_found fits count done finds) resets made m d found after only does lives
