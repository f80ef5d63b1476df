use Rattle.std.proofs.Common.{map, subst, sym}
use Rattle.std.specs.Prelude.{string_bytes}
use Rattle.program_edge.proofs.CallerLemmas.{EndsInRow-more}
use Rattle.keyfile_commands.specs.declared.run.KeyTask.TheVariants.{Words, Image}
use Rattle.keyfile_commands.specs.Steps.{TaskAsks, IsKeytoolCall}
use Rattle.keyfile_commands.proofs.Phases.{of_asked, of_image_task}
use Rattle.keyfile_commands.proofs.Promises.{KeyFilesRuns-row}
use Rattle.keyfile_commands.proofs.run.run_keyfiles.Goals as goal

pub returns-in-Words : goal.returns-in-Words
returns-in-Words g c =
    let asks : TaskAsks _ (Words c.in-Words.words) = subst (TaskAsks _) c.in-Words.is c.in-Ok.ensures in
    KeyFilesRuns-row _ _
    (EndsInRow-more (of_asked _ _ asks.4)
    (c.run_made.ensures asks.0 asks.1 asks.2
    (subst (λ ws. IsKeytoolCall asks.0 asks.1 (map string_bytes ws)) (sym c.as_slice.ensures.value) asks.3)))

pub returns-in-Ok : goal.returns-in-Ok
returns-in-Ok g c =
    let asks : TaskAsks _ (Image c.in-Image.key c.in-Image.image) = subst (TaskAsks _) c.in-Image.is c.in-Ok.ensures in
    KeyFilesRuns-row _ _
    (EndsInRow-more (of_image_task _ c.in-Image.key c.as_slice-in-Image.result.now c.in-Image.image c.as_slice-in-Image.ensures.value asks) c.print_mac.ensures)

pub returns : goal.returns
returns g c = KeyFilesRuns-row _ _ (record { row = c.in-Err.refusal; comes = c.in-Err.ensures; told = c.tell_refusal.ensures })
