use Rattle.std.proofs.Common.{refl, subst, Ok, map}
use Rattle.std.specs.Prelude.{string_bytes}
use Rattle.program_edge.proofs.CallerLemmas.{EndsInRow-more}
use Rattle.key_commands.specs.declared.tasks.Task.TheVariants.{Words}
use Rattle.key_commands.specs.Rows.{AsksFor}
use Rattle.key_commands.proofs.Engines.{engine_asked}
use Rattle.key_commands.proofs.Phases.{asked_row}
use Rattle.key_commands.proofs.Promises.{Keys-ran, apart, loads}
use Rattle.key_commands.proofs.run.run_asked.Goals as goal

pub load_over-requires : goal.load_over-requires
load_over-requires g c = engine_asked _ c.in-Load.uid (subst (λ task. AsksFor (map string_bytes c.args.words.now) (Ok task)) c.in-Load.is c.in-Ok.ensures)

pub returns-in-Words : goal.returns-in-Words
returns-in-Words g c =
    Keys-ran _ _
    (apart
    (EndsInRow-more
    (asked_row _ (Words c.in-Words.task)
    (subst (λ task. AsksFor (map string_bytes c.args.words.now) (Ok task)) c.in-Words.is c.in-Ok.ensures))
    c.do_job.ensures) refl refl refl refl)

pub returns-in-Ok : goal.returns-in-Ok
returns-in-Ok g c =
    Keys-ran _ _
    (loads c.in-Load.uid
    (subst (λ task. AsksFor (map string_bytes c.args.words.now) (Ok task)) c.in-Load.is c.in-Ok.ensures)
    c.load_over.ensures.ends)

pub returns : goal.returns
returns g c =
    Keys-ran _ _ (apart (record { row = c.in-Err.refusal; comes = c.in-Err.ensures; told = c.tell_refusal.ensures }) refl refl refl refl)
