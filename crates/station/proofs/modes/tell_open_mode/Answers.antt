use Rattle.std.proofs.Common.{◌∙◌, ◌⊎◌, sym, inr, subst, ℕ, List}
use Rattle.program_edge.specs.Told.{EndingTold}
use Rattle.station.specs.Modes.{open_mode_text}
use Rattle.station.proofs.modes.tell_open_mode.Goals as goal

pub returns-in-Ok : goal.returns-in-Ok
returns-in-Ok g c =
    inr (
      c.in-Some.file.now,
      c.tell-status.result,
      sym c.in-Some.ensures,
      subst (λ (t : List ℕ). EndingTold (g.E.Sink.state c.args.errors.now) (g.E.Sink.state c.tell-status.new.sink) t 0 c.tell-status.result)
          (c.as_bytes.ensures.value ∙ c.in-Ok.ensures.ok) c.tell-status.ensures,
    )
