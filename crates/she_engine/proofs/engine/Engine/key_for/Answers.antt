use Rattle.std.proofs.Common.{sym}
use Rattle.she_engine.proofs.Schedules.{no_key}
use Rattle.she_engine.proofs.engine.Engine.key_for.Goals as goal

pub returns-in-None-clause-refusal : goal.returns-in-None-clause-refusal
returns-in-None-clause-refusal c =
    absurd (no_key c.args.self.now.slots c.args.slot _ c.args.purpose (sym c.in_default.ensures) c.in-None.ensures)
