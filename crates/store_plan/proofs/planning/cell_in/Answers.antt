use Rattle.cell_store.proofs.CallerLemmas.{cell_at-kept}
use Rattle.store_plan.proofs.planning.cell_in.Goals as goal

pub returns-in-Ok-clause-held : goal.returns-in-Ok-clause-held
returns-in-Ok-clause-held c = cell_at-kept c.args.image.now c.args.cell c.in-Ok.held c.in-Ok.ensures.keeps
