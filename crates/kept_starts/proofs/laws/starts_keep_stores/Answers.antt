use Rattle.kept_starts.proofs.KeepLaws.{starts_keep, refused_writes_nothing}
use Rattle.kept_starts.proofs.RefusedLaws.{refused_start_writes_nothing}
use Rattle.kept_starts.proofs.laws.starts_keep_stores.Goals as goal

pub returns-clause-opened : goal.returns-clause-opened
returns-clause-opened c = starts_keep

pub returns-clause-refused : goal.returns-clause-refused
returns-clause-refused c = refused_writes_nothing

pub returns-clause-refused_start : goal.returns-clause-refused_start
returns-clause-refused_start c = refused_start_writes_nothing
