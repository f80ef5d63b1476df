use Rattle.adopt_commands.proofs.OverWords.{adopts_over}
use Rattle.adopt_commands.proofs.Naming.{none_without, none_unopened}
use Rattle.adopt_commands.proofs.start.adopts_words.Goals as goal

pub returns-clause-promises : goal.returns-clause-promises
returns-clause-promises g c = adopts_over _ _ _ _ _ _ _ c.adopt_asked.ensures.ends

pub returns-clause-none_made : goal.returns-clause-none_made
returns-clause-none_made g c without = none_without _ _ _ _ _ c.adopt_asked.ensures.makes without

pub returns-clause-unmade : goal.returns-clause-unmade
returns-clause-unmade g c same = none_unopened _ _ _ _ _ c.adopt_asked.ensures.makes same
