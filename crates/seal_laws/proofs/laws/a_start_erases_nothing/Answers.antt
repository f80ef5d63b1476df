use Rattle.seal_laws.proofs.Erasing.{start_erases, clean_writes, put_erases, move_erases}
use Rattle.seal_laws.proofs.laws.a_start_erases_nothing.Goals as goal

pub returns-clause-start : goal.returns-clause-start
returns-clause-start c = λ class s found. start_erases class s found

pub returns-clause-clean : goal.returns-clause-clean
returns-clause-clean c = λ class s found clean still. clean_writes class s found clean still

pub returns-clause-put : goal.returns-clause-put
returns-clause-put c = λ class point cell payload. put_erases class point cell payload

pub returns-clause-moves : goal.returns-clause-moves
returns-clause-moves c = λ class s point cells. move_erases class s point cells
