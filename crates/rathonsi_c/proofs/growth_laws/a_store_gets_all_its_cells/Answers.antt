use Rattle.rathonsi_c.proofs.GrowthRoom.{room-steps, each-ok, first-steps}
use Rattle.rathonsi_c.proofs.GrowthLaws.{follows}
use Rattle.rathonsi_c.proofs.growth_laws.a_store_gets_all_its_cells.Goals as goal

pub returns-clause-goes_on : goal.returns-clause-goes_on
returns-clause-goes_on c = λ table steps n top x y room few grew. room-steps table steps n top x y room few grew

pub returns-clause-each_is_ok : goal.returns-clause-each_is_ok
returns-clause-each_is_ok c = λ n top y filled direction plan status room upto below ranges own empty h. each-ok n top y filled direction plan status room upto below ranges own empty h

pub returns-clause-cells : goal.returns-clause-cells
returns-clause-cells c = λ table steps j x y grew. first-steps table steps j x y grew

pub returns-clause-kept : goal.returns-clause-kept
returns-clause-kept c = λ table steps j x y bytes grew is some. (follows table steps x y grew).same j bytes is some
