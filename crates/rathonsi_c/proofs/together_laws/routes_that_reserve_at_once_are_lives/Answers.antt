use Rattle.rathonsi_c.proofs.TogetherLives.{cut_lives, done_lives, still_reserves, given_meanwhile, rejoined_meanwhile}
use Rattle.rathonsi_c.proofs.together_laws.routes_that_reserve_at_once_are_lives.Goals as goal

pub returns-clause-cut : goal.returns-clause-cut
returns-clause-cut c = λ m n which plans a b h empty cut none opened. cut_lives m n which a plans h b cut none opened empty

pub returns-clause-done : goal.returns-clause-done
returns-clause-done c = λ m n which plans a h empty. done_lives m n which a plans h empty

pub returns-clause-reserved : goal.returns-clause-reserved
returns-clause-reserved c = λ m n which plans a h k old lt empty. still_reserves m n which a plans h k old lt empty

pub returns-clause-meanwhile : goal.returns-clause-meanwhile
returns-clause-meanwhile c = λ direction m n k freshness which plans a b h g. given_meanwhile direction m n k freshness which plans a b h g

pub returns-clause-rejoined : goal.returns-clause-rejoined
returns-clause-rejoined c = λ m n k counter which plans a b h j. rejoined_meanwhile m n k counter which plans a b h j
