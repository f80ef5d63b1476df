use Rattle.rathonsi_c.proofs.PairLaws.{rises_over_pairs, rises_in_one_life}
use Rattle.rathonsi_c.proofs.rejoin_laws.freshness_rises_though_a_receiver_rejoins.Goals as goal

pub returns-clause-all_lives : goal.returns-clause-all_lives
returns-clause-all_lives c = λ m n s r deeds first last powered up x y lives genuine. rises_over_pairs m n s r deeds first last powered up x y lives genuine

pub returns-clause-one_life : goal.returns-clause-one_life
returns-clause-one_life c = λ m n s r before deeds first mid last up y lived lives stays. rises_in_one_life m n s r before deeds first mid last up y lived lives stays
