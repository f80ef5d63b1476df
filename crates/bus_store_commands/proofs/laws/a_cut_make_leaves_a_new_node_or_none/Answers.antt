use Rattle.bus_store_commands.proofs.MakeCuts.{make_leaves, cut_leaves}
use Rattle.bus_store_commands.proofs.laws.a_cut_make_leaves_a_new_node_or_none.Goals as goal

pub returns-clause-made : goal.returns-clause-made
returns-clause-made c = make_leaves

pub returns-clause-cut : goal.returns-clause-cut
returns-clause-cut c = λ kind version config size before after fault good told room h.
    cut_leaves kind version config good size room before after told fault h
