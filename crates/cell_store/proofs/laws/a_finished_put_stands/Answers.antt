use Rattle.cell_store.proofs.PutLaws.{put_stands}
use Rattle.cell_store.proofs.laws.a_finished_put_stands.Goals as goal

pub returns : goal.returns
returns c = λ layout x y cells i b stands below sized put. put_stands layout x y cells i b stands below sized put
