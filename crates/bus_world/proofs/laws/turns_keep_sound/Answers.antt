use Rattle.bus_world.proofs.SoundLaws.{turns_keep_sound}
use Rattle.bus_world.proofs.laws.turns_keep_sound.Goals as goal

pub returns : goal.returns
returns c = turns_keep_sound
