use Rattle.secoc_words.specs.Frames.{frames_of}
use Rattle.secoc_words.proofs.FrameSizes.{sizes_from_gives}
use Rattle.secoc_words.proofs.frames.read_frames.Goals as goal

pub returns-clause-sizes : goal.returns-clause-sizes
unfolding frames_of
returns-clause-sizes c = sizes_from_gives c.args.text.now c.read_lines.result c.read_lines.ensures
