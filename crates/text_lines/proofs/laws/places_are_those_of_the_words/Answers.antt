use Rattle.text_lines.proofs.Unplaced.{unplaced-placed_lines_of}
use Rattle.text_lines.proofs.laws.places_are_those_of_the_words.Goals as goal

pub returns : goal.returns
returns c = unplaced-placed_lines_of
