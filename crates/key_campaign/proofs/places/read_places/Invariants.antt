-- So many cells are read.
use Rattle.key_campaign.specs.Places.{ReadSoFar}
use Rattle.key_campaign.proofs.places.read_places.Given as goal

abbrev pub invariant-loop-place : goal.invariant-loop-place
invariant-loop-place g l = ReadSoFar (g.C.Cells.state l.cells).cells l.place l.places
