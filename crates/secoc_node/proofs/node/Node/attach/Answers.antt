use Rattle.std.proofs.Common.{refl}
use Rattle.secoc_node.specs.Keeping.{state_in}
use Rattle.secoc_node.proofs.FitsLaws.{fits_settled}
use Rattle.secoc_node.proofs.LifeLaws.{life_node, life_is, life_cells, life_sound, life_keeps, attached_kept, refused_for_memory}
use Rattle.secoc_node.proofs.node.Node.attach.Goals as goal

pub invariant_of-result : goal.invariant_of-result
invariant_of-result g c =
    life_node c.args.config (g.C.Cells.state c.args.cells).cells c.in-Ok.known c.attach.ensures.good c.requires.count c.in-Ok.ensures.begins (g.C.Cells.state c.args.cells) c.requires.whole refl

pub returns-in-Ok-clause-up : goal.returns-in-Ok-clause-up
returns-in-Ok-clause-up g c = life_is c.args.config (g.C.Cells.state c.args.cells).cells c.in-Ok.known c.attach.ensures.good c.requires.count c.in-Ok.ensures.begins

pub returns-in-Ok-clause-kept : goal.returns-in-Ok-clause-kept
returns-in-Ok-clause-kept g c = life_cells c.args.config (g.C.Cells.state c.args.cells).cells c.in-Ok.known c.attach.ensures.good c.requires.count c.in-Ok.ensures.begins

pub returns-in-Ok-clause-sound : goal.returns-in-Ok-clause-sound
returns-in-Ok-clause-sound g c = life_sound c.args.config (g.C.Cells.state c.args.cells).cells c.in-Ok.known c.attach.ensures.good c.requires.count c.in-Ok.ensures.begins

pub returns-in-Ok-clause-fits : goal.returns-in-Ok-clause-fits
returns-in-Ok-clause-fits g c settled =
    fits_settled (state_in c.in-Ok.known (g.C.Cells.state c.args.cells)) settled
    (life_keeps c.args.config (g.C.Cells.state c.args.cells).cells c.in-Ok.known c.attach.ensures.good c.requires.count c.in-Ok.ensures.begins (g.C.Cells.state c.args.cells) c.requires.whole refl)

pub returns-in-Ok-clause-of_kept : goal.returns-in-Ok-clause-of_kept
returns-in-Ok-clause-of_kept g c = attached_kept c.args.config (g.C.Cells.state c.args.cells).cells c.in-Ok.known c.attach.ensures.good c.requires.count c.in-Ok.ensures.begins

pub returns-in-Err-clause-of_kept : goal.returns-in-Err-clause-of_kept
returns-in-Err-clause-of_kept g c = refused_for_memory c.args.config (g.C.Cells.state c.args.cells).cells c.in-Err.fault c.attach.ensures.good c.in-Err.ensures.cause
