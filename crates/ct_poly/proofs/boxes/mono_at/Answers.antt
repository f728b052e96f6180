use Rattle.ct_poly.proofs.BoundingBoxes.{divides_trans}
use Rattle.ct_poly.proofs.boxes.mono_at.Goals as goal

pub cell_of-requires-clause-inside : goal.cell_of-requires-clause-inside
cell_of-requires-clause-inside c =
    divides_trans c.in_ok-mono.mono c.args.room.now c.args.tops.now (c.in_ok-over.field-0, c.in_ok-over.ensures.divides) c.requires.inside
