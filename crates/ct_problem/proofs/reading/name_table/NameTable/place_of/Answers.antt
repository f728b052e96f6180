use Rattle.ct_problem.proofs.Base.{◌≡◌, map, bytes_eq}
use Rattle.ct_problem.proofs.AddedTexts.{items_of}
use Rattle.ct_problem.proofs.Places.{position-map}
use Rattle.ct_problem.proofs.reading.name_table.NameTable.place_of.Goals as goal

pub returns : goal.returns
returns c =
    let seen : c.args.self.now ≡ map items_of c.self.inside.texts.keys = cc in
    rw seen (rw (position-map (bytes_eq c.args.text.now) items_of c.self.inside.texts.keys) c.get_index_of.ensures.index)
