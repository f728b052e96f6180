use Rattle.ct_problem.proofs.Base.{◌≡◌, names_of}
use Rattle.ct_problem.proofs.KnownTexts.{new-texts}
use Rattle.ct_problem.proofs.reading.names.Names.add_let.Goals as goal

pub add-requires : goal.add-requires
add-requires c =
    let seen : c.args.self.now ≡ names_of c.self.inside = cc in
    let other = rw seen at c.requires.other in
    rw (c.as_bytes.ensures.value, c.self.invariant.same_texts) (new-texts _ (names_of c.self.inside) other)
