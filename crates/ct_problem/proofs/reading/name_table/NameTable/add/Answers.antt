use Rattle.ct_problem.proofs.AddedTexts.{added_last}
use Rattle.ct_problem.proofs.reading.name_table.NameTable.add.Goals as goal

pub returns-clause-added : goal.returns-clause-added
returns-clause-added c =
    rw (c.in_ok-insert.ensures.keys)
    (added_last c.self.inside.texts.keys c.in_ok-copy.copy c.args.text.now c.args.self.now (cc) c.in_ok-copy.ensures.items c.requires)
