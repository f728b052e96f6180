use Rattle.ct_setup.proofs.Base.{ap, ◌∙◌, not, map, string_bytes, length-map}
use Rattle.ct_setup.proofs.NoLets.{empty_definitions}
use Rattle.ct_setup.proofs.lines.has_lets.Goals as goal

pub returns : goal.returns
returns c =
    let names = c.args.problem.now.let_names.items in
    ap not (empty_definitions (map string_bytes names) c.args.problem.now.lets (length-map names string_bytes
    ∙ c.args.problem.now.formed.a_name_each) c.is_empty.result c.is_empty.ensures)
