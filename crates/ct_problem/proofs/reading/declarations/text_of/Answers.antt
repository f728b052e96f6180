use Rattle.ct_problem.proofs.Base.{IsUtf8-from_ascii}
use Rattle.ct_problem.proofs.reading.declarations.text_of.Goals as goal

pub unwrap-requires : goal.unwrap-requires
unwrap-requires c = c.from_utf8.ensures.succeeds (rw c.in_ok-bytes.ensures.items (IsUtf8-from_ascii _ c.requires))
