use Rattle.ct_module.proofs.TestedColumns.{column_vectors}
use Rattle.ct_module.proofs.laws.tested_columns_are_vectors.Goals as goal

pub returns : goal.returns
returns c = column_vectors
