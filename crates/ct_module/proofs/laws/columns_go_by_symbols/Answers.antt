use Rattle.ct_module.proofs.ColumnSymbols.{column-one, column-symbol}
use Rattle.ct_module.proofs.laws.columns_go_by_symbols.Goals as goal

pub returns : goal.returns
returns c = record { one = column-one; symbols = column-symbol }
