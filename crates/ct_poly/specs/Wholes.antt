-- Whole numbers within the limit (this project's own).
--     checked_whole n     the number, unless it passes the largest norm
use Rattle.std.specs.Prelude.{ℕ, ltb, None}
use Rattle.ct_checked.specs.Checked.{Checked, verdict}
use Rattle.ct_checked.specs.Limits.{largest_norm}
use Rattle.ct_checked.specs.declared.fault.Kind.TheVariants.{Number}
use Rattle.ct_poly.specs.Measures.{broken}

unfoldable pub checked_whole : ℕ → Checked ℕ
checked_whole n = verdict (broken (ltb largest_norm n) Number None) n
