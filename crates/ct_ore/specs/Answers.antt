-- The certificate that an answer stands for.
--     summand_of p          a part as a certificate has it
--     certificate_of a      an answer as a certificate
-- A part's own polynomial is the factor of its summand.
use Rattle.std.specs.Prelude.{map}
use Rattle.ct_algebra.specs.Names.{name_with}
use Rattle.ct_algebra.specs.Certificate.{Summand, Certificate}
use Rattle.ct_ore.specs.declared.answer.Part.{Part}
use Rattle.ct_ore.specs.declared.answer.Answer.{Answer}

abbrev pub summand_of : Part → Summand
summand_of p = record { name = name_with p.name; numerator = p.numerator; denominator = p.denominator; factor = p.part }

abbrev pub certificate_of : Answer → Certificate
certificate_of a = record {
  telescoper = a.telescoper;
  scale = a.scale;
  summands = map summand_of a.parts.items;
  cofactors = a.cofactors.items;
}
