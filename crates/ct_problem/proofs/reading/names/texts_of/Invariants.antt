use Rattle.ct_problem.proofs.Base.{◌≡◌, map, take}
use Rattle.ct_problem.proofs.DifferentTexts.{text_of}
use Rattle.ct_problem.proofs.reading.names.texts_of.Given as goal

abbrev pub invariant-loop-info : goal.invariant-loop-info
invariant-loop-info l = l.texts ≡ map text_of (take l.info-index l.names)
