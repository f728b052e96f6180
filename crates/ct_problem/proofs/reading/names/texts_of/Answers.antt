use Rattle.ct_problem.proofs.DifferentTexts.{different_before}
use Rattle.ct_problem.proofs.reading.names.texts_of.Goals as goal

pub add-requires : goal.add-requires
add-requires c =
    rw (c.as_bytes.ensures.value, c.loop-info.invariant)
    (different_before c.args.names.now c.loop-info.info-index c.info-item.result c.requires c.loop-info-test.true c.info-item.is)
