use Rattle.ct_poly.proofs.Base.{◌*◌, ◌∙◌, ap₂, arith}
use Rattle.ct_poly.proofs.CellNumbers.{cell_fits, cell_more, all_digits}
use Rattle.ct_poly.proofs.boxes.cell_of.Goals as goal

pub overflow_mul-number : goal.overflow_mul-number
overflow_mul-number c =
    omega (
      arith,
      cell_fits c.loop-i.i c.args.tops.now c.args.mono.now c.loop-i-test.true c.requires.inside c.requires.few,
      ap₂ ◌*◌ c.loop-i.invariant c.width.ensures.value,
    )

pub overflow_add-number : goal.overflow_add-number
overflow_add-number c =
    omega (
      arith,
      cell_fits c.loop-i.i c.args.tops.now c.args.mono.now c.loop-i-test.true c.requires.inside c.requires.few,
      ap₂ ◌*◌ c.loop-i.invariant c.width.ensures.value,
      c.from.ensures,
      c.exp.ensures,
    )

pub loop-i-preserved : goal.loop-i-preserved
loop-i-preserved c =
    omega (
      arith,
      cell_more c.loop-i.i c.args.tops.now c.args.mono.now,
      ap₂ ◌*◌ c.loop-i.invariant c.width.ensures.value,
      c.from.ensures,
      c.exp.ensures,
    )

pub returns : goal.returns
returns c = c.loop-i.invariant ∙ all_digits c.args.tops.now c.args.mono.now (omega (arith, c.loop-i-test.false, c.loop-i.auto.i-end))
