use Rattle.std.proofs.Common.{ℕ, ◌+◌, ◌≤◌, List, ◌++◌, length, length-append, Option, arith}
use Rattle.std.proofs.KnownBytes.{Consumes-trans}
use Rattle.std.proofs.lemmas.List.{length-take}
use Rattle.std.specs.Io.KnownBytes.{Consumes}
use Rattle.ct_io.specs.Taking.{TakesAtMost}
use Rattle.ct_io.proofs.reading.read_up_to.Goals as goal

-- what was taken before and what one more read takes is within the limit together
takes_more :
    (limit room : ℕ) (told old new : Option (List ℕ)) (text : List ℕ) →
    Consumes told old text →
    TakesAtMost room old new →
    length text + room ≤ limit →
    TakesAtMost limit told new
takes_more limit room told old new text consumed (taken, few, more) within =
    (text ++ taken, omega (arith, length-append text taken), Consumes-trans told old new text taken consumed more)

pub returns-in_err-read_piece-clause-takes : goal.returns-in_err-read_piece-clause-takes
returns-in_err-read_piece-clause-takes g c =
    takes_more c.args.most _ _ _ _ _ c.loop-bytes.invariant.consumed c.read_piece.ensures.takes (simp length-take (omega arith))
