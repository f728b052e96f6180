use Rattle.std.proofs.Common.{rules}
use Rattle.ct_io.proofs.ReadPiece.{left-read}
use Rattle.ct_io.proofs.memory.MemSourceSource.read.Goals as goal

pub returns-clause-left : goal.returns-clause-left
returns-clause-left c =
    rw (← c.self.view_is)
    (left-read c.self.inside.bytes.items c.copy_from_slice.new.self c.args.piece.now c.self.inside.at c.min-count.result c.self.inside.step
    c.self.invariant.1 (search rules) (search rules))
