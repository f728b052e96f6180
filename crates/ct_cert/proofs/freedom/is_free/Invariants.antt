use Rattle.ct_cert.proofs.Base.{◌≡◌, length}
use Rattle.ct_ore.specs.Terms.{op_entries}
use Rattle.ct_cert.specs.Certificates.{names_of}
use Rattle.ct_cert.specs.Freedom.{each_passes, term_lacks, operator_lacks}
use Rattle.ct_cert.proofs.freedom.is_free.Given as goal

abbrev pub invariant-loop-term : goal.invariant-loop-term
invariant-loop-term l =
    each_passes (λ e. term_lacks (names_of l.parts) e.0 e.1) (op_entries l.rest) ≡ operator_lacks (names_of l.parts) l.op

abbrev pub decreases-loop-term : goal.decreases-loop-term
decreases-loop-term l = length l.rest
