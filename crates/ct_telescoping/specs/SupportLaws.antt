-- What the laws of supports and their systems say; the functions of src/laws.rt prove them.
--     ColumnsAreOfSupport          the list of columns has each column of the support once, and no other; those of certificates
--                                  come first
--     SystemIsMade                 the listed rows and their entries are a system
--     SystemIsDetermined           the vectors of columns have one system over a common denominator
--     SystemIsFree                 the entries of a system have no summed name
--     EliminationDecidesSupport    where no column is free, the right sides of the pivots' rows refute the support; where one
--                                  is, a null vector is one for the support, also with a factor left out of all its entries
--     RefutedIsEmpty               for a tested task, rows that refute the system of a support show that it has no telescoper
--     AssemblyCertifies            for a tested task, what a null vector of the system of a support is assembled to certifies,
--                                  once its residual is reduced
-- The columns of certificates come first, so elimination starts to ask for pivots at their number.
use Rattle.std.specs.Prelude.{◌≡◌, ◌≢◌, ◌↔◌, ℕ, ◌<◌, ◌≤◌, None, Some, List, length}
use Rattle.std.specs.List.{Contains}
use Rattle.ct_algebra.specs.Monomial.{Mono}
use Rattle.ct_algebra.specs.Names.{Name}
use Rattle.ct_algebra.specs.Polynomial.{Polynomial, polys, polys_domain}
use Rattle.ct_algebra.specs.Actions.{Action}
use Rattle.ct_algebra.specs.Operators.{Operator, no_operator}
use Rattle.ct_algebra.specs.FreeOf.{EachName, IsFreeOfAll, IsOver}
use Rattle.ct_algebra.specs.Leading.{IsReduced}
use Rattle.ct_algebra.specs.Membership.{Reduction, ReducesTo}
use Rattle.ct_algebra.specs.Fractions.{embed}
use Rattle.ct_algebra.specs.Field.{K, field}
use Rattle.ct_algebra.specs.Certificate.{Certificate, Certifies}
use Rattle.ct_telescoping.specs.Vector.{Vector, entry, listed}
use Rattle.ct_telescoping.specs.Elimination.{State}
use Rattle.ct_telescoping.specs.Echelon.{Pivot, IsElimination, IsNullVector}
use Rattle.ct_telescoping.specs.EntriesFree.{EntriesAreFree}
use Rattle.ct_telescoping.specs.Rising.{IsOnce}
use Rattle.ct_telescoping.specs.Columns.{Column, column_at, columns_of_support, certificate_count, IsColumnOf, IsOfTelescoper, IsListed, AreDistinct}
use Rattle.ct_telescoping.specs.Assembly.{IsAssembled, residual, reduced_by}
use Rattle.ct_telescoping.specs.System.{ReadsEntries, IsSystemOf, row_keys, matrix_at}
use Rattle.ct_telescoping.specs.Task.{Task, IsTestedTask, TaskCommutes, count_for, certificates_for, column_for, AreNonzero, IsSystemFor, RefutesFor, IsNullFor, IsEmpty}

-- the columns of a support over names and elements that differ
module _ (a : Name → Action) (summed : List Name) (d : ℕ) (element : ℕ → Mono) (order degree : ℕ) where
  pub record AreOfSupport (columns : List Column) (certificates : ℕ) : Type 0 where
    pub distinct : AreDistinct (length columns) (column_at columns)
    pub sound : (i : ℕ) → i < length columns → IsColumnOf a summed d element order degree (column_at columns i)
    pub complete : (c : Column) → IsColumnOf a summed d element order degree c → IsListed (length columns) (column_at columns) c
    pub certificates_first :
        (i : ℕ) → i < length columns → IsOfTelescoper (column_at columns i) ↔ certificates ≤ i

abbrev pub ColumnsAreOfSupport : Type 0
ColumnsAreOfSupport =
    (a : Name → Action) (summed : List Name) (d : ℕ) (element : ℕ → Mono) (order degree : ℕ) →
    IsOnce summed → ((j k : ℕ) → j < d → k < d → element j ≡ element k → j ≡ k) →
    AreOfSupport a summed d element order degree (columns_of_support a summed (listed element 0 d) order degree)
    (certificate_count summed (listed element 0 d) degree)

-- the columns' vectors are cleared of a nonzero common denominator
abbrev pub SystemIsMade : Type 0
SystemIsMade =
    (summed : List Name) (d m : ℕ) (vector_of : ℕ → Vector K d) (common : Polynomial) (numerator : ℕ → ℕ → Polynomial) →
    common ≢ polys.zero →
    ((i b : ℕ) → i < m → b < d →
    embed polys polys_domain (numerator i b) ≡ field.◌*◌ (embed polys polys_domain common) (entry field.group d (vector_of i) b)) →
    IsSystemOf summed d m vector_of (length (row_keys summed m numerator d))
    (matrix_at summed m numerator (row_keys summed m numerator d))

pub record AreSameMatrices (m n k : ℕ) (matrix other : ℕ → ℕ → Polynomial) : Type 0 where
  pub sizes : n ≡ k
  pub entries : (r i : ℕ) → r < n → i < m → matrix r i ≡ other r i

abbrev pub SystemIsDetermined : Type 0
SystemIsDetermined =
    (summed : List Name) (d m : ℕ) (vector_of : ℕ → Vector K d) (n k : ℕ) (matrix other : ℕ → ℕ → Polynomial)
    (first : IsSystemOf summed d m vector_of n matrix) (second : IsSystemOf summed d m vector_of k other) →
    first.reads.common ≡ second.reads.common → AreSameMatrices m n k matrix other

-- so elimination of the matrix brings in no summed name
abbrev pub SystemIsFree : Type 0
SystemIsFree =
    (summed : List Name) (d m : ℕ) (vector_of : ℕ → Vector K d) (n : ℕ) (matrix : ℕ → ℕ → Polynomial) →
    ReadsEntries summed d m vector_of n matrix → EachName (λ j. EntriesAreFree j n m matrix) summed

module _ (t : Task) (order degree n : ℕ) (matrix : ℕ → ℕ → Polynomial) where
  pub record DecidesSupport (s : State Polynomial) (ps : List Pivot) : Type 0 where
    pub refutes :
        IsElimination polys n (count_for t order degree) matrix (certificates_for t order degree) None s ps → (us : ℕ → ℕ → Polynomial) →
        ((p : Pivot) → Contains ps p → certificates_for t order degree ≤ p.column → (k : ℕ) → k < n → us p.column k ≡ s.right p.row k) →
        RefutesFor t order degree n matrix us
    pub finds :
        (f : ℕ) → IsElimination polys n (count_for t order degree) matrix (certificates_for t order degree) (Some f) s ps →
        EachName (λ j. EntriesAreFree j n (count_for t order degree) s.left) t.summed →
        (x : ℕ → Polynomial) → IsNullVector polys n (count_for t order degree) matrix f s ps x → IsFreeOfAll t.summed (x f) →
        IsNullFor t order degree n matrix x
    pub divided :
        (q : Polynomial) (x y : ℕ → Polynomial) → q ≢ polys.zero →
        ((c : ℕ) → c < count_for t order degree → x c ≡ polys.◌*◌ q (y c)) →
        IsNullFor t order degree n matrix x → IsNullFor t order degree n matrix y

abbrev pub EliminationDecidesSupport : Type 0
EliminationDecidesSupport =
    (t : Task) (order degree n : ℕ) (matrix : ℕ → ℕ → Polynomial) (s : State Polynomial) (ps : List Pivot) →
    DecidesSupport t order degree n matrix s ps

abbrev pub RefutedIsEmpty : Type 0
RefutedIsEmpty =
    (t : Task) → IsTestedTask t → (commutes : TaskCommutes t) (order degree : ℕ) (denominators : Name → Polynomial) →
    AreNonzero t denominators →
    (n : ℕ) (matrix rows : ℕ → ℕ → Polynomial) → IsSystemFor t denominators order degree commutes n matrix →
    RefutesFor t order degree n matrix rows → IsEmpty t denominators order degree

-- a reduction of its residual leaves nothing, and its cofactors make a certificate
abbrev pub CertifiesOnceReduced : (Name → Action) → List Operator → List Name → Certificate → Type 0
CertifiesOnceReduced a generators summed c =
    (r : Reduction) → ReducesTo a generators (residual a c) r → IsOver a r.rest → IsReduced generators r.rest →
    (r.rest ≡ no_operator) × Certifies a summed generators (reduced_by r.scale r.cofactors c)

abbrev pub AssemblyCertifies : Type 0
AssemblyCertifies =
    (t : Task) → IsTestedTask t → (commutes : TaskCommutes t) (order degree : ℕ) (denominators : Name → Polynomial) →
    AreNonzero t denominators →
    (n : ℕ) (matrix : ℕ → ℕ → Polynomial) → IsSystemFor t denominators order degree commutes n matrix →
    (weight : ℕ → Polynomial) → IsNullFor t order degree n matrix weight →
    (c : Certificate) → IsAssembled (count_for t order degree) (column_for t order degree) weight t.actions t.summed denominators c →
    CertifiesOnceReduced t.actions t.generators t.summed c
