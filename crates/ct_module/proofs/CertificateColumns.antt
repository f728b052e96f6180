-- The columns of certificates, step by step. Main lemma `certificate_is`.
use Rattle.ct_module.proofs.Base.{◌≡◌, ◌∙◌, ℕ, Ok, List, ap, sym, pos, length, map, cond, eqb, ◌>>=◌, range_with_len}
use Rattle.std.proofs.lemmas.List.FromFn.{length-map-range_with_len}
use Rattle.ct_algebra.specs.Monomial.{Mono}
use Rattle.ct_algebra.specs.Names.{Name}
use Rattle.ct_algebra.specs.Substitution.{term}
use Rattle.ct_frac.specs.Normal.{normal}
use Rattle.ct_frac.specs.Written.{Denominator, Written}
use Rattle.ct_ore.specs.Naming.{actions_of}
use Rattle.ct_module.specs.Action.{checked_act}
use Rattle.ct_module.specs.Columns.{only_at, checked_denominator, checked_negative_difference}
unfoldable use Rattle.ct_module.specs.Columns.{checked_certificate_column}
use Rattle.ct_module.specs.Modules.{WrittenSetting, dimension, written_zero}

pub only_at-length : (d b : ℕ) (w : Written) → length (only_at d b w) ≡ d
only_at-length d b w = length-map-range_with_len (λ k. cond (eqb k b) w written_zero) 0 d

pub certificate_is :
    (s : WrittenSetting) (r : ℕ) (j : Name) (b : ℕ) (κ : Mono) (d : Denominator) (v acted : List Written) →
    v ≡ only_at (dimension s.space) b (normal (term κ (pos 1)) d) → checked_denominator s r j ≡ Ok d →
    checked_act s.names s.space j v ≡ Ok acted →
    checked_certificate_column s r j b κ ≡ checked_negative_difference (actions_of s.names j) v acted
unfolding checked_certificate_column
certificate_is s r j b κ d v acted is den act =
    let those : Denominator → List Written = λ d. only_at (dimension s.space) b (normal (term κ (pos 1)) d) in
    ap (λ o. o >>= (λ d. checked_act s.names s.space j (those d) >>= (λ acted. checked_negative_difference (actions_of s.names j) (those d) acted))) den
    ∙ ap (λ v. checked_act s.names s.space j v >>= (λ acted. checked_negative_difference (actions_of s.names j) v acted)) (sym is)
    ∙ ap (λ o. o >>= (λ acted. checked_negative_difference (actions_of s.names j) v acted)) act
