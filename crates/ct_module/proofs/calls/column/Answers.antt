use Rattle.ct_module.proofs.Base.{◌≡◌, ◌∙◌, ap, sym, subst}
use Rattle.ct_ore.specs.Naming.{actions_of}
use Rattle.ct_module.specs.Columns.{symbols_of}
use Rattle.ct_module.specs.Modules.{dimension}
use Rattle.ct_module.specs.Values.{vector_of, key_vector, made_by, rows_by_value}
use Rattle.ct_module.proofs.calls.column.Goals as goal
use Rattle.ct_module.proofs.calls.column.Goals.{in-Free+in_ok-entries-in-Free, in-Cert+in_ok-entries-in-Cert}

pub returns-clause-means : goal.returns-clause-means
returns-clause-means c =
    let s = c.args.setting.now in
    let d = dimension s.space in
    elim c.match-key.branch [
      | in-Free+in_ok-entries-in-Free w ↦
          let v = w.in_ok-entries-in-Free.entries.items in
          let γ = w.in-Free.m in
          let by_module :
          vector_of d v ≡ made_by (actions_of w.algebra.result.now) d (rows_by_value s.space) (symbols_of γ) (vector_of d w.start.result.now) =
          subst (λ m. vector_of (dimension m) v ≡
          made_by (actions_of w.algebra.result.now) (dimension m) (rows_by_value m) (symbols_of γ) (vector_of (dimension m) w.start.result.now))
          w.module-module.ensures w.in_ok-entries-in-Free.ensures.means in
          let by_names : vector_of d v ≡ made_by (actions_of s.names) d (rows_by_value s.space) (symbols_of γ) (vector_of d w.start.result.now) =
          subst (λ ns. vector_of d v ≡ made_by (actions_of ns) d (rows_by_value s.space) (symbols_of γ) (vector_of d w.start.result.now)) w.algebra.ensures
          by_module in
          ap (λ e. vector_of d e.items) w.entries-is ∙ by_names
          ∙ ap (λ x. made_by (actions_of s.names) d (rows_by_value s.space) (symbols_of γ) (vector_of d x))
          (w.start.ensures ∙ ap (λ m. m.start) w.module-module.ensures)
          ∙ ap (key_vector s) (sym w.in-Free.is)
      | in-Cert+in_ok-entries-in-Cert w ↦
          ap (λ e. vector_of d e.items) w.entries-is ∙ w.in_ok-entries-in-Cert.ensures.means ∙ ap (key_vector s) (sym w.in-Cert.is)
    ]
