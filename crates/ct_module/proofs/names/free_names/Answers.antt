use Rattle.ct_module.proofs.Base.{◌≡◌, ◌≢◌, ◌++◌, ◌∷◌, ◌+◌, [], ◌∙◌, ap, ap₂, sym, subst, rules}
use Rattle.ct_ore.specs.Naming.{namings_of, naming_of}
use Rattle.ct_ore.specs.declared.algebra.Role.TheVariants.{Free}
use Rattle.ct_module.proofs.DeclaredNames.{IsSeeking, seeking_start, seeking_free, seeking_other}
use Rattle.ct_module.proofs.names.free_names.Goals as goal
use Rattle.ct_module.proofs.names.free_names.Goals.{then-eq+in_ok-push, else-eq}

pub seeking-init : goal.seeking-init
seeking-init c =
    subst (λ xs. IsSeeking c.args.algebra.now xs 0 (namings_of c.infos-rest.result.now)) (sym c.new-found.ensures.items)
    (subst (IsSeeking c.args.algebra.now [] 0) (sym c.infos-rest.ensures.names) (seeking_start c.args.algebra.now c.infos-rest.ensures.algebra))

pub seeking-preserved : goal.seeking-preserved
seeking-preserved c =
    let at : IsSeeking c.args.algebra.now c.seeking.found.items c.seeking.i (naming_of c.in-Some.info.now ∷ namings_of c.in-Some.more.now) =
    subst (λ l. IsSeeking c.args.algebra.now c.seeking.found.items c.seeking.i (namings_of l)) c.in-Some.ensures.cases.0 c.seeking.invariant in
    elim c.if-eq.branch [
      | then-eq+in_ok-push w ↦
          let here : c.in-Some.info.now.role ≡ Free = search rules in
          let items : c.if-eq.found.items ≡ c.seeking.found.items ++ c.seeking.i ∷ [] = search rules in
          subst (λ xs. IsSeeking c.args.algebra.now xs (c.seeking.i + 1) (namings_of c.in-Some.more.now)) (sym items)
          (seeking_free c.args.algebra.now c.seeking.found.items c.seeking.i (naming_of c.in-Some.info.now) (namings_of c.in-Some.more.now) at here)
      | else-eq w ↦
          let other : c.in-Some.info.now.role ≢ Free = search rules in
          let items : c.if-eq.found.items ≡ c.seeking.found.items = search rules in
          subst (λ xs. IsSeeking c.args.algebra.now xs (c.seeking.i + 1) (namings_of c.in-Some.more.now)) (sym items)
          (seeking_other c.args.algebra.now c.seeking.found.items c.seeking.i (naming_of c.in-Some.info.now) (namings_of c.in-Some.more.now) at other)
    ]
