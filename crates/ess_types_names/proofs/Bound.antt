-- The names of a pattern stand in front of the others.
use Rattle.std.proofs.Common.{◌≡◌, refl, ap, ◌∙◌, sym, ◌++◌, []}
use Rattle.ess_semantics.specs.Names.{Names}
use Rattle.ess_semantics.specs.Trees.{Pat, Pats, name_pat, tuple_pat, no_pats, more_pats}
use Rattle.ess_semantics.specs.Types.{Ty, Tys, no_tys, more_tys, any_ty, parts_of_ty, bind_types, bind_all_types}
use Rattle.std.proofs.lemmas.List.{append_assoc}

mutual
  -- The names that a pattern binds don't depend on those that stand already.
  pub bind_apart : (p : Pat) (t : Ty) (g : Names Ty) → bind_types p t g ≡ bind_types p t [] ++ g
  bind_apart (name_pat a) t g = refl
  bind_apart (tuple_pat ps) t g = bind_all_apart ps (parts_of_ty t) g

  bind_all_apart : (ps : Pats) (ts : Tys) (g : Names Ty) → bind_all_types ps ts g ≡ bind_all_types ps ts [] ++ g
  bind_all_apart no_pats ts g = refl
  bind_all_apart (more_pats p ps) no_tys g = bind_all_apart ps no_tys (bind_types p any_ty g) ∙ ap (λ l. bind_all_types ps no_tys [] ++ l) (bind_apart p any_ty g)
      ∙ sym (append_assoc (bind_all_types ps no_tys []) (bind_types p any_ty []) g) ∙ ap (λ l. l ++ g) (sym (bind_all_apart ps no_tys (bind_types p any_ty [])))
  bind_all_apart (more_pats p ps) (more_tys t ts) g = bind_all_apart ps ts (bind_types p t g) ∙ ap (λ l. bind_all_types ps ts [] ++ l) (bind_apart p t g)
      ∙ sym (append_assoc (bind_all_types ps ts []) (bind_types p t []) g) ∙ ap (λ l. l ++ g) (sym (bind_all_apart ps ts (bind_types p t [])))
