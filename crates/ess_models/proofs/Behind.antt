-- What stands behind statements, as a loop goes over them.
use Rattle.std.proofs.Common.{◌≡◌, sym, ap, ◌∙◌, subst, ℕ, ◌+◌, ◌<◌, ◌≤◌, List, ◌∷◌, map, drop, length, get_or}
use Rattle.std.proofs.lemmas.List.{drop_more, drop_all}
use Rattle.ess_semantics.specs.Plans.{Plan}
use Rattle.ess_core.specs.StatementViews.{pure_stm}
use Rattle.ess_core.specs.declared.statements.Stm.{Stm}
use Rattle.conjure_model_laws.specs.Shown.{Shows, shows_behind, shows_from}
use Rattle.ess_model_shown.specs.Tables.{SameShows}
use Rattle.ess_model_shows.proofs.Behind.{same_on, from_same}

module _ (Ps : List Plan) (ss : List Stm) where
  -- From one turn to the next.
  pub behind_more : (i : ℕ) (s : Stm) (old new all : Shows) → i < length ss → s ≡ get_or ss i s
      → SameShows new (shows_behind Ps (pure_stm s) old) → SameShows (shows_from Ps (map pure_stm (drop i ss)) old) all
      → SameShows (shows_from Ps (map pure_stm (drop (i + 1) ss)) new) all
  behind_more i s old new all lt is n h =
      let rest = map pure_stm (drop (i + 1) ss) in
      let e : drop i ss ≡ s ∷ drop (i + 1) ss = drop_more ss i s lt ∙ ap (λ q. q ∷ drop (i + 1) ss) (sym is) in
      same_on (shows_from Ps rest new) (shows_from Ps rest (shows_behind Ps (pure_stm s) old)) all
      (from_same Ps rest new (shows_behind Ps (pure_stm s) old) n)
      (subst (λ l. SameShows (shows_from Ps (map pure_stm l) old) all) e h)

  -- Behind the last turn.
  pub behind_all : (i : ℕ) (sh all : Shows) → length ss ≤ i → SameShows (shows_from Ps (map pure_stm (drop i ss)) sh) all → SameShows sh all
  behind_all i sh all le h = subst (λ l. SameShows (shows_from Ps (map pure_stm l) sh) all) (drop_all i ss le) h
