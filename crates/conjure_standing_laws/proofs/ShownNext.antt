-- No declared domain of a specification of the class binds a name, so that behind it the first two reserved names alone are kept.
use Rattle.std.proofs.Common.{◌≡◌, refl, sym, ap, ◌∙◌, subst, ℕ, true, List, [], ◌∷◌, filter, map, pos, is_some}
use Rattle.std.specs.List.{list_all}
use Rattle.ess_semantics.specs.Values.{Text}
use Rattle.ess_semantics.specs.Trees.{Ex, number_ex, no_exs, Dom, set_dom, Stm, given, given_enum, let_ex, let_dom, let_enum, let_unnamed, needs, find, such_that, minimise, maximise}
use Rattle.ess_semantics.specs.Prepared.{prepared}
use Rattle.ess_semantics.specs.Plans.{Options, Plan, chosen_reprs, plans, is_plan_for}
use Rattle.ess_semantics.proofs.Tests.{and-left, and-right}
use Rattle.conjure_model_laws.specs.ToldApart.{told, told_dom}
use Rattle.conjure_model_laws.specs.Shown.{Shows, shown_dom, view_by, with_views, with_declared, shows_nothing, shows_behind, shows_from, shows_of}
use Rattle.ess_nested_laws.proofs.NestedForms.{nested-form}
use Rattle.ess_flat_models_laws.specs.FlatSpecifications.{given_mark, is_scalar_dom, is_atom_alone}
use Rattle.conjure_standing_laws.proofs.BuiltShows.{told-scalar}
use Rattle.conjure_standing_laws.proofs.ShownNested.{told-nested}
use Rattle.ess_mixed_models_laws.specs.MixedSpecifications.{kinds, written_size, is_mixed_statement, are_mixed_statements}
use Rattle.ess_mixed_models_laws.proofs.NamedKinds.{no-yes, MemberDom, of_numbers, of_truths, of_type}
use Rattle.ess_mixed_models_laws.proofs.MixedPlans.{FindFact, scalar_find, set_find, nested_find, find-fact}

next-behind : (x : Text) (vs : List Ex) (sh : Shows) → (with_views x vs sh).next ≡ sh.next
next-behind x [] sh = refl
next-behind x (v ∷ vs) sh = refl

module _ (S : List Stm) (o : Options) where
  abbrev Ps : List Plan
  Ps = plans S o

  -- Where nothing is bound in a domain no name is taken.
  declared-next : (x : Text) (d : Dom) (sh : Shows) → told_dom d [] sh.next ≡ (d, sh.next) → (with_declared Ps x d sh).next ≡ sh.next
  declared-next x d sh e =
      next-behind x (map (view_by (shown_dom sh (told_dom d [] sh.next).0)) (filter (is_plan_for x) Ps))
      (record sh { doms = (x, shown_dom sh (told_dom d [] sh.next).0) ∷ sh.doms; next = (told_dom d [] sh.next).1 })
      ∙ ap (λ q. q.1) e

  told-member : {A : Dom} → MemberDom (kinds S) A → (k : ℕ) → told_dom (set_dom [] no_exs A) [] k ≡ (set_dom [] no_exs A, k)
  told-member of_numbers k = refl
  told-member of_truths k = refl
  told-member (of_type q) k = refl

  told-find : (x : Text) (d : Dom) (k : ℕ) → FindFact S o x d → told_dom d [] k ≡ (d, k)
  told-find x d k (scalar_find s a) = told-scalar (given_mark Ps) d k s
  told-find x d k (set_find A e m a) = subst (λ d. told_dom d [] k ≡ (d, k)) (sym e) (told-member m k)
  told-find x d k (nested_find r e n f c) = told-nested (nested-form 250 d n) k

  told-size : (e : Ex) (k : ℕ) → is_some (written_size e) ≡ true → told e [] k ≡ (e, k)
  told-size (number_ex (pos n)) k h = refl
  told-size e k h = absurd (no-yes h)

  -- A statement takes none.
  stm-next : (s : Stm) (sh : Shows) → is_mixed_statement S o s ≡ true → (shows_behind Ps s sh).next ≡ sh.next
  stm-next (given x d) sh h =
      declared-next x d sh (told-scalar (given_mark Ps) d sh.next
      (and-left (is_scalar_dom (given_mark Ps) d) (is_atom_alone (chosen_reprs o x d)) h))
  stm-next (find x d) sh h = declared-next x d sh (told-find x d sh.next (find-fact S o x d h))
  stm-next (let_unnamed t e) sh h = ap (λ q. q.1) (told-size e sh.next h)
  stm-next (given_enum t) sh h = refl
  stm-next (let_ex x e) sh h = refl
  stm-next (let_dom x d) sh h = refl
  stm-next (let_enum t ns) sh h = refl
  stm-next (needs e) sh h = refl
  stm-next (such_that e) sh h = refl
  stm-next (minimise e) sh h = refl
  stm-next (maximise e) sh h = refl

  next-from : (T : List Stm) (sh : Shows) → list_all (is_mixed_statement S o) T ≡ true → (shows_from Ps T sh).next ≡ sh.next
  next-from [] sh h = refl
  next-from (s ∷ T) sh h =
      next-from T (shows_behind Ps s sh) (and-right (is_mixed_statement S o s) (list_all (is_mixed_statement S o) T) h)
      ∙ stm-next s sh (and-left (is_mixed_statement S o s) (list_all (is_mixed_statement S o) T) h)

  -- Behind all of them two are kept.
  pub next-is : are_mixed_statements S o ≡ true → (shows_of S o).next ≡ 2
  next-is h = next-from (prepared S) shows_nothing h
