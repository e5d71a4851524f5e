-- The representations of all givens and finds, as options, choose themselves; so the specification stays of the class.
use Rattle.std.proofs.Common.{◌≡◌, refl, sym, ap, ◌∙◌, subst, ◌^◌, nat_le, Bool, true, false, ◌&&◌, ◌||◌, not, List, [], ◌∷◌, ◌++◌, inl, inr, map, length, codes, Option, Some, None, is_some}
use Rattle.std.specs.List.{list_all}
use Rattle.ess_semantics.specs.declared.words.Op2.{Op2}
use Rattle.ess_semantics.specs.Lists.{append_all, is_some_and, is_empty}
use Rattle.ess_semantics.specs.Values.{Text}
use Rattle.ess_semantics.specs.Names.{Names, look, keys}
use Rattle.ess_semantics.specs.Trees.{Ex, name_ex, Dom, Stm, given, given_enum, let_ex, let_dom, let_enum, let_unnamed, needs, find, such_that, minimise, maximise, ex2}
use Rattle.ess_semantics.specs.Judgements.{fault}
use Rattle.ess_semantics.specs.Prepared.{prepared}
use Rattle.ess_semantics.specs.Parameters.{all_declared}
use Rattle.ess_semantics.specs.Plans.{Options, chosen_reprs, domain_of_stm, kept_names, all_chosen, names_of_plans, plans}
use Rattle.ess_semantics.specs.ModelTrees.{header_of}
use Rattle.ess_semantics.specs.Models.{constraints_of}
use Rattle.ess_semantics.proofs.Tests.{and-left, and-right, and-both}
use Rattle.conjure_model_laws.specs.Printed.{printed_name}
use Rattle.ess_translate_tables_laws.proofs.DistinctNames.{distinct-names}
use Rattle.ess_translate_tables_laws.proofs.ChosenAgain.{Alike, all_of, all-alike, plans-alike}
use Rattle.ess_flat_models_laws.specs.FlatSpecifications.{given_mark, is_scalar_dom, is_atom_alone, scalar_mark, is_flat_truth, is_flat_number, has_marks}
use Rattle.conjure_laws.specs.Members.{In}
use Rattle.conjure_laws.proofs.Lookups.{look-in}
use Rattle.ess_nested_laws.specs.NestedDomains.{is_nested_dom}
use Rattle.ess_mixed_models_laws.specs.MixedSpecifications.{is_setwise_constraint, is_setwise_objective, kinds, places, is_set_dom, is_occurrence_alone, members_of, is_of_kind, has_printed_name, is_kept_by_members, is_membership, is_one_fitting, has_few_tables, is_mixed_statement, are_mixed_statements, types_come_first, have_bounds, is_mixed_specification}
use Rattle.ess_mixed_models_laws.proofs.NamedKinds.{no-yes}
use Rattle.ess_mixed_headers_laws.specs.Laws.{ChosenOptionsKeepTheClass}

-- Options that choose alike have the same representations.
same-all : (p o : Options) (xs : Names Dom) → Alike p o xs → all_of p xs ≡ all_of o xs
same-all p o [] a = refl
same-all p o (x ∷ xs) a = ap (λ rs. (x.0, rs) ∷ all_of p xs) a.0 ∙ ap (λ l. (x.0, chosen_reprs o x.0 x.1) ∷ l) (same-all p o xs a.1)

left-alike : (p o : Options) (xs ys : Names Dom) → Alike p o (xs ++ ys) → Alike p o xs
left-alike p o [] ys a = tt
left-alike p o (x ∷ xs) ys a = (a.0, left-alike p o xs ys a.1)

right-alike : (p o : Options) (xs ys : Names Dom) → Alike p o (xs ++ ys) → Alike p o ys
right-alike p o [] ys a = a
right-alike p o (x ∷ xs) ys a = right-alike p o xs ys a.1

alike-at : (p o : Options) (xs : Names Dom) (x : Text) (d : Dom) → Alike p o xs → In (x, d) xs → chosen_reprs p x d ≡ chosen_reprs o x d
alike-at p o [] x d a i = absurd i
alike-at p o (y ∷ xs) x d a (inl e) = subst (λ z. chosen_reprs p z.0 z.1 ≡ chosen_reprs o z.0 z.1) (sym e) a.0
alike-at p o (y ∷ xs) x d a (inr i) = alike-at p o xs x d a.1 i

-- Options that choose alike, with the same plans, keep the class.
module _ (S : List Stm) (p o : Options) (q : plans S p ≡ plans S o) (kept : Alike p o (kept_names S)) where
  kept-again : (x : Text) → is_kept_by_members S p x ≡ is_kept_by_members S o x
  kept-again x = go (look (kept_names S) x) refl
    where
      go : (l : Option Dom) → look (kept_names S) x ≡ l →
          is_some_and l (λ d. is_occurrence_alone (chosen_reprs p x d)) ≡ is_some_and l (λ d. is_occurrence_alone (chosen_reprs o x d))
      go None e = refl
      go (Some d) e = ap is_occurrence_alone (alike-at p o (kept_names S) x d kept (look-in (kept_names S) x d e))

  member-again : (e : Ex) → is_membership S o e ≡ true → is_membership S p e ≡ true
  member-again (ex2 true Op2.Member v (name_ex x)) t =
      ap (λ Ps. is_some_and (members_of (look (kept_names S) x)) (is_of_kind (places S) v)
      && (not (is_empty (printed_name (keys (names_of_plans Ps)) 0)) && is_kept_by_members S p x)) q
      ∙ ap (λ b. is_some_and (members_of (look (kept_names S) x)) (is_of_kind (places S) v) && (has_printed_name S o && b)) (kept-again x)
      ∙ t
  member-again e t = absurd (no-yes t)

  first-again : (b c d : Bool) → (b ≡ true → c ≡ true) → b || d ≡ true → c || d ≡ true
  first-again true c d f t = ap (λ z. z || d) (f refl)
  first-again false true d f t = refl
  first-again false false d f t = t

  either-again : (b c d : Bool) → (c ≡ true → d ≡ true) → b || c ≡ true → b || d ≡ true
  either-again true c d f t = refl
  either-again false c d f t = f t

  statement-again : (s : Stm) → Alike p o (domain_of_stm s) → is_mixed_statement S o s ≡ true → is_mixed_statement S p s ≡ true
  statement-again (given x d) a t =
      ap (λ Ps. is_scalar_dom (given_mark Ps) d && is_atom_alone (chosen_reprs p x d)) q
      ∙ ap (λ rs. is_scalar_dom (given_mark (plans S o)) d && is_atom_alone rs) a.0 ∙ t
  statement-again (find x d) a t =
      ap (λ Ps. (is_scalar_dom (given_mark Ps) d && is_atom_alone (chosen_reprs p x d))
      || ((is_set_dom (kinds S) d && is_occurrence_alone (chosen_reprs p x d))
      || (is_nested_dom d && (is_one_fitting d (chosen_reprs p x d) && nat_le (length (keys (names_of_plans Ps))) (2 ^ 62))))) q
      ∙ ap (λ rs. (is_scalar_dom (given_mark (plans S o)) d && is_atom_alone rs) || ((is_set_dom (kinds S) d && is_occurrence_alone rs)
      || (is_nested_dom d && (is_one_fitting d rs && has_few_tables S o)))) a.0 ∙ t
  statement-again (given_enum u) a t = refl
  statement-again (let_enum u ns) a t = refl
  statement-again (let_unnamed u e) a t = t
  statement-again (let_ex x e) a t = ap (λ Ps. not (is_some (scalar_mark Ps x))) q ∙ t
  statement-again (let_dom x d) a t = refl
  statement-again (needs e) a t = ap (λ Ps. is_flat_truth Ps e) q ∙ t
  statement-again (such_that e) a t =
      ap (λ Ps. is_flat_truth Ps e || (is_membership S p e || is_setwise_constraint Ps S e)) q
      ∙ either-again (is_flat_truth (plans S o) e) (is_membership S o e || is_setwise_constraint (plans S o) S e)
      (is_membership S p e || is_setwise_constraint (plans S o) S e)
      (first-again (is_membership S o e) (is_membership S p e) (is_setwise_constraint (plans S o) S e) (member-again e)) t
  statement-again (minimise e) a t = ap (λ Ps. is_flat_number Ps e || is_setwise_objective Ps S e) q ∙ t
  statement-again (maximise e) a t = ap (λ Ps. is_flat_number Ps e || is_setwise_objective Ps S e) q ∙ t

  all-again : (T : List Stm) → Alike p o (append_all (map domain_of_stm T)) → list_all (is_mixed_statement S o) T ≡ true →
      list_all (is_mixed_statement S p) T ≡ true
  all-again [] a t = refl
  all-again (s ∷ T) a t =
      let b : Bool = is_mixed_statement S o s in
      let c : Bool = list_all (is_mixed_statement S o) T in
      and-both (is_mixed_statement S p s) (list_all (is_mixed_statement S p) T)
      (statement-again s (left-alike p o (domain_of_stm s) (append_all (map domain_of_stm T)) a) (and-left b c t))
      (all-again T (right-alike p o (domain_of_stm s) (append_all (map domain_of_stm T)) a) (and-right b c t))

module _ (S : List Stm) (o : Options) (t : fault S ≡ None) where
  abbrev A : Options
  A = all_chosen S o

  themselves : Alike A o (kept_names S)
  themselves = all-alike o (kept_names S) (distinct-names S t)

  same-plans : plans S A ≡ plans S o
  same-plans = plans-alike (prepared S) A o (all_declared S) (codes "alldifferent_except" ∷ []) themselves

  same-header : header_of S A ≡ header_of S o
  same-header = ap (λ l. record { statements = (header_of S o).statements; reprs = l }) (same-all A o (kept_names S) themselves)

  mixed-again : is_mixed_specification S o ≡ true → is_mixed_specification S A ≡ true
  mixed-again h =
      let a : Bool = are_mixed_statements S o in
      let b : Bool = types_come_first [] (prepared S) in
      let c : Bool = have_bounds (plans S o) [] (prepared S) in
      let d : Bool = list_all (has_marks (plans S o)) (constraints_of S) in
      let r = and-right a (b && (c && d)) h in
      ap (λ Ps. are_mixed_statements S A && (b && (have_bounds Ps [] (prepared S) && list_all (has_marks Ps) (constraints_of S))))
      same-plans
      ∙ and-both (are_mixed_statements S A) (b && (c && d))
      (all-again S A o same-plans themselves (prepared S) themselves (and-left a (b && (c && d)) h)) r

-- So it is of each specification of the class.
pub chosen-mixed : ChosenOptionsKeepTheClass
chosen-mixed = record {
  mixed = λ S o t h. mixed-again S o t h;
  same_plans = λ S o t. same-plans S o t;
  same_header = λ S o t. same-header S o t;
}
