-- The representations of all givens and finds, as options, choose themselves.
use Rattle.std.proofs.Common.{◌≡◌, refl, ap, ◌∙◌, Bool, true, ◌&&◌, List, [], ◌∷◌, ◌++◌, map, filter, codes, None}
use Rattle.std.specs.List.{list_all}
use Rattle.ess_semantics.specs.Lists.{append_all}
use Rattle.ess_semantics.specs.Names.{Names}
use Rattle.ess_semantics.specs.Trees.{Dom, Stm, given, given_enum, let_ex, let_dom, let_enum, let_unnamed, needs, find, such_that, minimise, maximise}
use Rattle.ess_semantics.specs.Judgements.{fault}
use Rattle.ess_semantics.specs.Prepared.{prepared}
use Rattle.ess_semantics.specs.Parameters.{all_declared}
use Rattle.ess_semantics.specs.Plans.{Options, Plan, chosen_reprs, domain_of_stm, kept_names, all_chosen, plans, givens_side, finds_side, same_side, side_of}
use Rattle.ess_semantics.specs.ModelTrees.{Model, goal_of, header_of}
use Rattle.ess_semantics.specs.Models.{constraints_of}
use Rattle.ess_translate_tables_laws.proofs.DistinctNames.{distinct-names}
use Rattle.ess_translate_tables_laws.proofs.ChosenAgain.{Alike, all_of, all-alike, plans-alike}
use Rattle.ess_flat_models_laws.specs.FlatSpecifications.{given_mark, is_scalar_dom, is_atom_alone, is_flat_statement, are_bounded, has_marks, is_flat_specification}
use Rattle.ess_flat_models_laws.specs.FlatModels.{flat_rule, decl_of, flat_goal, goal_rules}
use Rattle.ess_flat_headers_laws.specs.Laws.{ChosenAreOfTheClass}

-- Options that choose alike have the same representations.
alike-all : (p o : Options) (xs : Names Dom) → Alike p o xs → all_of p xs ≡ all_of o xs
alike-all p o [] a = refl
alike-all p o (x ∷ xs) a = ap (λ rs. (x.0, rs) ∷ all_of p xs) a.0 ∙ ap (λ l. (x.0, chosen_reprs o x.0 x.1) ∷ l) (alike-all p o xs a.1)

-- Statements are of the class with either.
alike-flat : (Ps : List Plan) (p o : Options) (T : List Stm) → Alike p o (append_all (map domain_of_stm T)) →
    list_all (is_flat_statement Ps p) T ≡ list_all (is_flat_statement Ps o) T
alike-flat Ps p o [] a = refl
alike-flat Ps p o (given x d ∷ T) a =
    ap (λ rs. (is_scalar_dom (given_mark Ps) d && is_atom_alone rs) && list_all (is_flat_statement Ps p) T) a.0
    ∙ ap (λ b. is_flat_statement Ps o (given x d) && b) (alike-flat Ps p o T a.1)
alike-flat Ps p o (find x d ∷ T) a =
    ap (λ rs. (is_scalar_dom (given_mark Ps) d && is_atom_alone rs) && list_all (is_flat_statement Ps p) T) a.0
    ∙ ap (λ b. is_flat_statement Ps o (find x d) && b) (alike-flat Ps p o T a.1)
alike-flat Ps p o (given_enum t ∷ T) a = ap (λ b. is_flat_statement Ps o (given_enum t) && b) (alike-flat Ps p o T a)
alike-flat Ps p o (let_ex x e ∷ T) a = ap (λ b. is_flat_statement Ps o (let_ex x e) && b) (alike-flat Ps p o T a)
alike-flat Ps p o (let_dom x d ∷ T) a = ap (λ b. is_flat_statement Ps o (let_dom x d) && b) (alike-flat Ps p o T a)
alike-flat Ps p o (let_enum t ns ∷ T) a = ap (λ b. is_flat_statement Ps o (let_enum t ns) && b) (alike-flat Ps p o T a)
alike-flat Ps p o (let_unnamed t e ∷ T) a = ap (λ b. is_flat_statement Ps o (let_unnamed t e) && b) (alike-flat Ps p o T a)
alike-flat Ps p o (needs e ∷ T) a = ap (λ b. is_flat_statement Ps o (needs e) && b) (alike-flat Ps p o T a)
alike-flat Ps p o (such_that e ∷ T) a = ap (λ b. is_flat_statement Ps o (such_that e) && b) (alike-flat Ps p o T a)
alike-flat Ps p o (minimise e ∷ T) a = ap (λ b. is_flat_statement Ps o (minimise e) && b) (alike-flat Ps p o T a)
alike-flat Ps p o (maximise e ∷ T) a = ap (λ b. is_flat_statement Ps o (maximise e) && b) (alike-flat Ps p o T a)

module _ (S : List Stm) (o : Options) (t : fault S ≡ None) where
  abbrev A : Options
  A = all_chosen S o

  themselves : Alike A o (kept_names S)
  themselves = all-alike o (kept_names S) (distinct-names S t)

  same-plans : plans S A ≡ plans S o
  same-plans = plans-alike (prepared S) A o (all_declared S) (codes "alldifferent_except" ∷ []) themselves

  same-reprs : all_chosen S A ≡ all_chosen S o
  same-reprs = alike-all A o (kept_names S) themselves

  same-header : header_of S A ≡ header_of S o
  same-header = ap (λ l. record { statements = (header_of S o).statements; reprs = l }) same-reprs

  flat-again : is_flat_specification S o ≡ true → is_flat_specification S A ≡ true
  flat-again h =
      let marks : List Plan → Bool = λ Ps. are_bounded Ps [] (prepared S) && list_all (has_marks Ps) (constraints_of S) in
      ap (λ Ps. list_all (is_flat_statement Ps A) (prepared S) && marks Ps) same-plans
      ∙ ap (λ b. b && marks (plans S o)) (alike-flat (plans S o) A o (prepared S) themselves) ∙ h

-- The model, by the plans.
abbrev model-by : List Stm → List Plan → Model
model-by S Ps = record {
  givens = map (decl_of Ps) (filter (λ p. same_side (side_of p) givens_side) Ps);
  finds = map (decl_of Ps) (filter (λ p. same_side (side_of p) finds_side) Ps);
  goal = flat_goal Ps (goal_of (prepared S));
  rules = goal_rules (goal_of (prepared S)) ++ map (flat_rule Ps) (constraints_of (prepared S));
}

-- So all of it stands.
pub chosen-are-of-the-class : ChosenAreOfTheClass
chosen-are-of-the-class = record {
  flat = λ S o t h. flat-again S o t h;
  header = λ S o t. same-header S o t;
  model = λ S o t. ap (model-by S) (same-plans S o t);
}
