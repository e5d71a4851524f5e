-- Options with the same plans and the same header have the same models.
use Rattle.std.proofs.Common.{◌≡◌, sym, ap, ◌∙◌, subst, Bool, true, ◌&&◌, List, map, filter, Option, Some, option_map}
use Rattle.std.specs.List.{list_all}
use Rattle.ess_semantics.specs.Lists.{append_all, each_of, item_number}
use Rattle.ess_semantics.specs.Names.{Names, keys}
use Rattle.ess_semantics.specs.Trees.{Stm}
use Rattle.ess_semantics.specs.Tables.{Table}
use Rattle.ess_semantics.specs.TableNames.{Named}
use Rattle.ess_semantics.specs.Assignments.{Assignment, nothing_given, env_of, placed}
use Rattle.ess_semantics.specs.Declarations.{Declaration}
use Rattle.ess_semantics.specs.Large.{in_64_bits}
use Rattle.ess_semantics.specs.SizeNumbers.{with_next, numbers_of_statement_small, numbers_of_plan, types_are_small, numbers_are_small}
use Rattle.ess_semantics.specs.Plans.{Options, Side, finds_side, givens_side, same_side, side_of, Plan, plans, names_of_plans, table_list, declared_by_plan, declared_under, plan_stands, StandsFor, canonical_by_plan, canonical_tables, given_tables}
use Rattle.ess_semantics.specs.DeclaredTables.{DeclaredAs}
use Rattle.ess_semantics.specs.ModelTrees.{Header, Model, header_of, all_decls}
use Rattle.ess_semantics.specs.ModelMeaning.{model_domain}
use Rattle.ess_semantics.specs.Models.{is_flat, with_cells, last_rules, Represents, Models, IsExact}
use Rattle.conjure_alike_laws.specs.Laws.{AlikeOptionsHaveTheSameModels}

-- ---- what is said of options, by their plans

abbrev of_side : Side → List Plan → List Plan
of_side f Ps = filter (λ p. same_side (side_of p) f) Ps

abbrev names_by : Side → List Plan → List Named
names_by f Ps = names_of_plans (of_side f Ps)

abbrev declared_by : Side → List Stm → Assignment → List Plan → List Declaration
declared_by f S p Ps = append_all (map (declared_by_plan (env_of S p nothing_given)) (of_side f Ps))

abbrev canonical_by : Side → List Stm → Assignment → Assignment → List Plan → Option (Names Table)
canonical_by f S p a Ps = option_map append_all (each_of (of_side f Ps) (canonical_by_plan (env_of S p nothing_given) a))

abbrev small_by : List Stm → Assignment → List Plan → Bool
small_by S p Ps =
    list_all (λ l. numbers_of_statement_small l.stm l.env) (placed S p nothing_given) &&
    list_all in_64_bits (with_next (append_all (map (numbers_of_plan (env_of S p nothing_given)) Ps))) &&
    types_are_small S p

module _ (S : List Stm) (o p : Options) (e : plans S o ≡ plans S p) where
  names-are : (f : Side) → table_list f S p ≡ table_list f S o
  names-are f = ap (names_by f) (sym e)

  declared-are : (f : Side) (a : Assignment) → declared_under f S p a ≡ declared_under f S o a
  declared-are f a = ap (declared_by f S a) (sym e)

  canonical-are : (f : Side) (g a : Assignment) → canonical_tables f S o g a ≡ canonical_tables f S p g a
  canonical-are f g a = ap (canonical_by f S g a) e

  given-are : (g : Assignment) → given_tables S o g ≡ given_tables S p g
  given-are g = canonical-are givens_side g g

  small-are : (g : Assignment) → numbers_are_small S p g ≡ numbers_are_small S o g
  small-are g = ap (small_by S g) (sym e)

  -- Tables stand for the same values.
  stands-there : (f : Side) (g a : Assignment) (c : Names Table) → StandsFor f S p g a c → StandsFor f S o g a c
  stands-there f g a c w = record {
    names = w.names;
    types = w.types;
    tables = subst (λ Ps. keys c ≡ keys (names_by f Ps)) (sym e) w.tables;
    each_stands = subst (λ Ps. list_all (plan_stands (env_of S g nothing_given) a c) (of_side f Ps) ≡ true) (sym e) w.each_stands;
  }

  stands-here : (f : Side) (g a : Assignment) (c : Names Table) → StandsFor f S o g a c → StandsFor f S p g a c
  stands-here f g a c w = record {
    names = w.names;
    types = w.types;
    tables = subst (λ Ps. keys c ≡ keys (names_by f Ps)) e w.tables;
    each_stands = subst (λ Ps. list_all (plan_stands (env_of S g nothing_given) a c) (of_side f Ps) ≡ true) e w.each_stands;
  }

  represents-there : (E : Model) (g : Assignment) (q : Names Table) → Represents S p E g q → Represents S o E g q
  represents-there E g q w = record {
    one_solution = λ c h. let r = w.one_solution c h in (
      r.0,
      stands-there finds_side g r.0 c r.1,
      r.2,
      λ b k. r.3 b (stands-here finds_side g b c k),
    );
    each_solution = λ a s h. let r = w.each_solution a s h in (r.0, r.1, stands-there finds_side g a r.0 r.2);
    same_goal = λ c a h k. w.same_goal c a h (stands-here finds_side g a c k);
    same_constraints = λ a c i k. w.same_constraints a c i (sym (canonical-are finds_side g a) ∙ k);
  }

  -- The model is one with either.
  models-there : (H : Header) (E : Model) → header_of S o ≡ header_of S p → Models S p H E → Models S o H E
  models-there H E h w = record {
    header = w.header ∙ sym h;
    given_names = w.given_names ∙ names-are givens_side;
    find_names = w.find_names ∙ names-are finds_side;
    given_domains = λ g q P k. subst (DeclaredAs (model_domain (all_decls E) q) E.givens) (declared-are givens_side g)
        (w.given_domains g q P (sym (given-are g) ∙ k));
    find_domains = λ g q P k. subst (DeclaredAs (model_domain (all_decls E) q) E.finds) (declared-are finds_side g)
        (w.find_domains g q P (sym (given-are g) ∙ k));
    goal_direction = w.goal_direction;
    constants = w.constants;
    flat = λ k x i l. subst (λ Ps. item_number (last_rules S E) k ≡ Some (with_cells Ps x)) (sym e)
        (w.flat k x i (subst (λ Ps. is_flat Ps x ≡ true) e l));
    represents = λ g q P k. represents-there E g q (w.represents g q P (sym (given-are g) ∙ k));
    small_domains = λ g q P k u v. w.small_domains g q P (sym (given-are g) ∙ k) u (small-are g ∙ v);
  }

  -- And each solution has exactly one satisfying assignment with either.
  exact-there : (E : Model) → IsExact S p E → IsExact S o E
  exact-there E w = record {
    canonical = λ g q c P k h. let r = w.canonical g q c P (sym (given-are g) ∙ k) h in (r.0, r.1, canonical-are finds_side g r.0 ∙ r.2);
    satisfies = λ g a q P k s h. let r = w.satisfies g a q P (sym (given-are g) ∙ k) s h in
        (r.0, canonical-are finds_side g a ∙ r.1, r.2);
  }

-- So all of it stands.
pub alike-options-have-the-same-models : AlikeOptionsHaveTheSameModels
alike-options-have-the-same-models = record {
  models = λ S o p H E e h w. models-there S o p e H E h w;
  exact = λ S o p E e w. exact-there S o p e E w;
}
