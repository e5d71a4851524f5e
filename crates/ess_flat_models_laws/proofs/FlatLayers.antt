-- The names of declarations; atoms need no structures and single views no channels.
use Rattle.std.proofs.Common.{◌≡◌, refl, sym, ap, ◌∙◌, subst, true, false, List, [], ◌∷◌, ◌++◌, map, filter, Option, Some, None, option_map}
use Rattle.ess_semantics.specs.Names.{all_distinct}
use Rattle.ess_semantics.specs.Trees.{Stm}
use Rattle.ess_semantics.specs.Domains.{Domain}
use Rattle.ess_semantics.specs.Tables.{Tables}
use Rattle.ess_semantics.specs.Cells.{cells_of}
use Rattle.ess_semantics.specs.Declarations.{declarations}
use Rattle.ess_semantics.specs.DeclaredTables.{decl_name}
use Rattle.ess_semantics.specs.CanonicalTest.{canonical}
use Rattle.ess_semantics.specs.Contexts.{Each}
use Rattle.ess_semantics.specs.Meaning.{domain_of, is_bool_dom}
use Rattle.ess_semantics.specs.Positions.{domain_with_positions}
use Rattle.ess_semantics.specs.Assignments.{Assignment}
use Rattle.ess_semantics.specs.Solutions.{finds}
use Rattle.ess_semantics.specs.Plans.{Options, finds_side, Plan, plans, plans_for, names_of_plan, names_of_plans, value_names, is_plan_of}
use Rattle.ess_semantics.specs.ModelTrees.{Model}
use Rattle.conjure_laws.specs.SideBySide.{Along}
use Rattle.conjure_laws.specs.Premises.{here, is_on, tables_are}
use Rattle.conjure_laws.specs.ModelPremises.{StructureMeans, ChannelsMean}
use Rattle.conjure_laws.proofs.Lists.{all-items, each-map}
use Rattle.conjure_laws.proofs.SetCells.{nones}
use Rattle.conjure_laws.proofs.SetChannels.{none, none_of}
use Rattle.ess_flat_models_laws.specs.FlatSpecifications.{are_flat_statements}
use Rattle.ess_flat_models_laws.specs.FlatModels.{decl_of, flat_model}
use Rattle.ess_flat_models_laws.proofs.ScalarDomains.{Atom, closed-plain, closed-scalar, atom-canonical}
use Rattle.ess_flat_models_laws.proofs.FlatPlans.{AtomPlan, some-atoms, found-plan}

no : false ≡ true → ⊥
no e = cc

-- ---- declarations

-- The names of declarations are those of the plans.
pub decl-names : (Cs Qs : List Plan) → Each Qs AtomPlan → map decl_name (map (decl_of Cs) Qs) ≡ names_of_plans Qs
decl-names Cs [] h = refl
decl-names Cs (P ∷ Qs) h =
    ap (λ l. decl_name (decl_of Cs P) ∷ l) (decl-names Cs Qs h.1)
    ∙ subst (λ P. decl_name (decl_of Cs P) ∷ names_of_plans Qs ≡ names_of_plan P ++ names_of_plans Qs) (sym h.0.is) refl

module _ (S : List Stm) (o : Options) (h : are_flat_statements S o ≡ true) where
  abbrev E : Model
  E = flat_model S o

  structure : (P : Plan) → AtomPlan P → StructureMeans S o E P []
  structure P w = subst (λ P. StructureMeans S o E P []) (sym w.is) (λ p q c e ts I t z.
      at p e ts (domain_of w.d (here S p)) refl z.closed z.are)
    where
      at : (p : Assignment) (e : Domain) (ts : Tables) (r : Option Domain) → domain_of w.d (here S p) ≡ r →
          option_map domain_with_positions r ≡ Some e → tables_are (declarations Atom e) ts ≡ true →
          true ≡ canonical Atom e (cells_of ts)
      at p e ts None r q k = cc
      at p e ts (Some f) r q k =
          let s = closed-scalar w.d (here S p) f w.scalar r in
          let z : domain_with_positions f ≡ e = cc in
          let y : f ≡ e = sym (closed-plain s) ∙ z in
          subst (λ e. tables_are (declarations Atom e) ts ≡ true → true ≡ canonical Atom e (cells_of ts)) y
          (λ k. sym (atom-canonical f (is_bool_dom w.d) s ts k)) k

  -- Structures need no rules.
  pub structures-mean : Along (plans_for finds_side S o) (map (λ x. none) (plans_for finds_side S o)) (StructureMeans S o E)
  structures-mean = nones (plans_for finds_side S o) (StructureMeans S o E)
      (each-map (plans_for finds_side S o) AtomPlan (λ P. StructureMeans S o E P []) structure (some-atoms S o h (is_on finds_side)))

  -- Nor do channels.
  pub channels-mean : all_distinct (finds S) ≡ true → Along (value_names finds_side S) (map (λ x. none_of) (value_names finds_side S))
      (λ x css. ChannelsMean S o E (filter (is_plan_of x) (plans S o)) css)
  channels-mean n = nones (value_names finds_side S) (λ x css. ChannelsMean S o E (filter (is_plan_of x) (plans S o)) css)
      (all-items (λ x. ChannelsMean S o E (filter (is_plan_of x) (plans S o)) []) (value_names finds_side S)
      (λ x i. let r = found-plan S o h x n i in subst (λ l. ChannelsMean S o E l []) (sym r.1) tt))
