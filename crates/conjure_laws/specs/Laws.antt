-- Laws of models, each stated at a function that does nothing, so that its proof is checked with the code.
use Rattle.std.specs.Prelude.{◌≡◌, Bool, true, not, List, [], ◌++◌, Some, is_some}
use Rattle.ess_semantics.specs.Values.{Text}
use Rattle.ess_semantics.specs.Names.{Names, keys, is_among, all_distinct}
use Rattle.ess_semantics.specs.Trees.{Repr, Ex, Dom, Stm}
use Rattle.ess_semantics.specs.Domains.{Domain}
use Rattle.ess_semantics.specs.Kinds.{fits}
use Rattle.ess_semantics.specs.Choice.{default_repr}
use Rattle.ess_semantics.specs.Tables.{Table}
use Rattle.ess_semantics.specs.Contexts.{Each}
use Rattle.ess_semantics.specs.Substitution.{NamesAre}
use Rattle.ess_semantics.specs.Meaning.{Env, domain_of}
use Rattle.ess_semantics.specs.Kept.{KeptWhere, Kept}
use Rattle.ess_semantics.specs.Assignments.{Assignment}
use Rattle.ess_semantics.specs.Parameters.{Param}
use Rattle.ess_semantics.specs.Judgements.{is_well_typed}
use Rattle.ess_semantics.specs.Solutions.{finds}
use Rattle.ess_semantics.specs.Plans.{Options, chosen_reprs, kept_names, plans}
use Rattle.ess_semantics.specs.ChosenOptions.{OptionsFit}
use Rattle.ess_semantics.specs.ModelTrees.{Header, Model, all_decls, header_of}
use Rattle.ess_semantics.specs.Satisfaction.{tables_fit, rule_holds}
use Rattle.ess_semantics.specs.Models.{scalar_cell, is_flat, Models, IsExact}
use Rattle.ess_repr_laws.specs.TypedDomains.{Typed, has_plain_relations}
use Rattle.ess_repr_laws.specs.Laws.{Fitting}
use Rattle.conjure_laws.specs.Premises.{Instance, here, AreChosen, PlanFits}
use Rattle.conjure_laws.specs.ModelPremises.{Base, RuleMeans, Layers, Texts}
use Rattle.conjure_laws.specs.Fields.{HasItsFields, PlainMarks, NameFits, WellKept}
use Rattle.conjure_laws.specs.PlainTrees.{Plain}
use Rattle.conjure_laws.specs.Views.{over_tables, AtTables, Shown, NamesHaveValues, ViewKept, PositionsKeepTruth, Chain, StructureChain}
use Rattle.conjure_laws.specs.Numeric.{IsMadeOf, HaveNoItems}
use Rattle.conjure_laws.specs.SetsOfAtoms.{Line, spec}
use Rattle.conjure_laws.specs.ModelsOfSets.{no_options, model_of}

-- From what the layers deliver, one statement, one plan, one find and one constraint at a time, it follows that a model stands
-- for its specification, and that each solution has exactly one satisfying assignment.
pub record ModelsFollowFromLayers : Type 0 where
  pub models : (S : List Stm) (o : Options) (H : Header) (E : Model) (L : Layers S o E) → Texts S o H E L.rules.rules → Models S o H E
  pub exact : (S : List Stm) (o : Options) (E : Model) → Layers S o E → IsExact S o E

-- Views in the place of names keep a tree of a specification that binds no name of one: over tables it means what it meant over
-- values with positions. So it is for all domains, those with named types too. A tree of numbers and truth values, as flat
-- constraints are, is true over values with positions where it is over values. Where a chain of steps that keep leads from a
-- constraint to a rule, the rule says what the constraint says; and so does a rule of a structure.
pub record RulesFollowFromChains : Type 0 where
  pub views : (S : List Stm) (o : Options) (M : Model) → Base S o M → (vs : Names Ex) → Each vs (λ w. Shown S o w.0 w.1) →
      (n : Text → Bool) → NamesHaveValues S vs n → (e : Ex) → Plain e → NamesAre n (λ x. not (is_among (keys vs) x)) e → ViewKept S o vs e
  pub kept : (S : List Stm) (o : Options) (M : Model) (old new : Ex) → Kept [] old new → KeptWhere (AtTables S o M) old new
  pub numeric : (S : List Stm) (n : Text → Bool) → HaveNoItems S n → (e : Ex) → IsMadeOf n e → PositionsKeepTruth S e
  pub flat : (S : List Stm) (o : Options) → HaveNoItems S (λ a. is_some (scalar_cell (plans S o) a)) → (e : Ex) →
      is_flat (plans S o) e ≡ true → PositionsKeepTruth S e
  pub rules : (S : List Stm) (o : Options) (M : Model) → Base S o M → (vs : Names Ex) (e r : Ex) → Chain S o M vs e r → RuleMeans S o M e r
  pub structures : (S : List Stm) (o : Options) (M : Model) (says : Env → Bool) (r : Ex) →
      StructureChain S o M says r →
      (p : Assignment) (q c : Names Table) → Instance S o p q → tables_fit (all_decls M) q M.finds c ≡ true →
      rule_holds M q c r ≡ says (over_tables S p (q ++ c))

-- Of each well typed specification whose finds are sets of numbers, of truth values or of values of a named type, and whose
-- constraints say that a literal is in a find, the model stands for it, and each solution has exactly one satisfying
-- assignment. Nothing else is assumed.
abbrev pub SetsHaveModels : Type 0
SetsHaveModels =
    (T : List Line) → is_well_typed (spec T) ≡ true →
    Models (spec T) no_options (header_of (spec T) no_options) (model_of T) × IsExact (spec T) no_options (model_of T)

-- Options that a specification takes leave no name without a representation, and each one fits its domain, also where none is
-- named. So each plan of a well typed specification fits: there is room for the members of its domain, and there are as many
-- names as tables. Its records have their fields where it is what a text is read as. Its domains are to be typed, as they are
-- where no relation has an attribute without a number.
pub record PlansFit : Type 0 where
  pub defaults : (d : Dom) → fits (default_repr d) d ≡ true
  pub chosen : (S : List Stm) (o : Options) → OptionsFit S o → AreChosen S o
  pub options : (S : List Stm) (o : Options) → OptionsFit S o → all_distinct (keys (kept_names S)) ≡ true →
      Each (kept_names S) (λ x. Each (chosen_reprs o x.0 x.1) (λ r. fits r x.1 ≡ true))
  pub plans_fit : (S : List Stm) (o : Options) → Each (kept_names S) (λ x. NameFits S o x.0 x.1) → Each (plans S o) (PlanFits S)
  pub well_typed : (S : List Stm) (o : Options) → is_well_typed S ≡ true → OptionsFit S o →
      Each S HasItsFields →
      Each (kept_names S) (λ x. (p : Assignment) (e : Domain) → Param S p → domain_of x.1 (here S p) ≡ Some e → Typed e) →
      Each (plans S o) (PlanFits S)
  pub plain : (S : List Stm) (o : Options) → is_well_typed S ≡ true → OptionsFit S o → Each S HasItsFields →
      Each (kept_names S) (λ x. PlainMarks x.1) → Each (plans S o) (PlanFits S)
  pub distinct : (S : List Stm) → is_well_typed S ≡ true → (all_distinct (keys (kept_names S)) ≡ true) × (all_distinct (finds S) ≡ true)
  pub well_kept : (S : List Stm) (o : Options) → OptionsFit S o → all_distinct (keys (kept_names S)) ≡ true →
      Each (kept_names S) (λ x. WellKept S x.1) → Each (plans S o) (PlanFits S)
  pub plain_typed : (S : List Stm) (r : Repr) (d : Dom) → Fitting r d →
      ((p : Assignment) (e : Domain) → Param S p → domain_of d (here S p) ≡ Some e → has_plain_relations e ≡ true) →
      (p : Assignment) (e : Domain) → Param S p → domain_of d (here S p) ≡ Some e → Typed e
