-- The laws of what is written for finds that are sets of any nesting, each stated at a function that does nothing.
use Rattle.std.specs.Prelude.{◌≡◌, ℕ, ◌≤◌, ◌^◌, true, List, ◌++◌, length, Some, None}
use Rattle.ess_semantics.specs.Values.{Text}
use Rattle.ess_semantics.specs.Trees.{Repr, Ex, Dom, Stm}
use Rattle.ess_semantics.specs.Kinds.{fits}
use Rattle.ess_semantics.specs.Contexts.{Each}
use Rattle.ess_semantics.specs.DeclaredTables.{TableDecl}
use Rattle.ess_semantics.specs.Judgements.{fault}
use Rattle.ess_semantics.specs.Occurrences.{parts_of}
use Rattle.ess_semantics.specs.TableNames.{Named}
use Rattle.ess_semantics.specs.Plans.{Options, finds_side, value_plan}
use Rattle.ess_semantics.specs.ModelTrees.{Model}
use Rattle.ess_grammar.specs.Models.{Scope}
use Rattle.conjure_laws.specs.Premises.{Ground}
use Rattle.conjure_laws.specs.ModelPremises.{StructureMeans, spelled}
use Rattle.conjure_model_laws.specs.Shown.{domain_shown, shows_of}
use Rattle.ess_nested_laws.specs.NestedDomains.{is_nested_dom}
use Rattle.conjure_modelling.specs.ess_model_written.Coming.{DeclsAreWritten}
use Rattle.conjure_modelling.specs.ess_model_finds.Finds.{asked_of}
use Rattle.conjure_modelling.specs.ess_model_written.RulesWritten.{TreeComes, unless_true}
use Rattle.conjure_standing_laws.specs.NestedFinds.{tables_by, IsNestedFind, DeclaresNested}

-- What is declared of such a find is written as it is, before whatever is declared behind it: the bounds are terms of numerals.
abbrev pub NestedTablesStay : Type 0
NestedTablesStay = (add : Scope → TableDecl → Scope) (taken : List Text) (k : ℕ) (r : Repr) (d : Dom) (ns : List Text) →
    is_nested_dom d ≡ true → fits r d ≡ true → (us : List TableDecl) (s : Scope) (gs : List TableDecl) →
    DeclsAreWritten add taken k s (tables_by ns r d ++ us) gs →
    (z : Scope) × (hs : List TableDecl) × (gs ≡ tables_by ns r d ++ hs) × DeclsAreWritten add taken k z us hs

-- Over tables its domain is itself.
abbrev pub NestedDomainsStay : Type 0
NestedDomainsStay = (S : List Stm) (o : Options) (x : Text) (r : Repr) (d : Dom) (ns : List Named) → fault S ≡ None →
    IsNestedFind S o x r d ns → domain_shown (shows_of S o) (value_plan finds_side x r d ns) ≡ d

-- The rules that are written for what is asked of its tables say that they are canonical: one rule, or none where that is always true.
-- They spell no numbers but constants of the specification. Names are left for bound ones, as in all that a machine holds.
abbrev pub NestedRulesStand : Type 0
NestedRulesStand = (S : List Stm) (o : Options) (E : Model) (x : Text) (r : Repr) (d : Dom) (ns : List Named) → fault S ≡ None →
    Ground S o → IsNestedFind S o x r d ns → DeclaresNested S o E r d ns → (shows_of S o).next ≤ 2 ^ 62 → (taken : List Text) →
    length taken ≤ 2 ^ 62 → (s : Scope) (w : Ex) →
    TreeComes s taken (shows_of S o).next (asked_of (shows_of S o) (value_plan finds_side x r d ns)) (Some w) →
    StructureMeans S o E (value_plan finds_side x r d ns) (unless_true w) × Each (unless_true w) (λ e. spelled S (parts_of e) ≡ true)
