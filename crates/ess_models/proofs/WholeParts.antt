-- The whole model of its parts, and that it is the one of the definitions.
use Rattle.std.proofs.Common.{◌≡◌, refl, sym, subst, List, map}
use Rattle.ess_semantics.specs.Values.{Text}
use Rattle.ess_semantics.specs.Trees.{Stm}
use Rattle.ess_semantics.specs.Plans.{Plan}
use Rattle.eprime_tree.specs.Views.{pure_ex, pure_goal}
use Rattle.eprime_tree.specs.declared.models.PModel.{PModel}
use Rattle.eprime_read_convert.specs.Lines.{scope_of}
use Rattle.conjure_model_laws.specs.Shown.{Shows}
use Rattle.ess_models.specs.declared.parts.Part.{Part}
use Rattle.ess_models.specs.declared.declared.Declarations.{Declarations}
use Rattle.ess_models.specs.declared.declared.DeclaredParts.{DeclaredParts}
use Rattle.ess_models.specs.declared.rules.Rules.{Rules}
use Rattle.ess_models.specs.Parts.{AreRules, RuleLacks, RulesLack, PartLacks}
use Rattle.ess_models.specs.Coming.{given_tables, found_tables, AreKnown, DeclarationsCome, AreParts}

module _ (taken : List Text) (sh : Shows) (Ps : List Plan) (xs : List Text) (cs : List Stm) where
  -- A part that can't be declared.
  pub declared_lacks : (p : Part) → DeclarationsCome taken sh Ps (DeclaredParts.Lacks p) → PartLacks taken sh Ps xs cs p
  declared_lacks Part.Givens h = h
  declared_lacks Part.Finds h = h
  declared_lacks Part.Structures h = absurd h
  declared_lacks Part.Channels h = absurd h
  declared_lacks Part.Objective h = absurd h
  declared_lacks Part.Constraints h = absurd h

  lacking : (p : Part) (d : Declarations) → AreKnown taken sh Ps d → RuleLacks taken sh Ps xs cs (scope_of d.lines) p
      → RulesLack taken sh Ps xs cs p
  lacking p d k h = record {
    givens = given_tables d.givens;
    finds = found_tables d.givens d.finds;
    declared = k.written;
    lacks = subst (λ s. RuleLacks taken sh Ps xs cs s p) k.known h;
  }

  -- A part whose rules can't be written.
  pub ruled_lacks : (p : Part) (d : Declarations) → AreKnown taken sh Ps d → RuleLacks taken sh Ps xs cs (scope_of d.lines) p
      → PartLacks taken sh Ps xs cs p
  ruled_lacks Part.Givens d k h = absurd h
  ruled_lacks Part.Finds d k h = absurd h
  ruled_lacks Part.Structures d k h = lacking Part.Structures d k h
  ruled_lacks Part.Channels d k h = lacking Part.Channels d k h
  ruled_lacks Part.Objective d k h = lacking Part.Objective d k h
  ruled_lacks Part.Constraints d k h = lacking Part.Constraints d k h

  -- The model of its parts.
  pub are_parts : (head : List Text) (d : Declarations) (r : Rules) (m : PModel) → AreKnown taken sh Ps d
      → AreRules taken sh Ps xs cs (scope_of d.lines) (pure_goal (scope_of d.lines) r.goal) (map (pure_ex (scope_of d.lines)) r.rules)
      → m ≡ record { head = head; givens = d.givens; finds = d.finds; goal = r.goal; rules = r.rules }
      → AreParts taken sh Ps xs cs head m
  are_parts head d r m k h e =
      let n : PModel = record { head = head; givens = d.givens; finds = d.finds; goal = r.goal; rules = r.rules } in
      let a : AreParts taken sh Ps xs cs head n = record {
        head = refl;
        declared = k.written;
        rules = subst (λ s. AreRules taken sh Ps xs cs s (pure_goal s r.goal) (map (pure_ex s) r.rules)) k.known h;
      } in
      subst (AreParts taken sh Ps xs cs head) (sym e) a
