-- A constraint and its rule, linked by what the layers promise of one tree each; the same of the structure of a plan.
use Rattle.std.proofs.Common.{◌≡◌, refl, sym, ap, ◌∙◌, Bool, true, List, [], ◌++◌, Some, None}
use Rattle.ess_semantics.specs.Names.{Names}
use Rattle.ess_semantics.specs.Trees.{Ex, Stm}
use Rattle.ess_semantics.specs.Tables.{Table}
use Rattle.ess_semantics.specs.Meaning.{Env, is_true}
use Rattle.ess_semantics.specs.Assignments.{Assignment, env_of}
use Rattle.ess_semantics.specs.Plans.{Options}
use Rattle.conjure_laws.specs.Premises.{Instance}
use Rattle.conjure_laws.specs.ModelPremises.{Base, RuleMeans}
use Rattle.ess_semantics.specs.ModelTrees.{Model, all_decls}
use Rattle.ess_semantics.specs.Satisfaction.{tables_fit, rule_holds}
use Rattle.ess_semantics.specs.Kept.{Kept, KeptWhere}
use Rattle.conjure_laws.specs.Views.{Chain, StructureChain, over_tables, AtTables}
use Rattle.conjure_laws.proofs.MatchedTables.{matched-fit}
use Rattle.conjure_laws.proofs.Matching.{canonical-matched}

-- A rewriting that keeps a closed tree under types keeps it over tables.
pub kept-at-tables : (S : List Stm) (o : Options) (M : Model) (old new : Ex) → Kept [] old new → KeptWhere (AtTables S o M) old new
kept-at-tables S o M old new k env h m = k env (λ a t v e f. let z : None ≡ Some t = e in cc) m

-- What the rule says at canonical tables of members is what the constraint says at the members.
pub rule-from-chain : (S : List Stm) (o : Options) (M : Model) (L : Base S o M) (vs : Names Ex) (e r : Ex) → Chain S o M vs e r →
    RuleMeans S o M e r
rule-from-chain S o M L vs e r h p a q c I C =
    let fit = matched-fit S o M L p q I a c (canonical-matched S o M L p q I a c C.members C.tables) in
    let k = h.kept p a q c I C in
    let w = h.rewritten (over_tables S p (q ++ c)) (record { p = p; q = q; c = c; instance = I; fit = fit; is = refl }) k.1 in
    ap is_true (h.lowered p q c I fit ∙ sym w.0 ∙ k.0) ∙ h.positions p a (q ++ c) I.param C.members
    ∙ ap is_true (h.same (env_of S p a))

-- What the rule says over tables that fit is what the tree of the structure says.
pub structure-from-chain : (S : List Stm) (o : Options) (M : Model) (says : Env → Bool) (r : Ex) → StructureChain S o M says r →
    (p : Assignment) (q c : Names Table) → Instance S o p q → tables_fit (all_decls M) q M.finds c ≡ true →
    rule_holds M q c r ≡ says (over_tables S p (q ++ c))
structure-from-chain S o M says r h p q c I fit =
    let env = over_tables S p (q ++ c) in
    let at : AtTables S o M env = record { p = p; q = q; c = c; instance = I; fit = fit; is = refl } in
    ap is_true (h.lowered p q c I fit ∙ sym (h.rewritten env at (h.met env at)).0) ∙ h.means env at
