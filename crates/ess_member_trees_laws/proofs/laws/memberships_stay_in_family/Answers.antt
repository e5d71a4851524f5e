use Rattle.std.proofs.Common.{◌≡◌, sym, Some, None}
use Rattle.ess_semantics.specs.Values.{Text}
use Rattle.ess_semantics.specs.Names.{Names}
use Rattle.ess_semantics.specs.Trees.{Ex, Dom}
use Rattle.ess_semantics.specs.Types.{Ty}
use Rattle.ess_semantics.specs.Contexts.{fill}
use Rattle.ess_refine_laws.specs.AllRules.{rewrite}
use Rattle.ess_flat_laws.specs.ess_open_rules_laws.OpenRules.{kind_ruled}
use Rattle.ess_member_trees_laws.specs.Memberships.{Literal, Axis, Part, Becomes}
use Rattle.ess_member_trees_laws.specs.Laws.{IsMade, plainly, by_kind, gathered}
use Rattle.ess_member_trees_laws.proofs.AllRules as A
use Rattle.ess_member_trees_laws.proofs.PartSteps.{part-step}
use Rattle.ess_member_trees_laws.proofs.Closed.{family-step}
use Rattle.ess_member_trees_laws.proofs.laws.memberships_stay_in_family.Goals as goal

makes : (n : Text) (D : Dom) (L : Ex) → Axis D → Literal L → (g : Names Ty) (a b : Ex) (p : Part n D L g a) → IsMade g a b →
    Becomes n D L p b
makes n D L x l g a b p (plainly s r e) = A.made-becomes n D L x l p b (rewrite s g r a) (A.plainly n D L x l s g r a p) e
makes n D L x l g a b p (by_kind s r e) = A.made-becomes n D L x l p b (kind_ruled s g r a) (A.by-kind n D L x l s g r a p) e
makes n D L x l g a b p (gathered e) = absurd (no (sym (A.gathered n D L x l g a p)) e)
  where
    no : {o : _} → None ≡ o → o ≡ Some b → ⊥
    no p q = cc

pub returns : goal.returns
returns c = record {
  plainly = A.plainly;
  by_kind = A.by-kind;
  gathered = A.gathered;
  steps = λ n D L x l c g a b f r. family-step n D L x l IsMade (makes n D L x l) g (fill c a) (fill c b) f (part-step IsMade c g a b r);
}
