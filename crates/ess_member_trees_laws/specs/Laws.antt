-- The laws of the trees of a membership, each stated at a function that does nothing.
use Rattle.std.specs.Prelude.{◌≡◌, Some, None}
use Rattle.ess_semantics.specs.Values.{Text}
use Rattle.ess_semantics.specs.Names.{Names}
use Rattle.ess_semantics.specs.Trees.{Ex, Dom}
use Rattle.ess_semantics.specs.Types.{Ty}
use Rattle.ess_semantics.specs.Contexts.{In, fill}
use Rattle.ess_semantics.specs.NamesAt.{names_at}
use Rattle.ess_refine_laws.specs.AllRules.{Supply, Rule, rewrite}
use Rattle.ess_flat_laws.specs.ess_open_rules_laws.OpenRules.{KindRuling, kind_ruled}
use Rattle.ess_gathered_laws.specs.GatheredConditions.{conditions_gathered}
use Rattle.ess_member_trees_laws.specs.Memberships.{Literal, Axis, Family, Part, Made}

-- One of the rules, whatever it takes, makes b of a, where names have the types g.
pub data IsMade (g : Names Ty) (a b : Ex) : Type 0 where
  plainly : (s : Supply) (r : Rule) → rewrite s g r a ≡ Some b → IsMade g a b
  by_kind : (s : Supply) (r : KindRuling) → kind_ruled s g r a ≡ Some b → IsMade g a b
  gathered : conditions_gathered a ≡ Some b → IsMade g a b

-- What any rule makes of a part of a tree of a membership is told by the part, whatever the rule takes. So each rule at a part of such a
-- tree leads to such a tree.
pub record MembershipsStayInFamily : Type 0 where
  pub plainly : (n : Text) (A : Dom) (L : Ex) → Axis A → Literal L → (s : Supply) (g : Names Ty) (r : Rule) (a : Ex) (p : Part n A L g a) →
      Made n A L p (rewrite s g r a)
  pub by_kind : (n : Text) (A : Dom) (L : Ex) → Axis A → Literal L → (s : Supply) (g : Names Ty) (r : KindRuling) (a : Ex)
      (p : Part n A L g a) → Made n A L p (kind_ruled s g r a)
  pub gathered : (n : Text) (A : Dom) (L : Ex) → Axis A → Literal L → (g : Names Ty) (a : Ex) → Part n A L g a →
      conditions_gathered a ≡ None
  pub steps : (n : Text) (A : Dom) (L : Ex) → Axis A → Literal L → (c : In) (g : Names Ty) (a b : Ex) → Family n A L (fill c a) →
      IsMade (names_at c g) a b → Family n A L (fill c b)
