-- The laws of flat total trees, each stated at a function that does nothing.
use Rattle.std.specs.Prelude.{◌≡◌, Bool, Option, Some, None}
use Rattle.ess_semantics.specs.Values.{Text}
use Rattle.ess_semantics.specs.Names.{Names}
use Rattle.ess_semantics.specs.Trees.{Ex}
use Rattle.ess_semantics.specs.Types.{Ty}
use Rattle.ess_semantics.specs.Contexts.{In, fill}
use Rattle.ess_semantics.specs.NamesAt.{names_at}
use Rattle.ess_refine_laws.specs.AllRules.{Supply, Rule, rewrite}
use Rattle.ess_open_rules_laws.specs.OpenRules.{KindRuling, kind_ruled}
use Rattle.ess_flat_laws.specs.Flat.{Flat, flat_mark, none_marked}

-- No rule fires at a flat total tree over cells, whatever it takes and whichever types names have: none that reads no kind, and none that
-- reads one. Each part of such a tree is one, so that none fires anywhere in it; and no name is bound around a part. The test
-- says which trees these are.
pub record NoRuleFires : Type 0 where
  pub plainly : (cells : Text → Option Bool) (s : Supply) (g : Names Ty) (r : Rule) (e : Ex) (m : Bool) → Flat none_marked cells e m →
      rewrite s g r e ≡ None
  pub by_kind : (cells : Text → Option Bool) (s : Supply) (g : Names Ty) (r : KindRuling) (e : Ex) (m : Bool) →
      Flat none_marked cells e m → kind_ruled s g r e ≡ None
  pub parts : (names cells : Text → Option Bool) (c : In) (e : Ex) (m : Bool) → Flat names cells (fill c e) m →
      (k : Bool) × Flat names cells e k
  pub unbound : (names cells : Text → Option Bool) (c : In) (e : Ex) (m : Bool) (g : Names Ty) → Flat names cells (fill c e) m →
      names_at c g ≡ g
  pub tested : (names cells : Text → Option Bool) (e : Ex) (m : Bool) → flat_mark names cells e ≡ Some m → Flat names cells e m
