-- The laws of values of trees over views of sets, each stated at a function that does nothing.
use Rattle.std.specs.Prelude.{◌≡◌, ℕ, Bool, true, Option, Some, IsTrue, List}
use Rattle.ess_semantics.specs.Values.{Text}
use Rattle.ess_semantics.specs.Names.{Names}
use Rattle.ess_semantics.specs.Trees.{Ex}
use Rattle.ess_semantics.specs.Typed.{Typed}
use Rattle.ess_semantics.specs.Meaning.{Env, meaning}
use Rattle.ess_semantics.specs.Meets.{Meets}
use Rattle.ess_semantics.specs.Scoped.{Scoped}
use Rattle.ess_semantics.specs.Contexts.{In, fill, Where}
use Rattle.ess_semantics.specs.NamesAt.{names_at}
use Rattle.ess_refine_laws.specs.ScopesStay.{Scope, scope_at, is_outside_views}
use Rattle.ess_refine_laws.specs.AllRules.{Supply, Rule, rewrite}
use Rattle.ess_open_rules_laws.specs.OpenRules.{KindRuling, kind_ruled}
use Rattle.ess_values_along_laws.specs.Valued.{Valued}
use Rattle.ess_seen_laws.specs.Seen.{Bound, bound_types, Seen}
use Rattle.ess_seen_laws.specs.MayFire.{may_fire, may_fire_by_kind}
use Rattle.ess_seen_laws.specs.Apart.{Apart}
use Rattle.ess_seen_everywhere_laws.specs.Laws.{IsFilled}

-- ---- rules

-- Names have values of their types, tables of numbers have one at each slot, positions stand for the values of named types, as in models,
-- and tables meet the structures.
pub record IsMet (cells : Text → Option (Bool × List ℕ)) (r : Names Bound) (e : Ex) (env : Env) : Type 0 where
  pub holds : IsFilled cells r env
  pub positions : IsTrue env.positions
  pub met : Meets e env

-- The second tree means the same, tables meet its structures, and each part of it has a value wherever its context holds, but for numbers
-- in natural places; w says that the trees stand in one.
pub record StaysAlike (w : Bool) (old new : Ex) (env : Env) : Type 0 where
  pub means : meaning old env ≡ meaning new env
  pub met : Meets new env
  pub valued : Valued w new env

-- So each of the rules that fire at such a tree keeps it.
pub record SeenRulesKeep : Type 0 where
  pub plainly : (cells : Text → Option (Bool × List ℕ)) (s : Supply) (r : Names Bound) (u : Rule) (e f : Ex) (m : Bool) → Seen cells r e m →
      Apart s.one r e → may_fire u ≡ true → rewrite s (bound_types r) u e ≡ Some f → (env : Env) → IsMet cells r e env → (w : Bool) →
      Valued w e env → StaysAlike w e f env
  pub by_kind : (cells : Text → Option (Bool × List ℕ)) (s : Supply) (r : Names Bound) (u : KindRuling) (e f : Ex) (m : Bool) →
      Seen cells r e m → Apart s.one r e → may_fire_by_kind u ≡ true → kind_ruled s (bound_types r) u e ≡ Some f → (env : Env) →
      IsMet cells r e env → (w : Bool) → Valued w e env → StaysAlike w e f env

-- ---- parts

-- Wherever the context of a part outside of views holds, names have values of their types there, where tables meet the structures of the
-- whole. And a part is in the scope of its place.
pub record PartsOfSeenTrees : Type 0 where
  pub typed : (cells : Text → Option (Bool × List ℕ)) (r : Names Bound) (c : In) (e : Ex) (m : Bool) → Seen cells r (fill c e) m →
      is_outside_views c ≡ true → (env : Env) → IsMet cells r (fill c e) env → Where c env (Typed (names_at c (bound_types r)))
  pub positions : (c : In) (env : Env) → IsTrue env.positions → Where c env (λ here. IsTrue here.positions)
  pub scoped : (z : Text → Bool) (c : In) (s : Scope) (e : Ex) → is_outside_views c ≡ true → Scoped z s.all s.over_domains (fill c e) →
      Scoped z (scope_at c s).all (scope_at c s).over_domains e
