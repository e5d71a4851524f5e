-- The laws of names, numbers and scopes along rules in trees over views, each stated at a function that does nothing.
use Rattle.std.specs.Prelude.{◌≡◌, ℕ, ◌<◌, ◌≤◌, ◌^◌, Bool, true, false, not, ℤ, pos, Option, Some, IsTrue, List}
use Rattle.std.specs.List.{list_all}
use Rattle.ess_semantics.specs.Values.{Text}
use Rattle.ess_semantics.specs.Order.{same_text}
use Rattle.ess_semantics.specs.Names.{Names}
use Rattle.ess_semantics.specs.Trees.{Ex}
use Rattle.ess_semantics.specs.Scoped.{Scoped}
use Rattle.ess_semantics.specs.Substitution.{NamesAre}
use Rattle.ess_semantics.specs.Contexts.{In, fill}
use Rattle.ess_rules_laws.specs.Rules.{Unused}
use Rattle.ess_refine_laws.specs.AllRules.{Rule, Supply, rewrite}
use Rattle.ess_refine_laws.specs.ScopesStay.{Scope, scope_at, is_outside_views}
use Rattle.ess_refine_laws.specs.ScopesOfRules.{IsNew}
use Rattle.ess_refine_laws.specs.SpellingEnds.{numbers_of_tree}
use Rattle.ess_open_rules_laws.specs.OpenRules.{KindRuling, kind_ruled}
use Rattle.conjure_model_laws.specs.ToldApart.{reserved}
use Rattle.ess_depth_laws.specs.Below.{HasNamesBelow}
use Rattle.ess_seen_laws.specs.Seen.{Bound, bound_types, Seen}
use Rattle.ess_seen_laws.specs.MayFire.{may_fire, may_fire_by_kind}
use Rattle.ess_seen_names_laws.specs.Shapes.{Shape}

-- No name. Domains of views of nested sets use none.
abbrev pub none : Text → Bool
none a = false

-- Names that are bound over domains are in scope.
abbrev pub Within : Scope → Type 0
Within s = (a : Text) → s.over_domains a ≡ true → s.all a ≡ true

-- What the first tree has the second one has: it is in scope where the name x is new; it spells no numbers but those of the first, 0, 1
-- and 2; and it has no names but those of the first and x.
pub record KeepsNames (x : Text) (e f : Ex) : Type 0 where
  pub scoped : (c : Scope) → IsNew c x e → Within c → Scoped none c.all c.over_domains e → Scoped none c.all c.over_domains f
  pub spells : (q : ℤ → Bool) → q (pos 0) ≡ true → q (pos 1) ≡ true → q (pos 2) ≡ true → list_all q (numbers_of_tree e) ≡ true →
      list_all q (numbers_of_tree f) ≡ true
  pub names : (u : Text → Bool) → IsTrue (u x) → NamesAre u u e → NamesAre u u f

-- So each rule that fires at the root of a tree over views makes one of these forms, which keep that.
pub record SeenRulesKeepNames : Type 0 where
  pub plainly : (cells : Text → Option (Bool × List ℕ)) (s : Supply) (r : Names Bound) (u : Rule) (e f : Ex) (m : Bool) → Seen cells r e m →
      may_fire u ≡ true → rewrite s (bound_types r) u e ≡ Some f → Shape s.one e f
  pub by_kind : (cells : Text → Option (Bool × List ℕ)) (s : Supply) (r : Names Bound) (u : KindRuling) (e f : Ex) (m : Bool) →
      Seen cells r e m → may_fire_by_kind u ≡ true → kind_ruled s (bound_types r) u e ≡ Some f → Shape s.one e f
  pub kept : (x : Text) (e f : Ex) → Shape x e f → KeepsNames x e f

-- The whole is in scope, with no name around it, and has no names but the reserved ones below the n-th.
pub record IsNamed (n : ℕ) (e : Ex) : Type 0 where
  pub scoped : Scoped none none none e
  pub names : HasNamesBelow n e

-- A rule at a part keeps it, behind the names that it takes: the whole spells no numbers but those that it spelled, 0, 1 and 2. Each
-- reserved name from the n-th on the tree neither uses nor binds, so that it is new at each part.
pub record NamesAtParts : Type 0 where
  pub one_rule : (n m : ℕ) (c : In) (a b : Ex) → is_outside_views c ≡ true → KeepsNames (reserved n) a b → n < m → m ≤ 2 ^ 64 →
      IsNamed n (fill c a) → IsNamed m (fill c b)
  pub spells : (c : In) (x : Text) (a b : Ex) → KeepsNames x a b → (q : ℤ → Bool) → q (pos 0) ≡ true → q (pos 1) ≡ true →
      q (pos 2) ≡ true → list_all q (numbers_of_tree (fill c a)) ≡ true → list_all q (numbers_of_tree (fill c b)) ≡ true
  pub later : (n m : ℕ) (e : Ex) → n ≤ m → HasNamesBelow n e → HasNamesBelow m e
  pub of_a_part : (n : ℕ) (c : In) (a : Ex) → HasNamesBelow n (fill c a) → HasNamesBelow n a
  pub unused : (n j : ℕ) (e : Ex) → HasNamesBelow n e → n ≤ j → j < 2 ^ 64 → Unused (reserved j) e
  pub unbound : (n j : ℕ) (e : Ex) → HasNamesBelow n e → n ≤ j → j < 2 ^ 64 →
      NamesAre (λ a. true) (λ a. not (same_text (reserved j) a)) e
  pub new : (c : In) (s : Scope) (x : Text) (a : Ex) → is_outside_views c ≡ true → IsNew s x (fill c a) → IsNew (scope_at c s) x a
  pub within : (c : In) (s : Scope) → Within s → Within (scope_at c s)
