-- Rules that put terms for a name, used where the bound names of the first source are told apart anew first: so a term that is put in at
-- several places captures no name of another one.
use Rattle.std.specs.Prelude.{◌≡◌, ℕ, ◌+◌, ◌≤◌, ◌^◌, Bool, true, false, [], Some, if◌then◌else◌}
use Rattle.ess_semantics.specs.Values.{Text}
use Rattle.ess_semantics.specs.Names.{Names}
use Rattle.ess_semantics.specs.Trees.{Ex, comp_ex, fun1, from}
use Rattle.ess_semantics.specs.Types.{Ty}
use Rattle.ess_semantics.specs.Meaning.{Env}
use Rattle.ess_semantics.specs.Contexts.{In, fill}
use Rattle.ess_semantics.specs.Kept.{Keeps}
use Rattle.ess_refine_laws.specs.AllRules.{Rule, over_a_literal, over_a_source, of_one_source, over_a_comprehension, least_of_alternatives, rewrite}
use Rattle.conjure_model_laws.specs.ToldApart.{told, told_apart}
use Rattle.ess_chain_names_laws.specs.Steps.{supply_at, behind_names}
use Rattle.ess_chain_names_laws.specs.SparedNames.{Spares}
use Rattle.ess_chain_kept_laws.specs.CountsBeside.{CountsBeside}
use Rattle.ess_told_over_laws.specs.ToldOverTables.{IsScopedBelow}

-- Rules that put terms of the first source for its name.
abbrev pub renews : Rule → Bool
renews over_a_literal = true
renews over_a_source = true
renews of_one_source = true
renews over_a_comprehension = true
renews least_of_alternatives = true
renews r = false

-- The comprehension, or the word of one, with the bound names of its first source told apart from the j-th reserved name on.
abbrev pub with_new_source : ℕ → Ex → Ex
with_new_source j (comp_ex e (from p t hs)) = comp_ex e (from p (told_apart j t) hs)
with_new_source j (fun1 m f (comp_ex e (from p t hs))) = fun1 m f (comp_ex e (from p (told_apart j t) hs))
with_new_source j e = e

-- The number behind these names.
abbrev pub behind_source : ℕ → Ex → ℕ
behind_source j (comp_ex e (from p t hs)) = (told t [] j).1
behind_source j (fun1 m f (comp_ex e (from p t hs))) = (told t [] j).1
behind_source j e = j

-- The tree at which the rule is used.
abbrev pub renewed : ℕ → Rule → Ex → Ex
renewed j r a = if renews r then with_new_source j a else a

-- One of the rules makes b of a, where names have the types g, with reserved names from the n-th on and none from the m-th on.
pub record IsRuledAnew (n : ℕ) (g : Names Ty) (a b : Ex) (m : ℕ) : Type 0 where
  pub count : ℕ
  pub rule : Rule
  pub fires : rewrite (supply_at n count) g rule (renewed (n + 3 + count) rule a) ≡ Some b
  pub takes : n + 3 + count ≤ m
  pub passes : behind_names (n + 3 + count) rule a ≤ m
  pub renewing : behind_source (n + 3 + count) a ≤ m

-- The first source is in scope.
abbrev pub SourceScoped : (Text → Bool) → (Text → Bool) → (Text → Bool) → ℕ → Ex → Type 0
SourceScoped z s o j (comp_ex e (from p t hs)) = IsScopedBelow z s o j t
SourceScoped z s o j (fun1 m f (comp_ex e (from p t hs))) = IsScopedBelow z s o j t
SourceScoped z s o j e = Unit {0}

-- A source told apart anew keeps the tree. So a rule used there keeps what it rewrites, where it has there what it counts on beside new
-- names; and what a tree spares it leaves behind the names that it takes.
pub record RenewedRulesKeep : Type 0 where
  pub sources : (z s o : Text → Bool) (j : ℕ) (a : Ex) → SourceScoped z s o j a → behind_source j a ≤ 2 ^ 64 → (env : Env) →
      Keeps a (with_new_source j a) env
  pub by_each_rule : (z s o : Text → Bool) (n m : ℕ) (g : Names Ty) (a b : Ex) → (i : IsRuledAnew n g a b m) → m ≤ 2 ^ 64 → Spares n a →
      SourceScoped z s o (n + 3 + i.count) a → (env : Env) →
      CountsBeside (supply_at n i.count) g i.rule (renewed (n + 3 + i.count) i.rule a) env → Keeps a b env
  pub spare_names : (n m : ℕ) (g : Names Ty) (a b : Ex) → IsRuledAnew n g a b m → (c : In) → Spares n (fill c a) → Spares m (fill c b)
