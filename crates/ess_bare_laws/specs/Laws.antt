-- The laws of bare trees, each stated at a function that does nothing.
use Rattle.std.specs.Prelude.{◌≡◌, ℕ, Bool, true, false, ℤ, Option, Some, None, IsTrue, is_some}
use Rattle.std.specs.List.{list_all}
use Rattle.ess_semantics.specs.Values.{Text}
use Rattle.ess_semantics.specs.Names.{Names, look}
use Rattle.ess_semantics.specs.Trees.{Ex, comp_ex, Gens}
use Rattle.ess_semantics.specs.Types.{Ty}
use Rattle.ess_semantics.specs.Typed.{Typed}
use Rattle.ess_semantics.specs.Meaning.{Env, meaning}
use Rattle.ess_semantics.specs.Meets.{Meets}
use Rattle.ess_semantics.specs.Refined.{is_refined}
use Rattle.ess_semantics.specs.FreeNames.{FreeNamesAre}
use Rattle.ess_semantics.specs.Scoped.{Scoped}
use Rattle.ess_semantics.specs.Contexts.{In, fill}
use Rattle.ess_rules_laws.specs.Rules.{IsTruth, IsNumber}
use Rattle.ess_refine_laws.specs.AllRules.{Supply, Rule, rewrite}
use Rattle.ess_refine_laws.specs.SpellingEnds.{numbers_of_tree}
use Rattle.ess_gathered_laws.specs.GatheredConditions.{conditions_gathered}
use Rattle.ess_open_rules_laws.specs.OpenRules.{KindRuling, kind_ruled}
use Rattle.ess_ordered_laws.specs.OrderedRules.{OrderedRule, ordered_rewrite}
use Rattle.ess_numbered_laws.specs.NumberRules.{NumberRule, number_rewrite}
use Rattle.ess_values_along_laws.specs.Valued.{Valued}
use Rattle.ess_bare_laws.specs.Bare.{Bare, Ranging}
use Rattle.ess_bare_laws.specs.BareParts.{marked_types, StandsIn}
use Rattle.ess_bare_laws.specs.Fires.{Fires}

-- A part of a bare tree is bare, or a list of bare items, with types of names that marks tell; and another bare tree of the same mark may
-- stand in its place.
abbrev pub PartsOfBareTrees : Type 0
PartsOfBareTrees = (cells : Text → Option (Bool × ℕ)) (r : Names Bool) (c : In) (e : Ex) (m : Bool) → Bare cells r (fill c e) m →
    StandsIn cells c r e m

-- At the root of a bare tree only four rules fire, whatever they take: of those that read no kind. None fires that reads the kind of a
-- view, opens a source, gathers conditions, asks for an order or counts the items of a source. At a list of bare items none fires at all.
pub record FewRulesFire : Type 0 where
  pub plainly : (cells : Text → Option (Bool × ℕ)) (s : Supply) (r : Names Bool) (u : Rule) (e f : Ex) (m : Bool) → Bare cells r e m →
      rewrite s (marked_types r) u e ≡ Some f → Fires e f m
  pub by_kind : (cells : Text → Option (Bool × ℕ)) (s : Supply) (r : Names Bool) (u : KindRuling) (e : Ex) (m : Bool) →
      Bare cells r e m → kind_ruled s (marked_types r) u e ≡ None
  pub gathering : (cells : Text → Option (Bool × ℕ)) (r : Names Bool) (e : Ex) (m : Bool) → Bare cells r e m →
      conditions_gathered e ≡ None
  pub in_order : (cells : Text → Option (Bool × ℕ)) (s : Supply) (r : Names Bool) (u : OrderedRule) (e : Ex) (m : Bool) →
      Bare cells r e m → ordered_rewrite s (marked_types r) u e ≡ None
  pub by_number : (cells : Text → Option (Bool × ℕ)) (s : Supply) (r : Names Bool) (u : NumberRule) (e : Ex) (m : Bool) →
      Bare cells r e m → number_rewrite s (marked_types r) u e ≡ None
  pub at_a_list : (cells : Text → Option (Bool × ℕ)) (s : Supply) (g : Names Ty) (r t : Names Bool) (e : Ex) (gs : Gens) →
      Ranging cells r gs t → ((u : Rule) → rewrite s g u (comp_ex e gs) ≡ None)
      × ((u : KindRuling) → kind_ruled s g u (comp_ex e gs) ≡ None)
      × (conditions_gathered (comp_ex e gs) ≡ None) × ((u : OrderedRule) → ordered_rewrite s g u (comp_ex e gs) ≡ None)
      × ((u : NumberRule) → number_rewrite s g u (comp_ex e gs) ≡ None)

-- What such a rule makes of a bare tree is bare and has the same mark; it keeps the meaning and that parts have values, where names have
-- values of their marks; it keeps scopes, and spells no other numbers. A part that spells no others leaves those of the
-- whole.
pub record FiredRulesKeep : Type 0 where
  pub stays_bare : (cells : Text → Option (Bool × ℕ)) (r : Names Bool) (e f : Ex) (m : Bool) → Bare cells r e m → Fires e f m →
      Bare cells r f m
  pub keeps : (cells : Text → Option (Bool × ℕ)) (r : Names Bool) (e f : Ex) (m : Bool) → Bare cells r e m → Fires e f m →
      (w : Bool) (env : Env) → Typed (marked_types r) env → Valued w e env → (meaning e env ≡ meaning f env) × Valued w f env
  pub scoped : (cells : Text → Option (Bool × ℕ)) (r : Names Bool) (e f : Ex) (m : Bool) → Bare cells r e m → Fires e f m →
      (z s o : Text → Bool) → Scoped z s o e → Scoped z s o f
  pub spells : (cells : Text → Option (Bool × ℕ)) (r : Names Bool) (e f : Ex) (m : Bool) → Bare cells r e m → Fires e f m →
      (q : ℤ → Bool) → list_all q (numbers_of_tree e) ≡ true → list_all q (numbers_of_tree f) ≡ true
  pub spells_at_a_part : (q : ℤ → Bool) (c : In) (a b : Ex) →
      (list_all q (numbers_of_tree a) ≡ true → list_all q (numbers_of_tree b) ≡ true) →
      list_all q (numbers_of_tree (fill c a)) ≡ true → list_all q (numbers_of_tree (fill c b)) ≡ true

-- The value of a bare tree has its mark, where names have values of their marks; a truth value is there wherever each name has a value. A
-- bare tree is refined, any tables meet it, and its free names are among those that are bound around it.
pub record BareTreesAreScalars : Type 0 where
  pub number : (cells : Text → Option (Bool × ℕ)) (r : Names Bool) (e : Ex) → Bare cells r e false → (env : Env) →
      Typed (marked_types r) env → IsTrue (is_some (meaning e env)) → IsNumber (meaning e env)
  pub truth : (cells : Text → Option (Bool × ℕ)) (r : Names Bool) (e : Ex) → Bare cells r e true → (env : Env) →
      Typed (marked_types r) env → IsTrue (is_some (meaning e env)) → IsTruth (meaning e env)
  pub refined : (cells : Text → Option (Bool × ℕ)) (r : Names Bool) (e : Ex) (m : Bool) → Bare cells r e m → is_refined e ≡ true
  pub met : (cells : Text → Option (Bool × ℕ)) (r : Names Bool) (e : Ex) (m : Bool) → Bare cells r e m → (env : Env) → Meets e env
  pub closed : (cells : Text → Option (Bool × ℕ)) (r : Names Bool) (e : Ex) (m : Bool) → Bare cells r e m →
      FreeNamesAre (λ a. is_some (look r a)) e
