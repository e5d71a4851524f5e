-- Rewriting that keeps scopes: at a part and so in the whole.
use Rattle.std.specs.Prelude.{◌≡◌, Bool, true, false}
use Rattle.ess_semantics.specs.Values.{Text}
use Rattle.ess_semantics.specs.Names.{Names}
use Rattle.ess_semantics.specs.Trees.{Ex, Gens, no_gens, over, from, cond}
use Rattle.ess_semantics.specs.Types.{Ty}
use Rattle.ess_semantics.specs.Scoped.{with_names, Scoped}
use Rattle.ess_semantics.specs.Contexts.{In, Ins, InGens, InDom, InDoms, hole, in_operand, in_item, in_index_domain, in_body, in_generators, in_cell_index, in_view_domain, in_view_index, in_first, in_later, in_generator_domain, behind_over, in_source, behind_from, in_condition, behind_condition, in_bound, in_component, in_field, in_index, in_element, in_set_number, in_set_member, in_mset_number, in_mset_member, in_function_number, in_argument, in_result, in_relation_number, in_relation_component, in_partition_number, in_partition_member, in_first_domain, in_later_domain, fill}
use Rattle.ess_semantics.specs.Kept.{Kept}

-- ---- names in scope

-- Names: those in scope, and those of them that are bound over domains.
pub record Scope : Type 0 where
  pub all : Text → Bool
  pub over_domains : Text → Bool

-- The names in scope behind generators.
abbrev pub scope_behind : Gens → Scope → Scope
scope_behind no_gens s = s
scope_behind (over p d gs) s = scope_behind gs (record { all = with_names s.all p; over_domains = with_names s.over_domains p })
scope_behind (from p e gs) s = scope_behind gs (record { all = with_names s.all p; over_domains = s.over_domains })
scope_behind (cond c gs) s = scope_behind gs s

abbrev mutual
  -- The names in scope at the open part. A view is closed: no rule rewrites a part of one.
  pub scope_at : In → Scope → Scope
  scope_at hole s = s
  scope_at (in_operand b op c) s = scope_at_exs c s
  scope_at (in_item c d) s = scope_at_exs c s
  scope_at (in_index_domain es c) s = scope_at_dom c s
  scope_at (in_body c gs) s = scope_at c (scope_behind gs s)
  scope_at (in_generators x c) s = scope_at_gens c s
  scope_at (in_cell_index b n c) s = scope_at_exs c s
  scope_at (in_view_domain r c ns es) s = s
  scope_at (in_view_index r d ns c) s = s

  -- The same of several expressions.
  pub scope_at_exs : Ins → Scope → Scope
  scope_at_exs (in_first c es) s = scope_at c s
  scope_at_exs (in_later x c) s = scope_at_exs c s

  -- The same of generators.
  pub scope_at_gens : InGens → Scope → Scope
  scope_at_gens (in_generator_domain p c gs) s = scope_at_dom c s
  scope_at_gens (behind_over p d c) s = scope_at_gens c (record { all = with_names s.all p; over_domains = with_names s.over_domains p })
  scope_at_gens (in_source p c gs) s = scope_at c s
  scope_at_gens (behind_from p x c) s = scope_at_gens c (record { all = with_names s.all p; over_domains = s.over_domains })
  scope_at_gens (in_condition c gs) s = scope_at c s
  scope_at_gens (behind_condition x c) s = scope_at_gens c s

  -- The same of a domain.
  pub scope_at_dom : InDom → Scope → Scope
  scope_at_dom (in_bound rs c) s = scope_at_exs c s
  scope_at_dom (in_component c) s = scope_at_doms c s
  scope_at_dom (in_field fs c) s = scope_at_doms c s
  scope_at_dom (in_index c d) s = scope_at_doms c s
  scope_at_dom (in_element is c) s = scope_at_dom c s
  scope_at_dom (in_set_number ms c d) s = scope_at_exs c s
  scope_at_dom (in_set_member ms es c) s = scope_at_dom c s
  scope_at_dom (in_mset_number ms c d) s = scope_at_exs c s
  scope_at_dom (in_mset_member ms es c) s = scope_at_dom c s
  scope_at_dom (in_function_number ms c d r) s = scope_at_exs c s
  scope_at_dom (in_argument ms es c r) s = scope_at_dom c s
  scope_at_dom (in_result ms es d c) s = scope_at_dom c s
  scope_at_dom (in_relation_number ms c ds) s = scope_at_exs c s
  scope_at_dom (in_relation_component ms es c) s = scope_at_doms c s
  scope_at_dom (in_partition_number ms c d) s = scope_at_exs c s
  scope_at_dom (in_partition_member ms es c) s = scope_at_dom c s

  -- The same of several domains.
  pub scope_at_doms : InDoms → Scope → Scope
  scope_at_doms (in_first_domain c ds) s = scope_at_dom c s
  scope_at_doms (in_later_domain d c) s = scope_at_doms c s

abbrev mutual
  -- Whether the open part stands in no view.
  pub is_outside_views : In → Bool
  is_outside_views hole = true
  is_outside_views (in_operand b op c) = are_outside_views c
  is_outside_views (in_item c d) = are_outside_views c
  is_outside_views (in_index_domain es c) = dom_outside_views c
  is_outside_views (in_body c gs) = is_outside_views c
  is_outside_views (in_generators x c) = gens_outside_views c
  is_outside_views (in_cell_index b n c) = are_outside_views c
  is_outside_views (in_view_domain r c ns es) = false
  is_outside_views (in_view_index r d ns c) = false

  -- The same of several expressions.
  pub are_outside_views : Ins → Bool
  are_outside_views (in_first c es) = is_outside_views c
  are_outside_views (in_later x c) = are_outside_views c

  -- The same of generators.
  pub gens_outside_views : InGens → Bool
  gens_outside_views (in_generator_domain p c gs) = dom_outside_views c
  gens_outside_views (behind_over p d c) = gens_outside_views c
  gens_outside_views (in_source p c gs) = is_outside_views c
  gens_outside_views (behind_from p x c) = gens_outside_views c
  gens_outside_views (in_condition c gs) = is_outside_views c
  gens_outside_views (behind_condition x c) = gens_outside_views c

  -- The same of a domain.
  pub dom_outside_views : InDom → Bool
  dom_outside_views (in_bound rs c) = are_outside_views c
  dom_outside_views (in_component c) = doms_outside_views c
  dom_outside_views (in_field fs c) = doms_outside_views c
  dom_outside_views (in_index c d) = doms_outside_views c
  dom_outside_views (in_element is c) = dom_outside_views c
  dom_outside_views (in_set_number ms c d) = are_outside_views c
  dom_outside_views (in_set_member ms es c) = dom_outside_views c
  dom_outside_views (in_mset_number ms c d) = are_outside_views c
  dom_outside_views (in_mset_member ms es c) = dom_outside_views c
  dom_outside_views (in_function_number ms c d r) = are_outside_views c
  dom_outside_views (in_argument ms es c r) = dom_outside_views c
  dom_outside_views (in_result ms es d c) = dom_outside_views c
  dom_outside_views (in_relation_number ms c ds) = are_outside_views c
  dom_outside_views (in_relation_component ms es c) = doms_outside_views c
  dom_outside_views (in_partition_number ms c d) = are_outside_views c
  dom_outside_views (in_partition_member ms es c) = dom_outside_views c

  -- The same of several domains.
  pub doms_outside_views : InDoms → Bool
  doms_outside_views (in_first_domain c ds) = dom_outside_views c
  doms_outside_views (in_later_domain d c) = doms_outside_views c

-- The second tree is scoped where the first one is; z are the names that the domains of declarations may use.
abbrev pub KeepsScope : (Text → Bool) → Scope → Ex → Ex → Type 0
KeepsScope z s a b = Scoped z s.all s.over_domains a → Scoped z s.all s.over_domains b

-- ---- rules that keep scopes

-- z are the names that the domains of declarations may use. The second tree comes from the first one by rules that keep what they
-- rewrite, each at some part outside of views, where it keeps the scope too.
pub data ScopedRewriting (z : Text → Bool) : Names Ty → Scope → Ex → Ex → Type 0 where
  same_scope : {g : Names Ty} {s : Scope} {e : Ex} → ScopedRewriting z g s e e
  scoped_at : {g : Names Ty} {s : Scope} {e : Ex} (a b : Ex) (c : In) → is_outside_views c ≡ true → KeepsScope z (scope_at c s) a b →
      Kept g (fill c a) (fill c b) → ScopedRewriting z g s (fill c b) e → ScopedRewriting z g s (fill c a) e

-- A part outside of views that keeps its scope keeps that of the whole, and so do any number of such rules.
pub record WholesKeepScopes : Type 0 where
  pub at_a_part : (z : Text → Bool) (c : In) (s : Scope) (a b : Ex) → is_outside_views c ≡ true → KeepsScope z (scope_at c s) a b →
      KeepsScope z s (fill c a) (fill c b)
  pub by_any_rules : (z : Text → Bool) (g : Names Ty) (s : Scope) (old new : Ex) → ScopedRewriting z g s old new →
      Kept g old new × KeepsScope z s old new
