-- A view that is kept as another value has the members of the child's view, in their order, and what operators ask of it they may
-- ask of the child.
use Rattle.std.specs.Prelude.{◌≡◌, true, false, List, [], ◌∷◌, Some, IsTrue, option_map}
use Rattle.ess_semantics.specs.declared.words.Op1.{Op1}
use Rattle.ess_semantics.specs.declared.words.Op2.{Op2}
use Rattle.ess_semantics.specs.declared.words.Fun.{Fun}
use Rattle.ess_semantics.specs.Lists.{and_then, is_some_and}
use Rattle.ess_semantics.specs.Values.{Text, items_of}
use Rattle.ess_semantics.specs.Trees.{repr, Ex, ex1, ex2, fun1, seen_ex}
use Rattle.ess_semantics.specs.Membership.{member}
use Rattle.ess_semantics.specs.Representations.{layer}
use Rattle.ess_semantics.specs.Meaning.{Env, meaning, domain_of}
use Rattle.ess_semantics.specs.Meets.{Meets, MeetsDom}
use Rattle.ess_semantics.specs.Kept.{Keeps}
use Rattle.ess_rules_laws.specs.Listings.{Alternative}
use Rattle.ess_rules_laws.specs.ListedSources.{Offers}
use Rattle.ess_views_laws.specs.ChildViews.{kept_as, child_listing, asked_of_child}

-- ---- what is known of the child

-- The domain of the child's view is that of the only child of the layer.
abbrev pub ChildDenoted : Ex → Ex → Env → Type 0
ChildDenoted (seen_ex (repr k rs) d ns js) (seen_ex r c ms is) env =
    option_map (λ x. x ∷ []) (domain_of c env) ≡ and_then (domain_of d env) (λ e. option_map (λ l. l.children) (layer k e))
ChildDenoted e c env = Unit {0}

-- A view has a value that is a member of its domain, and the tables meet the structures in the domain's own terms.
abbrev pub HasMember : Ex → Env → Type 0
HasMember (seen_ex r d ns js) env =
    IsTrue (is_some_and (domain_of d env) (λ e. is_some_and (meaning (seen_ex r d ns js) env) (member e))) × MeetsDom d env
HasMember e env = Unit {0}

-- The child's view stands for a member of the domain that the layer says.
pub record ChildKnown (e c : Ex) (env : Env) : Type 0 where
  pub denoted : ChildDenoted e c env
  pub held : HasMember c env

-- So it is of the child of a view, if it is kept as one.
abbrev pub KnownChild : Ex → Env → Type 0
KnownChild e env = (c : Ex) → kept_as e ≡ Some c → ChildKnown e c env

-- The view of which `in` or a size asks.
abbrev pub asked_view : Ex → Ex
asked_view (ex2 true Op2.Member a (fun1 false Fun.ToRelation v)) = v
asked_view (ex2 true Op2.Member a v) = v
asked_view (ex1 false Op1.Bar (fun1 false Fun.Parts v)) = v
asked_view (ex1 false Op1.Bar v) = v
asked_view e = e

-- ---- the laws

-- Where the tables meet the structure of the view they meet that of the child's view, which has the members in their order; so it is
-- listed by the members of the child, and `in` and sizes may ask the child.
pub record ChildrenServe : Type 0 where
  pub members_stay : (e c : Ex) → kept_as e ≡ Some c → (env : Env) → ChildKnown e c env → Meets e env →
      (option_map items_of (meaning e env) ≡ option_map items_of (meaning c env)) × Meets c env
  pub members_are_offered : (x : Text) (e : Ex) (l : List Alternative) → child_listing x e ≡ Some l → (env : Env) → KnownChild e env →
      Meets e env → Offers e l env
  pub the_child_is_asked : (e f : Ex) → asked_of_child e ≡ Some f → (env : Env) → KnownChild (asked_view e) env → Keeps e f env
