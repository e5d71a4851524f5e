-- What is given in domains stays: each rule keeps it at its root, a part that keeps it keeps that of the whole, and so do any number of
-- rules, each at some part.
use Rattle.std.specs.Prelude.{◌≡◌, Bool, true, false, ◌||◌, Some, IsTrue}
use Rattle.std.specs.List.{list_all}
use Rattle.ess_semantics.specs.Values.{Text}
use Rattle.ess_semantics.specs.Names.{Names}
use Rattle.ess_semantics.specs.Trees.{name_pat, Ex, comp_ex, ex2, fun1, from}
use Rattle.ess_semantics.specs.Types.{Ty}
use Rattle.ess_semantics.specs.Contexts.{In, fill}
use Rattle.ess_semantics.specs.Kept.{Kept}
use Rattle.ess_refine_laws.specs.AllRules.{Rule, over_a_source, of_one_source, equal_matrices_at, least_under_a_condition, least_of_alternatives, Supply, opposite_copied, rewrite}
use Rattle.ess_given_laws.specs.Given.{is_fixed, is_fixed_dom, GivenIn}

-- u has the tables of givens and the names that are bound over domains or over what is fixed. What is given in the first tree is given
-- in the second one, which is fixed where the first one is.
pub record KeepsGiven (u : Text → Bool) (a b : Ex) : Type 0 where
  pub given : GivenIn u a → GivenIn u b
  pub fixed : is_fixed u a ≡ true → is_fixed u b ≡ true

-- ---- what a rule takes

-- Whether the name of the first source is one of u.
abbrev pub draws_fixed : (Text → Bool) → Ex → Bool
draws_fixed u (fun1 m f (comp_ex e (from (name_pat y) t hs))) = u y
draws_fixed u e = false

-- Whether the names that a rule binds over sources belong to u: where the root is fixed, or the source that is listed.
abbrev pub binds_fixed : (Text → Bool) → Rule → Ex → Bool
binds_fixed u over_a_source e = is_fixed u e || draws_fixed u e
binds_fixed u of_one_source e = is_fixed u e || draws_fixed u e
binds_fixed u least_of_alternatives e = is_fixed u e || draws_fixed u e
binds_fixed u r e = is_fixed u e

-- The index domains that a rule takes are fixed; what is given in the tree is given in the copy that it takes.
abbrev pub TakesGiven : (Text → Bool) → Supply → Rule → Ex → Type 0
TakesGiven u s equal_matrices_at (ex2 m o a b) = IsTrue (is_fixed_dom u (s.index_domain a)) × IsTrue (is_fixed_dom u (s.index_domain b))
TakesGiven u s least_under_a_condition e = KeepsGiven u e (opposite_copied s e)
TakesGiven u s r e = Unit {0}

-- The names that a rule takes: two that are bound over sources; one and those of components, which are bound over domains.
pub record NewGiven (u : Text → Bool) (s : Supply) (r : Rule) (e : Ex) : Type 0 where
  pub one : u s.one ≡ binds_fixed u r e
  pub other : u s.other ≡ binds_fixed u r e
  pub third : u s.third ≡ true
  pub parts : list_all u s.parts ≡ true
  pub taken : TakesGiven u s r e

-- ---- any number of rules

-- The second tree comes from the first one by rules that keep what they rewrite, each at some part, where what is given stays; before
-- each rule more names may come to belong to u, as long as what is given in the tree stays.
pub data GivenRewriting : (Text → Bool) → Names Ty → Ex → Ex → (Text → Bool) → Type 0 where
  as_given : {u : Text → Bool} {g : Names Ty} {e : Ex} → GivenRewriting u g e e u
  more_given : {u v w : Text → Bool} {g : Names Ty} {a e : Ex} → (GivenIn u a → GivenIn v a) → GivenRewriting v g a e w →
      GivenRewriting u g a e w
  given_at : {u v : Text → Bool} {g : Names Ty} {e : Ex} (a b : Ex) (c : In) → KeepsGiven u a b → Kept g (fill c a) (fill c b) →
      GivenRewriting u g (fill c b) e v → GivenRewriting u g (fill c a) e v

-- ---- what is said

-- Each rule keeps what is given where it fires; so does a part that keeps it in the whole, and any number of rules at parts. What is
-- fixed has nothing but what is given.
pub record GivenStays : Type 0 where
  pub by_each_rule : (u : Text → Bool) (s : Supply) (g : Names Ty) (r : Rule) (e f : Ex) → rewrite s g r e ≡ Some f → NewGiven u s r e →
      GivenIn u e → GivenIn u f
  pub of_fixed_trees : (u : Text → Bool) (s : Supply) (g : Names Ty) (r : Rule) (e f : Ex) → rewrite s g r e ≡ Some f → NewGiven u s r e →
      is_fixed u e ≡ true → is_fixed u f ≡ true
  pub at_a_part : (u : Text → Bool) (c : In) (a b : Ex) → KeepsGiven u a b → KeepsGiven u (fill c a) (fill c b)
  pub by_any_rules : (u v : Text → Bool) (g : Names Ty) (old new : Ex) → GivenRewriting u g old new v →
      Kept g old new × (GivenIn u old → GivenIn v new)
  pub fixed_is_given : (u : Text → Bool) (e : Ex) → is_fixed u e ≡ true → GivenIn u e
