-- What statements say in their places, where it is what they say behind all: finds are members, constraints hold.
use Rattle.std.proofs.Common.{◌≡◌, refl, sym, ap, ◌∙◌, subst, ℕ, suc, Bool, true, ◌&&◌, if◌then◌else◌, List, [], ◌∷◌, ◌++◌, map, filter, inl, inr}
use Rattle.std.specs.List.{list_all}
use Rattle.ess_semantics.specs.Lists.{is_some_and}
use Rattle.ess_semantics.specs.Values.{Text}
use Rattle.ess_semantics.specs.Membership.{member}
use Rattle.ess_semantics.specs.Trees.{Ex, Dom, Stm, given, given_enum, let_ex, let_dom, let_enum, let_unnamed, needs, find, such_that, minimise, maximise}
use Rattle.ess_semantics.specs.Prepared.{prepared}
use Rattle.ess_semantics.specs.Meaning.{Env, meaning, is_true, empty_env}
use Rattle.ess_semantics.specs.Assignments.{Assignment, value_of, Placed, placed, placed_from, env_after, env_of}
use Rattle.ess_semantics.specs.Parameters.{is_member}
use Rattle.ess_semantics.specs.Solutions.{find_is_member, constraint_holds}
use Rattle.ess_semantics.specs.ModelTrees.{is_constraint}
use Rattle.ess_semantics.specs.Models.{constraint_of, constraints_of, constraint_truths}
use Rattle.ess_semantics.proofs.Tests.{and-both}
use Rattle.ess_semantics.specs.Contexts.{Each}
use Rattle.conjure_laws.specs.Members.{In}
use Rattle.conjure_laws.specs.Premises.{here, IsSettled}

module _ (S : List Stm) (p a : Assignment) where
  abbrev Sets : Placed → Type 0
  Sets l = IsSettled S p a l.stm l.env

  -- What holds of each statement in its place holds of this one in some place.
  at-statement : (F : Stm → Env → Type 0) (T : List Stm) (k : ℕ) (env : Env) (s : Stm) → In s T →
      Each (placed_from k T p a env) (λ l. F l.stm l.env) → (z : Env) × F s z
  at-statement F [] k env s i h = absurd i
  at-statement F (t ∷ T) k env s (inl e) h = (env, subst (λ x. F x env) (sym e) h.0)
  at-statement F (t ∷ T) k env s (inr i) h = at-statement F T (suc k) (env_after t p a env) s i h.1

  -- What holds of each statement in its place holds of a declared one in some place.
  pub at-place : (F : Stm → Env → Type 0) (s : Stm) → In s (prepared S) → Each (placed S p a) (λ l. F l.stm l.env) → (z : Env) × F s z
  at-place F s i h = at-statement F (prepared S) 1 empty_env s i h

  members-from : (T : List Stm) (k : ℕ) (env : Env) → Each (placed_from k T p a env) Sets →
      ((x : Text) (d : Dom) → In (find x d) T → is_some_and (value_of a x) (is_member d (here S p)) ≡ true) →
      list_all (λ l. find_is_member a l.stm l.env) (placed_from k T p a env) ≡ true
  members-from [] k env h f = refl
  members-from (s ∷ T) k env h f =
      and-both (find_is_member a s env) (list_all (λ l. find_is_member a l.stm l.env)
      (placed_from (suc k) T p a (env_after s p a env)))
      (go s h.0 (λ x d e. f x d (inl e))) (members-from T (suc k) (env_after s p a env) h.1 (λ x d i. f x d (inr i)))
    where
      go : (s : Stm) → IsSettled S p a s env → ((x : Text) (d : Dom) → find x d ≡ s →
          is_some_and (value_of a x) (is_member d (here S p)) ≡ true) → find_is_member a s env ≡ true
      go (find x d) h f = ap (λ o. is_some_and (value_of a x) (λ v. is_some_and o (λ e. member e v))) h ∙ f x d refl
      go (given y d) h f = refl
      go (given_enum t) h f = refl
      go (let_ex y e) h f = refl
      go (let_dom y d) h f = refl
      go (let_enum t ns) h f = refl
      go (let_unnamed t e) h f = refl
      go (needs e) h f = refl
      go (such_that e) h f = refl
      go (minimise e) h f = refl
      go (maximise e) h f = refl

  -- The finds are members in their places where they are behind all statements.
  pub members-placed : Each (placed S p a) Sets → ((x : Text) (d : Dom) → In (find x d) (prepared S) →
      is_some_and (value_of a x) (is_member d (here S p)) ≡ true) →
      list_all (λ l. find_is_member a l.stm l.env) (placed S p a) ≡ true
  members-placed h f = members-from (prepared S) 1 empty_env h f

  abbrev truth_at : Ex → Bool
  truth_at e = is_true (meaning e (env_of S p a))

  holds-from : (T : List Stm) (k : ℕ) (env : Env) → Each (placed_from k T p a env) Sets →
      list_all (λ l. constraint_holds l.stm l.env) (placed_from k T p a env) ≡ list_all truth_at (constraints_of T)
  holds-from [] k env h = refl
  holds-from (s ∷ T) k env h = go s h.0 (holds-from T (suc k) (env_after s p a env) h.1)
    where
      go : (s : Stm) → IsSettled S p a s env → {b : Bool} → b ≡ list_all truth_at (constraints_of T) →
          constraint_holds s env && b ≡ list_all truth_at (constraint_of s ++ constraints_of T)
      go (such_that e) h {b} i = ap (λ o. is_true o && b) h ∙ ap (λ c. truth_at e && c) i
      go (find x d) h i = i
      go (given y d) h i = i
      go (given_enum t) h i = i
      go (let_ex y e) h i = i
      go (let_dom y d) h i = i
      go (let_enum t ns) h i = i
      go (let_unnamed t e) h i = i
      go (needs e) h i = i
      go (minimise e) h i = i
      go (maximise e) h i = i

  -- The constraints hold in their places where they do behind all statements.
  pub constraints-hold : Each (placed S p a) Sets → list_all (λ l. constraint_holds l.stm l.env) (placed S p a) ≡ list_all truth_at
      (constraints_of (prepared S))
  constraints-hold h = holds-from (prepared S) 1 empty_env h

  truths-from : (T : List Stm) (k : ℕ) (env : Env) → Each (placed_from k T p a env) Sets →
      map (λ l. constraint_holds l.stm l.env) (filter (λ l. is_constraint l.stm) (placed_from k T p a env)) ≡ map truth_at
      (constraints_of T)
  truths-from [] k env h = refl
  truths-from (s ∷ T) k env h = go s h.0 (filter (λ l. is_constraint l.stm) (placed_from (suc k) T p a (env_after s p a env)))
      (truths-from T (suc k) (env_after s p a env) h.1)
    where
      go : (s : Stm) → IsSettled S p a s env → (ls : List Placed) →
          map (λ l. constraint_holds l.stm l.env) ls ≡ map truth_at (constraints_of T) →
          map (λ l. constraint_holds l.stm l.env) (if is_constraint s then record { stm = s; number = k; env = env } ∷ ls else ls) ≡
          map
          truth_at (constraint_of s ++ constraints_of T)
      go (such_that e) h ls i = ap (λ o. is_true o ∷ map (λ l. constraint_holds l.stm l.env) ls) h ∙ ap (λ c. truth_at e ∷ c) i
      go (find x d) h ls i = i
      go (given y d) h ls i = i
      go (given_enum t) h ls i = i
      go (let_ex y e) h ls i = i
      go (let_dom y d) h ls i = i
      go (let_enum t ns) h ls i = i
      go (let_unnamed t e) h ls i = i
      go (needs e) h ls i = i
      go (minimise e) h ls i = i
      go (maximise e) h ls i = i

  -- One by one.
  pub truths-placed : Each (placed S p a) Sets → constraint_truths S p a ≡ map truth_at (constraints_of (prepared S))
  truths-placed h = truths-from (prepared S) 1 empty_env h
