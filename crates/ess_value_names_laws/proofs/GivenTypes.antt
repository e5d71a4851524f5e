-- In a parameter the values of given enumerated types have names of their own: no two types share one, and no value of an unnamed type has
-- one of them.
use Rattle.std.proofs.Common.{◌≡◌, refl, sym, ap, ◌∙◌, ℕ, Bool, true, false, ◌&&◌, ◌||◌, not, if◌then◌else◌, List, [], ◌∷◌, ◌++◌, map, ◌⊎◌, inl, inr, Option, Some, None, is_some}
use Rattle.std.specs.List.{list_any}
use Rattle.ess_semantics.specs.Lists.{append_all, list_or_none, or_else}
use Rattle.ess_semantics.specs.Values.{Text}
use Rattle.ess_semantics.specs.Order.{same_text}
use Rattle.ess_semantics.specs.Names.{Names, look, keys, is_among, all_distinct}
use Rattle.ess_semantics.specs.NameTokens.{are_name_tokens}
use Rattle.ess_semantics.specs.Trees.{Stm, given, given_enum, let_ex, let_dom, let_enum, let_unnamed, needs, find, such_that, minimise, maximise}
use Rattle.ess_semantics.specs.Assignments.{Assignment, nothing_given, placed, unnamed_sizes, unnamed_names}
use Rattle.ess_semantics.specs.Parameters.{Param, all_declared, given_of, given_enum_of, first_extra_type, first_extra_value, givens, given_enums, is_extra_type, is_accepted, are_new, taken_value_names}
use Rattle.ess_semantics.proofs.Tests.{and-left, and-right, or-right-no, not-true, or-yes}
use Rattle.ess_semantics.proofs.Texts.{same_text-equal, same_text-itself}
use Rattle.conjure_laws.specs.Members.{In}
use Rattle.conjure_laws.proofs.Lists.{in-left, in-right, in-either}
use Rattle.conjure_laws.proofs.NamedTables.{in-among}
use Rattle.conjure_laws.proofs.FreeNames.{among-append}
use Rattle.conjure_settled_laws.proofs.ScopesGrow.{none-shared}
use Rattle.conjure_settled_laws.proofs.GivenNames.{Apart}

-- The names of one list are among those of another.
abbrev Within : List Text → List Text → Type 0
Within ns ms = (a : Text) → is_among ns a ≡ true → is_among ms a ≡ true

-- Lists that have no name in common have none from the other side.
apart-turned : (ns ms : List Text) → Apart ns ms → Apart ms ns
apart-turned ns ms h a i = go (is_among ns a) refl
  where
    go : (b : Bool) → is_among ns a ≡ b → is_among ns a ≡ false
    go false e = e
    go true e = let z : false ≡ true = sym (h a e) ∙ i in cc

is-not : (b : Bool) → not b ≡ false → b ≡ true
is-not true e = refl
is-not false e = cc

-- A letting of a given type that isn't too many has new names.
names-are-new : (gs es : List Text) (us : Names ℕ) (done taken : List Text) (t : Text) (ns : List Text) →
    is_extra_type gs es us done taken t ns ≡ false → is_among gs t ≡ true → is_among es t ≡ true → are_new ns taken ≡ true
names-are-new gs es us done taken t ns h g s =
    is-not (are_new ns taken)
    (sym (ap (λ b. if b then is_among es t && not (are_new ns taken) else not (is_accepted us t ns)) g
    ∙ ap (λ b. b && not (are_new ns taken)) s)
    ∙ or-right-no (is_among done t) (if is_among gs t then is_among es t && not (are_new ns taken) else not (is_accepted us t ns)) h)

-- New names are apart from those that are taken, and differ.
abbrev IsFresh : List Text → List Text → Type 0
IsFresh D ns = Apart D ns × (all_distinct ns ≡ true)

new-fresh : (D taken ns : List Text) → Within D taken → are_new ns taken ≡ true → IsFresh D ns
new-fresh D taken ns w h =
    let l = and-left (are_name_tokens ns && all_distinct ns) (not (list_any (is_among taken) ns)) h in (
      λ a i. none-shared taken ns a
          (not-true (list_any (is_among taken) ns) (and-right (are_name_tokens ns && all_distinct ns) (not (list_any (is_among taken) ns)) h))
          (w a i),
      and-right (are_name_tokens ns) (all_distinct ns) l,
    )

module _ (gs es : List Text) (us : Names ℕ) where
  more : (D ns taken : List Text) → Within D taken → Within D (ns ++ taken)
  more D ns taken w x i = among-append ns taken x ∙ ap (λ b. is_among ns x || b) (w x i) ∙ or-yes (is_among ns x)

  fresh-type : (D : List Text) (ts : Names (List Text)) (done taken : List Text) → first_extra_type gs es us ts done taken ≡ None →
      Within D taken → (t : Text) → is_among gs t ≡ true → is_among es t ≡ true → IsFresh D (list_or_none (look ts t))
  fresh-type D [] done taken e w t g s = ((λ a i. refl), refl)
  fresh-type D (u ∷ ts) done taken e w t g s =
      go (is_extra_type gs es us done taken u.0 u.1) refl e
      (λ e. fresh-type D ts (u.0 ∷ done) (u.1 ++ taken) e (more D u.1 taken w) t g s)
    where
      go : (b : Bool) → is_extra_type gs es us done taken u.0 u.1 ≡ b →
          (if b then Some u.0 else first_extra_type gs es us ts (u.0 ∷ done) (u.1 ++ taken)) ≡ None →
          (first_extra_type gs es us ts (u.0 ∷ done) (u.1 ++ taken) ≡ None → IsFresh D (list_or_none (look ts t))) →
          IsFresh D (list_or_none (look (u ∷ ts) t))
      go true q e k = cc
      go false q e k = at (same_text u.0 t) refl
        where
          at : (b : Bool) → same_text u.0 t ≡ b → IsFresh D (list_or_none (if b then Some u.1 else look ts t))
          at true r =
              let n : u.0 ≡ t = same_text-equal u.0 t r in
              new-fresh D taken u.1 w (names-are-new gs es us done taken u.0 u.1 q (ap (is_among gs) n ∙ g) (ap (is_among es) n ∙ s))
          at false r = k e

  rest-of : (u : Text × List Text) (ts : Names (List Text)) (done taken : List Text) → first_extra_type gs es us (u ∷ ts) done taken ≡ None →
      first_extra_type gs es us ts (u.0 ∷ done) (u.1 ++ taken) ≡ None
  rest-of u ts done taken e = go (is_extra_type gs es us done taken u.0 u.1) e
    where
      go : (b : Bool) → (if b then Some u.0 else first_extra_type gs es us ts (u.0 ∷ done) (u.1 ++ taken)) ≡ None →
          first_extra_type gs es us ts (u.0 ∷ done) (u.1 ++ taken) ≡ None
      go true e = cc
      go false e = e

  -- Two given types share no name of a value.
  two-types : (ts : Names (List Text)) (done taken : List Text) → first_extra_type gs es us ts done taken ≡ None → (t u : Text) →
      is_among gs t ≡ true → is_among es t ≡ true → is_among gs u ≡ true → is_among es u ≡ true → same_text t u ≡ false →
      Apart (list_or_none (look ts t)) (list_or_none (look ts u))
  two-types [] done taken e t u g s h k n = λ a i. refl
  two-types (x ∷ ts) done taken e t u g s h k n =
      go (same_text x.0 t) (same_text x.0 u) refl refl (two-types ts (x.0 ∷ done) (x.1 ++ taken) (rest-of x ts done taken e) t u g s h k n)
    where
      mine : Within x.1 (x.1 ++ taken)
      mine a i = among-append x.1 taken a ∙ ap (λ b. b || is_among taken a) i

      go : (b c : Bool) → same_text x.0 t ≡ b → same_text x.0 u ≡ c → Apart (list_or_none (look ts t)) (list_or_none (look ts u)) →
          Apart (list_or_none (if b then Some x.1 else look ts t)) (list_or_none (if c then Some x.1 else look ts u))
      go true true p q r =
          let z : true ≡ false =
          sym (same_text-itself t) ∙ ap (same_text t) (sym (same_text-equal x.0 t p) ∙ same_text-equal x.0 u q) ∙ n in cc
      go true false p q r = (fresh-type x.1 ts (x.0 ∷ done) (x.1 ++ taken) (rest-of x ts done taken e) mine u h k).0
      go false true p q r =
          apart-turned x.1 (list_or_none (look ts t))
          (fresh-type x.1 ts (x.0 ∷ done) (x.1 ++ taken) (rest-of x ts done taken e) mine t g s).0
      go false false p q r = r

no-else : (o q : Option Text) → not (is_some (or_else o q)) ≡ true → o ≡ None
no-else None q e = refl
no-else (Some x) q e = cc

-- A given enumerated type is a given.
one-too : (s : Stm) (t : Text) → In t (given_enum_of s) → In t (given_of s)
one-too (given_enum u) t i = i
one-too (given x d) t i = absurd i
one-too (let_ex x e) t i = i
one-too (let_dom x d) t i = i
one-too (let_enum u ns) t i = i
one-too (let_unnamed u e) t i = i
one-too (needs e) t i = i
one-too (find x d) t i = i
one-too (such_that e) t i = i
one-too (minimise e) t i = i
one-too (maximise e) t i = i

given-too : (S : List Stm) (t : Text) → In t (given_enums S) → In t (givens S)
given-too [] t i = i
given-too (s ∷ S) t i = go (in-either t (given_enum_of s) (given_enums S) i) (given-too S t)
  where
    go : In t (given_enum_of s) ⊎ In t (given_enums S) → (In t (given_enums S) → In t (givens S)) → In t (givens (s ∷ S))
    go (inl j) k = in-left t (given_of s) (givens S) (one-too s t j)
    go (inr j) k = in-right t (given_of s) (givens S) (k j)

module _ (S : List Stm) (p : Assignment) (P : Param S p) where
  -- The names of the values of unnamed types under the parameter.
  abbrev pub unnamed_taken : List Text
  unnamed_taken = append_all (map (λ u. unnamed_names u.0 1 u.1) (unnamed_sizes (placed S p nothing_given)))

  -- The names of the values of a given type.
  abbrev pub given_names : Text → List Text
  given_names t = list_or_none (look p.types t)

  no-extra : first_extra_type (givens S) (given_enums S) (unnamed_sizes (placed S p nothing_given)) p.types []
      (taken_value_names S (unnamed_sizes (placed S p nothing_given))) ≡ None
  no-extra = no-else _ (first_extra_value (givens S) p.vals (keys p.types)) P.nothing_else

  fresh : (t : Text) → In t (given_enums S) → (D : List Text) → Within D (all_declared S ++ unnamed_taken) → IsFresh D (given_names t)
  fresh t i D w =
      fresh-type (givens S) (given_enums S) (unnamed_sizes (placed S p nothing_given)) D p.types []
      (taken_value_names S (unnamed_sizes (placed S p nothing_given))) no-extra w t
      (in-among (givens S) t (given-too S t i)) (in-among (given_enums S) t i)

  -- No two names of a given type's values are equal.
  pub given-distinct : (t : Text) → In t (given_enums S) → all_distinct (given_names t) ≡ true
  given-distinct t i = (fresh t i [] (λ a j. cc)).1

  -- None is a declared name.
  pub given-undeclared : (t : Text) → In t (given_enums S) → Apart (all_declared S) (given_names t)
  given-undeclared t i =
      (fresh t i (all_declared S)
      (λ a j. among-append (all_declared S) unnamed_taken a ∙ ap (λ b. b || is_among unnamed_taken a) j)).0

  -- None is one of a value of an unnamed type.
  pub given-not-unnamed : (t : Text) → In t (given_enums S) → Apart unnamed_taken (given_names t)
  given-not-unnamed t i =
      (fresh t i unnamed_taken
      (λ a j. among-append (all_declared S) unnamed_taken a ∙ ap (λ b. is_among (all_declared S) a || b) j
      ∙ or-yes (is_among (all_declared S) a))).0

  -- None is one of a value of another given type.
  pub given-apart-types : (t u : Text) → In t (given_enums S) → In u (given_enums S) → same_text t u ≡ false →
      Apart (given_names t) (given_names u)
  given-apart-types t u i j n =
      two-types (givens S) (given_enums S) (unnamed_sizes (placed S p nothing_given)) p.types []
      (taken_value_names S (unnamed_sizes (placed S p nothing_given))) no-extra t u
      (in-among (givens S) t (given-too S t i)) (in-among (given_enums S) t i)
      (in-among (givens S) u (given-too S u j)) (in-among (given_enums S) u j) n
