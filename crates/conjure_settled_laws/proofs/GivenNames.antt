-- In a parameter the values of a given enumerated type have new names: none of them is declared.
use Rattle.std.proofs.Common.{◌≡◌, refl, sym, ap, ◌∙◌, ℕ, Bool, true, false, ◌&&◌, ◌||◌, not, if◌then◌else◌, List, [], ◌∷◌, ◌++◌, map, ◌⊎◌, inl, inr, Option, Some, None, is_some}
use Rattle.std.specs.List.{list_any}
use Rattle.ess_semantics.specs.Lists.{append_all, list_or_none, or_else}
use Rattle.ess_semantics.specs.Values.{Text}
use Rattle.ess_semantics.specs.Order.{same_text}
use Rattle.ess_semantics.specs.Names.{Names, look, keys, is_among, all_distinct}
use Rattle.ess_semantics.specs.NameTokens.{are_name_tokens}
use Rattle.ess_semantics.specs.Trees.{Stm, given, given_enum, let_ex, let_dom, let_enum, let_unnamed, needs, find, such_that, minimise, maximise}
use Rattle.ess_semantics.specs.Assignments.{Assignment, nothing_given, placed, unnamed_sizes, unnamed_names}
use Rattle.ess_semantics.specs.Parameters.{Param, all_declared, given_of, given_enum_of, first_extra_type, first_extra_value, givens, given_enums, is_extra_type, is_accepted, are_new, taken_value_names}
use Rattle.ess_semantics.proofs.Tests.{and-left, and-right, or-right-no, not-true, or-yes}
use Rattle.ess_semantics.proofs.Texts.{same_text-equal}
use Rattle.conjure_laws.specs.Members.{In}
use Rattle.conjure_laws.proofs.Lists.{in-left, in-right, in-either}
use Rattle.conjure_laws.proofs.NamedTables.{in-among}
use Rattle.conjure_laws.proofs.FreeNames.{among-append}
use Rattle.conjure_settled_laws.proofs.ScopesGrow.{none-shared}

-- The names of one list are among those of another.
abbrev Within : List Text → List Text → Type 0
Within ns ms = (a : Text) → is_among ns a ≡ true → is_among ms a ≡ true

-- No name of the first list is among the second.
abbrev pub Apart : List Text → List Text → Type 0
Apart ns ms = (a : Text) → is_among ns a ≡ true → is_among ms a ≡ false

is-not : (b : Bool) → not b ≡ false → b ≡ true
is-not true e = refl
is-not false e = cc

-- A letting of a given type that isn't too many has new names.
names-are-new : (gs es : List Text) (us : Names ℕ) (done taken : List Text) (t : Text) (ns : List Text) →
    is_extra_type gs es us done taken t ns ≡ false → is_among gs t ≡ true → is_among es t ≡ true → are_new ns taken ≡ true
names-are-new gs es us done taken t ns h g s =
    is-not (are_new ns taken)
    (sym (ap (λ b. if b then is_among es t && not (are_new ns taken) else not (is_accepted us t ns)) g
    ∙ ap (λ b. b && not (are_new ns taken)) s)
    ∙ or-right-no (is_among done t) (if is_among gs t then is_among es t && not (are_new ns taken) else not (is_accepted us t ns)) h)

new-apart : (D taken ns : List Text) → Within D taken → are_new ns taken ≡ true → Apart D ns
new-apart D taken ns w h a i =
    none-shared taken ns a
    (not-true (list_any (is_among taken) ns) (and-right (are_name_tokens ns && all_distinct ns) (not (list_any (is_among taken) ns)) h))
    (w a i)

-- What holds of names that are new, and of none, holds of the names of the values of a given type.
module _ (D : List Text) (Q : List Text → Type 0) (none : Q [])
    (new : (taken ns : List Text) → Within D taken → are_new ns taken ≡ true → Q ns) where
  fresh-type : (gs es : List Text) (us : Names ℕ) (ts : Names (List Text)) (done taken : List Text) →
      first_extra_type gs es us ts done taken ≡ None → Within D taken → (t : Text) → is_among gs t ≡ true → is_among es t ≡ true →
      Q (list_or_none (look ts t))
  fresh-type gs es us [] done taken e w t g s = none
  fresh-type gs es us (u ∷ ts) done taken e w t g s =
      go (is_extra_type gs es us done taken u.0 u.1) refl e (λ e. fresh-type gs es us ts (u.0 ∷ done) (u.1 ++ taken) e more t g s)
    where
      more : Within D (u.1 ++ taken)
      more x i = among-append u.1 taken x ∙ ap (λ b. is_among u.1 x || b) (w x i) ∙ or-yes (is_among u.1 x)

      go : (b : Bool) → is_extra_type gs es us done taken u.0 u.1 ≡ b →
          (if b then Some u.0 else first_extra_type gs es us ts (u.0 ∷ done) (u.1 ++ taken)) ≡ None →
          (first_extra_type gs es us ts (u.0 ∷ done) (u.1 ++ taken) ≡ None → Q (list_or_none (look ts t))) →
          Q (list_or_none (look (u ∷ ts) t))
      go true q e k = cc
      go false q e k = at (same_text u.0 t) refl
        where
          at : (b : Bool) → same_text u.0 t ≡ b → Q (list_or_none (if b then Some u.1 else look ts t))
          at true r =
              let n : u.0 ≡ t = same_text-equal u.0 t r in
              new taken u.1 w (names-are-new gs es us done taken u.0 u.1 q (ap (is_among gs) n ∙ g) (ap (is_among es) n ∙ s))
          at false r = k e

no-else : (o q : Option Text) → not (is_some (or_else o q)) ≡ true → o ≡ None
no-else None q e = refl
no-else (Some x) q e = cc

-- A given enumerated type is a given.
one-too : (s : Stm) (t : Text) → In t (given_enum_of s) → In t (given_of s)
one-too (given_enum u) t i = i
one-too (given x d) t i = absurd i
one-too (let_ex x e) t i = i
one-too (let_dom x d) t i = i
one-too (let_enum u ns) t i = i
one-too (let_unnamed u e) t i = i
one-too (needs e) t i = i
one-too (find x d) t i = i
one-too (such_that e) t i = i
one-too (minimise e) t i = i
one-too (maximise e) t i = i

given-too : (S : List Stm) (t : Text) → In t (given_enums S) → In t (givens S)
given-too [] t i = i
given-too (s ∷ S) t i = go (in-either t (given_enum_of s) (given_enums S) i) (given-too S t)
  where
    go : In t (given_enum_of s) ⊎ In t (given_enums S) → (In t (given_enums S) → In t (givens S)) → In t (givens (s ∷ S))
    go (inl j) k = in-left t (given_of s) (givens S) (one-too s t j)
    go (inr j) k = in-right t (given_of s) (givens S) (k j)

-- So in a parameter.
of-given-names : (S : List Stm) (p : Assignment) → Param S p → (Q : List Text → Type 0) → Q [] →
    ((taken ns : List Text) → Within (all_declared S) taken → are_new ns taken ≡ true → Q ns) → (t : Text) → In t (given_enums S) →
    Q (list_or_none (look p.types t))
of-given-names S p P Q none new t i =
    let us : Names ℕ = unnamed_sizes (placed S p nothing_given) in
    let D : List Text = all_declared S in
    let taken : List Text = taken_value_names S us in
    let e = no-else (first_extra_type (givens S) (given_enums S) us p.types [] taken) (first_extra_value (givens S) p.vals (keys p.types))
    P.nothing_else in
    fresh-type D Q none new (givens S) (given_enums S) us p.types [] taken e
    (λ x j. among-append D (append_all (map (λ u. unnamed_names u.0 1 u.1) us)) x
    ∙ ap (λ b. b || is_among (append_all (map (λ u. unnamed_names u.0 1 u.1) us)) x) j)
    t (in-among (givens S) t (given-too S t i)) (in-among (given_enums S) t i)

-- In a parameter no value of a given enumerated type has a declared name.
pub given-names-new : (S : List Stm) (p : Assignment) → Param S p → (t : Text) → In t (given_enums S) →
    Apart (all_declared S) (list_or_none (look p.types t))
given-names-new S p P t i =
    of-given-names S p P (Apart (all_declared S)) (λ a j. refl) (λ taken ns w h. new-apart (all_declared S) taken ns w h) t i

-- And their names can be spelled.
pub given-names-spelled : (S : List Stm) (p : Assignment) → Param S p → (t : Text) → In t (given_enums S) →
    are_name_tokens (list_or_none (look p.types t)) ≡ true
given-names-spelled S p P t i =
    of-given-names S p P (λ ns. are_name_tokens ns ≡ true) refl
    (λ taken ns w h. and-left (are_name_tokens ns) (all_distinct ns)
    (and-left (are_name_tokens ns && all_distinct ns) (not (list_any (is_among taken) ns)) h))
    t i
