-- A well typed specification is settled: a statement says at its place what it says behind all of them.
use Rattle.std.proofs.Common.{◌≡◌, refl, sym, ap, ◌∙◌, ℕ, suc, Bool, true, false, ◌&&◌, ◌||◌, not, List, [], ◌∷◌, ◌++◌, inl, Some, None}
use Rattle.std.specs.List.{list_any}
use Rattle.ess_semantics.specs.Values.{Text}
use Rattle.ess_semantics.specs.Names.{is_among, all_distinct}
use Rattle.ess_semantics.specs.Trees.{Ex, Dom, Stm, given, given_enum, let_ex, let_dom, let_enum, let_unnamed, needs, find, such_that, minimise, maximise}
use Rattle.ess_semantics.specs.Lettings.{put_ex, put_dom, put_all}
use Rattle.ess_semantics.specs.Prepared.{resolve_stm, resolve_all}
use Rattle.ess_semantics.specs.Resolving.{resolve, resolve_dom}
use Rattle.ess_semantics.specs.Contexts.{Each}
use Rattle.ess_semantics.specs.Scopes.{Scope, empty_scope, names_in_scope, every, every_dom}
use Rattle.ess_semantics.specs.Judgements.{judgements, first_failed, first_fault, fault, is_well_typed, names_are_new, declares, put_in_scope, scope_after}
use Rattle.ess_semantics.specs.Meaning.{Env, empty_env, meaning, domain_of}
use Rattle.ess_semantics.specs.Assignments.{Assignment, nothing_given, env_after, env_behind, env_of, placed_from}
use Rattle.ess_semantics.specs.Parameters.{Param, all_declared, given_enum_of, given_enums}
use Rattle.ess_semantics.proofs.Tests.{and-left, and-right, not-true, or-yes}
use Rattle.conjure_laws.specs.Members.{In}
use Rattle.conjure_laws.specs.Premises.{here, IsSettled}
use Rattle.conjure_laws.proofs.Lists.{in-right}
use Rattle.conjure_laws.proofs.FreeNames.{among-append}
use Rattle.conjure_laws.proofs.SetScopesTyped.{no-fault}
use Rattle.conjure_laws.proofs.JudgedDistinct.{finds-distinct}
use Rattle.conjure_settled_laws.specs.Laws.{TypedIsSettled}
use Rattle.conjure_settled_laws.proofs.KnownIndices.{known_parts}
use Rattle.conjure_settled_laws.proofs.ScopesGrow.{scope-grows, none-shared}
use Rattle.conjure_settled_laws.proofs.LaterEnvs.{given_values, added, all_added, behind-agrees}
use Rattle.conjure_settled_laws.proofs.GivenNames.{given-names-new}
use Rattle.conjure_settled_laws.proofs.FixedParts.{SameGivens, domain-same}
use Rattle.conjure_settled_laws.proofs.StaysLater.{AreOutside, meaning-stays, domain-stays}
use Rattle.conjure_settled_laws.proofs.JudgedStatements.{type_parts, has-type, listed_parts, Judged, judged, same-behind}

neither : (xs ys : List Text) (a : Text) → is_among xs a ≡ false → is_among ys a ≡ false → is_among (xs ++ ys) a ≡ false
neither xs ys a e f = among-append xs ys a ∙ ap (λ b. b || is_among ys a) e ∙ f

pub either : (b c d : Bool) → (b ≡ true → d ≡ true) → (c ≡ true → d ≡ true) → b || c ≡ true → d ≡ true
either true c d f g h = f refl
either false c d f g h = g h

-- No name in scope is declared by a statement as it was written.
pub none-declared : (w : Stm) (s : Scope) → names_are_new w s ≡ true → list_any (is_among (names_in_scope s)) (declares w) ≡ false
none-declared w s h =
    let a = and-left _ _ (and-left _ _ (and-left _ _ h)) in
    not-true (list_any (is_among (names_in_scope s)) (declares w))
    (and-right (all_distinct (declares w)) (not (list_any (is_among (names_in_scope s)) (declares w))) a)

-- The statements from a place on, prepared.
abbrev pub from_place : List Stm → Scope → List Stm
from_place ws s = resolve_all (put_all ws s.lets s.tys) s.tys

module _ (S : List Stm) (p : Assignment) (P : Param S p) where
  abbrev pub D : List Text
  D = all_declared S

  -- A place in the specification: what its later statements declare, and what is in scope, the specification declares.
  pub record At (ws : List Stm) (s : Scope) : Type 0 where
    pub ahead : (a : Text) → is_among (all_declared ws) a ≡ true → is_among D a ≡ true
    pub enums : (t : Text) → In t (given_enums ws) → In t (given_enums S)
    pub inside : (a : Text) → is_among (names_in_scope s) a ≡ true → is_among D a ≡ true

  pub next : (w : Stm) (ws : List Stm) (s : Scope) → At (w ∷ ws) s → At ws (scope_after (put_in_scope w s) s)
  next w ws s h = record {
    ahead = λ a i. h.ahead a (among-append (declares w) (all_declared ws) a ∙ ap (λ b. is_among (declares w) a || b) i
        ∙ or-yes (is_among (declares w) a));
    enums = λ t i. h.enums t (in-right t (given_enum_of w) (given_enums ws) i);
    inside = λ a i. either (is_among (declares w) a) (is_among (names_in_scope s) a) (is_among D a)
        (λ j. h.ahead a (among-append (declares w) (all_declared ws) a ∙ ap (λ b. b || is_among (all_declared ws) a) j))
        (h.inside a) (sym (scope-grows w s a) ∙ i);
  }

  -- A value of a given type has no declared name.
  pub given-apart : (w : Stm) (ws : List Stm) (s : Scope) → At (w ∷ ws) s → (a : Text) → is_among D a ≡ true →
      is_among (given_values p w) a ≡ false
  given-apart (given_enum t) ws s h a i = given-names-new S p P t (h.enums t (inl refl)) a i
  given-apart (given x d) ws s h a i = refl
  given-apart (let_ex x e) ws s h a i = refl
  given-apart (let_dom x d) ws s h a i = refl
  given-apart (let_enum t ns) ws s h a i = refl
  given-apart (let_unnamed t e) ws s h a i = refl
  given-apart (needs e) ws s h a i = refl
  given-apart (find x d) ws s h a i = refl
  given-apart (such_that e) ws s h a i = refl
  given-apart (minimise e) ws s h a i = refl
  given-apart (maximise e) ws s h a i = refl

  -- The statements from a place on add no name that is in scope there.
  pub outside : (k : ℕ) (ws : List Stm) (s : Scope) → first_fault k ws s ≡ None → At ws s → AreOutside (all_added p ws) s
  outside k [] s e h a i = refl
  outside k (w ∷ ws) s e h a i =
      let t : Stm = put_in_scope w s in
      let n = no-fault (first_failed judgements w t s) (first_fault (suc k) ws (scope_after t s)) k e in
      let j = judged w t s n.0 in
      neither (added p w) (all_added p ws) a
      (neither (declares w) (given_values p w) a (none-shared (names_in_scope s) (declares w) a (none-declared w s j.new) i)
      (given-apart w ws s h a (h.inside a i)))
      (outside (suc k) ws (scope_after t s) n.1 (next w ws s h) a
      (scope-grows w s a ∙ ap (λ b. is_among (declares w) a || b) i ∙ or-yes (is_among (declares w) a)))

  module _ (a : Assignment) where
    pub expression-settled : (e : Ex) (w : Stm) (ws : List Stm) (s : Scope) (env : Env) → every type_parts e s && true ≡ true →
        every known_parts e s && true ≡ true → AreOutside (all_added p (w ∷ ws)) s →
        env_behind (from_place (w ∷ ws) s) p a env ≡ env_of S p a → meaning (resolve e s.tys) env ≡ meaning (resolve e s.tys) (env_of S p a)
    expression-settled e w ws s env t k n b =
        meaning-stays type_parts has-type e s (all_added p (w ∷ ws)) env _ (and-left (every type_parts e s) true t)
        (and-left (every known_parts e s) true k) n
        (behind-agrees (w ∷ ws) s p a env)
        ∙ ap (meaning (resolve e s.tys)) b

    domain-settled : (d : Dom) (w : Stm) (ws : List Stm) (s : Scope) (env other : Env) → every_dom type_parts d s ≡ true →
        every_dom known_parts d s ≡ true → every_dom listed_parts d s ≡ true → SameGivens s env other →
        AreOutside (all_added p (w ∷ ws)) s →
        env_behind (from_place (w ∷ ws) s) p nothing_given other ≡ here S p →
        domain_of (resolve_dom d s.tys) env ≡ domain_of (resolve_dom d s.tys) (here S p)
    domain-settled d w ws s env other t k l h n b =
        domain-same type_parts has-type listed_parts (λ x z i. i) d s env other t l h
        ∙ domain-stays type_parts has-type d s (all_added p (w ∷ ws)) other _ t k n (behind-agrees (w ∷ ws) s p nothing_given other)
        ∙ ap (domain_of (resolve_dom d s.tys)) b

    one-settled : (w : Stm) (ws : List Stm) (s : Scope) (env other : Env) → Judged w (put_in_scope w s) s → SameGivens s env other →
        AreOutside (all_added p (w ∷ ws)) s → env_behind (from_place (w ∷ ws) s) p a env ≡ env_of S p a →
        env_behind (from_place (w ∷ ws) s) p nothing_given other ≡ here S p →
        IsSettled S p a (resolve_stm (put_in_scope w s) s.tys) env
    one-settled (given x d) ws s env other j h n b c =
        domain-settled (put_dom d s.lets s.tys) (given x d) ws s env other j.typed j.known j.listed h n c
    one-settled (find x d) ws s env other j h n b c =
        domain-settled (put_dom d s.lets s.tys) (find x d) ws s env other j.typed j.known j.listed h n c
    one-settled (such_that e) ws s env other j h n b c =
        expression-settled (put_ex e s.lets s.tys) (such_that e) ws s env j.typed j.known n b
    one-settled (minimise e) ws s env other j h n b c =
        expression-settled (put_ex e s.lets s.tys) (minimise e) ws s env j.typed j.known n b
    one-settled (maximise e) ws s env other j h n b c =
        expression-settled (put_ex e s.lets s.tys) (maximise e) ws s env j.typed j.known n b
    one-settled (given_enum t) ws s env other j h n b c = tt
    one-settled (let_ex x e) ws s env other j h n b c = tt
    one-settled (let_dom x d) ws s env other j h n b c = tt
    one-settled (let_enum t ns) ws s env other j h n b c = tt
    one-settled (let_unnamed t e) ws s env other j h n b c = tt
    one-settled (needs e) ws s env other j h n b c = tt

    settled-from : (k : ℕ) (ws : List Stm) (s : Scope) (env other : Env) → first_fault k ws s ≡ None → At ws s → SameGivens s env other →
        env_behind (from_place ws s) p a env ≡ env_of S p a → env_behind (from_place ws s) p nothing_given other ≡ here S p →
        Each (placed_from k (from_place ws s) p a env) (λ l. IsSettled S p a l.stm l.env)
    settled-from k [] s env other e t h b c = tt
    settled-from k (w ∷ ws) s env other e t h b c =
        let x : Stm = put_in_scope w s in
        let n = no-fault (first_failed judgements w x s) (first_fault (suc k) ws (scope_after x s)) k e in
        let j = judged w x s n.0 in (
          one-settled w ws s env other j h (outside k (w ∷ ws) s e t) b c,
          settled-from (suc k) ws (scope_after x s) (env_after (resolve_stm x s.tys) p a env)
              (env_after (resolve_stm x s.tys) p nothing_given other) n.1 (next w ws s t) (same-behind w s p a env other j h) b c,
        )

  -- The start of the specification.
  pub start : At S empty_scope
  start = record { ahead = λ a i. i; enums = λ t i. i; inside = λ a i. cc }

is-clean : (S : List Stm) → fault S ≡ None → is_well_typed S ≡ true
is-clean S e = ap (λ o. elim o [ None ↦ true | Some f ↦ false ]) e

-- A well typed specification is settled.
pub typed-is-settled : TypedIsSettled
typed-is-settled S e = record {
  distinct = finds-distinct S (is-clean S e);
  settled = λ p a P. settled-from S p P a 1 S empty_scope empty_env empty_env e (start S p P)
      (record { positions = refl; cells = refl; types = refl; vals = λ y i. refl }) refl refl;
}
