-- A specification of sets says behind all statements what it says at each, and what is known of its types and values at the end.
use Rattle.std.proofs.Common.{◌≡◌, refl, sym, ap, ◌∙◌, subst, ℕ, suc, true, false, List, [], ◌∷◌, Option, Some, None, option_map}
use Rattle.ess_semantics.specs.declared.words.Op2.{Op2}
use Rattle.ess_semantics.specs.Values.{Text, number, truth}
use Rattle.ess_semantics.specs.Names.{look, is_among}
use Rattle.ess_semantics.specs.Trees.{binary, Stm, find}
use Rattle.ess_semantics.specs.Domains.{named, sets}
use Rattle.ess_semantics.specs.Operators.{false_where_undefined, value_of_node}
use Rattle.ess_semantics.specs.Prepared.{prepared}
use Rattle.ess_semantics.specs.Meaning.{Env, type_entry, meaning, domain_of, empty_env, named_domain}
use Rattle.ess_semantics.specs.Assignments.{Assignment, nothing_given, placed_from, env_of}
use Rattle.ess_semantics.specs.Parameters.{Param, all_declared}
use Rattle.ess_semantics.specs.Contexts.{Each}
use Rattle.conjure_laws.specs.Members.{In}
use Rattle.conjure_laws.specs.Premises.{here, IsSettled, Settled}
use Rattle.conjure_laws.specs.SetsOfAtoms.{Atom, Lit, Line, range, typed, boolean, num, truth_lit, value_name, enum, given_type, unnamed, set_find, holds_lit, sets_of, membership, spec, TypeKind, Declared, none_declared, after}
use Rattle.conjure_laws.proofs.Statements.{env-form}
use Rattle.conjure_laws.proofs.SetScopes.{Entry, Fine, count_of, value-stays, Fits, prepared-itself, kind-stays, type-stays}
use Rattle.conjure_laws.proofs.SetFacts.{At, Facts, AtomFact, LitFact, next, start, step}
use Rattle.conjure_laws.proofs.SetNames.{finds-new, place-stays, is-there}

-- The domain of a set of a named type is closed where the type has its entry.
pub closed-at : (p : Assignment) (t : Text) (k : TypeKind) (env : Env) → env.positions ≡ false → Entry p t k env →
    domain_of (sets_of (typed t)) env ≡ Some (sets [] (named t (count_of p t k)))
closed-at p t k env e n = ap (λ b. option_map (sets []) (named_domain b t (type_entry env.types t))) e
    ∙ ap (λ o. option_map (sets []) (named_domain false t o)) n.1

module _ (T : List Line) (ok : Fine none_declared T) where
  abbrev S : List Stm
  S = spec T

  abbrev D : List Text
  D = all_declared S

  -- A type that is known at a line has its entry at the end.
  pub known-end : (U : List Line) (c : Declared) (ef : Assignment → Assignment → Env) → At T ok c U ef → (t : Text) (k : TypeKind) →
      look c.types t ≡ Some k → AtomFact T ok (typed t)
  known-end U c ef h t k e = (
    k,
    ap (λ g. look g t) (sym h.end) ∙ kind-stays U c h.fine t (h.type_names t k e) ∙ e,
    λ p. let n = h.entries t k e p nothing_given in (
      n.0,
      ap (λ z. type_entry z.types t) (h.behind p nothing_given)
          ∙ type-stays p nothing_given D U (ef p nothing_given) c h.fine t (h.type_names t k e) ∙ n.1,
    ),
  )

  -- A name that is known at a line has its value at the end.
  pub value-end : (U : List Line) (c : Declared) (ef : Assignment → Assignment → Env) → At T ok c U ef → (p a : Assignment) →
      Param S p →
      (x : Text) → is_among c.names x ≡ true → look (env_of S p a).vals x ≡ look (ef p a).vals x
  value-end U c ef h p a P x i = ap (λ z. look z.vals x) (h.behind p a)
      ∙ value-stays p a D U (ef p a) c h.fine (h.fresh_here p P) x i (h.declared x i)

  con-fact : (l : Lit) (x : Text) (U : List Line) (c : Declared) (ef : Assignment → Assignment → Env) →
      At T ok c (holds_lit l x ∷ U) ef →
      (A : Atom) × In (find x (sets_of A)) S × LitFact T ok l A
  con-fact l x U c ef h = go l (look c.finds x) refl h.fine.0
    where
      go : (l : Lit) (o : Option Atom) → look c.finds x ≡ o → Fits c l o → (A : Atom) × In (find x (sets_of A)) S × LitFact T ok l A
      go (num k) (Some (range a b)) e f = (range a b, (h.finds x (range a b) e).1, tt)
      go (num k) (Some (typed t)) e f = absurd f
      go (num k) None e f = absurd f
      go (num k) (Some boolean) e f = absurd f
      go (truth_lit b) (Some boolean) e f = (boolean, (h.finds x boolean e).1, tt)
      go (truth_lit b) (Some (range c d)) e f = absurd f
      go (truth_lit b) (Some (typed t)) e f = absurd f
      go (truth_lit b) None e f = absurd f
      go (value_name n) (Some (typed t)) e f = (
        typed t,
        (h.finds x (typed t) e).1,
        (
          f.0,
          ap (λ g. look g n) (sym h.end_values) ∙ place-stays (holds_lit l x ∷ U) c h.fine n (h.value_names n t f.0 f.1)
              ∙ f.1,
          λ p a P. value-end (holds_lit l x ∷ U) c ef h p a P n (h.value_names n t f.0 f.1) ∙ h.values p a P n t f.0 f.1,
        ),
      )
      go (value_name n) (Some (range a b)) e f = absurd f
      go (value_name n) (Some boolean) e f = absurd f
      go (value_name n) None e f = absurd f

  facts-from : (U : List Line) (c : Declared) (ef : Assignment → Assignment → Env) → At T ok c U ef → Facts T ok U
  facts-from [] c ef h = tt
  facts-from (enum t ns ∷ U) c ef h = facts-from U (after (enum t ns) c) (next T ok (enum t ns) ef) (step T ok (enum t ns) U c ef h)
  facts-from (given_type t ∷ U) c ef h = facts-from U (after (given_type t) c) (next T ok (given_type t) ef)
      (step T ok (given_type t) U c ef h)
  facts-from (unnamed t n ∷ U) c ef h = facts-from U (after (unnamed t n) c) (next T ok (unnamed t n) ef)
      (step T ok (unnamed t n) U c ef h)
  facts-from (set_find x (range a b) ∷ U) c ef h = (
    tt,
    facts-from U (after (set_find x (range a b)) c)
        (next T ok (set_find x (range a b)) ef) (step T ok (set_find x (range a b)) U c ef h),
  )
  facts-from (set_find x boolean ∷ U) c ef h = (
    tt,
    facts-from U (after (set_find x boolean) c) (next T ok (set_find x boolean) ef)
        (step T ok (set_find x boolean) U c ef h),
  )
  facts-from (set_find x (typed t) ∷ U) c ef h =
      let k = is-there (look c.types t) h.fine.1 in (
        known-end (set_find x (typed t) ∷ U) c ef h t k.0 k.1,
        facts-from U (after (set_find x (typed t)) c) (next T ok (set_find x (typed t)) ef)
            (step T ok (set_find x (typed t)) U c ef h),
      )
  facts-from (holds_lit l x ∷ U) c ef h = (
    con-fact l x U c ef h,
    facts-from U c (next T ok (holds_lit l x) ef) (step T ok (holds_lit l x) U c ef h),
  )

  -- The facts of all lines.
  pub facts : Facts T ok T
  facts = facts-from T none_declared (λ p a. empty_env) (start T ok)

  lit-settled : (l : Lit) (x : Text) (U : List Line) (c : Declared) (ef : Assignment → Assignment → Env) →
      At T ok c (holds_lit l x ∷ U) ef → (p a : Assignment) → Param S p →
      meaning (membership l x) (ef p a) ≡ meaning (membership l x) (env_of S p a)
  lit-settled l x U c ef h p a P = go l (look c.finds x) refl h.fine.0
    where
      stay : (y : Text) → is_among c.names y ≡ true → look (ef p a).vals y ≡ look (env_of S p a).vals y
      stay y i = sym (value-end (holds_lit l x ∷ U) c ef h p a P y i)

      go : (m : Lit) (o : Option Atom) → look c.finds x ≡ o → Fits c m o →
          meaning (membership m x) (ef p a) ≡ meaning (membership m x) (env_of S p a)
      go (num k) (Some A) e f = ap (λ o. false_where_undefined true (value_of_node (binary Op2.Member) (Some (number k) ∷ o ∷ [])))
          (stay x (h.finds x A e).0)
      go (num k) None e f = absurd f
      go (truth_lit b) (Some A) e f = ap (λ o. false_where_undefined true
          (value_of_node (binary Op2.Member) (Some (truth b) ∷ o ∷ [])))
          (stay x (h.finds x A e).0)
      go (truth_lit b) None e f = absurd f
      go (value_name n) (Some (typed t)) e f =
          ap (λ o. false_where_undefined true (value_of_node (binary Op2.Member) (look (ef p a).vals n ∷ o ∷ [])))
          (stay x (h.finds x (typed t) e).0)
          ∙ ap (λ o. false_where_undefined true (value_of_node (binary Op2.Member) (o ∷ look (env_of S p a).vals x ∷ [])))
          (stay n (h.value_names n t f.0 f.1))
      go (value_name n) (Some (range b d)) e f = absurd f
      go (value_name n) (Some boolean) e f = absurd f
      go (value_name n) None e f = absurd f

  -- Values have their types.
  pub here-positions : (p : Assignment) → (here S p).positions ≡ false
  here-positions p = (env-form (prepared S) p nothing_given empty_env).0

  settled-from : (U : List Line) (k : ℕ) (c : Declared) (ef : Assignment → Assignment → Env) → At T ok c U ef → (p a : Assignment) →
      Param S p → Each (placed_from k (spec U) p a (ef p a)) (λ l. IsSettled S p a l.stm l.env)
  unfolding known-end
  settled-from [] k c ef h p a P = tt
  settled-from (enum t ns ∷ U) k c ef h p a P = (
    tt,
    settled-from U (suc k) (after (enum t ns) c) (next T ok (enum t ns) ef)
        (step T ok (enum t ns) U c ef h) p a P,
  )
  settled-from (given_type t ∷ U) k c ef h p a P = (
    tt,
    settled-from U (suc k) (after (given_type t) c) (next T ok (given_type t) ef)
        (step T ok (given_type t) U c ef h) p a P,
  )
  settled-from (unnamed t n ∷ U) k c ef h p a P = (
    tt,
    settled-from U (suc k) (after (unnamed t n) c) (next T ok (unnamed t n) ef)
        (step T ok (unnamed t n) U c ef h) p a P,
  )
  settled-from (set_find x (range b d) ∷ U) k c ef h p a P = (
    refl,
    settled-from U (suc k) (after (set_find x (range b d)) c) (next T ok (set_find x (range b d)) ef)
        (step T ok (set_find x (range b d)) U c ef h) p a P,
  )
  settled-from (set_find x boolean ∷ U) k c ef h p a P = (
    refl,
    settled-from U (suc k) (after (set_find x boolean) c) (next T ok (set_find x boolean) ef)
        (step T ok (set_find x boolean) U c ef h) p a P,
  )
  settled-from (set_find x (typed t) ∷ U) k c ef h p a P =
      let j = is-there (look c.types t) h.fine.1 in
      let f = known-end (set_find x (typed t) ∷ U) c ef h t j.0 j.1 in (
        closed-at p t j.0 (ef p a) (h.positions p a) (h.entries t j.0 j.1 p a)
            ∙ sym (closed-at p t j.0 (here S p) (here-positions p) (f.2 p)),
        settled-from U (suc k) (after (set_find x (typed t)) c) (next T ok (set_find x (typed t)) ef)
            (step T ok (set_find x (typed t)) U c ef h) p a P,
      )
  settled-from (holds_lit l x ∷ U) k c ef h p a P = (
    lit-settled l x U c ef h p a P,
    settled-from U (suc k) c (next T ok (holds_lit l x) ef) (step T ok (holds_lit l x) U c ef h) p a P,
  )

  -- The specification is settled.
  pub settled : Settled S
  settled = record {
    distinct = (finds-new T none_declared ok).1;
    settled = λ p a P. subst (λ l. Each (placed_from 1 l p a empty_env) (λ l. IsSettled S p a l.stm l.env)) (sym (prepared-itself T))
        (settled-from T 1 none_declared (λ p a. empty_env) (start T ok) p a P);
  }
