-- At each statement the givens that its bounds name have their values already.
use Rattle.std.proofs.Common.{◌≡◌, refl, sym, ap, ◌∙◌, ℕ, suc, Bool, true, false, ◌||◌, if◌then◌else◌, List, [], ◌∷◌, Option, Some, None}
use Rattle.std.specs.List.{list_all}
use Rattle.ess_semantics.specs.Values.{Text, Value}
use Rattle.ess_semantics.specs.Order.{same_text}
use Rattle.ess_semantics.specs.Names.{look, is_among}
use Rattle.ess_semantics.specs.Trees.{Stm, Dom, given, let_ex, let_dom, needs, find, such_that, minimise, maximise}
use Rattle.ess_semantics.specs.Contexts.{Each}
use Rattle.ess_semantics.specs.Meaning.{Env}
use Rattle.ess_semantics.specs.Assignments.{Assignment, nothing_given, value_of, value_if, placed_from, env_after}
use Rattle.ess_semantics.specs.Plans.{Options, Plan}
use Rattle.ess_semantics.proofs.Tests.{and-left, and-right}
use Rattle.ess_rules_laws.proofs.Agreement.{same_text-equal}
use Rattle.ess_flat_models_laws.specs.FlatSpecifications.{given_mark, mark_among, is_scalar_dom, is_flat_statement, are_bounded}
use Rattle.ess_flat_models_laws.proofs.FlatNames.{no-yes}

module _ (Ps : List Plan) (o : Options) (p : Assignment) where
  -- Those of these names that the parameter gives values have them.
  pub record Known (xs : List Text) (env : Env) : Type 0 where
    pub known : (a : Text) (v : Value) → is_among xs a ≡ true → value_of p a ≡ Some v → look env.vals a ≡ Some v

  -- The bounds of a domain name such givens alone.
  pub record BoundsKnown (d : Dom) (env : Env) : Type 0 where
    pub names : List Text
    pub bounded : is_scalar_dom (mark_among names (given_mark Ps)) d ≡ true
    pub known : Known names env

  -- Those of a statement.
  abbrev pub PlaceKnown : Stm → Env → Type 0
  PlaceKnown (given x d) env = BoundsKnown d env
  PlaceKnown (find x d) env = BoundsKnown d env
  PlaceKnown s env = Unit {0}

  one-more : (x : Text) (d : Dom) (xs : List Text) (env : Env) → Known xs env →
      Known (x ∷ xs) (env_after (given x d) p nothing_given env)
  one-more x d xs env k = record { known = λ a v i e. go a v (same_text x a) refl i e }
    where
      behind : (a : Text) (v : Value) (r : Option Value) → same_text x a ≡ false → look env.vals a ≡ Some v →
          look (value_if x r env.vals) a ≡ Some v
      behind a v None q e = e
      behind a v (Some w) q e = ap (λ c. if c then Some w else look env.vals a) q ∙ e

      go : (a : Text) (v : Value) (c : Bool) → same_text x a ≡ c → same_text x a || is_among xs a ≡ true → value_of p a ≡ Some v →
          look (value_if x (value_of p x) env.vals) a ≡ Some v
      go a v true q i e =
          let z : value_of p x ≡ Some v = ap (value_of p) (same_text-equal x a q) ∙ e in
          ap (λ r. look (value_if x r env.vals) a) z ∙ ap (λ c. if c then Some v else look env.vals a) q
      go a v false q i e = behind a v (value_of p x) q (k.known a v (sym (ap (λ c. c || is_among xs a) q) ∙ i) e)

  rest : (s : Stm) (T : List Stm) → list_all (is_flat_statement Ps o) (s ∷ T) ≡ true → list_all (is_flat_statement Ps o) T ≡ true
  rest s T h = and-right (is_flat_statement Ps o s) (list_all (is_flat_statement Ps o) T) h

  -- So it is at each statement.
  pub places-known : (T : List Stm) (k : ℕ) (xs : List Text) (env : Env) → list_all (is_flat_statement Ps o) T ≡ true →
      are_bounded Ps xs T ≡ true → Known xs env → Each (placed_from k T p nothing_given env) (λ l. PlaceKnown l.stm l.env)
  places-known [] k xs env h b w = tt
  places-known (given x d ∷ T) k xs env h b w =
      let a : Bool = is_scalar_dom (mark_among xs (given_mark Ps)) d in
      let c : Bool = are_bounded Ps (x ∷ xs) T in (
        record { names = xs; bounded = and-left a c b; known = w },
        places-known T (suc k) (x ∷ xs) (env_after (given x d) p nothing_given env) (rest (given x d) T h) (and-right a c b)
            (one-more x d xs env w),
      )
  places-known (find x d ∷ T) k xs env h b w =
      let a : Bool = is_scalar_dom (mark_among xs (given_mark Ps)) d in
      let c : Bool = are_bounded Ps xs T in (
        record { names = xs; bounded = and-left a c b; known = w },
        places-known T (suc k) xs (env_after (find x d) p nothing_given env) (rest (find x d) T h) (and-right a c b)
            (record { known = w.known }),
      )
  places-known (let_ex x e ∷ T) k xs env h b w = (tt, places-known T (suc k) xs env (rest (let_ex x e) T h) b w)
  places-known (let_dom x d ∷ T) k xs env h b w = (tt, places-known T (suc k) xs env (rest (let_dom x d) T h) b w)
  places-known (needs e ∷ T) k xs env h b w = (tt, places-known T (suc k) xs env (rest (needs e) T h) b w)
  places-known (such_that e ∷ T) k xs env h b w = (tt, places-known T (suc k) xs env (rest (such_that e) T h) b w)
  places-known (minimise e ∷ T) k xs env h b w = (tt, places-known T (suc k) xs env (rest (minimise e) T h) b w)
  places-known (maximise e ∷ T) k xs env h b w = (tt, places-known T (suc k) xs env (rest (maximise e) T h) b w)
  places-known (s ∷ T) k xs env h b w = absurd (no-yes h)
