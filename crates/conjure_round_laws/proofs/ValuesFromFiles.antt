-- The values that a file of lettings gives to finds, place by place: where each letting has its find's value there, they are the values.
use Rattle.std.proofs.Common.{◌≡◌, refl, sym, ap, ◌∙◌, subst, ℕ, suc, Bool, true, false, ◌||◌, not, if◌then◌else◌, List, [], ◌∷◌, ◌++◌, map, Option, Some, None}
use Rattle.std.specs.List.{list_all}
use Rattle.ess_semantics.specs.Lists.{and_then}
use Rattle.ess_semantics.specs.Values.{Text, Value}
use Rattle.ess_semantics.specs.Order.{same_text}
use Rattle.ess_semantics.specs.Names.{Names, look, keys, is_among, all_distinct}
use Rattle.ess_semantics.specs.Trees.{Stm, given, given_enum, let_ex, let_dom, let_enum, let_unnamed, needs, find, such_that, minimise, maximise}
use Rattle.ess_semantics.specs.Contexts.{Each}
use Rattle.ess_semantics.specs.Meaning.{Env}
use Rattle.ess_semantics.specs.Assignments.{Assignment, value_of, value_if, env_after, placed_from}
use Rattle.ess_semantics.specs.Solutions.{finds}
use Rattle.ess_semantics.specs.Plans.{finds_side}
use Rattle.ess_semantics.proofs.Tests.{and-left, and-right, not-true}
use Rattle.ess_semantics.proofs.Texts.{same_text-equal, same_text-itself}
use Rattle.ess_grammar.specs.ValueTexts.{literal_of}
use Rattle.ess_translate_laws.specs.FileAssignments.{value_lettings, type_lettings, value_in_file, values_from}
use Rattle.conjure_laws.proofs.NamedValues.{value_in}
use Rattle.conjure_round_laws.specs.Stood.{is_there}
use Rattle.conjure_round_laws.specs.LetLiterals.{literal_lettings}

-- ---- statement by statement

-- A find's letting has the value that the assignment gives it.
abbrev pub GivesValue : List Stm → Assignment → Stm → Env → Type 0
GivesValue F a (find x d) env = value_in_file F env (x, d) ≡ value_of a x
GivesValue F a s env = Unit {0}

one-value : (x : Text) (o : Option Value) → value_of (record { types = []; vals = (x, o) ∷ [] }) x ≡ o
one-value x o = ap (λ b. and_then (if b then Some o else None) (λ v. v)) (same_text-itself x)

-- So the file gives each find its value.
pub file-values : (F : List Stm) (p a : Assignment) (k : ℕ) (T : List Stm) (env : Env) →
    Each (placed_from k T p a env) (λ l. GivesValue F a l.stm l.env) →
    values_from finds_side F p T env ≡ map (λ x. (x, value_of a x)) (finds T)
file-values F p a k [] env h = refl
file-values F p a k (given x d ∷ T) env h = file-values F p a (suc k) T (env_after (given x d) p a env) h.1
file-values F p a k (given_enum t ∷ T) env h = file-values F p a (suc k) T (env_after (given_enum t) p a env) h.1
file-values F p a k (let_ex x e ∷ T) env h = file-values F p a (suc k) T env h.1
file-values F p a k (let_dom x d ∷ T) env h = file-values F p a (suc k) T env h.1
file-values F p a k (let_enum t ns ∷ T) env h = file-values F p a (suc k) T (env_after (let_enum t ns) p a env) h.1
file-values F p a k (let_unnamed t e ∷ T) env h = file-values F p a (suc k) T (env_after (let_unnamed t e) p a env) h.1
file-values F p a k (needs e ∷ T) env h = file-values F p a (suc k) T env h.1
file-values F p a k (such_that e ∷ T) env h = file-values F p a (suc k) T env h.1
file-values F p a k (minimise e ∷ T) env h = file-values F p a (suc k) T env h.1
file-values F p a k (maximise e ∷ T) env h = file-values F p a (suc k) T env h.1
file-values F p a k (find x d ∷ T) env h =
    let o : Option Value = value_in_file F env (x, d) in
    let b : Assignment = record { types = []; vals = (x, o) ∷ [] } in
    let e : env_after (find x d) p b env ≡ env_after (find x d) p a env =
    ap (λ v. record env { vals = value_if x v env.vals }) (one-value x o ∙ h.0) in
    ap (λ z. (x, o) ∷ values_from finds_side F p T z) e
    ∙ ap (λ v. (x, v) ∷ values_from finds_side F p T (env_after (find x d) p a env)) h.0
    ∙ ap (λ l. (x, value_of a x) ∷ l) (file-values F p a (suc k) T (env_after (find x d) p a env) h.1)

-- ---- lettings of literals

module _ (name_of : Text → ℕ → Text) where
  -- No type has a letting.
  pub no-types : (bs : Names (Option Value)) → type_lettings (literal_lettings name_of bs) ≡ []
  no-types [] = refl
  no-types ((x, Some v) ∷ bs) = no-types bs
  no-types ((x, None) ∷ bs) = no-types bs

  -- A name's letting has the literal of its value.
  pub literal-found : (bs : Names (Option Value)) (x : Text) (v : Value) → list_all is_there bs ≡ true → value_in bs x ≡ Some v →
      look (value_lettings (literal_lettings name_of bs)) x ≡ Some (literal_of name_of v)
  literal-found [] x v t e = cc
  literal-found ((y, None) ∷ bs) x v t e = cc
  literal-found ((y, Some w) ∷ bs) x v t e = go (same_text y x) e (literal-found bs x v t)
    where
      go : (b : Bool) → and_then (if b then Some (Some w) else look bs x) (λ o. o) ≡ Some v →
          (value_in bs x ≡ Some v → look (value_lettings (literal_lettings name_of bs)) x ≡ Some (literal_of name_of v)) →
          (if b then Some (literal_of name_of w) else look (value_lettings (literal_lettings name_of bs)) x) ≡ Some (literal_of name_of v)
      go true e k = let z : w ≡ v = cc in ap (λ u. Some (literal_of name_of u)) z
      go false e k = k e

  -- What the lettings' names have gives the values again.
  pub values-again : (bs : Names (Option Value)) (f : Text → Option Value) → list_all is_there bs ≡ true → Each bs (λ b. f b.0 ≡ b.1) →
      map (λ b. (b.0, f b.0)) (value_lettings (literal_lettings name_of bs)) ≡ bs
  values-again [] f t h = refl
  values-again ((x, None) ∷ bs) f t h = cc
  values-again ((x, Some v) ∷ bs) f t h =
      ap (λ o. (x, o) ∷ map (λ b. (b.0, f b.0)) (value_lettings (literal_lettings name_of bs))) h.0
      ∙ ap (λ l. (x, Some v) ∷ l) (values-again bs f t h.1)

-- Where no name stands twice each entry is what its name has.
pub own-entries : (bs : Names (Option Value)) → all_distinct (keys bs) ≡ true → Each bs (λ b. value_in bs b.0 ≡ b.1)
own-entries bs d = from [] bs (λ x i. refl) d
  where
    -- entries behind others of other names
    from : (cs bs : Names (Option Value)) → ((x : Text) → is_among (keys bs) x ≡ true → value_in (cs ++ bs) x ≡ value_in bs x) →
        all_distinct (keys bs) ≡ true → Each bs (λ b. value_in (cs ++ bs) b.0 ≡ b.1)
    from cs [] h d = tt
    from cs (b ∷ bs) h d = (
      h b.0 (ap (λ t. t || is_among (keys bs) b.0) (same_text-itself b.0))
          ∙ ap (λ t. and_then (if t then Some b.1 else look bs b.0) (λ o. o)) (same_text-itself b.0),
      subst (λ l. Each bs (λ c. value_in l c.0 ≡ c.1)) (along cs)
          (from (cs ++ b ∷ []) bs (λ x i. ap (λ l. value_in l x) (along cs) ∙ h x (later x i)
          ∙ ap (λ t. and_then (if t then Some b.1 else look bs x) (λ o. o)) (other x i (same_text b.0 x) refl))
          (and-right (not (is_among (keys bs) b.0)) (all_distinct (keys bs)) d)),
    )
      where
        along : (cs : Names (Option Value)) → (cs ++ b ∷ []) ++ bs ≡ cs ++ b ∷ bs
        along [] = refl
        along (c ∷ cs) = ap (λ l. c ∷ l) (along cs)

        later : (x : Text) → is_among (keys bs) x ≡ true → same_text b.0 x || is_among (keys bs) x ≡ true
        later x i = go (same_text b.0 x)
          where
            go : (t : Bool) → t || is_among (keys bs) x ≡ true
            go true = refl
            go false = i

        other : (x : Text) → is_among (keys bs) x ≡ true → (t : Bool) → same_text b.0 x ≡ t → same_text b.0 x ≡ false
        other x i false e = e
        other x i true e =
            let z : true ≡ false = sym i ∙ ap (is_among (keys bs)) (sym (same_text-equal b.0 x e))
            ∙ not-true (is_among (keys bs) b.0) (and-left (not (is_among (keys bs) b.0)) (all_distinct (keys bs)) d) in cc
