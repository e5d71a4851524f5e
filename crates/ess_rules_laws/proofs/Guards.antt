-- That a comprehension has a value, as a Boolean: what its generators and its body need, under the generators before them.
-- The generators are repeated one by one, since a later domain may be partial under an earlier name; nothing is asked of a
-- binding that isn't reached.
use Rattle.std.proofs.Common.{◌≡◌, refl, sym, ap, ◌∙◌, Bool, true, false, ◌&&◌, List, [], ◌∷◌, ◌++◌, Option, Some, None, option_map}
use Rattle.std.specs.Prelude.{is_some}
use Rattle.std.specs.List.{list_all}
use Rattle.ess_semantics.specs.declared.words.Op2.{Op2}
use Rattle.ess_semantics.specs.declared.words.Fun.{Fun}
use Rattle.ess_semantics.specs.Lists.{and_then}
use Rattle.ess_semantics.specs.Values.{Value, number, truth, item, node, items_of}
use Rattle.ess_semantics.specs.Trees.{Pat, Ex, comp_ex, ex2, fun1, Gens, no_gens, over, from, cond, Dom}
use Rattle.ess_semantics.specs.Operators.{as_truth, implies}
use Rattle.ess_semantics.specs.Meaning.{Env, meaning, items_under, domain_of, members_in, with_pat, collect, where_true}
use Rattle.ess_semantics.specs.Contexts.{Each, EachOf, EachIn, WhenTrue}
use Rattle.ess_rules_laws.proofs.Bindings.{each-map, each-of-map, each-in-map}
use Rattle.ess_rules_laws.proofs.Connectives.{all-means, bits, collect-bits, all-bits}

-- All items have a value exactly where the list has one.
pub collect-some : (vs : List Value) (f : Value → Option (List Value)) → is_some (collect vs f) ≡ list_all (λ v. is_some (f v)) vs
collect-some [] f = refl
collect-some (v ∷ vs) f = go (f v) (collect vs f) (collect-some vs f)
  where
    go : (o c : Option (List Value)) → is_some c ≡ list_all (λ v. is_some (f v)) vs → is_some (and_then o (λ xs. option_map (λ ys. xs ++ ys) c)) ≡ is_some o && list_all (λ v. is_some (f v)) vs
    go None c e = refl
    go (Some x) None e = e
    go (Some x) (Some y) e = e

-- in_dom says that a domain can be listed, and in_ex that a source has a value
module _ (in_dom : Dom → Ex) (in_ex : Ex → Ex) where
  -- That generators have values, and that the body has one, which `ok` says, at each of their bindings.
  abbrev pub has_value : Gens → Ex → Ex
  has_value no_gens ok = ok
  has_value (over p d gs) ok = ex2 true Op2.And (in_dom d) (fun1 true Fun.And (comp_ex (has_value gs ok) (over p d no_gens)))
  has_value (from p e gs) ok = ex2 true Op2.And (in_ex e) (fun1 true Fun.And (comp_ex (has_value gs ok) (from p e no_gens)))
  has_value (cond c gs) ok = ex2 true Op2.Implies c (has_value gs ok)

  -- What is asked of them: at each binding that is reached `in_dom` and `in_ex` say what they should, and K holds behind.
  abbrev pub SayThere : Gens → Env → (Env → Type 0) → Type 0
  SayThere no_gens env K = K env
  SayThere (over p d gs) env K =
      (meaning (in_dom d) env ≡ Some (truth (is_some (members_in (domain_of d env))))) × EachOf (members_in (domain_of d env)) (λ v. SayThere gs (with_pat p v env) K)
  SayThere (from p e gs) env K = (meaning (in_ex e) env ≡ Some (truth (is_some (meaning e env)))) × EachIn (meaning e env) (λ v. SayThere gs (with_pat p v env) K)
  SayThere (cond c gs) env K = WhenTrue (meaning c env) (SayThere gs env K)

  module _ (ok : Ex) (k : Env → Option (List Value)) where
    -- `ok` says whether the body is there.
    abbrev pub BodySays : Env → Type 0
    BodySays here = meaning ok here ≡ Some (truth (is_some (k here)))

    -- The Boolean for these generators says whether their items are there.
    abbrev Says : Gens → Env → Type 0
    Says gs env = meaning (has_value gs ok) env ≡ Some (truth (is_some (items_under gs env k)))

    -- What a quantifier over the rest says, where the values are there.
    over-values : (p : Pat) (gs : Gens) (hs : Gens) (env : Env) (vs : List Value) →
        items_under hs env (λ here. option_map (λ w. w ∷ []) (meaning (has_value gs ok) here)) ≡ collect vs (λ v. option_map (λ w. w ∷ []) (meaning (has_value gs ok) (with_pat p v env))) →
        Each vs (λ v. Says gs (with_pat p v env)) →
        as_truth (meaning (fun1 true Fun.And (comp_ex (has_value gs ok) hs)) env) ≡ is_some (collect vs (λ v. items_under gs (with_pat p v env) k))
    over-values p gs hs env vs e h =
        ap as_truth (all-means env (has_value gs ok) hs (bits there vs) (e ∙ collect-bits vs _ there (each-map vs _ _ (λ v q. ap (option_map (λ w. w ∷ [])) q) h)))
        ∙ all-bits there vs ∙ sym (collect-some vs (λ v. items_under gs (with_pat p v env) k))
      where
        there : Value → Bool
        there v = is_some (items_under gs (with_pat p v env) k)

    -- The Boolean is true exactly where the items are there.
    pub value-there : (gs : Gens) (env : Env) → SayThere gs env BodySays → Says gs env
    value-there no_gens env h = h
    value-there (over p d gs) env h =
        ap (λ o. Some (truth (as_truth o && as_truth (meaning A env)))) h.0 ∙ go (members_in (domain_of d env)) refl (each-of-map (members_in (domain_of d env)) _ _ (λ v. value-there gs (with_pat p v env)) h.1)
      where
        A : Ex
        A = fun1 true Fun.And (comp_ex (has_value gs ok) (over p d no_gens))

        go : (o : Option (List Value)) → members_in (domain_of d env) ≡ o → EachOf o (λ v. Says gs (with_pat p v env)) →
            Some (truth (is_some (members_in (domain_of d env)) && as_truth (meaning A env)))
            ≡ Some (truth (is_some (and_then (members_in (domain_of d env)) (λ vs. collect vs (λ v. items_under gs (with_pat p v env) k)))))
        go None e ih = ap (λ o. Some (truth (is_some o && as_truth (meaning A env)))) e ∙ ap (λ o. Some (truth (is_some (and_then o (λ vs. collect vs (λ v. items_under gs (with_pat p v env) k)))))) (sym e)
        go (Some vs) e ih =
            ap (λ o. Some (truth (is_some o && as_truth (meaning A env)))) e
            ∙ ap (λ b. Some (truth b)) (over-values p gs (over p d no_gens) env vs (ap (λ o. and_then o (λ us. collect us (λ v. option_map (λ w. w ∷ []) (meaning (has_value gs ok) (with_pat p v env))))) e) ih)
            ∙ ap (λ o. Some (truth (is_some (and_then o (λ vs. collect vs (λ v. items_under gs (with_pat p v env) k)))))) (sym e)
    value-there (from p e gs) env h =
        ap (λ o. Some (truth (as_truth o && as_truth (meaning A env)))) h.0 ∙ go (meaning e env) refl (each-in-map (meaning e env) _ _ (λ v. value-there gs (with_pat p v env)) h.1)
      where
        A : Ex
        A = fun1 true Fun.And (comp_ex (has_value gs ok) (from p e no_gens))

        go : (o : Option Value) → meaning e env ≡ o → EachIn o (λ v. Says gs (with_pat p v env)) →
            Some (truth (is_some (meaning e env) && as_truth (meaning A env)))
            ≡ Some (truth (is_some (and_then (meaning e env) (λ s. collect (items_of s) (λ v. items_under gs (with_pat p v env) k)))))
        go None q ih = ap (λ o. Some (truth (is_some o && as_truth (meaning A env)))) q ∙ ap (λ o. Some (truth (is_some (and_then o (λ s. collect (items_of s) (λ v. items_under gs (with_pat p v env) k)))))) (sym q)
        go (Some s) q ih =
            ap (λ o. Some (truth (is_some o && as_truth (meaning A env)))) q
            ∙ ap (λ b. Some (truth b)) (over-values p gs (from p e no_gens) env (items_of s) (ap (λ o. and_then o (λ z. collect (items_of z) (λ v. option_map (λ w. w ∷ []) (meaning (has_value gs ok) (with_pat p v env))))) q) ih)
            ∙ ap (λ o. Some (truth (is_some (and_then o (λ s. collect (items_of s) (λ v. items_under gs (with_pat p v env) k)))))) (sym q)
    value-there (cond c gs) env h = go (meaning c env) refl (λ t. value-there gs env (h t))
      where
        go : (o : Option Value) → meaning c env ≡ o → (as_truth (meaning c env) ≡ true → Says gs env) →
            Some (truth (implies (as_truth (meaning c env)) (as_truth (meaning (has_value gs ok) env)))) ≡ Some (truth (is_some (where_true (meaning c env) (λ u. items_under gs env k))))
        go o q f =
            ap (λ z. Some (truth (implies (as_truth z) (as_truth (meaning (has_value gs ok) env))))) q ∙ at o (λ t. f (ap as_truth q ∙ t))
            ∙ ap (λ z. Some (truth (is_some (where_true z (λ u. items_under gs env k))))) (sym q)
          where
            at : (o : Option Value) → (as_truth o ≡ true → Says gs env) →
                Some (truth (implies (as_truth o) (as_truth (meaning (has_value gs ok) env)))) ≡ Some (truth (is_some (where_true o (λ u. items_under gs env k))))
            at None f = refl
            at (Some (truth true)) f = ap (λ z. Some (truth (as_truth z))) (f refl)
            at (Some (truth false)) f = refl
            at (Some (number n)) f = refl
            at (Some (item t n)) f = refl
            at (Some (node a b)) f = refl
