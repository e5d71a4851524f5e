-- Refined trees with plain keys mean what they meant.
use Rattle.std.proofs.Common.{◌≡◌, refl, sym, ap, ◌∙◌, subst, Bool, true, false, ◌&&◌, not, if◌then◌else◌, List, [], ◌∷◌, Option, Some}
use Rattle.std.proofs.Common.{None, option_map}
use Rattle.std.specs.Prelude.{IsTrue}
use Rattle.ess_semantics.specs.Lists.{and_then}
use Rattle.ess_semantics.specs.Values.{Text, Value}
use Rattle.ess_semantics.specs.Names.{Names, look}
use Rattle.ess_semantics.specs.Trees.{name_pat, tuple_pat, Ex, Exs, number_ex, truth_ex, name_ex, node_ex, matrix_ex, comp_ex, cell_ex}
use Rattle.ess_semantics.specs.Trees.{seen_ex, no_exs, more_exs, Gens, no_gens, over, from, cond, Dom, bool_dom, int_dom, name_dom}
use Rattle.ess_semantics.specs.Operators.{list_value, value_of_node, false_where_undefined}
use Rattle.ess_semantics.specs.Domains.{integers}
use Rattle.ess_semantics.specs.Scoped.{with_names, Scoped, ScopedExs, ScopedGens, ScopedDom}
use Rattle.ess_semantics.specs.Tables.{Table}
use Rattle.ess_semantics.specs.Meaning.{Env, TypeEntry, meaning, meanings, items_under, collect, domain_of, members_in, spans_of, cell_in}
use Rattle.ess_semantics.specs.Meaning.{indices}
use Rattle.ess_semantics.proofs.Tests.{and-left, and-right}
use Rattle.ess_rules_laws.proofs.Simulation.{Vals, E, where-same}
use Rattle.ess_rules_laws.proofs.Bindings.{collect-each-of}
use Rattle.ess_guard_laws.specs.Origins.{is_sure}
use Rattle.ess_guard_laws.proofs.KnownNames as K
use Rattle.ess_guard_laws.proofs.Behind.{each-member}
use Rattle.ess_keys_laws.specs.KeyForms.{key_of}
use Rattle.ess_keys_laws.specs.Keyed.{Around, key_now, if_sure, sure_key, entered, generator_before, keyed, keyed_all, keyed_gens}
use Rattle.ess_keys_laws.specs.Keyed.{keyed_behind, keyed_dom}
use Rattle.ess_keys_laws.proofs.Forms.{indices-mean, conjuncts-mean}
use Rattle.ess_keys_laws.proofs.Folds.{laid-means, folded-means}
use Rattle.ess_keys_laws.proofs.AtKey.{of-key, at-key}
use Rattle.ess_keys_laws.proofs.Bound.{InScope, Rel, sure-there, sure-scope, sure-rises, key-value, rel-key, rel-over}

-- ---- trees whose keys are made plain in all parts, as refined trees are

abbrev mutual
  pub is_keyable : Ex → Bool
  is_keyable (number_ex n) = true
  is_keyable (truth_ex b) = true
  is_keyable (name_ex a) = true
  is_keyable (node_ex b op es) = are_keyable es
  is_keyable (comp_ex e gs) = is_keyable e && are_keyable_gens gs
  is_keyable (cell_ex b n es) = are_keyable es
  is_keyable e = false

  pub are_keyable : Exs → Bool
  are_keyable no_exs = true
  are_keyable (more_exs e es) = is_keyable e && are_keyable es

  pub are_keyable_gens : Gens → Bool
  are_keyable_gens no_gens = true
  are_keyable_gens (over (name_pat a) d gs) = is_keyable_dom d && are_keyable_gens gs
  are_keyable_gens (cond e gs) = is_keyable e && are_keyable_gens gs
  are_keyable_gens gs = false

  pub is_keyable_dom : Dom → Bool
  is_keyable_dom bool_dom = true
  is_keyable_dom (int_dom rs es) = are_keyable es
  is_keyable_dom (name_dom a) = true
  is_keyable_dom d = false

is-new : (b : Bool) → IsTrue (not b) → b ≡ false
is-new true h = cc
is-new false h = refl

module _ (pl : Bool) (ts : List TypeEntry) (cs : Names Table) where
  abbrev M : Vals → Env
  M g = E pl ts cs g

  -- ---- one generator

  -- Over a domain, whose name has no key: at each member alike.
  over-none : (j : Text) (d d' : Dom) (gs hs : Gens) (g h : Vals) (k k' : Env → Option (List Value))
      → domain_of d' (M h) ≡ domain_of d (M g)
      → ((v : Value) → K.Lies pl ts cs d' v → items_under hs (M ((j, v) ∷ h)) k' ≡ items_under gs (M ((j, v) ∷ g)) k)
      → items_under (over (name_pat j) d' hs) (M h) k' ≡ items_under (over (name_pat j) d gs) (M g) k
  over-none j d d' gs hs g h k k' p ih =
      collect-each-of (members_in (domain_of d' (M h))) (λ v. items_under hs (M ((j, v) ∷ h)) k') (λ v. items_under gs (M ((j, v) ∷ g)) k)
      (each-member (members_in (domain_of d' (M h))) (λ v. items_under hs (M ((j, v) ∷ h)) k' ≡ items_under gs (M ((j, v) ∷ g)) k)
      (λ vs v e q. ih v (h, vs, e, q)))
      ∙ ap (λ x. and_then (members_in x) (λ vs. collect vs (λ v. items_under gs (M ((j, v) ∷ g)) k))) p

  -- Whose name has a key: at the key alone.
  over-some : (s : Text → Bool) (c : Around) (j : Text) (t : Ex) (d d' : Dom) (gs : Gens) (g h : Vals) (k : Env → Option (List Value))
      (x : Option (List Value)) → Rel pl ts cs s c g h → key_of j gs ≡ Some t → is_sure c.origins (key_now c.keys t) d' ≡ true
      → domain_of d' (M h) ≡ domain_of d (M g) → (w : Value) → meaning (key_now c.keys t) (M h) ≡ Some w
      → x ≡ items_under gs (M ((j, w) ∷ g)) k → x ≡ items_under (over (name_pat j) d gs) (M g) k
  over-some s c j t d d' gs g h k x r e y p w m ih =
      let i = K.sure-member pl ts cs c.origins (key_now c.keys t) d' h w r.known y m in
      ih
      ∙ sym (at-key pl ts cs j gs t w g k i.0 e (key-value pl ts cs s c g h r j t (of-key j gs t e) ∙ m)
      (sure-rises c.origins (key_now c.keys t) d' y (M h) i.0 i.1) i.2)
      ∙ ap (λ o. and_then o (λ vs. collect vs (λ v. items_under gs (M ((j, v) ∷ g)) k))) (sym (ap members_in (sym p) ∙ i.1))

  module _ (z : Text → Bool) where
    -- What is asked of what stands behind generators, where x is in scope there.
    abbrev Behind : Around → Ex → (Env → Option (List Value)) → (Env → Option (List Value)) → Type 0
    Behind c x k k' = (s o : Text → Bool) (g h : Vals) → Scoped z s o x → Rel pl ts cs s c g h → k' (M h) ≡ k (M g)

    -- What is asked of generators.
    abbrev Alike : Gens → Type 0
    Alike gs = (s o : Text → Bool) (c : Around) (g h : Vals) (x : Ex) (k k' : Env → Option (List Value))
        → ScopedGens z s o gs (λ s o. Scoped z s o x) → Rel pl ts cs s c g h → Behind (keyed_behind c gs) x k k'
        → items_under (keyed_gens c gs) (M h) k' ≡ items_under gs (M g) k

    over-alike : (j : Text) (d d' : Dom) (gs : Gens) → Alike gs → (s o : Text → Bool) (c : Around) (g h : Vals)
        (i : Ex) (k k' : Env → Option (List Value)) → s j ≡ false
        → ScopedGens z (with_names s (name_pat j)) o gs (λ s o. Scoped z s o i) → Rel pl ts cs s c g h
        → domain_of d' (M h) ≡ domain_of d (M g)
        → (q key : Option Ex) → key_of j gs ≡ q → if_sure c d' q ≡ key
        → Behind (keyed_behind (entered c (name_pat j) d' key) gs) i k k'
        → items_under (generator_before (name_pat j) d' key (keyed_gens (entered c (name_pat j) d' key) gs)) (M h) k'
        ≡ items_under (over (name_pat j) d gs) (M g) k
    over-alike j d d' gs ih s o c g h i k k' n sc r p q key e f b = go key q e f b
      where
        none : Behind (keyed_behind (entered c (name_pat j) d' None) gs) i k k'
            → items_under (over (name_pat j) d' (keyed_gens (entered c (name_pat j) d' None) gs)) (M h) k'
            ≡ items_under (over (name_pat j) d gs) (M g) k
        none b =
            over-none j d d' gs (keyed_gens (entered c (name_pat j) d' None) gs) g h k k' p
            (λ v l. ih (with_names s (name_pat j)) o (entered c (name_pat j) d' None) ((j, v) ∷ g) ((j, v) ∷ h) i k k' sc
            (rel-over pl ts cs s c g h j d' v r n l) b)

        some : (t x : Ex) (y : Bool) → key_of j gs ≡ Some t → is_sure c.origins (key_now c.keys t) d' ≡ y
            → (if y then Some (key_now c.keys t) else None) ≡ Some x
            → Behind (keyed_behind (entered c (name_pat j) d' (Some x)) gs) i k k'
            → items_under (keyed_gens (entered c (name_pat j) d' (Some x)) gs) (M h) k' ≡ items_under (over (name_pat j) d gs) (M g) k
        some t x false e y a b = cc
        some t x true e y a b =
            let w = sure-there pl ts cs c.origins (key_now c.keys t) d' h r.known y in
            let a' : key_now c.keys t ≡ x = ap (λ o. elim o [ None ↦ key_now c.keys t | Some z ↦ z ]) a in
            over-some s c j t d d' gs g h k (items_under (keyed_gens (entered c (name_pat j) d' (Some x)) gs) (M h) k') r e y p w.0 w.1
            (ih (with_names s (name_pat j)) o (entered c (name_pat j) d' (Some x)) ((j, w.0) ∷ g) h i k k' sc
            (rel-key pl ts cs s c g h j d' x w.0 r
            (subst (InScope s) a' (sure-scope pl ts cs s c g h r (key_now c.keys t) d' y))
            (ap (λ u. meaning u (M h)) (sym a') ∙ w.1)) b)

        go : (key q : Option Ex) → key_of j gs ≡ q → if_sure c d' q ≡ key → Behind (keyed_behind (entered c (name_pat j) d' key) gs) i k k'
            → items_under (generator_before (name_pat j) d' key (keyed_gens (entered c (name_pat j) d' key) gs)) (M h) k'
            ≡ items_under (over (name_pat j) d gs) (M g) k
        go None q e f b = none b
        go (Some x) None e f b = cc
        go (Some x) (Some t) e f b = some t x (is_sure c.origins (key_now c.keys t) d') e refl f b

    -- ---- trees

    mutual
      pub keyed-means : (e : Ex) (s o : Text → Bool) (c : Around) (g h : Vals) → is_keyable e ≡ true → Scoped z s o e → Rel pl ts cs s c g h
          → meaning (keyed c e) (M h) ≡ meaning e (M g)
      keyed-means (number_ex n) s o c g h t sc r = refl
      keyed-means (truth_ex b) s o c g h t sc r = refl
      keyed-means (name_ex a) s o c g h t sc r = r.values a
      keyed-means (node_ex b op es) s o c g h t sc r =
          folded-means pl ts cs c.origins b op (keyed_all c es) h r.known
          ∙ ap (λ os. false_where_undefined b (value_of_node op os)) (all-mean es s o c g h t sc r)
      keyed-means (comp_ex e gs) s o c g h t sc r =
          laid-means (keyed (keyed_behind c gs) e) (keyed_gens c gs) (M h)
          ∙ ap (option_map list_value) (gens-mean gs (and-right (is_keyable e) (are_keyable_gens gs) t) s o c g h e
          (λ here. option_map (λ v. v ∷ []) (meaning e here)) (λ here. option_map (λ v. v ∷ []) (meaning (keyed
          (keyed_behind c gs) e) here)) sc r
          (λ s o g h sc r. ap (option_map (λ v. v ∷ []))
          (keyed-means e s o (keyed_behind c gs) g h (and-left (is_keyable e) (are_keyable_gens gs) t) sc r)))
      keyed-means (cell_ex b n es) s o c g h t sc r =
          ap (λ i. false_where_undefined b (cell_in b (look cs n) i))
          (indices-mean pl ts cs c.origins (keyed_all c es) h r.known ∙ ap indices (all-mean es s o c g h t sc r))
      keyed-means (matrix_ex es d) s o c g h t sc r = cc
      keyed-means (seen_ex q d ns es) s o c g h t sc r = cc

      all-mean : (es : Exs) (s o : Text → Bool) (c : Around) (g h : Vals) → are_keyable es ≡ true → ScopedExs z s o es
          → Rel pl ts cs s c g h
          → meanings (keyed_all c es) (M h) ≡ meanings es (M g)
      all-mean no_exs s o c g h t sc r = refl
      all-mean (more_exs e es) s o c g h t sc r =
          ap (λ x. x ∷ meanings (keyed_all c es) (M h)) (keyed-means e s o c g h (and-left (is_keyable e) (are_keyable es) t) sc.0 r)
          ∙ ap (λ xs. meaning e (M g) ∷ xs) (all-mean es s o c g h (and-right (is_keyable e) (are_keyable es) t) sc.1 r)

      gens-mean : (gs : Gens) → are_keyable_gens gs ≡ true → Alike gs
      gens-mean no_gens t s o c g h x k k' sc r b = b s o g h sc r
      gens-mean (over (name_pat j) d gs) t s o c g h x k k' sc r b =
          over-alike j d (keyed_dom c d) gs (gens-mean gs (and-right (is_keyable_dom d) (are_keyable_gens gs) t)) s (with_names o
          (name_pat j)) c g h x k k'
          (is-new (s j) sc.0) sc.2 r (dom-means d s o c g h (and-left (is_keyable_dom d) (are_keyable_gens gs) t) sc.1 r)
          (key_of j gs) (sure_key c (name_pat j) (keyed_dom c d) gs) refl refl b
      gens-mean (over (tuple_pat ps) d gs) t s o c g h x k k' sc r b = cc
      gens-mean (from p e gs) t s o c g h x k k' sc r b = cc
      gens-mean (cond e gs) t s o c g h x k k' sc r b =
          conjuncts-mean pl ts cs c.origins (keyed c e) (keyed_gens c gs) h k' r.known
          ∙ where-same (meaning (keyed c e) (M h)) (meaning e (M g)) (items_under (keyed_gens c gs) (M h) k') (items_under gs (M g) k)
          (keyed-means e s o c g h (and-left (is_keyable e) (are_keyable_gens gs) t) sc.0 r)
          (gens-mean gs (and-right (is_keyable e) (are_keyable_gens gs) t) s o c g h x k k' sc.1 r b)

      dom-means : (d : Dom) (s o : Text → Bool) (c : Around) (g h : Vals) → is_keyable_dom d ≡ true → ScopedDom z s o d
          → Rel pl ts cs s c g h
          → domain_of (keyed_dom c d) (M h) ≡ domain_of d (M g)
      dom-means bool_dom s o c g h t sc r = refl
      dom-means (int_dom rs es) s o c g h t sc r = ap (λ os. option_map integers (spans_of rs os)) (all-mean es s o c g h t sc r)
      dom-means (name_dom a) s o c g h t sc r = refl
      dom-means d s o c g h t sc r = cc
