-- Over the domain of an atom the set of the items of a comprehension offers at each value what is new there.
use Rattle.std.proofs.Common.{◌≡◌, refl, sym, ap, ◌∙◌, subst, Bool, true, false, ◌||◌, not, if◌then◌else◌, List, [], ◌∷◌, map, filter, Option, Some, None, option_map}
use Rattle.std.specs.Prelude.{IsTrue}
use Rattle.std.specs.List.{list_all}
use Rattle.ess_semantics.specs.declared.words.Op1.{Op1}
use Rattle.ess_semantics.specs.declared.words.Op2.{Op2}
use Rattle.ess_semantics.specs.declared.words.Fun.{Fun}
use Rattle.ess_semantics.specs.Lists.{and_then, append_all, list_or_none}
use Rattle.ess_semantics.specs.Values.{Text, Value, truth, items_of, itself}
use Rattle.ess_semantics.specs.Order.{same, below, same_text}
use Rattle.ess_semantics.specs.Collections.{holds, sorted_once, set_of, rises}
use Rattle.ess_semantics.specs.Names.{Names, look}
use Rattle.ess_semantics.specs.Trees.{word, name_pat, Ex, name_ex, comp_ex, ex1, ex2, Gens, no_gens, over, from, cond, Dom, bool_dom, int_dom, name_dom}
use Rattle.ess_semantics.specs.Domains.{Domain, integers}
use Rattle.ess_semantics.specs.Atoms.{IsAtom}
use Rattle.ess_semantics.specs.Operators.{value_of_node, list_value}
use Rattle.ess_semantics.specs.Meaning.{Env, TypeEntry, type_entry, named_domain, spans_of, meaning, meanings, items_under, domain_of, members_in, collect, where_true}
use Rattle.ess_semantics.specs.Contexts.{Each, EachOf, EachIn}
use Rattle.ess_semantics.specs.Substitution.{NamesAre}
use Rattle.ess_semantics.specs.Meets.{Meets, MeetsGens, MeetsDom}
use Rattle.ess_semantics.proofs.Orders.{to_list-of_list, order_total}
use Rattle.ess_semantics.proofs.Sorting.{Rising, sorted-of}
use Rattle.ess_semantics.proofs.Tests.{or-yes}
use Rattle.ess_semantics.proofs.MemberLists.{atom-listed}
use Rattle.ess_rules_laws.specs.Rules.{Unused}
use Rattle.ess_rules_laws.specs.MatrixRules.{UnusedDom}
use Rattle.ess_rules_laws.specs.Listings.{items_listed, Lists, those}
use Rattle.ess_rules_laws.specs.ListedSources.{laid_out}
use Rattle.ess_rules_laws.proofs.Simulation.{but, where-same}
use Rattle.ess_rules_laws.proofs.Agreement.{AgreeOn, same_text-itself, look-itself, agree-but, meaning-agree, domain-agree, put-value, meaning-substituted}
use Rattle.ess_rules_laws.proofs.MeetsSimulation.{meets-agree, meets-agree-dom, meets-put}
use Rattle.ess_rules_laws.proofs.Connectives.{binary-means, not-means}
use Rattle.ess_rules_laws.proofs.Bindings.{each-map}
use Rattle.ess_rules_laws.proofs.RuleAnswers.{behind, name-behind, each-in-any, each-any, all-over}
use Rattle.ess_rules_laws.proofs.ListedItems.{counted-same, count-sorted_once, alone-listed, tested-listed}
use Rattle.ess_refine_laws.specs.ItemsOnce.{is_atom_dom, set_of_items, items_before, is_new, set_at, items_over}
use Rattle.ess_refine_laws.proofs.CountedOnce.{none-held, all_of, new_of, once, collect-is, collect-where, each-filtered}

-- ---- domains of atoms

-- The members of an atom rise.
pub atom-rises : (d : Dom) (env : Env) (vs : List Value) → is_atom_dom d ≡ true → members_in (domain_of d env) ≡ Some vs →
    Rising order_total vs
atom-rises d env vs a m = rising (domain_of d env) (λ c q. of d a c q) m
  where
    atom : (b c : Domain) → Some b ≡ Some c → IsAtom b → IsAtom c
    atom b c q i = let e : b ≡ c = cc in subst IsAtom e i

    named-atom : (b : Bool) (t : Text) (o : Option TypeEntry) (c : Domain) → named_domain b t o ≡ Some c → IsAtom c
    named-atom b t None c q = cc
    named-atom true t (Some e) c q = atom _ c q tt
    named-atom false t (Some e) c q = atom _ c q tt

    numbers-atom : (o : Option _) (c : Domain) → option_map integers o ≡ Some c → IsAtom c
    numbers-atom None c q = cc
    numbers-atom (Some ss) c q = atom _ c q tt

    of : (d : Dom) → is_atom_dom d ≡ true → (c : Domain) → domain_of d env ≡ Some c → IsAtom c
    of bool_dom a c q = atom _ c q tt
    of (int_dom rs es) a c q = numbers-atom (spans_of rs (meanings es env)) c q
    of (name_dom t) a c q = named-atom env.positions t (type_entry env.types t) c q
    of _ a c q = cc

    rising : (o : Option Domain) → ((c : Domain) → o ≡ Some c → IsAtom c) → members_in o ≡ Some vs → Rising order_total vs
    rising None h q = cc
    rising (Some c) h q = sorted-of vs (ap (λ l. rises itself (list_or_none l)) (sym q) ∙ (atom-listed c (h c refl)).sorted)

-- ---- over the domain of an atom

-- What a list of values is.
list-one : (o p : Option (List Value)) → option_map list_value o ≡ option_map list_value p → o ≡ p
list-one o p q = sym (back o) ∙ ap (option_map items_of) q ∙ back p
  where
    back : (o : Option (List Value)) → option_map items_of (option_map list_value o) ≡ o
    back None = refl
    back (Some xs) = ap Some (to_list-of_list xs)

module _ (y z w x : Text) (d : Dom) (e : Ex) (gs : Gens) (env : Env) (yw : same_text y w ≡ false) (xw : same_text x w ≡ false)
    (zy : same_text z y ≡ false) (ye : Unused y (comp_ex e gs)) (we : Unused w (comp_ex e gs)) (yd : UnusedDom y d) (wd : UnusedDom w d)
    (apart : NamesAre (λ a. true) (λ a. not (same_text x a || same_text w a)) (comp_ex e gs)) where
  -- The items at a value of x.
  abbrev At : Value → Option (List Value)
  At v = items_under gs (behind x v env) (λ here. option_map (λ t. t ∷ []) (meaning e here))

  -- The env at a value of w and an item.
  abbrev Here : Value → Value → Env
  Here v u = behind y u (behind w v env)

  -- The domain doesn't change.
  same-domain : (v u : Value) → domain_of d (Here v u) ≡ domain_of d env
  same-domain v u =
      domain-agree env.positions env.types env.cells (but y) d ((w, v) ∷ env.vals) ((y, u) ∷ (w, v) ∷ env.vals) yd
      (agree-but y u ((w, v) ∷ env.vals))
      ∙ domain-agree env.positions env.types env.cells (but w) d env.vals ((w, v) ∷ env.vals) wd (agree-but w v env.vals)

  -- A value of x, behind one of another name.
  agree-under : (n : Text) (u s : Value) (vals : Names Value) → AgreeOn (but n) ((x, s) ∷ vals) ((x, s) ∷ (n, u) ∷ vals)
  agree-under n u s vals a q = ap (λ o. if same_text x a then Some s else o) (agree-but n u vals a q)

  -- The items there.
  same-list : (v s : Value) → meaning (comp_ex e gs) (behind x s (behind w v env)) ≡ meaning (comp_ex e gs) (behind x s env)
  same-list v s =
      meaning-agree env.positions env.types env.cells (but w) (comp_ex e gs) ((x, s) ∷ env.vals) ((x, s) ∷ (w, v) ∷ env.vals) we
      (agree-under w v s env.vals)

  same-items : (v u s : Value) → items_under gs (behind x s (Here v u)) (λ here. option_map (λ t. t ∷ []) (meaning e here)) ≡ At s
  same-items v u s = list-one _ _
      (meaning-agree env.positions env.types env.cells (but y) (comp_ex e gs) ((x, s) ∷ (w, v) ∷ env.vals)
      ((x, s) ∷ (y, u) ∷ (w, v) ∷ env.vals) ye (agree-under y u s ((w, v) ∷ env.vals)) ∙ same-list v s)

  -- ---- with w in the place of x

  abbrev Two : Text → Bool
  Two a = same_text x a || same_text w a

  has-x : IsTrue (Two x)
  has-x = ap (λ b. b || same_text w x) (same_text-itself x)

  has-w : IsTrue (Two w)
  has-w = ap (λ b. same_text x w || b) (same_text-itself w) ∙ or-yes (same_text x w)

  put-means : (v : Value) → meaning (set_at w x e gs) (behind w v env) ≡ value_of_node (word Fun.ToSet) (option_map list_value (At v) ∷ [])
  put-means v = ap (λ o. value_of_node (word Fun.ToSet) (o ∷ []))
      (meaning-substituted env.positions env.types env.cells Two x (name_ex w) has-x has-w v (comp_ex e gs) ((w, v) ∷ env.vals) apart
      (look-itself w v env.vals) ∙ same-list v v)

  put-met : (v : Value) → MeetsGens gs (behind x v env) (λ here. Meets e here) → Meets (set_at w x e gs) (behind w v env)
  put-met v m = (
    meets-put env.positions env.types env.cells Two x (name_ex w) has-x has-w (comp_ex e gs) ((x, v) ∷ (w, v) ∷ env.vals)
        ((w, v) ∷ env.vals) apart
        (put-value env.positions env.types env.cells Two x (name_ex w) has-x has-w v ((w, v) ∷ env.vals) (look-itself w v env.vals), tt)
        (meets-agree env.positions env.types env.cells (but w) (comp_ex e gs) ((x, v) ∷ env.vals) ((x, v) ∷ (w, v) ∷ env.vals) we
        (agree-under w v v env.vals) m),
    tt,
  )

  module _ (vs : List Value) (q : members_in (domain_of d env) ≡ Some vs) where
    -- The members, at a value and an item.
    members-here : (v u : Value) → members_in (domain_of d (Here v u)) ≡ Some vs
    members-here v u = ap members_in (same-domain v u) ∙ q

    module _ (there : Each vs (λ v. At v ≡ Some (list_or_none (At v)))) where
      abbrev f : Value → List Value
      f v = list_or_none (At v)

      -- The items before a value.
      abbrev Before : Value → List Value
      Before v = all_of f (filter (λ s. below s v) vs)

      items-mean : (v u : Value) → meaning (items_before w x d e gs) (Here v u) ≡ Some (list_value (Before v))
      items-mean v u =
          ap (λ o. option_map list_value (and_then o (λ ts. collect ts Test))) (members-here v u)
          ∙ ap (option_map list_value) (collect-where (λ s. below s v) vs Test At tested
          ∙ collect-is (filter (λ s. below s v) vs) At f (each-filtered (λ s. below s v) vs _ there))
        where
          Test : Value → Option (List Value)
          Test s = where_true (meaning (ex2 true Op2.Lt (name_ex x) (name_ex w)) (behind x s (Here v u)))
              (λ k. items_under gs (behind x s (Here v u)) (λ here. option_map (λ t. t ∷ []) (meaning e here)))

          value-of-w : (s : Value) → meaning (name_ex w) (behind x s (Here v u)) ≡ Some v
          value-of-w s =
              ap (λ b. if b then Some s else look ((y, u) ∷ (w, v) ∷ env.vals) w) xw
              ∙ ap (λ b. if b then Some u else look ((w, v) ∷ env.vals) w) yw ∙ look-itself w v env.vals

          tested : (s : Value) → Test s ≡ where_true (Some (truth (below s v))) (λ k. At s)
          tested s = where-same _ _ _ _
              (binary-means (behind x s (Here v u)) true Op2.Lt (name_ex x) (name_ex w) s v (name-behind x s (Here v u)) (value-of-w s))
              (same-items v u s)

      -- That an item is new.
      new-means : (v u : Value) → meaning (is_new y z w x d e gs) (Here v u) ≡ Some (truth (not (false || holds (Before v) u)))
      new-means v u =
          all-over z (items_before w x d e gs) (ex1 true Op1.Not (ex2 true Op2.Eq (name_ex z) (name_ex y))) (Here v u) (λ t. not (same t u))
          (λ t. not-means (behind z t (Here v u)) (ex2 true Op2.Eq (name_ex z) (name_ex y)) (same t u)
          (binary-means (behind z t (Here v u)) true Op2.Eq (name_ex z) (name_ex y) t u (name-behind z t (Here v u)) (value-of-y t)))
          (list_value (Before v)) (items-mean v u)
          ∙ ap (λ l. Some (truth (list_all (λ t. not (same t u)) l))) (to_list-of_list (Before v))
          ∙ ap (λ b. Some (truth b)) (none-held (Before v) u)
        where
          value-of-y : (t : Value) → meaning (name_ex y) (behind z t (Here v u)) ≡ Some u
          value-of-y t = ap (λ b. if b then Some t else look ((y, u) ∷ (w, v) ∷ env.vals) y) zy ∙ look-itself y u ((w, v) ∷ env.vals)

      -- What stands behind a value of w.
      abbrev Offered : Value → Option (List Value)
      Offered v = items_listed (those y (set_at w x e gs) (cond (is_new y z w x d e gs) no_gens)) (behind w v env)

      offered-is : (v : Value) → At v ≡ Some (f v) → Offered v ≡ Some (new_of f (λ u. false) vs v)
      offered-is v t =
          tested-listed y (set_at w x e gs) (is_new y z w x d e gs) (behind w v env) (set_of (f v))
          (λ u. not (false || holds (Before v) u))
          (put-means v ∙ ap (λ o. value_of_node (word Fun.ToSet) (option_map list_value o ∷ [])) t
          ∙ ap (λ l. Some (set_of l)) (to_list-of_list (f v))) (new-means v)
          ∙ ap (λ l. Some (filter (λ u. not (false || holds (Before v) u)) l)) (to_list-of_list (sorted_once (f v)))

      pub over-lists : Rising order_total vs →
          Lists (set_of_items e (over (name_pat x) d gs))
          (items_over y z w x d e gs ∷ []) env
      over-lists r = counted-same _ _ (sorted_once (all_of f vs)) (append_all (map (new_of f (λ u. false) vs) vs))
          (ap (λ o. option_map items_of (value_of_node (word Fun.ToSet) (option_map list_value o ∷ [])))
          (ap (λ o. and_then o (λ ts. collect ts At)) q ∙ collect-is vs At f there)
          ∙ ap (λ l. Some (items_of (set_of l))) (to_list-of_list (all_of f vs))
          ∙ ap Some (to_list-of_list (sorted_once (all_of f vs))))
          (alone-listed _ ∙ ap (λ o. and_then o (λ ts. collect ts Offered)) q
          ∙ collect-is vs Offered (new_of f (λ u. false) vs) (each-map vs _ _ offered-is there))
          (λ t. count-sorted_once (all_of f vs) t ∙ sym (once f (λ u. false) vs r t))

    -- Structures.
    module _ (md : MeetsDom d env) (ms : Each vs (λ v. MeetsGens gs (behind x v env) (λ here. Meets e here))) where
      dom-met : (v u : Value) → MeetsDom d (Here v u)
      dom-met v u =
          meets-agree-dom env.positions env.types env.cells (but y) d ((w, v) ∷ env.vals) ((y, u) ∷ (w, v) ∷ env.vals) yd
          (agree-but y u ((w, v) ∷ env.vals))
          (meets-agree-dom env.positions env.types env.cells (but w) d env.vals ((w, v) ∷ env.vals) wd (agree-but w v env.vals) md)

      again-met : (v u s : Value) → MeetsGens gs (behind x s env) (λ here. Meets e here) →
          MeetsGens gs (behind x s (Here v u)) (λ here. Meets e here)
      again-met v u s m =
          meets-agree env.positions env.types env.cells (but y) (comp_ex e gs) ((x, s) ∷ (w, v) ∷ env.vals)
          ((x, s) ∷ (y, u) ∷ (w, v) ∷ env.vals) ye (agree-under y u s ((w, v) ∷ env.vals))
          (meets-agree env.positions env.types env.cells (but w) (comp_ex e gs) ((x, s) ∷ env.vals) ((x, s) ∷ (w, v) ∷ env.vals) we
          (agree-under w v s env.vals) m)

      before-met : (v u : Value) → Meets (items_before w x d e gs) (Here v u)
      before-met v u = (
        dom-met v u,
        subst (λ o. EachOf o (λ s. MeetsGens (cond (ex2 true Op2.Lt (name_ex x) (name_ex w)) gs) (behind x s (Here v u))
            (λ here. Meets e here))) (sym (members-here v u)) (each-map vs _ _ (λ s m. ((tt, (tt, tt)), λ k. again-met v u s m)) ms),
      )

      new-met : (v u : Value) → Meets (is_new y z w x d e gs) (Here v u)
      new-met v u = (
        (before-met v u, each-in-any (meaning (items_before w x d e gs) (Here v u)) _ (λ t. (((tt, (tt, tt)), tt)))),
        tt,
      )

      pub over-met : Meets (laid_out (items_over y z w x d e gs)) env
      over-met = (
        md,
        subst (λ o. EachOf o (λ v. MeetsGens (from (name_pat y) (set_at w x e gs) (cond (is_new y z w x d e gs) no_gens)) (behind w v env)
            (λ here. Meets (name_ex y) here))) (sym q) (each-map vs _ _
            (λ v m. (put-met v m, each-in-any (meaning (set_at w x e gs) (behind w v env)) _ (λ u. (new-met v u, λ k. tt)))) ms),
      )
