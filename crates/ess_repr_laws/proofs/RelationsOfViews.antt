-- What attributes without a number ask of the pairs of a relation that a view stands for.
use Rattle.std.proofs.Common.{◌≡◌, refl, sym, ap, ◌∙◌, ℕ, suc, ◌<◌, Bool, true, false, ◌&&◌, ◌||◌, not, List, [], ◌∷◌, ◌++◌, map, Some, option_map, le_refl, ◌≤◌, arith}
use Rattle.std.specs.List.{list_all}
use Rattle.ess_semantics.specs.declared.words.Key.{Key}
use Rattle.ess_semantics.specs.declared.words.Op1.{Op1}
use Rattle.ess_semantics.specs.declared.words.Op2.{Op2}
use Rattle.ess_semantics.specs.Lists.{is_some_and}
use Rattle.ess_semantics.specs.Values.{Text, Value, pair, truth, from_of, to_of, items_of}
use Rattle.ess_semantics.specs.Order.{same, same_text}
use Rattle.ess_semantics.specs.Trees.{index, to_component, tuple_literal, Ex, name_ex, node_ex, no_exs, more_exs, no_gens, over, name_pat, Dom, Doms, no_doms, more_doms, ex1, ex2}
use Rattle.ess_semantics.specs.Domains.{Attribute, Domain, Domains, no_domains, more_domains, members, member_list}
use Rattle.ess_semantics.specs.Membership.{tuple_member}
use Rattle.ess_semantics.specs.Attributes.{each_holds, head_members, related, relation_holds, set_attributes_hold, size_holds}
use Rattle.ess_semantics.specs.Operators.{as_truth, all_true, false_where_undefined, value_of_node}
use Rattle.ess_semantics.specs.Meaning.{Env, is_bool_dom, meaning}
use Rattle.ess_semantics.proofs.Connectives.{all-means, binary-means, implies-means, not-means, or-means}
use Rattle.ess_repr_laws.specs.RelationParts.{has_pair_ex, first_ex, second_ex, turned_ex, parts_same_ex, linked_ex, pair_relation_key_ex, relation_key_ex}
use Rattle.ess_repr_laws.specs.StructureParts.{or_ex}
use Rattle.ess_repr_laws.specs.StructureMeaning.{Bound, M, BoolIs, DomainIs, EachFlag, PairRelationKeyReady, RelationKeyReady}
use Rattle.ess_repr_laws.specs.ViewParts.{every_item_ex}
use Rattle.ess_repr_laws.proofs.CanonicalPlaces.{AllOf, all-of-list, all-of-map}
use Rattle.ess_repr_laws.proofs.PairsOfViews.{Pair, pair-is, flags-alike}
use Rattle.ess_repr_laws.proofs.CanonicalConversions.{is_pair_of, pairs-of-tuples}
use Rattle.ess_repr_laws.proofs.StructureKeys.{attributes-apart}
use Rattle.ess_repr_laws.proofs.StructureRows.{From, looked}
use Rattle.ess_repr_laws.proofs.ViewsOfCells.{Stands, every-item-means, members-run, settled-member}

-- The attributes of a relation are its sizes, and what each attribute without a number says.
pub relation-attributes-apart : (ks : List Attribute) (xs : Domains) (ps : List Value) (n : ℕ) (F : Key → Bool) →
    EachFlag (λ k. relation_holds k (head_members xs) ps ≡ F k) ks →
    each_holds ks (λ k z. size_holds k z n) (λ k. relation_holds k (head_members xs) ps) ≡ set_attributes_hold ks n && each_holds ks
    (λ k n. true) F
relation-attributes-apart ks xs ps n F h =
    attributes-apart ks (λ k z. size_holds k z n) (λ k. relation_holds k (head_members xs) ps)
    ∙ ap (λ b. set_attributes_hold ks n && b) (flags-alike ks (λ k. relation_holds k (head_members xs) ps) F h)

-- A relation has a pair.
pub has-pair-means : (env : Env) (e a b : Ex) (v u w : Value) → meaning e env ≡ Some v → meaning a env ≡ Some u → meaning b env ≡ Some w →
    meaning (has_pair_ex e a b) env ≡ Some (truth (related (items_of v) u w))
has-pair-means env e a b v u w h g i =
    binary-means env true Op2.Member (node_ex false tuple_literal (more_exs a (more_exs b no_exs))) e (pair u w) v
    (ap (λ z. value_of_node tuple_literal (z ∷ meaning b env ∷ [])) g ∙ ap (λ z. value_of_node tuple_literal (Some u ∷ z ∷ [])) i) h

module _ (env0 : Env) (q : ℕ → Text) (q-apart : (m l : ℕ) → l < m → same_text (q m) (q l) ≡ false) where
  abbrev N : Bound env0 q q-apart → Env
  N = M env0 q q-apart

  -- Both parts of the pair that q l is.
  first-of : (l : ℕ) (d : Dom) (x y : Domain) → BoolIs d x → (p : Value) → Pair x y p → (bs cs : Bound env0 q q-apart) →
      From env0 q q-apart (suc l) cs → meaning (first_ex q l d) (N (cs ++ ((l, p) ∷ bs))) ≡ Some (from_of p)
  first-of l d x y b p h bs cs f =
      ap (λ o. false_where_undefined (is_bool_dom d) (value_of_node (index (to_component 1 ∷ [])) (o ∷ [])))
      (looked env0 q q-apart l p bs cs f)
      ∙ ap (λ z. false_where_undefined (is_bool_dom d) (value_of_node (index (to_component 1 ∷ [])) (Some z ∷ []))) h.0
      ∙ settled-member (is_bool_dom d) x b (from_of p) h.1

  second-of : (l : ℕ) (c : Dom) (x y : Domain) → BoolIs c y → (p : Value) → Pair x y p → (bs cs : Bound env0 q q-apart) →
      From env0 q q-apart (suc l) cs → meaning (second_ex q l c) (N (cs ++ ((l, p) ∷ bs))) ≡ Some (to_of p)
  second-of l c x y b p h bs cs f =
      ap (λ o. false_where_undefined (is_bool_dom c) (value_of_node (index (to_component 2 ∷ [])) (o ∷ [])))
      (looked env0 q q-apart l p bs cs f)
      ∙ ap (λ z. false_where_undefined (is_bool_dom c) (value_of_node (index (to_component 2 ∷ [])) (Some z ∷ []))) h.0
      ∙ settled-member (is_bool_dom c) y b (to_of p) h.2

  -- What is asked is true or false.
  pub relation-key-settled : (l : ℕ) (ds : Doms) (e : Ex) (env : Env) (k : Key) →
      meaning (relation_key_ex q l ds e k) env ≡ Some (truth (as_truth (meaning (relation_key_ex q l ds e k) env)))
  relation-key-settled l no_doms e env k = refl
  relation-key-settled l (more_doms d no_doms) e env k = refl
  relation-key-settled l (more_doms d (more_doms c (more_doms b ds))) e env k = refl
  relation-key-settled l (more_doms d (more_doms c no_doms)) e env Key.Reflexive = refl
  relation-key-settled l (more_doms d (more_doms c no_doms)) e env Key.Irreflexive = refl
  relation-key-settled l (more_doms d (more_doms c no_doms)) e env Key.Symmetric = refl
  relation-key-settled l (more_doms d (more_doms c no_doms)) e env Key.AntiSymmetric = refl
  relation-key-settled l (more_doms d (more_doms c no_doms)) e env Key.ASymmetric = refl
  relation-key-settled l (more_doms d (more_doms c no_doms)) e env Key.Transitive = refl
  relation-key-settled l (more_doms d (more_doms c no_doms)) e env _ = refl

  module _ (d c : Dom) (x y : Domain) (bx : BoolIs d x) (by' : BoolIs c y) (l : ℕ) (bs : Bound env0 q q-apart) (e : Ex) (v : Value)
      (st : Stands env0 q q-apart l e v bs) (pairs : AllOf (items_of v) (Pair x y)) where
    abbrev ps : List Value
    ps = items_of v

    -- the relation has the pair turned round
    turned-means : (p : Value) → Pair x y p → meaning (turned_ex q l d c e) (N ((l, p) ∷ bs)) ≡ Some
        (truth (related ps (to_of p) (from_of p)))
    turned-means p h =
        has-pair-means (N ((l, p) ∷ bs)) e (second_ex q l c) (first_ex q l d) v (to_of p) (from_of p) (st ((l, p) ∷ []) (le_refl l, tt))
        (second-of l c x y by' p h bs [] tt) (first-of l d x y bx p h bs [] tt)

    -- both parts are the same
    same-means : (p : Value) → Pair x y p → meaning (parts_same_ex q l d c) (N ((l, p) ∷ bs)) ≡ Some (truth (same (from_of p) (to_of p)))
    same-means p h =
        binary-means (N ((l, p) ∷ bs)) true Op2.Eq (first_ex q l d) (second_ex q l c) (from_of p) (to_of p)
        (first-of l d x y bx p h bs [] tt) (second-of l c x y by' p h bs [] tt)

    -- a test of each pair
    each : (test : Ex) (f : Value → Bool) → ((p : Value) → Pair x y p → meaning test (N ((l, p) ∷ bs)) ≡ Some (truth (f p))) →
        meaning (every_item_ex q l e test) (N bs) ≡ Some (truth (list_all f ps))
    each test f h = every-item-means env0 q q-apart l e bs v test f (st [] tt)
        (all-of-map ps (Pair x y) (λ p. meaning test (N ((l, p) ∷ bs)) ≡ Some (truth (f p))) h pairs)

    -- each member with itself
    itself-means : (us : List Value) → AllOf us (λ u. option_map (λ z. z ∷ [])
        (meaning (has_pair_ex e (name_ex (q l)) (name_ex (q l))) (N ((l, u) ∷ bs))) ≡ Some (truth (related ps u u) ∷ []))
    itself-means [] = tt
    itself-means (u ∷ us) = (
      ap (option_map (λ z. z ∷ [])) (has-pair-means (N ((l, u) ∷ bs)) e (name_ex (q l)) (name_ex (q l)) v u u
          (st ((l, u) ∷ []) (le_refl l, tt)) (looked env0 q q-apart l u bs [] tt) (looked env0 q q-apart l u bs [] tt)),
      itself-means us,
    )

    all-bits : (us : List Value) → all_true (map (λ u. truth (related ps u u)) us) ≡ list_all (λ u. related ps u u) us
    all-bits [] = refl
    all-bits (u ∷ us) = ap (λ b. related ps u u && b) (all-bits us)

    -- two pairs of which the one ends where the other one begins
    linked-means : (p : Value) → Pair x y p → (r : Value) → Pair x y r →
        meaning (linked_ex q l d c e) (N ((suc l, r) ∷ (l, p) ∷ bs))
        ≡ Some (truth (not (same (to_of p) (from_of r)) || related ps (from_of p) (to_of r)))
    linked-means p h r g =
        implies-means here (ex2 true Op2.Eq (second_ex q l c) (first_ex q (suc l) d))
        (has_pair_ex e (first_ex q l d) (second_ex q (suc l) c)) (same (to_of p) (from_of r)) (related ps (from_of p) (to_of r))
        (binary-means here true Op2.Eq (second_ex q l c) (first_ex q (suc l) d) (to_of p) (from_of r)
        (second-of l c x y by' p h bs ((suc l, r) ∷ []) (le_refl (suc l), tt)) (first-of (suc l) d x y bx r g ((l, p) ∷ bs) [] tt))
        (has-pair-means here e (first_ex q l d) (second_ex q (suc l) c) v (from_of p) (to_of r)
        (st ((suc l, r) ∷ (l, p) ∷ []) (later, (le_refl l, tt))) (first-of l d x y bx p h bs ((suc l, r) ∷ []) (le_refl (suc l), tt))
        (second-of (suc l) c x y by' r g ((l, p) ∷ bs) [] tt))
      where
        here : Env
        here = N ((suc l, r) ∷ (l, p) ∷ bs)

        later : l ≤ suc l
        later = omega arith

    -- What an attribute without a number asks of the pairs.
    pub relation-key-means : (k : Key) → PairRelationKeyReady env0 q q-apart d x k →
        meaning (pair_relation_key_ex q l d c e k) (N bs) ≡ Some (truth (relation_holds k (members x) ps))
    relation-key-means Key.Reflexive h =
        all-means (N bs) (has_pair_ex e (name_ex (q l)) (name_ex (q l))) (over (name_pat (q l)) d no_gens)
        (map (λ u. truth (related ps u u)) (member_list x))
        (members-run env0 q q-apart l d no_gens bs (λ here. option_map (λ z. z ∷ [])
        (meaning (has_pair_ex e (name_ex (q l)) (name_ex (q l))) here)) (member_list x) (λ u. truth (related ps u u)) (h.1.0 bs)
        (itself-means (member_list x)))
        ∙ ap (λ b. Some (truth b)) (all-bits (member_list x)) ∙ ap (λ o. Some
        (truth (is_some_and o (λ us. list_all (λ u. related ps u u) us)))) (sym h.0)
    relation-key-means Key.Irreflexive h =
        each (ex1 true Op1.Not (parts_same_ex q l d c)) (λ p. not (same (from_of p) (to_of p)))
        (λ p g. not-means (N ((l, p) ∷ bs)) (parts_same_ex q l d c) (same (from_of p) (to_of p)) (same-means p g))
    relation-key-means Key.Symmetric h = each (turned_ex q l d c e) (λ p. related ps (to_of p) (from_of p)) turned-means
    relation-key-means Key.AntiSymmetric h =
        each (or_ex (ex1 true Op1.Not (turned_ex q l d c e)) (parts_same_ex q l d c))
        (λ p. not (related ps (to_of p) (from_of p)) || same (from_of p) (to_of p))
        (λ p g. or-means (N ((l, p) ∷ bs)) (ex1 true Op1.Not (turned_ex q l d c e)) (parts_same_ex q l d c)
        (not (related ps (to_of p) (from_of p))) (same (from_of p) (to_of p))
        (not-means (N ((l, p) ∷ bs)) (turned_ex q l d c e) (related ps (to_of p) (from_of p)) (turned-means p g)) (same-means p g))
    relation-key-means Key.ASymmetric h =
        each (ex1 true Op1.Not (turned_ex q l d c e)) (λ p. not (related ps (to_of p) (from_of p)))
        (λ p g. not-means (N ((l, p) ∷ bs)) (turned_ex q l d c e) (related ps (to_of p) (from_of p)) (turned-means p g))
    relation-key-means Key.Transitive h =
        each (every_item_ex q (suc l) e (linked_ex q l d c e)) (λ p. list_all
        (λ r. not (same (to_of p) (from_of r)) || related ps (from_of p) (to_of r)) ps)
        (λ p g. every-item-means env0 q q-apart (suc l) e ((l, p) ∷ bs) v (linked_ex q l d c e)
        (λ r. not (same (to_of p) (from_of r)) || related ps (from_of p) (to_of r)) (st ((l, p) ∷ []) (le_refl l, tt))
        (all-of-map ps (Pair x y) (λ r. meaning (linked_ex q l d c e) (N ((suc l, r) ∷ (l, p) ∷ bs)) ≡ Some
        (truth (not (same (to_of p) (from_of r)) || related ps (from_of p) (to_of r)))) (linked-means p g) pairs))
    relation-key-means _ h = refl

  -- What it asks of a relation that a view stands for, over any components.
  pub relation-key-asked : (l : ℕ) (bs : Bound env0 q q-apart) (e : Ex) (v : Value) (ds : Doms) (xs : Domains) (d : Dom) (w : Domain) →
      (DomainIs env0 q q-apart d w → Stands env0 q q-apart l e v bs) → list_all (tuple_member xs) (items_of v) ≡ true →
      (k : Key) → RelationKeyReady env0 q q-apart ds xs d w k → relation_holds k (head_members xs) (items_of v) ≡ as_truth
      (meaning (relation_key_ex q l ds e k) (N bs))
  relation-key-asked l bs e v (more_doms d (more_doms c no_doms)) (more_domains x (more_domains y no_domains)) f w st m k h =
      sym (ap as_truth (relation-key-means d c x y h.0.0 h.0.1 l bs e v (st h.1)
      (all-of-map (items_of v) (λ p. is_pair_of x y p ≡ true) (Pair x y) (pair-is x y)
      (all-of-list (items_of v) (is_pair_of x y) (pairs-of-tuples x y (items_of v) m))) k h.2))
  relation-key-asked l bs e v ds xs f w st m k h = absurd h
