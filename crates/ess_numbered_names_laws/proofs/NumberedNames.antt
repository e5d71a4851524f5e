-- The rules of comprehensions over sources whose items are counted bring no names but those that they take.
use Rattle.std.proofs.Common.{◌≡◌, subst, ℕ, ◌+◌, ◌≤◌, Bool, true, false, ◌&&◌, if◌then◌else◌, [], ◌∷◌, Option, Some, None, option_map, arith, is_some}
use Rattle.ess_semantics.specs.declared.words.Op2.{Op2}
use Rattle.ess_semantics.specs.Lists.{and_then, or_else, or_default}
use Rattle.ess_semantics.specs.Values.{Text, a_matrix}
use Rattle.ess_semantics.specs.Names.{Names}
use Rattle.ess_semantics.specs.Trees.{by_value, index, name_pat, Ex, node_ex, comp_ex, no_exs, more_exs, Gens, no_gens, from, cond, Dom, bool_dom, ex2}
use Rattle.ess_semantics.specs.Types.{Ty, compound2}
use Rattle.ess_semantics.specs.Typing.{type_of}
use Rattle.ess_semantics.specs.NamesAt.{names_behind}
use Rattle.ess_semantics.specs.Contexts.{In, fill}
use Rattle.ess_rules_laws.specs.FoldRules.{is_laid_open}
use Rattle.ess_rules_laws.specs.MatrixRules.{both_matrices}
use Rattle.ess_refine_laws.specs.AllRules.{Supply}
use Rattle.ess_refine_laws.specs.IndexedLists.{of_matrix}
use Rattle.ess_ordered_laws.specs.ToldAxes.{told_axis}
use Rattle.ess_numbered_laws.specs.MostItems.{most_items}
use Rattle.ess_numbered_laws.specs.CountedSources.{is_counted, items_counted, is_number_of, numbers_of, numbered_items, numbered_term, numbered_source, numbered_behind, within_an_item, counted_list, numbered_side, sees_order, within_a_pair}
use Rattle.ess_numbered_laws.specs.EqualByNumber.{at_each_number, items_compared, equal_as, other_side, equal_counted, equal_by_number}
use Rattle.ess_numbered_laws.specs.OrderByNumber.{equal_before, lower_list, ordered_lists, with_items, counted_operand, order_by_number}
use Rattle.ess_numbered_laws.specs.NumberRules.{NumberRule, equality_of_lists, sign_between_lists, item_of_a_list, number_rewrite, side_of_a_pair, lists_of_what_is_picked}
use Rattle.conjure_model_laws.specs.ToldApart.{reserved}
use Rattle.ess_chain_names_laws.specs.NamesHave.{NamesHave, GensNamesHave, DomNamesHave}
use Rattle.ess_chain_names_laws.specs.Steps.{supply_at}
use Rattle.ess_chain_names_laws.specs.SparedNames.{Spares}
use Rattle.ess_chain_names_laws.proofs.NamesHave.{part-names, names-wider}
use Rattle.ess_chain_names_laws.proofs.NamesOfFolds.{Answers, under}
use Rattle.ess_chain_names_laws.proofs.SparedNames.{up_to, wider, given, is_before, both-false, before-none}
use Rattle.ess_ordered_names_laws.proofs.NamesOfAxes.{told-axis-has}
use Rattle.ess_ordered_names_laws.proofs.NamesOfSources.{behind-names}
use Rattle.ess_ordered_names_laws.proofs.OrderedNames.{either}
use Rattle.ess_numbered_names_laws.specs.NumberedNames.{ThreeHave, NumberRulesKeepNames}
use Rattle.ess_numbered_names_laws.proofs.NamesOfMost.{most-names}
use Rattle.ess_numbered_names_laws.proofs.ListedNames.{picked-names}

module _ (u : Text → Bool) where
  -- The other side's index domain has such names, where it is told.
  abbrev SideHas : Option (Option Dom) → Type 0
  SideHas None = Unit {0}
  SideHas (Some None) = Unit {0}
  SideHas (Some (Some d)) = DomNamesHave u d

  side-has : (b : Ex) → NamesHave u b → SideHas (other_side b)
  side-has b h = go (is_laid_open b) (told_axis b) (told-axis-has u b h)
    where
      go : (c : Bool) (o : Option Dom) → DomNamesHave u (or_default o bool_dom) → SideHas (if c then Some None else option_map Some o)
      go true o k = tt
      go false None k = tt
      go false (Some d) k = k

  module _ (s : Supply) (g : Names Ty) (t : ThreeHave u s) where
    -- ---- numbers of items

    counted-names : (a : Ex) → NamesHave u a → NamesHave u (items_counted s.other a)
    counted-names a h = ((tt, (t.other, h, tt)), tt)

    number-names : (a : Ex) → NamesHave u a → NamesHave u (is_number_of s.one s.other a)
    number-names a h = (t.one, (counted-names a h, tt))

    numbers-names : (n a : Ex) (gs : Gens) → NamesHave u n → NamesHave u a → GensNamesHave u gs →
        GensNamesHave u (numbers_of s.one s.other n a gs)
    numbers-names n a gs h k l = (t.one, (tt, (h, tt)), (number-names a k, l))

    list-names : (a : Ex) → NamesHave u a → Answers u (counted_list s g a)
    list-names (comp_ex e gs) h = under u _ (most_items s.third (comp_ex e gs))
        (most-names u s.third t.third [] (comp_ex e gs) h)
    list-names _ h = tt

    -- ---- an item of a list

    items-names : (a n : Ex) → NamesHave u a → NamesHave u n → (o : Option Ty) → Answers u (of_matrix o (numbered_items s.one s.other a n))
    items-names a n h k (Some (compound2 a_matrix i v)) = ((h, (t.one, tt)), numbers-names n a no_gens k h tt)
    items-names a n h k _ = tt

    term-names : (k : Names Ty) (a : Ex) → NamesHave u a → Answers u (numbered_term s k a)
    term-names k a h = under u (is_counted s k a) _ (go (most_items s.third a) (most-names u s.third t.third [] a h))
      where
        go : (o : Option Ex) → Answers u o → Answers u (and_then o (λ n. of_matrix (type_of a k) (numbered_items s.one s.other a n)))
        go None l = tt
        go (Some n) l = items-names a n h l (type_of a k)

    source-names : (k : Names Ty) (e : Ex) → NamesHave u e → Answers u (numbered_source s k e)
    source-names k (comp_ex e (from (name_pat y) a hs)) h = go (numbered_term s k a) (term-names k a h.1.1)
      where
        go : (o : Option Ex) → Answers u o → Answers u (option_map (λ l. comp_ex e (from (name_pat y) l hs)) o)
        go None l = tt
        go (Some l) m = (h.0, (h.1.0, m, h.1.2))
    source-names k _ h = tt

    -- A comprehension over a source by numbers.
    pub numbered-names : (a : Ex) → NamesHave u a → Answers u (numbered_behind s g a)
    numbered-names a h =
        behind-names u (λ gs. numbered_source s (names_behind gs g)) (λ gs f k. source-names (names_behind gs g) f k) a h

    within-names : (e : Ex) → NamesHave u e → Answers u (within_an_item s g e)
    within-names (node_ex b (index (by_value ∷ [])) (more_exs a (more_exs i no_exs))) h = go (numbered_behind s g a) (numbered-names a h.0)
      where
        go : (o : Option Ex) → Answers u o →
            Answers u (option_map (λ c. node_ex b (index (by_value ∷ [])) (more_exs c (more_exs i no_exs))) o)
        go None k = tt
        go (Some c) k = (k, h.1)
    within-names _ h = tt

    -- ---- a side

    side-names : (a : Ex) → NamesHave u a → Answers u (numbered_side s g a)
    side-names a h = go (is_some (most_items s.third a))
      where
        go : (b : Bool) → Answers u (if b then None else numbered_behind s g a)
        go true = tt
        go false = numbered-names a h

    pair-names : (e : Ex) → NamesHave u e → Answers u (within_a_pair s g e)
    pair-names (ex2 true o a b) h = go (sees_order o) (numbered_side s g a) (numbered_side s g b) (side-names a h.0) (side-names b h.1.0)
      where
        go : (c : Bool) (p q : Option Ex) → Answers u p → Answers u q →
            Answers u (if c then or_else (option_map (λ c. ex2 true o c b) p) (option_map (λ c. ex2 true o a c) q) else None)
        go false p q k l = tt
        go true (Some c) q k l = (k, h.1)
        go true None (Some c) k l = (h.0, (l, tt))
        go true None None k l = tt
    pair-names _ h = tt

    -- ---- comparisons

    compared-names : (o : Op2) (p q : Ty) (a b : Ex) → NamesHave u a → NamesHave u b → NamesHave u (items_compared o p q s.one a b)
    compared-names o p q a b h k = ((h, (t.one, tt)), ((k, (t.one, tt)), tt))

    each-names : (n a body : Ex) → NamesHave u n → NamesHave u a → NamesHave u body →
        NamesHave u (at_each_number s.one s.other n a body)
    each-names n a body h k l = ((l, numbers-names n a no_gens h k tt), tt)

    as-names : (o : Option Dom) (n a b : Ex) (p q : Ty) → SideHas (Some o) → NamesHave u n → NamesHave u a → NamesHave u b →
        NamesHave u (equal_as o s.one s.other n a b p q)
    as-names None n a b p q m h k l = (
      (counted-names a k, (counted-names b l, tt)),
      (each-names n a (items_compared Op2.Eq p q s.one a b) h k (compared-names Op2.Eq p q a b k l), tt),
    )
    as-names (Some d) n a b p q m h k l = (
      (
        (counted-names a k, (((tt, (t.other, m, tt)), tt), tt)),
        (((((((t.other, (t.one, tt)), (t.other, m, tt)), tt)), numbers-names n a no_gens h k tt), tt), tt),
      ),
      (each-names n a (items_compared Op2.Eq p q s.one a b) h k (compared-names Op2.Eq p q a b k l), tt),
    )

    equal-names : (a b : Ex) → NamesHave u a → NamesHave u b → Answers u (equal_counted s g a b)
    equal-names a b h k = go (counted_list s g a) (other_side b) (list-names a h) (side-has b k)
      where
        both : (o : Option Dom) (n : Ex) → SideHas (Some o) → NamesHave u n → (v w : Option Ty) →
            Answers u (both_matrices v w (equal_as o s.one s.other n a b))
        both o n m l (Some (compound2 a_matrix i p)) (Some (compound2 a_matrix j q)) = as-names o n a b p q m l h k
        both o n m l _ _ = tt

        go : (o : Option Ex) (p : Option (Option Dom)) → Answers u o → SideHas p → Answers u (and_then o
            (λ n. and_then p (λ o. both_matrices (type_of a g) (type_of b g) (equal_as o s.one s.other n a b))))
        go None p l m = tt
        go (Some n) None l m = tt
        go (Some n) (Some o) l m = both o n m l (type_of a g) (type_of b g)

    equality-names : (e : Ex) → NamesHave u e → Answers u (equal_by_number s g e)
    equality-names (ex2 true Op2.Eq a b) h =
        either u (equal_counted s g a b) (equal_counted s g b a) (equal-names a b h.0 h.1.0) (equal-names b a h.1.0 h.0)
    equality-names _ h = tt

    before-names : (n a b : Ex) (p q : Ty) → NamesHave u n → NamesHave u a → NamesHave u b →
        NamesHave u (equal_before s.one s.other n p q a b)
    before-names n a b p q h k l =
        ((((k, (t.other, tt)), ((l, (t.other, tt)), tt)), (t.other, (tt, (h, tt)), ((t.other, (t.one, tt)), tt))), tt)

    lower-names : (o : Op2) (n a b : Ex) (p q : Ty) → NamesHave u n → NamesHave u a → NamesHave u b →
        NamesHave u (lower_list o s.one s.other n a b p q)
    lower-names o n a b p q h k l = (
      (
        (
          (compared-names Op2.Lt p q a b k l, (before-names n a b p q h k l, tt)),
          numbers-names n a (cond (is_number_of s.one s.other b) no_gens) h k (number-names b l, tt),
        ),
        tt,
      ),
      (
        (
          (counted-names a k, (counted-names b l, tt)),
          (each-names n a (items_compared Op2.Eq p q s.one a b) h k (compared-names Op2.Eq p q a b k l), tt),
        ),
        tt,
      ),
    )

    lists-names : (o : Op2) (n a b : Ex) (p q : Ty) → NamesHave u n → NamesHave u a → NamesHave u b →
        Answers u (ordered_lists o s.one s.other n a b p q)
    lists-names Op2.LexLt n a b p q h k l = lower-names Op2.Lt n a b p q h k l
    lists-names Op2.LexLe n a b p q h k l = lower-names Op2.Le n a b p q h k l
    lists-names Op2.LexGt n a b p q h k l = lower-names Op2.Lt n b a q p h l k
    lists-names Op2.LexGe n a b p q h k l = lower-names Op2.Le n b a q p h l k
    lists-names _ n a b p q h k l = tt

    operand-names : (a b : Ex) → NamesHave u a → NamesHave u b → Answers u (counted_operand s g a b)
    operand-names a b h k = under u (is_laid_open a && is_laid_open b) (or_else (counted_list s g a) (counted_list s g b))
        (either u (counted_list s g a) (counted_list s g b) (list-names a h) (list-names b k))

    order-names : (e : Ex) → NamesHave u e → Answers u (order_by_number s g e)
    order-names (ex2 true o a b) h = go (counted_operand s g a b) (operand-names a b h.0 h.1.0)
      where
        items : (n : Ex) → NamesHave u n → (v w : Option Ty) → Answers u (with_items v w (ordered_lists o s.one s.other n a b))
        items n k (Some (compound2 a_matrix i p)) (Some (compound2 a_matrix j q)) = lists-names o n a b p q k h.0 h.1.0
        items n k _ _ = tt

        go : (m : Option Ex) → Answers u m → Answers u (and_then m
            (λ n. with_items (type_of a g) (type_of b g) (ordered_lists o s.one s.other n a b)))
        go None k = tt
        go (Some n) k = items n k (type_of a g) (type_of b g)
    order-names _ h = tt

    -- ---- each rule

    each-rule-names : (r : NumberRule) (e : Ex) → NamesHave u e → Answers u (number_rewrite s g r e)
    each-rule-names equality_of_lists e h = equality-names e h
    each-rule-names sign_between_lists e h = order-names e h
    each-rule-names item_of_a_list e h = within-names e h
    each-rule-names side_of_a_pair e h = pair-names e h
    each-rule-names lists_of_what_is_picked e h = picked-names u s t.one g e h

  pub rule-names : (s : Supply) (g : Names Ty) (r : NumberRule) (e f : Ex) → number_rewrite s g r e ≡ Some f → ThreeHave u s →
      NamesHave u e → NamesHave u f
  rule-names s g r e f q t h = subst (Answers u) q (each-rule-names s g t r e h)

-- ---- spared names

three-given : (u : Text → Bool) (n k m : ℕ) → n + 3 ≤ m → ThreeHave (up_to u m) (supply_at n k)
three-given u n k m l = record {
  one = given u m n (omega (arith, l));
  other = given u m (n + 1) (omega (arith, l));
  third = given u m (n + 2) (omega (arith, l));
}

spares-behind : (n k m : ℕ) (g : Names Ty) (r : NumberRule) (a b : Ex) → number_rewrite (supply_at n k) g r a ≡ Some b → n + 3 ≤ m →
    (c : In) → Spares n (fill c a) → Spares m (fill c b)
spares-behind n k m g r a b q l c s = record {
  among = up_to s.among m;
  has = part-names (up_to s.among m) a b
      (rule-names (up_to s.among m) (supply_at n k) g r a b q (three-given s.among n k m l)) c
      (names-wider s.among (up_to s.among m) (wider s.among m) (fill c a) s.has);
  spared = λ j i z. both-false (s.among (reserved j)) (is_before m (reserved j)) (s.spared j (omega (arith, l, i)) z) (before-none m j i z);
}

pub number-rules-keep-names : NumberRulesKeepNames
number-rules-keep-names = record {
  by_each_rule = λ u s g r e f q t. rule-names u s g r e f q t;
  spared = spares-behind;
}
