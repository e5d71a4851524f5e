-- What the own conditions of operators are built of: what operators, words on lists, and comprehensions over what is there keep, conditions
-- have.
use Rattle.std.proofs.Common.{◌≡◌, refl, Bool, true, false, if◌then◌else◌, List, [], ◌∷◌, ◌++◌, ℤ, pos, Option, Some, None}
use Rattle.ess_semantics.specs.declared.words.Op2.{Op2}
use Rattle.ess_semantics.specs.declared.words.Fun.{Fun}
use Rattle.ess_semantics.specs.Values.{Text}
use Rattle.ess_semantics.specs.Names.{Names}
use Rattle.ess_semantics.specs.Constants.{operand_count}
use Rattle.ess_semantics.specs.Trees.{Step, by_value, to_component, to_field, Op, binary, word, index, tuple_literal, function_literal, partition_literal, matrix_literal, both_ends, name_pat, Repr, Ex, Exs, number_ex, truth_ex, name_ex, node_ex, matrix_ex, comp_ex, seen_ex, no_exs, more_exs, Gens, no_gens, over, from, Dom, bool_dom, int_dom, name_dom, matrix_dom, more_doms, ex2, fun1}
use Rattle.ess_semantics.specs.ExpressionJudgements.{forgets_order}
use Rattle.ess_semantics.proofs.Tests.{and-left, and-right, and-both}
use Rattle.ess_guard_laws.specs.Origins.{Origin, is_number, is_sure}
use Rattle.ess_guard_laws.specs.IndexDomains.{item_dom, dom_behind, dom_followed, first_index, are_plain_bounds, plain_axis, index_dom}
use Rattle.ess_guard_laws.specs.Conditions.{conds, chained, all_of, given_that, unless, nil_ex, as_number, is_not_zero, quotient_conditions, is_above_zero, power_conditions, has_items, has_item, some_item, is_argument, image_conditions, party_conditions, agree, have_other_arguments, agree_all, function_conditions, have_members, are_disjoint, is_single_set, partition_conditions, has_size, matrix_conditions, members_of, in_dom, at_step, index_conditions, path_conditions, own}
use Rattle.ess_given_laws.specs.Given.{is_fixed_dom, are_fixed_doms}

-- ---- several expressions

module _ (Q : Ex → Type 0) where
  -- Each operand has it.
  abbrev pub EachHas : Exs → Type 0
  EachHas no_exs = Unit {0}
  EachHas (more_exs e es) = Q e × EachHas es

  -- Each of a list has it.
  abbrev pub ListHas : List Ex → Type 0
  ListHas [] = Unit {0}
  ListHas (c ∷ cs) = Q c × ListHas cs

  -- One list behind the other.
  pub has-append : (xs ys : List Ex) → ListHas xs → ListHas ys → ListHas (xs ++ ys)
  has-append [] ys h k = k
  has-append (c ∷ xs) ys h k = (h.0, has-append xs ys h.1 k)

-- ---- what is asked

-- Q is a property of expressions where order counts, R one where it is forgotten, D one of domains. What the domain of a view says is that
-- it is fixed over t.
pub record Builds (t : Text → Bool) (Q R : Ex → Type 0) (D : Dom → Type 0) : Type 0 where
  pub loosen : (e : Ex) → Q e → R e
  pub number : (z : ℤ) → Q (number_ex z)
  pub truth : (b : Bool) → Q (truth_ex b)
  pub node : (b : Bool) (op : Op) (es : Exs) → EachHas Q es → Q (node_ex b op es)
  pub worded : (b : Bool) (f : Fun) (e : Ex) → forgets_order (word f) ≡ true → R e → Q (fun1 b f e)
  pub counted : (x : Text) (d : Dom) → D d → R (comp_ex (number_ex (pos 1)) (over (name_pat x) d no_gens))
  pub named : (x : Text) (d : Dom) → D d → R (comp_ex (name_ex x) (over (name_pat x) d no_gens))
  pub truths : (e : Ex) (gs : Gens) → R (comp_ex e gs) → R (comp_ex (truth_ex true) gs)
  pub numbers : (e : Ex) (gs : Gens) → R (comp_ex e gs) → R (comp_ex (number_ex (pos 1)) gs)
  pub drawn : (x : Text) (s : Ex) → R s → R (comp_ex (truth_ex true) (from (name_pat x) s no_gens))
  pub disjoint : (x y : Text) (ss : Exs) → EachHas Q ss →
      R (comp_ex (name_ex x) (from (name_pat y) (node_ex false matrix_literal ss) (from (name_pat x) (name_ex y) no_gens)))
  pub under : (b : Ex) (cs : List Ex) → ListHas Q cs → Q b → R (comp_ex b (conds cs))
  pub items : (es : Exs) → Q (node_ex false tuple_literal es) → EachHas Q es
  pub axis : (es : Exs) (d : Dom) → Q (matrix_ex es d) → D d
  pub seen : (r : Repr) (d : Dom) (ns : List Text) (js : Exs) → Q (seen_ex r d ns js) → is_fixed_dom t d ≡ true
  pub indexed : (qs : List Step) (m : Ex) (is : Exs) → Q (node_ex false (index qs) (more_exs m is)) → Q m
  pub into : (d : Dom) → is_fixed_dom t d ≡ true → D d
  pub ends : (a b : Ex) → D (int_dom (both_ends ∷ []) (more_exs a (more_exs b no_exs))) → Q a × Q b

module _ (t : Text → Bool) (Q R : Ex → Type 0) (D : Dom → Type 0) (B : Builds t Q R D) where
  abbrev L : List Ex → Type 0
  L cs = ListHas Q cs

  two : (b : Bool) (o : Op2) (a c : Ex) → Q a → Q c → Q (ex2 b o a c)
  two b o a c h k = B.node b (binary o) (more_exs a (more_exs c no_exs)) (h, (k, tt))

  unless-has : (c : Bool) (e : Ex) → Q e → L (unless c e)
  unless-has true e h = tt
  unless-has false e h = (h, tt)

  -- ---- conditions as generators

  -- A Boolean under conditions.
  pub chained-has : (cs : List Ex) (b : Ex) → L cs → Q b → Q (chained cs b)
  chained-has [] b h k = k
  chained-has (c ∷ cs) b h k = B.worded true Fun.Or (comp_ex b (conds (c ∷ cs))) refl (B.under b (c ∷ cs) h k)

  -- All of them.
  pub all-has : (cs : List Ex) → L cs → Q (all_of cs)
  all-has [] h = B.truth true
  all-has (c ∷ []) h = h.0
  all-has (c ∷ d ∷ cs) h = chained-has (c ∷ []) (all_of (d ∷ cs)) (h.0, tt) (all-has (d ∷ cs) h.1)

  -- Where another one holds.
  pub given-has : (b : Ex) (cs : List Ex) → Q b → L cs → L (given_that b cs)
  given-has b [] h k = tt
  given-has b (c ∷ cs) h k = (two true Op2.Implies b (all_of (c ∷ cs)) h (all-has (c ∷ cs) k), tt)

  -- ---- numbers

  number-has : (k : Names Origin) (b : Ex) → Q b → Q (as_number k b)
  number-has k b h = go (is_number k b)
    where
      go : (c : Bool) → Q (if c then b else ex2 false Op2.Plus b nil_ex)
      go true = h
      go false = two false Op2.Plus b nil_ex h (B.number (pos 0))

  quotient-has : (k : Names Origin) (b : Ex) → Q b → L (quotient_conditions k b)
  quotient-has k b h = unless-has (is_not_zero b) (ex2 true Op2.Ne (as_number k b) nil_ex)
      (two true Op2.Ne (as_number k b) nil_ex (number-has k b h) (B.number (pos 0)))

  power-has : (k : Names Origin) (a b : Ex) → Q a → Q b → L (power_conditions k a b)
  power-has k a b h j = go (is_above_zero b)
    where
      other : Ex
      other = ex2 true Op2.Or (ex2 true Op2.Ne (as_number k b) nil_ex) (ex2 true Op2.Ne (as_number k a) nil_ex)

      other-has : Q other
      other-has = two true Op2.Or (ex2 true Op2.Ne (as_number k b) nil_ex) (ex2 true Op2.Ne (as_number k a) nil_ex)
          (two true Op2.Ne (as_number k b) nil_ex (number-has k b j) (B.number (pos 0)))
          (two true Op2.Ne (as_number k a) nil_ex (number-has k a h) (B.number (pos 0)))

      go : (c : Bool) → L (if c then [] else ex2 true Op2.Ge (as_number k b) nil_ex ∷ unless (is_not_zero a)
          (ex2 true Op2.Or (ex2 true Op2.Ne (as_number k b) nil_ex) (ex2 true Op2.Ne (as_number k a) nil_ex)))
      go true = tt
      go false = (two true Op2.Ge (as_number k b) nil_ex (number-has k b j) (B.number (pos 0)), unless-has (is_not_zero a) other other-has)

  -- ---- containers

  item-has : (x : Text) (s : Ex) → R s → Q (has_item x s)
  item-has x (comp_ex e gs) h = B.worded true Fun.Or (comp_ex (truth_ex true) gs) refl (B.truths e gs h)
  item-has x s h = B.worded true Fun.Or (comp_ex (truth_ex true) (from (name_pat x) s no_gens)) refl (B.drawn x s h)

  some-has : (x : Text) (s : Ex) → R s → L (some_item x s)
  some-has x s h = unless-has (has_items s) (has_item x s) (item-has x s h)

  image-has : (k : Names Origin) (f a : Ex) → Q f → Q a → L (image_conditions k f a)
  image-has k f a h j = unless-has (is_argument k f a) (ex2 true Op2.Member a (fun1 false Fun.Defined f))
      (two true Op2.Member a (fun1 false Fun.Defined f) j (B.node false (word Fun.Defined) (more_exs f no_exs) (h, tt)))

  party-has : (a p : Ex) → Q a → Q p → L (party_conditions a p)
  party-has a p h j = (
    two true Op2.Member a (fun1 false Fun.Participants p) h
        (B.node false (word Fun.Participants) (more_exs p no_exs) (j, tt)),
    tt,
  )

  -- ---- literals

  agree-has : (p q : Ex) → Q p → Q q → Q (agree p q)
  agree-has (node_ex false tuple_literal (more_exs a (more_exs b no_exs)))
      (node_ex false tuple_literal (more_exs c (more_exs d no_exs))) h j =
      let i = B.items (more_exs a (more_exs b no_exs)) h in let k = B.items (more_exs c (more_exs d no_exs)) j in
      two true Op2.Implies (ex2 true Op2.Eq a c) (ex2 true Op2.Eq b d) (two true Op2.Eq a c i.0 k.0) (two true Op2.Eq b d i.1.0 k.1.0)
  agree-has p q h j = B.truth true

  agree-all-has : (p : Ex) (qs : Exs) → Q p → EachHas Q qs → L (agree_all p qs)
  agree-all-has p no_exs h k = tt
  agree-all-has p (more_exs q qs) h k =
      has-append Q (unless (have_other_arguments p q) (agree p q)) (agree_all p qs)
      (unless-has (have_other_arguments p q) (agree p q) (agree-has p q h k.0)) (agree-all-has p qs h k.1)

  function-has : (ps : Exs) → EachHas Q ps → L (function_conditions ps)
  function-has no_exs h = tt
  function-has (more_exs p ps) h =
      has-append Q (agree_all p ps) (function_conditions ps) (agree-all-has p ps h.0 h.1) (function-has ps h.1)

  members-have : (x : Text) (ss : Exs) → EachHas Q ss → L (have_members x ss)
  members-have x no_exs h = tt
  members-have x (more_exs s ss) h =
      has-append Q (some_item x s) (have_members x ss) (some-has x s (B.loosen s h.0)) (members-have x ss h.1)

  partition-has : (x y : Text) (ss : Exs) → EachHas Q ss → L (partition_conditions x y ss)
  partition-has x y ss h = has-append Q (have_members x ss) (unless (is_single_set ss) (are_disjoint x y ss)) (members-have x ss h)
      (unless-has (is_single_set ss) (are_disjoint x y ss) (B.worded true Fun.AllDiff _ refl (B.disjoint x y ss h)))

  -- That there are as many indices as items.
  pub matrix-has : (x : Text) (es : Exs) (d : Dom) → D d → L (matrix_conditions x es d)
  matrix-has x es d h = let c = comp_ex (number_ex (pos 1)) (over (name_pat x) d no_gens) in
      unless-has (has_size d (operand_count es)) (ex2 true Op2.Eq (fun1 false Fun.Sum c) (number_ex (pos (operand_count es))))
      (two true Op2.Eq (fun1 false Fun.Sum c) (number_ex (pos (operand_count es))) (B.worded false Fun.Sum c refl (B.counted x d h))
      (B.number (pos (operand_count es))))

  -- ---- indices

  -- An index domain: both ends of a range, else the domain.
  abbrev Axis : Dom → Type 0
  Axis (int_dom (both_ends ∷ []) (more_exs a (more_exs b no_exs))) = Q a × Q b
  Axis d = D d

  abbrev AxisSome : Option Dom → Type 0
  AxisSome None = Unit {0}
  AxisSome (Some d) = Axis d

  axis-of : (d : Dom) → D d → Axis d
  axis-of (int_dom (both_ends ∷ []) (more_exs a (more_exs b no_exs))) h = B.ends a b h
  axis-of d h = h

  in-has : (x : Text) (i : Ex) (d : Dom) → Q i → Axis d → Q (in_dom x i d)
  in-has x i (int_dom (both_ends ∷ []) (more_exs a (more_exs b no_exs))) h k =
      two true Op2.And (ex2 true Op2.Le (as_number [] a) i) (ex2 true Op2.Le i (as_number [] b))
      (two true Op2.Le (as_number [] a) i (number-has [] a k.0) h) (two true Op2.Le i (as_number [] b) h (number-has [] b k.1))
  in-has x i d h k = two true Op2.Member i (members_of x d) h (B.worded false Fun.ToSet _ refl (B.named x d k))

  abbrev FixedSome : Option Dom → Type 0
  FixedSome None = Unit {0}
  FixedSome (Some d) = is_fixed_dom t d ≡ true

  item-fixed : (o : Option Dom) → FixedSome o → FixedSome (item_dom o)
  item-fixed (Some (matrix_dom (more_doms i (more_doms j is)) d)) h = and-both (are_fixed_doms t (more_doms j is)) (is_fixed_dom t d)
      (and-right (is_fixed_dom t i) (are_fixed_doms t (more_doms j is))
      (and-left (are_fixed_doms t (more_doms i (more_doms j is))) (is_fixed_dom t d) h))
      (and-right (are_fixed_doms t (more_doms i (more_doms j is))) (is_fixed_dom t d) h)
  item-fixed _ h = tt

  behind-fixed : (o : Option Dom) (qs : List Step) (is : Exs) → FixedSome o → FixedSome (dom_behind o qs is)
  behind-fixed o [] no_exs h = h
  behind-fixed o (by_value ∷ qs) (more_exs i is) h = behind-fixed (item_dom o) qs is (item-fixed o h)
  behind-fixed o _ _ h = tt

  followed-fixed : (m : Ex) → Q m → FixedSome (dom_followed m)
  followed-fixed (seen_ex r d ns js) h = B.seen r d ns js h
  followed-fixed (node_ex false (index qs) (more_exs m is)) h = behind-fixed (dom_followed m) qs is (followed-fixed m (B.indexed qs m is h))
  followed-fixed _ h = tt

  first-fixed : (o : Option Dom) → FixedSome o → FixedSome (first_index o)
  first-fixed (Some (matrix_dom (more_doms i is) d)) h = and-left (is_fixed_dom t i) (are_fixed_doms t is)
      (and-left (are_fixed_doms t (more_doms i is)) (is_fixed_dom t d) h)
  first-fixed _ h = tt

  plain-has : (o : Option Dom) → FixedSome o → AxisSome (plain_axis o)
  plain-has (Some bool_dom) h = B.into bool_dom h
  plain-has (Some (int_dom rs es)) h = go (are_plain_bounds es)
    where
      go : (c : Bool) → AxisSome (if c then Some (int_dom rs es) else None)
      go true = axis-of (int_dom rs es) (B.into (int_dom rs es) h)
      go false = tt
  plain-has (Some (name_dom a)) h = B.into (name_dom a) h
  plain-has _ h = tt

  index-has : (m : Ex) → Q m → AxisSome (index_dom m)
  index-has (node_ex false matrix_literal es) h = (B.number (pos 1), B.number (pos (operand_count es)))
  index-has (matrix_ex es d) h = axis-of d (B.axis es d h)
  index-has (comp_ex e gs) h = (B.number (pos 1), B.worded false Fun.Sum _ refl (B.numbers e gs (B.loosen (comp_ex e gs) h)))
  index-has m h = plain-has (first_index (dom_followed m)) (first-fixed (dom_followed m) (followed-fixed m h))

  step-has : (q : Step) (m : Ex) (is : Exs) → Q m → EachHas Q is → Q (at_step q m is)
  step-has q m is h k = B.node false (index (q ∷ [])) (more_exs m is) (h, k)

  at-index : (k : Names Origin) (x : Text) (o : Option Dom) (m i : Ex) → AxisSome o → Q m → Q i → L (index_conditions k x o m i)
  at-index k x (Some d) m i a h j = unless-has (is_sure k i d) (in_dom x i d) (in-has x i d j a)
  at-index k x None m i a h j = let s = at_step by_value m (more_exs i no_exs) in
      let r = step-has by_value m (more_exs i no_exs) h (j, tt) in (two true Op2.Eq s s r r, tt)

  path-has : (k : Names Origin) (x : Text) (m : Ex) (qs : List Step) (is : Exs) → Q m → EachHas Q is → L (path_conditions k x m qs is)
  path-has k x m [] is h j = tt
  path-has k x m (by_value ∷ qs) (more_exs i is) h j =
      has-append Q (index_conditions k x (index_dom m) m i) (path_conditions k x (at_step by_value m (more_exs i no_exs)) qs is)
      (at-index k x (index_dom m) m i (index-has m h) h j.0)
      (path-has k x (at_step by_value m (more_exs i no_exs)) qs is (step-has by_value m (more_exs i no_exs) h (j.0, tt)) j.1)
  path-has k x m (by_value ∷ qs) no_exs h j = tt
  path-has k x m (to_component c ∷ qs) is h j =
      path-has k x (at_step (to_component c) m no_exs) qs is (step-has (to_component c) m no_exs h tt) j
  path-has k x m (to_field a ∷ qs) is h j = path-has k x (at_step (to_field a) m no_exs) qs is (step-has (to_field a) m no_exs h tt) j

  -- ---- all operators

  -- Operands, in places where order is forgotten or counts.
  abbrev pub Operands : Bool → Exs → Type 0
  Operands true es = EachHas R es
  Operands false es = EachHas Q es

  -- The own conditions of an operator.
  pub own-has : (k : Names Origin) (x y : Text) (op : Op) (es : Exs) → Operands (forgets_order op) es → L (own k x y op es)
  own-has k x y (binary Op2.Div) (more_exs a (more_exs b no_exs)) h = quotient-has k b h.1.0
  own-has k x y (binary Op2.Mod) (more_exs a (more_exs b no_exs)) h = quotient-has k b h.1.0
  own-has k x y (binary Op2.Pow) (more_exs a (more_exs b no_exs)) h = power-has k a b h.0 h.1.0
  own-has k x y (word Fun.Min) (more_exs s no_exs) h = some-has x s h.0
  own-has k x y (word Fun.Max) (more_exs s no_exs) h = some-has x s h.0
  own-has k x y (word Fun.Image) (more_exs f (more_exs a no_exs)) h = image-has k f a h.0 h.1.0
  own-has k x y (word Fun.Party) (more_exs a (more_exs p no_exs)) h = party-has a p h.0 h.1.0
  own-has k x y function_literal es h = function-has es h
  own-has k x y partition_literal es h = partition-has x y es h
  own-has k x y (index qs) (more_exs m is) h = path-has k x m qs is h.0 h.1
  own-has k x y op es h = tt
