-- What the test says is of the class is so.
use Rattle.std.proofs.Common.{◌≡◌, refl, sym, ap, ◌∙◌, subst, Bool, true, false, ◌&&◌, not, [], ◌∷◌, Option, Some, None, option_map}
use Rattle.std.specs.Prelude.{is_some}
use Rattle.ess_semantics.specs.declared.words.Op1.{Op1}
use Rattle.ess_semantics.specs.declared.words.Op2.{Op2}
use Rattle.ess_semantics.specs.declared.words.Fun.{Fun}
use Rattle.ess_semantics.specs.Lists.{and_then}
use Rattle.ess_semantics.specs.Values.{Text}
use Rattle.ess_semantics.specs.Names.{Names}
use Rattle.ess_semantics.specs.Trees.{both_ends, name_pat, Ex, number_ex, truth_ex, name_ex, comp_ex, no_exs, more_exs, Gens, no_gens, over, from, cond, bool_dom, int_dom, ex1, ex2, fun1}
use Rattle.ess_semantics.proofs.Tests.{and-left, and-right}
use Rattle.ess_flat_laws.specs.Flat.{as_marked, two_mark}
use Rattle.ess_seen_laws.specs.ess_bare_laws.Lean.{of_all, of_some, of_sum}
use Rattle.ess_seen_laws.specs.Seen.{Kind, scalars, sets_of, Bound, over_a_range, from_a_set}
use Rattle.ess_setwise_laws.specs.Setwise.{is_mark, mark_of_kind, members_kind, one_kind, two_kind, fold_kind, word_kind, kind_at, is_new, setwise_kind, bound_behind}
use Rattle.ess_setwise_laws.proofs.SetwiseTrees.{named, SetTree, stands, combined, Setwise, number, truth, scalar, one, two, chosen, folded, size, within, set_within, compared, Binding, at_end, over_truths, over_numbers, among, where_holds, NoneShown}
use Rattle.ess_setwise_laws.proofs.OperatorKinds.{behind, marked, marks-are, decided, one-scalar, one-op, two-scalars, two-op, SetOp, a_member, a_comparison, a_combination, set-op, no-set-first}

-- ---- tests

-- A mark that is asked for.
mark-is : (b : Bool) (o : Option Kind) → is_mark b (mark_of_kind o) ≡ true → o ≡ Some (scalars b)
mark-is true (Some (scalars true)) q = refl
mark-is false (Some (scalars false)) q = refl
mark-is true (Some (scalars false)) q = cc
mark-is false (Some (scalars true)) q = cc
mark-is true (Some (sets_of k)) q = cc
mark-is false (Some (sets_of k)) q = cc
mark-is true None q = cc
mark-is false None q = cc

members-are : (o : Option Kind) (k : Kind) → members_kind o ≡ Some k → o ≡ Some (sets_of k)
members-are None k q = cc
members-are (Some (scalars m)) k q = cc
members-are (Some (sets_of i)) k q = ap (option_map sets_of) q

new-is : (o : Option Kind) → not (is_some o) ≡ true → o ≡ None
new-is None q = refl
new-is (Some m) q = cc

-- ---- trees

module _ (names : Text → Option Kind) where
  abbrev R : Names Bound → Ex → Bool → Type 0
  R = Setwise names NoneShown

  -- A scalar of the class, or a set.
  pub data IsOf (r : Names Bound) (e : Ex) : Kind → Type 0 where
    a_scalar : {m : Bool} → R r e m → IsOf r e (scalars m)
    a_set : {k : Kind} → SetTree names NoneShown r e k → IsOf r e (sets_of k)

  as-scalar : (r : Names Bound) (e : Ex) (m : Bool) → IsOf r e (scalars m) → R r e m
  as-scalar r e m (a_scalar h) = h

  as-set : (r : Names Bound) (e : Ex) (k : Kind) → IsOf r e (sets_of k) → SetTree names NoneShown r e k
  as-set r e k (a_set h) = h

  name-is : (r : Names Bound) (a : Text) (i : Kind) → kind_at names r a ≡ Some i → IsOf r (name_ex a) i
  name-is r a (scalars m) q = a_scalar (scalar (named q))
  name-is r a (sets_of k) q = a_set (stands (named q))

  -- With the mark of the node.
  as-marked-one : (r : Names Bound) (e : Bool → Ex) (b k m : Bool) (i : Kind) → R r (e k) k → as_marked b k ≡ Some m → scalars m ≡ i →
      IsOf r (e b) i
  as-marked-one r e b k m i h q p =
      let z = marks-are b k m q in
      subst (IsOf r (e b)) p (a_scalar (subst (λ c. R r (e c) m) (sym z.0) (subst (λ c. R r (e c) c) z.1 h)))

  -- The size of a set.
  size-made : (r : Names Bound) (o : Op1) (x : Ex) (j : Kind) (k : Bool) → SetTree names NoneShown r x j →
      one_kind o (sets_of j) ≡ Some k → R r (ex1 k o x) k
  size-made r Op1.Bar x j false h q = size h
  size-made r Op1.Bar x j true h q = cc
  size-made r Op1.Not x j k h q = cc
  size-made r Op1.Minus x j k h q = cc

  one-made : (r : Names Bound) (o : Op1) (x : Ex) (i : Kind) (k : Bool) → IsOf r x i → one_kind o i ≡ Some k → R r (ex1 k o x) k
  one-made r o x (scalars m) k (a_scalar h) q = one (one-op o m k (sym (one-scalar o m) ∙ q)) h
  one-made r o x (sets_of j) k (a_set h) q = size-made r o x j k h q

  -- An operator on two scalars.
  scalars-made : (r : Names Bound) (b : Bool) (o : Op2) (x y : Ex) (m n : Bool) (i : Kind) → R r x m → R r y n →
      option_map scalars (and_then (two_mark o m n) (as_marked b)) ≡ Some i → IsOf r (ex2 b o x y) i
  scalars-made r b o x y m n i h l q =
      let p = marked (and_then (two_mark o m n) (as_marked b)) i q in
      let w = behind (two_mark o m n) (as_marked b) p.mark p.there in
      as-marked-one r (λ c. ex2 c o x y) b w.value p.mark i (two (two-op m n o w.value w.there) h l) w.gives p.is

  -- An operator whose right operand is a set.
  set-made : (r : Names Bound) (b : Bool) (o : Op2) (x y : Ex) (i j k : Kind) → IsOf r x i → SetTree names NoneShown r y j →
      SetOp b o i j k → IsOf r (ex2 b o x y) k
  set-made r b o x y (scalars m) j k (a_scalar h) l a_member = a_scalar (within h l)
  set-made r b o x y (sets_of i) j k (a_set h) l a_member = a_scalar (set_within h l)
  set-made r b o x y (sets_of i) j k (a_set h) l (a_comparison c) = a_scalar (compared c h l)
  set-made r b o x y (sets_of i) j k (a_set h) l (a_combination c) = a_set (combined c h l)

  two-made : (r : Names Bound) (b : Bool) (o : Op2) (x y : Ex) (i j k : Kind) → IsOf r x i → IsOf r y j → two_kind b o i j ≡ Some k →
      IsOf r (ex2 b o x y) k
  two-made r b o x y (scalars m) (scalars n) k (a_scalar h) (a_scalar l) q =
      scalars-made r b o x y m n k h l (sym (two-scalars b o m n) ∙ q)
  two-made r b o x y i (sets_of j) k h (a_set l) q = set-made r b o x y i j k h l (set-op b o i j k q)
  two-made r b o x y (sets_of i) (scalars m) k (a_set h) l q = absurd (no-set-first b o i m k q)

  word-made : (r : Names Bound) (f : Fun) (x : Ex) (i : Kind) (k : Bool) → IsOf r x i → word_kind f i ≡ Some k → R r (fun1 k f x) k
  word-made r Fun.ToInt x (scalars true) false (a_scalar h) q = chosen h
  word-made r f x (scalars m) k (a_scalar h) q = cc
  word-made r f x (sets_of j) k (a_set h) q = cc

  fold-made : (r t : Names Bound) (f : Fun) (e : Ex) (gs : Gens) (i : Kind) (k : Bool) →
      Binding names NoneShown r gs t → IsOf t e i → fold_kind f i ≡ Some k → R r (fun1 k f (comp_ex e gs)) k
  fold-made r t Fun.And e gs (scalars true) true g (a_scalar h) q = folded of_all g h
  fold-made r t Fun.Or e gs (scalars true) true g (a_scalar h) q = folded of_some g h
  fold-made r t Fun.Sum e gs (scalars false) false g (a_scalar h) q = folded of_sum g h
  fold-made r t f e gs (scalars m) k g (a_scalar h) q = cc
  fold-made r t f e gs (sets_of j) k g (a_set h) q = cc

  mutual
    -- A tree with a kind is one of the class, or a set.
    pub tested : (r : Names Bound) (e : Ex) (i : Kind) → setwise_kind names r e ≡ Some i → IsOf r e i
    tested r (number_ex k) i q = let z : scalars false ≡ i = cc in subst (IsOf r (number_ex k)) z (a_scalar number)
    tested r (truth_ex b) i q = let z : scalars true ≡ i = cc in subst (IsOf r (truth_ex b)) z (a_scalar truth)
    tested r (name_ex a) i q = name-is r a i q
    tested r (ex1 b o x) i q =
        let p = marked (and_then (and_then (setwise_kind names r x) (one_kind o)) (as_marked b)) i q in
        let w = behind (and_then (setwise_kind names r x) (one_kind o)) (as_marked b) p.mark p.there in
        let v = behind (setwise_kind names r x) (one_kind o) w.value w.there in
        as-marked-one r (λ d. ex1 d o x) b w.value p.mark i (one-made r o x v.value w.value (tested r x v.value v.there) v.gives)
        w.gives p.is
    tested r (ex2 b o x y) i q =
        let v = behind (setwise_kind names r x) (λ j. and_then (setwise_kind names r y) (two_kind b o j)) i q in
        let u = behind (setwise_kind names r y) (two_kind b o v.value) i v.gives in
        two-made r b o x y v.value u.value i (tested r x v.value v.there) (tested r y u.value u.there) u.gives
    tested r (fun1 b f (comp_ex e gs)) i q =
        let p = marked (and_then (and_then (and_then (bound_behind names r gs) (λ t. setwise_kind names t e))
        (fold_kind f)) (as_marked b)) i q in
        let w = behind (and_then (and_then (bound_behind names r gs) (λ t. setwise_kind names t e)) (fold_kind f))
        (as_marked b) p.mark p.there in
        let v = behind (and_then (bound_behind names r gs) (λ t. setwise_kind names t e)) (fold_kind f)
        w.value w.there in
        let u = behind (bound_behind names r gs) (λ t. setwise_kind names t e) v.value v.there in
        as-marked-one r (λ c. fun1 c f (comp_ex e gs)) b w.value p.mark i
        (fold-made r u.value f e gs v.value w.value (bound-tested r gs u.value u.there)
        (tested u.value e v.value u.gives) v.gives) w.gives p.is
    tested r (fun1 b f x) i q =
        let p = marked (and_then (and_then (setwise_kind names r x) (word_kind f)) (as_marked b)) i q in
        let w = behind (and_then (setwise_kind names r x) (word_kind f)) (as_marked b) p.mark p.there in
        let v = behind (setwise_kind names r x) (word_kind f) w.value w.there in
        as-marked-one r (λ c. fun1 c f x) b w.value p.mark i (word-made r f x v.value w.value (tested r x v.value v.there) v.gives)
        w.gives p.is
    tested r e i q = cc

    bound-tested : (r : Names Bound) (gs : Gens) (t : Names Bound) → bound_behind names r gs ≡ Some t →
        Binding names NoneShown r gs t
    bound-tested r no_gens t q = let z : r ≡ t = cc in subst (λ u. Binding names NoneShown r no_gens u) z at_end
    bound-tested r (over (name_pat a) bool_dom gs) t q =
        let w = decided (is_new names r a) (bound_behind names ((a, over_a_range true) ∷ r) gs) t q in
        over_truths (new-is (kind_at names r a) w.0) (bound-tested ((a, over_a_range true) ∷ r) gs t w.1)
    bound-tested r (over (name_pat a) (int_dom (both_ends ∷ []) (more_exs x (more_exs y no_exs))) gs) t q =
        let i : Bool = is_mark false (mark_of_kind (setwise_kind names r x)) in
        let j : Bool = is_mark false (mark_of_kind (setwise_kind names r y)) in
        let w = decided (is_new names r a && (i && j)) (bound_behind names ((a, over_a_range false) ∷ r) gs) t q in
        let z = and-right (is_new names r a) (i && j) w.0 in
        over_numbers (new-is (kind_at names r a) (and-left (is_new names r a) (i && j) w.0))
        (as-scalar r x false (tested r x (scalars false) (mark-is false (setwise_kind names r x) (and-left i j z))))
        (as-scalar r y false (tested r y (scalars false) (mark-is false (setwise_kind names r y) (and-right i j z))))
        (bound-tested ((a, over_a_range false) ∷ r) gs t w.1)
    bound-tested r (from (name_pat a) s gs) t q =
        let w = decided (is_new names r a)
        (and_then (members_kind (setwise_kind names r s)) (λ k. bound_behind names ((a, from_a_set k) ∷ r) gs)) t q in
        let v = behind (members_kind (setwise_kind names r s)) (λ k. bound_behind names ((a, from_a_set k) ∷ r) gs) t w.1 in
        among (new-is (kind_at names r a) w.0)
        (as-set r s v.value (tested r s (sets_of v.value) (members-are (setwise_kind names r s) v.value v.there)))
        (bound-tested ((a, from_a_set v.value) ∷ r) gs t v.gives)
    bound-tested r (cond e gs) t q =
        let w = decided (is_mark true (mark_of_kind (setwise_kind names r e))) (bound_behind names r gs) t q in
        where_holds (as-scalar r e true (tested r e (scalars true) (mark-is true (setwise_kind names r e) w.0)))
        (bound-tested r gs t w.1)
    bound-tested r gs t q = cc

  -- So is a tree with a mark.
  pub tested-mark : (e : Ex) (m : Bool) → mark_of_kind (setwise_kind names [] e) ≡ Some m → R [] e m
  tested-mark e m q = go (setwise_kind names [] e) refl q
    where
      go : (o : Option Kind) → setwise_kind names [] e ≡ o → mark_of_kind o ≡ Some m → R [] e m
      go None p h = cc
      go (Some (scalars k)) p h =
          let z : k ≡ m = cc in as-scalar [] e m (tested [] e (scalars m) (p ∙ ap (λ b. Some (scalars b)) z))
      go (Some (sets_of k)) p h = cc
