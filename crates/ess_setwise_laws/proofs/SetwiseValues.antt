-- Each part of a constraint of the class has a value of its kind wherever its context holds, where what is shown has values of its kinds.
use Rattle.std.proofs.Common.{◌≡◌, refl, ap, ◌∙◌, subst, ℕ, Bool, true, false, if◌then◌else◌, List, [], ◌∷◌, Option, Some, option_map}
use Rattle.std.specs.Prelude.{IsTrue, is_some}
use Rattle.ess_semantics.specs.declared.words.Op1.{Op1}
use Rattle.ess_semantics.specs.declared.words.Op2.{Op2}
use Rattle.ess_semantics.specs.declared.words.Fun.{Fun}
use Rattle.ess_semantics.specs.Values.{Text, Value, number, truth, to_list, items_of}
use Rattle.ess_semantics.specs.Order.{same_text}
use Rattle.ess_semantics.specs.Names.{Names, look}
use Rattle.ess_semantics.specs.Types.{int_ty}
use Rattle.ess_semantics.specs.TypeMembers.{is_of_type}
use Rattle.ess_semantics.specs.Trees.{Op, unary, binary, word, both_ends, name_pat, Ex, node_ex, no_exs, more_exs, comp_ex, Gens, over, from, Dom, bool_dom, int_dom}
use Rattle.ess_semantics.specs.Operators.{as_truth, value_of_node, false_where_undefined, list_value}
use Rattle.ess_semantics.specs.Domains.{integers}
use Rattle.ess_semantics.specs.Tables.{Table}
use Rattle.ess_semantics.specs.Meaning.{Env, TypeEntry, meaning, domain_of, members_in, spans_of}
use Rattle.ess_semantics.specs.Contexts.{Each, EachOf, guards}
use Rattle.ess_guard_natural_laws.specs.TotalButNatural.{opens_places}
use Rattle.ess_values_along_laws.specs.Valued.{lacks, Valued}
use Rattle.ess_types_laws.proofs.SoundEnvs.{members-typed}
use Rattle.ess_rules_laws.proofs.Simulation.{Vals, E}
use Rattle.ess_flat_laws.specs.Flat.{OneOp, TwoOp}
use Rattle.ess_seen_laws.specs.ess_bare_laws.Lean.{FoldWord, of_all, of_some, of_sum}
use Rattle.ess_seen_laws.specs.Seen.{Kind, scalars, sets_of, Bound, over_a_range, from_a_set, bound_kind, Combines}
use Rattle.ess_setwise_laws.specs.Laws.{HasMark, a_truth, a_number}
use Rattle.ess_setwise_laws.proofs.SetwiseTrees.{Stands, named, as_shown, SetTree, stands, combined, Setwise, number as number_is, truth as truth_is, scalar, one, two, chosen, folded, size, within, set_within, compared, Binding, at_end, over_truths, over_numbers, among, where_holds, no_kind, Form}
use Rattle.ess_setwise_laws.proofs.ShownForms.{HasKind, number-typed, unless-any, form-still, form-valued}
use Rattle.ess_setwise_laws.proofs.NameKinds.{bound_at}
use Rattle.ess_setwise_laws.proofs.OperatorValues.{one-value, two-value, chosen-value, size-value, combined-value}
use Rattle.ess_setwise_laws.proofs.SetwiseMet.{guarded-any}
use Rattle.ess_setwise_laws.proofs.ItemValues.{Items, over-items, among-items, cond-items}

is-there : {A : Type 0} (o : Option A) (v : A) → o ≡ Some v → IsTrue (is_some o)
is-there o v q = ap is_some q

each-more : (vs : List Value) (P Q : Value → Type 0) → ((v : Value) → P v → Q v) → Each vs P → Each vs Q
each-more [] P Q f p = tt
each-more (v ∷ vs) P Q f p = (f v p.0, each-more vs P Q f p.1)

each-of : (o : Option (List Value)) (vs : List Value) (P : Value → Type 0) → o ≡ Some vs → EachOf o P → Each vs P
each-of o vs P q h = subst (λ z. EachOf z P) q h

-- ---- trees

module _ (Shown : Ex → Kind → Type 0) (cells : Text → Option (Bool × List ℕ)) (form : (e : Ex) (k : Kind) → Shown e k → Form cells e k)
    (pl : Bool) (ts : List TypeEntry) (cs : Names Table)
    (holds : (e : Ex) (k : Kind) → Shown e k → (v : Value) × HasKind k v × (meaning e (E pl ts cs []) ≡ Some v)) where
  abbrev C : Names Bound → Ex → Bool → Type 0
  C = Setwise no_kind Shown

  abbrev M : Vals → Env
  M g = E pl ts cs g

  abbrev AllItems : Gens → Ex → Vals → Type 0
  AllItems = Items pl ts cs

  -- Bound names have values of their kinds.
  abbrev pub Present : Names Bound → Vals → Type 0
  Present t g = (a : Text) (k : Kind) → bound_at t a ≡ Some k → (v : Value) × HasKind k v × (look g a ≡ Some v)

  present-more : (t : Names Bound) (a : Text) (x : Bound) (v : Value) (g : Vals) → HasKind (bound_kind x) v → Present t g →
      Present ((a, x) ∷ t) ((a, v) ∷ g)
  present-more t a x v g h p b k q = go (same_text a b) q
    where
      itself : Some (bound_kind x) ≡ Some k → HasKind k v
      itself q = let z : bound_kind x ≡ k = cc in subst (λ n. HasKind n v) z h

      go : (c : Bool) → (if c then Some (bound_kind x) else bound_at t b) ≡ Some k →
          (z : Value) × HasKind k z × ((if c then Some v else look g b) ≡ Some z)
      go true q = (v, itself q, refl)
      go false q = p b k q

  -- The expression has a value of its kind, and each part of it has one, in natural places or not.
  pub record Answer (e : Ex) (k : Kind) (g : Vals) : Type 0 where
    pub value : Value
    pub kind : HasKind k value
    pub is : meaning e (M g) ≡ Some value
    pub valued : (w : Bool) → Valued w e (M g)

  -- A node of one operand, and of two.
  one-valued : (b : Bool) (op : Op) (x : Ex) (g : Vals) → IsTrue (is_some (meaning (node_ex b op (more_exs x no_exs)) (M g))) →
      ((w : Bool) → Valued w x (M g)) → (w : Bool) → Valued w (node_ex b op (more_exs x no_exs)) (M g)
  one-valued b op x g h f w = (
    unless-any (lacks w b op) _ h,
    (f (opens_places w b op), guarded-any (guards op) (meaning x (M g)) _ tt),
  )

  two-valued : (b : Bool) (op : Op) (x y : Ex) (g : Vals) →
      IsTrue (is_some (meaning (node_ex b op (more_exs x (more_exs y no_exs))) (M g))) →
      ((w : Bool) → Valued w x (M g)) → ((w : Bool) → Valued w y (M g)) → (w : Bool) →
      Valued w (node_ex b op (more_exs x (more_exs y no_exs))) (M g)
  two-valued b op x y g h f k w = (
    unless-any (lacks w b op) _ h,
    (
      f (opens_places w b op),
      guarded-any (guards op) (meaning x (M g)) _ (k (opens_places w b op), tt),
    ),
  )

  -- A name, or what is shown for one.
  at-answer : {t : Names Bound} {e : Ex} {k : Kind} → Stands no_kind Shown t e k → (g : Vals) → Present t g → Answer e k g
  at-answer {t} {e} {k} (named {a = a} h) g p =
      let x = p a k h in record { value = x.0; kind = x.1; is = x.2; valued = λ w. is-there (look g a) x.0 x.2 }
  at-answer {t} {e} {k} (as_shown h) g p =
      let x = holds e k h in
      let q : meaning e (M g) ≡ Some x.0 = form-still cells pl ts cs g [] (form e k h) ∙ x.2 in record {
        value = x.0;
        kind = x.1;
        is = q;
        valued = λ w. form-valued cells (M g) w (form e k h) (is-there (meaning e (M g)) x.0 q);
      }

  one-answer : {b m : Bool} {o : Op1} (x : Ex) (g : Vals) → OneOp b o m → Answer x (scalars m) g →
      Answer (node_ex b (unary o) (more_exs x no_exs)) (scalars b) g
  one-answer {b} {m} {o} x g s a =
      let u = one-value s a.kind in
      let q : meaning (node_ex b (unary o) (more_exs x no_exs)) (M g) ≡ Some u.0 =
      ap (λ z. false_where_undefined b (value_of_node (unary o) (z ∷ []))) a.is ∙ u.2 in record {
        value = u.0;
        kind = u.1;
        is = q;
        valued = one-valued b (unary o) x g (ap is_some q) a.valued;
      }

  two-answer : {b m k : Bool} {o : Op2} (x y : Ex) (g : Vals) → TwoOp b o m k → Answer x (scalars m) g → Answer y (scalars k) g →
      Answer (node_ex b (binary o) (more_exs x (more_exs y no_exs))) (scalars b) g
  two-answer {b} {m} {k} {o} x y g s a r =
      let u = two-value s a.kind r.kind in
      let q : meaning (node_ex b (binary o) (more_exs x (more_exs y no_exs))) (M g) ≡ Some u.0 =
      ap (λ z. false_where_undefined b (value_of_node (binary o) (z ∷ meaning y (M g) ∷ []))) a.is
      ∙ ap (λ z. false_where_undefined b (value_of_node (binary o) (Some a.value ∷ z ∷ []))) r.is ∙ u.2 in record {
        value = u.0;
        kind = u.1;
        is = q;
        valued = two-valued b (binary o) x y g (ap is_some q) a.valued r.valued;
      }

  chosen-answer : (x : Ex) (g : Vals) → Answer x (scalars true) g →
      Answer (node_ex false (word Fun.ToInt) (more_exs x no_exs)) (scalars false) g
  chosen-answer x g a =
      let u = chosen-value a.kind in
      let q : meaning (node_ex false (word Fun.ToInt) (more_exs x no_exs)) (M g) ≡ Some u.0 =
      ap (λ z. false_where_undefined false (value_of_node (word Fun.ToInt) (z ∷ []))) a.is ∙ u.2 in record {
        value = u.0;
        kind = u.1;
        is = q;
        valued = one-valued false (word Fun.ToInt) x g (ap is_some q) a.valued;
      }

  size-answer : (k : Kind) (s : Ex) (g : Vals) → Answer s (sets_of k) g →
      Answer (node_ex false (unary Op1.Bar) (more_exs s no_exs)) (scalars false) g
  size-answer k s g a =
      let u = size-value (HasKind k) a.value a.kind in
      let q : meaning (node_ex false (unary Op1.Bar) (more_exs s no_exs)) (M g) ≡ Some u.0 =
      ap (λ z. false_where_undefined false (value_of_node (unary Op1.Bar) (z ∷ []))) a.is ∙ u.2 in record {
        value = u.0;
        kind = u.1;
        is = q;
        valued = one-valued false (unary Op1.Bar) s g (ap is_some q) a.valued;
      }

  combined-answer : {o : Op2} (k : Kind) (x y : Ex) (g : Vals) → Combines o → Answer x (sets_of k) g → Answer y (sets_of k) g →
      Answer (node_ex false (binary o) (more_exs x (more_exs y no_exs))) (sets_of k) g
  combined-answer {o} k x y g c a r =
      let u = combined-value (HasKind k) a.value r.value c a.kind r.kind in
      let q : meaning (node_ex false (binary o) (more_exs x (more_exs y no_exs))) (M g) ≡ Some u.0 =
      ap (λ z. false_where_undefined false (value_of_node (binary o) (z ∷ meaning y (M g) ∷ []))) a.is
      ∙ ap (λ z. false_where_undefined false (value_of_node (binary o) (Some a.value ∷ z ∷ []))) r.is ∙ u.2 in record {
        value = u.0;
        kind = u.1;
        is = q;
        valued = two-valued false (binary o) x y g (ap is_some q) a.valued r.valued;
      }

  -- A Boolean of two operands always has one.
  truth-answer : (o : Op2) (i k : Kind) (x y : Ex) (g : Vals) → Answer x i g → Answer y k g →
      Answer (node_ex true (binary o) (more_exs x (more_exs y no_exs))) (scalars true) g
  truth-answer o i k x y g a r = record {
    value = truth (as_truth (value_of_node (binary o) (meaning x (M g) ∷ meaning y (M g) ∷ [])));
    kind = a_truth;
    is = refl;
    valued = two-valued true (binary o) x y g refl a.valued r.valued;
  }

  -- ---- lists

  -- A comprehension.
  list-valued : (e : Ex) (gs : Gens) (g : Vals) → AllItems gs e g → (w : Bool) → Valued w (comp_ex e gs) (M g)
  list-valued e gs g x w = (ap (λ o. is_some (option_map list_value o)) x.are, x.valued)

  -- A word that makes a truth value of one.
  test-answer : (f : Fun) (e : Ex) (gs : Gens) (g : Vals) → AllItems gs e g →
      Answer (node_ex true (word f) (more_exs (comp_ex e gs) no_exs)) (scalars true) g
  test-answer f e gs g x = record {
    value = truth (as_truth (value_of_node (word f) (meaning (comp_ex e gs) (M g) ∷ [])));
    kind = a_truth;
    is = refl;
    valued = one-valued true (word f) (comp_ex e gs) g refl (list-valued e gs g x);
  }

  sum-answer : (e : Ex) (gs : Gens) (g : Vals) → AllItems gs e g →
      Answer (node_ex false (word Fun.Sum) (more_exs (comp_ex e gs) no_exs)) (scalars false) g
  sum-answer e gs g x =
      let q : meaning (node_ex false (word Fun.Sum) (more_exs (comp_ex e gs) no_exs)) (M g)
      ≡ value_of_node (word Fun.Sum) (Some (list_value x.values) ∷ []) =
      ap (λ o. value_of_node (word Fun.Sum) (option_map list_value o ∷ [])) x.are in record {
        value = _;
        kind = a_number;
        is = q;
        valued = one-valued false (word Fun.Sum) (comp_ex e gs) g (ap is_some q) (list-valued e gs g x);
      }

  -- A word on one.
  fold-answer : {m : Bool} {f : Fun} (e : Ex) (gs : Gens) (g : Vals) → FoldWord m f → AllItems gs e g →
      Answer (node_ex m (word f) (more_exs (comp_ex e gs) no_exs)) (scalars m) g
  fold-answer e gs g of_all x = test-answer Fun.And e gs g x
  fold-answer e gs g of_some x = test-answer Fun.Or e gs g x
  fold-answer e gs g of_sum x = sum-answer e gs g x

  -- The numbers of a range are there where its bounds are.
  range-members : (x y : Ex) (g : Vals) (v u : Value) → meaning x (M g) ≡ Some v → meaning y (M g) ≡ Some u →
      (vs : List Value) × (members_in (domain_of (int_dom (both_ends ∷ []) (more_exs x (more_exs y no_exs))) (M g)) ≡ Some vs)
  range-members x y g v u p q = (
    _,
    ap (λ z. members_in (option_map integers (spans_of (both_ends ∷ []) (z ∷ meaning y (M g) ∷ [])))) p
        ∙ ap (λ z. members_in (option_map integers (spans_of (both_ends ∷ []) (Some v ∷ z ∷ [])))) q,
  )

  range-items : (a : Text) (x y : Ex) (gs : Gens) (e : Ex) (g : Vals) → Answer x (scalars false) g → Answer y (scalars false) g →
      ((v : Value) → HasMark false v → AllItems gs e ((a, v) ∷ g)) →
      AllItems (over (name_pat a) (int_dom (both_ends ∷ []) (more_exs x (more_exs y no_exs))) gs) e g
  range-items a x y gs e g low high k =
      let r = range-members x y g low.value high.value low.is high.is in
      let D : Dom = int_dom (both_ends ∷ []) (more_exs x (more_exs y no_exs)) in
      over-items pl ts cs a D gs e g r.0 r.1 (low.valued false, (high.valued false, tt))
      (each-more r.0 (λ v. IsTrue (is_of_type int_ty (M g) v)) (λ v. AllItems gs e ((a, v) ∷ g))
      (λ v q. k v (number-typed (M g) v q))
      (each-of (members_in (domain_of D (M g))) r.0 (λ v. IsTrue (is_of_type int_ty (M g) v)) r.1 (members-typed D (M g))))

  set-items : (a : Text) (i : Kind) (s : Ex) (gs : Gens) (e : Ex) (g : Vals) → Answer s (sets_of i) g →
      ((v : Value) → HasKind i v → AllItems gs e ((a, v) ∷ g)) → AllItems (from (name_pat a) s gs) e g
  set-items a i s gs e g x k =
      among-items pl ts cs a s gs e g x.value (to_list x.kind.members) x.is (ap items_of x.kind.is) (x.valued false)
      (each-more (to_list x.kind.members) (HasKind i) (λ v. AllItems gs e ((a, v) ∷ g)) k x.kind.each)

  -- Each set has one.
  set-answer : {t : Names Bound} {e : Ex} {k : Kind} → SetTree no_kind Shown t e k → (g : Vals) → Present t g → Answer e (sets_of k) g
  set-answer (stands h) g p = at-answer h g p
  set-answer {k = k} (combined {s = x} {t = y} c f h) g p = combined-answer k x y g c (set-answer f g p) (set-answer h g p)

  mutual
    -- Each constraint of the class has one.
    pub setwise-answer : {t : Names Bound} {e : Ex} {m : Bool} → C t e m → (g : Vals) → Present t g → Answer e (scalars m) g
    setwise-answer (number_is {k = k}) g p = record { value = number k; kind = a_number; is = refl; valued = λ w. tt }
    setwise-answer (truth_is {b = b}) g p = record { value = truth b; kind = a_truth; is = refl; valued = λ w. tt }
    setwise-answer (scalar h) g p = at-answer h g p
    setwise-answer (one {x = x} s f) g p = one-answer x g s (setwise-answer f g p)
    setwise-answer (two {x = x} {y = y} s f h) g p = two-answer x y g s (setwise-answer f g p) (setwise-answer h g p)
    setwise-answer (chosen {x = x} f) g p = chosen-answer x g (setwise-answer f g p)
    setwise-answer (folded {e = e} {gs = gs} w d f) g p =
        fold-answer e gs g w (binding-items d e g p (λ h y. let a = setwise-answer f h y in (a.value, a.is, a.valued false)))
    setwise-answer (size {k = k} {s = s} h) g p = size-answer k s g (set-answer h g p)
    setwise-answer (within {m = m} {x = x} {s = s} f h) g p =
        truth-answer Op2.Member (scalars m) (sets_of (scalars m)) x s g (setwise-answer f g p) (set-answer h g p)
    setwise-answer (set_within {k = k} {a = x} {s = s} f h) g p =
        truth-answer Op2.Member (sets_of k) (sets_of (sets_of k)) x s g (set-answer f g p) (set-answer h g p)
    setwise-answer (compared {o = o} {k = k} {s = x} {t = y} c f h) g p =
        truth-answer o (sets_of k) (sets_of k) x y g (set-answer f g p) (set-answer h g p)

    binding-items : {t s : Names Bound} {gs : Gens} → Binding no_kind Shown t gs s → (e : Ex) (g : Vals) → Present t g →
        ((h : Vals) → Present s h → (v : Value) × (meaning e (M h) ≡ Some v) × Valued false e (M h)) → AllItems gs e g
    binding-items at_end e g p k =
        let a = k g p in record { values = a.0 ∷ []; are = ap (option_map (λ v. v ∷ [])) a.1; valued = a.2 }
    binding-items (over_truths {a = a} {gs = gs} n d) e g p k =
        over-items pl ts cs a bool_dom gs e g (truth false ∷ truth true ∷ []) refl tt (
          binding-items d e ((a, truth false) ∷ g) (present-more _ a (over_a_range true) (truth false) g a_truth p) k,
          (binding-items d e ((a, truth true) ∷ g) (present-more _ a (over_a_range true) (truth true) g a_truth p) k, tt),
        )
    binding-items (over_numbers {a = a} {x = x} {y = y} {gs = gs} n f h d) e g p k =
        range-items a x y gs e g (setwise-answer f g p) (setwise-answer h g p)
        (λ v q. binding-items d e ((a, v) ∷ g) (present-more _ a (over_a_range false) v g q p) k)
    binding-items (among {k = i} {a = a} {s = s} {gs = gs} n h d) e g p k =
        set-items a i s gs e g (set-answer h g p)
        (λ v q. binding-items d e ((a, v) ∷ g) (present-more _ a (from_a_set i) v g q p) k)
    binding-items (where_holds {e = c} {gs = gs} f d) e g p k =
        let a = setwise-answer f g p in
        cond-items pl ts cs c gs e g a.value a.kind a.is (a.valued false) (binding-items d e g p k)
