-- Over tables a constraint that speaks of nested sets is a tree over views that means what the constraint means, and has values.
use Rattle.std.proofs.Common.{◌≡◌, refl, sym, ap, ◌∙◌, subst, ℕ, ◌+◌, ◌≤◌, ◌<◌, ◌^◌, Bool, true, false, List, [], ℤ, Option, Some, None, arith}
use Rattle.std.specs.List.{list_all}
use Rattle.ess_semantics.specs.Lists.{or_default}
use Rattle.ess_semantics.specs.Values.{Text, Value, number}
use Rattle.ess_semantics.specs.Order.{same_text}
use Rattle.ess_semantics.specs.Names.{look}
use Rattle.ess_semantics.specs.Trees.{Ex, truth_ex, name_ex, seen_ex, no_exs, set_dom}
use Rattle.ess_semantics.specs.Scoped.{Scoped}
use Rattle.ess_semantics.specs.Meaning.{Env, meaning}
use Rattle.ess_semantics.specs.Meets.{Meets}
use Rattle.ess_refine_laws.specs.SpellingEnds.{numbers_of_tree}
use Rattle.ess_rules_laws.proofs.Simulation.{Vals, E}
use Rattle.ess_values_along_laws.specs.Valued.{Valued}
use Rattle.conjure_model_laws.specs.ToldApart.{reserved, told}
use Rattle.conjure_model_laws.specs.Shown.{Shows, in_place}
use Rattle.conjure_model_laws.specs.IsBuiltFrom.{tree_of, constraint_tree, condition_tree, objective_tree}
use Rattle.conjure_model_laws.specs.Printed.{binders}
use Rattle.conjure_model_laws.proofs.ToldLaws.{reserved-differ}
use Rattle.ess_depth_laws.specs.Below.{HasNamesBelow}
use Rattle.ess_guard_laws.specs.Conditions.{all_of}
use Rattle.ess_seen_laws.specs.Seen.{Kind, scalars, sets_of, Seen}
use Rattle.ess_setwise_laws.specs.Setwise.{is_mark, marked_or_set, free_kind, setwise_mark}
use Rattle.ess_setwise_laws.specs.Laws.{IsSetView, ShowsSets, HoldsNames, HoldsSets, HasMark, a_number, HoldsScalars, MeetsSets, SpellsSets, none, IsSeenOverTables, SetwiseTreesAreSeen}
use Rattle.ess_setwise_laws.specs.Objectives.{IsNumberOverTables, SetwiseNumbersAreThere}
use Rattle.ess_setwise_laws.proofs.SetwiseTrees.{Setwise, NoneShown, no_kind, Form, a_cell, a_view, IsPlace, in_first, in_last, ShownFor, ShowsAll}
use Rattle.ess_setwise_laws.proofs.Tested.{tested-mark}
use Rattle.ess_setwise_laws.proofs.ShownForms.{HasKind, cell-met, cell-spelled, form-still, form-met, view-value}
use Rattle.ess_setwise_laws.proofs.NameKinds.{Kept, kept-none}
use Rattle.ess_setwise_laws.proofs.ToldSets.{SpellsShown}
use Rattle.ess_setwise_laws.proofs.ToldSetwise.{Made, told-setwise}
use Rattle.ess_setwise_laws.proofs.ToldCounted.{told-next}
use Rattle.ess_setwise_laws.proofs.ToldMeans.{told-means}
use Rattle.ess_setwise_laws.proofs.SetwiseGuard.{no-conditions, guarded-setwise}
use Rattle.ess_setwise_laws.proofs.SetwiseSeen.{setwise-seen, setwise-scoped}
use Rattle.ess_setwise_laws.proofs.SetwiseMet.{setwise-met}
use Rattle.ess_setwise_laws.proofs.SetwiseValues.{setwise-answer}

-- ---- kinds of free names

-- A scalar has a mark.
scalar-marked : (o : Option Bool) (p : Option Kind) (m : Bool) → marked_or_set o p ≡ Some (scalars m) → o ≡ Some m
scalar-marked (Some b) p m q = cc
scalar-marked None None m q = cc
scalar-marked None (Some k) m q = cc

-- A set has members of a kind.
set-kind : (o : Option Bool) (p : Option Kind) (k : Kind) → marked_or_set o p ≡ Some (sets_of k) → p ≡ Some k
set-kind (Some b) p k q = cc
set-kind None None k q = cc
set-kind None (Some i) k q = cc

-- ---- what is shown

view-form : (cells : Text → Option (Bool × List ℕ)) (e : Ex) (k : Kind) → IsSetView cells e k → Form cells e (sets_of k)
view-form cells e k v =
    subst (λ z. Form cells z (sets_of k)) (sym v.is)
    (subst (λ i. Form cells (seen_ex v.way (set_dom v.attributes v.sizes v.inner) v.tables no_exs) (sets_of i)) v.kind
    (a_view v.nested v.fit v.kept))

module _ (sh : Shows) (marks : Text → Option Bool) (sets : Text → Option Kind) (cells : Text → Option (Bool × List ℕ))
    (w : ShowsSets sh marks sets cells) where
  abbrev names : Text → Option Kind
  names = free_kind marks sets

  abbrev Shown : Ex → Kind → Type 0
  Shown = ShownFor sh names cells

  first-form : (a : Text) (k : Kind) → names a ≡ Some k → Form cells (in_place sh.first a) k
  first-form a (scalars m) q =
      let z = w.single a m (scalar-marked (marks a) (sets a) m q) in
      subst (λ e. Form cells e (scalars m)) (sym z.1) (a_cell z.2)
  first-form a (sets_of k) q = view-form cells (in_place sh.first a) k (w.first a k (set-kind (marks a) (sets a) k q))

  all-shown : ShowsAll sh names cells
  all-shown = record {
    first = first-form;
    last = λ a k q. view-form cells (in_place sh.last a) k (w.last a k (set-kind (marks a) (sets a) k q));
    spares_first = λ j. ap (λ o. or_default o (name_ex (reserved j))) (w.spares_first j);
    spares_last = λ j. ap (λ o. or_default o (name_ex (reserved j))) (w.spares_last j);
  }

  -- What holds of the cells and the views that are shown for names.
  scalar-place : (P : Ex → Type 0) (m : Bool) → ((a : Text) → marks a ≡ Some m → P (in_place sh.first a)) → (e : Ex) →
      Shown e (scalars m) → P e
  scalar-place P m f e h = go (scalars m) refl h.place
    where
      go : (k : Kind) → scalars m ≡ k → IsPlace sh h.name e k → P e
      go k q (in_first p) = subst P p (f h.name (scalar-marked (marks h.name) (sets h.name) m h.kind))
      go k q (in_last p) = cc

  set-place : (P : Ex → Type 0) → ((a : Text) (k : Kind) → sets a ≡ Some k → P (in_place sh.first a)) →
      ((a : Text) (k : Kind) → sets a ≡ Some k → P (in_place sh.last a)) → (e : Ex) (k : Kind) → Shown e (sets_of k) → P e
  set-place P f g e k h = go h.place
    where
      s : sets h.name ≡ Some k
      s = set-kind (marks h.name) (sets h.name) k h.kind

      go : {i : Kind} → IsPlace sh h.name e i → P e
      go (in_first p) = subst P p (f h.name k s)
      go (in_last p) = subst P p (g h.name k s)

  -- ---- values and structures

  shown-met : (env : Env) → MeetsSets sh sets env → (e : Ex) (k : Kind) → Shown e k → (g : Vals) →
      Meets e (E env.positions env.types env.cells g)
  shown-met env m e (scalars b) h g =
      form-met cells env.positions env.types env.cells env.vals g h.form (cell-met cells h.form env)
  shown-met env m e (sets_of i) h g =
      form-met cells env.positions env.types env.cells env.vals g h.form
      (set-place (λ z. Meets z env) (λ a k q. m.first a k q) (λ a k q. m.last a k q) e i h)

  shown-value : (env : Env) → HoldsScalars sh marks env → MeetsSets sh sets env → (e : Ex) (k : Kind) → Shown e k →
      (v : Value) × HasKind k v × (meaning e (E env.positions env.types env.cells []) ≡ Some v)
  shown-value env s m e (scalars b) h =
      let v = scalar-place (λ z. (v : Value) × HasMark b v × (meaning z env ≡ Some v)) b (λ a q. s.holds a b q) e h in
      (v.0, v.1, form-still cells env.positions env.types env.cells [] env.vals h.form ∙ v.2)
  shown-value env s m e (sets_of i) h =
      view-value cells (E env.positions env.types env.cells []) h.form (shown-met env m e (sets_of i) h [])

  -- ---- the tree

  module _ (e : Ex) (m : Bool) (h : setwise_mark marks sets e ≡ Some m) (few : sh.next + binders e ≤ 2 ^ 64) where
    over : Setwise names NoneShown [] e m
    over = tested-mark names e m h

    abbrev T : Ex
    T = tree_of sh e

    abbrev lim : ℕ
    lim = (told e [] sh.next).1

    low : lim ≤ 2 ^ 64
    low = let p = told-next names over [] sh.next in omega (arith, p, few)

    differ : (i j : ℕ) → i < j → j < lim → same_text (reserved j) (reserved i) ≡ false
    differ i j l z = let b = low in reserved-differ i j l (omega (arith, z, b))

    start : Kept sh names cells all-shown lim differ [] [] [] sh.next
    start = kept-none sh names cells all-shown lim differ sh.next

    made : Made sh names cells all-shown lim differ [] e T m
    made = told-setwise sh names cells all-shown lim differ over [] [] sh.next (omega arith) start

    form-of : (e : Ex) (k : Kind) → Shown e k → Form cells e k
    form-of e k s = s.form

    -- It needs no conditions.
    is-tree : constraint_tree sh e ≡ T
    is-tree = guarded-setwise no_kind Shown cells form-of true (reserved 0) (reserved 1) made.tree []

    names-mean : (env there : Env) → HoldsNames sh marks env there → HoldsSets sh sets env there → meaning T there ≡ meaning e env
    names-mean env there v s =
        told-means sh names cells all-shown lim differ env.positions there.positions env.types there.types env.cells there.cells over
        [] [] sh.next env.vals there.vals (omega arith)
        (record { kept = start; firsts = firsts; lasts = λ a k q. s.last a k (set-kind (marks a) (sets a) k q) })
      where
        firsts : (a : Text) (k : Kind) → names a ≡ Some k → meaning (in_place sh.first a) there ≡ look env.vals a
        firsts a (scalars b) q = v.holds a b (scalar-marked (marks a) (sets a) b q)
        firsts a (sets_of k) q = s.first a k (set-kind (marks a) (sets a) k q)

    shown-spelled : (q : ℤ → Bool) → SpellsSets sh sets q → SpellsShown sh names cells q
    shown-spelled q s e (scalars b) h = cell-spelled cells h.form q
    shown-spelled q s e (sets_of k) h =
        set-place (λ z. list_all q (numbers_of_tree z) ≡ true) (λ a k p. s.first a k p) (λ a k p. s.last a k p) e k h

    has-values : (env : Env) → HoldsScalars sh marks env → MeetsSets sh sets env → Valued false T env
    has-values env s v =
        let a = setwise-answer Shown cells form-of env.positions env.types env.cells (shown-value env s v) made.tree env.vals
        (λ a k q. cc) in a.valued false

    pub is-seen : IsSeenOverTables sh marks sets cells e m
    is-seen = record {
      seen = subst (λ z. Seen cells [] z m) (sym is-tree) (setwise-seen Shown cells form-of made.tree);
      scoped = subst (λ z. Scoped none none none z) (sym is-tree)
          (setwise-scoped Shown cells form-of made.tree none none none (λ a. refl));
      names = subst (λ z. HasNamesBelow lim z) (sym is-tree) made.uses;
      spells = λ q s p. ap (λ z. list_all q (numbers_of_tree z)) is-tree ∙ made.alike.spells q (shown-spelled q s) p;
      means = λ env there v s. ap (λ z. meaning z there) is-tree ∙ names-mean env there v s;
      meets = λ env v. subst (λ z. Meets z env) (sym is-tree)
          (setwise-met Shown env.positions env.types env.cells (shown-met env v) made.tree env.vals);
      valued = λ env s v. subst (λ z. Valued false z env) (sym is-tree) (has-values env s v);
    }

    -- As an objective it needs none either.
    is-objective : objective_tree sh e ≡ T
    is-objective = guarded-setwise no_kind Shown cells form-of false (reserved 0) (reserved 1) made.tree []

    no-condition : condition_tree sh e ≡ truth_ex true
    no-condition = ap all_of (no-conditions no_kind Shown cells form-of false (reserved 0) (reserved 1) made.tree [] false)

    has-value : (env there : Env) → HoldsNames sh marks env there → HoldsSets sh sets env there → HoldsScalars sh marks there →
        MeetsSets sh sets there → (v : Value) × HasMark m v × (meaning e env ≡ Some v)
    has-value env there n h s v =
        let a = setwise-answer Shown cells form-of there.positions there.types there.cells (shown-value there s v) made.tree there.vals
        (λ a k q. cc) in (a.value, a.kind, sym (names-mean env there n h) ∙ a.is)

  pub is-number : (e : Ex) → setwise_mark marks sets e ≡ Some false → sh.next + binders e ≤ 2 ^ 64 → IsNumberOverTables sh marks sets e
  is-number e h few = record {
    tree = is-objective e false h few ∙ sym (is-tree e false h few);
    condition = no-condition e false h few;
    there = λ env there n h' s v. let z = has-value e false h few env there n h' s v in at env z.0 z.1 z.2;
  }
    where
      at : (env : Env) (v : Value) → HasMark false v → meaning e env ≡ Some v → (n : ℤ) × (meaning e env ≡ Some (number n))
      at env v (a_number {k = k}) q = (k, q)

-- So it is of each one.
pub setwise-trees-are-seen : SetwiseTreesAreSeen
setwise-trees-are-seen sh marks sets cells w e m h few = is-seen sh marks sets cells w e m h few

false-is : (o : Option Bool) → is_mark false o ≡ true → o ≡ Some false
false-is (Some true) q = cc
false-is (Some false) q = refl
false-is None q = cc

-- And of each number.
pub setwise-numbers-are-there : SetwiseNumbersAreThere
setwise-numbers-are-there sh marks sets cells w e t few = is-number sh marks sets cells w e (false-is (setwise_mark marks sets e) t) few
