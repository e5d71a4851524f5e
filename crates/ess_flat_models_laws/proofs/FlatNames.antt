-- The cells of a specification of the class: each given and find has one, declared with its mark, and it holds its value.
use Rattle.std.proofs.Common.{◌≡◌, refl, sym, ap, ◌∙◌, subst, Bool, true, false, ◌&&◌, not, if◌then◌else◌, List, [], ◌∷◌, ◌++◌, ◌⊎◌, inl, inr, map, Some, None, option_map}
use Rattle.ess_semantics.specs.Values.{Text, Value, number, truth, item, node}
use Rattle.ess_semantics.specs.Order.{same_text}
use Rattle.ess_semantics.specs.Names.{keys, is_among, all_distinct}
use Rattle.ess_semantics.specs.Trees.{Dom, bool_dom, int_dom}
use Rattle.ess_semantics.specs.Domains.{Domain}
use Rattle.ess_semantics.specs.Membership.{member}
use Rattle.ess_semantics.specs.TableNames.{Named}
use Rattle.ess_semantics.specs.Contexts.{Each}
use Rattle.ess_semantics.specs.DeclaredTables.{TableDecl}
use Rattle.ess_semantics.specs.Meaning.{is_bool_dom}
use Rattle.ess_semantics.specs.Positions.{with_positions}
use Rattle.ess_semantics.specs.Plans.{Side, givens_side, finds_side, Plan, value_plan, names_of_plan, names_of_plans}
use Rattle.ess_semantics.specs.ModelMeaning.{declaration_of}
use Rattle.ess_semantics.specs.Models.{scalar_cell}
use Rattle.ess_semantics.proofs.Tests.{and-left, and-right}
use Rattle.ess_rules_laws.proofs.Agreement.{same_text-equal, same_text-itself}
use Rattle.conjure_laws.specs.Members.{In}
use Rattle.conjure_laws.proofs.NamedTables.{in-among}
use Rattle.ess_flat_models_laws.specs.FlatSpecifications.{given_mark, scalar_mark}
use Rattle.ess_flat_models_laws.specs.FlatModels.{decl_of}
use Rattle.ess_flat_models_laws.proofs.ScalarDomains.{Atom, is_shape, Scalar, of_truths, of_numbers}
use Rattle.ess_flat_models_laws.proofs.FlatPlans.{AtomPlan}
use Rattle.ess_flat_models_laws.proofs.FlatValues.{Marked, a_truth, a_number}

pub no-yes : false ≡ true → ⊥
no-yes q = cc

-- ---- members of scalar domains

-- A member of a scalar's domain is a value of its mark.
pub marked-member : (e : Domain) (b : Bool) → Scalar e b → (v : Value) → member e v ≡ true → Marked b v
marked-member e b of_truths (truth x) m = a_truth
marked-member e b of_truths (number n) m = absurd (no-yes m)
marked-member e b of_truths (item t k) m = absurd (no-yes m)
marked-member e b of_truths (node k xs) m = absurd (no-yes m)
marked-member e b of_numbers (number n) m = a_number
marked-member e b of_numbers (truth x) m = absurd (no-yes m)
marked-member e b of_numbers (item t k) m = absurd (no-yes m)
marked-member e b of_numbers (node k xs) m = absurd (no-yes m)

-- It has no position.
pub marked-plain : {b : Bool} {v : Value} → Marked b v → with_positions v ≡ v
marked-plain a_truth = refl
marked-plain a_number = refl

-- ---- the cell of a name

-- The plan of a scalar name.
pub record ScalarPlan (Qs : List Plan) (a : Text) (m : Bool) : Type 0 where
  pub f : Side
  pub d : Dom
  pub n : Text
  pub planned : In (value_plan f a Atom d ((n, 0) ∷ [])) Qs
  pub cell : scalar_cell Qs a ≡ Some (m, n)
  pub mark : is_bool_dom d ≡ m
  pub scalar : is_shape d ≡ true

some-mark : (b m : Bool) → Some b ≡ Some m → b ≡ m
some-mark b m q = cc

scalar-here : (f : Side) (x : Text) (d : Dom) (n : Text) (Qs : List Plan) (a : Text) (m : Bool) → is_shape d ≡ true →
    (scalar_mark Qs a ≡ Some m → ScalarPlan Qs a m) → scalar_mark (value_plan f x Atom d ((n, 0) ∷ []) ∷ Qs) a ≡ Some m →
    ScalarPlan (value_plan f x Atom d ((n, 0) ∷ []) ∷ Qs) a m
scalar-here f x bool_dom n Qs a m s g e = go (same_text x a) refl e
  where
    go : (c : Bool) → same_text x a ≡ c → option_map (λ w. w.0) (if c then Some (true, n) else scalar_cell Qs a) ≡ Some m →
        ScalarPlan (value_plan f x Atom bool_dom ((n, 0) ∷ []) ∷ Qs) a m
    go true q e = record {
      f = f;
      d = bool_dom;
      n = n;
      planned = inl (ap (λ z. value_plan f z Atom bool_dom ((n, 0) ∷ [])) (sym (same_text-equal x a q)));
      cell = ap (λ c. if c then Some (true, n) else scalar_cell Qs a) q ∙ ap (λ b. Some (b, n)) (some-mark true m e);
      mark = some-mark true m e;
      scalar = refl;
    }
    go false q e = let r = g e in record {
      f = r.f;
      d = r.d;
      n = r.n;
      planned = inr r.planned;
      cell = ap (λ c. if c then Some (true, n) else scalar_cell Qs a) q ∙ r.cell;
      mark = r.mark;
      scalar = r.scalar;
    }
scalar-here f x (int_dom rs es) n Qs a m s g e = go (same_text x a) refl e
  where
    go : (c : Bool) → same_text x a ≡ c → option_map (λ w. w.0) (if c then Some (false, n) else scalar_cell Qs a) ≡ Some m →
        ScalarPlan (value_plan f x Atom (int_dom rs es) ((n, 0) ∷ []) ∷ Qs) a m
    go true q e = record {
      f = f;
      d = int_dom rs es;
      n = n;
      planned = inl (ap (λ z. value_plan f z Atom (int_dom rs es) ((n, 0) ∷ [])) (sym (same_text-equal x a q)));
      cell = ap (λ c. if c then Some (false, n) else scalar_cell Qs a) q ∙ ap (λ b. Some (b, n)) (some-mark false m e);
      mark = some-mark false m e;
      scalar = s;
    }
    go false q e = let r = g e in record {
      f = r.f;
      d = r.d;
      n = r.n;
      planned = inr r.planned;
      cell = ap (λ c. if c then Some (false, n) else scalar_cell Qs a) q ∙ r.cell;
      mark = r.mark;
      scalar = r.scalar;
    }
scalar-here f x d n Qs a m s g e = absurd (no-yes s)

-- Each scalar name has one.
pub scalar-plan : (Qs : List Plan) → Each Qs AtomPlan → (a : Text) (m : Bool) → scalar_mark Qs a ≡ Some m → ScalarPlan Qs a m
scalar-plan [] h a m e = absurd (no e)
  where
    no : {m : Bool} → None ≡ Some m → ⊥
    no q = cc
scalar-plan (P ∷ Qs) h a m e =
    let w = h.0 in
    subst (λ P. scalar_mark (P ∷ Qs) a ≡ Some m → ScalarPlan (P ∷ Qs) a m) (sym w.is)
    (scalar-here w.f w.x w.d w.n Qs a m w.scalar (scalar-plan Qs h.1 a m)) e

-- ---- givens

-- What a scalar's plan says of the cell of a name.
pub scalar-step : (f : Side) (x : Text) (d : Dom) (n : Text) (Qs : List Plan) (a : Text) → is_shape d ≡ true →
    scalar_cell (value_plan f x Atom d ((n, 0) ∷ []) ∷ Qs) a ≡ (if same_text x a then Some (is_bool_dom d, n) else scalar_cell Qs a)
scalar-step f x bool_dom n Qs a h = refl
scalar-step f x (int_dom rs es) n Qs a h = refl
scalar-step f x d n Qs a h = absurd (no-yes h)

-- The plan of a given.
pub record GivenPlan (Qs : List Plan) (a : Text) (m : Bool) : Type 0 where
  pub d : Dom
  pub n : Text
  pub planned : In (value_plan givens_side a Atom d ((n, 0) ∷ [])) Qs
  pub cell : scalar_cell Qs a ≡ Some (m, n)
  pub mark : is_bool_dom d ≡ m
  pub scalar : is_shape d ≡ true

given-here : (f : Side) (x : Text) (d : Dom) (n : Text) (Qs : List Plan) (a : Text) (m : Bool) → is_shape d ≡ true →
    (given_mark Qs a ≡ Some m → GivenPlan Qs a m) → given_mark (value_plan f x Atom d ((n, 0) ∷ []) ∷ Qs) a ≡ Some m →
    GivenPlan (value_plan f x Atom d ((n, 0) ∷ []) ∷ Qs) a m
given-here f x d n Qs a m s g e = go f (same_text x a) refl e
  where
    none : None ≡ Some m → ⊥
    none q = cc

    behind : (f : Side) → same_text x a ≡ false → GivenPlan Qs a m → GivenPlan (value_plan f x Atom d ((n, 0) ∷ []) ∷ Qs) a m
    behind f q r = record {
      d = r.d;
      n = r.n;
      planned = inr r.planned;
      cell = scalar-step f x d n Qs a s ∙ ap (λ c. if c then Some (is_bool_dom d, n) else scalar_cell Qs a) q ∙ r.cell;
      mark = r.mark;
      scalar = r.scalar;
    }

    go : (f : Side) (c : Bool) → same_text x a ≡ c → given_mark (value_plan f x Atom d ((n, 0) ∷ []) ∷ Qs) a ≡ Some m →
        GivenPlan (value_plan f x Atom d ((n, 0) ∷ []) ∷ Qs) a m
    go givens_side true q e =
        let z = some-mark (is_bool_dom d) m (sym (ap (λ c. if c then Some (is_bool_dom d) else given_mark Qs a) q) ∙ e) in record {
          d = d;
          n = n;
          planned = inl (ap (λ z. value_plan givens_side z Atom d ((n, 0) ∷ [])) (sym (same_text-equal x a q)));
          cell = scalar-step givens_side x d n Qs a s ∙ ap (λ c. if c then Some (is_bool_dom d, n) else scalar_cell Qs a) q
              ∙ ap (λ b. Some (b, n)) z;
          mark = z;
          scalar = s;
        }
    go givens_side false q e =
        behind givens_side q (g (sym (ap (λ c. if c then Some (is_bool_dom d) else given_mark Qs a) q) ∙ e))
    go finds_side true q e = absurd (none (sym (ap (λ c. if c then None else given_mark Qs a) q) ∙ e))
    go finds_side false q e = behind finds_side q (g (sym (ap (λ c. if c then None else given_mark Qs a) q) ∙ e))

-- Each name with the mark of a given has one.
pub given-plan : (Qs : List Plan) → Each Qs AtomPlan → (a : Text) (m : Bool) → given_mark Qs a ≡ Some m → GivenPlan Qs a m
given-plan [] h a m e = absurd (none e)
  where
    none : {m : Bool} → None ≡ Some m → ⊥
    none q = cc
given-plan (P ∷ Qs) h a m e =
    let w = h.0 in
    subst (λ P. given_mark (P ∷ Qs) a ≡ Some m → GivenPlan (P ∷ Qs) a m) (sym w.is)
    (given-here w.f w.x w.d w.n Qs a m w.scalar (given-plan Qs h.1 a m)) e

-- ---- declared cells

-- A declared name is that of a plan.
pub found-decl : (Cs : List Plan) (Qs : List Plan) (es : List TableDecl) (n : Text) (D : TableDecl) →
    declaration_of (map (decl_of Cs) Qs ++ es) n ≡ Some D →
    ((P : Plan) × In P Qs × (decl_of Cs P ≡ D) × (D.name ≡ n)) ⊎ (declaration_of es n ≡ Some D)
found-decl Cs [] es n D e = inr e
found-decl Cs (P ∷ Qs) es n D e = go (same_text (decl_of Cs P).name n) refl e (found-decl Cs Qs es n D)
  where
    one : (a b : TableDecl) → Some a ≡ Some b → a ≡ b
    one a b q = cc

    go : (c : Bool) → same_text (decl_of Cs P).name n ≡ c → (if c then Some (decl_of Cs P) else declaration_of
        (map (decl_of Cs) Qs ++ es) n) ≡ Some D →
        (declaration_of (map (decl_of Cs) Qs ++ es) n ≡ Some D →
        ((Q : Plan) × In Q Qs × (decl_of Cs Q ≡ D) × (D.name ≡ n)) ⊎ (declaration_of es n ≡ Some D)) →
        ((Q : Plan) × In Q (P ∷ Qs) × (decl_of Cs Q ≡ D) × (D.name ≡ n)) ⊎ (declaration_of es n ≡ Some D)
    go true q e f =
        let z = one (decl_of Cs P) D e in
        inl (P, inl refl, z, ap (λ w. w.name) (sym z) ∙ same_text-equal (decl_of Cs P).name n q)
    go false q e f = later (f e)
      where
        later : ((Q : Plan) × In Q Qs × (decl_of Cs Q ≡ D) × (D.name ≡ n)) ⊎ (declaration_of es n ≡ Some D) →
            ((Q : Plan) × In Q (P ∷ Qs) × (decl_of Cs Q ≡ D) × (D.name ≡ n)) ⊎ (declaration_of es n ≡ Some D)
        later (inl r) = inl (r.0, inr r.1, r.2, r.3)
        later (inr r) = inr r

-- The first of the names of a plan's table.
pub name-of : (f : Side) (x : Text) (d : Dom) (n : Text) (Qs : List Plan) → In (value_plan f x Atom d ((n, 0) ∷ [])) Qs →
    In n (keys (names_of_plans Qs))
name-of f x d n [] i = absurd i
name-of f x d n (P ∷ Qs) (inl e) =
    subst (λ P. In n (keys (names_of_plan P ++ names_of_plans Qs))) e (inl refl)
name-of f x d n (P ∷ Qs) (inr i) = behind (names_of_plan P) (name-of f x d n Qs i)
  where
    behind : (ns : List Named) → In n (keys (names_of_plans Qs)) → In n (keys (ns ++ names_of_plans Qs))
    behind [] i = i
    behind (m ∷ ns) i = inr (behind ns i)

-- The declaration of a plan's name, where names differ.
pub declared-in : (Cs : List Plan) (Qs : List Plan) → Each Qs AtomPlan → (es : List TableDecl) (f : Side) (x : Text) (d : Dom) (n : Text) →
    all_distinct (keys (names_of_plans Qs)) ≡ true → In (value_plan f x Atom d ((n, 0) ∷ [])) Qs →
    declaration_of (map (decl_of Cs) Qs ++ es) n ≡ Some (decl_of Cs (value_plan f x Atom d ((n, 0) ∷ [])))
declared-in Cs [] h es f x d n t i = absurd i
declared-in Cs (P ∷ Qs) h es f x d n t (inl e) =
    subst (λ P. (if same_text (decl_of Cs P).name n then Some (decl_of Cs P) else declaration_of (map (decl_of Cs) Qs ++ es) n)
    ≡ Some (decl_of Cs (value_plan f x Atom d ((n, 0) ∷ [])))) e
    (ap (λ c. if c then Some (decl_of Cs (value_plan f x Atom d ((n, 0) ∷ []))) else declaration_of (map (decl_of Cs) Qs ++ es) n)
    (same_text-itself n))
declared-in Cs (P ∷ Qs) h es f x d n t (inr i) =
    let w = h.0 in
    let t' : not (is_among (keys (names_of_plans Qs)) w.n) && all_distinct (keys (names_of_plans Qs)) ≡ true =
    subst (λ P. all_distinct (keys (names_of_plan P ++ names_of_plans Qs)) ≡ true) w.is t in
    subst (λ P. (if same_text (decl_of Cs P).name n then Some (decl_of Cs P) else declaration_of (map (decl_of Cs) Qs ++ es) n)
    ≡ Some (decl_of Cs (value_plan f x Atom d ((n, 0) ∷ [])))) (sym w.is)
    (ap (λ c. if c then Some (decl_of Cs (value_plan w.f w.x Atom w.d ((w.n, 0) ∷ []))) else declaration_of (map (decl_of Cs) Qs ++ es) n)
    (other w.n (and-left (not (is_among (keys (names_of_plans Qs)) w.n)) (all_distinct (keys (names_of_plans Qs))) t')
    (same_text w.n n) refl)
    ∙ declared-in Cs Qs h.1 es f x d n
    (and-right (not (is_among (keys (names_of_plans Qs)) w.n)) (all_distinct (keys (names_of_plans Qs))) t') i)
  where
    other : (k : Text) → not (is_among (keys (names_of_plans Qs)) k) ≡ true → (c : Bool) → same_text k n ≡ c → same_text k n ≡ false
    other k o false q = q
    other k o true q =
        let z : is_among (keys (names_of_plans Qs)) k ≡ true =
        in-among (keys (names_of_plans Qs)) k (subst (λ y. In y (keys (names_of_plans Qs))) (sym (same_text-equal k n q))
        (name-of f x d n Qs i)) in
        let y : false ≡ true = ap not (sym z) ∙ o in cc
