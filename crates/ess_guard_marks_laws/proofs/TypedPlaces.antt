-- Types at each place of a guarded tree are those at the place before: told by the law on whole trees, of a comprehension over all
-- that binds names at the place.
use Rattle.std.proofs.Common.{◌≡◌, refl, sym, ap, ◌∙◌, subst, Bool, true, List, [], ◌∷◌, Option, Some, None, option_map, is_some}
use Rattle.ess_semantics.specs.Lists.{and_then}
use Rattle.ess_semantics.specs.Values.{Text, a_matrix}
use Rattle.ess_semantics.specs.Names.{Names}
use Rattle.ess_semantics.specs.Trees.{Pat, Ex, comp_ex, Gens, no_gens, over, from, cond, Dom, Doms, bool_dom, int_dom, name_dom, tuple_dom, record_dom, matrix_dom, set_dom, mset_dom, function_dom, relation_dom, partition_dom, no_doms, more_doms}
use Rattle.ess_semantics.specs.Types.{Ty, bool_ty, int_ty, compound, more_tys, compound1, compound2, join, or_any, type_of_dom, types_of_doms, nested_ty, bind_types}
use Rattle.ess_semantics.specs.Values.{a_tuple, a_set, a_mset, a_function, a_relation, a_partition, a_record}
use Rattle.ess_semantics.specs.OperatorTypes.{member_ty}
use Rattle.ess_semantics.specs.Typing.{type_of, types_under, source_ty}
use Rattle.ess_semantics.specs.NamesAt.{names_behind}
use Rattle.ess_guard_laws.specs.Origins.{Origin, with_any, with_over, known_behind}
use Rattle.ess_guard_laws.specs.Guard.{guarded, guarded_gens, guarded_dom, guarded_doms}
use Rattle.ess_guard_types_laws.specs.HasTypes.{agrees, HasTypes, GensHaveTypes, DomHasTypes}

-- ---- types of comprehensions

from-under : (p : Pat) (gs : Gens) (g : Names Ty) (o : Option Ty) → is_some o ≡ true →
    types_under gs (bind_types p (or_any o) g) ≡ Some (names_behind gs (bind_types p (or_any o) g)) →
    and_then o (λ t. types_under gs (bind_types p t g)) ≡ Some (names_behind gs (bind_types p (or_any o) g))
from-under p gs g None h r = cc
from-under p gs g (Some t) h r = r

cond-under : (o : Option Ty) (r : Option (Names Ty)) → agrees o bool_ty ≡ true → and_then o (λ t. and_then (join t bool_ty) (λ u. r)) ≡ r
cond-under None r h = cc
cond-under (Some t) r h = go (join t bool_ty) h
  where
    go : (j : Option Ty) → is_some j ≡ true → and_then j (λ u. r) ≡ r
    go None h = cc
    go (Some u) h = refl

types-under : (gs : Gens) (g : Names Ty) → GensHaveTypes gs g → types_under gs g ≡ Some (names_behind gs g)
types-under no_gens g h = refl
types-under (over p d gs) g h = types-under gs (bind_types p (type_of_dom d) g) h.1
types-under (from p e gs) g h =
    from-under p gs g (and_then (type_of e g) member_ty) h.0 (types-under gs (bind_types p (source_ty e g) g) h.2)
types-under (cond e gs) g h = cond-under (type_of e g) (types_under gs g) h.0 ∙ types-under gs g h.2

-- The type of a list of items of this type.
abbrev list_of : Option Ty → Option Ty
list_of o = option_map (compound2 a_matrix int_ty) o

comp-type : (e : Ex) (gs : Gens) (g : Names Ty) → GensHaveTypes gs g → type_of (comp_ex e gs) g ≡ list_of (type_of e (names_behind gs g))
comp-type e gs g h = ap (λ o. and_then o (λ h. list_of (type_of e h))) (types-under gs g h)

one-list : (o p : Option Ty) → list_of o ≡ list_of p → o ≡ p
one-list None None e = refl
one-list None (Some t) e = cc
one-list (Some t) None e = cc
one-list (Some t) (Some u) e = let r : t ≡ u = cc in ap (λ z. Some z) r

-- ---- types of domains

nested-same : (is js : Doms) (t u : Ty) → types_of_doms is ≡ types_of_doms js → t ≡ u → nested_ty is t ≡ nested_ty js u
nested-same no_doms no_doms t u e f = f
nested-same no_doms (more_doms j js) t u e f = cc
nested-same (more_doms i is) no_doms t u e f = cc
nested-same (more_doms i is) (more_doms j js) t u e f =
    let p : type_of_dom i ≡ type_of_dom j = cc in
    let q : types_of_doms is ≡ types_of_doms js = cc in
    ap (λ z. compound2 a_matrix z (nested_ty is t)) p ∙ ap (compound2 a_matrix (type_of_dom j)) (nested-same is js t u q f)

-- ---- what binds names at a place

-- A generator over a domain, or from a source.
pub data Bind : Type 0 where
  over_a : Pat → Dom → Bind
  from_a : Pat → Ex → Bind

-- Generators behind these, the newest of which stands first.
abbrev after : List Bind → Gens → Gens
after [] gs = gs
after (over_a p d ∷ bs) gs = after bs (over p d gs)
after (from_a p e ∷ bs) gs = after bs (from p e gs)

abbrev known : List Bind → Names Origin
known [] = []
known (over_a p d ∷ bs) = with_over p d (known bs)
known (from_a p e ∷ bs) = with_any p (known bs)

known-after : (bs : List Bind) (gs : Gens) → known_behind (after bs gs) [] ≡ known_behind gs (known bs)
known-after [] gs = refl
known-after (over_a p d ∷ bs) gs = known-after bs (over p d gs)
known-after (from_a p e ∷ bs) gs = known-after bs (from p e gs)

abbrev names : List Bind → Names Ty → Names Ty
names [] g = g
names (over_a p d ∷ bs) g = bind_types p (type_of_dom d) (names bs g)
names (from_a p e ∷ bs) g = bind_types p (source_ty e (names bs g)) (names bs g)

names-after : (bs : List Bind) (gs : Gens) (g : Names Ty) → names_behind (after bs gs) g ≡ names_behind gs (names bs g)
names-after [] gs g = refl
names-after (over_a p d ∷ bs) gs g = names-after bs (over p d gs) g
names-after (from_a p e ∷ bs) gs g = names-after bs (from p e gs) g

-- Each has types.
abbrev BindsTyped : List Bind → Names Ty → Type 0
BindsTyped [] g = Unit {0}
BindsTyped (over_a p d ∷ bs) g = BindsTyped bs g × DomHasTypes d (names bs g)
BindsTyped (from_a p e ∷ bs) g = BindsTyped bs g × (is_some (and_then (type_of e (names bs g)) member_ty) ≡ true) × HasTypes e (names bs g)

typed-after : (bs : List Bind) (gs : Gens) (g : Names Ty) → BindsTyped bs g → GensHaveTypes gs (names bs g) → GensHaveTypes (after bs gs) g
typed-after [] gs g t h = h
typed-after (over_a p d ∷ bs) gs g t h = typed-after bs (over p d gs) g t.0 (t.1, h)
typed-after (from_a p e ∷ bs) gs g t h = typed-after bs (from p e gs) g t.0 (t.1, t.2, h)

-- A place at which these names are known and have these types.
abbrev pub Place : Names Origin → Names Ty → Type 0
Place k g = (bs : List Bind) × (o : Names Ty) × BindsTyped bs o × (known bs ≡ k) × (names bs o ≡ g)

-- The place of the whole.
pub place-none : (g : Names Ty) → Place [] g
place-none g = ([], g, tt, refl, refl)

-- Behind a generator.
pub place-over : (p : Pat) (d : Dom) (k : Names Origin) (g : Names Ty) → Place k g → DomHasTypes d g →
    Place (with_over p d k) (bind_types p (type_of_dom d) g)
place-over p d k g c h =
    (over_a p d ∷ c.0, c.1, (c.2, subst (λ z. DomHasTypes d z) (sym c.4) h), ap (with_over p d) c.3, ap (bind_types p (type_of_dom d)) c.4)

pub place-from : (p : Pat) (e : Ex) (k : Names Origin) (g : Names Ty) → Place k g → is_some (and_then (type_of e g) member_ty) ≡ true →
    HasTypes e g → Place (with_any p k) (bind_types p (source_ty e g) g)
place-from p e k g c m h = (
  from_a p e ∷ c.0,
  c.1,
  (c.2, subst (λ z. is_some (and_then (type_of e z) member_ty) ≡ true) (sym c.4) m, subst (λ z. HasTypes e z) (sym c.4) h),
  ap (with_any p) c.3,
  ap (λ z. bind_types p (source_ty e z) z) c.4,
)

module _ (natural : Bool) (x y : Text) where
  abbrev G : Names Origin → Ex → Ex
  G = guarded natural x y

  abbrev D : Names Origin → Dom → Dom
  D = guarded_dom natural x y

  mutual
    -- The type of a domain stays.
    pub dom-type : (d : Dom) (k : Names Origin) → type_of_dom (D k d) ≡ type_of_dom d
    dom-type bool_dom k = refl
    dom-type (int_dom rs es) k = refl
    dom-type (name_dom a) k = refl
    dom-type (tuple_dom ds) k = ap (compound a_tuple) (doms-types ds k)
    dom-type (record_dom fs ds) k = ap (compound (a_record fs)) (doms-types ds k)
    dom-type (matrix_dom is d) k = nested-same (guarded_doms natural x y k is) is _ _ (doms-types is k) (dom-type d k)
    dom-type (set_dom ms es d) k = ap (compound1 a_set) (dom-type d k)
    dom-type (mset_dom ms es d) k = ap (compound1 a_mset) (dom-type d k)
    dom-type (function_dom ms es d c) k = ap (λ t. compound2 a_function t (type_of_dom (D k c))) (dom-type d k)
        ∙ ap (compound2 a_function (type_of_dom d)) (dom-type c k)
    dom-type (relation_dom ms es ds) k = ap (compound a_relation) (doms-types ds k)
    dom-type (partition_dom ms es d) k = ap (compound1 a_partition) (dom-type d k)

    doms-types : (ds : Doms) (k : Names Origin) → types_of_doms (guarded_doms natural x y k ds) ≡ types_of_doms ds
    doms-types no_doms k = refl
    doms-types (more_doms d ds) k = ap (λ t. more_tys t (types_of_doms (guarded_doms natural x y k ds))) (dom-type d k)
        ∙ ap (more_tys (type_of_dom d)) (doms-types ds k)

  abbrev guarded_binds : List Bind → List Bind
  guarded_binds [] = []
  guarded_binds (over_a p d ∷ bs) = over_a p (D (known bs) d) ∷ guarded_binds bs
  guarded_binds (from_a p e ∷ bs) = from_a p (G (known bs) e) ∷ guarded_binds bs

  guarded-after : (bs : List Bind) (gs : Gens) →
      guarded_gens natural x y [] (after bs gs) ≡ after (guarded_binds bs) (guarded_gens natural x y (known bs) gs)
  guarded-after [] gs = refl
  guarded-after (over_a p d ∷ bs) gs = guarded-after bs (over p d gs)
  guarded-after (from_a p e ∷ bs) gs = guarded-after bs (from p e gs)

  -- The law on whole trees.
  abbrev pub TypesLaw : Type 0
  TypesLaw = (g : Names Ty) (e : Ex) → HasTypes e g → HasTypes (G [] e) g × (type_of (G [] e) g ≡ type_of e g)

  module _ (law : TypesLaw) where
    same-at : (bs : List Bind) (o : Names Ty) → BindsTyped bs o → names (guarded_binds bs) o ≡ names bs o → (e : Ex) →
        HasTypes e (names bs o) → type_of (G (known bs) e) (names bs o) ≡ type_of e (names bs o)
    same-at bs o t s e h =
        let a : Gens = after bs no_gens in
        let i : GensHaveTypes a o = typed-after bs no_gens o t tt in
        let n : names_behind a o ≡ names bs o = names-after bs no_gens o in
        let l = law o (comp_ex e a) (i, subst (λ z. HasTypes e z) (sym n) h) in
        let m : names_behind (guarded_gens natural x y [] a) o ≡ names bs o =
        ap (λ z. names_behind z o) (guarded-after bs no_gens) ∙ names-after (guarded_binds bs) no_gens o ∙ s in
        ap (λ k. type_of (G k e) (names bs o)) (sym (known-after bs no_gens))
        ∙ ap (type_of (G (known_behind a []) e)) (sym m)
        ∙ one-list (type_of (G (known_behind a []) e) (names_behind (guarded_gens natural x y [] a) o)) (type_of e (names_behind a o))
        (sym (comp-type (G (known_behind a []) e) (guarded_gens natural x y [] a) o l.0.0) ∙ l.1 ∙ comp-type e a o i)
        ∙ ap (type_of e) n

    names-same : (bs : List Bind) (o : Names Ty) → BindsTyped bs o → names (guarded_binds bs) o ≡ names bs o
    names-same [] o t = refl
    names-same (over_a p d ∷ bs) o t =
        ap (λ z. bind_types p z (names (guarded_binds bs) o)) (dom-type d (known bs))
        ∙ ap (bind_types p (type_of_dom d)) (names-same bs o t.0)
    names-same (from_a p e ∷ bs) o t =
        ap (λ z. bind_types p (source_ty (G (known bs) e) z) z) (names-same bs o t.0)
        ∙ ap (λ z. bind_types p (or_any (and_then z member_ty)) (names bs o)) (same-at bs o t.0 (names-same bs o t.0) e t.2)

    -- A term has its type at each place.
    pub place-same : (k : Names Origin) (g : Names Ty) (e : Ex) → Place k g → HasTypes e g → type_of (G k e) g ≡ type_of e g
    place-same k g e c h =
        subst (λ z. HasTypes e z → type_of (G k e) z ≡ type_of e z) c.4
        (subst (λ z. HasTypes e (names c.0 c.1) → type_of (G z e) (names c.0 c.1) ≡ type_of e (names c.0 c.1)) c.3
        (λ u. same-at c.0 c.1 c.2 (names-same c.0 c.1 c.2) e u)) h
