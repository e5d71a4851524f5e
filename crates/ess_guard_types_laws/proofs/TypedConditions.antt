-- Conditions in which each part has a type, and what is built of them.
use Rattle.std.proofs.Common.{◌≡◌, refl, sym, ap, ◌∙◌, subst, Bool, true, false, List, [], ◌∷◌, ◌++◌, Option, Some, None, option_map, is_some}
use Rattle.ess_semantics.specs.declared.words.Op2.{Op2}
use Rattle.ess_semantics.specs.declared.words.Fun.{Fun}
use Rattle.ess_semantics.specs.Lists.{and_then, all_some}
use Rattle.ess_semantics.specs.Values.{a_matrix}
use Rattle.ess_semantics.specs.Names.{Names}
use Rattle.ess_semantics.specs.Trees.{binary, word, Pat, Ex, number_ex, truth_ex, name_ex, node_ex, matrix_ex, comp_ex, cell_ex, seen_ex, Gens, no_gens, over, from, cond, Dom, ex2, fun1}
use Rattle.ess_semantics.specs.Types.{Ty, any_ty, bool_ty, int_ty, named_ty, compound, compound2, is_bool, join, or_any, type_of_dom, bind_types}
use Rattle.ess_semantics.specs.OperatorTypes.{member_ty, type_of_binary, type_of_word1, type_of_op}
use Rattle.ess_semantics.specs.Typing.{type_of, types_under, source_ty}
use Rattle.ess_semantics.specs.NamesAt.{names_behind}
use Rattle.ess_guard_laws.specs.Conditions.{conds, chained, all_of, every, given_that, unless}
use Rattle.ess_guard_types_laws.specs.HasTypes.{agrees, fits_mark, HasTypes, GensHaveTypes, DomHasTypes}

-- A condition: each part has a type, and its own is bool.
pub record Cond (c : Ex) (g : Names Ty) : Type 0 where
  pub typed : HasTypes c g
  pub bool : type_of c g ≡ Some bool_ty

-- Several.
abbrev pub Conds : List Ex → Names Ty → Type 0
Conds [] g = Unit {0}
Conds (c ∷ cs) g = Cond c g × Conds cs g

pub both-conds : (cs ds : List Ex) (g : Names Ty) → Conds cs g → Conds ds g → Conds (cs ++ ds) g
both-conds [] ds g p q = q
both-conds (c ∷ cs) ds g p q = (p.0, both-conds cs ds g p.1 q)

pub unless-conds : (t : Bool) (c : Ex) (g : Names Ty) → Cond c g → Conds (unless t c) g
unless-conds true c g p = tt
unless-conds false c g p = (p, tt)

-- ---- the types of nodes

-- The type of an expression.
abbrev pub TypeOf : Ex → Names Ty → Type 0
TypeOf e g = (t : Ty) × (type_of e g ≡ Some t)

pub there : (o : Option Ty) → is_some o ≡ true → (t : Ty) × (o ≡ Some t)
there None h = cc
there (Some t) h = (t, refl)

pub two-type : (o : Op2) (x y : Option Ty) (a b : Ty) → x ≡ Some a → y ≡ Some b →
    and_then (all_some (x ∷ y ∷ [])) (type_of_op (binary o)) ≡ type_of_binary o a b
two-type o x y a b p q =
    ap (λ z. and_then (all_some (z ∷ y ∷ [])) (type_of_op (binary o))) p
    ∙ ap (λ z. and_then (all_some (Some a ∷ z ∷ [])) (type_of_op (binary o))) q

pub one-type : (f : Fun) (x : Option Ty) (a : Ty) → x ≡ Some a → and_then (all_some (x ∷ [])) (type_of_op (word f)) ≡ type_of_word1 f a
one-type f x a p = ap (λ z. and_then (all_some (z ∷ [])) (type_of_op (word f))) p

-- A Boolean with two operands.
pub two-cond : (o : Op2) (e f : Ex) (a b : Ty) (g : Names Ty) → HasTypes e g → HasTypes f g → type_of e g ≡ Some a → type_of f g ≡ Some b →
    type_of_binary o a b ≡ Some bool_ty → Cond (ex2 true o e f) g
two-cond o e f a b g h k p q r =
    let t : type_of (ex2 true o e f) g ≡ Some bool_ty = two-type o (type_of e g) (type_of f g) a b p q ∙ r in
    record { typed = (ap is_bool t, refl, (h, (k, tt))); bool = t }

-- A word on one operand, that isn't a Boolean.
pub word-types : (f : Fun) (e : Ex) (a t : Ty) (g : Names Ty) → HasTypes e g → type_of e g ≡ Some a → type_of_word1 f a ≡ Some t →
    HasTypes (fun1 false f e) g × (type_of (fun1 false f e) g ≡ Some t)
word-types f e a t g h p r =
    let q : type_of (fun1 false f e) g ≡ Some t = one-type f (type_of e g) a p ∙ r in ((ap is_some q, refl, (h, tt)), q)

pub word-cond : (f : Fun) (e : Ex) (a : Ty) (g : Names Ty) → HasTypes e g → type_of e g ≡ Some a → type_of_word1 f a ≡ Some bool_ty →
    Cond (fun1 true f e) g
word-cond f e a g h p r =
    let q : type_of (fun1 true f e) g ≡ Some bool_ty = one-type f (type_of e g) a p ∙ r in
    record { typed = (ap is_bool q, refl, (h, tt)); bool = q }

-- ---- generators

from-under : (p : Pat) (gs : Gens) (g : Names Ty) (o : Option Ty) → is_some o ≡ true →
    types_under gs (bind_types p (or_any o) g) ≡ Some (names_behind gs (bind_types p (or_any o) g)) →
    and_then o (λ t. types_under gs (bind_types p t g)) ≡ Some (names_behind gs (bind_types p (or_any o) g))
from-under p gs g None h r = cc
from-under p gs g (Some t) h r = r

cond-under : (o : Option Ty) (r : Option (Names Ty)) → agrees o bool_ty ≡ true → and_then o (λ t. and_then (join t bool_ty) (λ u. r)) ≡ r
cond-under None r h = cc
cond-under (Some t) r h = go (join t bool_ty) h
  where
    go : (j : Option Ty) → is_some j ≡ true → and_then j (λ u. r) ≡ r
    go None h = cc
    go (Some u) h = refl

-- The types of names under generators that have types.
pub types-under : (gs : Gens) (g : Names Ty) → GensHaveTypes gs g → types_under gs g ≡ Some (names_behind gs g)
types-under no_gens g h = refl
types-under (over p d gs) g h = types-under gs (bind_types p (type_of_dom d) g) h.1
types-under (from p e gs) g h =
    from-under p gs g (and_then (type_of e g) member_ty) h.0 (types-under gs (bind_types p (source_ty e g) g) h.2)
types-under (cond e gs) g h = cond-under (type_of e g) (types_under gs g) h.0 ∙ types-under gs g h.2

-- The type of a comprehension.
pub comp-type : (e : Ex) (gs : Gens) (t : Ty) (g : Names Ty) → GensHaveTypes gs g → type_of e (names_behind gs g) ≡ Some t →
    type_of (comp_ex e gs) g ≡ Some (compound2 a_matrix int_ty t)
comp-type e gs t g h p =
    ap (λ o. and_then o (λ h. option_map (compound2 a_matrix int_ty) (type_of e h))) (types-under gs g h)
    ∙ ap (option_map (compound2 a_matrix int_ty)) p

-- What has types has one.
pub some-type : (e : Ex) (g : Names Ty) → HasTypes e g → is_some (type_of e g) ≡ true
some-type (number_ex n) g h = refl
some-type (truth_ex b) g h = refl
some-type (name_ex a) g h = h
some-type (node_ex b op es) g h = go b (type_of (node_ex b op es) g) h.0
  where
    go : (b : Bool) (o : Option Ty) → fits_mark b o ≡ true → is_some o ≡ true
    go false o k = k
    go true None k = cc
    go true (Some t) k = refl
some-type (matrix_ex es d) g h = h.0
some-type (comp_ex e gs) g h =
    let t = there (type_of e (names_behind gs g)) (some-type e (names_behind gs g) h.1) in ap is_some (comp-type e gs t.0 g h.0 t.1)
some-type (cell_ex b n es) g h = refl
some-type (seen_ex r d ns es) g h = refl

-- Its type.
pub its-type : (e : Ex) (g : Names Ty) → HasTypes e g → TypeOf e g
its-type e g h = there (type_of e g) (some-type e g h)

-- ---- what is built of conditions

conds-behind : (cs : List Ex) (g : Names Ty) → names_behind (conds cs) g ≡ g
conds-behind [] g = refl
conds-behind (c ∷ cs) g = conds-behind cs g

conds-types : (cs : List Ex) (g : Names Ty) → Conds cs g → GensHaveTypes (conds cs) g
conds-types [] g p = tt
conds-types (c ∷ cs) g p =
    let q : Cond c g = p.0 in (ap (λ o. agrees o bool_ty) q.bool, q.typed, conds-types cs g p.1)

-- `and` and `or` of a comprehension.
pub fold-cond : (f : Fun) (e : Ex) (gs : Gens) (g : Names Ty) → type_of_word1 f (compound2 a_matrix int_ty bool_ty) ≡ Some bool_ty →
    GensHaveTypes gs g → Cond e (names_behind gs g) → Cond (fun1 true f (comp_ex e gs)) g
fold-cond f e gs g r h c = word-cond f (comp_ex e gs) (compound2 a_matrix int_ty bool_ty) g (h, c.typed)
    (comp-type e gs bool_ty g h c.bool) r

-- A Boolean under conditions.
pub chained-cond : (cs : List Ex) (b : Ex) (g : Names Ty) → Conds cs g → Cond b g → Cond (chained cs b) g
chained-cond [] b g p q = q
chained-cond (c ∷ cs) b g p q =
    fold-cond Fun.Or b (conds (c ∷ cs)) g refl (conds-types (c ∷ cs) g p) (subst (λ h. Cond b h) (sym (conds-behind (c ∷ cs) g)) q)

-- A number under conditions.
pub summed-types : (c : Ex) (cs : List Ex) (e : Ex) (t : Ty) (g : Names Ty) → Conds (c ∷ cs) g → HasTypes e g → type_of e g ≡ Some t →
    is_some (join t int_ty) ≡ true → HasTypes (fun1 false Fun.Sum (comp_ex e (conds (c ∷ cs)))) g
summed-types c cs e t g p h q i =
    let k : GensHaveTypes (conds (c ∷ cs)) g = conds-types (c ∷ cs) g p in
    let b : g ≡ names_behind (conds (c ∷ cs)) g = sym (conds-behind (c ∷ cs) g) in
    let w = word-types Fun.Sum (comp_ex e (conds (c ∷ cs))) (compound2 a_matrix int_ty t) int_ty g (k, subst (λ h. HasTypes e h) b h)
    (comp-type e (conds (c ∷ cs)) t g k (subst (λ h. type_of e h ≡ Some t) b q)) (fits (join t int_ty) i) in w.0
  where
    fits : (j : Option Ty) → is_some j ≡ true → option_map (λ v. int_ty) j ≡ Some int_ty
    fits None h = cc
    fits (Some v) h = refl

-- That all conditions hold.
pub all-of-cond : (cs : List Ex) (g : Names Ty) → Conds cs g → Cond (all_of cs) g
all-of-cond [] g p = record { typed = tt; bool = refl }
all-of-cond (c ∷ []) g p = p.0
all-of-cond (c ∷ d ∷ cs) g p = chained-cond (c ∷ []) (all_of (d ∷ cs)) g (p.0, tt) (all-of-cond (d ∷ cs) g p.1)

-- At each member of a domain.
pub over-conds : (p : Pat) (d : Dom) (cs : List Ex) (g : Names Ty) → DomHasTypes d g → Conds cs (bind_types p (type_of_dom d) g) →
    Conds (every (over p d no_gens) cs) g
over-conds p d [] g h k = tt
over-conds p d (c ∷ cs) g h k =
    (fold-cond Fun.And (all_of (c ∷ cs)) (over p d no_gens) g refl (h, tt) (all-of-cond (c ∷ cs) (bind_types p (type_of_dom d) g) k), tt)

-- At each item of a source.
pub from-conds : (p : Pat) (s : Ex) (cs : List Ex) (g : Names Ty) → is_some (and_then (type_of s g) member_ty) ≡ true → HasTypes s g →
    Conds cs (bind_types p (source_ty s g) g) → Conds (every (from p s no_gens) cs) g
from-conds p s [] g m h k = tt
from-conds p s (c ∷ cs) g m h k =
    (fold-cond Fun.And (all_of (c ∷ cs)) (from p s no_gens) g refl (m, h, tt) (all-of-cond (c ∷ cs) (bind_types p (source_ty s g) g) k), tt)

implied : (t : Ty) → is_some (join t bool_ty) ≡ true → type_of_binary Op2.Implies t bool_ty ≡ Some bool_ty
implied any_ty h = refl
implied bool_ty h = refl
implied int_ty h = cc
implied (named_ty a) h = cc
implied (compound k ts) h = cc

-- Where another one holds.
pub given-conds : (b : Ex) (cs : List Ex) (g : Names Ty) → HasTypes b g → agrees (type_of b g) bool_ty ≡ true → Conds cs g →
    Conds (given_that b cs) g
given-conds b [] g h a k = tt
given-conds b (c ∷ cs) g h a k =
    let t = its-type b g h in
    let q = all-of-cond (c ∷ cs) g k in (
      two-cond Op2.Implies b (all_of (c ∷ cs)) t.0 bool_ty g h q.typed t.1 q.bool
          (implied t.0 (sym (ap (λ o. agrees o bool_ty) t.1) ∙ a)),
      tt,
    )
