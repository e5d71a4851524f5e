-- What is asked of the lines of a specification of sets: names are new, types are declared before, literals have the type of
-- the members. Then names keep what they have.
use Rattle.std.proofs.Common.{◌≡◌, refl, sym, ap, ◌∙◌, ℕ, suc, Bool, true, false, ◌||◌, if◌then◌else◌, List, [], ◌∷◌, ◌++◌, length, pos, Option, Some, None, is_some}
use Rattle.ess_semantics.specs.Lists.{list_or_none}
use Rattle.ess_semantics.specs.Values.{Text, Value}
use Rattle.ess_semantics.specs.Order.{same_text}
use Rattle.ess_semantics.specs.Names.{Names, look, keys, is_among}
use Rattle.ess_semantics.specs.Trees.{number_ex, given_enum, let_enum, let_unnamed, find, such_that}
use Rattle.ess_semantics.specs.Types.{Ty}
use Rattle.ess_semantics.specs.Lettings.{no_lettings, put_all, types_after}
use Rattle.ess_semantics.specs.Prepared.{resolve_all, prepared}
use Rattle.ess_semantics.specs.Meaning.{Env, TypeEntry, type_entry}
use Rattle.ess_semantics.specs.Assignments.{Assignment, value_of, value_if, enum_items, env_after, env_behind}
use Rattle.ess_semantics.proofs.Tests.{or-left-no, or-right-no, or-yes}
use Rattle.ess_semantics.specs.Contexts.{Each}
use Rattle.conjure_laws.proofs.Lists.{at-item}
use Rattle.conjure_laws.proofs.NamedTables.{among-in}
use Rattle.conjure_laws.proofs.FreeNames.{AreNew, among-append}
use Rattle.conjure_laws.specs.SetsOfAtoms.{Atom, Lit, Line, range, typed, boolean, num, truth_lit, value_name, enum, given_type, unnamed, set_find, holds_lit, sets_of, membership, statement, spec, TypeKind, fixed, sized, Declared, after, after_all}

-- ---- what is asked of a line

-- A named type is declared before.
abbrev pub Known : Declared → Atom → Type 0
Known c (range a b) = Unit {0}
Known c boolean = Unit {0}
Known c (typed t) = is_some (look c.types t) ≡ true

-- A literal is of the type of a set's members.
abbrev pub Fits : Declared → Lit → Option Atom → Type 0
Fits c (num k) (Some (range a b)) = Unit {0}
Fits c (truth_lit b) (Some boolean) = Unit {0}
Fits c (value_name n) (Some (typed t)) = (k : ℕ) × (look c.values n ≡ Some (t, k))
Fits c l o = ⊥

-- Names are new, types are declared before, literals have the type of the set's members.
abbrev pub Fine : Declared → List Line → Type 0
Fine c [] = Unit {0}
Fine c (enum t ns ∷ U) = AreNew c.names (t ∷ ns) × Fine (after (enum t ns) c) U
Fine c (given_type t ∷ U) = AreNew c.names (t ∷ []) × Fine (after (given_type t) c) U
Fine c (unnamed t n ∷ U) = AreNew c.names (t ∷ []) × Fine (after (unnamed t n) c) U
Fine c (set_find x A ∷ U) = AreNew c.names (x ∷ []) × Known c A × Fine (after (set_find x A) c) U
Fine c (holds_lit l x ∷ U) = Fits c l (look c.finds x) × Fine c U

-- ---- small

-- The specification is prepared as it is.
pub prepared-itself : (T : List Line) → prepared (spec T) ≡ spec T
prepared-itself T = go T [] []
  where
    go : (T : List Line) (g h : Names Ty) → resolve_all (put_all (spec T) no_lettings g) h ≡ spec T
    go [] g h = refl
    go (enum t ns ∷ T) g h = ap (λ l. let_enum t ns ∷ l) (go T (types_after (let_enum t ns) g) (types_after (let_enum t ns) h))
    go (given_type t ∷ T) g h = ap (λ l. given_enum t ∷ l) (go T g h)
    go (unnamed t n ∷ T) g h = ap (λ l. let_unnamed t (number_ex (pos n)) ∷ l) (go T g h)
    go (set_find x (range a b) ∷ T) g h = ap (λ l. find x (sets_of (range a b)) ∷ l)
        (go T (types_after (find x (sets_of (range a b))) g) (types_after (find x (sets_of (range a b))) h))
    go (set_find x boolean ∷ T) g h = ap (λ l. find x (sets_of boolean) ∷ l)
        (go T (types_after (find x (sets_of boolean)) g) (types_after (find x (sets_of boolean)) h))
    go (set_find x (typed t) ∷ T) g h = ap (λ l. find x (sets_of (typed t)) ∷ l)
        (go T (types_after (find x (sets_of (typed t))) g) (types_after (find x (sets_of (typed t))) h))
    go (holds_lit (num k) x ∷ T) g h = ap (λ l. such_that (membership (num k) x) ∷ l) (go T g h)
    go (holds_lit (truth_lit b) x ∷ T) g h = ap (λ l. such_that (membership (truth_lit b) x) ∷ l) (go T g h)
    go (holds_lit (value_name n) x ∷ T) g h = ap (λ l. such_that (membership (value_name n) x) ∷ l) (go T g h)

-- The names of the values of an enumerated type.
item-keys : (t : Text) (k : ℕ) (ns : List Text) → keys (enum_items t k ns) ≡ ns
item-keys t k [] = refl
item-keys t k (n ∷ ns) = ap (λ l. n ∷ l) (item-keys t (suc k) ns)

-- A name that the first map doesn't have is looked up in the second one.
pub look-past : {A : Type 0} (bs cs : Names A) (n : Text) → is_among (keys bs) n ≡ false → look (bs ++ cs) n ≡ look cs n
look-past [] cs n e = refl
look-past (b ∷ bs) cs n e =
    ap (λ k. if k then Some b.1 else look (bs ++ cs) n) (or-left-no (same_text b.0 n) (is_among (keys bs) n) e)
    ∙ look-past bs cs n (or-right-no (same_text b.0 n) (is_among (keys bs) n) e)

-- A name that is known isn't a new one.
pub not-new : (g ns : List Text) (x : Text) → Each ns (λ n. is_among g n ≡ false) → is_among g x ≡ true → is_among ns x ≡ false
not-new g ns x h e = go (is_among ns x) refl
  where
    go : (b : Bool) → is_among ns x ≡ b → is_among ns x ≡ false
    go false q = q
    go true q = let z : true ≡ false = sym e ∙ at-item (λ n. is_among g n ≡ false) ns x h (among-in ns x q) in cc

-- It differs from one that isn't known.
pub other : (g : List Text) (t x : Text) → is_among g t ≡ false → is_among g x ≡ true → same_text t x ≡ false
other g t x n e = or-left-no (same_text t x) false (not-new g (t ∷ []) x (n, tt) e)

-- The values of given types have new names.
abbrev pub Fresh : Assignment → List Text → List Line → Type 0
Fresh p D [] = Unit {0}
Fresh p D (given_type t ∷ U) = Each (list_or_none (look p.types t)) (λ n. is_among D n ≡ false) × Fresh p D U
Fresh p D (l ∷ U) = Fresh p D U

-- What is known stays known.
pub known-later : (l : Line) (c : Declared) (x : Text) → is_among c.names x ≡ true → is_among (after l c).names x ≡ true
known-later (enum t ns) c x e = among-append (t ∷ ns) c.names x ∙ ap (λ b. is_among (t ∷ ns) x || b) e ∙ or-yes (is_among (t ∷ ns) x)
known-later (given_type t) c x e = ap (λ b. same_text t x || b) e ∙ or-yes (same_text t x)
known-later (unnamed t n) c x e = ap (λ b. same_text t x || b) e ∙ or-yes (same_text t x)
known-later (set_find y A) c x e = ap (λ b. same_text y x || b) e ∙ or-yes (same_text y x)
known-later (holds_lit l y) c x e = e

-- What is asked of later lines.
pub fine-later : (l : Line) (U : List Line) (c : Declared) → Fine c (l ∷ U) → Fine (after l c) U
fine-later (enum t ns) U c f = f.1
fine-later (given_type t) U c f = f.1
fine-later (unnamed t n) U c f = f.1
fine-later (set_find x A) U c f = f.2
fine-later (holds_lit l x) U c f = f.1

-- The same of new names.
pub fresh-later : (p : Assignment) (D : List Text) (l : Line) (U : List Line) → Fresh p D (l ∷ U) → Fresh p D U
fresh-later p D (given_type t) U f = f.1
fresh-later p D (enum t ns) U f = f
fresh-later p D (unnamed t n) U f = f
fresh-later p D (set_find x A) U f = f
fresh-later p D (holds_lit l x) U f = f

-- ---- names keep what they have

module _ (p a : Assignment) (D : List Text) where
  -- A line changes the value of no name that is known.
  pub value-step : (l : Line) (U : List Line) (env : Env) (c : Declared) → Fine c (l ∷ U) → Fresh p D (l ∷ U) → (x : Text) →
      is_among c.names x ≡ true → is_among D x ≡ true → look (env_after (statement l) p a env).vals x ≡ look env.vals x
  value-step (enum t ns) U env c f r x i d = look-past (enum_items t 1 ns) env.vals x
      (ap (λ l. is_among l x) (item-keys t 1 ns) ∙ not-new c.names ns x f.0.0.1 i)
  value-step (given_type t) U env c f r x i d =
      look-past (enum_items t 1 (list_or_none (look p.types t))) env.vals x
      (ap (λ l. is_among l x) (item-keys t 1 (list_or_none (look p.types t))) ∙ not-new D (list_or_none (look p.types t)) x r.0 d)
  value-step (unnamed t n) U env c f r x i d = refl
  value-step (holds_lit l y) U env c f r x i d = refl
  value-step (set_find y A) U env c f r x i d = go (value_of a y)
    where
      go : (o : Option Value) → look (value_if y o env.vals) x ≡ look env.vals x
      go None = refl
      go (Some v) = ap (λ b. if b then Some v else look env.vals x) (other c.names y x f.0.0.0 i)

  -- No line does.
  pub value-stays : (U : List Line) (env : Env) (c : Declared) → Fine c U → Fresh p D U → (x : Text) → is_among c.names x ≡ true →
      is_among D x ≡ true → look (env_behind (spec U) p a env).vals x ≡ look env.vals x
  value-stays [] env c f r x i d = refl
  value-stays (l ∷ U) env c f r x i d =
      value-stays U (env_after (statement l) p a env) (after l c) (fine-later l U c f) (fresh-later p D l U r) x (known-later l c x i)
      d
      ∙ value-step l U env c f r x i d

  type-skip : (e : TypeEntry) (ts : List TypeEntry) (t : Text) → same_text e.name t ≡ false → type_entry (e ∷ ts) t ≡ type_entry ts t
  type-skip e ts t n = ap (λ b. elim b [ true ↦ Some e | false ↦ type_entry ts t ]) n

  -- Nor the entry of a type.
  pub type-step : (l : Line) (U : List Line) (env : Env) (c : Declared) → Fine c (l ∷ U) → (t : Text) → is_among c.names t ≡ true →
      type_entry (env_after (statement l) p a env).types t ≡ type_entry env.types t
  type-step (enum u ns) U env c f t i = type-skip (record { name = u; count = length ns; names = ns }) env.types t
      (other c.names u t f.0.0.0 i)
  type-step (given_type u) U env c f t i =
      type-skip (record { name = u; count = length (list_or_none (look p.types u)); names = list_or_none (look p.types u) }) env.types
      t
      (other c.names u t f.0.0.0 i)
  type-step (unnamed u n) U env c f t i = type-skip (record { name = u; count = n; names = [] }) env.types t
      (other c.names u t f.0.0.0 i)
  type-step (holds_lit l y) U env c f t i = refl
  type-step (set_find y A) U env c f t i = refl

  -- No line does.
  pub type-stays : (U : List Line) (env : Env) (c : Declared) → Fine c U → (t : Text) → is_among c.names t ≡ true →
      type_entry (env_behind (spec U) p a env).types t ≡ type_entry env.types t
  type-stays [] env c f t i = refl
  type-stays (l ∷ U) env c f t i = type-stays U (env_after (statement l) p a env) (after l c) (fine-later l U c f) t
      (known-later l c t i)
      ∙ type-step l U env c f t i

kind-step : (l : Line) (U : List Line) (c : Declared) → Fine c (l ∷ U) → (t : Text) → is_among c.names t ≡ true →
    look (after l c).types t ≡ look c.types t
kind-step (enum u ns) U c f t i = ap (λ b. if b then Some (fixed (length ns)) else look c.types t) (other c.names u t f.0.0.0 i)
kind-step (given_type u) U c f t i = ap (λ b. if b then Some sized else look c.types t) (other c.names u t f.0.0.0 i)
kind-step (unnamed u n) U c f t i = ap (λ b. if b then Some (fixed n) else look c.types t) (other c.names u t f.0.0.0 i)
kind-step (holds_lit l y) U c f t i = refl
kind-step (set_find y A) U c f t i = refl

-- A type that is known keeps its kind.
pub kind-stays : (U : List Line) (c : Declared) → Fine c U → (t : Text) → is_among c.names t ≡ true →
    look (after_all U c).types t ≡ look c.types t
kind-stays [] c f t i = refl
kind-stays (l ∷ U) c f t i = kind-stays U (after l c) (fine-later l U c f) t (known-later l c t i) ∙ kind-step l U c f t i

-- ---- what is known at the end

-- The number of values of a type.
abbrev pub count_of : Assignment → Text → TypeKind → ℕ
count_of p t (fixed n) = n
count_of p t sized = length (list_or_none (look p.types t))

-- The entry of a type.
abbrev pub Entry : Assignment → Text → TypeKind → Env → Type 0
Entry p t k env = (ns : List Text) × (type_entry env.types t ≡ Some (record { name = t; count = count_of p t k; names = ns }))
