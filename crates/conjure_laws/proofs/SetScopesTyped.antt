-- What is in scope at a line of a well typed specification of sets, beside what is declared before it.
use Rattle.std.proofs.Common.{◌≡◌, refl, sym, ap, ◌∙◌, subst, ℕ, suc, Bool, true, false, not, if◌then◌else◌, List, [], ◌∷◌, ◌++◌, map, length, ◌⊎◌, inl, inr, Option, Some, None, is_some, append-nil}
use Rattle.std.specs.List.{list_any}
use Rattle.ess_semantics.specs.Values.{Text}
use Rattle.ess_semantics.specs.Order.{same_text}
use Rattle.ess_semantics.specs.Names.{Names, look, keys, is_among, all_distinct}
use Rattle.ess_semantics.specs.Trees.{Stm}
use Rattle.ess_semantics.specs.Types.{Ty, named_ty, type_of_dom}
use Rattle.ess_semantics.specs.Lettings.{no_lettings}
use Rattle.ess_semantics.specs.Scopes.{Scope}
use Rattle.ess_semantics.specs.Judgements.{Judgement, ill_typed, not_finite, not_enumerable, open_given, meets, first_failed}
use Rattle.ess_semantics.proofs.Tests.{not-true}
use Rattle.ess_semantics.proofs.Texts.{same_text-itself}
use Rattle.conjure_laws.proofs.Lists.{in-left, in-right, in-either}
use Rattle.conjure_laws.specs.Members.{In}
use Rattle.conjure_laws.proofs.NamedTables.{among-in, in-among, keys-append}
use Rattle.conjure_laws.proofs.FreeNames.{AreNew}
use Rattle.conjure_laws.specs.SetsOfAtoms.{Declared, enum_values, Atom, sets_of, TypeKind, after, enum, given_type, unnamed, set_find, fixed, sized}
use Rattle.conjure_laws.proofs.SetNames.{none-taken}

-- ---- what a verdict says

-- A judgement that is passed, and those behind it.
pub passed : (j : Judgement) (js : List Judgement) (w t : Stm) (s : Scope) → first_failed (j ∷ js) w t s ≡ None →
    (meets j w t s ≡ true) × (first_failed js w t s ≡ None)
passed j js w t s e = go (meets j w t s) refl e
  where
    go : (b : Bool) → meets j w t s ≡ b → (if b then first_failed js w t s else Some j) ≡ None →
        (meets j w t s ≡ true) × (first_failed js w t s ≡ None)
    go true q e = (q, e)
    go false q e = cc

-- The judgements behind those on names.
abbrev pub later_judgements : List Judgement
later_judgements = ill_typed ∷ not_finite ∷ not_enumerable ∷ open_given ∷ []

-- The fault of a statement, or that of later ones.
abbrev pub fault_or : Option Judgement → Option (Judgement × ℕ) → ℕ → Option (Judgement × ℕ)
fault_or o r k = elim o [ Some j ↦ Some (j, k) | None ↦ r ]

-- No fault.
abbrev pub clean : Option (Judgement × ℕ) → Bool
clean o = elim o [ None ↦ true | Some f ↦ false ]

-- No fault: neither here nor later.
pub no-fault : (o : Option Judgement) (r : Option (Judgement × ℕ)) (k : ℕ) → fault_or o r k ≡ None → (o ≡ None) × (r ≡ None)
no-fault None r k e = (refl, e)
no-fault (Some j) r k e = cc

-- ---- scopes

-- The scope at a line.
abbrev pub scope : Names Ty → List Text → List Text → List Text → Scope
scope tys es us loose = record {
  tys = tys;
  lets = no_lettings;
  enums = es;
  unnamed = us;
  depends_on_finds = loose;
  objective = false;
}

-- The type is that of a find.
abbrev pub FindTy : Declared → Text → Ty → Type 0
FindTy c x ty = (A : Atom) × (look c.finds x ≡ Some A) × (ty ≡ type_of_dom (sets_of A))

-- The type is that of a value of an enumerated type.
abbrev pub ValueTy : Declared → Text → Ty → Type 0
ValueTy c x ty = (t : Text) × (k : ℕ) × (look c.values x ≡ Some (t, k)) × (ty ≡ named_ty t)

-- What is in scope, and what is declared before.
pub record Rel (c : Declared) (tys : Names Ty) (es us : List Text) : Type 0 where
  pub names : (x : Text) → In x c.names → In x (keys tys) ⊎ (In x es ⊎ In x us)
  pub types : (t : Text) → In t es ⊎ In t us → is_some (look c.types t) ≡ true
  pub types_of_names : (x : Text) (ty : Ty) → look tys x ≡ Some ty → FindTy c x ty ⊎ ValueTy c x ty

-- What has a type or is one is in scope.
pub in-scope : (tys : Names Ty) (es us : List Text) (x : Text) → In x (keys tys) ⊎ (In x es ⊎ In x us) →
    In x (keys tys ++ es ++ us ++ [])
in-scope tys es us x (inl i) = in-left x (keys tys ++ es ++ us) [] (in-left x (keys tys ++ es) us (in-left x (keys tys) es i))
in-scope tys es us x (inr (inl i)) = in-left x (keys tys ++ es ++ us) [] (in-left x (keys tys ++ es) us (in-right x (keys tys) es i))
in-scope tys es us x (inr (inr i)) = in-left x (keys tys ++ es ++ us) [] (in-right x (keys tys ++ es) us i)

-- A type in scope is an enumerated or an unnamed one.
pub type-in-scope : (es us : List Text) (t : Text) → is_among (es ++ us ++ []) t ≡ true → In t es ⊎ In t us
type-in-scope es us t e = in-either t es us (subst (In t) (append-nil (es ++ us)) (among-in (es ++ us ++ []) t e))

-- Names that are not in scope are new.
pub new-names : (c : Declared) (tys : Names Ty) (es us : List Text) → Rel c tys es us → (ns : List Text) → all_distinct ns ≡ true →
    not (list_any (is_among (keys tys ++ es ++ us ++ [])) ns) ≡ true → AreNew c.names ns
new-names c tys es us r ns d n = (
  none-taken c.names (keys tys ++ es ++ us ++ []) ns
      (λ x e. in-among (keys tys ++ es ++ us ++ []) x (in-scope tys es us x (r.names x (among-in c.names x e))))
      (not-true (list_any (is_among (keys tys ++ es ++ us ++ [])) ns) n),
  d,
)

-- ---- one line more

-- The names of the values of a type.
pub map-keys : (t : Text) (ns : List Text) → keys (map (λ n. (n, named_ty t)) ns) ≡ ns
map-keys t [] = refl
map-keys t (n ∷ ns) = ap (λ l. n ∷ l) (map-keys t ns)

-- A name behind an enumerated type has its type, or an older one.
pub enum-types : (t : Text) (k0 : ℕ) (ns : List Text) (tys : Names Ty) (vs : Names (Text × ℕ)) (x : Text) (ty : Ty) →
    look (map (λ n. (n, named_ty t)) ns ++ tys) x ≡ Some ty →
    ((k : ℕ) × (look (enum_values t k0 ns ++ vs) x ≡ Some (t, k)) × (ty ≡ named_ty t)) ⊎
    ((look tys x ≡ Some ty) × (look (enum_values t k0 ns ++ vs) x ≡ look vs x))
enum-types t k0 [] tys vs x ty e = inr (e, refl)
enum-types t k0 (n ∷ ns) tys vs x ty e = go (same_text n x) e (λ e. enum-types t (suc k0) ns tys vs x ty e)
  where
    go : (b : Bool) → (if b then Some (named_ty t) else look (map (λ n. (n, named_ty t)) ns ++ tys) x) ≡ Some ty →
        (look (map (λ n. (n, named_ty t)) ns ++ tys) x ≡ Some ty →
        ((k : ℕ) × (look (enum_values t (suc k0) ns ++ vs) x ≡ Some (t, k)) × (ty ≡ named_ty t)) ⊎
        ((look tys x ≡ Some ty) × (look (enum_values t (suc k0) ns ++ vs) x ≡ look vs x))) →
        ((k : ℕ) × ((if b then Some (t, k0) else look (enum_values t (suc k0) ns ++ vs) x) ≡ Some (t, k)) × (ty ≡ named_ty t)) ⊎
        ((look tys x ≡ Some ty) × ((if b then Some (t, k0) else look (enum_values t (suc k0) ns ++ vs) x) ≡ look vs x))
    go true e h = inl (k0, refl, let z : named_ty t ≡ ty = cc in sym z)
    go false e h = h e

new-type : (c : Declared) (es us : List Text) (u : Text) (k : TypeKind) →
    ((t : Text) → In t es ⊎ In t us → is_some (look c.types t) ≡ true) → (t : Text) → (u ≡ t) ⊎ (In t es ⊎ In t us) →
    is_some (look ((u, k) ∷ c.types) t) ≡ true
new-type c es us u k h t i = go (same_text u t) refl i
  where
    go : (b : Bool) → same_text u t ≡ b → (u ≡ t) ⊎ (In t es ⊎ In t us) →
        is_some (if same_text u t then Some k else look c.types t) ≡ true
    go true q i = ap (λ b. is_some (if b then Some k else look c.types t)) q
    go false q (inl e) = let z : false ≡ true = sym q ∙ ap (λ w. same_text w t) e ∙ same_text-itself t in cc
    go false q (inr i) = ap (λ b. is_some (if b then Some k else look c.types t)) q ∙ h t i

-- Behind an enumerated type.
pub rel-enum : (t : Text) (ns : List Text) (c : Declared) (tys : Names Ty) (es us : List Text) → Rel c tys es us →
    Rel (after (enum t ns) c) (map (λ n. (n, named_ty t)) ns ++ tys) (t ∷ es) us
rel-enum t ns c tys es us r = record {
  names = λ x i. name x i;
  types = λ u i. new-type c es us t (fixed (length ns)) r.types u (turn u i);
  types_of_names = λ x ty e. at x ty (enum-types t 1 ns tys c.values x ty e);
}
  where
    turn : (u : Text) → In u (t ∷ es) ⊎ In u us → (t ≡ u) ⊎ (In u es ⊎ In u us)
    turn u (inl (inl q)) = inl (sym q)
    turn u (inl (inr i)) = inr (inl i)
    turn u (inr i) = inr (inr i)

    lift : (x : Text) → In x (keys tys) ⊎ (In x es ⊎ In x us) →
        In x (keys (map (λ n. (n, named_ty t)) ns ++ tys)) ⊎ (In x (t ∷ es) ⊎ In x us)
    lift x (inl i) = inl (subst (In x) (sym (keys-append (map (λ n. (n, named_ty t)) ns) tys))
        (in-right x (keys (map (λ n. (n, named_ty t)) ns)) (keys tys) i))
    lift x (inr (inl i)) = inr (inl (inr i))
    lift x (inr (inr i)) = inr (inr i)

    name : (x : Text) → In x (t ∷ ns ++ c.names) → In x (keys (map (λ n. (n, named_ty t)) ns ++ tys)) ⊎ (In x (t ∷ es) ⊎ In x us)
    name x (inl q) = inr (inl (inl q))
    name x (inr i) = go (in-either x ns c.names i)
      where
        go : In x ns ⊎ In x c.names → In x (keys (map (λ n. (n, named_ty t)) ns ++ tys)) ⊎ (In x (t ∷ es) ⊎ In x us)
        go (inl j) = inl (subst (In x) (sym (keys-append (map (λ n. (n, named_ty t)) ns) tys))
            (in-left x (keys (map (λ n. (n, named_ty t)) ns)) (keys tys) (subst (In x) (sym (map-keys t ns)) j)))
        go (inr j) = lift x (r.names x j)

    at : (x : Text) (ty : Ty) → ((k : ℕ) × (look (enum_values t 1 ns ++ c.values) x ≡ Some (t, k)) × (ty ≡ named_ty t)) ⊎
        ((look tys x ≡ Some ty) × (look (enum_values t 1 ns ++ c.values) x ≡ look c.values x)) →
        FindTy (after (enum t ns) c) x ty ⊎ ValueTy (after (enum t ns) c) x ty
    at x ty (inl v) = inr (t, v.0, v.1, v.2)
    at x ty (inr v) = old (r.types_of_names x ty v.0)
      where
        old : FindTy c x ty ⊎ ValueTy c x ty → FindTy (after (enum t ns) c) x ty ⊎ ValueTy (after (enum t ns) c) x ty
        old (inl f) = inl f
        old (inr w) = inr (w.0, w.1, v.1 ∙ w.2, w.3)

-- Behind a given type.
pub rel-given : (t : Text) (c : Declared) (tys : Names Ty) (es us : List Text) → Rel c tys es us →
    Rel (after (given_type t) c) tys (t ∷ es) us
rel-given t c tys es us r = record {
  names = λ x i. name x i;
  types = λ u i. new-type c es us t sized r.types u (turn u i);
  types_of_names = r.types_of_names;
}
  where
    turn : (u : Text) → In u (t ∷ es) ⊎ In u us → (t ≡ u) ⊎ (In u es ⊎ In u us)
    turn u (inl (inl q)) = inl (sym q)
    turn u (inl (inr i)) = inr (inl i)
    turn u (inr i) = inr (inr i)

    lift : (x : Text) → In x (keys tys) ⊎ (In x es ⊎ In x us) → In x (keys tys) ⊎ (In x (t ∷ es) ⊎ In x us)
    lift x (inl i) = inl i
    lift x (inr (inl i)) = inr (inl (inr i))
    lift x (inr (inr i)) = inr (inr i)

    name : (x : Text) → In x (t ∷ c.names) → In x (keys tys) ⊎ (In x (t ∷ es) ⊎ In x us)
    name x (inl q) = inr (inl (inl q))
    name x (inr i) = lift x (r.names x i)

-- Behind an unnamed type.
pub rel-unnamed : (t : Text) (n : ℕ) (c : Declared) (tys : Names Ty) (es us : List Text) → Rel c tys es us →
    Rel (after (unnamed t n) c) tys es (t ∷ us)
rel-unnamed t n c tys es us r = record {
  names = λ x i. name x i;
  types = λ u i. new-type c es us t (fixed n) r.types u (turn u i);
  types_of_names = r.types_of_names;
}
  where
    turn : (u : Text) → In u es ⊎ In u (t ∷ us) → (t ≡ u) ⊎ (In u es ⊎ In u us)
    turn u (inr (inl q)) = inl (sym q)
    turn u (inl i) = inr (inl i)
    turn u (inr (inr i)) = inr (inr i)

    lift : (x : Text) → In x (keys tys) ⊎ (In x es ⊎ In x us) → In x (keys tys) ⊎ (In x es ⊎ In x (t ∷ us))
    lift x (inl i) = inl i
    lift x (inr (inl i)) = inr (inl i)
    lift x (inr (inr i)) = inr (inr (inr i))

    name : (x : Text) → In x (t ∷ c.names) → In x (keys tys) ⊎ (In x es ⊎ In x (t ∷ us))
    name x (inl q) = inr (inr (inl q))
    name x (inr i) = lift x (r.names x i)

-- Behind a find.
pub rel-find : (y : Text) (A : Atom) (c : Declared) (tys : Names Ty) (es us : List Text) → Rel c tys es us →
    Rel (after (set_find y A) c) ((y, type_of_dom (sets_of A)) ∷ tys) es us
rel-find y A c tys es us r = record {
  names = λ x i. name x i;
  types = r.types;
  types_of_names = λ x ty e. at x ty (same_text y x) refl e;
}
  where
    lift : (x : Text) → In x (keys tys) ⊎ (In x es ⊎ In x us) → In x (y ∷ keys tys) ⊎ (In x es ⊎ In x us)
    lift x (inl i) = inl (inr i)
    lift x (inr i) = inr i

    name : (x : Text) → In x (y ∷ c.names) → In x (y ∷ keys tys) ⊎ (In x es ⊎ In x us)
    name x (inl q) = inl (inl q)
    name x (inr i) = lift x (r.names x i)

    at : (x : Text) (ty : Ty) (b : Bool) → same_text y x ≡ b →
        (if same_text y x then Some (type_of_dom (sets_of A)) else look tys x) ≡ Some ty →
        FindTy (after (set_find y A) c) x ty ⊎ ValueTy (after (set_find y A) c) x ty
    at x ty true q e =
        let z : Some (type_of_dom (sets_of A)) ≡ Some ty = sym (ap (λ b. if b then Some (type_of_dom (sets_of A)) else look tys x) q)
        ∙ e in
        inl (
          A,
          ap (λ b. if b then Some A else look c.finds x) q,
          let w : type_of_dom (sets_of A) ≡ ty =
              one (type_of_dom (sets_of A)) ty z in sym w,
        )
      where
        one : (s t : Ty) → Some s ≡ Some t → s ≡ t
        one s t e = cc
    at x ty false q e = old (r.types_of_names x ty (sym (ap (λ b. if b then Some (type_of_dom (sets_of A)) else look tys x) q) ∙ e))
      where
        old : FindTy c x ty ⊎ ValueTy c x ty → FindTy (after (set_find y A) c) x ty ⊎ ValueTy (after (set_find y A) c) x ty
        old (inl f) = inl (f.0, ap (λ b. if b then Some A else look c.finds x) q ∙ f.1, f.2)
        old (inr v) = inr v
