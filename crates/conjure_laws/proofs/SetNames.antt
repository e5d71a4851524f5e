-- The names of values of enumerated types: in a parameter those of given types are new, and each keeps its type and position.
use Rattle.std.proofs.Common.{◌≡◌, refl, sym, ap, ◌∙◌, ℕ, suc, Bool, true, false, ◌&&◌, ◌||◌, not, if◌then◌else◌, List, [], ◌∷◌, ◌++◌, map, ◌⊎◌, inl, inr, Option, Some, None, is_some}
use Rattle.std.specs.List.{list_any}
use Rattle.ess_semantics.specs.Lists.{append_all, list_or_none, or_else}
use Rattle.ess_semantics.specs.Values.{Text, Value, item}
use Rattle.ess_semantics.specs.Order.{same_text}
use Rattle.ess_semantics.specs.Names.{Names, look, keys, is_among, all_distinct}
use Rattle.ess_semantics.specs.Meaning.{TypeEntry, type_entry}
use Rattle.ess_semantics.specs.Assignments.{Assignment, nothing_given, enum_items, placed, unnamed_sizes, unnamed_names}
use Rattle.ess_semantics.specs.Parameters.{Param, all_declared, first_extra_type, first_extra_value, givens, given_enums, is_accepted, are_new, taken_value_names}
use Rattle.ess_semantics.proofs.Tests.{and-right, or-left-no, or-right-no, not-true, or-yes}
use Rattle.ess_semantics.proofs.Texts.{same_text-equal, same_text-itself}
use Rattle.ess_semantics.specs.Contexts.{Each}
use Rattle.conjure_laws.specs.Members.{In}
use Rattle.conjure_laws.proofs.NamedTables.{among-in, in-among}
use Rattle.conjure_laws.proofs.FreeNames.{AreNew, new-behind, among-append, less-taken}
use Rattle.ess_semantics.specs.Solutions.{finds}
use Rattle.conjure_laws.specs.SetsOfAtoms.{Line, enum, given_type, unnamed, set_find, holds_lit, statement, spec, TypeKind, Declared, enum_values, after, after_all}
use Rattle.conjure_laws.proofs.SetScopes.{Fresh, Fine, count_of, look-past, fine-later, known-later, not-new}
use Rattle.ess_semantics.specs.NameTokens.{are_name_tokens}
use Rattle.ess_semantics.specs.Judgements.{declares}

-- ---- new names for the values of given types

-- A letting of a type is too many.
abbrev is_extra : List Text → List Text → Names ℕ → List Text → List Text → Text → List Text → Bool
is_extra gs es us done taken u ns = is_among done u || (if is_among gs u then is_among es u && not (are_new ns taken) else not
    (is_accepted us u ns))

-- Names of which none is taken are none of those that are among the taken ones.
pub none-taken : (D taken ns : List Text) → ((x : Text) → is_among D x ≡ true → is_among taken x ≡ true) →
    list_any (is_among taken) ns ≡ false → Each ns (λ n. is_among D n ≡ false)
none-taken D taken [] h e = tt
none-taken D taken (n ∷ ns) h e = (
  go (is_among D n) refl,
  none-taken D taken ns h
      (or-right-no (is_among taken n) (list_any (is_among taken) ns) e),
)
  where
    go : (b : Bool) → is_among D n ≡ b → is_among D n ≡ false
    go false q = q
    go true q = let z : true ≡ false = sym (h n q) ∙ or-left-no (is_among taken n) (list_any (is_among taken) ns) e in cc

fresh-type : (gs es : List Text) (us : Names ℕ) (D : List Text) (ts : Names (List Text)) (done taken : List Text) →
    first_extra_type gs es us ts done taken ≡ None → ((x : Text) → is_among D x ≡ true → is_among taken x ≡ true) →
    (t : Text) → is_among gs t ≡ true → is_among es t ≡ true → Each (list_or_none (look ts t)) (λ n. is_among D n ≡ false)
fresh-type gs es us D [] done taken e h t g s = tt
fresh-type gs es us D (u ∷ ts) done taken e h t g s =
    go (is_extra gs es us done taken u.0 u.1) refl e (λ e. fresh-type gs es us D ts (u.0 ∷ done) (u.1 ++ taken) e
    (λ x i. among-append u.1 taken x ∙ ap (λ b. is_among u.1 x || b) (h x i) ∙ or-yes (is_among u.1 x)) t g s)
  where
    mine : u.0 ≡ t → is_extra gs es us done taken u.0 u.1 ≡ false → Each u.1 (λ n. is_among D n ≡ false)
    mine q n =
        let x : is_among gs u.0 ≡ true = ap (is_among gs) q ∙ g in
        let y : is_among es u.0 ≡ true = ap (is_among es) q ∙ s in
        let w : not (are_new u.1 taken) ≡ false =
        sym (ap (λ b. if b then is_among es u.0 && not (are_new u.1 taken) else not (is_accepted us u.0 u.1)) x
        ∙ ap (λ b. b && not (are_new u.1 taken)) y)
        ∙ or-right-no (is_among done u.0) (if is_among gs u.0 then is_among es u.0 && not (are_new u.1 taken) else not
        (is_accepted us u.0 u.1)) n in
        let v : are_new u.1 taken ≡ true = yes (are_new u.1 taken) w in
        none-taken D taken u.1 h (not-true (list_any (is_among taken) u.1)
        (and-right (are_name_tokens u.1 && all_distinct u.1) (not (list_any (is_among taken) u.1)) v))
      where
        yes : (b : Bool) → not b ≡ false → b ≡ true
        yes true e = refl
        yes false e = cc

    go : (b : Bool) → is_extra gs es us done taken u.0 u.1 ≡ b →
        (if b then Some u.0 else first_extra_type gs es us ts (u.0 ∷ done) (u.1 ++ taken)) ≡ None →
        (first_extra_type gs es us ts (u.0 ∷ done) (u.1 ++ taken) ≡ None →
        Each (list_or_none (look ts t)) (λ n. is_among D n ≡ false)) →
        Each (list_or_none (look (u ∷ ts) t)) (λ n. is_among D n ≡ false)
    go true q e k = cc
    go false q e k = at (same_text u.0 t) refl
      where
        at : (b : Bool) → same_text u.0 t ≡ b → Each (list_or_none (if b then Some u.1 else look ts t)) (λ n. is_among D n ≡ false)
        at true r = mine (same_text-equal u.0 t r) q
        at false r = k e

fresh-lines : (p : Assignment) (D gs es : List Text) →
    ((t : Text) → is_among gs t ≡ true → is_among es t ≡ true → Each (list_or_none (look p.types t)) (λ n. is_among D n ≡ false)) →
    (U : List Line) → ((t : Text) → In t (given_enums (spec U)) → (is_among gs t ≡ true) × (is_among es t ≡ true)) → Fresh p D U
fresh-lines p D gs es f [] k = tt
fresh-lines p D gs es f (given_type t ∷ U) k = (let h = k t (inl refl) in f t h.0 h.1, fresh-lines p D gs es f U (λ u i. k u (inr i)))
fresh-lines p D gs es f (enum t ns ∷ U) k = fresh-lines p D gs es f U k
fresh-lines p D gs es f (unnamed t n ∷ U) k = fresh-lines p D gs es f U k
fresh-lines p D gs es f (set_find x A ∷ U) k = fresh-lines p D gs es f U k
fresh-lines p D gs es f (holds_lit l x ∷ U) k = fresh-lines p D gs es f U k

no-else : (o q : Option Text) → not (is_some (or_else o q)) ≡ true → o ≡ None
no-else None q e = refl
no-else (Some x) q e = cc

given-too : (U : List Line) (t : Text) → In t (given_enums (spec U)) → In t (givens (spec U))
given-too [] t i = i
given-too (given_type u ∷ U) t (inl e) = inl e
given-too (given_type u ∷ U) t (inr i) = inr (given-too U t i)
given-too (enum u ns ∷ U) t i = given-too U t i
given-too (unnamed u n ∷ U) t i = given-too U t i
given-too (set_find x A ∷ U) t i = given-too U t i
given-too (holds_lit l x ∷ U) t i = given-too U t i

-- In a parameter the values of given types have new names.
pub fresh : (T : List Line) (p : Assignment) → Param (spec T) p → Fresh p (all_declared (spec T)) T
fresh T p P =
    let us : Names ℕ = unnamed_sizes (placed (spec T) p nothing_given) in
    let D : List Text = all_declared (spec T) in
    let e = no-else (first_extra_type (givens (spec T)) (given_enums (spec T)) us p.types [] (taken_value_names (spec T) us))
    (first_extra_value (givens (spec T)) p.vals (keys p.types)) P.nothing_else in
    fresh-lines p D (givens (spec T)) (given_enums (spec T))
    (λ t g s. fresh-type (givens (spec T)) (given_enums (spec T)) us D p.types [] (taken_value_names (spec T) us) e
    (λ x i. among-append D (append_all (map (λ u. unnamed_names u.0 1 u.1) us)) x
    ∙ ap (λ b. b || is_among (append_all (map (λ u. unnamed_names u.0 1 u.1) us)) x) i) t g s)
    T (λ t i. (in-among (givens (spec T)) t (given-too T t i), in-among (given_enums (spec T)) t i))

-- An entry is one.
pub of-some : (v w : Text × ℕ) → Some v ≡ Some w → v ≡ w
of-some v w e = cc

-- The names of the values are those that are given.
pub value-keys : (t : Text) (k : ℕ) (ns : List Text) → keys (enum_values t k ns) ≡ ns
value-keys t k [] = refl
value-keys t k (n ∷ ns) = ap (λ l. n ∷ l) (value-keys t (suc k) ns)

place-step : (l : Line) (U : List Line) (c : Declared) → Fine c (l ∷ U) → (n : Text) → is_among c.names n ≡ true →
    look (after l c).values n ≡ look c.values n
place-step (enum u ns) U c f n i = look-past (enum_values u 1 ns) c.values n
    (ap (λ l. is_among l n) (value-keys u 1 ns) ∙ not-new c.names ns n f.0.0.1 i)
place-step (given_type u) U c f n i = refl
place-step (unnamed u m) U c f n i = refl
place-step (holds_lit l y) U c f n i = refl
place-step (set_find y A) U c f n i = refl

-- A value keeps its type and position.
pub place-stays : (U : List Line) (c : Declared) → Fine c U → (n : Text) → is_among c.names n ≡ true →
    look (after_all U c).values n ≡ look c.values n
place-stays [] c f n i = refl
place-stays (l ∷ U) c f n i = place-stays U (after l c) (fine-later l U c f) n (known-later l c n i) ∙ place-step l U c f n i

-- What is new beside more names is new beside fewer.
pub less-new : (ms g ns : List Text) → AreNew (ms ++ g) ns → AreNew g ns
less-new ms g ns n = less-taken ms g ns n

-- What a map with one more entry has.
pub look-cons : {A : Type 0} (x y : Text) (v w : A) (g : Names A) → look ((x, v) ∷ g) y ≡ Some w →
    ((x ≡ y) × (v ≡ w)) ⊎ (look g y ≡ Some w)
look-cons {A = A} x y v w g e = go (same_text x y) refl e
  where
    go : (b : Bool) → same_text x y ≡ b → (if b then Some v else look g y) ≡ Some w → ((x ≡ y) × (v ≡ w)) ⊎ (look g y ≡ Some w)
    go true q e = inl (same_text-equal x y q, let z : v ≡ w = cc in z)
    go false q e = inr e

-- The values of an enumerated type are found by their names.
pub enumerated : (t : Text) (k0 : ℕ) (ns : List Text) (vs : Names (Text × ℕ)) (gs : Names Value) (n u : Text) (k : ℕ) →
    look (enum_values t k0 ns ++ vs) n ≡ Some (u, k) → (look vs n ≡ Some (u, k) → look gs n ≡ Some (item u k)) →
    look (enum_items t k0 ns ++ gs) n ≡ Some (item u k)
enumerated t k0 [] vs gs n u k e f = f e
enumerated t k0 (m ∷ ns) vs gs n u k e f = go (same_text m n) e (λ e. enumerated t (suc k0) ns vs gs n u k e f)
  where
    go : (b : Bool) → (if b then Some (t, k0) else look (enum_values t (suc k0) ns ++ vs) n) ≡ Some (u, k) →
        (look (enum_values t (suc k0) ns ++ vs) n ≡ Some (u, k) → look (enum_items t (suc k0) ns ++ gs) n ≡ Some (item u k)) →
        (if b then Some (item t k0) else look (enum_items t (suc k0) ns ++ gs) n) ≡ Some (item u k)
    go true e h = ap (λ z. Some (item z.0 z.1)) (of-some (t, k0) (u, k) e)
    go false e h = h e

-- Their names are known.
pub enumerated-name : (t : Text) (k0 : ℕ) (ns : List Text) (vs : Names (Text × ℕ)) (g : List Text) (n u : Text) (k : ℕ) →
    look (enum_values t k0 ns ++ vs) n ≡ Some (u, k) → (look vs n ≡ Some (u, k) → is_among g n ≡ true) → is_among (ns ++ g) n ≡ true
enumerated-name t k0 [] vs g n u k e f = f e
enumerated-name t k0 (m ∷ ns) vs g n u k e f = go (same_text m n) e (λ e. enumerated-name t (suc k0) ns vs g n u k e f)
  where
    go : (b : Bool) → (if b then Some (t, k0) else look (enum_values t (suc k0) ns ++ vs) n) ≡ Some (u, k) →
        (look (enum_values t (suc k0) ns ++ vs) n ≡ Some (u, k) → is_among (ns ++ g) n ≡ true) → b || is_among (ns ++ g) n ≡ true
    go true e h = refl
    go false e h = h e

-- A type that is declared has its entry.
pub new-entry : (p : Assignment) (t : Text) (k : TypeKind) (ns : List Text) (ts : List TypeEntry) →
    type_entry (record { name = t; count = count_of p t k; names = ns } ∷ ts) t ≡ Some
    (record { name = t; count = count_of p t k; names = ns })
new-entry p t k ns ts = ap (λ b. elim b [
  | true ↦ Some (record { name = t; count = count_of p t k; names = ns })
  | false ↦ type_entry
      ts t
])
    (same_text-itself t)

-- The names that are known behind a line.
pub line-names : (l : Line) (c : Declared) (x : Text) → is_among (after l c).names x ≡ true →
    (In x (declares (statement l))) ⊎ (is_among c.names x ≡ true)
line-names (enum t ns) c x e = go (is_among (t ∷ ns) x) refl (sym (among-append (t ∷ ns) c.names x) ∙ e)
  where
    go : (b : Bool) → is_among (t ∷ ns) x ≡ b → is_among (t ∷ ns) x || is_among c.names x ≡ true →
        In x (t ∷ ns) ⊎ (is_among c.names x ≡ true)
    go true q e = inl (among-in (t ∷ ns) x q)
    go false q e = inr (sym (ap (λ b. b || is_among c.names x) q) ∙ e)
line-names (given_type t) c x e = one-name t c x e
  where
    one-name : (t : Text) (c : Declared) (x : Text) → same_text t x || is_among c.names x ≡ true →
        In x (t ∷ []) ⊎ (is_among c.names x ≡ true)
    one-name t c x e = go (same_text t x) refl e
      where
        go : (b : Bool) → same_text t x ≡ b → b || is_among c.names x ≡ true → In x (t ∷ []) ⊎ (is_among c.names x ≡ true)
        go true q e = inl (inl (sym (same_text-equal t x q)))
        go false q e = inr e
line-names (unnamed t n) c x e = go (same_text t x) refl e
  where
    go : (b : Bool) → same_text t x ≡ b → b || is_among c.names x ≡ true → In x (t ∷ []) ⊎ (is_among c.names x ≡ true)
    go true q e = inl (inl (sym (same_text-equal t x q)))
    go false q e = inr e
line-names (set_find t A) c x e = go (same_text t x) refl e
  where
    go : (b : Bool) → same_text t x ≡ b → b || is_among c.names x ≡ true → In x (t ∷ []) ⊎ (is_among c.names x ≡ true)
    go true q e = inl (inl (sym (same_text-equal t x q)))
    go false q e = inr e
line-names (holds_lit l y) c x e = inr e

-- A name is among itself and others.
pub one-among : (t : Text) (g : List Text) → is_among (t ∷ g) t ≡ true
one-among t g = ap (λ b. b || is_among g t) (same_text-itself t)

-- There is a value where it is said so.
pub is-there : {A : Type 0} (o : Option A) → is_some o ≡ true → (x : A) × (o ≡ Some x)
is-there None e = cc
is-there (Some x) e = (x, refl)

-- The names of the finds are new.
pub finds-new : (U : List Line) (c : Declared) → Fine c U → AreNew c.names (finds (spec U))
finds-new [] c f = (tt, refl)
finds-new (set_find x A ∷ U) c f = new-behind c.names (x ∷ []) (finds (spec U)) f.0
    (finds-new U (after (set_find x A) c) f.2)
finds-new (enum t ns ∷ U) c f = less-new (t ∷ ns) c.names (finds (spec U))
    (finds-new U (after (enum t ns) c) f.1)
finds-new (given_type t ∷ U) c f = less-new (t ∷ []) c.names (finds (spec U))
    (finds-new U (after (given_type t) c) f.1)
finds-new (unnamed t n ∷ U) c f = less-new (t ∷ []) c.names (finds (spec U))
    (finds-new U (after (unnamed t n) c) f.1)
finds-new (holds_lit l x ∷ U) c f = finds-new U c f.1
