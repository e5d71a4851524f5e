-- Where no two values of named types have one name, each name is read as its value.
use Rattle.std.proofs.Common.{◌≡◌, refl, sym, ap, ◌∙◌, subst, ℕ, zero, suc, ◌+◌, ◌<◌, ◌≤◌, ◌^◌, Bool, true, false, ◌&&◌, ◌||◌, not, if◌then◌else◌, List, [], ◌∷◌, ◌++◌, map, length, Option, Some, None, nat_le, codes, arith}
use Rattle.std.proofs.lemmas.Bool.Decides.{nat_tests}
use Rattle.ess_semantics.specs.Lists.{append_all, or_else, or_default, when, is_empty, item_number}
use Rattle.ess_semantics.specs.Values.{Text, Value, item}
use Rattle.ess_semantics.specs.Order.{same_text}
use Rattle.ess_semantics.specs.Names.{is_among, all_distinct}
use Rattle.ess_semantics.specs.Contexts.{Each}
use Rattle.ess_semantics.specs.Meaning.{TypeEntry, type_entry}
use Rattle.ess_semantics.specs.NameTokens.{are_digits, value_after}
use Rattle.ess_semantics.specs.Judgements.{after_prefix}
use Rattle.ess_semantics.specs.Assignments.{unnamed_name, unnamed_names}
use Rattle.ess_semantics.specs.Literals.{unnamed_item, named_item, item_of_name}
use Rattle.ess_semantics.proofs.Tests.{and-left, and-right, not-true, or-yes}
use Rattle.ess_semantics.proofs.Texts.{same_text-equal, same_text-itself}
use Rattle.conjure_laws.proofs.FreeNames.{among-append, halves}
use Rattle.ess_values_laws.specs.ItemNames.{name_at, entry_name, item_name}
use Rattle.ess_values_laws.proofs.Options.{then-some, when-some}
use Rattle.ess_member_literals_laws.specs.ToldDomains.{NamesItems}
use Rattle.ess_value_names_laws.proofs.UnnamedNames.{name-read, among-unnamed}

-- The names of a type's values.
abbrev pub value_names : TypeEntry → List Text
value_names e = if is_empty e.names then unnamed_names e.name 1 e.count else e.names

-- The names of the values of several types.
abbrev pub all_value_names : List TypeEntry → List Text
all_value_names ts = append_all (map value_names ts)

-- An enumerated type has as many values as names; an unnamed one fewer than 2^64.
pub record IsRight (e : TypeEntry) : Type 0 where
  pub small : is_empty e.names ≡ true → e.count < 2 ^ 64
  pub listed : is_empty e.names ≡ false → e.count ≡ length e.names

-- The first entry where the test holds.
abbrev chosen : TypeEntry → Option TypeEntry → Bool → Option TypeEntry
chosen t o true = Some t
chosen t o false = o

-- The name of the k-th value of an entry that is there.
abbrev pub name_in : ℕ → Option TypeEntry → Text
name_in k None = []
name_in k (Some e) = entry_name e k

-- The value of a type with this name.
abbrev own : TypeEntry → Text → Option Value
own e a = if is_empty e.names then unnamed_item e a else named_item e.name 1 e.names a

-- ---- one type

named-among : (t : Text) (k : ℕ) (ns : List Text) (a : Text) (v : Value) → named_item t k ns a ≡ Some v → is_among ns a ≡ true
named-among t k [] a v e = cc
named-among t k (n ∷ ns) a v e = go (same_text n a) e (named-among t (suc k) ns a v)
  where
    go : (b : Bool) → (if b then Some (item t k) else named_item t (suc k) ns a) ≡ Some v →
        (named_item t (suc k) ns a ≡ Some v → is_among ns a ≡ true) → b || is_among ns a ≡ true
    go true e f = refl
    go false e f = f e

unnamed-own : (e : TypeEntry) (a : Text) (v : Value) → unnamed_item e a ≡ Some v → is_among (unnamed_names e.name 1 e.count) a ≡ true
unnamed-own e a v q =
    let ds = then-some (after_prefix (e.name ++ codes "_") a) (λ ds. when (are_digits ds && same_text a (unnamed_name e.name (value_after 0 ds)) &&
    nat_le 1 (value_after 0 ds) && nat_le (value_after 0 ds) e.count) (item e.name (value_after 0 ds))) v q in
    let k : ℕ = value_after 0 ds.0 in
    let h = (when-some (are_digits ds.0 && same_text a (unnamed_name e.name k) && nat_le 1 k && nat_le k e.count) (item e.name k) v ds.2).0 in
    let l = and-left (are_digits ds.0 && same_text a (unnamed_name e.name k) && nat_le 1 k) (nat_le k e.count) h in
    let u = and-right (are_digits ds.0 && same_text a (unnamed_name e.name k) && nat_le 1 k) (nat_le k e.count) h in
    let m = and-right (are_digits ds.0 && same_text a (unnamed_name e.name k)) (nat_le 1 k) l in
    let s = and-right (are_digits ds.0) (same_text a (unnamed_name e.name k))
    (and-left (are_digits ds.0 && same_text a (unnamed_name e.name k)) (nat_le 1 k) l) in
    ap (is_among (unnamed_names e.name 1 e.count)) (same_text-equal a (unnamed_name e.name k) s)
    ∙ among-unnamed e.name 1 e.count k (low k m) (high k e.count u)
  where
    low : (k : ℕ) → nat_le 1 k ≡ true → 1 ≤ k
    low k m = grind (arith, nat_tests)

    high : (k n : ℕ) → nat_le k n ≡ true → k < 1 + n
    high k n m = grind (arith, nat_tests)

-- What a name of a type names has one of its names.
own-among : (e : TypeEntry) (a : Text) (v : Value) → own e a ≡ Some v → is_among (value_names e) a ≡ true
own-among e a v q = go (is_empty e.names) q
  where
    go : (b : Bool) → (if b then unnamed_item e a else named_item e.name 1 e.names a) ≡ Some v →
        is_among (if b then unnamed_names e.name 1 e.count else e.names) a ≡ true
    go true q = unnamed-own e a v q
    go false q = named-among e.name 1 e.names a v q

-- the name with i names before it
abbrev name_behind : List Text → ℕ → Text
name_behind ns i = or_default (item_number ns i) []

not-first : (n m : Text) (ns : List Text) → is_among ns n ≡ false → is_among ns m ≡ true → same_text n m ≡ false
not-first n m ns f i = go (same_text n m) refl
  where
    go : (b : Bool) → same_text n m ≡ b → same_text n m ≡ false
    go false q = q
    go true q = let z : false ≡ true = sym f ∙ ap (is_among ns) (same_text-equal n m q) ∙ i in cc

named-at : (t : Text) (j : ℕ) (ns : List Text) (i m : ℕ) → all_distinct ns ≡ true → i < length ns → m ≡ j + i →
    (named_item t j ns (name_behind ns i) ≡ Some (item t m)) × (is_among ns (name_behind ns i) ≡ true)
named-at t j [] i m d l e = absurd (omega arith)
named-at t j (n ∷ ns) zero m d l e = (
  ap (λ b. if b then Some (item t j) else named_item t (suc j) ns n) (same_text-itself n)
      ∙ ap (λ k. Some (item t k)) (let f : j ≡ m = omega arith in f),
  ap (λ b. b || is_among ns n) (same_text-itself n),
)
named-at t j (n ∷ ns) (suc i) m d l e =
    let r = named-at t (suc j) ns i m (and-right (not (is_among ns n)) (all_distinct ns) d) (omega arith) (omega arith) in
    let f : same_text n (name_behind ns i) ≡ false =
    not-first n (name_behind ns i) ns (not-true (is_among ns n) (and-left (not (is_among ns n)) (all_distinct ns) d)) r.1 in (
      ap (λ b. if b then Some (item t j) else named_item t (suc j) ns (name_behind ns i)) f ∙ r.0,
      ap (λ b. same_text n (name_behind ns i) || b) r.1 ∙ or-yes (same_text n (name_behind ns i)),
    )

named-own : (t : Text) (ns : List Text) (k : ℕ) → all_distinct ns ≡ true → nat_le 1 k ≡ true → nat_le k (length ns) ≡ true →
    (named_item t 1 ns (name_at ns k) ≡ Some (item t k)) × (is_among ns (name_at ns k) ≡ true)
named-own t ns zero d l u = cc
named-own t ns (suc i) d l u = named-at t 1 ns i (suc i) d (grind (arith, nat_tests)) (omega arith)

-- Each value of a type has a name of it, that names it.
own-named : (e : TypeEntry) (k : ℕ) → IsRight e → all_distinct (value_names e) ≡ true → nat_le 1 k ≡ true → nat_le k e.count ≡ true →
    (own e (entry_name e k) ≡ Some (item e.name k)) × (is_among (value_names e) (entry_name e k) ≡ true)
own-named e k r d l u = go (is_empty e.names) refl d
  where
    low : (k : ℕ) → nat_le 1 k ≡ true → 1 ≤ k
    low k m = grind (arith, nat_tests)

    high : (k n : ℕ) → nat_le k n ≡ true → k < 1 + n
    high k n m = grind (arith, nat_tests)

    go : (b : Bool) → is_empty e.names ≡ b → all_distinct (if b then unnamed_names e.name 1 e.count else e.names) ≡ true →
        let a : Text = if b then unnamed_name e.name k else name_at e.names k in
        ((if b then unnamed_item e a else named_item e.name 1 e.names a) ≡ Some (item e.name k)) ×
        (is_among (if b then unnamed_names e.name 1 e.count else e.names) a ≡ true)
    go true q d =
        let s = r.small q in
        let h = high k e.count u in (
          name-read e k (omega arith) l u,
          among-unnamed e.name 1 e.count k (low k l) h,
        )
    go false q d = named-own e.name e.names k d l (ap (nat_le k) (sym (r.listed q)) ∙ u)

-- ---- several types

in-all : (ts : List TypeEntry) (t : Text) (e : TypeEntry) (a : Text) → type_entry ts t ≡ Some e → is_among (value_names e) a ≡ true →
    is_among (all_value_names ts) a ≡ true
in-all [] t e a q i = cc
in-all (n ∷ ts) t e a q i = among-append (value_names n) (all_value_names ts) a ∙ go (same_text n.name t) q (in-all ts t e a)
  where
    go : (b : Bool) → chosen n (type_entry ts t) b ≡ Some e →
        (type_entry ts t ≡ Some e → is_among (value_names e) a ≡ true → is_among (all_value_names ts) a ≡ true) →
        is_among (value_names n) a || is_among (all_value_names ts) a ≡ true
    go true q f = let z : n ≡ e = cc in ap (λ m. is_among (value_names m) a || is_among (all_value_names ts) a) z
        ∙ ap (λ b. b || is_among (all_value_names ts) a) i
    go false q f = ap (λ b. is_among (value_names n) a || b) (f q i) ∙ or-yes (is_among (value_names n) a)

-- The entry of a type that is there is one of them.
pub entry-right : (ts : List TypeEntry) (t : Text) (e : TypeEntry) (P : TypeEntry → Type 0) → Each ts P → type_entry ts t ≡ Some e → P e
entry-right [] t e P h q = cc
entry-right (n ∷ ts) t e P h q = go (same_text n.name t) q (entry-right ts t e P h.1)
  where
    go : (b : Bool) → chosen n (type_entry ts t) b ≡ Some e → (type_entry ts t ≡ Some e → P e) → P e
    go true q f = let z : n ≡ e = cc in subst P z h.0
    go false q f = f q

-- the names of the values of an entry in the list are distinct
entry-distinct : (ts : List TypeEntry) (t : Text) (e : TypeEntry) → all_distinct (all_value_names ts) ≡ true → type_entry ts t ≡ Some e →
    all_distinct (value_names e) ≡ true
entry-distinct [] t e d q = cc
entry-distinct (n ∷ ts) t e d q =
    let h = halves (value_names n) (all_value_names ts) d in go h.0 (same_text n.name t) q (entry-distinct ts t e h.1)
  where
    go : all_distinct (value_names n) ≡ true → (b : Bool) → chosen n (type_entry ts t) b ≡ Some e →
        (type_entry ts t ≡ Some e → all_distinct (value_names e) ≡ true) → all_distinct (value_names e) ≡ true
    go h true q f = let z : n ≡ e = cc in ap (λ m. all_distinct (value_names m)) (sym z) ∙ h
    go h false q f = f q

-- A name that an earlier list has is none of a later one.
apart : (xs ys : List Text) (a : Text) → all_distinct (xs ++ ys) ≡ true → is_among ys a ≡ true → is_among xs a ≡ false
apart [] ys a d i = refl
apart (x ∷ xs) ys a d i =
    let n = not-true (is_among (xs ++ ys) x) (and-left (not (is_among (xs ++ ys) x)) (all_distinct (xs ++ ys)) d) in
    ap (λ b. b || is_among xs a)
    (not-first x a (xs ++ ys) n (among-append xs ys a ∙ ap (λ b. is_among xs a || b) i ∙ or-yes (is_among xs a)))
    ∙ apart xs ys a (and-right (not (is_among (xs ++ ys) x)) (all_distinct (xs ++ ys)) d) i

-- Each name is read as its value.
pub entries-named : (ts : List TypeEntry) → Each ts IsRight → all_distinct (all_value_names ts) ≡ true → NamesItems (item_name ts) ts
entries-named [] r d t e k q l u = cc
entries-named (n ∷ ts) r d t e k q l u =
    go (same_text n.name t) refl q (entries-named ts r.1 (halves (value_names n) (all_value_names ts) d).1 t e k)
  where
    named : (m : TypeEntry) → chosen n (type_entry ts t) (same_text n.name t) ≡ Some m →
        item_name (n ∷ ts) t k ≡ entry_name m k
    named m z = ap (name_in k) z

    absent : (a : Text) → is_among (value_names n) a ≡ false → own n a ≡ None
    absent a h = by (own n a) refl
      where
        by : (o : Option Value) → own n a ≡ o → own n a ≡ None
        by None z = z
        by (Some v) z = let y : false ≡ true = sym h ∙ own-among n a v z in cc

    go : (b : Bool) → same_text n.name t ≡ b → chosen n (type_entry ts t) b ≡ Some e →
        (type_entry ts t ≡ Some e → nat_le 1 k ≡ true → nat_le k e.count ≡ true →
        item_of_name ts (item_name ts t k) ≡ Some (item t k)) →
        item_of_name (n ∷ ts) (item_name (n ∷ ts) t k) ≡ Some (item t k)
    go true s q f =
        let z : n ≡ e = cc in
        let h = own-named n k r.0 (halves (value_names n) (all_value_names ts) d).0 l (ap (λ m. nat_le k m.count) z ∙ u) in
        ap (item_of_name (n ∷ ts)) (named n (ap (chosen n (type_entry ts t)) s))
        ∙ ap (λ o. or_else o (item_of_name ts (entry_name n k))) h.0 ∙ ap (λ x. Some (item x k)) (same_text-equal n.name t s)
    go false s q f =
        let same : item_name (n ∷ ts) t k ≡ item_name ts t k =
        ap (λ b. name_in k (chosen n (type_entry ts t) b)) s in
        let a : Text = item_name ts t k in
        let at : a ≡ entry_name e k = ap (name_in k) q in
        let h = own-named e k (entry-right ts t e IsRight r.1 q)
        (entry-distinct ts t e (halves (value_names n) (all_value_names ts) d).1 q) l u in
        let i : is_among (all_value_names ts) a ≡ true = in-all ts t e a q (ap (is_among (value_names e)) at ∙ h.1) in
        ap (item_of_name (n ∷ ts)) same
        ∙ ap (λ o. or_else o (item_of_name ts a)) (absent a (apart (value_names n) (all_value_names ts) a d i)) ∙ f q l u
