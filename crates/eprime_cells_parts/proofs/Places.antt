-- Where names stand in lists, and the map that says it.
use Rattle.std.proofs.Common.{◌≡◌, refl, sym, ap, ◌∙◌, subst, ℕ, zero, suc, ◌+◌, ◌<◌, ◌≤◌, nat_lt, Bool, true, false, ◌||◌, cond, if◌then◌else◌, List, [], ◌∷◌, ◌++◌, length, get_or, take, slice_get, Option, Some, None, option_map, is_some, arith}
use Rattle.std.specs.Map.{lookup}
use Rattle.std.specs.BTreeMap.{BTreeMap, get, is_at, IsEmpty, Updates}
use Rattle.std.proofs.lemmas.Bool.Decides.{nat_tests}
use Rattle.std.proofs.lemmas.List.{take_more, take_all, map-append}
use Rattle.ess_semantics.specs.Lists.{and_then, is_some_and}
use Rattle.ess_semantics.specs.Values.{Text}
use Rattle.ess_semantics.specs.Order.{order_text, same_text}
use Rattle.ess_semantics.specs.Names.{keys, look, is_among}
use Rattle.ess_semantics.proofs.Texts.{same_text-equal}
use Rattle.eprime_cells_machine.specs.declared.values.CellLetting.{CellLetting}
use Rattle.eprime_cells_machine.specs.ValueViews.{pure_value, pure_lettings}
use Rattle.eprime_cells_parts.specs.DeclaredNames.{place_of, HasPlaces}
use Rattle.eprime_cells_parts.proofs.LookedThrough.{names_of, keys-names}

-- ---- one name more

-- A place, or else another.
abbrev or_place : Option ℕ → Option ℕ → Option ℕ
or_place (Some p) o = Some p
or_place None o = o

push-place : (ns : List Text) (n a : Text) → place_of (ns ++ n ∷ []) a
    ≡ or_place (place_of ns a) (if same_text n a then Some (length ns) else None)
push-place [] n a = refl
push-place (m ∷ ns) n a = go (same_text m a) (push-place ns n a)
  where
    next : (b : Bool) (k : ℕ) → option_map suc (if b then Some k else None) ≡ (if b then Some (suc k) else None)
    next true k = refl
    next false k = refl

    moved : (o : Option ℕ) (b : Bool) (k : ℕ) → option_map suc (or_place o (if b then Some k else None))
        ≡ or_place (option_map suc o) (if b then Some (suc k) else None)
    moved (Some p) b k = refl
    moved None b k = next b k

    go : (c : Bool) → place_of (ns ++ n ∷ []) a ≡ or_place (place_of ns a) (if same_text n a then Some (length ns) else None) →
        (if c then Some 0 else option_map suc (place_of (ns ++ n ∷ []) a))
        ≡ or_place (if c then Some 0 else option_map suc (place_of ns a)) (if same_text n a then Some (suc (length ns)) else None)
    go true h = refl
    go false h = ap (option_map suc) h ∙ moved (place_of ns a) (same_text n a) (length ns)

-- A map of no names.
pub no_places : (m : BTreeMap Text ℕ) → IsEmpty m → HasPlaces [] m
no_places m e a = ap (λ es. lookup (is_at (order_text a)) es) e

-- A name that isn't known is put at its place,
pub place_put : (ns : List Text) (n k : Text) (i : ℕ) (m p : BTreeMap Text ℕ) → HasPlaces ns m → is_some (get order_text m n) ≡ false → k
    ≡ n → i ≡ length ns → Updates order_text m p k (Some i) → HasPlaces (ns ++ n ∷ []) p
place_put ns n k i m p h new ke ie u a =
    let w : Updates order_text m p n (Some i) = subst (λ k. Updates order_text m p k (Some i)) ke u in
    w.0 a ∙ ap (cond (same_text n a) (Some i)) (h a) ∙ here (same_text n a) refl (place_of ns a) refl ∙ sym (push-place ns n a)
  where
    none-there : same_text n a ≡ true → (q : ℕ) → place_of ns a ≡ Some q → ⊥
    none-there s q e =
        let same : get order_text m n ≡ Some q = ap (get order_text m) (same_text-equal n a s) ∙ h a ∙ e in
        let x : is_some (get order_text m n) ≡ true = ap is_some same in cc

    here : (b : Bool) → same_text n a ≡ b → (o : Option ℕ) → place_of ns a ≡ o → cond b (Some i) o
        ≡ or_place o (if b then Some (length ns) else None)
    here true s None e = ap (λ j. Some j) ie
    here true s (Some q) e = absurd (none-there s q e)
    here false s None e = refl
    here false s (Some q) e = refl

-- and one that is known stays at its first place.
pub place_known : (ns : List Text) (n : Text) (m : BTreeMap Text ℕ) → HasPlaces ns m → is_some (get order_text m n) ≡ true →
    HasPlaces (ns ++ n ∷ []) m
place_known ns n m h known a = h a ∙ here (same_text n a) refl (place_of ns a) refl ∙ sym (push-place ns n a)
  where
    some-there : same_text n a ≡ true → place_of ns a ≡ None → ⊥
    some-there s e =
        let same : get order_text m n ≡ None = ap (get order_text m) (same_text-equal n a s) ∙ h a ∙ e in
        let x : is_some (get order_text m n) ≡ false = ap is_some same in cc

    here : (b : Bool) → same_text n a ≡ b → (o : Option ℕ) → place_of ns a ≡ o → o ≡ or_place o (if b then Some (length ns) else None)
    here true s None e = absurd (some-there s e)
    here true s (Some q) e = refl
    here false s None e = refl
    here false s (Some q) e = refl

-- ---- the places of lettings

-- The map has the places of the first i lettings.
abbrev pub Placed : List CellLetting → ℕ → BTreeMap Text ℕ → Type 0
Placed ls i m = HasPlaces (names_of (take i ls)) m

names-more : (ls : List CellLetting) (i : ℕ) (l : CellLetting) → i < length ls → l ≡ get_or ls i l → names_of (take (i + 1) ls)
    ≡ names_of (take i ls) ++ l.name ∷ []
names-more ls i l lt is =
    ap names_of (take_more ls i l lt ∙ ap (λ x. take i ls ++ x ∷ []) (sym is)) ∙ map-append (λ l. l.name) (take i ls) (l ∷ [])

names-length : (ls : List CellLetting) (i : ℕ) → i ≤ length ls → i ≡ length (names_of (take i ls))
names-length ls zero h = refl
names-length [] (suc i) h = absurd (omega (arith, h))
names-length (l ∷ ls) (suc i) h = ap suc (names-length ls i (omega (arith, h)))

pub placed_step : (ls : List CellLetting) (i : ℕ) (l : CellLetting) (m p : BTreeMap Text ℕ) → Placed ls i m → i < length ls → l
    ≡ get_or ls i l →
    ((ns : List Text) → HasPlaces ns m → i ≡ length ns → HasPlaces (ns ++ l.name ∷ []) p) → Placed ls (i + 1) p
placed_step ls i l m p h lt is f =
    subst (λ ns. HasPlaces ns p) (sym (names-more ls i l lt is)) (f (names_of (take i ls)) h (names-length ls i (omega (arith, lt))))

pub placed_all : (ls : List CellLetting) (i : ℕ) (m : BTreeMap Text ℕ) → Placed ls i m → length ls ≤ i →
    HasPlaces (keys (pure_lettings ls)) m
placed_all ls i m h le = subst (λ ns. HasPlaces ns m) (ap names_of (take_all i ls le) ∙ sym (keys-names ls)) h

-- ---- what is looked up

place-among : (ns : List Text) (a : Text) → is_some (place_of ns a) ≡ is_among ns a
place-among [] a = refl
place-among (n ∷ ns) a = go (same_text n a) (place_of ns a) (place-among ns a)
  where
    go : (b : Bool) (o : Option ℕ) → is_some o ≡ is_among ns a → is_some (if b then Some 0 else option_map suc o) ≡ b || is_among ns a
    go true o h = refl
    go false None h = h
    go false (Some p) h = h

-- A name is there where it has a place.
pub named_there : (ns : List Text) (m : BTreeMap Text ℕ) (a : Text) (b : Bool) → HasPlaces ns m → b ≡ is_some (get order_text m a) → b
    ≡ is_among ns a
named_there ns m a b h e = e ∙ ap is_some (h a) ∙ place-among ns a

before-place : (ns : List Text) (i : ℕ) (a : Text) → is_some_and (place_of ns a) (λ p. nat_lt p i) ≡ is_among (take i ns) a
before-place ns zero a = none (place_of ns a)
  where
    none : (o : Option ℕ) → is_some_and o (λ p. nat_lt p 0) ≡ false
    none None = refl
    none (Some p) = grind (arith, nat_tests)
before-place [] (suc i) a = refl
before-place (n ∷ ns) (suc i) a = go (same_text n a) (place_of ns a) (before-place ns i a)
  where
    shift : (p : ℕ) → nat_lt (suc p) (suc i) ≡ nat_lt p i
    shift p = grind (arith, nat_tests)

    go : (b : Bool) (o : Option ℕ) → is_some_and o (λ p. nat_lt p i) ≡ is_among (take i ns) a →
        is_some_and (if b then Some 0 else option_map suc o) (λ p. nat_lt p (suc i)) ≡ b || is_among (take i ns) a
    go true o h = grind (arith, nat_tests)
    go false None h = h
    go false (Some p) h = shift p ∙ h

keys-take : (ls : List CellLetting) (i : ℕ) → take i (keys (pure_lettings ls)) ≡ keys (pure_lettings (take i ls))
keys-take ls zero = refl
keys-take [] (suc i) = refl
keys-take (l ∷ ls) (suc i) = ap (λ ns. l.name ∷ ns) (keys-take ls i)

-- One of the first lettings has the name where its place is among theirs,
pub named_before : (ls : List CellLetting) (m : BTreeMap Text ℕ) (i p : ℕ) (a : Text) → HasPlaces (keys (pure_lettings ls)) m →
    get order_text m a ≡ Some p → nat_lt p i ≡ is_among (keys (pure_lettings (take i ls))) a
named_before ls m i p a h e =
    ap (λ o. is_some_and o (λ q. nat_lt q i)) (sym e ∙ h a) ∙ before-place (keys (pure_lettings ls)) i a
    ∙ ap (λ ns. is_among ns a) (keys-take ls i)

-- and none has it where it has no place.
pub named_nowhere : (ls : List CellLetting) (m : BTreeMap Text ℕ) (i : ℕ) (a : Text) → HasPlaces (keys (pure_lettings ls)) m →
    get order_text m a ≡ None → false ≡ is_among (keys (pure_lettings (take i ls))) a
named_nowhere ls m i a h e =
    ap (λ o. is_some_and o (λ q. nat_lt q i)) (sym e ∙ h a) ∙ before-place (keys (pure_lettings ls)) i a
    ∙ ap (λ ns. is_among ns a) (keys-take ls i)

-- The value at the place of a name.
look-place : (ls : List CellLetting) (a : Text) → look (pure_lettings ls) a
    ≡ and_then (place_of (keys (pure_lettings ls)) a) (λ p. option_map (λ l. pure_value l.value) (slice_get ls p))
look-place [] a = refl
look-place (l ∷ ls) a = go (same_text l.name a) (place_of (keys (pure_lettings ls)) a) (look-place ls a)
  where
    go : (b : Bool) (o : Option ℕ) → look (pure_lettings ls) a ≡ and_then o (λ p. option_map (λ l. pure_value l.value) (slice_get ls p)) →
        (if b then Some (pure_value l.value) else look (pure_lettings ls) a)
        ≡ and_then (if b then Some 0 else option_map suc o) (λ p. option_map (λ l. pure_value l.value) (slice_get (l ∷ ls) p))
    go true o h = refl
    go false None h = h
    go false (Some p) h = h

pub value_missing : (ls : List CellLetting) (m : BTreeMap Text ℕ) (a : Text) → HasPlaces (keys (pure_lettings ls)) m → get order_text m a
    ≡ None → None ≡ look (pure_lettings ls) a
value_missing ls m a h e = sym (look-place ls a
    ∙ ap (λ o. and_then o (λ p. option_map (λ l. pure_value l.value) (slice_get ls p))) (sym (h a) ∙ e))

pub value_there : (ls : List CellLetting) (m : BTreeMap Text ℕ) (a : Text) (p : ℕ) → HasPlaces (keys (pure_lettings ls)) m →
    get order_text m a ≡ Some p →
    option_map (λ l. pure_value l.value) (slice_get ls p) ≡ look (pure_lettings ls) a
value_there ls m a p h e = sym (look-place ls a
    ∙ ap (λ o. and_then o (λ p. option_map (λ l. pure_value l.value) (slice_get ls p))) (sym (h a) ∙ e))
