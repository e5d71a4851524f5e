-- A function's pairs are its arguments with its values at them, where the arguments are listed and rise.
use Rattle.std.proofs.Common.{◌≡◌, refl, sym, ap, ◌∙◌, Bool, true, false, ◌&&◌, ◌||◌, if◌then◌else◌, List, [], ◌∷◌, map, length, Option, Some, None, is_some, ℤ}
use Rattle.std.specs.List.{list_all, list_any}
use Rattle.ess_semantics.specs.declared.words.Key.{Key}
use Rattle.ess_semantics.specs.Lists.{is_some_and, list_or_none}
use Rattle.ess_semantics.specs.Values.{a_tuple, a_matrix, a_set, a_mset, a_function, a_relation, a_partition, a_record, Value, number, truth, item, node, nil, cons, pair, to_list, of_list, from_of, to_of, itself}
use Rattle.ess_semantics.specs.Order.{same, below}
use Rattle.ess_semantics.specs.Collections.{holds, rises, value_at}
use Rattle.ess_semantics.specs.Domains.{Attribute, flagged, numbered, Domain, functions, members, member_list, same_key}
use Rattle.ess_semantics.specs.Attributes.{size_holds, function_attributes_hold, each_holds, function_holds}
use Rattle.ess_semantics.specs.Membership.{is_pair, member}
use Rattle.ess_semantics.specs.FunctionLayers.{with_arguments}
use Rattle.ess_semantics.specs.Canonical.{somes}
use Rattle.ess_repr_laws.specs.Finite.{is_flag, IsFlagged}
use Rattle.ess_semantics.proofs.Tests.{and-left, and-right, and-both, or-left-no, or-right-no, or-yes}
use Rattle.ess_semantics.proofs.Orders.{order_total, same-itself, same-equal, of_list-to_list}
use Rattle.ess_semantics.proofs.Sorting.{Below, Rising, below-has, below-on, not-itself, holds-has}
use Rattle.ess_repr_laws.proofs.CanonicalPlaces.{AllOf}
use Rattle.ess_repr_laws.proofs.CellsOfMembers.{Inside, picked}
use Rattle.ess_repr_laws.proofs.Rooms.{one-key}

-- A pair is one of its two parts.
pub pair-of : (p : Value) → is_pair p ≡ true → p ≡ pair (from_of p) (to_of p)
pair-of (node a_tuple (cons a (cons b nil))) h = refl
pair-of (node a_tuple nil) h = cc
pair-of (node a_tuple (cons a nil)) h = cc
pair-of (node a_tuple (cons a (cons b (cons c cs)))) h = cc
pair-of (number n) h = cc
pair-of (truth b) h = cc
pair-of (item t k) h = cc
pair-of (node a_matrix vs) h = cc
pair-of (node a_set vs) h = cc
pair-of (node a_mset vs) h = cc
pair-of (node a_function vs) h = cc
pair-of (node a_relation vs) h = cc
pair-of (node a_partition vs) h = cc
pair-of (node (a_record fs) vs) h = cc

-- the arguments of pairs
abbrev pub firsts : List Value → List Value
firsts ps = map from_of ps

-- The arguments of pairs whose first parts rise do so.
pub rises-firsts : (ps : List Value) → rises from_of ps ≡ true → rises itself (firsts ps) ≡ true
rises-firsts [] h = refl
rises-firsts (p ∷ []) h = refl
rises-firsts (p ∷ q ∷ ps) h =
    and-both (below (from_of p) (from_of q)) (rises itself (firsts (q ∷ ps))) (and-left (below (from_of p) (from_of q)) (rises from_of (q ∷ ps)) h)
    (rises-firsts (q ∷ ps) (and-right (below (from_of p) (from_of q)) (rises from_of (q ∷ ps)) h))

-- what membership of a function says
pub record FunctionMember (ks : List Attribute) (d c : Domain) (ps : List Value) : Type 0 where
  pub rise : rises from_of ps ≡ true
  pub pairs : list_all (λ p. is_pair p && member d (from_of p) && member c (to_of p)) ps ≡ true
  pub attributes : function_attributes_hold ks d c ps ≡ true

-- A member of a domain of functions is a function of such pairs.
pub function-member : (ks : List Attribute) (d c : Domain) (v : Value) → member (functions ks d c) v ≡ true → (ps : List Value) × (v ≡ node a_function (of_list ps)) × FunctionMember ks d c ps
function-member ks d c (node a_function vs) h = (
  to_list vs,
  ap (λ w. node a_function w) (sym (of_list-to_list vs)),
  record {
    rise = and-left (rises from_of (to_list vs)) (list_all (λ p. is_pair p && member d (from_of p) && member c (to_of p)) (to_list vs)) (and-left (rises from_of (to_list vs) && list_all (λ p. is_pair p && member d (from_of p) && member c (to_of p)) (to_list vs)) (function_attributes_hold ks d c (to_list vs)) h);
    pairs = and-right (rises from_of (to_list vs)) (list_all (λ p. is_pair p && member d (from_of p) && member c (to_of p)) (to_list vs)) (and-left (rises from_of (to_list vs) && list_all (λ p. is_pair p && member d (from_of p) && member c (to_of p)) (to_list vs)) (function_attributes_hold ks d c (to_list vs)) h);
    attributes = and-right (rises from_of (to_list vs) && list_all (λ p. is_pair p && member d (from_of p) && member c (to_of p)) (to_list vs)) (function_attributes_hold ks d c (to_list vs)) h;
  },
)
function-member ks d c (number n) h = cc
function-member ks d c (truth b) h = cc
function-member ks d c (item t k) h = cc
function-member ks d c (node a_tuple vs) h = cc
function-member ks d c (node a_matrix vs) h = cc
function-member ks d c (node a_set vs) h = cc
function-member ks d c (node a_mset vs) h = cc
function-member ks d c (node a_relation vs) h = cc
function-member ks d c (node a_partition vs) h = cc
function-member ks d c (node (a_record fs) vs) h = cc

-- ---- parts of pairs

module _ (d c : Domain) where
  abbrev is_fit : Value → Bool
  is_fit p = is_pair p && member d (from_of p) && member c (to_of p)

  -- They are pairs.
  pub each-pair : (ps : List Value) → list_all is_fit ps ≡ true → AllOf ps (λ p. is_pair p ≡ true)
  each-pair [] h = tt
  each-pair (p ∷ ps) h = (and-left (is_pair p) (member d (from_of p)) (and-left (is_pair p && member d (from_of p)) (member c (to_of p)) (and-left (is_fit p) (list_all is_fit ps) h)), each-pair ps (and-right (is_fit p) (list_all is_fit ps) h))

  -- Their arguments are members.
  pub each-first : (ps : List Value) → list_all is_fit ps ≡ true → list_all (member d) (firsts ps) ≡ true
  each-first [] h = refl
  each-first (p ∷ ps) h =
      and-both (member d (from_of p)) (list_all (member d) (firsts ps)) (and-right (is_pair p) (member d (from_of p)) (and-left (is_pair p && member d (from_of p)) (member c (to_of p)) (and-left (is_fit p) (list_all is_fit ps) h)))
      (each-first ps (and-right (is_fit p) (list_all is_fit ps) h))

  -- the value at an argument is a member
  pub value-inside : (ps : List Value) (x : Value) → list_all is_fit ps ≡ true → Inside c (value_at ps x)
  value-inside [] x h = tt
  value-inside (p ∷ ps) x h = go (same (from_of p) x) (value-inside ps x (and-right (is_fit p) (list_all is_fit ps) h))
    where
      go : (b : Bool) → Inside c (value_at ps x) → Inside c (if b then Some (to_of p) else value_at ps x)
      go true ih = and-right (is_pair p && member d (from_of p)) (member c (to_of p)) (and-left (is_fit p) (list_all is_fit ps) h)
      go false ih = ih

  -- Their values are members.
  pub values-inside : (ps xs : List Value) → list_all is_fit ps ≡ true → AllOf (map (value_at ps) xs) (Inside c)
  values-inside ps [] h = tt
  values-inside ps (x ∷ xs) h = (value-inside ps x h, values-inside ps xs h)

-- ---- values at arguments

no-value : (ps : List Value) (x : Value) → holds (firsts ps) x ≡ false → value_at ps x ≡ None
no-value [] x h = refl
no-value (p ∷ ps) x h = ap (λ b. if b then Some (to_of p) else value_at ps x) (or-left-no (same (from_of p) x) (holds (firsts ps) x) h) ∙ no-value ps x (or-right-no (same (from_of p) x) (holds (firsts ps) x) h)

some-value : (ps : List Value) (x : Value) → holds (firsts ps) x ≡ true → is_some (value_at ps x) ≡ true
some-value [] x h = cc
some-value (p ∷ ps) x h = go (same (from_of p) x) h (some-value ps x)
  where
    go : (b : Bool) → b || holds (firsts ps) x ≡ true → (holds (firsts ps) x ≡ true → is_some (value_at ps x) ≡ true) → is_some (if b then Some (to_of p) else value_at ps x) ≡ true
    go true h ih = refl
    go false h ih = ih h

-- above x, nothing is x
apart : (x : Value) (ys : List Value) → Below order_total x ys → holds ys x ≡ false
apart x ys b = go (holds ys x) refl
  where
    go : (c : Bool) → holds ys x ≡ c → holds ys x ≡ false
    go false e = e
    go true e = absurd (not-itself order_total x (below-has order_total x x ys b (holds-has ys x e)))

-- a first pair that isn't at an argument doesn't count there
without-first : (p : Value) (ps xs : List Value) → holds xs (from_of p) ≡ false → map (value_at (p ∷ ps)) xs ≡ map (value_at ps) xs
without-first p ps [] h = refl
without-first p ps (x ∷ xs) h =
    ap (λ b. (if b then Some (to_of p) else value_at ps x) ∷ map (value_at (p ∷ ps)) xs) (turned (same (from_of p) x) refl)
    ∙ ap (λ l. value_at ps x ∷ l) (without-first p ps xs (or-right-no (same x (from_of p)) (holds xs (from_of p)) h))
  where
    turned : (b : Bool) → same (from_of p) x ≡ b → same (from_of p) x ≡ false
    turned false e = e
    turned true e =
        let z : true ≡ false = sym (same-itself x) ∙ ap (same x) (sym (same-equal (from_of p) x e)) ∙ or-left-no (same x (from_of p)) (holds xs (from_of p)) h in cc

-- The pairs of the arguments with values.
abbrev pub paired : List Value → List (Option Value) → List Value
paired xs os = with_arguments (picked xs os) (somes os)

all-none : (xs : List Value) → paired xs (map (value_at []) xs) ≡ []
all-none [] = refl
all-none (x ∷ xs) = all-none xs

-- They are those of the function.
pub paired-again : (xs ps : List Value) → Rising order_total xs → Rising order_total (firsts ps) → AllOf ps (λ p. is_pair p ≡ true) → ((w : Value) → holds (firsts ps) w ≡ true → holds xs w ≡ true) →
    paired xs (map (value_at ps) xs) ≡ ps
paired-again xs [] r s pr inc = all-none xs
paired-again [] (p ∷ ps) r s pr inc = let z : false ≡ true = inc (from_of p) (ap (λ b. b || holds (firsts ps) (from_of p)) (same-itself (from_of p))) in cc
paired-again (x ∷ xs) (p ∷ ps) r s pr inc =
    go (same (from_of p) x) refl (inc (from_of p) (ap (λ b. b || holds (firsts ps) (from_of p)) (same-itself (from_of p))))
    (λ i. paired-again xs ps r.1 s.1 pr.1 i) (λ i. paired-again xs (p ∷ ps) r.1 s pr i)
  where
    -- an argument other than x is one of the others
    other : (w : Value) → holds (firsts (p ∷ ps)) w ≡ true → same x w ≡ false → holds xs w ≡ true
    other w h e = rest (same x w) e (inc w h)
      where
        rest : (b : Bool) → b ≡ false → b || holds xs w ≡ true → holds xs w ≡ true
        rest true e h = cc
        rest false e h = h

    go : (b : Bool) → same (from_of p) x ≡ b → same x (from_of p) || holds xs (from_of p) ≡ true →
        (((w : Value) → holds (firsts ps) w ≡ true → holds xs w ≡ true) → paired xs (map (value_at ps) xs) ≡ ps) →
        (((w : Value) → holds (firsts (p ∷ ps)) w ≡ true → holds xs w ≡ true) → paired xs (map (value_at (p ∷ ps)) xs) ≡ p ∷ ps) →
        with_arguments (picked (x ∷ xs) ((if b then Some (to_of p) else value_at ps x) ∷ map (value_at (p ∷ ps)) xs)) (somes ((if b then Some (to_of p) else value_at ps x) ∷ map (value_at (p ∷ ps)) xs)) ≡ p ∷ ps
    go true e i f g =
        let q : from_of p ≡ x = same-equal (from_of p) x e in
        ap (λ os. pair x (to_of p) ∷ paired xs os) (without-first p ps xs (ap (holds xs) q ∙ apart x xs r.0))
        ∙ ap (λ l. pair x (to_of p) ∷ l) (f (λ w h. other w (ap (λ b. same (from_of p) w || b) h ∙ or-yes (same (from_of p) w)) (differ w q h (same x w) refl)))
        ∙ ap (λ y. pair y (to_of p) ∷ ps) (sym q) ∙ ap (λ y. y ∷ ps) (sym (pair-of p pr.0))
      where
        differ : (w : Value) → from_of p ≡ x → holds (firsts ps) w ≡ true → (b : Bool) → same x w ≡ b → same x w ≡ false
        differ w q h false e = e
        differ w q h true e =
            let z : true ≡ false = sym h ∙ ap (holds (firsts ps)) (sym (q ∙ same-equal x w e)) ∙ apart (from_of p) (firsts ps) s.0 in cc
    go false e i f g =
        ap (λ o. with_arguments (picked (x ∷ xs) (o ∷ map (value_at (p ∷ ps)) xs)) (somes (o ∷ map (value_at (p ∷ ps)) xs))) (no-value ps x (later (holds (firsts ps) x) refl))
        ∙ g (λ w h. other w h (differ w h (same x w) refl))
      where
        first : holds xs (from_of p) ≡ true
        first = here (same x (from_of p)) refl i
          where
            here : (b : Bool) → same x (from_of p) ≡ b → b || holds xs (from_of p) ≡ true → holds xs (from_of p) ≡ true
            here true q h = let z : true ≡ false = sym (same-itself (from_of p)) ∙ ap (same (from_of p)) (sym (same-equal x (from_of p) q)) ∙ e in cc
            here false q h = h

        -- x is below the first argument, so below each
        under : Below order_total x (firsts (p ∷ ps))
        under = let l = below-has order_total x (from_of p) xs r.0 (holds-has xs (from_of p) first) in (l, below-on order_total x (from_of p) (firsts ps) l s.0)

        later : (b : Bool) → holds (firsts ps) x ≡ b → holds (firsts ps) x ≡ false
        later b q = apart x (firsts ps) under.1

        differ : (w : Value) → holds (firsts (p ∷ ps)) w ≡ true → (b : Bool) → same x w ≡ b → same x w ≡ false
        differ w h false q = q
        differ w h true q = let z : true ≡ false = sym h ∙ ap (holds (firsts (p ∷ ps))) (sym (same-equal x w q)) ∙ apart x (firsts (p ∷ ps)) under in cc

-- ---- total functions

-- An attribute that stands without a number holds.
pub flag-said : (ks : List Attribute) (f : Key → ℤ → Bool) (g : Key → Bool) (k : Key) → each_holds ks f g ≡ true → IsFlagged k ks → g k ≡ true
flag-said [] f g k h e = cc
flag-said (numbered l z ∷ ks) f g k h e = flag-said ks f g k (and-right (f l z) (each_holds ks f g) h) e
flag-said (flagged l ∷ ks) f g k h e = go (same_key k l) refl e (λ q. flag-said ks f g k (and-right (g l) (each_holds ks f g) h) q)
  where
    go : (b : Bool) → same_key k l ≡ b → b || list_any (is_flag k) ks ≡ true → (list_any (is_flag k) ks ≡ true → g k ≡ true) → g k ≡ true
    go true q e ih = ap g (one-key k l q) ∙ and-left (g l) (each_holds ks f g) h
    go false q e ih = ih e

-- A test of a list that is there.
pub some-list : {A : Type 0} (o : Option (List A)) (f : List A → Bool) → is_some_and o f ≡ true → f (list_or_none o) ≡ true
some-list None f h = cc
some-list (Some xs) f h = h

-- A total function has a value at each argument.
pub total-values : (ks : List Attribute) (d c : Domain) (ps : List Value) → IsFlagged Key.Total ks → function_attributes_hold ks d c ps ≡ true → AllOf (map (value_at ps) (member_list d)) (λ o. is_some o ≡ true)
total-values ks d c ps t h =
    go (member_list d)
    (some-list (members d) (λ vs. list_all (λ x. holds (firsts ps) x) vs)
    (flag-said ks (λ k n. size_holds k n (length ps)) (λ k. function_holds k (members d) (members c) ps) Key.Total h t))
  where
    go : (xs : List Value) → list_all (λ x. holds (firsts ps) x) xs ≡ true → AllOf (map (value_at ps) xs) (λ o. is_some o ≡ true)
    go [] h = tt
    go (x ∷ xs) h = (some-value ps x (and-left (holds (firsts ps) x) (list_all (λ x. holds (firsts ps) x) xs) h), go xs (and-right (holds (firsts ps) x) (list_all (λ x. holds (firsts ps) x) xs) h))
