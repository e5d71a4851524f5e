-- Arguments of functions and tuples of relations in their places among axes, and cells at these places.
use Rattle.std.proofs.Common.{◌≡◌, refl, sym, ap, ◌∙◌, subst, Bool, true, false, ◌&&◌, ◌||◌, if◌then◌else◌, List, [], ◌∷◌, ◌++◌, map, length, ℤ, Option, Some, None, option_map, ap}
use Rattle.std.specs.List.{list_all}
use Rattle.ess_semantics.specs.Lists.{and_then, each_of, is_some_and}
use Rattle.ess_semantics.specs.Values.{Value, from_of, to_of, itself}
use Rattle.ess_semantics.specs.Order.{same, below}
use Rattle.ess_semantics.specs.Collections.{holds, rises}
use Rattle.ess_semantics.specs.Domains.{Domain, Domains, tuples, domain_list, member_list, add_heads, lists_of}
use Rattle.ess_semantics.specs.Membership.{is_pair, member}
use Rattle.ess_semantics.specs.Tables.{code, truth_of}
use Rattle.ess_semantics.specs.Cells.{Grid, Axes, every_cell}
use Rattle.ess_semantics.specs.Layers.{codes_of, chosen}
use Rattle.ess_semantics.specs.FunctionLayers.{with_arguments}
use Rattle.ess_semantics.specs.Atoms.{Listed}
use Rattle.ess_semantics.proofs.Tests.{and-left, and-right, and-both}
use Rattle.ess_semantics.proofs.Orders.{same-equal}
use Rattle.ess_repr_laws.proofs.RowsOfCells.{EachOf, each-map, each-of-all, EachIndex, Agree}
use Rattle.ess_repr_laws.proofs.SlotsUsed.{as_place, slots-are}
use Rattle.ess_repr_laws.proofs.CanonicalPlaces.{AllOf, places-index}
use Rattle.ess_repr_laws.proofs.TupleMembers.{AllListed, tuples-listed, place_of, tuple-places}

-- The members of d rise, and `index` gives their places among the axes, in order.
pub record Arguments (d : Domain) (as' : Axes) (index : Value → List ℤ) : Type 0 where
  pub listed : Listed d
  pub places : lists_of as' ≡ map index (member_list d)

-- The arguments of a function from an atom.
pub atom-arguments : (d : Domain) → Listed d → Arguments d (codes_of d ∷ []) (λ x. code x ∷ [])
atom-arguments d l = record { listed = l; places = slots-are (codes_of d) ∙ go (member_list d) }
  where
    go : (xs : List Value) → map as_place (map code xs) ≡ map (λ x. code x ∷ []) xs
    go [] = refl
    go (x ∷ xs) = ap (λ l. (code x ∷ []) ∷ l) (go xs)

-- Those of a function from a tuple of atoms.
pub tuple-arguments : (ds : Domains) → AllListed ds → Arguments (tuples ds) (map codes_of (domain_list ds)) place_of
tuple-arguments ds a = record { listed = tuples-listed ds a; places = tuple-places ds a }

-- ---- places and index lists

all-of-append : {A : Type 0} (xs ys : List A) (P : A → Type 0) → AllOf xs P → AllOf ys P → AllOf (xs ++ ys) P
all-of-append [] ys P a b = b
all-of-append (x ∷ xs) ys P a b = (a.0, all-of-append xs ys P a.1 b)

-- What holds of each image.
pub all-of-under : {A B : Type 0} (g : A → B) (xs : List A) (P : B → Type 0) → AllOf xs (λ x. P (g x)) → AllOf (map g xs) P
all-of-under g [] P h = tt
all-of-under g (x ∷ xs) P h = (h.0, all-of-under g xs P h.1)

-- And the other way round.
pub under-all-of : {A B : Type 0} (g : A → B) (xs : List A) (P : B → Type 0) → AllOf (map g xs) P → AllOf xs (λ x. P (g x))
under-all-of g [] P h = tt
under-all-of g (x ∷ xs) P h = (h.0, under-all-of g xs P h.1)

-- What holds of each index list holds of each place.
pub index-places : (as' : Axes) (P : List ℤ → Type 0) → EachIndex as' P → AllOf (lists_of as') P
index-places [] P h = (h, tt)
index-places (a ∷ as') P h = heads a (λ Q q. index-places as' Q q) h
  where
    heads : (ks : List ℤ) → ((Q : List ℤ → Type 0) → EachIndex as' Q → AllOf (lists_of as') Q) → EachOf ks (λ k. EachIndex as' (λ js. P (k ∷ js))) → AllOf (add_heads ks (lists_of as')) P
    heads [] f h = tt
    heads (k ∷ ks) f h =
        all-of-append (map (λ l. k ∷ l) (lists_of as')) (add_heads ks (lists_of as')) P (all-of-under (λ l. k ∷ l) (lists_of as') P (f (λ js. P (k ∷ js)) h.0)) (heads ks f h.1)

-- A property of each cell, at each index list.
pub cell-index : (as' : Axes) (p : ℤ → Bool) (f : Grid) → every_cell as' p f ≡ true → EachIndex as' (λ js. is_some_and (f js) p ≡ true)
cell-index [] p f h = h
cell-index (a ∷ as') p f h = each-map a _ _ (λ k e. cell-index as' p (λ js. f (k ∷ js)) e) (each-of-all a (λ k. every_cell as' p (λ js. f (k ∷ js))) h)

-- Cells that agree at each index list.
pub index-agree : (as' : Axes) (f g : Grid) → EachIndex as' (λ js. f js ≡ g js) → Agree as' f g
index-agree [] f g h = h
index-agree (a ∷ as') f g h = each-map a _ _ (λ k e. index-agree as' (λ js. f (k ∷ js)) (λ js. g (k ∷ js)) e) h

-- ---- at arguments

module _ (d : Domain) (as' : Axes) (index : Value → List ℤ) (args : Arguments d as' index) where
  -- what holds at each argument's place holds of each index list
  pub arguments-index : (P : List ℤ → Type 0) → AllOf (member_list d) (λ x. P (index x)) → EachIndex as' P
  arguments-index P h = places-index as' P (subst (λ l. AllOf l P) (sym args.places) (all-of-under index (member_list d) P h))

  -- What holds at each index list holds at each argument's.
  pub index-arguments : (P : List ℤ → Type 0) → EachIndex as' P → AllOf (member_list d) (λ x. P (index x))
  index-arguments P h = under-all-of index (member_list d) P (subst (λ l. AllOf l P) args.places (index-places as' P h))

  -- A property of each cell, at each argument.
  pub cell-arguments : (p : ℤ → Bool) (f : Grid) → every_cell as' p f ≡ true → AllOf (member_list d) (λ x. is_some_and (f (index x)) p ≡ true)
  cell-arguments p f h = index-arguments (λ js. is_some_and (f js) p ≡ true) (cell-index as' p f h)

  -- Cells that agree at each argument.
  pub agree-arguments : (f g : Grid) → AllOf (member_list d) (λ x. f (index x) ≡ g (index x)) → Agree as' f g
  agree-arguments f g h = index-agree as' f g (arguments-index (λ js. f js ≡ g js) h)

-- The images whose cell is true.
pub chosen-map : {A B : Type 0} (g : A → B) (f : B → Option ℤ) (xs : List A) → chosen (map g xs) f ≡ option_map (map g) (chosen xs (λ x. f (g x)))
chosen-map g f [] = refl
chosen-map {A = A} {B = B} g f (x ∷ xs) = ap (λ o. and_then (and_then (f (g x)) truth_of) (λ b. option_map (λ ys. if b then g x ∷ ys else ys) o)) (chosen-map g f xs) ∙ go (and_then (f (g x)) truth_of) (chosen xs (λ x. f (g x)))
  where
    go : (o : Option Bool) (c : Option (List A)) → and_then o (λ b. option_map (λ ys. if b then g x ∷ ys else ys) (option_map (map g) c)) ≡ option_map (map g) (and_then o (λ b. option_map (λ ys. if b then x ∷ ys else ys) c))
    go None c = refl
    go (Some b) None = refl
    go (Some true) (Some ys) = refl
    go (Some false) (Some ys) = refl

-- The answers on images.
pub each_of-under : {A B C : Type 0} (g : A → B) (f : B → Option C) (xs : List A) → each_of (map g xs) f ≡ each_of xs (λ x. f (g x))
each_of-under g f [] = refl
each_of-under g f (x ∷ xs) = ap (λ o. and_then (f (g x)) (λ y. option_map (λ ys. y ∷ ys) o)) (each_of-under g f xs)

-- what holds of each item holds of a value that is one
pub of-held : (xs : List Value) (P : Value → Type 0) (w : Value) → AllOf xs P → holds xs w ≡ true → P w
of-held [] P w h e = cc
of-held (x ∷ xs) P w h e = go (of-held xs P w h.1) (same x w) refl e
  where
    go : (holds xs w ≡ true → P w) → (b : Bool) → same x w ≡ b → b || holds xs w ≡ true → P w
    go ih true q e = subst P (same-equal x w q) h.0
    go ih false q e = ih e

-- ---- pairs

-- Arguments and values make one list of pairs.
pub arguments-once : (xs xs' vs vs' : List Value) → length vs ≡ length xs → length vs' ≡ length xs' → with_arguments xs vs ≡ with_arguments xs' vs' → (xs ≡ xs') × (vs ≡ vs')
arguments-once [] [] [] [] l m e = (refl, refl)
arguments-once [] xs' (v ∷ vs) vs' l m e = cc
arguments-once (x ∷ xs) xs' [] vs' l m e = cc
arguments-once [] [] [] (v ∷ vs') l m e = cc
arguments-once [] (x ∷ xs') [] [] l m e = cc
arguments-once [] (x ∷ xs') [] (v ∷ vs') l m e = cc
arguments-once (x ∷ xs) [] (v ∷ vs) vs' l m e = cc
arguments-once (x ∷ xs) (x' ∷ xs') (v ∷ vs) [] l m e = cc
arguments-once (x ∷ xs) (x' ∷ xs') (v ∷ vs) (v' ∷ vs') l m e =
    let l' : length vs ≡ length xs = cc in
    let m' : length vs' ≡ length xs' = cc in
    let t : with_arguments xs vs ≡ with_arguments xs' vs' = cc in
    let r = arguments-once xs xs' vs vs' l' m' t in
    let a : x ≡ x' = cc in
    let b : v ≡ v' = cc in
    (ap (λ y. y ∷ xs) a ∙ ap (λ l. x' ∷ l) r.0, ap (λ y. y ∷ vs) b ∙ ap (λ l. v' ∷ l) r.1)

-- Where arguments rise, the pairs rise by them.
pub arguments-rise : (xs vs : List Value) → rises itself xs ≡ true → rises from_of (with_arguments xs vs) ≡ true
arguments-rise [] vs h = refl
arguments-rise (x ∷ xs) [] h = refl
arguments-rise (x ∷ []) (v ∷ vs) h = refl
arguments-rise (x ∷ y ∷ xs) (v ∷ []) h = refl
arguments-rise (x ∷ y ∷ xs) (v ∷ w ∷ vs) h =
    and-both (below x y) (rises from_of (with_arguments (y ∷ xs) (w ∷ vs))) (and-left (below x y) (rises itself (y ∷ xs)) h) (arguments-rise (y ∷ xs) (w ∷ vs) (and-right (below x y) (rises itself (y ∷ xs)) h))

-- Pairs of members.
pub arguments-members : (d c : Domain) (xs vs : List Value) → list_all (member d) xs ≡ true → list_all (member c) vs ≡ true →
    list_all (λ p. is_pair p && member d (from_of p) && member c (to_of p)) (with_arguments xs vs) ≡ true
arguments-members d c [] vs p q = refl
arguments-members d c (x ∷ xs) [] p q = refl
arguments-members d c (x ∷ xs) (v ∷ vs) p q =
    and-both (member d x && member c v) (list_all (λ p. is_pair p && member d (from_of p) && member c (to_of p)) (with_arguments xs vs))
    (and-both (member d x) (member c v) (and-left (member d x) (list_all (member d) xs) p) (and-left (member c v) (list_all (member c) vs) q))
    (arguments-members d c xs vs (and-right (member d x) (list_all (member d) xs) p) (and-right (member c v) (list_all (member c) vs) q))
