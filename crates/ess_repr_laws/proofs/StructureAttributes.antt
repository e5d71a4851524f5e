-- Attributes of relations that speak of sizes alone, and when a function with a value for each argument is total.
use Rattle.std.proofs.Common.{◌≡◌, refl, ap, ◌∙◌, suc, true, ◌&&◌, ◌||◌, List, [], ◌∷◌, map, length, Some}
use Rattle.std.specs.List.{list_all}
use Rattle.ess_semantics.specs.Lists.{is_some_and}
use Rattle.ess_semantics.specs.Values.{Value, from_of}
use Rattle.ess_semantics.specs.Order.{same}
use Rattle.ess_semantics.specs.Collections.{holds}
use Rattle.ess_semantics.specs.Domains.{Attribute, numbered, flagged, Domain, Domains, members, member_list}
use Rattle.ess_semantics.specs.Attributes.{size_holds, is_total, set_attributes_hold, relation_attributes_hold}
use Rattle.ess_semantics.specs.FunctionLayers.{with_arguments}
use Rattle.ess_semantics.proofs.Orders.{same-itself}
use Rattle.ess_semantics.proofs.Tests.{and-left, and-right, or-yes}
use Rattle.ess_repr_laws.specs.StructureMeaning.{has_flags_among, no_key}

-- Attributes of a relation that speak of sizes alone.
pub relation-sizes : (ks : List Attribute) (ds : Domains) (ps : List Value) → has_flags_among no_key ks ≡ true → relation_attributes_hold ks ds ps ≡ set_attributes_hold ks (length ps)
relation-sizes [] ds ps h = refl
relation-sizes (numbered k n ∷ ks) ds ps h = ap (λ b. size_holds k n (length ps) && b) (relation-sizes ks ds ps h)
relation-sizes (flagged k ∷ ks) ds ps h = cc

-- The arguments of the pairs.
pub arguments-of : (xs vs : List Value) → length vs ≡ length xs → map from_of (with_arguments xs vs) ≡ xs
arguments-of [] vs e = refl
arguments-of (x ∷ xs) [] e = cc
arguments-of (x ∷ xs) (v ∷ vs) e = let e' : length vs ≡ length xs = cc in ap (λ l. x ∷ l) (arguments-of xs vs e')

-- As many pairs as arguments.
pub arguments-long : (xs vs : List Value) → length vs ≡ length xs → length (with_arguments xs vs) ≡ length xs
arguments-long [] vs e = refl
arguments-long (x ∷ xs) [] e = cc
arguments-long (x ∷ xs) (v ∷ vs) e = let e' : length vs ≡ length xs = cc in ap suc (arguments-long xs vs e')

-- Each item is one of the items.
pub all-held : (xs : List Value) → list_all (λ x. holds xs x) xs ≡ true
all-held [] = refl
all-held (x ∷ xs) = ap (λ b. (b || holds xs x) && list_all (λ y. same x y || holds xs y) xs) (same-itself x) ∙ later xs (all-held xs)
  where
    later : (ys : List Value) → list_all (λ y. holds xs y) ys ≡ true → list_all (λ y. same x y || holds xs y) ys ≡ true
    later [] h = refl
    later (y ∷ ys) h =
        ap (λ b. (same x y || b) && list_all (λ y. same x y || holds xs y) ys) (and-left (holds xs y) (list_all (λ y. holds xs y) ys) h)
        ∙ ap (λ b. b && list_all (λ y. same x y || holds xs y) ys) (or-yes (same x y)) ∙ later ys (and-right (holds xs y) (list_all (λ y. holds xs y) ys) h)

-- A function with a value for each member is total.
pub all-arguments : (x : Domain) (vs : List Value) → members x ≡ Some (member_list x) → length vs ≡ length (member_list x) → is_total (members x) (with_arguments (member_list x) vs) ≡ true
all-arguments x vs m e =
    ap (λ o. is_some_and o (λ zs. list_all (λ z. holds (map from_of (with_arguments (member_list x) vs)) z) zs)) m
    ∙ ap (λ as'. list_all (λ z. holds as' z) (member_list x)) (arguments-of (member_list x) vs e) ∙ all-held (member_list x)
