-- The types of names under generators, one by one.
use Rattle.std.proofs.Common.{◌≡◌, refl, sym, ap, ◌∙◌, ℕ, ◌+◌, ◌<◌, ◌≤◌, Bool, true, false, List, [], ◌∷◌, length, map, drop, get_or, Option, Some, None, is_some}
use Rattle.std.proofs.lemmas.List.{at_drop_more, at_drop_all}
use Rattle.ess_semantics.specs.Lists.{and_then, when}
use Rattle.ess_semantics.specs.Names.{Names}
use Rattle.ess_semantics.specs.NamesAt.{names_behind}
use Rattle.ess_semantics.specs.Types.{Ty, join, bool_ty, bind_types}
use Rattle.ess_semantics.specs.OperatorTypes.{member_ty}
use Rattle.ess_semantics.specs.Trees.{Pat, Ex, no_gens, from, cond}
use Rattle.ess_semantics.specs.Typing.{type_of, types_under}
use Rattle.ess_core.specs.TreeViews.{Item, over_item, from_item, cond_item, gens_of}
use Rattle.ess_core_nodes.specs.NodeViews.{pure_gen, pure_gens}
use Rattle.ess_core_nodes.specs.declared.nodes.Gen.{Gen}

-- ---- where the generators fit

under-step : (x : Item) (xs : List Item) (g : Names Ty)
    → types_under (gens_of (x ∷ xs)) g ≡ and_then (types_under (gens_of (x ∷ [])) g) (types_under (gens_of xs))
under-step (over_item p d) xs g = refl
under-step (from_item p e) xs g = go (and_then (type_of e g) member_ty)
  where
    go : (o : Option Ty) → and_then o (λ t. types_under (gens_of xs) (bind_types p t g))
        ≡ and_then (and_then o (λ t. types_under no_gens (bind_types p t g))) (types_under (gens_of xs))
    go None = refl
    go (Some t) = refl
under-step (cond_item e) xs g = go (type_of e g)
  where
    fit : (o : Option Ty) → and_then o (λ u. types_under (gens_of xs) g) ≡ and_then (and_then o (λ u. types_under no_gens g)) (types_under (gens_of xs))
    fit None = refl
    fit (Some u) = refl

    go : (o : Option Ty) → and_then o (λ t. and_then (join t bool_ty) (λ u. types_under (gens_of xs) g))
        ≡ and_then (and_then o (λ t. and_then (join t bool_ty) (λ u. types_under no_gens g))) (types_under (gens_of xs))
    go None = refl
    go (Some t) = fit (join t bool_ty)

left : (xs : List Gen) (i : ℕ) (x : Gen) (g : Names Ty) (o : Option (Names Ty)) → i < length xs → x ≡ get_or xs i x
    → types_under (gens_of (pure_gen x ∷ [])) g ≡ o
    → types_under (pure_gens (drop i xs)) g ≡ and_then o (types_under (pure_gens (drop (i + 1) xs)))
left xs i x g o h is e =
    at_drop_more (λ l. types_under (pure_gens l) g) xs i x h
    ∙ ap (λ y. types_under (pure_gens (y ∷ drop (i + 1) xs)) g) (sym is)
    ∙ under-step (pure_gen x) (map pure_gen (drop (i + 1) xs)) g
    ∙ ap (λ p. and_then p (types_under (pure_gens (drop (i + 1) xs)))) e

pub gens_more : (xs : List Gen) (i : ℕ) (x : Gen) (g h : Names Ty) (b : Bool) → i < length xs → x ≡ get_or xs i x
    → types_under (gens_of (pure_gen x ∷ [])) g ≡ when b h → b ≡ true
    → types_under (pure_gens (drop (i + 1) xs)) h ≡ types_under (pure_gens (drop i xs)) g
gens_more xs i x g h b l is e q = sym (left xs i x g (Some h) l is (e ∙ ap (λ b. when b h) q))

pub gens_none : (xs : List Gen) (i : ℕ) (x : Gen) (g h : Names Ty) (b : Bool) → i < length xs → x ≡ get_or xs i x
    → types_under (gens_of (pure_gen x ∷ [])) g ≡ when b h → b ≡ false
    → types_under (pure_gens (drop i xs)) g ≡ None
gens_none xs i x g h b l is e q = left xs i x g None l is (e ∙ ap (λ b. when b h) q)

pub gens_end : (xs : List Gen) (i : ℕ) (g : Names Ty) → length xs ≤ i → types_under (pure_gens (drop i xs)) g ≡ Some g
gens_end xs i g l = at_drop_all (λ l. types_under (pure_gens l) g) xs i l

-- ---- one generator

-- A source without members.
pub source_none : (p : Pat) (e : Ex) (g : Names Ty) → None ≡ and_then (type_of e g) member_ty → types_under (from p e no_gens) g ≡ None
source_none p e g h = ap (λ o. and_then o (λ t. types_under no_gens (bind_types p t g))) (sym h)

-- A source with members of type t.
pub source_some : (p : Pat) (e : Ex) (g : Names Ty) (t : Ty) → Some t ≡ and_then (type_of e g) member_ty
    → types_under (from p e no_gens) g ≡ Some (bind_types p t g)
source_some p e g t h = ap (λ o. and_then o (λ t. types_under no_gens (bind_types p t g))) (sym h)

-- A condition without a type.
pub condition_none : (e : Ex) (g : Names Ty) → None ≡ type_of e g → types_under (cond e no_gens) g ≡ None
condition_none e g h = ap (λ o. and_then o (λ t. and_then (join t bool_ty) (λ u. types_under no_gens g))) (sym h)

-- A condition of type t.
pub condition_some : (e : Ex) (g : Names Ty) (t : Ty) (b : Bool) → Some t ≡ type_of e g → b ≡ is_some (join t bool_ty)
    → types_under (cond e no_gens) g ≡ when b g
condition_some e g t b h p =
    ap (λ o. and_then o (λ t. and_then (join t bool_ty) (λ u. types_under no_gens g))) (sym h) ∙ go (join t bool_ty)
    ∙ ap (λ b. when b g) (sym p)
  where
    go : (o : Option Ty) → and_then o (λ u. types_under no_gens g) ≡ when (is_some o) g
    go None = refl
    go (Some u) = refl

-- ---- whether they fit or not

behind-step : (x : Item) (xs : List Item) (g : Names Ty) → names_behind (gens_of (x ∷ xs)) g ≡ names_behind (gens_of xs) (names_behind (gens_of (x ∷ [])) g)
behind-step (over_item p d) xs g = refl
behind-step (from_item p e) xs g = refl
behind-step (cond_item e) xs g = refl

pub behind_more : (xs : List Gen) (i : ℕ) (x : Gen) (g h : Names Ty) → i < length xs → x ≡ get_or xs i x
    → names_behind (gens_of (pure_gen x ∷ [])) g ≡ h
    → names_behind (pure_gens (drop (i + 1) xs)) h ≡ names_behind (pure_gens (drop i xs)) g
behind_more xs i x g h l is e =
    sym (at_drop_more (λ l. names_behind (pure_gens l) g) xs i x l
    ∙ ap (λ y. names_behind (pure_gens (y ∷ drop (i + 1) xs)) g) (sym is)
    ∙ behind-step (pure_gen x) (map pure_gen (drop (i + 1) xs)) g
    ∙ ap (names_behind (pure_gens (drop (i + 1) xs))) e)

pub behind_end : (xs : List Gen) (i : ℕ) (g : Names Ty) → length xs ≤ i → names_behind (pure_gens (drop i xs)) g ≡ g
behind_end xs i g l = at_drop_all (λ l. names_behind (pure_gens l) g) xs i l
