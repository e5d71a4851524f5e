-- Generators and conditions, resolved one by one.
use Rattle.std.proofs.Common.{◌≡◌, refl, sym, ap, ◌∙◌, ℕ, ◌+◌, ◌<◌, ◌≤◌, Bool, if◌then◌else◌, List, [], ◌∷◌, ◌++◌, length, map, drop, get_or, Option, Some, None, option_map, is_some}
use Rattle.std.proofs.lemmas.List.{at_drop_more, at_drop_all, map_push, append_assoc, append-nil}
use Rattle.ess_semantics.specs.Lists.{and_then}
use Rattle.ess_semantics.specs.Names.{Names}
use Rattle.ess_semantics.specs.Values.{a_matrix}
use Rattle.ess_semantics.specs.Types as pure
use Rattle.ess_semantics.specs.Types.{join, bool_ty, int_ty, compound2, or_any, bind_types, type_of_dom}
use Rattle.ess_semantics.specs.OperatorTypes.{member_ty}
use Rattle.ess_semantics.specs.Trees as tree
use Rattle.ess_semantics.specs.Trees.{Gens, comp_ex, no_gens, over, from, cond}
use Rattle.ess_semantics.specs.Typing.{type_of, types_under, source_ty}
use Rattle.ess_semantics.specs.Resolving.{resolve, resolve_dom, resolve_gens}
use Rattle.ess_core.specs.TreeViews.{Item, over_item, from_item, cond_item, gens_of, pure_gen, pure_gens, pure_ex}
use Rattle.ess_core.specs.TypeViews.{pure_ty}
use Rattle.ess_core.specs.declared.types.Ty.{Ty}
use Rattle.ess_core.specs.declared.expressions.Ex.{Ex}
use Rattle.ess_core.specs.declared.expressions.Ex.TheVariants as variant
use Rattle.ess_core.specs.declared.expressions.Gen.{Gen}
use Rattle.ess_core.proofs.ExpressionEquations.{pure_comp}
use Rattle.ess_types_names.specs.declared.under.Under.{Under}
use Rattle.ess_types_names.specs.declared.under.Under.TheVariants.{Fits, Misfits}
use Rattle.ess_types_names.specs.Generators.{under}
use Rattle.ess_types_names.proofs.Generators.{gens_more, gens_none, gens_end}
use Rattle.ess_types_resolving.specs.Generators.{resolved_item, item_behind, resolved_items, names_behind, fitting, both_fit, fits_of}

-- ---- the continuation

-- What is made of generators is made of the resolved ones and of the names behind them.
gens_resolved : (xs : List Item) (g : Names pure.Ty) (k : Gens → Names pure.Ty → tree.Ex)
    → resolve_gens (gens_of xs) g k ≡ k (gens_of (resolved_items xs g)) (names_behind xs g)
gens_resolved [] g k = refl
gens_resolved (over_item p d ∷ xs) g k = gens_resolved xs (bind_types p (type_of_dom d) g) (λ hs h. k (over p (resolve_dom d g) hs) h)
gens_resolved (from_item p e ∷ xs) g k = gens_resolved xs (bind_types p (source_ty e g) g) (λ hs h. k (from p (resolve e g) hs) h)
gens_resolved (cond_item e ∷ xs) g k = gens_resolved xs g (λ hs h. k (cond (resolve e g) hs) h)

-- A comprehension.
comp_resolved : (e : tree.Ex) (gs : List Gen) (g : Names pure.Ty)
    → resolve (comp_ex e (pure_gens gs)) g
    ≡ comp_ex (resolve e (names_behind (map pure_gen gs) g)) (gens_of (resolved_items (map pure_gen gs) g))
comp_resolved e gs g = gens_resolved (map pure_gen gs) g (λ hs h. comp_ex (resolve e h) hs)

-- A comprehension x of e under xs, made of the resolved parts.
pub comp_made : (x e b : Ex) (xs ys : List Gen) (g h : Names pure.Ty) → x ≡ variant.Comp e xs
    → map pure_gen ys ≡ resolved_items (map pure_gen xs) g → h ≡ names_behind (map pure_gen xs) g → pure_ex b ≡ resolve (pure_ex e) h
    → comp_ex (pure_ex b) (pure_gens ys) ≡ resolve (pure_ex x) g
comp_made x e b xs ys g h is ts ns bs =
    ap (λ l. comp_ex (pure_ex b) (gens_of l)) ts
    ∙ ap (λ e. comp_ex e (gens_of (resolved_items (map pure_gen xs) g))) (bs ∙ ap (resolve (pure_ex e)) ns)
    ∙ sym (ap (λ x. resolve (pure_ex x) g) is ∙ ap (λ e. resolve e g) (pure_comp e xs) ∙ comp_resolved (pure_ex e) xs g)

-- Its type, where generators lead to names h.
pub comp_typed : (e : tree.Ex) (gs : Gens) (g h : Names pure.Ty) (u : Under) → types_under gs g ≡ under u h
    → type_of (comp_ex e gs) g ≡ option_map (compound2 a_matrix int_ty) (fitting u (type_of e h))
comp_typed e gs g h u p = ap (λ o. and_then o (λ h. option_map (compound2 a_matrix int_ty) (type_of e h))) p ∙ go u
  where
    go : (u : Under) → and_then (under u h) (λ h. option_map (compound2 a_matrix int_ty) (type_of e h))
        ≡ option_map (compound2 a_matrix int_ty) (fitting u (type_of e h))
    go Fits = refl
    go Misfits = refl

-- ---- trees

-- One more is resolved: it stands in front of what is left.
pub trees_more : (xs ys zs : List Gen) (i : ℕ) (x y : Gen) (g h : Names pure.Ty) → i < length xs → x ≡ get_or xs i x
    → pure_gen y ≡ resolved_item (pure_gen x) g → h ≡ item_behind (pure_gen x) g → zs ≡ ys ++ y ∷ []
    → map pure_gen zs ++ resolved_items (map pure_gen (drop (i + 1) xs)) h ≡ map pure_gen ys ++ resolved_items (map pure_gen (drop i xs)) g
trees_more xs ys zs i x y g h l is e q p =
    ap (λ l. map pure_gen l ++ resolved_items (map pure_gen (drop (i + 1) xs)) h) p
    ∙ ap (λ l. l ++ resolved_items (map pure_gen (drop (i + 1) xs)) h) (map_push pure_gen ys y)
    ∙ append_assoc (map pure_gen ys) (pure_gen y ∷ []) (resolved_items (map pure_gen (drop (i + 1) xs)) h)
    ∙ ap (λ b. map pure_gen ys ++ b ∷ resolved_items (map pure_gen (drop (i + 1) xs)) h) e
    ∙ ap (λ h. map pure_gen ys ++ resolved_item (pure_gen x) g ∷ resolved_items (map pure_gen (drop (i + 1) xs)) h) q
    ∙ sym (at_drop_more (λ l. map pure_gen ys ++ resolved_items (map pure_gen l) g) xs i x l
    ∙ ap (λ z. map pure_gen ys ++ resolved_items (map pure_gen (z ∷ drop (i + 1) xs)) g) (sym is))

-- Nothing is left to resolve.
pub trees_all : (xs ys : List Gen) (i : ℕ) (g : Names pure.Ty) → length xs ≤ i
    → map pure_gen ys ++ resolved_items (map pure_gen (drop i xs)) g ≡ map pure_gen ys
trees_all xs ys i g l = at_drop_all (λ l. map pure_gen ys ++ resolved_items (map pure_gen l) g) xs i l ∙ append-nil (map pure_gen ys)

-- ---- names

-- The names behind what is left are those behind all.
pub names_more : (xs : List Gen) (i : ℕ) (x : Gen) (g h : Names pure.Ty) → i < length xs → x ≡ get_or xs i x
    → h ≡ item_behind (pure_gen x) g
    → names_behind (map pure_gen (drop (i + 1) xs)) h ≡ names_behind (map pure_gen (drop i xs)) g
names_more xs i x g h l is q =
    ap (names_behind (map pure_gen (drop (i + 1) xs))) q
    ∙ sym (at_drop_more (λ l. names_behind (map pure_gen l) g) xs i x l
    ∙ ap (λ z. names_behind (map pure_gen (z ∷ drop (i + 1) xs)) g) (sym is))

-- Behind nothing the names stay.
pub names_all : (xs : List Gen) (i : ℕ) (g : Names pure.Ty) → length xs ≤ i → names_behind (map pure_gen (drop i xs)) g ≡ g
names_all xs i g l = at_drop_all (λ l. names_behind (map pure_gen l) g) xs i l

-- ---- types

-- One more fits or not: what is left fits where all before it does.
pub types_more : (xs : List Gen) (i : ℕ) (x : Gen) (g h : Names pure.Ty) (u v r : Under) → i < length xs → x ≡ get_or xs i x
    → types_under (gens_of (pure_gen x ∷ [])) g ≡ under r h → v ≡ both_fit u r
    → fitting v (types_under (pure_gens (drop (i + 1) xs)) h) ≡ fitting u (types_under (pure_gens (drop i xs)) g)
types_more xs i x g h u v r l is e p = ap (λ v. fitting v (types_under (pure_gens (drop (i + 1) xs)) h)) p ∙ go u r e
  where
    go : (u r : Under) → types_under (gens_of (pure_gen x ∷ [])) g ≡ under r h
        → fitting (both_fit u r) (types_under (pure_gens (drop (i + 1) xs)) h) ≡ fitting u (types_under (pure_gens (drop i xs)) g)
    go Misfits r e = refl
    go Fits Fits e = gens_more xs i x g h Fits l is e refl
    go Fits Misfits e = sym (gens_none xs i x g h Misfits l is e refl)

-- With nothing left they fit where all did.
pub types_all : (xs : List Gen) (i : ℕ) (g : Names pure.Ty) (u : Under) → length xs ≤ i
    → fitting u (types_under (pure_gens (drop i xs)) g) ≡ under u g
types_all xs i g u l = ap (fitting u) (gens_end xs i g l) ∙ go u
  where
    go : (u : Under) → fitting u (Some g) ≡ under u g
    go Fits = refl
    go Misfits = refl

-- ---- one generator

-- A source whose members have type m, where there is one.
pub source_under : (p : tree.Pat) (e : tree.Ex) (g h : Names pure.Ty) (m : Option Ty) (r : Under)
    → option_map pure_ty m ≡ and_then (type_of e g) member_ty → r ≡ fits_of (option_map pure_ty m)
    → h ≡ bind_types p (or_any (option_map pure_ty m)) g → types_under (from p e no_gens) g ≡ under r h
source_under p e g h m r a b c = ap (λ o. and_then o (λ t. types_under no_gens (bind_types p t g))) (sym a) ∙ go (option_map pure_ty m) b c
  where
    go : (o : Option pure.Ty) → r ≡ fits_of o → h ≡ bind_types p (or_any o) g
        → and_then o (λ t. types_under no_gens (bind_types p t g)) ≡ under r h
    go None b c = ap (λ r. under r h) (sym b)
    go (Some t) b c = ap Some (sym c) ∙ ap (λ r. under r h) (sym b)

-- A condition.
pub condition_under : (e : tree.Ex) (g : Names pure.Ty) (r : Under) → r ≡ fits_of (and_then (type_of e g) (λ t. join t bool_ty))
    → types_under (cond e no_gens) g ≡ under r g
condition_under e g r p = go (type_of e g) ∙ ap (λ r. under r g) (sym p)
  where
    fit : (o : Option pure.Ty) → and_then o (λ u. types_under no_gens g) ≡ under (fits_of o) g
    fit None = refl
    fit (Some u) = refl

    go : (o : Option pure.Ty) → and_then o (λ t. and_then (join t bool_ty) (λ u. types_under no_gens g))
        ≡ under (fits_of (and_then o (λ t. join t bool_ty))) g
    go None = refl
    go (Some t) = fit (join t bool_ty)

-- Whether there is something, from a test.
pub fits_some : {A : Type 0} (o : Option A) (b : Bool) (r : Under) → b ≡ is_some o → r ≡ (if b then Fits else Misfits) → r ≡ fits_of o
fits_some None b r p q = q ∙ ap (λ b. if b then Fits else Misfits) p
fits_some (Some x) b r p q = q ∙ ap (λ b. if b then Fits else Misfits) p
