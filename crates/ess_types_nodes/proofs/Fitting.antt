-- Whether the types of generators fit, one generator at a time.
use Rattle.std.proofs.Common.{◌≡◌, refl, sym, ap, ◌∙◌, Bool, if◌then◌else◌, List, [], ◌∷◌, ◌++◌, map, Option, Some, None, is_some}
use Rattle.std.proofs.lemmas.List.{map_push}
use Rattle.ess_semantics.specs.Lists.{and_then}
use Rattle.ess_semantics.specs.Names.{Names}
use Rattle.ess_semantics.specs.Types.{Ty, join, bool_ty, or_any, bind_types, type_of_dom}
use Rattle.ess_semantics.specs.OperatorTypes.{member_ty}
use Rattle.ess_semantics.specs.Trees.{Pat, Ex, Dom, no_gens}
use Rattle.ess_semantics.specs.Typing.{type_of, types_under}
use Rattle.ess_core.specs.TreeViews.{Item, over_item, from_item, cond_item, gens_of, pure_gen}
use Rattle.ess_core.specs.declared.expressions.Gen.{Gen}
use Rattle.ess_types_names.specs.declared.under.Under.{Under}
use Rattle.ess_types_names.specs.declared.under.Under.TheVariants.{Fits, Misfits}
use Rattle.ess_types_names.specs.Generators.{under}
use Rattle.ess_types_nodes.specs.Parts.{both_fit, fits_of}

-- ---- one generator

-- A generator over a domain fits.
pub over_under : (x : Item) (p : Pat) (d : Dom) (g h : Names Ty) (t : Ty) → x ≡ over_item p d → t ≡ type_of_dom d → h ≡ bind_types p t g
    → types_under (gens_of (x ∷ [])) g ≡ under Fits h
over_under x p d g h t is a b =
    ap (λ i. types_under (gens_of (i ∷ [])) g) is ∙ ap (λ t. Some (bind_types p t g)) (sym a) ∙ ap Some (sym b)

-- A source whose members have type m, where there is one.
pub source_under : (x : Item) (p : Pat) (e : Ex) (g h : Names Ty) (t m : Option Ty) (r : Under) → x ≡ from_item p e → t ≡ type_of e g
    → m ≡ and_then t member_ty → r ≡ fits_of m → h ≡ bind_types p (or_any m) g → types_under (gens_of (x ∷ [])) g ≡ under r h
source_under x p e g h t m r is a b c d =
    ap (λ i. types_under (gens_of (i ∷ [])) g) is
    ∙ ap (λ o. and_then (and_then o member_ty) (λ t. types_under no_gens (bind_types p t g))) (sym a)
    ∙ ap (λ o. and_then o (λ t. types_under no_gens (bind_types p t g))) (sym b)
    ∙ go m c d
  where
    go : (o : Option Ty) → r ≡ fits_of o → h ≡ bind_types p (or_any o) g
        → and_then o (λ t. types_under no_gens (bind_types p t g)) ≡ under r h
    go None c d = ap (λ r. under r h) (sym c)
    go (Some t) c d = ap Some (sym d) ∙ ap (λ r. under r h) (sym c)

-- A condition.
pub condition_under : (x : Item) (e : Ex) (g : Names Ty) (t : Option Ty) (r : Under) → x ≡ cond_item e
    → r ≡ fits_of (and_then t (λ t. join t bool_ty)) → t ≡ type_of e g → types_under (gens_of (x ∷ [])) g ≡ under r g
condition_under x e g t r is p q =
    ap (λ i. types_under (gens_of (i ∷ [])) g) is
    ∙ ap (λ o. and_then o (λ t. and_then (join t bool_ty) (λ u. types_under no_gens g))) (sym q)
    ∙ go t
    ∙ ap (λ r. under r g) (sym p)
  where
    fit : (o : Option Ty) → and_then o (λ u. types_under no_gens g) ≡ under (fits_of o) g
    fit None = refl
    fit (Some u) = refl

    go : (o : Option Ty) → and_then o (λ t. and_then (join t bool_ty) (λ u. types_under no_gens g))
        ≡ under (fits_of (and_then o (λ t. join t bool_ty))) g
    go None = refl
    go (Some t) = fit (join t bool_ty)

-- Whether there is something, from a test.
pub fits_some : {A : Type 0} (o : Option A) (b : Bool) (r : Under) → b ≡ is_some o → r ≡ (if b then Fits else Misfits) → r ≡ fits_of o
fits_some None b r p q = q ∙ ap (λ b. if b then Fits else Misfits) p
fits_some (Some x) b r p q = q ∙ ap (λ b. if b then Fits else Misfits) p

-- ---- several

-- Generators in front of others: the names behind those are what the others start from.
under-append : (xs ys : List Item) (g : Names Ty)
    → types_under (gens_of (xs ++ ys)) g ≡ and_then (types_under (gens_of xs) g) (types_under (gens_of ys))
under-append [] ys g = refl
under-append (over_item p d ∷ xs) ys g = under-append xs ys (bind_types p (type_of_dom d) g)
under-append (from_item p e ∷ xs) ys g = go (λ t. under-append xs ys (bind_types p t g)) (and_then (type_of e g) member_ty)
  where
    go : ((t : Ty) → types_under (gens_of (xs ++ ys)) (bind_types p t g)
        ≡ and_then (types_under (gens_of xs) (bind_types p t g)) (types_under (gens_of ys)))
        → (o : Option Ty) → and_then o (λ t. types_under (gens_of (xs ++ ys)) (bind_types p t g))
        ≡ and_then (and_then o (λ t. types_under (gens_of xs) (bind_types p t g))) (types_under (gens_of ys))
    go h None = refl
    go h (Some t) = h t
under-append (cond_item e ∷ xs) ys g = go (under-append xs ys g) (type_of e g)
  where
    Same : Type 0
    Same = types_under (gens_of (xs ++ ys)) g ≡ and_then (types_under (gens_of xs) g) (types_under (gens_of ys))

    fit : Same → (o : Option Ty) → and_then o (λ u. types_under (gens_of (xs ++ ys)) g)
        ≡ and_then (and_then o (λ u. types_under (gens_of xs) g)) (types_under (gens_of ys))
    fit h None = refl
    fit h (Some u) = h

    go : Same → (o : Option Ty) → and_then o (λ t. and_then (join t bool_ty) (λ u. types_under (gens_of (xs ++ ys)) g))
        ≡ and_then (and_then o (λ t. and_then (join t bool_ty) (λ u. types_under (gens_of xs) g))) (types_under (gens_of ys))
    go h None = refl
    go h (Some t) = fit h (join t bool_ty)

-- One generator more fits or not: all do where those before it and it do.
pub under_more : (ys zs : List Gen) (y : Gen) (g h k : Names Ty) (u v r : Under) → types_under (gens_of (pure_gen y ∷ [])) h ≡ under r k
    → zs ≡ ys ++ y ∷ [] → v ≡ both_fit u r → types_under (gens_of (map pure_gen ys)) g ≡ under u h
    → types_under (gens_of (map pure_gen zs)) g ≡ under v k
under_more ys zs y g h k u v r q is both p =
    ap (λ s. types_under (gens_of (map pure_gen s)) g) is
    ∙ ap (λ s. types_under (gens_of s) g) (map_push pure_gen ys y)
    ∙ under-append (map pure_gen ys) (pure_gen y ∷ []) g
    ∙ ap (λ o. and_then o (types_under (gens_of (pure_gen y ∷ [])))) p
    ∙ go u
    ∙ ap (λ v. under v k) (sym both)
  where
    go : (u : Under) → and_then (under u h) (types_under (gens_of (pure_gen y ∷ []))) ≡ under (both_fit u r) k
    go Fits = q
    go Misfits = refl
