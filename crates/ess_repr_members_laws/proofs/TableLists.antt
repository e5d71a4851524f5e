-- Trees whose axes and cells denote those of declarations: one behind the other, below further axes, and under other names.
use Rattle.std.proofs.Common.{◌≡◌, refl, sym, ap, ◌∙◌, subst, List, [], ◌∷◌, ◌++◌, map, ℤ, Option, Some, option_map}
use Rattle.ess_semantics.specs.Values.{Text}
use Rattle.ess_semantics.specs.Lists.{and_then, each_of}
use Rattle.ess_semantics.specs.Trees.{Dom}
use Rattle.ess_semantics.specs.Cells.{Axes}
use Rattle.ess_semantics.specs.Declarations.{Declaration, under}
use Rattle.ess_semantics.specs.DeclaredTables.{TableDecl, axis_members, SameMembers, DeclaredAs}
use Rattle.ess_semantics.specs.TableNames.{free_name}
use Rattle.ess_semantics.specs.Meaning.{Env, domain_of}
use Rattle.ess_repr_declare_laws.specs.DeclaredTrees.{below_layer, named_trees}
use Rattle.ess_repr_declare_laws.proofs.SizeNumbers.{mapped, chained}

-- The domains have these members, each.
abbrev pub Ranged : Env → List Dom → Axes → Type 0
Ranged env as' bs = each_of as' (λ a. axis_members (domain_of a env)) ≡ Some bs

-- Each tree has these axes, and its cells this domain.
abbrev pub Denoted : Env → List TableDecl → List Declaration → Type 0
Denoted env [] [] = Unit {0}
Denoted env [] (d ∷ ds) = ⊥
Denoted env (t ∷ ts) [] = ⊥
Denoted env (t ∷ ts) (d ∷ ds) = Ranged env t.axes d.axes × (domain_of t.cell env ≡ Some d.cell) × Denoted env ts ds

-- A cell's domain that is the same has the same members.
pub denoted-as : (env : Env) (ts : List TableDecl) (ds : List Declaration) → Denoted env ts ds → DeclaredAs (λ a. domain_of a env) ts ds
denoted-as env [] [] h = tt
denoted-as env [] (d ∷ ds) h = absurd h
denoted-as env (t ∷ ts) [] h = absurd h
denoted-as env (t ∷ ts) (d ∷ ds) h =
    (h.0, subst (λ o. SameMembers o d.cell) (sym h.1) (λ n. refl), denoted-as env ts ds h.2)

-- Names don't count.
pub named-denoted : (env : Env) (x : Text) (ts : List TableDecl) (taken : List Text) (ds : List Declaration) → Denoted env ts ds →
    Denoted env (named_trees x ts taken) ds
named-denoted env x [] taken [] h = tt
named-denoted env x [] taken (d ∷ ds) h = absurd h
named-denoted env x (t ∷ ts) taken [] h = absurd h
named-denoted env x (t ∷ ts) taken (d ∷ ds) h = (h.0, h.1, named-denoted env x ts (free_name taken (x ++ t.name) ∷ taken) ds h.2)

pub append-denoted : (env : Env) (ts us : List TableDecl) (ds es : List Declaration) → Denoted env ts ds → Denoted env us es →
    Denoted env (ts ++ us) (ds ++ es)
append-denoted env [] us [] es h k = k
append-denoted env [] us (d ∷ ds) es h k = absurd h
append-denoted env (t ∷ ts) us [] es h k = absurd h
append-denoted env (t ∷ ts) us (d ∷ ds) es h k = (h.0, h.1, append-denoted env ts us ds es h.2 k)

-- Answers on two lists stand one behind the other.
pub each_of-append : {A B : Type 0} (f : A → Option B) (xs ys : List A) (us vs : List B) → each_of xs f ≡ Some us → each_of ys f ≡ Some vs →
    each_of (xs ++ ys) f ≡ Some (us ++ vs)
each_of-append f [] ys us vs p q = let e : [] ≡ us = cc in q ∙ ap (λ l. Some (l ++ vs)) e
each_of-append f (x ∷ xs) ys us vs p q =
    let c = chained (f x) (λ y. option_map (λ zs. y ∷ zs) (each_of xs f)) us p in
    let m = mapped (λ zs. c.0 ∷ zs) (each_of xs f) us c.2 in
    ap (λ o. and_then o (λ y. option_map (λ zs. y ∷ zs) (each_of (xs ++ ys) f))) c.1
    ∙ ap (option_map (λ zs. c.0 ∷ zs)) (each_of-append f xs ys m.0 vs m.1 q)
    ∙ ap (λ l. Some (l ++ vs)) m.2

-- Further axes stand in front of each table's.
pub below-denoted : (env : Env) (n : Text) (as' : List Dom) (bs : Axes) → Ranged env as' bs →
    (ts : List TableDecl) (ds : List Declaration) →
    Denoted env ts ds → Denoted env (map (below_layer n as') ts) (under bs ds)
below-denoted env n as' bs r [] [] h = tt
below-denoted env n as' bs r [] (d ∷ ds) h = absurd h
below-denoted env n as' bs r (t ∷ ts) [] h = absurd h
below-denoted env n as' bs r (t ∷ ts) (d ∷ ds) h =
    (each_of-append (λ a. axis_members (domain_of a env)) as' t.axes bs d.axes r h.0, h.1, below-denoted env n as' bs r ts ds h.2)

-- An axis alone.
pub one-axis : (env : Env) (a : Dom) (b : List ℤ) → axis_members (domain_of a env) ≡ Some b → Ranged env (a ∷ []) (b ∷ [])
one-axis env a b h = ap (λ o. and_then o (λ y. Some (y ∷ []))) h
