-- The cell of a name is that of its first declaration, as the shapes tell it.
use Rattle.std.proofs.Common.{◌≡◌, refl, sym, ap, ◌∙◌, subst, ℕ, zero, suc, ◌&&◌, Bool, true, false, if◌then◌else◌, nat_eq, List, [], ◌∷◌, map, length, Option, Some, None, option_map}
use Rattle.std.specs.Prelude.{slice_get}
use Rattle.std.specs.List.{list_all}
use Rattle.std.proofs.lemmas.List.{length-map}
use Rattle.ess_semantics.specs.Values.{Text}
use Rattle.ess_semantics.specs.Order.{same_text}
use Rattle.ess_semantics.specs.Trees as pure
use Rattle.ess_semantics.specs.Trees.{cell_ex}
use Rattle.ess_semantics.specs.Types.{Ty}
use Rattle.ess_semantics.specs.DeclaredTables.{TableDecl}
use Rattle.ess_semantics.specs.ModelMeaning.{declaration_of, kinded_cell, nothing, broken, cell_kind, is_int_kind}
use Rattle.ess_semantics.proofs.Texts.{same_text-equal}
use Rattle.eprime_eval_kinds.specs.declared.declared.Shape.{Shape}
use Rattle.eprime_eval_kinds.specs.declared.nodes.KindedEx.{KindedEx}
use Rattle.eprime_eval_kinds.specs.declared.lists.KindedRow.{KindedRow}
use Rattle.eprime_eval_kinds.specs.declared.tree.Kind.{Kind}
use Rattle.eprime_eval_kinds.specs.declared.tree.KEx.{KEx}
use Rattle.eprime_eval_kinds.specs.declared.tree.KEx.TheVariants as kex
use Rattle.eprime_eval_kinds.specs.Shapes.{shape_of, names_of, first_place, shaped_cell}
use Rattle.eprime_eval_kinds.specs.KindedViews.{name_at, pure_kex, pure_kind, pure_kinded}
use Rattle.eprime_eval_kinds.specs.KindedLists.{pure_row}
use Rattle.eprime_eval_kinds.proofs.KindedEquations.{pure_kex_cell}
use Rattle.eprime_eval_kinds.proofs.Joins.{all_fit}

-- ---- what a shape tells of a name

-- Nothing has the name.
pub undeclared : (ds : List TableDecl) (a : Text) → None ≡ first_place (map shape_of ds) a → declaration_of ds a ≡ None
undeclared [] a e = refl
undeclared (d ∷ ds) a e = go (same_text d.name a) (first_place (map shape_of ds) a) refl e (undeclared ds a)
  where
    go : (b : Bool) (o : Option ℕ) → first_place (map shape_of ds) a ≡ o → None ≡ (if b then Some 0 else option_map suc o)
        → (None ≡ first_place (map shape_of ds) a → declaration_of ds a ≡ None) → (if b then Some d else declaration_of ds a) ≡ None
    go true o p h ih = cc
    go false None p h ih = ih (sym p)
    go false (Some n) p h ih = cc

-- A declaration has the name: its shape stands at the number, and so does its name.
pub record Found (ds : List TableDecl) (a : Text) (n : ℕ) (s : Shape) : Type 0 where
  pub decl : TableDecl
  pub first : declaration_of ds a ≡ Some decl
  pub shape : shape_of decl ≡ s
  pub named : name_at (names_of (map shape_of ds)) n ≡ a

found : (ds : List TableDecl) (a : Text) (n : ℕ) (s : Shape) → Some n ≡ first_place (map shape_of ds) a
    → Some s ≡ slice_get (map shape_of ds) n → Found ds a n s
found [] a n s e f = cc
found (d ∷ ds) a n s e f = go (same_text d.name a) refl (first_place (map shape_of ds) a) refl n e f (found ds a)
  where
    go : (b : Bool) → same_text d.name a ≡ b → (o : Option ℕ) → first_place (map shape_of ds) a ≡ o → (n : ℕ)
        → Some n ≡ (if b then Some 0 else option_map suc o)
        → Some s ≡ slice_get (shape_of d ∷ map shape_of ds) n
        → ((n : ℕ) (s : Shape) → Some n ≡ first_place (map shape_of ds) a → Some s ≡ slice_get (map shape_of ds) n → Found ds a n s)
        → Found (d ∷ ds) a n s
    go true h o p zero e f ih = record {
      decl = d;
      first = ap
          (λ b. if b then Some d else declaration_of ds a) h;
      shape = cc;
      named = same_text-equal d.name a h;
    }
    go true h o p (suc n) e f ih = cc
    go false h None p n e f ih = cc
    go false h (Some m) p zero e f ih = cc
    go false h (Some m) p (suc n) e f ih =
        let q : Some n ≡ first_place (map shape_of ds) a = cc in
        let r : Found ds a n s = ih n s q f in
        record { decl = r.decl; first = ap (λ b. if b then Some d else declaration_of ds a) h ∙ r.first; shape = r.shape; named = r.named }

-- The cell of a name that is declared.
pub cell_found : (ds : List TableDecl) (a : Text) (n : ℕ) (s : Shape) (es : pure.Exs) (ts : List Ty)
    → Some n ≡ first_place (map shape_of ds) a → Some s ≡ slice_get (map shape_of ds) n
    → shaped_cell s (name_at (names_of (map shape_of ds)) n) es ts ≡ kinded_cell a es ts (declaration_of ds a)
cell_found ds a n s es ts e f =
    let r : Found ds a n s = found ds a n s e f in
    ap (λ b. shaped_cell s b es ts) r.named ∙ ap (λ s. shaped_cell s a es ts) (sym r.shape) ∙ sym (ap (kinded_cell a es ts) r.first)

-- The number of a declaration is that of one that is there.
pub there : (ss : List Shape) (a : Text) (n : ℕ) → Some n ≡ first_place ss a → None ≡ slice_get ss n → ⊥
there [] a n e f = cc
there (s ∷ ss) a n e f = go (same_text s.name a) (first_place ss a) refl n e f (there ss a)
  where
    go : (b : Bool) (o : Option ℕ) → first_place ss a ≡ o → (n : ℕ) → Some n ≡ (if b then Some 0 else option_map suc o)
        → None ≡ slice_get (s ∷ ss) n
        → ((n : ℕ) → Some n ≡ first_place ss a → None ≡ slice_get ss n → ⊥) → ⊥
    go true o p zero e f ih = cc
    go true o p (suc n) e f ih = cc
    go false None p n e f ih = cc
    go false (Some m) p zero e f ih = cc
    go false (Some m) p (suc n) e f ih = let q : Some n ≡ first_place ss a = cc in ih n q f

-- ---- the cell that the code makes

-- Of a declared name.
pub cell_declared : (ss : List Shape) (ds : List TableDecl) (a : Text) (n : ℕ) (s : Shape) (r : KindedRow) (k : KindedEx)
    → map shape_of ds ≡ ss → Some n ≡ first_place ss a → Some s ≡ slice_get ss n
    → ((names : List Text) → pure_kinded names k ≡ shaped_cell s (name_at names n) (pure_row names r).0 (pure_row names r).1)
    → pure_kinded (names_of ss) k ≡ kinded_cell a (pure_row (names_of ss) r).0 (pure_row (names_of ss) r).1 (declaration_of ds a)
cell_declared ss ds a n s r k h e f p =
    p (names_of ss)
    ∙ subst (λ ss. shaped_cell s (name_at (names_of ss) n) (pure_row (names_of ss) r).0 (pure_row (names_of ss) r).1
    ≡ kinded_cell a (pure_row (names_of ss) r).0 (pure_row (names_of ss) r).1 (declaration_of ds a)) h
    (cell_found ds a n s (pure_row (names_of (map shape_of ds)) r).0 (pure_row (names_of (map shape_of ds)) r).1
    (e ∙ ap (λ ss. first_place ss a) (sym h)) (f ∙ ap (λ ss. slice_get ss n) (sym h)))

-- Of a name that isn't.
pub cell_undeclared : (ss : List Shape) (ds : List TableDecl) (a : Text) (r : KindedRow) (k : KindedEx) → map shape_of ds ≡ ss
    → None ≡ first_place ss a → ((names : List Text) → pure_kinded names k ≡ nothing)
    → pure_kinded (names_of ss) k ≡ kinded_cell a (pure_row (names_of ss) r).0 (pure_row (names_of ss) r).1 (declaration_of ds a)
cell_undeclared ss ds a r k h e p =
    p (names_of ss) ∙ sym (ap (kinded_cell a (pure_row (names_of ss) r).0 (pure_row (names_of ss) r).1)
    (undeclared ds a (e ∙ ap (λ ss. first_place ss a) (sym h))))

-- The number of a name is that of a declaration.
pub cell_beyond : (P : Type 0) (ss : List Shape) (a : Text) (n : ℕ) → Some n ≡ first_place ss a → None ≡ slice_get ss n → P
cell_beyond P ss a n e f = absurd (there ss a n e f)

-- Whether indices fit is said of their kinds.
fits-shape : (ks : List Kind) (n : ℕ)
    → (nat_eq (length ks) n && list_all (λ k. is_int_kind (pure_kind k)) ks)
    ≡ (nat_eq (length (map pure_kind ks)) n && list_all is_int_kind (map pure_kind ks))
fits-shape ks n =
    ap (λ b. nat_eq (length ks) n && b) (all_fit ks)
    ∙ ap (λ m. nat_eq m n && list_all is_int_kind (map pure_kind ks)) (sym (length-map ks pure_kind))

-- Indices that fit, and others.
pub cell_stands : (names : List Text) (s : Shape) (n : ℕ) (r : KindedRow) (e : KEx) (t : Kind)
    → true ≡ (nat_eq (length r.kinds) s.axes && list_all (λ k. is_int_kind (pure_kind k)) r.kinds)
    → pure_kind t ≡ cell_kind s.truth → e ≡ kex.Cell s.truth n r.items
    → (pure_kex names e, pure_kind t) ≡ shaped_cell s (name_at names n) (pure_row names r).0 (pure_row names r).1
cell_stands names s n r e t b k p =
    ap (λ x. (pure_kex names x, pure_kind t)) p ∙ ap (λ x. (x, pure_kind t)) (pure_kex_cell names s.truth n r.items)
    ∙ ap (λ u. (cell_ex s.truth (name_at names n) (pure_row names r).0, u)) k
    ∙ ap (λ b. if b then (cell_ex s.truth (name_at names n) (pure_row names r).0, cell_kind s.truth) else broken (cell_kind s.truth))
    (b ∙ fits-shape r.kinds s.axes)

pub cell_breaks : (names : List Text) (s : Shape) (n : ℕ) (r : KindedRow) (k : KindedEx) (t : Kind)
    → false ≡ (nat_eq (length r.kinds) s.axes && list_all (λ k. is_int_kind (pure_kind k)) r.kinds)
    → pure_kind t ≡ cell_kind s.truth → pure_kinded names k ≡ broken (pure_kind t)
    → pure_kinded names k ≡ shaped_cell s (name_at names n) (pure_row names r).0 (pure_row names r).1
cell_breaks names s n r k t b q p =
    p ∙ ap broken q ∙ ap (λ b. if b then (cell_ex s.truth (name_at names n) (pure_row names r).0, cell_kind s.truth) else broken
    (cell_kind s.truth)) (b ∙ fits-shape r.kinds s.axes)
