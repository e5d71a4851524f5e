-- A type depends on the names that a tree uses and on the tables of its cells alone.
use Rattle.std.proofs.Common.{◌≡◌, refl, ap, ◌∙◌, Bool, true, false, not, if◌then◌else◌, ◌∷◌, Option, Some, None, option_map}
use Rattle.std.specs.Prelude.{IsTrue}
use Rattle.ess_semantics.specs.Lists.{and_then, all_some}
use Rattle.ess_semantics.specs.Values.{Text, a_matrix}
use Rattle.ess_semantics.specs.Order.{same_text}
use Rattle.ess_semantics.specs.Names.{Names, look}
use Rattle.ess_semantics.specs.Trees.{Pat, Pats, name_pat, tuple_pat, no_pats, more_pats, Ex, Exs, number_ex, truth_ex, name_ex, node_ex, matrix_ex, comp_ex, cell_ex, seen_ex, no_exs, more_exs, Gens, no_gens, over, from, cond}
use Rattle.ess_semantics.specs.Types.{Ty, Tys, any_ty, bool_ty, int_ty, no_tys, more_tys, compound2, join, join_all, parts_of_ty, type_of_dom, bind_types, bind_all_types}
use Rattle.ess_semantics.specs.OperatorTypes.{member_ty}
use Rattle.ess_semantics.specs.Typing.{statics, type_of_node, number_cell_ty, type_of, types_of, types_under}
use Rattle.ess_refine_types_laws.specs.TypeNames.{TypeNamesAre, AllTypeNamesAre, GensTypeNamesAre, IsUntyped, TypesNeedTheirNames}

-- What two steps answer where the second one does so at each answer of the first.
then-same : {A B C : Type 0} (o : Option A) (F G : A → Option B) (k l : B → Option C) →
    ((t : A) → and_then (F t) k ≡ and_then (G t) l) → and_then (and_then o F) k ≡ and_then (and_then o G) l
then-same None F G k l h = refl
then-same (Some t) F G k l h = h t

module _ (u : Text → Bool) where
  -- Both give the names of u the same types.
  abbrev pub Same : Names Ty → Names Ty → Type 0
  Same g h = (a : Text) → IsTrue (u a) → look g a ≡ look h a

  same-bound : (a : Text) (t : Ty) (g h : Names Ty) → Same g h → Same ((a, t) ∷ g) ((a, t) ∷ h)
  same-bound a t g h s c q = ap (λ o. if same_text a c then Some t else o) (s c q)

  mutual
    pub same-pattern : (p : Pat) (t : Ty) (g h : Names Ty) → Same g h → Same (bind_types p t g) (bind_types p t h)
    same-pattern (name_pat a) t g h s = same-bound a t g h s
    same-pattern (tuple_pat ps) t g h s = same-patterns ps (parts_of_ty t) g h s

    same-patterns : (ps : Pats) (ts : Tys) (g h : Names Ty) → Same g h → Same (bind_all_types ps ts g) (bind_all_types ps ts h)
    same-patterns no_pats ts g h s = s
    same-patterns (more_pats p ps) no_tys g h s =
        same-patterns ps no_tys (bind_types p any_ty g) (bind_types p any_ty h) (same-pattern p any_ty g h s)
    same-patterns (more_pats p ps) (more_tys t ts) g h s =
        same-patterns ps ts (bind_types p t g) (bind_types p t h) (same-pattern p t g h s)

  mutual
    pub type-same : (e : Ex) (g h : Names Ty) → TypeNamesAre u e → Same g h → type_of e g ≡ type_of e h
    type-same (number_ex n) g h q s = refl
    type-same (truth_ex b) g h q s = refl
    type-same (name_ex a) g h q s = s a q
    type-same (node_ex b op es) g h q s = ap (type_of_node op (statics es)) (types-same es g h q s)
    type-same (matrix_ex es d) g h q s =
        ap (λ l. and_then (all_some l) (λ ts. option_map (compound2 a_matrix (type_of_dom d)) (join_all ts))) (types-same es g h q s)
    type-same (comp_ex e gs) g h q s =
        gens-same gs g h (λ i. option_map (compound2 a_matrix int_ty) (type_of e i)) (λ i. option_map (compound2 a_matrix int_ty)
        (type_of e i)) q.1 s
        (λ i j r. ap (option_map (compound2 a_matrix int_ty)) (type-same e i j q.0 r))
    type-same (cell_ex b n es) g h q s = ap (λ o. Some (if b then bool_ty else number_cell_ty o)) (s n q)
    type-same (seen_ex r d ns es) g h q s = refl

    pub types-same : (es : Exs) (g h : Names Ty) → AllTypeNamesAre u es → Same g h → types_of es g ≡ types_of es h
    types-same no_exs g h q s = refl
    types-same (more_exs e es) g h q s =
        ap (λ o. o ∷ types_of es g) (type-same e g h q.0 s) ∙ ap (λ l. type_of e h ∷ l) (types-same es g h q.1 s)

    gens-same : (gs : Gens) (g h : Names Ty) (k l : Names Ty → Option Ty) → GensTypeNamesAre u gs → Same g h →
        ((i j : Names Ty) → Same i j → k i ≡ l j) → and_then (types_under gs g) k ≡ and_then (types_under gs h) l
    gens-same no_gens g h k l q s f = f g h s
    gens-same (over p d gs) g h k l q s f =
        gens-same gs (bind_types p (type_of_dom d) g) (bind_types p (type_of_dom d) h) k l q (same-pattern p (type_of_dom d) g h s) f
    gens-same (from p e gs) g h k l q s f =
        then-same (and_then (type_of e g) member_ty) (λ t. types_under gs (bind_types p t g)) (λ t. types_under gs (bind_types p t h)) k l
        (λ t. gens-same gs (bind_types p t g) (bind_types p t h) k l q.1 (same-pattern p t g h s) f)
        ∙ ap (λ o. and_then (and_then (and_then o member_ty) (λ t. types_under gs (bind_types p t h))) l) (type-same e g h q.0 s)
    gens-same (cond e gs) g h k l q s f =
        then-same (type_of e g) (λ t. and_then (join t bool_ty) (λ w. types_under gs g)) (λ t. and_then (join t bool_ty) (λ w. types_under gs
        h)) k l
        (λ t. then-same (join t bool_ty) (λ w. types_under gs g) (λ w. types_under gs h) k l (λ w. gens-same gs g h k l q.1 s f))
        ∙ ap (λ o. and_then (and_then o (λ t. and_then (join t bool_ty) (λ w. types_under gs h))) l) (type-same e g h q.0 s)

-- A new name changes no type.
pub type-behind : (x : Text) (t : Ty) (e : Ex) (g : Names Ty) → IsUntyped x e → type_of e ((x, t) ∷ g) ≡ type_of e g
type-behind x t e g q = type-same (λ a. not (same_text x a)) e ((x, t) ∷ g) g q (λ a k. go (same_text x a) (look g a) k)
  where
    go : (b : Bool) (o : Option Ty) → IsTrue (not b) → (if b then Some t else o) ≡ o
    go true o k = cc
    go false o k = refl

-- Types under names.
pub types-need-their-names : TypesNeedTheirNames
types-need-their-names = record {
  under_equal_types = λ u e g h q s. type-same u e g h q s;
  behind_a_new_name = λ x t e g q. type-behind x t e g q;
}
