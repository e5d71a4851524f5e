-- The items of a list that is laid open are scalars where the operator on it makes a scalar.
use Rattle.std.proofs.Common.{◌≡◌, refl, sym, ap, ◌∙◌, Bool, true, false, ◌&&◌, if◌then◌else◌, List, [], ◌∷◌, Option, Some, None, option_map}
use Rattle.std.specs.Prelude.{is_some}
use Rattle.std.specs.List.{list_all}
use Rattle.ess_semantics.specs.Lists.{and_then, all_some}
use Rattle.ess_semantics.specs.Values.{a_matrix}
use Rattle.ess_semantics.specs.Order.{same_kind}
use Rattle.ess_semantics.specs.Names.{Names}
use Rattle.ess_semantics.specs.Trees.{matrix_literal, Ex, Exs, node_ex, comp_ex, Gens}
use Rattle.ess_semantics.specs.Types.{Ty, Tys, any_ty, bool_ty, int_ty, named_ty, compound, compound2, no_tys, more_tys, join, joins, join_all, is_open, fit}
use Rattle.ess_semantics.specs.OperatorTypes.{type_of_op, list_ty, chosen_ty, extreme_ty, compared, lex_compared}
use Rattle.ess_semantics.specs.Typing.{type_of, types_of, types_under}
use Rattle.ess_semantics.specs.NamesAt.{names_behind}
use Rattle.ess_semantics.proofs.Tests.{and-left, and-right, and-both}
use Rattle.ess_types_laws.proofs.ResolvedTypes.{behind-types}
use Rattle.ess_rules_laws.specs.FoldRules.{is_laid_open}
use Rattle.ess_refine_laws.specs.ScalarItems.{is_scalar, has_scalar_items}
use Rattle.ess_refine_laws.specs.Progress.{is_known, is_judged, are_judged, gens_judged}
use Rattle.ess_refine_laws.proofs.NeverScalars.{no}
use Rattle.ess_refine_laws.proofs.ScalarOperands.{fits-none}

-- ---- items of lists

-- What isn't compound: the type of the members of an empty literal, or a scalar.
abbrev pub is_single : Ty → Bool
is_single (compound k ts) = false
is_single t = true

-- What is known and isn't compound is a scalar.
pub single-scalar : (t : Ty) → is_known (Some t) ≡ true → is_single t ≡ true → is_scalar (Some t) ≡ true
single-scalar bool_ty h s = refl
single-scalar int_ty h s = refl
single-scalar (named_ty a) h s = refl
single-scalar any_ty h s = h
single-scalar (compound k ts) h s = no s

-- A type that joins one to a type that isn't compound isn't compound, nor is the other.
pub left-single : (t u v : Ty) → join t u ≡ Some v → is_single v ≡ true → is_single t ≡ true
left-single any_ty u v e s = refl
left-single bool_ty u v e s = refl
left-single int_ty u v e s = refl
left-single (named_ty a) u v e s = refl
left-single (compound k ts) any_ty v e s = ap is_single (ap (λ o. elim o [ None ↦ compound k ts | Some z ↦ z ]) e) ∙ s
left-single (compound k ts) bool_ty v e s = cc
left-single (compound k ts) int_ty v e s = cc
left-single (compound k ts) (named_ty a) v e s = cc
left-single (compound k ts) (compound l us) v e s =
    go (same_kind k l) (if is_open k ts then Some us else (if is_open k us then Some ts else joins ts us)) e
  where
    go : (b : Bool) (o : Option Tys) → (if b then option_map (compound k) o else None) ≡ Some v → false ≡ true
    go true None e = cc
    go true (Some vs) e = ap is_single (ap (λ o. elim o [ None ↦ v | Some z ↦ z ]) e) ∙ s
    go false o e = cc

pub right-single : (t u v : Ty) → join t u ≡ Some v → is_single v ≡ true → is_single u ≡ true
right-single t any_ty v e s = refl
right-single t bool_ty v e s = refl
right-single t int_ty v e s = refl
right-single t (named_ty a) v e s = refl
right-single any_ty (compound l us) v e s = ap is_single (ap (λ o. elim o [ None ↦ v | Some z ↦ z ]) e) ∙ s
right-single bool_ty (compound l us) v e s = cc
right-single int_ty (compound l us) v e s = cc
right-single (named_ty a) (compound l us) v e s = cc
right-single (compound k ts) (compound l us) v e s =
    go (same_kind k l) (if is_open k ts then Some us else (if is_open k us then Some ts else joins ts us)) e
  where
    go : (b : Bool) (o : Option Tys) → (if b then option_map (compound k) o else None) ≡ Some v → false ≡ true
    go true None e = cc
    go true (Some vs) e = ap is_single (ap (λ o. elim o [ None ↦ v | Some z ↦ z ]) e) ∙ s
    go false o e = cc

-- Items whose types agree with one that isn't compound are scalars.
pub items-scalar : (os : List (Option Ty)) (ts : List Ty) (u : Ty) → all_some os ≡ Some ts → join_all ts ≡ Some u → is_single u ≡ true →
    list_all is_known os ≡ true → list_all is_scalar os ≡ true
items-scalar [] ts u a j s k = refl
items-scalar (None ∷ os) ts u a j s k = cc
items-scalar (Some t ∷ os) ts u a j s k =
    go (all_some os) refl a (λ us b w i r. items-scalar os us w b i r (and-right (is_known (Some t)) (list_all is_known os) k))
  where
    inner : (us : List Ty) (o : Option Ty) → join_all us ≡ o → and_then o (join t) ≡ Some u →
        ((w : Ty) → join_all us ≡ Some w → is_single w ≡ true → list_all is_scalar os ≡ true) →
        is_scalar (Some t) && list_all is_scalar os ≡ true
    inner us None i j h = cc
    inner us (Some w) i j h =
        and-both (is_scalar (Some t)) (list_all is_scalar os)
        (single-scalar t (and-left (is_known (Some t)) (list_all is_known os) k) (left-single t w u j s))
        (h w i (right-single t w u j s))

    go : (z : Option (List Ty)) → all_some os ≡ z → option_map (λ xs. t ∷ xs) z ≡ Some ts →
        ((us : List Ty) → all_some os ≡ Some us → (w : Ty) → join_all us ≡ Some w → is_single w ≡ true → list_all is_scalar os ≡ true) →
        is_scalar (Some t) && list_all is_scalar os ≡ true
    go None b a h = cc
    go (Some us) b a h = inner us (join_all us) refl
        (ap join_all (ap (λ o. elim o [ None ↦ t ∷ us | Some l ↦ l ]) a) ∙ j) (h us b)

-- ---- lists that are laid open

-- The type of a comprehension or of a list literal is that of lists; where their items' type isn't compound the items are scalars,
-- where they are known.
pub record ListType (g : Names Ty) (l : Ex) : Type 0 where
  pub index : Ty
  pub item : Ty
  pub is_list : type_of l g ≡ Some (compound a_matrix (more_tys index (more_tys item no_tys)))
  pub are_scalars : is_single item ≡ true → has_scalar_items l g ≡ true

-- Whether what a list has is known.
abbrev pub items_known : Names Ty → Ex → Bool
items_known g (comp_ex e gs) = is_known (type_of e (names_behind gs g))
items_known g (node_ex false matrix_literal es) = list_all is_known (types_of es g)
items_known g l = true

pub comp-type : (g : Names Ty) (e : Ex) (gs : Gens) → is_known (type_of e (names_behind gs g)) ≡ true →
    is_some (type_of (comp_ex e gs) g) ≡ true → ListType g (comp_ex e gs)
comp-type g e gs k t = go (types_under gs g) refl t
  where
    inner : (h : Names Ty) (o : Option Ty) → types_under gs g ≡ Some h → type_of e h ≡ o →
        is_some (option_map (compound2 a_matrix int_ty) o) ≡ true →
        ListType g (comp_ex e gs)
    inner h None q r t = no t
    inner h (Some u) q r t = record {
      index = int_ty;
      item = u;
      is_list = ap (λ o. and_then o (λ h. option_map (compound2 a_matrix int_ty) (type_of e h))) q
          ∙ ap (option_map (compound2 a_matrix int_ty)) r;
      are_scalars = λ s.
          let w : type_of e (names_behind gs g) ≡ Some u = ap (λ z. type_of e z) (behind-types gs g h q) ∙ r in
          ap is_scalar w ∙ single-scalar u (sym (ap is_known w) ∙ k) s;
    }

    go : (o : Option (Names Ty)) → types_under gs g ≡ o →
        is_some (and_then o (λ h. option_map (compound2 a_matrix int_ty) (type_of e h))) ≡ true →
        ListType g (comp_ex e gs)
    go None q t = no t
    go (Some h) q t = inner h (type_of e h) q refl t

pub literal-type : (g : Names Ty) (es : Exs) → list_all is_known (types_of es g) ≡ true →
    is_some (type_of (node_ex false matrix_literal es) g) ≡ true → ListType g (node_ex false matrix_literal es)
literal-type g es k t = go (all_some (types_of es g)) refl t
  where
    inner : (u : Ty) (ts : List Ty) (o : Option Ty) → all_some (types_of es g) ≡ Some (u ∷ ts) → join_all (u ∷ ts) ≡ o →
        is_some (option_map (compound2 a_matrix int_ty) o) ≡ true → ListType g (node_ex false matrix_literal es)
    inner u ts None q r t = no t
    inner u ts (Some v) q r t = record {
      index = int_ty;
      item = v;
      is_list = ap (λ o. and_then o (type_of_op matrix_literal)) q ∙ ap (option_map (compound2 a_matrix int_ty)) r;
      are_scalars = λ s. items-scalar (types_of es g) (u ∷ ts) v q r s k;
    }

    none : (os : List (Option Ty)) → all_some os ≡ Some [] → list_all is_scalar os ≡ true
    none [] q = refl
    none (None ∷ os) q = cc
    none (Some u ∷ os) q = rest (all_some os) q
      where
        rest : (z : Option (List Ty)) → option_map (λ xs. u ∷ xs) z ≡ Some [] → is_scalar (Some u) && list_all is_scalar os ≡ true
        rest None q = cc
        rest (Some us) q = cc

    go : (o : Option (List Ty)) → all_some (types_of es g) ≡ o → is_some (and_then o (type_of_op matrix_literal)) ≡ true →
        ListType g (node_ex false matrix_literal es)
    go None q t = no t
    go (Some []) q t = record {
      index = any_ty;
      item = any_ty;
      is_list = ap (λ o. and_then o (type_of_op matrix_literal)) q;
      are_scalars = λ s. none (types_of es g) q;
    }
    go (Some (u ∷ ts)) q t = inner u ts (join_all (u ∷ ts)) q refl t

-- A list that is laid open has such a type.
pub open-type : (g : Names Ty) (l : Ex) → is_laid_open l ≡ true → items_known g l ≡ true → is_some (type_of l g) ≡ true → ListType g l
open-type g (comp_ex e gs) o k t = comp-type g e gs k t
open-type g (node_ex false matrix_literal es) o k t = literal-type g es k t
open-type g _ o k t = no o

-- ---- operators on lists

-- A fold over numbers or truth values, and the least or greatest, have scalars.
pub folded-scalars : (g : Names Ty) (l : Ex) (r s : Ty) → is_scalar (Some r) ≡ true → ListType g l →
    is_scalar (and_then (type_of l g) (λ t. and_then (list_ty t) (λ e. fit e r s))) ≡ true → has_scalar_items l g ≡ true
folded-scalars g l r s h t e = t.are_scalars (go t.item (ap (λ o. is_scalar (and_then o (λ t. and_then (list_ty t) (λ e. fit e r s))))
    (sym t.is_list) ∙ e))
  where
    go : (u : Ty) → is_scalar (fit u r s) ≡ true → is_single u ≡ true
    go (compound k ts) e = sym (fits-none r h s k ts) ∙ e
    go any_ty e = refl
    go bool_ty e = refl
    go int_ty e = refl
    go (named_ty a) e = refl

pub extreme-scalars : (g : Names Ty) (l : Ex) → ListType g l → is_scalar (and_then (type_of l g) extreme_ty) ≡ true →
    has_scalar_items l g ≡ true
extreme-scalars g l t e = t.are_scalars (go t.item (ap (λ o. is_scalar (and_then o extreme_ty)) (sym t.is_list) ∙ e))
  where
    go : (u : Ty) → is_scalar (chosen_ty u) ≡ true → is_single u ≡ true
    go (compound k ts) e = e
    go any_ty e = refl
    go bool_ty e = refl
    go int_ty e = refl
    go (named_ty a) e = refl

-- Two lists that a lexicographic sign compares have scalars.
pub lex-scalars : (g : Names Ty) (a b : Ex) → ListType g a → ListType g b →
    is_scalar (and_then (type_of a g) (λ t. and_then (type_of b g) (λ u. and_then (join t u) lex_compared))) ≡ true →
    (has_scalar_items a g ≡ true) × (has_scalar_items b g ≡ true)
lex-scalars g a b s t e =
    let r = go s.index t.index s.item t.item
    (ap (λ o. is_scalar (and_then o (λ u. and_then (join (compound a_matrix (more_tys s.index
    (more_tys s.item no_tys))) u) lex_compared)))
    (sym t.is_list)
    ∙ ap (λ o. is_scalar (and_then o (λ t. and_then (type_of b g) (λ u. and_then (join t u) lex_compared)))) (sym s.is_list) ∙ e) in
    (s.are_scalars r.0, t.are_scalars r.1)
  where
    two : (i j u v : Ty) (o p : Option Ty) → join u v ≡ p →
        is_scalar (and_then (option_map (compound a_matrix) (and_then o (λ z. option_map (more_tys z) (and_then p (λ w. option_map
        (more_tys w) (Some no_tys)))))) lex_compared)
        ≡ true → (is_single u ≡ true) × (is_single v ≡ true)
    two i j u v None p q e = no e
    two i j u v (Some z) None q e = no e
    two i j u v (Some z) (Some w) q e = let r = single w e in (left-single u v w q r, right-single u v w q r)
      where
        single : (w : Ty) → is_scalar (compared w) ≡ true → is_single w ≡ true
        single (compound k ts) e = e
        single any_ty e = refl
        single bool_ty e = refl
        single int_ty e = refl
        single (named_ty a) e = refl

    go : (i j u v : Ty) →
        is_scalar (and_then (join (compound a_matrix (more_tys i (more_tys u no_tys))) (compound a_matrix (more_tys j
        (more_tys v no_tys)))) lex_compared)
        ≡ true → (is_single u ≡ true) × (is_single v ≡ true)
    go i j u v e = two i j u v (join i j) (join u v) refl e

-- What a judged list has is known.
pub judged-items : (g : Names Ty) (l : Ex) → is_judged l g ≡ true → items_known g l ≡ true
judged-items g (comp_ex e gs) j =
    and-left (is_known (type_of e (names_behind gs g))) (is_judged e (names_behind gs g) && gens_judged gs g) j
judged-items g (node_ex false matrix_literal es) j = and-left (list_all is_known (types_of es g)) (are_judged es g) j
judged-items g _ j = refl

-- What makes a scalar of a type is of something that has a type.
pub typed-there : (o : Option Ty) (F : Ty → Option Ty) → is_scalar (and_then o F) ≡ true → is_some o ≡ true
typed-there None F e = e
typed-there (Some t) F e = refl

pub second-there : (o p : Option Ty) (F : Ty → Ty → Option Ty) → is_scalar (and_then o (λ t. and_then p (λ u. F t u))) ≡ true →
    is_some p ≡ true
second-there None p F e = no e
second-there (Some t) None F e = e
second-there (Some t) (Some u) F e = refl
