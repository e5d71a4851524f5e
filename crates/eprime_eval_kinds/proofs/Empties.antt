-- Whether an expression is the one that has nothing doesn't depend on the declared names.
use Rattle.std.proofs.Common.{◌≡◌, refl, sym, ap, ◌∙◌, subst, Bool, true, false, ◌&&◌, ◌||◌, not, List, [], ◌∷◌, map, Option, is_some}
use Rattle.std.specs.List.{list_any}
use Rattle.ess_semantics.specs.Values.{Text}
use Rattle.ess_semantics.specs.Trees as pure
use Rattle.ess_semantics.specs.Trees.{Op, Exs, no_exs, more_exs, plain_node}
use Rattle.ess_semantics.specs.Types.{Ty, any_ty}
use Rattle.ess_semantics.specs.ModelMeaning.{is_nothing, some_nothing, kinded_node, kind_of_op, broken}
use Rattle.eprime_tree.specs.Views.{Item, Bounds, exs_of}
use Rattle.eprime_eval_kinds.specs.declared.tree.KEx.{KEx}
use Rattle.eprime_eval_kinds.specs.declared.tree.KList.{KList}
use Rattle.eprime_eval_kinds.specs.declared.tree.KGen.{KGen}
use Rattle.eprime_eval_kinds.specs.declared.tree.KDom.{KDom}
use Rattle.eprime_eval_kinds.specs.declared.tree.KRange.{KRange}
use Rattle.eprime_eval_kinds.specs.declared.tree.KDom.TheOpen.{KEx-F, KList-F}
use Rattle.eprime_eval_kinds.specs.declared.tree.KDom.TheFolds.{fold-roll-KEx, fold-roll-KList}
use Rattle.eprime_eval_kinds.specs.declared.tree.KDom.TheViews.{out-KEx, roll-KEx, roll-out-KEx, out-KList, roll-KList, roll-out-KList}
use Rattle.eprime_eval_kinds.specs.KindedViews.{kex_step, klist_step, kgen_step, kdom_step, krange_step, pure_kex, pure_klist}
use Rattle.eprime_eval_kinds.specs.Standing.{stands}
use Rattle.eprime_eval_kinds.proofs.NodeForms.{node_fits, node_misfits, node_empty}

-- Whether a layer is.
abbrev empty : KEx-F KDom KEx KGen KList KRange → Bool
empty KEx-F.Nothing = true
empty (KEx-F.Name []) = true
empty x = false

empty-layer : (names : List Text) (x : KEx-F KDom KEx KGen KList KRange) → is_nothing (pure_kex names (roll-KEx x)) ≡ empty x
empty-layer names (KEx-F.Num n) = ap is_nothing
    (fold-roll-KEx pure.Dom pure.Ex Item pure.Ex Bounds kdom_step (kex_step names) kgen_step klist_step krange_step (KEx-F.Num n))
empty-layer names (KEx-F.Truth b) = ap is_nothing
    (fold-roll-KEx pure.Dom pure.Ex Item pure.Ex Bounds kdom_step (kex_step names) kgen_step klist_step krange_step (KEx-F.Truth b))
empty-layer names KEx-F.Nothing = ap is_nothing
    (fold-roll-KEx pure.Dom pure.Ex Item pure.Ex Bounds kdom_step (kex_step names) kgen_step klist_step krange_step KEx-F.Nothing)
empty-layer names (KEx-F.Name []) = ap is_nothing
    (fold-roll-KEx pure.Dom pure.Ex Item pure.Ex Bounds kdom_step (kex_step names) kgen_step klist_step krange_step (KEx-F.Name []))
empty-layer names (KEx-F.Name (a ∷ as')) = ap is_nothing
    (fold-roll-KEx pure.Dom pure.Ex Item pure.Ex Bounds kdom_step (kex_step names) kgen_step klist_step krange_step (KEx-F.Name (a ∷ as')))
empty-layer names (KEx-F.Cell b n es) = ap is_nothing
    (fold-roll-KEx pure.Dom pure.Ex Item pure.Ex Bounds kdom_step (kex_step names) kgen_step klist_step krange_step (KEx-F.Cell b n es))
empty-layer names (KEx-F.KEx::One o e) = ap is_nothing
    (fold-roll-KEx pure.Dom pure.Ex Item pure.Ex Bounds kdom_step (kex_step names) kgen_step klist_step krange_step (KEx-F.KEx::One o e))
empty-layer names (KEx-F.Two o a b) = ap is_nothing
    (fold-roll-KEx pure.Dom pure.Ex Item pure.Ex Bounds kdom_step (kex_step names) kgen_step klist_step krange_step (KEx-F.Two o a b))
empty-layer names (KEx-F.Fold f l) = ap is_nothing
    (fold-roll-KEx pure.Dom pure.Ex Item pure.Ex Bounds kdom_step (kex_step names) kgen_step klist_step krange_step (KEx-F.Fold f l))
empty-layer names (KEx-F.Lex o a b) = ap is_nothing
    (fold-roll-KEx pure.Dom pure.Ex Item pure.Ex Bounds kdom_step (kex_step names) kgen_step klist_step krange_step (KEx-F.Lex o a b))

-- At no names as at any.
pub empty-anywhere : (names : List Text) (e : KEx) → is_nothing (pure_kex names e) ≡ is_nothing (pure_kex [] e)
empty-anywhere names e =
    subst (λ e. is_nothing (pure_kex names e) ≡ is_nothing (pure_kex [] e)) (roll-out-KEx e)
    (empty-layer names (out-KEx e) ∙ sym (empty-layer [] (out-KEx e)))

-- Whether one of several is.
pub some_empty : (names : List Text) (es : List KEx)
    → list_any (λ e. is_nothing (pure_kex [] e)) es ≡ some_nothing (exs_of (map (pure_kex names) es))
some_empty names [] = refl
some_empty names (e ∷ es) =
    ap (λ b. b || list_any (λ e. is_nothing (pure_kex [] e)) es) (sym (empty-anywhere names e))
    ∙ ap (λ b. is_nothing (pure_kex names e) || b) (some_empty names es)

-- A list is none that has nothing.
full-layer : (names : List Text) (x : KList-F KDom KEx KGen KList KRange) → is_nothing (pure_klist names (roll-KList x)) ≡ false
full-layer names (KList-F.Items es) = ap is_nothing
    (fold-roll-KList pure.Dom pure.Ex Item pure.Ex Bounds kdom_step (kex_step names) kgen_step klist_step krange_step (KList-F.Items es))
full-layer names (KList-F.Comp e gs) = ap is_nothing
    (fold-roll-KList pure.Dom pure.Ex Item pure.Ex Bounds kdom_step (kex_step names) kgen_step klist_step krange_step (KList-F.Comp e gs))

pub list-full : (names : List Text) (l : KList) → is_nothing (pure_klist names l) ≡ false
list-full names l = subst (λ l. is_nothing (pure_klist names l) ≡ false) (roll-out-KList l) (full-layer names (out-KList l))

-- ---- nodes that stand or don't

stand-cases : (b c d : Bool) → d ≡ (b && not c) → d ≡ true → (b ≡ true) × (c ≡ false)
stand-cases true false d e f = (refl, refl)
stand-cases true true d e f = cc
stand-cases false true d e f = cc
stand-cases false false d e f = cc

-- A node that stands.
pub node-stands : (op : Op) (es : Exs) (o : Option Ty) (t : Ty) (d : Bool) → ((u : Ty) → kind_of_op op u ≡ t) → d ≡ stands es o → d ≡ true
    → kinded_node op es [] o ≡ (plain_node op es, t)
node-stands op es o t d k e f = let h = stand-cases (is_some o) (some_nothing es) d e f in node_fits op es o t k h.0 h.1

-- One that doesn't.
pub node-breaks : (op : Op) (es : Exs) (o : Option Ty) (t : Ty) (d : Bool) → ((u : Ty) → kind_of_op op u ≡ t) → d ≡ stands es o → d ≡ false
    → kinded_node op es [] o ≡ broken t
node-breaks op es o t d k e f = go (is_some o) (some_nothing es) refl refl
  where
    go : (b c : Bool) → is_some o ≡ b → some_nothing es ≡ c → kinded_node op es [] o ≡ broken t
    go false c h i = node_misfits op es o t (k any_ty) h
    go true true h i = node_empty op es o t (k any_ty) i
    go true false h i = let q : d ≡ true = e ∙ ap (λ b. b && not (some_nothing es)) h ∙ ap (λ c. true && not c) i in cc

-- What stands at no names stands at any.
pub one-stands : (names : List Text) (e : KEx) (o : Option Ty)
    → stands (more_exs (pure_kex [] e) no_exs) o ≡ stands (more_exs (pure_kex names e) no_exs) o
one-stands names e o = ap (λ b. is_some o && not (b || false)) (sym (empty-anywhere names e))

pub two-stand : (names : List Text) (a b : KEx) (o : Option Ty)
    → stands (more_exs (pure_kex [] a) (more_exs (pure_kex [] b) no_exs)) o
    ≡ stands (more_exs (pure_kex names a) (more_exs (pure_kex names b) no_exs)) o
two-stand names a b o =
    ap (λ c. is_some o && not (c || (is_nothing (pure_kex [] b) || false))) (sym (empty-anywhere names a))
    ∙ ap (λ c. is_some o && not (is_nothing (pure_kex names a) || (c || false))) (sym (empty-anywhere names b))
