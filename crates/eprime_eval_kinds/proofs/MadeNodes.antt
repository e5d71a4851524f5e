-- The nodes that the code makes are those of the definitions.
use Rattle.std.proofs.Common.{◌≡◌, refl, sym, ap, ◌∙◌, Bool, true, false, ◌&&◌, ◌||◌, List, [], ◌∷◌, Option, Some, None, option_map, is_some}
use Rattle.ess_semantics.specs.Lists.{and_then}
use Rattle.ess_semantics.specs.Values.{Text, a_matrix}
use Rattle.ess_semantics.specs.Trees.{binary, word, name_ex, no_exs, more_exs}
use Rattle.ess_semantics.specs.Types.{Ty, any_ty, bool_ty, int_ty, compound, no_tys, more_tys, compound2, join, fit}
use Rattle.ess_semantics.specs.OperatorTypes.{type_of_op, type_of_binary, type_of_word1, subtracted, compared, lex_compared}
use Rattle.ess_semantics.specs.ModelMeaning.{kinded_node, kind_of_op, broken, is_nothing}
use Rattle.eprime_tree.specs.declared.words.POp1.{POp1}
use Rattle.eprime_tree.specs.declared.words.POp2.{POp2}
use Rattle.eprime_tree.specs.declared.words.PFun.{PFun}
use Rattle.eprime_tree.specs.Views.{pure_op1, pure_op2, pure_fun}
use Rattle.eprime_eval_kinds.specs.declared.nodes.KindedEx.{KindedEx}
use Rattle.eprime_eval_kinds.specs.declared.lists.KindedList.{KindedList}
use Rattle.eprime_eval_kinds.specs.declared.tree.Kind.{Kind}
use Rattle.eprime_eval_kinds.specs.declared.tree.KEx.{KEx}
use Rattle.eprime_eval_kinds.specs.declared.tree.KEx.TheVariants as kex
use Rattle.eprime_eval_kinds.specs.KindedViews.{pure_kex, pure_klist, pure_kind, pure_kinded}
use Rattle.eprime_eval_kinds.specs.KindedLists.{pure_listed}
use Rattle.eprime_eval_kinds.specs.Standing.{stands}
use Rattle.eprime_eval_kinds.proofs.KindedEquations.{pure_kex_one, pure_kex_two, pure_kex_fold, pure_kex_lex}
use Rattle.eprime_eval_kinds.proofs.NodeForms.{node_fits, node_misfits, node_empty}
use Rattle.eprime_eval_kinds.proofs.Empties.{node-stands, node-breaks, one-stands, two-stand, list-full}

-- ---- one operand

pub one_stands : (names : List Text) (o : POp1) (a : KindedEx) (e : KEx) (t : Kind) → ((u : Ty) → kind_of_op (pure_op1 o) u ≡ pure_kind t)
    → true ≡ stands (more_exs (pure_kex [] a.ex) no_exs) (type_of_op (pure_op1 o) (pure_kind a.kind ∷ [])) → e ≡ kex.One o a.ex
    → (pure_kex names e, pure_kind t) ≡ kinded_node (pure_op1 o) (more_exs (pure_kex names a.ex) no_exs) []
    (type_of_op (pure_op1 o) (pure_kind a.kind ∷ []))
one_stands names o a e t k s p =
    ap (λ x. (pure_kex names x, pure_kind t)) p ∙ ap (λ x. (x, pure_kind t)) (pure_kex_one names o a.ex)
    ∙ sym (node-stands (pure_op1 o) (more_exs (pure_kex names a.ex) no_exs) (type_of_op (pure_op1 o) (pure_kind a.kind ∷ []))
    (pure_kind t) true k (s ∙ one-stands names a.ex _) refl)

pub one_breaks : (names : List Text) (o : POp1) (a k : KindedEx) (t : Kind) → ((u : Ty) → kind_of_op (pure_op1 o) u ≡ pure_kind t)
    → false ≡ stands (more_exs (pure_kex [] a.ex) no_exs) (type_of_op (pure_op1 o) (pure_kind a.kind ∷ []))
    → pure_kinded names k ≡ broken (pure_kind t)
    → pure_kinded names k ≡ kinded_node (pure_op1 o) (more_exs (pure_kex names a.ex) no_exs) []
    (type_of_op (pure_op1 o) (pure_kind a.kind ∷ []))
one_breaks names o a k t h s p =
    p ∙ sym (node-breaks (pure_op1 o) (more_exs (pure_kex names a.ex) no_exs) (type_of_op (pure_op1 o) (pure_kind a.kind ∷ []))
    (pure_kind t) false h (s ∙ one-stands names a.ex _) refl)

-- ---- two operands

pub two_stands : (names : List Text) (o : POp2) (a b : KindedEx) (e : KEx) (t : Kind)
    → ((u : Ty) → kind_of_op (binary (pure_op2 o)) u ≡ pure_kind t)
    → true ≡ stands (more_exs (pure_kex [] a.ex) (more_exs (pure_kex [] b.ex) no_exs))
    (type_of_op (binary (pure_op2 o)) (pure_kind a.kind ∷ pure_kind b.kind ∷ [])) → e ≡ kex.Two o a.ex b.ex
    → (pure_kex names e, pure_kind t) ≡ kinded_node (binary (pure_op2 o))
    (more_exs (pure_kex names a.ex) (more_exs (pure_kex names b.ex) no_exs)) []
    (type_of_op (binary (pure_op2 o)) (pure_kind a.kind ∷ pure_kind b.kind ∷ []))
two_stands names o a b e t k s p =
    ap (λ x. (pure_kex names x, pure_kind t)) p ∙ ap (λ x. (x, pure_kind t)) (pure_kex_two names o a.ex b.ex)
    ∙ sym (node-stands (binary (pure_op2 o)) (more_exs (pure_kex names a.ex) (more_exs (pure_kex names b.ex) no_exs))
    (type_of_op (binary (pure_op2 o)) (pure_kind a.kind ∷ pure_kind b.kind ∷ []))
    (pure_kind t) true k (s ∙ two-stand names a.ex b.ex _) refl)

pub two_breaks : (names : List Text) (o : POp2) (a b k : KindedEx) (t : Kind)
    → ((u : Ty) → kind_of_op (binary (pure_op2 o)) u ≡ pure_kind t)
    → false ≡ stands (more_exs (pure_kex [] a.ex) (more_exs (pure_kex [] b.ex) no_exs))
    (type_of_op (binary (pure_op2 o)) (pure_kind a.kind ∷ pure_kind b.kind ∷ []))
    → pure_kinded names k ≡ broken (pure_kind t)
    → pure_kinded names k ≡ kinded_node (binary (pure_op2 o)) (more_exs (pure_kex names a.ex) (more_exs (pure_kex names b.ex) no_exs)) []
    (type_of_op (binary (pure_op2 o)) (pure_kind a.kind ∷ pure_kind b.kind ∷ []))
two_breaks names o a b k t h s p =
    p ∙ sym (node-breaks (binary (pure_op2 o)) (more_exs (pure_kex names a.ex) (more_exs (pure_kex names b.ex) no_exs))
    (type_of_op (binary (pure_op2 o)) (pure_kind a.kind ∷ pure_kind b.kind ∷ []))
    (pure_kind t) false h (s ∙ two-stand names a.ex b.ex _) refl)

-- ---- a word over a list

-- The type of a list.
abbrev list_kind : KindedList → Ty
list_kind l = compound2 a_matrix (pure_kind l.index) (pure_kind l.item)

pub fold_stands : (names : List Text) (f : PFun) (l : KindedList) (e : KEx) (t : Kind)
    → ((u : Ty) → kind_of_op (word (pure_fun f)) u ≡ pure_kind t)
    → ((i : Ty) → is_some (type_of_word1 (pure_fun f) (compound2 a_matrix i (pure_kind l.item))) ≡ true) → e ≡ kex.Fold f l.list
    → (pure_kex names e, pure_kind t) ≡ kinded_node (word (pure_fun f)) (more_exs (pure_listed names (Some l)).0 no_exs) []
    (type_of_op (word (pure_fun f)) ((pure_listed names (Some l)).1 ∷ []))
fold_stands names f l e t k s p =
    ap (λ x. (pure_kex names x, pure_kind t)) p ∙ ap (λ x. (x, pure_kind t)) (pure_kex_fold names f l.list)
    ∙ sym (node_fits (word (pure_fun f)) (more_exs (pure_klist names l.list) no_exs) (type_of_op (word (pure_fun f)) (list_kind l ∷ []))
    (pure_kind t) k (s (pure_kind l.index))
    (ap (λ b. b || false) (list-full names l.list)))

pub fold_breaks : (names : List Text) (f : PFun) (l : KindedList) (k : KindedEx) (t : Kind)
    → ((u : Ty) → kind_of_op (word (pure_fun f)) u ≡ pure_kind t)
    → ((i : Ty) → is_some (type_of_word1 (pure_fun f) (compound2 a_matrix i (pure_kind l.item))) ≡ false)
    → pure_kinded names k ≡ broken (pure_kind t)
    → pure_kinded names k ≡ kinded_node (word (pure_fun f)) (more_exs (pure_listed names (Some l)).0 no_exs) []
    (type_of_op (word (pure_fun f)) ((pure_listed names (Some l)).1 ∷ []))
fold_breaks names f l k t h s p =
    p ∙ sym (node_misfits (word (pure_fun f)) (more_exs (pure_klist names l.list) no_exs)
    (type_of_op (word (pure_fun f)) (list_kind l ∷ [])) (pure_kind t) (h any_ty) (s (pure_kind l.index)))

pub fold_none : (names : List Text) (f : PFun) (k : KindedEx) (t : Kind) → ((u : Ty) → kind_of_op (word (pure_fun f)) u ≡ pure_kind t)
    → pure_kinded names k ≡ broken (pure_kind t)
    → pure_kinded names k ≡ kinded_node (word (pure_fun f)) (more_exs (pure_listed names None).0 no_exs) []
    (type_of_op (word (pure_fun f)) ((pure_listed names None).1 ∷ []))
fold_none names f k t h p = p ∙ sym (node_empty (word (pure_fun f)) (more_exs (name_ex []) no_exs)
    (type_of_op (word (pure_fun f)) (any_ty ∷ [])) (pure_kind t) (h any_ty) refl)

-- The list by another name.
pub fold_at : (names : List Text) (f : PFun) (o p : Option KindedList) (k : KindedEx) → o ≡ p
    → pure_kinded names k ≡ kinded_node (word (pure_fun f)) (more_exs (pure_listed names p).0 no_exs) []
    (type_of_op (word (pure_fun f)) ((pure_listed names p).1 ∷ []))
    → pure_kinded names k ≡ kinded_node (word (pure_fun f)) (more_exs (pure_listed names o).0 no_exs) []
    (type_of_op (word (pure_fun f)) ((pure_listed names o).1 ∷ []))
fold_at names f o p k e h = h ∙ ap (λ o. kinded_node (word (pure_fun f)) (more_exs (pure_listed names o).0 no_exs) []
    (type_of_op (word (pure_fun f)) ((pure_listed names o).1 ∷ []))) (sym e)

-- ---- a sign between two lists

-- The lists by other names.
pub lex_at : (names : List Text) (o : POp2) (a b x y : Option KindedList) (k : KindedEx) → a ≡ x → b ≡ y
    → pure_kinded names k ≡ kinded_node (binary (pure_op2 o))
    (more_exs (pure_listed names x).0 (more_exs (pure_listed names y).0 no_exs)) []
    (type_of_op (binary (pure_op2 o)) ((pure_listed names x).1 ∷ (pure_listed names y).1 ∷ []))
    → pure_kinded names k ≡ kinded_node (binary (pure_op2 o))
    (more_exs (pure_listed names a).0 (more_exs (pure_listed names b).0 no_exs)) []
    (type_of_op (binary (pure_op2 o)) ((pure_listed names a).1 ∷ (pure_listed names b).1 ∷ []))
lex_at names o a b x y k e f h =
    h ∙ ap (λ a. kinded_node (binary (pure_op2 o)) (more_exs (pure_listed names a).0 (more_exs (pure_listed names y).0 no_exs)) []
    (type_of_op (binary (pure_op2 o)) ((pure_listed names a).1 ∷ (pure_listed names y).1 ∷ []))) (sym e)
    ∙ ap (λ b. kinded_node (binary (pure_op2 o)) (more_exs (pure_listed names a).0 (more_exs (pure_listed names b).0 no_exs)) []
    (type_of_op (binary (pure_op2 o)) ((pure_listed names a).1 ∷ (pure_listed names b).1 ∷ []))) (sym f)

pub lex_stands : (names : List Text) (o : POp2) (a b : KindedList) (e : KEx) (t : Kind)
    → ((u : Ty) → kind_of_op (binary (pure_op2 o)) u ≡ pure_kind t)
    → true ≡ is_some (type_of_op (binary (pure_op2 o)) (list_kind a ∷ list_kind b ∷ [])) → e ≡ kex.Lex o a.list b.list
    → (pure_kex names e, pure_kind t) ≡ kinded_node (binary (pure_op2 o))
    (more_exs (pure_listed names (Some a)).0 (more_exs (pure_listed names (Some b)).0 no_exs)) []
    (type_of_op (binary (pure_op2 o)) ((pure_listed names (Some a)).1 ∷ (pure_listed names (Some b)).1 ∷ []))
lex_stands names o a b e t k s p =
    ap (λ x. (pure_kex names x, pure_kind t)) p ∙ ap (λ x. (x, pure_kind t)) (pure_kex_lex names o a.list b.list)
    ∙ sym (node_fits (binary (pure_op2 o)) (more_exs (pure_klist names a.list) (more_exs (pure_klist names b.list) no_exs))
    (type_of_op (binary (pure_op2 o)) (list_kind a ∷ list_kind b ∷ []))
    (pure_kind t) k (sym s) (ap (λ c. c || (is_nothing (pure_klist names b.list) || false)) (list-full names a.list)
    ∙ ap (λ c. c || false) (list-full names b.list)))

pub lex_breaks : (names : List Text) (o : POp2) (a b : KindedList) (k : KindedEx) (t : Kind)
    → ((u : Ty) → kind_of_op (binary (pure_op2 o)) u ≡ pure_kind t)
    → false ≡ is_some (type_of_op (binary (pure_op2 o)) (list_kind a ∷ list_kind b ∷ [])) → pure_kinded names k ≡ broken (pure_kind t)
    → pure_kinded names k ≡ kinded_node (binary (pure_op2 o))
    (more_exs (pure_listed names (Some a)).0 (more_exs (pure_listed names (Some b)).0 no_exs)) []
    (type_of_op (binary (pure_op2 o)) ((pure_listed names (Some a)).1 ∷ (pure_listed names (Some b)).1 ∷ []))
lex_breaks names o a b k t h s p =
    p ∙ sym (node_misfits (binary (pure_op2 o)) (more_exs (pure_klist names a.list) (more_exs (pure_klist names b.list) no_exs))
    (type_of_op (binary (pure_op2 o)) (list_kind a ∷ list_kind b ∷ []))
    (pure_kind t) (h any_ty) (sym s))

-- The first has nothing.
pub lex_none : (names : List Text) (o : POp2) (b : Option KindedList) (k : KindedEx) (t : Kind)
    → ((u : Ty) → kind_of_op (binary (pure_op2 o)) u ≡ pure_kind t) → pure_kinded names k ≡ broken (pure_kind t)
    → pure_kinded names k ≡ kinded_node (binary (pure_op2 o))
    (more_exs (pure_listed names None).0 (more_exs (pure_listed names b).0 no_exs)) []
    (type_of_op (binary (pure_op2 o)) ((pure_listed names None).1 ∷ (pure_listed names b).1 ∷ []))
lex_none names o b k t h p =
    p ∙ sym (node_empty (binary (pure_op2 o)) (more_exs (name_ex []) (more_exs (pure_listed names b).0 no_exs))
    (type_of_op (binary (pure_op2 o)) (any_ty ∷ (pure_listed names b).1 ∷ [])) (pure_kind t) (h any_ty) refl)

-- The second has.
pub lex_second_none : (names : List Text) (o : POp2) (a : KindedList) (k : KindedEx) (t : Kind)
    → ((u : Ty) → kind_of_op (binary (pure_op2 o)) u ≡ pure_kind t) → pure_kinded names k ≡ broken (pure_kind t)
    → pure_kinded names k ≡ kinded_node (binary (pure_op2 o))
    (more_exs (pure_listed names (Some a)).0 (more_exs (pure_listed names None).0 no_exs)) []
    (type_of_op (binary (pure_op2 o)) ((pure_listed names (Some a)).1 ∷ (pure_listed names None).1 ∷ []))
lex_second_none names o a k t h p =
    p ∙ sym (node_empty (binary (pure_op2 o)) (more_exs (pure_klist names a.list) (more_exs (name_ex []) no_exs))
    (type_of_op (binary (pure_op2 o)) (list_kind a ∷ any_ty ∷ [])) (pure_kind t) (h any_ty)
    (ap (λ c. c || true) (list-full names a.list)))

-- ---- which lists a sign takes

-- The kind with which two lists agree.
lists-joined : (i j e f : Kind) (p q : Option Kind) → option_map pure_kind p ≡ join (pure_kind i) (pure_kind j)
    → option_map pure_kind q ≡ join (pure_kind e) (pure_kind f)
    → join (compound2 a_matrix (pure_kind i) (pure_kind e)) (compound2 a_matrix (pure_kind j) (pure_kind f))
    ≡ and_then p (λ u. option_map (λ v. compound2 a_matrix (pure_kind u) (pure_kind v)) q)
lists-joined i j e f p q g h =
    ap (λ o. option_map (compound a_matrix)
    (and_then o (λ v. option_map (more_tys v)
    (and_then (join (pure_kind e) (pure_kind f)) (λ w. option_map (more_tys w) (Some no_tys)))))) (sym g)
    ∙ ap (λ o. option_map (compound a_matrix)
    (and_then (option_map pure_kind p) (λ v. option_map (more_tys v) (and_then o (λ w. option_map (more_tys w) (Some no_tys))))))
    (sym h)
    ∙ go p q
  where
    go : (p q : Option Kind)
        → option_map (compound a_matrix) (and_then (option_map pure_kind p)
        (λ v. option_map (more_tys v) (and_then (option_map pure_kind q) (λ w. option_map (more_tys w) (Some no_tys)))))
        ≡ and_then p (λ u. option_map (λ v. compound2 a_matrix (pure_kind u) (pure_kind v)) q)
    go None q = refl
    go (Some u) None = refl
    go (Some u) (Some v) = refl

-- What a list of a kind agrees with itself in.
self-joined : (i : Kind) → Some (pure_kind i) ≡ join (pure_kind i) (pure_kind i)
self-joined Kind.Any = refl
self-joined Kind.Bool = refl
self-joined Kind.Int = refl

-- Operators ask only with what two operands agree.
by-joined : (o : POp2) (a b c d : Ty) → join a b ≡ join c d
    → is_some (type_of_binary (pure_op2 o) a b) ≡ is_some (type_of_binary (pure_op2 o) c d)
by-joined POp2.Pow a b c d e = ap (λ o. is_some (and_then o (λ t. fit t int_ty int_ty))) e
by-joined POp2.Times a b c d e = ap (λ o. is_some (and_then o (λ t. fit t int_ty int_ty))) e
by-joined POp2.Div a b c d e = ap (λ o. is_some (and_then o (λ t. fit t int_ty int_ty))) e
by-joined POp2.Mod a b c d e = ap (λ o. is_some (and_then o (λ t. fit t int_ty int_ty))) e
by-joined POp2.Plus a b c d e = ap (λ o. is_some (and_then o (λ t. fit t int_ty int_ty))) e
by-joined POp2.Minus a b c d e = ap (λ o. is_some (and_then o subtracted)) e
by-joined POp2.Eq a b c d e = ap (λ o. is_some (option_map (λ v. bool_ty) o)) e
by-joined POp2.Ne a b c d e = ap (λ o. is_some (option_map (λ v. bool_ty) o)) e
by-joined POp2.Lt a b c d e = ap (λ o. is_some (and_then o compared)) e
by-joined POp2.Le a b c d e = ap (λ o. is_some (and_then o compared)) e
by-joined POp2.Gt a b c d e = ap (λ o. is_some (and_then o compared)) e
by-joined POp2.Ge a b c d e = ap (λ o. is_some (and_then o compared)) e
by-joined POp2.LexLt a b c d e = ap (λ o. is_some (and_then o lex_compared)) e
by-joined POp2.LexLe a b c d e = ap (λ o. is_some (and_then o lex_compared)) e
by-joined POp2.LexGt a b c d e = ap (λ o. is_some (and_then o lex_compared)) e
by-joined POp2.LexGe a b c d e = ap (λ o. is_some (and_then o lex_compared)) e
by-joined POp2.And a b c d e = ap (λ o. is_some (and_then o (λ t. fit t bool_ty bool_ty))) e
by-joined POp2.Or a b c d e = ap (λ o. is_some (and_then o (λ t. fit t bool_ty bool_ty))) e
by-joined POp2.Implies a b c d e = ap (λ o. is_some (and_then o (λ t. fit t bool_ty bool_ty))) e
by-joined POp2.Iff a b c d e = ap (λ o. is_some (and_then o (λ t. fit t bool_ty bool_ty))) e

-- Two lists that agree.
pub lists_taken : (o : POp2) (i j e f u v : Kind) (d : Bool) → Some (pure_kind u) ≡ join (pure_kind i) (pure_kind j)
    → Some (pure_kind v) ≡ join (pure_kind e) (pure_kind f)
    → ((i e : Kind) → is_some (type_of_binary (pure_op2 o) (compound2 a_matrix (pure_kind i) (pure_kind e))
    (compound2 a_matrix (pure_kind i) (pure_kind e))) ≡ d)
    → d ≡ is_some (type_of_op (binary (pure_op2 o))
    (compound2 a_matrix (pure_kind i) (pure_kind e) ∷ compound2 a_matrix (pure_kind j) (pure_kind f) ∷ []))
lists_taken o i j e f u v d g h k =
    sym (k u v)
    ∙ by-joined o (compound2 a_matrix (pure_kind u) (pure_kind v)) (compound2 a_matrix (pure_kind u) (pure_kind v))
    (compound2 a_matrix (pure_kind i) (pure_kind e)) (compound2 a_matrix (pure_kind j) (pure_kind f))
    (lists-joined u u v v (Some u) (Some v) (self-joined u) (self-joined v) ∙ sym (lists-joined i j e f (Some u) (Some v) g h))

unjoined : (o : POp2) (a b : Ty) → join a b ≡ None → is_some (type_of_binary (pure_op2 o) a b) ≡ false
unjoined POp2.Pow a b e = ap (λ o. is_some (and_then o (λ t. fit t int_ty int_ty))) e
unjoined POp2.Times a b e = ap (λ o. is_some (and_then o (λ t. fit t int_ty int_ty))) e
unjoined POp2.Div a b e = ap (λ o. is_some (and_then o (λ t. fit t int_ty int_ty))) e
unjoined POp2.Mod a b e = ap (λ o. is_some (and_then o (λ t. fit t int_ty int_ty))) e
unjoined POp2.Plus a b e = ap (λ o. is_some (and_then o (λ t. fit t int_ty int_ty))) e
unjoined POp2.Minus a b e = ap (λ o. is_some (and_then o subtracted)) e
unjoined POp2.Eq a b e = ap (λ o. is_some (option_map (λ v. bool_ty) o)) e
unjoined POp2.Ne a b e = ap (λ o. is_some (option_map (λ v. bool_ty) o)) e
unjoined POp2.Lt a b e = ap (λ o. is_some (and_then o compared)) e
unjoined POp2.Le a b e = ap (λ o. is_some (and_then o compared)) e
unjoined POp2.Gt a b e = ap (λ o. is_some (and_then o compared)) e
unjoined POp2.Ge a b e = ap (λ o. is_some (and_then o compared)) e
unjoined POp2.LexLt a b e = ap (λ o. is_some (and_then o lex_compared)) e
unjoined POp2.LexLe a b e = ap (λ o. is_some (and_then o lex_compared)) e
unjoined POp2.LexGt a b e = ap (λ o. is_some (and_then o lex_compared)) e
unjoined POp2.LexGe a b e = ap (λ o. is_some (and_then o lex_compared)) e
unjoined POp2.And a b e = ap (λ o. is_some (and_then o (λ t. fit t bool_ty bool_ty))) e
unjoined POp2.Or a b e = ap (λ o. is_some (and_then o (λ t. fit t bool_ty bool_ty))) e
unjoined POp2.Implies a b e = ap (λ o. is_some (and_then o (λ t. fit t bool_ty bool_ty))) e
unjoined POp2.Iff a b e = ap (λ o. is_some (and_then o (λ t. fit t bool_ty bool_ty))) e

-- Two that don't.
pub lists_apart : (o : POp2) (i j e f : Kind) (p q : Option Kind) → option_map pure_kind p ≡ join (pure_kind i) (pure_kind j)
    → option_map pure_kind q ≡ join (pure_kind e) (pure_kind f)
    → (is_some p && is_some q) ≡ false
    → false ≡ is_some (type_of_op (binary (pure_op2 o))
    (compound2 a_matrix (pure_kind i) (pure_kind e) ∷ compound2 a_matrix (pure_kind j) (pure_kind f) ∷ []))
lists_apart o i j e f p q g h k =
    sym (unjoined o (compound2 a_matrix (pure_kind i) (pure_kind e)) (compound2 a_matrix (pure_kind j) (pure_kind f))
    (lists-joined i j e f p q g h ∙ go p q k))
  where
    go : (p q : Option Kind) → (is_some p && is_some q) ≡ false
        → and_then p (λ u. option_map (λ v. compound2 a_matrix (pure_kind u) (pure_kind v)) q) ≡ None
    go None q k = refl
    go (Some u) None k = refl
    go (Some u) (Some v) k = cc
