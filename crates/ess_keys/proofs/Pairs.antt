-- Operators that have no two operands, conjunctions that have, and lists under `and`.
use Rattle.std.proofs.Common.{◌≡◌, refl, sym, ap, ◌∙◌, ℕ, ◌+◌, ◌<◌, ◌≤◌, Bool, true, false, List, [], ◌∷◌, ◌++◌, map, length, drop, get_or, Some, None}
use Rattle.std.proofs.lemmas.List.{map-append, drop_more, drop_all}
use Rattle.ess_semantics.specs.declared.words.Op2.{Op2}
use Rattle.ess_semantics.specs.declared.words.Fun.{Fun}
use Rattle.ess_semantics.specs.Lists.{and_then}
use Rattle.ess_semantics.specs.Values.{Text}
use Rattle.ess_semantics.specs.Names.{Names}
use Rattle.ess_semantics.specs.Trees.{binary, word, matrix_literal, Ex, Exs, node_ex, no_exs, more_exs, ex2, fun1}
use Rattle.ess_core.specs.TreeViews.{Item, cond_item}
use Rattle.ess_guard_laws.specs.Origins.{Origin}
use Rattle.ess_guard_laws.specs.Conditions.{unless}
use Rattle.ess_guard_forms.specs.PartForms.{both_operands}
use Rattle.ess_keys_laws.specs.KeyForms.{key_in, is_settled}
use Rattle.ess_core_nodes.specs.NodeViews.{pure_node, pure_nodes, pure_gen}
use Rattle.ess_core_nodes.specs.declared.nodes.Node.{Node}
use Rattle.ess_core_nodes.specs.declared.nodes.Gen.{Gen}
use Rattle.ess_keys_laws.specs.Keyed.{one_operand, conjuncts, all_conjuncts}
use Rattle.ess_keys.specs.Steps.{list_items, items_under_and, sides}
use Rattle.ess_keys.proofs.Conjunctions.{no-item, no-none, in-some, first_of, second_of}

-- No equation of two holds by its form.
pub not_settled : (k : Names Origin) (es : Exs) → None ≡ both_operands es → false ≡ is_settled k (node_ex true (binary Op2.Eq) es)
not_settled k no_exs h = refl
not_settled k (more_exs a no_exs) h = refl
not_settled k (more_exs a (more_exs b no_exs)) h = let q : None ≡ Some (a, b) = h in cc
not_settled k (more_exs a (more_exs b (more_exs c es))) h = refl

-- No operator of two says which key a name equals.
pub no_key : (j : Text) (o : Op2) (es : Exs) → None ≡ both_operands es → None ≡ key_in j (node_ex true (binary o) es)
no_key j Op2.Eq no_exs h = refl
no_key j Op2.Eq (more_exs a no_exs) h = refl
no_key j Op2.Eq (more_exs a (more_exs b no_exs)) h = let q : None ≡ Some (a, b) = h in cc
no_key j Op2.Eq (more_exs a (more_exs b (more_exs c es))) h = refl
no_key j Op2.And no_exs h = refl
no_key j Op2.And (more_exs a no_exs) h = refl
no_key j Op2.And (more_exs a (more_exs b no_exs)) h = let q : None ≡ Some (a, b) = h in cc
no_key j Op2.And (more_exs a (more_exs b (more_exs c es))) h = refl
no_key j o no_exs h = refl
no_key j o (more_exs a no_exs) h = refl
no_key j o (more_exs a (more_exs b no_exs)) h = let q : None ≡ Some (a, b) = h in cc
no_key j o (more_exs a (more_exs b (more_exs c es))) h = refl

-- ---- conjunctions

list-taken : (k : Names Origin) (fs es : Exs) → Some es ≡ and_then (one_operand fs) list_items
    → all_conjuncts k es ≡ conjuncts k (node_ex true (word Fun.And) fs)
list-taken k no_exs es h = absurd (no-item h)
list-taken k (more_exs (node_ex false matrix_literal gs) no_exs) es h = ap (all_conjuncts k) (in-some es gs h)
list-taken k (more_exs a no_exs) es h = absurd (no-item h)
list-taken k (more_exs a (more_exs b cs)) es h = absurd (no-item h)

-- The conjuncts of a list under `and` are those of its items.
pub list_conjuncts : (k : Names Origin) (e : Ex) (es : Exs) → Some es ≡ items_under_and e → all_conjuncts k es ≡ conjuncts k e
list_conjuncts k (node_ex true (word Fun.And) fs) es h = list-taken k fs es h
list_conjuncts k e es h = absurd (no-item h)

sides-taken : (k : Names Origin) (e a b : Ex) → Some (a, b) ≡ sides e → conjuncts k a ++ conjuncts k b ≡ conjuncts k e
sides-taken k (ex2 true Op2.And x y) a b h =
    ap (λ z. conjuncts k z ++ conjuncts k b) (ap (first_of a) h) ∙ ap (λ z. conjuncts k x ++ conjuncts k z) (ap (second_of b) h)
sides-taken k e a b h = absurd (no-item h)

-- Those of both sides.
pub two_conjuncts : (k : Names Origin) (e a b : Ex) (xs ys : List Item) → Some (a, b) ≡ sides e → xs ≡ map cond_item (conjuncts k a)
    → ys ≡ map cond_item (conjuncts k b) → xs ++ ys ≡ map cond_item (conjuncts k e)
two_conjuncts k e a b xs ys h p q =
    ap (λ l. l ++ ys) p ∙ ap (λ l. map cond_item (conjuncts k a) ++ l) q ∙ sym (map-append cond_item (conjuncts k a) (conjuncts k b))
    ∙ ap (map cond_item) (sides-taken k e a b h)

-- What is neither is one conjunct.
pub one_conjunct : (k : Names Origin) (e : Ex) → None ≡ items_under_and e → None ≡ sides e → unless (is_settled k e) e ≡ conjuncts k e
one_conjunct k (ex2 true Op2.And a b) h p = absurd (no-none p)
one_conjunct k (fun1 true Fun.And (node_ex false matrix_literal es)) h p = absurd (no-none h)
one_conjunct k e h p = refl

append-twice : {A : Type 0} (xs ys zs : List A) → (xs ++ ys) ++ zs ≡ xs ++ (ys ++ zs)
append-twice [] ys zs = refl
append-twice (x ∷ xs) ys zs = ap (λ l. x ∷ l) (append-twice xs ys zs)

-- The conjuncts of several conditions, with one more.
pub more_conjuncts : (k : Names Origin) (ns : List Node) (old new more : List Gen) (w : List Item) (i : ℕ) (x : Node) → i < length ns
    → x ≡ get_or ns i x → map pure_gen more ≡ map cond_item (conjuncts k (pure_node x)) → new ≡ old ++ more
    → map pure_gen old ++ map cond_item (all_conjuncts k (pure_nodes (drop i ns))) ≡ w
    → map pure_gen new ++ map cond_item (all_conjuncts k (pure_nodes (drop (i + 1) ns))) ≡ w
more_conjuncts k ns old new more w i x lt is m n h =
    ap (λ l. map pure_gen l ++ rest) n ∙ ap (λ l. l ++ rest) (map-append pure_gen old more ∙ ap (λ l. map pure_gen old ++ l) m)
    ∙ append-twice (map pure_gen old) (map cond_item (conjuncts k (pure_node x))) rest
    ∙ ap (λ l. map pure_gen old ++ l)
    (sym (map-append cond_item (conjuncts k (pure_node x)) (all_conjuncts k (pure_nodes (drop (i + 1) ns)))))
    ∙ sym (ap (λ l. map pure_gen old ++ map cond_item (all_conjuncts k (pure_nodes l)))
    (drop_more ns i x lt ∙ ap (λ z. z ∷ drop (i + 1) ns) (sym is))) ∙ h
  where
    rest : List Item
    rest = map cond_item (all_conjuncts k (pure_nodes (drop (i + 1) ns)))

-- All of them.
pub all_the_conjuncts : (k : Names Origin) (ns : List Node) (all : List Gen) (w : List Item) (i : ℕ) → length ns ≤ i
    → map pure_gen all ++ map cond_item (all_conjuncts k (pure_nodes (drop i ns))) ≡ w → map pure_gen all ≡ w
all_the_conjuncts k ns all w i le h =
    sym (append-nothing (map pure_gen all))
    ∙ sym (ap (λ l. map pure_gen all ++ map cond_item (all_conjuncts k (pure_nodes l))) (drop_all i ns le)) ∙ h
  where
    append-nothing : (xs : List Item) → xs ++ [] ≡ xs
    append-nothing [] = refl
    append-nothing (x ∷ xs) = ap (λ l. x ∷ l) (append-nothing xs)
