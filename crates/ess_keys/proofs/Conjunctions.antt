-- Long conjunctions, as code finds and lists them.
use Rattle.std.proofs.Common.{◌≡◌, refl, sym, ap, ◌∙◌, suc, nat_le, Bool, true, false, List, [], ◌∷◌, ◌++◌, map, length, Option}
use Rattle.std.proofs.Common.{Some, None}
use Rattle.ess_semantics.specs.declared.words.Op2.{Op2}
use Rattle.ess_semantics.specs.declared.words.Fun.{Fun}
use Rattle.ess_semantics.specs.Lists.{and_then, or_default}
use Rattle.ess_semantics.specs.Names.{Names}
use Rattle.ess_semantics.specs.Trees.{binary, word, matrix_literal, Ex, Exs, node_ex, no_exs, more_exs, ex2, fun1}
use Rattle.ess_semantics.specs.Constants.{operand_count}
use Rattle.ess_core.specs.TreeViews.{exs_of}
use Rattle.ess_core_nodes.specs.NodeViews.{pure_node, pure_nodes}
use Rattle.ess_core_nodes.specs.declared.nodes.Node.{Node}
use Rattle.ess_guard_laws.specs.Origins.{Origin}
use Rattle.ess_guard_forms.specs.PartForms.{both_operands}
use Rattle.ess_keys_laws.specs.Chains.{links, chain, has_many, conjuncts_of}
use Rattle.ess_keys_laws.specs.Keyed.{one_operand, fold_left}
use Rattle.ess_keys.specs.Steps.{trees_before, list_items, items_under_and, sides}
use Rattle.ess_keys.proofs.Conditions.{one_more, the_last}

-- Something isn't nothing.
pub no-item : {A : Type 0} {x : A} → Some x ≡ None → ⊥
no-item h = cc

-- What is there is one.
pub in-some : (x y : Exs) → Some x ≡ Some y → x ≡ y
in-some x y h = ap (λ o. or_default o x) h

-- The first and the second of a pair that may be there.
abbrev pub first_of : Ex → Option (Ex × Ex) → Ex
first_of a None = a
first_of a (Some p) = p.0

abbrev pub second_of : Ex → Option (Ex × Ex) → Ex
second_of b None = b
second_of b (Some p) = p.1

-- Nothing isn't something.
pub no-none : {A : Type 0} {x : A} → None ≡ Some x → ⊥
no-none h = cc

-- ---- many conjuncts

count-exs : (xs : List Ex) → operand_count (exs_of xs) ≡ length xs
count-exs [] = refl
count-exs (x ∷ xs) = ap suc (count-exs xs)

as-long : (ns : List Node) → length (map pure_node ns) ≡ length ns
as-long [] = refl
as-long (n ∷ ns) = ap suc (as-long ns)

list-many : (fs es : Exs) → Some es ≡ and_then (one_operand fs) list_items
    → nat_le 16 (operand_count es) ≡ has_many (node_ex true (word Fun.And) fs)
list-many no_exs es h = absurd (no-item h)
list-many (more_exs (node_ex false matrix_literal gs) no_exs) es h = ap (λ x. nat_le 16 (operand_count x)) (in-some es gs h)
list-many (more_exs a no_exs) es h = absurd (no-item h)
list-many (more_exs a (more_exs b cs)) es h = absurd (no-item h)

listed : (e : Ex) (es : Exs) → Some es ≡ items_under_and e → nat_le 16 (operand_count es) ≡ has_many e
listed (node_ex true (word Fun.And) fs) es h = list-many fs es h
listed e es h = absurd (no-item h)

-- Those of a list.
pub many_items : (e : Ex) (ns : List Node) → Some (pure_nodes ns) ≡ items_under_and e → nat_le 16 (length ns) ≡ has_many e
many_items e ns h = ap (nat_le 16) (sym (count-exs (map pure_node ns) ∙ as-long ns)) ∙ listed e (pure_nodes ns) h

-- Those of a chain.
pub many_links : (e : Ex) (b : Bool) → None ≡ items_under_and e → b ≡ nat_le 14 (links e) → b ≡ has_many e
many_links (fun1 true Fun.And (node_ex false matrix_literal fs)) b h q = absurd (no-none h)
many_links e b h q = q

-- ---- behind others

before-all : (xs ys : List Ex) → exs_of (xs ++ ys) ≡ trees_before xs (exs_of ys)
before-all [] ys = refl
before-all (x ∷ xs) ys = ap (more_exs x) (before-all xs ys)

list-conjuncts : (fs es : Exs) → Some es ≡ and_then (one_operand fs) list_items → es ≡ conjuncts_of (node_ex true (word Fun.And) fs)
list-conjuncts no_exs es h = absurd (no-item h)
list-conjuncts (more_exs (node_ex false matrix_literal gs) no_exs) es h = in-some es gs h
list-conjuncts (more_exs a no_exs) es h = absurd (no-item h)
list-conjuncts (more_exs a (more_exs b cs)) es h = absurd (no-item h)

conjuncts-listed : (e : Ex) (es : Exs) → Some es ≡ items_under_and e → es ≡ conjuncts_of e
conjuncts-listed (node_ex true (word Fun.And) fs) es h = list-conjuncts fs es h
conjuncts-listed e es h = absurd (no-item h)

-- The items of a list.
pub items_behind : (e : Ex) (ns old new : List Node) → Some (pure_nodes ns) ≡ items_under_and e
    → map pure_node new ≡ map pure_node old ++ map pure_node ns → pure_nodes new ≡ trees_before (map pure_node old) (conjuncts_of e)
items_behind e ns old new h q =
    ap exs_of q ∙ before-all (map pure_node old) (map pure_node ns)
    ∙ ap (trees_before (map pure_node old)) (conjuncts-listed e (pure_nodes ns) h)

-- The conjuncts of a chain.
pub chain_behind : (e : Ex) → None ≡ items_under_and e → chain e ≡ conjuncts_of e
chain_behind (fun1 true Fun.And (node_ex false matrix_literal fs)) h = absurd (no-none h)
chain_behind e h = refl

chain-one : (e : Ex) → None ≡ sides e → more_exs e no_exs ≡ chain e
chain-one (ex2 true Op2.And a b) h = absurd (no-none h)
chain-one e h = refl

chain-two : (e a b : Ex) → Some (a, b) ≡ sides e → more_exs a (chain b) ≡ chain e
chain-two (ex2 true Op2.And x y) a b h =
    ap (λ z. more_exs z (chain b)) (ap (first_of a) h) ∙ ap (λ z. more_exs x (chain z)) (ap (second_of b) h)
chain-two e a b h = absurd (no-item h)

-- What is no conjunction is one conjunct.
pub unchained : (old : List Ex) (new : List Node) (e : Ex) → None ≡ sides e → map pure_node new ≡ old ++ e ∷ []
    → pure_nodes new ≡ trees_before old (chain e)
unchained old new e h q = the_last old new e q ∙ ap (trees_before old) (chain-one e h)

-- The conjuncts of the second side stand behind the first side.
pub chained : (old : List Ex) (one new : List Node) (a b e : Ex) → Some (a, b) ≡ sides e → map pure_node one ≡ old ++ a ∷ []
    → pure_nodes new ≡ trees_before (map pure_node one) (chain b) → pure_nodes new ≡ trees_before old (chain e)
chained old one new a b e s q h = h ∙ one_more old (map pure_node one) a (chain b) q ∙ ap (trees_before old) (chain-two e a b s)

-- One before others.
pub one_before : (x : Ex) (old : List Ex) (es : Exs) → old ≡ x ∷ [] → trees_before old es ≡ more_exs x es
one_before x old es q = ap (λ l. trees_before l es) q

-- Nothing is left of a `/\` that hasn't two operands.
pub no_conjunction : (k : Names Origin) (b : Bool) (es : Exs) → None ≡ both_operands es → None ≡ fold_left k b (binary Op2.And) es
no_conjunction k false es h = refl
no_conjunction k true no_exs h = refl
no_conjunction k true (more_exs a no_exs) h = refl
no_conjunction k true (more_exs a (more_exs b no_exs)) h = let q : None ≡ Some (a, b) = h in cc
no_conjunction k true (more_exs a (more_exs b (more_exs c es))) h = refl
