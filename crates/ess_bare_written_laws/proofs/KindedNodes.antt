-- The kinds of nodes on operands whose kinds are those of marks.
use Rattle.std.proofs.Common.{◌≡◌, refl, ap, ◌∙◌, Bool, true, false, ◌||◌, if◌then◌else◌, List, [], ◌∷◌, map, Some, option_map}
use Rattle.ess_semantics.specs.declared.words.Op1.{Op1}
use Rattle.ess_semantics.specs.declared.words.Op2.{Op2}
use Rattle.ess_semantics.specs.declared.words.Fun.{Fun}
use Rattle.ess_semantics.specs.Lists.{and_then, all_some}
use Rattle.ess_semantics.specs.Values.{a_matrix}
use Rattle.ess_semantics.specs.Trees.{Op, unary, binary, word, matrix_literal, Ex, Exs, node_ex, comp_ex, no_exs, more_exs, Gens, ex1, ex2, fun1}
use Rattle.ess_semantics.specs.Types.{Ty, any_ty, bool_ty, int_ty, compound2}
use Rattle.ess_semantics.specs.OperatorTypes.{type_of_list, type_of_op}
use Rattle.ess_semantics.specs.Typing.{statics, type_of_node}
use Rattle.ess_semantics.specs.ModelMeaning.{Kinded, broken, is_nothing, some_nothing, kinded_node, cell_kind}
use Rattle.ess_flat_laws.specs.Flat.{OneOp, denied, negative, absolute, TwoOp, both, either, implied, agreeing, equal, unequal, below, at_most, above, at_least, sum, difference, product}
use Rattle.ess_bare_laws.specs.Bare.{LexSign, before, not_behind}
use Rattle.ess_bare_laws.specs.Lean.{FoldWord, of_all, of_some, of_sum}

-- A node on one operand, and on two, with their kinds.
abbrev pub on_one : Op → Kinded → Kinded
on_one op k = kinded_node op (more_exs k.0 no_exs) (k.1 ∷ [])
    (type_of_node op (statics (more_exs k.0 no_exs)) (map (λ t. Some t) (k.1 ∷ [])))

abbrev pub on_two : Op → Kinded → Kinded → Kinded
on_two op k l = kinded_node op (more_exs k.0 (more_exs l.0 no_exs)) (k.1 ∷ l.1 ∷ [])
    (type_of_node op (statics (more_exs k.0 (more_exs l.0 no_exs))) (map (λ t. Some t) (k.1 ∷ l.1 ∷ [])))

-- The kind of a list.
abbrev pub list_kind : Bool → Ty
list_kind m = compound2 a_matrix int_ty (cell_kind m)

-- One operand is something, or both are.
pub one-there : (k : Kinded) (t : Ty) (x : Ex) → is_nothing x ≡ false → (if is_nothing x || false then broken t else k) ≡ k
one-there k t x p = ap (λ c. if c || false then broken t else k) p

pub both-there : (k : Kinded) (t : Ty) (x y : Ex) → is_nothing x ≡ false → is_nothing y ≡ false →
    (if is_nothing x || (is_nothing y || false) then broken t else k) ≡ k
both-there k t x y p q = ap (λ c. if c || (is_nothing y || false) then broken t else k) p ∙ ap (λ c. if c || false then broken t else k) q

-- A node on one operand that is something has the kind of its mark.
pub one-kinded : {b m : Bool} {o : Op1} → OneOp b o m → (x : Ex) → is_nothing x ≡ false →
    on_one (unary o) (x, cell_kind m) ≡ (ex1 b o x, cell_kind b)
one-kinded denied x q = one-there (ex1 true Op1.Not x, bool_ty) bool_ty x q
one-kinded negative x q = one-there (ex1 false Op1.Minus x, int_ty) int_ty x q
one-kinded absolute x q = one-there (ex1 false Op1.Bar x, int_ty) int_ty x q

-- So has one on two.
pub two-kinded : {b m k : Bool} {o : Op2} → TwoOp b o m k → (x y : Ex) → is_nothing x ≡ false → is_nothing y ≡ false →
    on_two (binary o) (x, cell_kind m) (y, cell_kind k) ≡ (ex2 b o x y, cell_kind b)
two-kinded both x y p q = both-there (ex2 true Op2.And x y, bool_ty) bool_ty x y p q
two-kinded either x y p q = both-there (ex2 true Op2.Or x y, bool_ty) bool_ty x y p q
two-kinded implied x y p q = both-there (ex2 true Op2.Implies x y, bool_ty) bool_ty x y p q
two-kinded agreeing x y p q = both-there (ex2 true Op2.Iff x y, bool_ty) bool_ty x y p q
two-kinded (equal {m = true}) x y p q = both-there (ex2 true Op2.Eq x y, bool_ty) bool_ty x y p q
two-kinded (equal {m = false}) x y p q = both-there (ex2 true Op2.Eq x y, bool_ty) bool_ty x y p q
two-kinded (unequal {m = true}) x y p q = both-there (ex2 true Op2.Ne x y, bool_ty) bool_ty x y p q
two-kinded (unequal {m = false}) x y p q = both-there (ex2 true Op2.Ne x y, bool_ty) bool_ty x y p q
two-kinded (below {m = true}) x y p q = both-there (ex2 true Op2.Lt x y, bool_ty) bool_ty x y p q
two-kinded (below {m = false}) x y p q = both-there (ex2 true Op2.Lt x y, bool_ty) bool_ty x y p q
two-kinded (at_most {m = true}) x y p q = both-there (ex2 true Op2.Le x y, bool_ty) bool_ty x y p q
two-kinded (at_most {m = false}) x y p q = both-there (ex2 true Op2.Le x y, bool_ty) bool_ty x y p q
two-kinded (above {m = true}) x y p q = both-there (ex2 true Op2.Gt x y, bool_ty) bool_ty x y p q
two-kinded (above {m = false}) x y p q = both-there (ex2 true Op2.Gt x y, bool_ty) bool_ty x y p q
two-kinded (at_least {m = true}) x y p q = both-there (ex2 true Op2.Ge x y, bool_ty) bool_ty x y p q
two-kinded (at_least {m = false}) x y p q = both-there (ex2 true Op2.Ge x y, bool_ty) bool_ty x y p q
two-kinded sum x y p q = both-there (ex2 false Op2.Plus x y, int_ty) int_ty x y p q
two-kinded difference x y p q = both-there (ex2 false Op2.Minus x y, int_ty) int_ty x y p q
two-kinded product x y p q = both-there (ex2 false Op2.Times x y, int_ty) int_ty x y p q

-- Two lists beside a lex sign.
pub order-kinded : {o : Op2} → LexSign o → (m : Bool) (x y : Ex) → is_nothing x ≡ false → is_nothing y ≡ false →
    on_two (binary o) (x, list_kind m) (y, list_kind m) ≡ (ex2 true o x y, bool_ty)
order-kinded before true x y p q = both-there (ex2 true Op2.LexLt x y, bool_ty) bool_ty x y p q
order-kinded before false x y p q = both-there (ex2 true Op2.LexLt x y, bool_ty) bool_ty x y p q
order-kinded not_behind true x y p q = both-there (ex2 true Op2.LexLe x y, bool_ty) bool_ty x y p q
order-kinded not_behind false x y p q = both-there (ex2 true Op2.LexLe x y, bool_ty) bool_ty x y p q

-- A fold over a comprehension has the kind of its mark.
pub fold-kinded : {b : Bool} {f : Fun} → FoldWord b f → (e : Ex) (gs : Gens) →
    on_one (word f) (comp_ex e gs, list_kind b) ≡ (fun1 b f (comp_ex e gs), cell_kind b)
fold-kinded of_all e gs = refl
fold-kinded of_some e gs = refl
fold-kinded of_sum e gs = refl

-- A list of one item.
pub alone-kinded : (m : Bool) (e : Ex) → is_nothing e ≡ false →
    on_one matrix_literal (e, cell_kind m) ≡ (node_ex false matrix_literal (more_exs e no_exs), list_kind m)
alone-kinded true e q = one-there (node_ex false matrix_literal (more_exs e no_exs), list_kind true) any_ty e q
alone-kinded false e q = one-there (node_ex false matrix_literal (more_exs e no_exs), list_kind false) any_ty e q

-- So has a fold over a list of items.
pub items-kinded : {b : Bool} {f : Fun} → FoldWord b f → (es : Exs) →
    on_one (word f) (node_ex false matrix_literal es, list_kind b) ≡ (fun1 b f (node_ex false matrix_literal es), cell_kind b)
items-kinded of_all es = refl
items-kinded of_some es = refl
items-kinded of_sum es = refl

-- The kinds of items.
abbrev pub kinds_of : Exs → Bool → List Ty
kinds_of no_exs m = []
kinds_of (more_exs e es) m = cell_kind m ∷ kinds_of es m

all-there : (ts : List Ty) → all_some (map (λ t. Some t) ts) ≡ Some ts
all-there [] = refl
all-there (t ∷ ts) = ap (option_map (λ us. t ∷ us)) (all-there ts)

-- A list of items whose kinds are those of the mark.
pub list-kinded : (es : Exs) (m : Bool) (ks : Exs × List Ty) → ks ≡ (es, kinds_of es m) →
    type_of_list (kinds_of es m) ≡ Some (list_kind m) → some_nothing es ≡ false →
    kinded_node matrix_literal ks.0 ks.1 (type_of_node matrix_literal (statics ks.0) (map (λ t. Some t) ks.1)) ≡
    (node_ex false matrix_literal es, list_kind m)
list-kinded es m ks q j s =
    ap (λ ks. kinded_node matrix_literal ks.0 ks.1 (type_of_node matrix_literal (statics ks.0) (map (λ t. Some t) ks.1))) q
    ∙ ap (λ o. kinded_node matrix_literal es (kinds_of es m) (and_then o (type_of_op matrix_literal))) (all-there (kinds_of es m))
    ∙ ap (kinded_node matrix_literal es (kinds_of es m)) j
    ∙ ap (λ b. if b then broken any_ty else (node_ex false matrix_literal es, list_kind m)) s
