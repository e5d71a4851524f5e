-- Operands of connectives have the type bool or that of an empty literal's members, and so have conditions.
use Rattle.std.proofs.Common.{◌≡◌, refl, sym, ap, ◌∙◌, Bool, true, false, if◌then◌else◌, List, [], ◌∷◌, Option, Some, None, option_map}
use Rattle.std.specs.Prelude.{is_some}
use Rattle.ess_semantics.specs.declared.words.Op1.{Op1}
use Rattle.ess_semantics.specs.declared.words.Op2.{Op2}
use Rattle.ess_semantics.specs.Lists.{and_then, all_some, when}
use Rattle.ess_semantics.specs.Values.{Text, Kind}
use Rattle.ess_semantics.specs.Order.{same_text, same_kind}
use Rattle.ess_semantics.specs.Names.{Names}
use Rattle.ess_semantics.specs.Trees.{Op, unary, binary, Ex, Exs, number_ex, truth_ex, name_ex, node_ex, matrix_ex, comp_ex, cell_ex, seen_ex, no_exs, more_exs, Dom, bool_dom, int_dom, name_dom, tuple_dom, record_dom, matrix_dom, set_dom, mset_dom, function_dom, relation_dom, partition_dom, no_doms, more_doms}
use Rattle.ess_semantics.specs.Types.{Ty, Tys, any_ty, bool_ty, int_ty, named_ty, compound, is_open, is_bool, fit, join, joins, type_of_dom}
use Rattle.ess_semantics.specs.OperatorTypes.{type_of_binary, type_of_op}
use Rattle.ess_semantics.specs.Typing.{statics, type_of_node, type_of, types_of}
use Rattle.ess_guard_laws.specs.Guard.{connects}
use Rattle.ess_guard_laws.specs.Covered.{asks_nothing, AskNothing}
use Rattle.ess_guard_types_laws.specs.HasTypes.{agrees, fits_mark, HasTypes, HaveTypes}
use Rattle.ess_guard_covered_laws.specs.FormsTold.{is_told_truth, AreToldTruths}

-- Whether the type is bool, or that of an empty literal's members.
abbrev pub is_truth_ty : Option Ty → Bool
is_truth_ty (Some bool_ty) = true
is_truth_ty (Some any_ty) = true
is_truth_ty o = false

-- What agrees with bool is so.
pub agrees-truth : (o : Option Ty) → agrees o bool_ty ≡ true → is_truth_ty o ≡ true
agrees-truth None h = cc
agrees-truth (Some any_ty) h = refl
agrees-truth (Some bool_ty) h = refl
agrees-truth (Some int_ty) h = cc
agrees-truth (Some (named_ty a)) h = cc
agrees-truth (Some (compound k ts)) h = cc

-- ---- two operands

-- What two that agree with bool agree with.
abbrev both_bool : Ty → Ty → Option Ty
both_bool a b = and_then (join a b) (λ t. fit t bool_ty bool_ty)

no-named : (c : Bool) (a : Text) → is_some (and_then (when c (named_ty a)) (λ t. fit t bool_ty bool_ty)) ≡ false
no-named true a = refl
no-named false a = refl

no-compound : (c : Bool) (k : Kind) (o : Option Tys) →
    is_some (and_then (if c then option_map (compound k) o else None) (λ t. fit t bool_ty bool_ty)) ≡ false
no-compound true k None = refl
no-compound true k (Some ts) = refl
no-compound false k o = refl

no-kinds : (k l : Kind) (ts us : Tys) → is_some (both_bool (compound k ts) (compound l us)) ≡ false
no-kinds k l ts us = no-compound (same_kind k l) k (if is_open k ts then Some us else (if is_open k us then Some ts else joins ts us))

both-truth : (a b : Ty) → is_some (both_bool a b) ≡ true → (is_truth_ty (Some a) ≡ true) × (is_truth_ty (Some b) ≡ true)
both-truth any_ty any_ty h = (refl, refl)
both-truth any_ty bool_ty h = (refl, refl)
both-truth any_ty int_ty h = cc
both-truth any_ty (named_ty b) h = cc
both-truth any_ty (compound l us) h = cc
both-truth bool_ty any_ty h = (refl, refl)
both-truth bool_ty bool_ty h = (refl, refl)
both-truth bool_ty int_ty h = cc
both-truth bool_ty (named_ty b) h = cc
both-truth bool_ty (compound l us) h = cc
both-truth int_ty any_ty h = cc
both-truth int_ty bool_ty h = cc
both-truth int_ty int_ty h = cc
both-truth int_ty (named_ty b) h = cc
both-truth int_ty (compound l us) h = cc
both-truth (named_ty a) any_ty h = cc
both-truth (named_ty a) bool_ty h = cc
both-truth (named_ty a) int_ty h = cc
both-truth (named_ty a) (named_ty b) h = let r : false ≡ true = sym (no-named (same_text a b) a) ∙ h in cc
both-truth (named_ty a) (compound l us) h = cc
both-truth (compound k ts) any_ty h = cc
both-truth (compound k ts) bool_ty h = cc
both-truth (compound k ts) int_ty h = cc
both-truth (compound k ts) (named_ty b) h = cc
both-truth (compound k ts) (compound l us) h = let r : false ≡ true = sym (no-kinds k l ts us) ∙ h in cc

-- ---- operands

-- Each operand has such a type.
abbrev pub TruthTypes : Exs → Names Ty → Type 0
TruthTypes no_exs g = Unit {0}
TruthTypes (more_exs e es) g = (is_truth_ty (type_of e g) ≡ true) × TruthTypes es g

-- No operator has a type at more operands.
too-many : (op : Op) → ((t u v : Ty) (ts : List Ty) → type_of_op op (t ∷ u ∷ v ∷ ts) ≡ None) → (o p q : Option Ty) (r : Option (List Ty)) →
    is_some (and_then (and_then o (λ x. option_map (λ xs. x ∷ xs) (and_then p (λ x. option_map (λ xs. x ∷ xs)
    (and_then q (λ x. option_map (λ xs. x ∷ xs) r)))))) (type_of_op op)) ≡ false
too-many op n None p q r = refl
too-many op n (Some t) None q r = refl
too-many op n (Some t) (Some u) None r = refl
too-many op n (Some t) (Some u) (Some v) None = refl
too-many op n (Some t) (Some u) (Some v) (Some ts) = ap is_some (n t u v ts)

-- Nor at two, where it takes one.
not-two : (o p : Option Ty) → is_some (and_then (all_some (o ∷ p ∷ [])) (type_of_op (unary Op1.Not))) ≡ false
not-two None p = refl
not-two (Some t) None = refl
not-two (Some t) (Some u) = refl

-- Nor at one, where it takes two.
not-one : (o : Op2) (p : Option Ty) → is_some (and_then (all_some (p ∷ [])) (type_of_op (binary o))) ≡ false
not-one o None = refl
not-one o (Some t) = refl

negated : (o : Option Ty) → is_some (and_then (all_some (o ∷ [])) (type_of_op (unary Op1.Not))) ≡ true → is_truth_ty o ≡ true
negated None h = cc
negated (Some any_ty) h = refl
negated (Some bool_ty) h = refl
negated (Some int_ty) h = cc
negated (Some (named_ty a)) h = cc
negated (Some (compound k ts)) h = cc

connected : (o : Op2) → ((a b : Ty) → type_of_binary o a b ≡ both_bool a b) → (p q : Option Ty) →
    is_some (and_then (all_some (p ∷ q ∷ [])) (type_of_op (binary o))) ≡ true → (is_truth_ty p ≡ true) × (is_truth_ty q ≡ true)
connected o e None q h = cc
connected o e (Some a) None h = cc
connected o e (Some a) (Some b) h = both-truth a b (ap is_some (sym (e a b)) ∙ h)

two-operands : (o : Op2) → ((a b : Ty) → type_of_binary o a b ≡ both_bool a b) → (es : Exs) (g : Names Ty) →
    is_some (and_then (all_some (types_of es g)) (type_of_op (binary o))) ≡ true → TruthTypes es g
two-operands o e no_exs g h = tt
two-operands o e (more_exs a no_exs) g h = let r : false ≡ true = sym (not-one o (type_of a g)) ∙ h in cc
two-operands o e (more_exs a (more_exs b no_exs)) g h = let r = connected o e (type_of a g) (type_of b g) h in (r.0, (r.1, tt))
two-operands o e (more_exs a (more_exs b (more_exs c es))) g h =
    let r : false ≡ true = sym (too-many (binary o) (λ t u v ts. refl) (type_of a g) (type_of b g) (type_of c g)
    (all_some (types_of es g))) ∙ h in cc

one-operand : (es : Exs) (g : Names Ty) → is_some (and_then (all_some (types_of es g)) (type_of_op (unary Op1.Not))) ≡ true →
    TruthTypes es g
one-operand no_exs g h = tt
one-operand (more_exs a no_exs) g h = (negated (type_of a g) h, tt)
one-operand (more_exs a (more_exs b no_exs)) g h = let r : false ≡ true = sym (not-two (type_of a g) (type_of b g)) ∙ h in cc
one-operand (more_exs a (more_exs b (more_exs c es))) g h =
    let r : false ≡ true = sym (too-many (unary Op1.Not) (λ t u v ts. refl) (type_of a g) (type_of b g) (type_of c g)
    (all_some (types_of es g))) ∙ h in cc

-- The operands of a connective that has a type.
pub operands-truth : (op : Op) (es : Exs) (g : Names Ty) → connects op ≡ true →
    is_some (type_of_node op (statics es) (types_of es g)) ≡ true → TruthTypes es g
operands-truth (unary Op1.Not) es g c h = one-operand es g h
operands-truth (binary Op2.And) es g c h = two-operands Op2.And (λ a b. refl) es g h
operands-truth (binary Op2.Or) es g c h = two-operands Op2.Or (λ a b. refl) es g h
operands-truth (binary Op2.Implies) es g c h = two-operands Op2.Implies (λ a b. refl) es g h
operands-truth (binary Op2.Iff) es g c h = two-operands Op2.Iff (λ a b. refl) es g h
operands-truth op es g c h = cc

-- ---- its own type

fitted : (o : Option Ty) → is_some (option_map (λ v. bool_ty) o) ≡ true → is_bool (option_map (λ v. bool_ty) o) ≡ true
fitted None h = h
fitted (Some t) h = refl

both-fitted : (o : Option Ty) → is_some (and_then o (λ t. fit t bool_ty bool_ty)) ≡ true →
    is_bool (and_then o (λ t. fit t bool_ty bool_ty)) ≡ true
both-fitted None h = h
both-fitted (Some t) h = fitted (join t bool_ty) h

not-bool : (ts : List Ty) → is_some (type_of_op (unary Op1.Not) ts) ≡ true → is_bool (type_of_op (unary Op1.Not) ts) ≡ true
not-bool [] h = cc
not-bool (t ∷ []) h = fitted (join t bool_ty) h
not-bool (t ∷ u ∷ ts) h = cc

two-bool : (o : Op2) → ((a b : Ty) → type_of_binary o a b ≡ both_bool a b) → (ts : List Ty) → is_some (type_of_op (binary o) ts) ≡ true →
    is_bool (type_of_op (binary o) ts) ≡ true
two-bool o e [] h = cc
two-bool o e (t ∷ []) h = cc
two-bool o e (t ∷ u ∷ []) h = ap is_bool (e t u) ∙ both-fitted (join t u) (ap is_some (sym (e t u)) ∙ h)
two-bool o e (t ∷ u ∷ v ∷ ts) h = cc

through : (o : Option (List Ty)) (f : List Ty → Option Ty) → ((ts : List Ty) → is_some (f ts) ≡ true → is_bool (f ts) ≡ true) →
    is_some (and_then o f) ≡ true → is_bool (and_then o f) ≡ true
through None f q h = h
through (Some ts) f q h = q ts h

-- A connective that has a type has the type bool.
pub connective-bool : (op : Op) (es : Exs) (g : Names Ty) → connects op ≡ true →
    is_some (type_of_node op (statics es) (types_of es g)) ≡ true → is_bool (type_of_node op (statics es) (types_of es g)) ≡ true
connective-bool (unary Op1.Not) es g c h = through (all_some (types_of es g)) _ not-bool h
connective-bool (binary Op2.And) es g c h = through (all_some (types_of es g)) _ (two-bool Op2.And (λ a b. refl)) h
connective-bool (binary Op2.Or) es g c h = through (all_some (types_of es g)) _ (two-bool Op2.Or (λ a b. refl)) h
connective-bool (binary Op2.Implies) es g c h = through (all_some (types_of es g)) _ (two-bool Op2.Implies (λ a b. refl)) h
connective-bool (binary Op2.Iff) es g c h = through (all_some (types_of es g)) _ (two-bool Op2.Iff (λ a b. refl)) h
connective-bool op es g c h = cc

-- ---- truth values

dom-truth : (d : Dom) → is_truth_ty (Some (type_of_dom d)) ≡ true → is_bool (Some (type_of_dom d)) ≡ true
dom-truth bool_dom t = refl
dom-truth (int_dom rs es) t = cc
dom-truth (name_dom a) t = cc
dom-truth (tuple_dom ds) t = cc
dom-truth (record_dom fs ds) t = cc
dom-truth (matrix_dom no_doms d) t = dom-truth d t
dom-truth (matrix_dom (more_doms i is) d) t = cc
dom-truth (set_dom ms es d) t = cc
dom-truth (mset_dom ms es d) t = cc
dom-truth (function_dom ms es d c) t = cc
dom-truth (relation_dom ms es ds) t = cc
dom-truth (partition_dom ms es d) t = cc

-- A node that fits its mark has a type.
pub fits-some : (b : Bool) (o : Option Ty) → fits_mark b o ≡ true → is_some o ≡ true
fits-some true None h = cc
fits-some true (Some t) h = refl
fits-some false o h = h

-- What has such a type and asks for nothing is told to be a truth value.
pub truth-told : (e : Ex) (g : Names Ty) → HasTypes e g → is_truth_ty (type_of e g) ≡ true → asks_nothing e ≡ true →
    is_told_truth e g ≡ true
truth-told (number_ex n) g h t a = cc
truth-told (truth_ex b) g h t a = refl
truth-told (name_ex x) g h t a = refl
truth-told (node_ex true op es) g h t a = h.0
truth-told (node_ex false op es) g h t a = connective-bool op es g a h.0
truth-told (matrix_ex es d) g h t a = cc
truth-told (comp_ex e gs) g h t a = cc
truth-told (cell_ex true n es) g h t a = refl
truth-told (cell_ex false n es) g h t a = cc
truth-told (seen_ex r d ns es) g h t a = dom-truth d t

-- So are operands of connectives.
truths-told : (es : Exs) (g : Names Ty) → HaveTypes es g → TruthTypes es g → AskNothing true es → AreToldTruths true es g
truths-told no_exs g h t a = tt
truths-told (more_exs e es) g h t a = (truth-told e g h.0 t.0 a.0, truths-told es g h.1 t.1 a.1)

-- Of the operands of a node this is asked where it is a connective.
pub operands-told : (b : Bool) (op : Op) (es : Exs) (g : Names Ty) → fits_mark b (type_of (node_ex b op es) g) ≡ true → HaveTypes es g →
    AskNothing (connects op) es → AreToldTruths (connects op) es g
operands-told b op es g f h a = go (connects op) refl a
  where
    go : (c : Bool) → connects op ≡ c → AskNothing c es → AreToldTruths c es g
    go true e a = truths-told es g h (operands-truth op es g e (fits-some b (type_of (node_ex b op es) g) f)) a
    go false e a = tt
