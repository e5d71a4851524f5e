-- Parts of type soundness: what gives truth values has the type bool, lists of members rise, and what generators collect has
-- the type of the body.
use Rattle.std.proofs.Common.{◌≡◌, refl, sym, ap, ◌∙◌, subst, suc, Bool, true, false, List, [], ◌∷◌, ◌++◌, length, Option, Some, None, option_map}
use Rattle.std.specs.List.{list_all}
use Rattle.std.proofs.lemmas.List.Folds.{list_all-append}
use Rattle.ess_semantics.specs.declared.words.Op1.{Op1}
use Rattle.ess_semantics.specs.declared.words.Op2.{Op2}
use Rattle.ess_semantics.specs.declared.words.Fun.{Fun}
use Rattle.ess_semantics.specs.Lists.{and_then, all_some, when, list_or_none}
use Rattle.ess_semantics.specs.Values.{a_matrix, a_set, a_mset, a_relation, a_partition, Value, number, truth, item, node, itself}
use Rattle.ess_semantics.specs.Collections.{rises}
use Rattle.ess_semantics.specs.Names.{Names}
use Rattle.ess_semantics.specs.Trees.{Op, unary, binary, word, is_truth_op2, is_truth_word, is_truth_op, Exs, no_exs, more_exs, Dom, bool_dom, int_dom, name_dom}
use Rattle.ess_semantics.specs.Types.{Ty, bool_ty, int_ty, is_bool, any_ty, named_ty, compound, no_tys, more_tys, compound1, join, fit}
use Rattle.ess_semantics.specs.OperatorTypes.{compared, lex_compared, included, member_ty, asked_ty, list_ty, type_of_binary, type_of_word1, type_of_word2, type_of_op}
use Rattle.ess_semantics.specs.Typing.{types_of}
use Rattle.ess_semantics.specs.Kinds.{is_atom}
use Rattle.ess_semantics.specs.Domains.{Domain, booleans, integers, members}
use Rattle.ess_semantics.specs.Atoms.{IsAtom}
use Rattle.ess_semantics.specs.Operators.{value_of_op, value_of_node}
use Rattle.ess_semantics.specs.Meaning.{Env, type_entry, collect, where_true, meanings, domain_of, spans_of}
use Rattle.ess_semantics.proofs.Tests.{and-left, and-right, and-both}
use Rattle.ess_semantics.proofs.MemberLists.{atom-listed}
use Rattle.ess_types_laws.proofs.Members.{named-atom}
use Rattle.ess_types_laws.proofs.Words.{fit-result}

-- ---- options

pub some-then : {A B : Type 0} (o : Option A) (f : A → Option B) (b : B) → and_then o f ≡ Some b → (a : A) × (o ≡ Some a) × (f a ≡ Some b)
some-then None f b e = cc
some-then (Some a) f b e = (a, refl, e)

pub some-map : {A B : Type 0} (o : Option A) (f : A → B) (b : B) → option_map f o ≡ Some b → (a : A) × (o ≡ Some a) × (f a ≡ b)
some-map None f b e = cc
some-map (Some a) f b e = let q : f a ≡ b = cc in (a, refl, q)

pub all-length : {A : Type 0} (os : List (Option A)) (xs : List A) → all_some os ≡ Some xs → length xs ≡ length os
all-length [] xs e = let q : [] ≡ xs = cc in ap length (sym q)
all-length (o ∷ os) xs e =
    let a = some-then o (λ x. option_map (λ ys. x ∷ ys) (all_some os)) xs e in
    let b = some-map (all_some os) (λ ys. a.0 ∷ ys) xs a.2 in ap length (sym b.2) ∙ ap suc (all-length os b.0 b.1)

pub meanings-length : (es : Exs) (g : Names Ty) (env : Env) → length (meanings es env) ≡ length (types_of es g)
meanings-length no_exs g env = refl
meanings-length (more_exs e es) g env = ap suc (meanings-length es g env)

-- ---- Booleans

-- The result of what gives truth values is bool.
given-bool : (o : Option Ty) (k : Ty → Option Ty) (t : Ty) → ((j u : Ty) → k j ≡ Some u → bool_ty ≡ u) → and_then o k ≡ Some t → bool_ty ≡ t
given-bool None k t f e = cc
given-bool (Some j) k t f e = f j t e

mapped-bool : (o : Option Ty) (t : Ty) → option_map (λ e. bool_ty) o ≡ Some t → bool_ty ≡ t
mapped-bool None t e = cc
mapped-bool (Some j) t e = cc

compared-bool : (j t : Ty) → compared j ≡ Some t → bool_ty ≡ t
compared-bool int_ty t e = cc
compared-bool bool_ty t e = cc
compared-bool (named_ty n) t e = cc
compared-bool any_ty t e = cc
compared-bool (compound k ts) t e = cc

lex-bool : (j t : Ty) → lex_compared j ≡ Some t → bool_ty ≡ t
lex-bool (compound a_matrix (more_tys i (more_tys e no_tys))) t q = compared-bool e t q
lex-bool any_ty t e = cc
lex-bool _ t e = cc

included-bool : (j t : Ty) → included j ≡ Some t → bool_ty ≡ t
included-bool (compound a_set ts) t e = cc
included-bool (compound a_mset ts) t e = cc
included-bool (compound a_relation ts) t e = cc
included-bool any_ty t e = cc
included-bool _ t e = cc

binary-bool : (o : Op2) (a b t : Ty) → is_truth_op2 o ≡ true → type_of_binary o a b ≡ Some t → bool_ty ≡ t
binary-bool Op2.Eq a b t n e = fit-result a b bool_ty t e
binary-bool Op2.Ne a b t n e = fit-result a b bool_ty t e
binary-bool Op2.Lt a b t n e = given-bool (join a b) compared t compared-bool e
binary-bool Op2.Le a b t n e = given-bool (join a b) compared t compared-bool e
binary-bool Op2.Gt a b t n e = given-bool (join a b) compared t compared-bool e
binary-bool Op2.Ge a b t n e = given-bool (join a b) compared t compared-bool e
binary-bool Op2.LexLt a b t n e = given-bool (join a b) lex_compared t lex-bool e
binary-bool Op2.LexLe a b t n e = given-bool (join a b) lex_compared t lex-bool e
binary-bool Op2.LexGt a b t n e = given-bool (join a b) lex_compared t lex-bool e
binary-bool Op2.LexGe a b t n e = given-bool (join a b) lex_compared t lex-bool e
binary-bool Op2.Member a b t n e = given-bool (asked_ty b) (λ m. fit a m bool_ty) t (λ j u q. fit-result a j bool_ty u q) e
binary-bool Op2.Subset a b t n e = given-bool (join a b) included t included-bool e
binary-bool Op2.SubsetEq a b t n e = given-bool (join a b) included t included-bool e
binary-bool Op2.Supset a b t n e = given-bool (join a b) included t included-bool e
binary-bool Op2.SupsetEq a b t n e = given-bool (join a b) included t included-bool e
binary-bool Op2.And a b t n e = given-bool (join a b) (λ j. fit j bool_ty bool_ty) t (λ j u q. fit-result j bool_ty bool_ty u q) e
binary-bool Op2.Or a b t n e = given-bool (join a b) (λ j. fit j bool_ty bool_ty) t (λ j u q. fit-result j bool_ty bool_ty u q) e
binary-bool Op2.Implies a b t n e = given-bool (join a b) (λ j. fit j bool_ty bool_ty) t (λ j u q. fit-result j bool_ty bool_ty u q) e
binary-bool Op2.Iff a b t n e = given-bool (join a b) (λ j. fit j bool_ty bool_ty) t (λ j u q. fit-result j bool_ty bool_ty u q) e
binary-bool _ a b t n e = cc

word1-bool : (f : Fun) (a t : Ty) → is_truth_word f ≡ true → type_of_word1 f a ≡ Some t → bool_ty ≡ t
word1-bool Fun.And a t n e = given-bool (list_ty a) (λ j. fit j bool_ty bool_ty) t (λ j u q. fit-result j bool_ty bool_ty u q) e
word1-bool Fun.Or a t n e = given-bool (list_ty a) (λ j. fit j bool_ty bool_ty) t (λ j u q. fit-result j bool_ty bool_ty u q) e
word1-bool Fun.AllDiff a t n e = mapped-bool (list_ty a) t e
word1-bool _ a t n e = cc

word2-bool : (f : Fun) (a b t : Ty) → is_truth_word f ≡ true → type_of_word2 f a b ≡ Some t → bool_ty ≡ t
word2-bool Fun.Together a b t n e =
    given-bool (join a (compound1 a_set any_ty)) (λ j. and_then (member_ty j) (λ m. fit b (compound1 a_partition m) bool_ty)) t
    (λ j u q. given-bool (member_ty j) (λ m. fit b (compound1 a_partition m) bool_ty) u
    (λ m w r. fit-result b (compound1 a_partition m) bool_ty w r) q) e
word2-bool _ a b t n e = cc

pub truth-bool : (op : Op) (ts : List Ty) (t : Ty) → is_truth_op op ≡ true → type_of_op op ts ≡ Some t → bool_ty ≡ t
truth-bool (unary Op1.Not) (a ∷ []) t n e = fit-result a bool_ty bool_ty t e
truth-bool (binary o) (a ∷ b ∷ []) t n e = binary-bool o a b t n e
truth-bool (word f) (a ∷ []) t n e = word1-bool f a t n e
truth-bool (word f) (a ∷ b ∷ []) t n e = word2-bool f a b t n e
truth-bool _ ts t n e = cc

-- What is no operator on truth values has its value where all operands have one.
pub plain-value : (op : Op) (os : List (Option Value)) → is_truth_op op ≡ false →
    value_of_node op os ≡ and_then (all_some os) (value_of_op op)
plain-value (unary Op1.Not) os n = cc
plain-value (binary Op2.And) os n = cc
plain-value (binary Op2.Or) os n = cc
plain-value (binary Op2.Implies) os n = cc
plain-value (binary Op2.Iff) os n = cc
plain-value _ os n = refl

pub is-bool : (t : Ty) → is_bool (Some t) ≡ true → bool_ty ≡ t
is-bool bool_ty e = refl
is-bool _ e = cc

-- ---- atoms, and the items of comprehensions

pub atom-domain : (env : Env) (d : Dom) (c : Domain) → is_atom d ≡ true → domain_of d env ≡ Some c → IsAtom c
atom-domain env bool_dom c a e = let q : booleans ≡ c = cc in subst IsAtom q tt
atom-domain env (int_dom rs es) c a e = let r = some-map (spans_of rs (meanings es env)) integers c e in subst IsAtom r.2 tt
atom-domain env (name_dom n) c a e = named-atom env env.positions n (type_entry env.types n) c e
atom-domain env _ c a e = cc

pub members-rise : (c : Domain) (ms : List Value) → IsAtom c → members c ≡ Some ms → rises itself ms ≡ true
members-rise c ms a e = subst (λ o. rises itself (list_or_none o) ≡ true) e (atom-listed c a).sorted

pub collect-fits : (h k : Value → Bool) (ms : List Value) (f : Value → Option (List Value)) (xs : List Value) → list_all h ms ≡ true →
    ((m : Value) → h m ≡ true → (ys : List Value) → f m ≡ Some ys → list_all k ys ≡ true) → collect ms f ≡ Some xs → list_all k xs ≡ true
collect-fits h k [] f xs a g e = let q : [] ≡ xs = cc in subst (λ l. list_all k l ≡ true) q refl
collect-fits h k (m ∷ ms) f xs a g e =
    let b = some-then (f m) (λ ys. option_map (λ zs. ys ++ zs) (collect ms f)) xs e in
    let c = some-map (collect ms f) (λ zs. b.0 ++ zs) xs b.2 in
    subst (λ l. list_all k l ≡ true) c.2
    (list_all-append k b.0 c.0
    ∙ and-both (list_all k b.0) (list_all k c.0) (g m (and-left (h m) (list_all h ms) a) b.0 b.1)
    (collect-fits h k ms f c.0 (and-right (h m) (list_all h ms) a) g c.1))

-- Behind a condition there are the items where it is true, or none.
pub where-fits : (k : Value → Bool) (o : Option Value) (x : Option (List Value)) (xs : List Value) →
    ((ys : List Value) → x ≡ Some ys → list_all k ys ≡ true) → where_true o (λ u. x) ≡ Some xs → list_all k xs ≡ true
where-fits k (Some (truth true)) x xs f e = f xs e
where-fits k (Some (truth false)) x xs f e = let q : [] ≡ xs = cc in subst (λ l. list_all k l ≡ true) q refl
where-fits k (Some (number n)) x xs f e = let q : [] ≡ xs = cc in subst (λ l. list_all k l ≡ true) q refl
where-fits k (Some (item t n)) x xs f e = let q : [] ≡ xs = cc in subst (λ l. list_all k l ≡ true) q refl
where-fits k (Some (node j vs)) x xs f e = let q : [] ≡ xs = cc in subst (λ l. list_all k l ≡ true) q refl
where-fits k None x xs f e = let q : [] ≡ xs = cc in subst (λ l. list_all k l ≡ true) q refl

pub when-some : (b : Bool) (x v : Value) → when b x ≡ Some v → (b ≡ true) × (x ≡ v)
when-some true x v e = (refl, cc)
when-some false x v e = cc
